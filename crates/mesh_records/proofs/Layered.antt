-- A layer is declared: each row has zeros behind, and all else is as before.
use Rattle.std.proofs.Common.{◌≡◌, ◌<◌, ◌≤◌, ◌+◌, ◌++◌, ℕ, ℤ, pos, Bool, true, false, List, [], ◌∷◌, Option, Some, None, is_some, length, map, get_or, refl, sym, ap, ◌∙◌, inl, inr, arith}
use Rattle.std.specs.Prelude.{IsTrue, position}
use Rattle.std.specs.List.{position_or_len, range_with_len}
use Rattle.std.specs.Option.{option_map, option_map_or, option_and_then}
use Rattle.std.proofs.lemmas.Bool.{cases_lt, lt-ltb}
use Rattle.std.proofs.lemmas.List.{length-append, length-map, length-replicate, get_or-map}
use Rattle.std.proofs.lemmas.List.Elements.{All-push}
use Rattle.std.proofs.lemmas.List.Quantifiers.{all_pairs_push}
use Rattle.std.proofs.lemmas.List.Sums.{fails_before_first, sum_by-cons}
use Rattle.std.proofs.lemmas.Simd.{map-map}
use Rattle.cust_data.specs.Faults.{refusal_of}
use Rattle.cust_data.specs.Layers.{Layer, LayerTable, AreLayers, IsTable, total, zeros, row_of, same_name, find_layer, is_layer_name, is_width, with_layer}
use Rattle.cust_data.specs.declared.rule.Rule.{Rule}
use Rattle.cust_data.proofs.Adding.{is_allowed}
use Rattle.cust_data.proofs.Tables.{total-with_layer, row_of-with_layer, length-with_layer}
use Rattle.raw_pool.specs.declared.pool.Slot.{Slot}
use Rattle.raw_pool.specs.Slots.{IsLive}
use Rattle.mesh_store.specs.Slots.{at}
use Rattle.mesh_store.specs.Stored.{Stored}
use Rattle.mesh_store.specs.Parts.{change_table}
use Rattle.mesh_store.specs.declared.cells.LoopCell.{LoopCell}
use Rattle.mesh_store.specs.declared.layers.Layers.{Layers}
use Rattle.mesh_store.specs.declared.layers.Part.TheVariants.{Vert, Edge, Loop, Face}
use Rattle.mesh_store.proofs.Places.{below}
use Rattle.mesh_cycles.specs.Found.{loops_in}
use Rattle.mesh_cycles.proofs.Around.{in_live}
use Rattle.mesh_cycles.proofs.Cells.{live_cell}
use Rattle.mesh_model.specs.Complex.{Complex, corner_sum, corners_of, layers_of}
use Rattle.mesh_model.specs.Declaring.{with_corner_zeros, with_declared}
use Rattle.mesh_model.specs.Table.{changed}
use Rattle.mesh_model.specs.declared.layer_decl.LayerDecl.{LayerDecl}
use Rattle.mesh_model.specs.declared.names.Kind.{Kind}
use Rattle.mesh_model.specs.declared.names.Kind.TheVariants.{Verts, Edges, Corners, Faces}
use Rattle.mesh_model.specs.declared.records.VertRec.{VertRec}
use Rattle.mesh_model.specs.declared.records.EdgeRec.{EdgeRec}
use Rattle.mesh_model.specs.declared.records.CornerRec.{CornerRec}
use Rattle.mesh_model.specs.declared.records.FaceRec.{FaceRec}
use Rattle.mesh_model.specs.declared.records.Counters.{Counters}
use Rattle.mesh_records.specs.AtSlots.{StoredFace, StoredLoop, vert_in, edge_in, loop_in, face_in}
use Rattle.mesh_records.specs.Kinds.{part_of}
use Rattle.mesh_records.specs.ReadOff.{NameLists, table, vert_rec, edge_rec, face_rec, corner_rec, loop_rec, no_corner, vert_at, edge_at, face_at, read_off, layers_in}
use Rattle.mesh_records.specs.Rewrites.{Rewrites}
use Rattle.mesh_records.specs.Whole.{IsWhole}
use Rattle.mesh_records.proofs.Elements.{name_live}
use Rattle.mesh_records.proofs.Options.{map_members, told_twice}
use Rattle.mesh_records.proofs.Revalued.{with_values, vert_with, edge_with, loop_with, face_with, told_changed, vert_still, edge_renamed, edge_still, corner_renamed, corners_still, face_still, rewrites_with}
use Rattle.mesh_records.proofs.Tables.{table_same}

-- ---- layers

-- where no element passes, each fails
none_passes : {A : Type 0} (p : A → Bool) (xs : List A) → is_some (position p xs) ≡ false → (k : ℕ) (d : A)
    → k < length xs → p (get_or xs k d) ≡ false
none_passes p xs e k d low = elim (cases_lt (position_or_len p xs) (length xs)) [
  | inl there ↦ (let found : is_some (position p xs) ≡ true =
      rw (lt-ltb (position_or_len p xs) (length xs) there) refl in cc)
  | inr past ↦ fails_before_first p xs k d (omega arith)
]

-- layers that are allowed still are with one that isn't refused
layers_more : (layers : List Layer) (l : Layer) → AreLayers layers → refusal_of layers l.name l.width ≡ None
    → AreLayers (layers ++ l ∷ [])
layers_more layers l h free =
    let new = is_allowed layers l.name l.width free in
    record {
      few = omega (arith, length-append layers (l ∷ []), new.few);
      named = All-push (λ (x : Layer). IsTrue (is_layer_name x.name)) layers l h.named new.name_ok;
      distinct = all_pairs_push (λ (x y : Layer). same_name x.name y.name ≡ false) layers l h.distinct
          (none_passes (λ (x : Layer). same_name x.name l.name) layers new.fresh);
      widths = All-push (λ (x : Layer). IsTrue (is_width x.width)) layers l h.widths new.width_ok;
    }

-- each row is then as long as the layers are wide
table_layered : (t : LayerTable) (l : Layer) → IsTable t → refusal_of t.layers l.name l.width ≡ None
    → IsTable (with_layer t l)
table_layered t l h free = record {
  layers = layers_more t.layers l h.layers free;
  fitted = λ i d lt. (let low : i < length t.rows = omega (arith, length-with_layer t l) in
      ap length (get_or-map (λ (row : List ℤ). row ++ zeros l.width) t.rows i d d low)
      ∙ length-append (get_or t.rows i d) (zeros l.width)
      ∙ omega (arith, h.fitted i d low, length-replicate l.width (pos 0), total-with_layer t l));
}

-- ---- tables

-- each record of a table changed
table_changed : {X : Type 0} (f g : ℕ → Option X) (n : ℕ) (change : X → X)
    → ((k : ℕ) → k < n → g k ≡ option_map change (f k)) → table g n ≡ changed change (table f n)
table_changed f g n change h = table_same None (λ (k : ℕ). option_map change (f k)) g n h
    ∙ sym (map-map (option_map change) f (range_with_len 0 n))

-- what a name leads to is changed
led_changed : {X : Type 0} (change : X → X) (f g : Slot → Option X) (o : Option Slot)
    → ((s : Slot) → o ≡ Some s → f s ≡ option_map change (g s))
    → option_and_then f o ≡ option_map change (option_and_then g o)
led_changed change f g None h = refl
led_changed change f g (Some s) h = h s refl

-- faces that keep the number of their corners keep the sum
sum_changed : (faces : List (Option FaceRec)) (change : FaceRec → FaceRec)
    → ((r : FaceRec) → length (change r).corners ≡ length r.corners) → corner_sum (changed change faces) ≡ corner_sum faces
sum_changed [] change same = refl
sum_changed (o ∷ faces) change same =
    let count = λ (x : Option FaceRec). length (corners_of x) in
    omega (
      arith,
      sum_by-cons count (option_map change o) (changed change faces),
      sum_by-cons count o faces,
      one o,
      sum_changed faces change same,
    )
  where
    one : (x : Option FaceRec) → length (corners_of (option_map change x)) ≡ length (corners_of x)
    one None = refl
    one (Some r) = same r

-- a slot that is live has a row
has_row : {X : Type 0} (cells : List (Option X)) (t : LayerTable) (s : ℕ) → IsLive cells s
    → length cells ≤ length t.rows → s < length t.rows
has_row cells t s live rows =
    let c = live_cell cells s live in
    let low = below cells s c.0 c.1 in
    omega arith

-- ---- a layer of each kind

module _ (old : Stored) (n : Counters) (w : IsWhole old n) (l : Layer) where
  -- its declaration
  declares : Kind → LayerDecl
  declares kind = record { kind = kind; name = l.name; width = l.width; rule = l.rule }

  layers_verts : refusal_of old.values.verts.layers l.name l.width ≡ None
      → Rewrites old (change_table Vert (λ (t : LayerTable). with_layer t l) old) n
      (λ (c : Complex). with_declared c (declares Verts))
  unfolding declares
  layers_verts free =
      let t = old.values.verts in
      let v : Layers = record old.values { verts = with_layer t l } in
      let change = λ (r : VertRec). let q : VertRec = record r { vals = r.vals ++ zeros l.width } in q in
      let long = length-with_layer t l in
      let verts = table_changed (vert_at old) (vert_at (with_values old v)) n.verts change (λ k lt.
      led_changed change (λ (s : Slot). option_map vert_rec (vert_in (with_values old v) s.0))
      (λ (s : Slot). option_map vert_rec (vert_in old s.0)) (at old.verts.names k) (λ s e.
      ap (λ (r : List ℤ). option_map vert_rec (option_map (vert_with r) (at old.verts.cells s.0)))
      (row_of-with_layer t l s.0
      (has_row old.verts.cells t s.0 (name_live w.records.named.verts k s e) w.values.rows.verts))
      ∙ told_changed (vert_with (row_of t s.0)) (vert_with (row_of t s.0 ++ zeros l.width)) vert_rec change (λ c. refl)
      (at old.verts.cells s.0))) in
      let edges = table_same None (edge_at old) (edge_at (with_values old v)) n.edges
      (λ j lt. edge_still old v j (λ x e. refl)) in
      let faces = table_same None (face_at old) (face_at (with_values old v)) n.faces
      (λ j lt. face_still old v j (λ x e. refl) (λ x m e is. refl)) in
      rewrites_with old v n (λ (c : Complex). with_declared c (declares Verts)) (record {
        verts = table_layered t l w.values.verts free;
        edges = w.values.edges;
        loops = w.values.loops;
        faces = w.values.faces;
        rows = record {
          verts = (let a = w.values.rows.verts in omega arith);
          edges = w.values.rows.edges;
          loops = w.values.rows.loops;
          faces = w.values.rows.faces;
          few = w.values.rows.few;
        };
      }) w (ap corner_sum faces) (λ lists. λ i. record {
        verts = verts i;
        edges = edges i;
        faces = faces i;
        layers = layers_in (with_values old v);
        materials = lists.materials;
        libraries = lists.libraries;
      })

  layers_edges : refusal_of old.values.edges.layers l.name l.width ≡ None
      → Rewrites old (change_table Edge (λ (t : LayerTable). with_layer t l) old) n
      (λ (c : Complex). with_declared c (declares Edges))
  unfolding declares
  layers_edges free =
      let t = old.values.edges in
      let v : Layers = record old.values { edges = with_layer t l } in
      let change = λ (r : EdgeRec). let q : EdgeRec = record r { vals = r.vals ++ zeros l.width } in q in
      let long = length-with_layer t l in
      let edges = table_changed (edge_at old) (edge_at (with_values old v)) n.edges change (λ k lt.
      led_changed change (λ (s : Slot). option_map (edge_rec (with_values old v)) (edge_in (with_values old v) s.0))
      (λ (s : Slot). option_map (edge_rec old) (edge_in old s.0)) (at old.edges.names k) (λ s e.
      edge_renamed old v (edge_in (with_values old v) s.0)
      ∙ ap (λ (r : List ℤ). option_map (edge_rec old) (option_map (edge_with r) (at old.edges.cells s.0)))
      (row_of-with_layer t l s.0
      (has_row old.edges.cells t s.0 (name_live w.records.named.edges k s e) w.values.rows.edges))
      ∙ told_changed (edge_with (row_of t s.0)) (edge_with (row_of t s.0 ++ zeros l.width)) (edge_rec old) change
      (λ c. refl) (at old.edges.cells s.0))) in
      let verts = table_same None (vert_at old) (vert_at (with_values old v)) n.verts
      (λ j lt. vert_still old v j (λ x e. refl)) in
      let faces = table_same None (face_at old) (face_at (with_values old v)) n.faces
      (λ j lt. face_still old v j (λ x e. refl) (λ x m e is. refl)) in
      rewrites_with old v n (λ (c : Complex). with_declared c (declares Edges)) (record {
        verts = w.values.verts;
        edges = table_layered t l w.values.edges free;
        loops = w.values.loops;
        faces = w.values.faces;
        rows = record {
          verts = w.values.rows.verts;
          edges = (let a = w.values.rows.edges in omega arith);
          loops = w.values.rows.loops;
          faces = w.values.rows.faces;
          few = w.values.rows.few;
        };
      }) w (ap corner_sum faces) (λ lists. λ i. record {
        verts = verts i;
        edges = edges i;
        faces = faces i;
        layers = layers_in (with_values old v);
        materials = lists.materials;
        libraries = lists.libraries;
      })

  layers_faces : refusal_of old.values.faces.layers l.name l.width ≡ None
      → Rewrites old (change_table Face (λ (t : LayerTable). with_layer t l) old) n
      (λ (c : Complex). with_declared c (declares Faces))
  unfolding declares
  layers_faces free =
      let t = old.values.faces in
      let v : Layers = record old.values { faces = with_layer t l } in
      let change = λ (r : FaceRec). let q : FaceRec = record r { vals = r.vals ++ zeros l.width } in q in
      let long = length-with_layer t l in
      let faces = table_changed (face_at old) (face_at (with_values old v)) n.faces change (λ k lt.
      led_changed change (λ (s : Slot). option_map (face_rec (with_values old v) s.0) (face_in (with_values old v) s.0))
      (λ (s : Slot). option_map (face_rec old s.0) (face_in old s.0)) (at old.faces.names k) (λ s e.
      (let corners = corners_still old v s.0 (λ m is. refl) in
      λ i. option_map (λ (f : StoredFace). let r : FaceRec = record { corners = corners i; vals = f.vals } in r)
      (face_in (with_values old v) s.0))
      ∙ ap (λ (r : List ℤ). option_map (face_rec old s.0) (option_map (face_with r) (at old.faces.cells s.0)))
      (row_of-with_layer t l s.0
      (has_row old.faces.cells t s.0 (name_live w.records.named.faces k s e) w.values.rows.faces))
      ∙ told_changed (face_with (row_of t s.0)) (face_with (row_of t s.0 ++ zeros l.width)) (face_rec old s.0) change
      (λ c. refl) (at old.faces.cells s.0))) in
      let verts = table_same None (vert_at old) (vert_at (with_values old v)) n.verts
      (λ j lt. vert_still old v j (λ x e. refl)) in
      let edges = table_same None (edge_at old) (edge_at (with_values old v)) n.edges
      (λ j lt. edge_still old v j (λ x e. refl)) in
      rewrites_with old v n (λ (c : Complex). with_declared c (declares Faces)) (record {
        verts = w.values.verts;
        edges = w.values.edges;
        loops = w.values.loops;
        faces = table_layered t l w.values.faces free;
        rows = record {
          verts = w.values.rows.verts;
          edges = w.values.rows.edges;
          loops = w.values.rows.loops;
          faces = (let a = w.values.rows.faces in omega arith);
          few = w.values.rows.few;
        };
      }) w (ap corner_sum faces ∙ sum_changed (table (face_at old) n.faces) change (λ r. refl)) (λ lists. λ i. record {
        verts = verts i;
        edges = edges i;
        faces = faces i;
        layers = layers_in (with_values old v);
        materials = lists.materials;
        libraries = lists.libraries;
      })

  layers_corners : refusal_of old.values.loops.layers l.name l.width ≡ None
      → Rewrites old (change_table Loop (λ (t : LayerTable). with_layer t l) old) n
      (λ (c : Complex). with_declared c (declares Corners))
  unfolding declares
  layers_corners free =
      let t = old.values.loops in
      let v : Layers = record old.values { loops = with_layer t l } in
      let longer = λ (k : CornerRec). let q : CornerRec = record k { vals = k.vals ++ zeros l.width } in q in
      let change = with_corner_zeros l.width in
      let long = length-with_layer t l in
      let corner = λ (x : Slot) (live : IsLive old.loops x.0). (let cell = live_cell old.loops x.0 live in
      corner_renamed old v (loop_in (with_values old v) x.0)
      ∙ ap (λ (r : List ℤ). option_map_or (loop_rec old) (option_map (loop_with r) (at old.loops x.0)) no_corner)
      (row_of-with_layer t l x.0 (has_row old.loops t x.0 live w.values.rows.loops))
      ∙ ap (λ (o : Option LoopCell). option_map_or (loop_rec old)
      (option_map (loop_with (row_of t x.0 ++ zeros l.width)) o) no_corner) cell.1
      ∙ sym (ap (λ (o : Option LoopCell). longer (option_map_or (loop_rec old)
      (option_map (loop_with (row_of t x.0)) o) no_corner)) cell.1)) in
      let corners = λ (s : Slot). map_members (corner_rec (with_values old v)) (λ (x : Slot). longer (corner_rec old x))
      (loops_in old s.0) (λ x m. corner x (in_live old w.cycles.cycles s.0 x m))
      ∙ sym (map-map longer (corner_rec old) (loops_in old s.0)) in
      let faces = table_changed (face_at old) (face_at (with_values old v)) n.faces change (λ k lt.
      led_changed change (λ (s : Slot). option_map (face_rec (with_values old v) s.0) (face_in (with_values old v) s.0))
      (λ (s : Slot). option_map (face_rec old s.0) (face_in old s.0)) (at old.faces.names k) (λ s e.
      (let them = corners s in
      λ i. option_map (λ (f : StoredFace). let r : FaceRec = record { corners = them i; vals = f.vals } in r)
      (face_in old s.0))
      ∙ sym (told_twice (face_rec old s.0) change (face_in old s.0)))) in
      let verts = table_same None (vert_at old) (vert_at (with_values old v)) n.verts
      (λ j lt. vert_still old v j (λ x e. refl)) in
      let edges = table_same None (edge_at old) (edge_at (with_values old v)) n.edges
      (λ j lt. edge_still old v j (λ x e. refl)) in
      rewrites_with old v n (λ (c : Complex). with_declared c (declares Corners)) (record {
        verts = w.values.verts;
        edges = w.values.edges;
        loops = table_layered t l w.values.loops free;
        faces = w.values.faces;
        rows = record {
          verts = w.values.rows.verts;
          edges = w.values.rows.edges;
          loops = (let a = w.values.rows.loops in omega arith);
          faces = w.values.rows.faces;
          few = w.values.rows.few;
        };
      }) w (ap corner_sum faces ∙ sum_changed (table (face_at old) n.faces) change
      (λ r. length-map r.corners longer)) (λ lists. λ i. record {
        verts = verts i;
        edges = edges i;
        faces = faces i;
        layers = layers_in (with_values old v);
        materials = lists.materials;
        libraries = lists.libraries;
      })

  -- a layer that isn't refused beside the others of its kind
  pub declares_layer : (kind : Kind) → refusal_of (layers_of (layers_in old) kind) l.name l.width ≡ None
      → Rewrites old (change_table (part_of kind) (λ (t : LayerTable). with_layer t l) old) n
      (λ (c : Complex). with_declared c (record { kind = kind; name = l.name; width = l.width; rule = l.rule }))
  unfolding declares
  declares_layer Verts free = layers_verts free
  declares_layer Edges free = layers_edges free
  declares_layer Corners free = layers_corners free
  declares_layer Faces free = layers_faces free
