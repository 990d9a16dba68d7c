-- The row of values of one element is written.
use Rattle.std.proofs.Common.{◌≡◌, ◌≢◌, ◌<◌, ◌≤◌, ℕ, ℤ, List, Option, Some, None, length, get_or, refl, sym, ap, ◌∙◌, subst, arith}
use Rattle.std.specs.List.{slice_get}
use Rattle.std.specs.Option.{option_map, option_map_or, option_and_then}
use Rattle.std.proofs.lemmas.List.Sums.{sum_by-set}
use Rattle.std.proofs.lemmas.Option.{same_Some}
use Rattle.cust_data.specs.Layers.{LayerTable, row_of, with_row, total}
use Rattle.raw_pool.specs.declared.pool.Slot.{Slot}
use Rattle.raw_pool.specs.Slots.{IsLive}
use Rattle.link_ring.specs.Members.{HasMember}
use Rattle.link_ring.specs.Mapped.{mapped_from}
use Rattle.mesh_store.specs.Slots.{at}
use Rattle.mesh_store.specs.Stored.{Stored}
use Rattle.mesh_store.specs.Parts.{change_table}
use Rattle.mesh_store.specs.declared.cells.LoopCell.{LoopCell}
use Rattle.mesh_store.specs.declared.layers.Layers.{Layers}
use Rattle.mesh_store.specs.declared.layers.Part.TheVariants.{Vert, Edge, Loop, Face}
use Rattle.mesh_store.proofs.Places.{below}
use Rattle.mesh_cycles.specs.Owners.{face_of}
use Rattle.mesh_cycles.specs.Cycles.{round_of}
use Rattle.mesh_cycles.specs.Found.{loops_in}
use Rattle.mesh_store.specs.declared.cells.Round.{Round}
use Rattle.mesh_cycles.proofs.Around.{in_once}
use Rattle.mesh_cycles.proofs.Cells.{live_cell}
use Rattle.mesh_model.specs.Complex.{Complex, corner_sum, corners_of}
use Rattle.mesh_model.specs.Kernel.{with_vert_vals, with_edge_vals, with_face_vals, with_corner_vals, changed_at}
use Rattle.mesh_model.specs.Table.{update}
use Rattle.mesh_model.specs.declared.names.VertName.{VertName}
use Rattle.mesh_model.specs.declared.names.EdgeName.{EdgeName}
use Rattle.mesh_model.specs.declared.names.FaceName.{FaceName}
use Rattle.mesh_model.specs.declared.records.VertRec.{VertRec}
use Rattle.mesh_model.specs.declared.records.EdgeRec.{EdgeRec}
use Rattle.mesh_model.specs.declared.records.CornerRec.{CornerRec}
use Rattle.mesh_model.specs.declared.records.FaceRec.{FaceRec}
use Rattle.mesh_model.specs.declared.records.Counters.{Counters}
use Rattle.mesh_records.specs.AtSlots.{StoredFace, face_in, edge_in, vert_in, loop_in}
use Rattle.mesh_records.specs.ReadOff.{table, vert_rec, edge_rec, face_rec, corner_rec, loop_rec, no_corner, vert_at, edge_at, face_at, layers_in}
use Rattle.mesh_records.specs.Whole.{IsWhole}
use Rattle.mesh_records.proofs.Elements.{name_live}
use Rattle.mesh_records.proofs.Edges.{names_apart, name_below}
use Rattle.mesh_records.proofs.Listed.{listed, map_changed, changed_long}
use Rattle.mesh_records.proofs.Options.{told_twice}
use Rattle.mesh_records.specs.Rewrites.{Rewrites}
use Rattle.mesh_records.proofs.Revalued.{with_values, vert_with, edge_with, loop_with, face_with, told_changed, vert_still, edge_renamed, edge_still, corner_renamed, corner_still, corners_still, face_still, rewrites_values}
use Rattle.mesh_records.proofs.Tables.{length_table, table_same, table_updated}
use Rattle.mesh_records.proofs.Values.{table_written, row_written, row_unwritten, rows_written}

-- a slot that is live has a row
has_row : {X : Type 0} (cells : List (Option X)) (t : LayerTable) (s : ℕ) → IsLive cells s
    → length cells ≤ length t.rows → s < length t.rows
has_row cells t s live rows =
    let c = live_cell cells s live in
    let low = below cells s c.0 c.1 in
    omega arith

-- a face whose corners become as many leaves the sum
pub sum_kept : (faces : List (Option FaceRec)) (k : ℕ) (change : FaceRec → FaceRec)
    → ((r : FaceRec) → length (change r).corners ≡ length r.corners) → k < length faces
    → corner_sum (update faces k change) ≡ corner_sum faces
sum_kept faces k change same low =
    let none : Option FaceRec = None in
    let count = λ (o : Option FaceRec). length (corners_of o) in
    let set = sum_by-set count faces k (option_map change (get_or faces k none)) none low in
    let one = by_face (get_or faces k none) in
    omega arith
  where
    by_face : (o : Option FaceRec) → length (corners_of (option_map change o)) ≡ length (corners_of o)
    by_face None = refl
    by_face (Some r) = same r

module _ (old : Stored) (n : Counters) (w : IsWhole old n) (vals : List ℤ) where
  -- ---- a vertex

  module _ (k : VertName) (s : Slot) (named : at old.verts.names k.0 ≡ Some s)
      (wide : length vals ≡ total old.values.verts.layers) where
    pub writes_vert : Rewrites old (change_table Vert (λ (t : LayerTable). with_row t s.0 vals) old) n
        (λ (c : Complex). with_vert_vals c k vals)
    writes_vert =
        let t = old.values.verts in
        let v : Layers = record old.values { verts = with_row t s.0 vals } in
        let change = λ (r : VertRec). let q : VertRec = record r { vals = vals } in q in
        let live = name_live w.records.named.verts k.0 s named in
        let low = has_row old.verts.cells t s.0 live w.values.rows.verts in
        let long = rows_written t s.0 vals in
        let lead = λ (f : Slot → Option VertRec). ap (option_and_then f) named in
        let here : vert_at (with_values old v) k.0 ≡ option_map change (vert_at old k.0) =
        lead (λ (x : Slot). option_map vert_rec (vert_in (with_values old v) x.0))
        ∙ ap (λ (r : List ℤ). option_map vert_rec (option_map (vert_with r) (at old.verts.cells s.0)))
        (row_written t s.0 vals low)
        ∙ told_changed (vert_with (row_of t s.0)) (vert_with vals) vert_rec change (λ c. refl) (at old.verts.cells s.0)
        ∙ ap (option_map change) (sym (lead (λ (x : Slot). option_map vert_rec (vert_in old x.0)))) in
        let besides = λ (j : ℕ) (lt : j < n.verts) (ne : j ≢ k.0). vert_still old v j (λ x e.
        row_unwritten t s.0 x.0 vals (names_apart w.records.named.verts j k.0 x s e named ne)) in
        let verts = table_updated (vert_at old) (vert_at (with_values old v)) n.verts k.0 change
        (name_below old.verts.names n.verts k.0 s w.records.below.verts named) here besides in
        let edges = table_same None (edge_at old) (edge_at (with_values old v)) n.edges
        (λ j lt. edge_still old v j (λ x e. refl)) in
        let faces = table_same None (face_at old) (face_at (with_values old v)) n.faces
        (λ j lt. face_still old v j (λ x e. refl) (λ x l e m. refl)) in
        rewrites_values old v n (λ (c : Complex). with_vert_vals c k vals) (record {
          layers = refl;
          values = record {
            verts = table_written t s.0 vals wide w.values.verts;
            edges = w.values.edges;
            loops = w.values.loops;
            faces = w.values.faces;
            rows = record {
              verts = (let a = w.values.rows.verts in omega arith);
              edges = w.values.rows.edges;
              loops = w.values.rows.loops;
              faces = w.values.rows.faces;
              few = w.values.rows.few;
            };
          };
        }) w (ap corner_sum faces) (λ lists. λ i. record {
          verts = verts i;
          edges = edges i;
          faces = faces i;
          layers = layers_in old;
          materials = lists.materials;
          libraries = lists.libraries;
        })

  -- ---- an edge

  module _ (k : EdgeName) (s : Slot) (named : at old.edges.names k.0 ≡ Some s)
      (wide : length vals ≡ total old.values.edges.layers) where
    pub writes_edge : Rewrites old (change_table Edge (λ (t : LayerTable). with_row t s.0 vals) old) n
        (λ (c : Complex). with_edge_vals c k vals)
    writes_edge =
        let t = old.values.edges in
        let v : Layers = record old.values { edges = with_row t s.0 vals } in
        let change = λ (r : EdgeRec). let q : EdgeRec = record r { vals = vals } in q in
        let live = name_live w.records.named.edges k.0 s named in
        let low = has_row old.edges.cells t s.0 live w.values.rows.edges in
        let long = rows_written t s.0 vals in
        let lead = λ (f : Slot → Option EdgeRec). ap (option_and_then f) named in
        let here : edge_at (with_values old v) k.0 ≡ option_map change (edge_at old k.0) =
        lead (λ (x : Slot). option_map (edge_rec (with_values old v)) (edge_in (with_values old v) x.0))
        ∙ edge_renamed old v (edge_in (with_values old v) s.0)
        ∙ ap (λ (r : List ℤ). option_map (edge_rec old) (option_map (edge_with r) (at old.edges.cells s.0)))
        (row_written t s.0 vals low)
        ∙ told_changed (edge_with (row_of t s.0)) (edge_with vals) (edge_rec old) change (λ c. refl)
        (at old.edges.cells s.0)
        ∙ ap (option_map change) (sym (lead (λ (x : Slot). option_map (edge_rec old) (edge_in old x.0)))) in
        let besides = λ (j : ℕ) (lt : j < n.edges) (ne : j ≢ k.0). edge_still old v j (λ x e.
        row_unwritten t s.0 x.0 vals (names_apart w.records.named.edges j k.0 x s e named ne)) in
        let verts = table_same None (vert_at old) (vert_at (with_values old v)) n.verts
        (λ j lt. vert_still old v j (λ x e. refl)) in
        let edges = table_updated (edge_at old) (edge_at (with_values old v)) n.edges k.0 change
        (name_below old.edges.names n.edges k.0 s w.records.below.edges named) here besides in
        let faces = table_same None (face_at old) (face_at (with_values old v)) n.faces
        (λ j lt. face_still old v j (λ x e. refl) (λ x l e m. refl)) in
        rewrites_values old v n (λ (c : Complex). with_edge_vals c k vals) (record {
          layers = refl;
          values = record {
            verts = w.values.verts;
            edges = table_written t s.0 vals wide w.values.edges;
            loops = w.values.loops;
            faces = w.values.faces;
            rows = record {
              verts = w.values.rows.verts;
              edges = (let a = w.values.rows.edges in omega arith);
              loops = w.values.rows.loops;
              faces = w.values.rows.faces;
              few = w.values.rows.few;
            };
          };
        }) w (ap corner_sum faces) (λ lists. λ i. record {
          verts = verts i;
          edges = edges i;
          faces = faces i;
          layers = layers_in old;
          materials = lists.materials;
          libraries = lists.libraries;
        })

  -- ---- a face

  module _ (k : FaceName) (s : Slot) (named : at old.faces.names k.0 ≡ Some s) where
    low_name : k.0 < n.faces
    low_name = name_below old.faces.names n.faces k.0 s w.records.below.faces named

    -- a face that is changed leaves the sum of corners
    sum_still : (new : Stored) (change : FaceRec → FaceRec)
        → ((r : FaceRec) → length (change r).corners ≡ length r.corners)
        → table (face_at new) n.faces ≡ update (table (face_at old) n.faces) k.0 change
        → corner_sum (table (face_at new) n.faces) ≡ corner_sum (table (face_at old) n.faces)
    sum_still new change same faces =
        let long = length_table (face_at old) n.faces in
        let low = low_name in
        ap corner_sum faces ∙ sum_kept (table (face_at old) n.faces) k.0 change same (omega arith)

    pub writes_face : length vals ≡ total old.values.faces.layers
        → Rewrites old (change_table Face (λ (t : LayerTable). with_row t s.0 vals) old) n
        (λ (c : Complex). with_face_vals c k vals)
    writes_face wide =
        let t = old.values.faces in
        let v : Layers = record old.values { faces = with_row t s.0 vals } in
        let change = λ (r : FaceRec). let q : FaceRec = record r { vals = vals } in q in
        let live = name_live w.records.named.faces k.0 s named in
        let low = has_row old.faces.cells t s.0 live w.values.rows.faces in
        let long = rows_written t s.0 vals in
        let lead = λ (f : Slot → Option FaceRec). ap (option_and_then f) named in
        let corners = corners_still old v s.0 (λ l m. refl) in
        let here : face_at (with_values old v) k.0 ≡ option_map change (face_at old k.0) =
        lead (λ (x : Slot). option_map (face_rec (with_values old v) x.0) (face_in (with_values old v) x.0))
        ∙ (λ i. option_map (λ (f : StoredFace). let r : FaceRec = record { corners = corners i; vals = f.vals } in r)
        (face_in (with_values old v) s.0))
        ∙ ap (λ (r : List ℤ). option_map (face_rec old s.0) (option_map (face_with r) (at old.faces.cells s.0)))
        (row_written t s.0 vals low)
        ∙ told_changed (face_with (row_of t s.0)) (face_with vals) (face_rec old s.0) change (λ c. refl)
        (at old.faces.cells s.0)
        ∙ ap (option_map change) (sym (lead (λ (x : Slot). option_map (face_rec old x.0) (face_in old x.0)))) in
        let besides = λ (j : ℕ) (lt : j < n.faces) (ne : j ≢ k.0). face_still old v j (λ x e.
        row_unwritten t s.0 x.0 vals (names_apart w.records.named.faces j k.0 x s e named ne)) (λ x l e m. refl) in
        let verts = table_same None (vert_at old) (vert_at (with_values old v)) n.verts
        (λ j lt. vert_still old v j (λ x e. refl)) in
        let edges = table_same None (edge_at old) (edge_at (with_values old v)) n.edges
        (λ j lt. edge_still old v j (λ x e. refl)) in
        let faces = table_updated (face_at old) (face_at (with_values old v)) n.faces k.0 change low_name here besides
        in
        rewrites_values old v n (λ (c : Complex). with_face_vals c k vals) (record {
          layers = refl;
          values = record {
            verts = w.values.verts;
            edges = w.values.edges;
            loops = w.values.loops;
            faces = table_written t s.0 vals wide w.values.faces;
            rows = record {
              verts = w.values.rows.verts;
              edges = w.values.rows.edges;
              loops = w.values.rows.loops;
              faces = (let a = w.values.rows.faces in omega arith);
              few = w.values.rows.few;
            };
          };
        }) w (sum_still (with_values old v) change (λ r. refl) faces) (λ lists. λ i. record {
          verts = verts i;
          edges = edges i;
          faces = faces i;
          layers = layers_in old;
          materials = lists.materials;
          libraries = lists.libraries;
        })

    -- ---- a corner

    -- a loop that is listed of a face is the face's
    face_of_member : {f : ℕ} (l : Slot) → HasMember (loops_in old f) l → face_of old l ≡ Some f
    face_of_member {f} l m =
        let t = mapped_from (λ (r : Round). r.0) (round_of old f) l m in
        let P = λ (x : Slot). face_of old x ≡ Some f in
        subst P t.is (w.cycles.cycles.round_faces f t.of t.member)

    module _ (i : ℕ) (l : Slot) (place : slice_get (loops_in old s.0) i ≡ Some l)
        (live : IsLive old.loops l.0) (wide : length vals ≡ total old.values.loops.layers) where
      -- the values of a corner changed
      revalued : CornerRec → CornerRec
      revalued c = record c { vals = vals }

      pub writes_corner : Rewrites old (change_table Loop (λ (t : LayerTable). with_row t l.0 vals) old) n
          (λ (c : Complex). with_corner_vals c k i vals)
      unfolding revalued
      writes_corner =
          let t = old.values.loops in
          let v : Layers = record old.values { loops = with_row t l.0 vals } in
          let change = λ (r : FaceRec). let q : FaceRec =
          record r { corners = changed_at r.corners i revalued } in q in
          let low = has_row old.loops t l.0 live w.values.rows.loops in
          let long = rows_written t l.0 vals in
          let lead = λ (f : Slot → Option FaceRec). ap (option_and_then f) named in
          let cell = live_cell old.loops l.0 live in
          let corner : corner_rec (with_values old v) l ≡ revalued (corner_rec old l) =
          corner_renamed old v (loop_in (with_values old v) l.0)
          ∙ ap (λ (r : List ℤ). option_map_or (loop_rec old) (option_map (loop_with r) (at old.loops l.0)) no_corner)
          (row_written t l.0 vals low)
          ∙ ap (λ (o : Option LoopCell). option_map_or (loop_rec old) (option_map (loop_with vals) o) no_corner) cell.1
          ∙ sym (ap (λ (o : Option LoopCell). revalued (option_map_or (loop_rec old)
          (option_map (loop_with (row_of t l.0)) o) no_corner)) cell.1) in
          let corners = map_changed (corner_rec old) (corner_rec (with_values old v)) revalued (loops_in old s.0) i l
          place (in_once old w.cycles.cycles s.0) corner (λ x m ne. corner_still old v x
          (row_unwritten t l.0 x.0 vals (λ q. ne (λ j. record { 0 = q j })))) in
          let here : face_at (with_values old v) k.0 ≡ option_map change (face_at old k.0) =
          lead (λ (x : Slot). option_map (face_rec (with_values old v) x.0) (face_in (with_values old v) x.0))
          ∙ (λ j. option_map (λ (f : StoredFace). let r : FaceRec = record { corners = corners j; vals = f.vals } in r)
          (face_in old s.0))
          ∙ sym (told_twice (face_rec old s.0) change (face_in old s.0))
          ∙ ap (option_map change) (sym (lead (λ (x : Slot). option_map (face_rec old x.0) (face_in old x.0)))) in
          let mine = face_of_member l (listed (loops_in old s.0) i l place) in
          let besides = λ (j : ℕ) (lt : j < n.faces) (ne : j ≢ k.0). face_still old v j (λ x e. refl) (λ x m e is.
          row_unwritten t l.0 m.0 vals (λ q.
          let P = λ (y : ℕ). face_of old (record { 0 = y }) ≡ Some x.0 in
          names_apart w.records.named.faces j k.0 x s e named ne
          (same_Some _ _ (sym (subst P q (face_of_member m is)) ∙ mine)))) in
          let verts = table_same None (vert_at old) (vert_at (with_values old v)) n.verts
          (λ j lt. vert_still old v j (λ x e. refl)) in
          let edges = table_same None (edge_at old) (edge_at (with_values old v)) n.edges
          (λ j lt. edge_still old v j (λ x e. refl)) in
          let faces = table_updated (face_at old) (face_at (with_values old v)) n.faces k.0 change low_name here besides
          in
          rewrites_values old v n (λ (c : Complex). with_corner_vals c k i vals) (record {
            layers = refl;
            values = record {
              verts = w.values.verts;
              edges = w.values.edges;
              loops = table_written t l.0 vals wide w.values.loops;
              faces = w.values.faces;
              rows = record {
                verts = w.values.rows.verts;
                edges = w.values.rows.edges;
                loops = (let a = w.values.rows.loops in omega arith);
                faces = w.values.rows.faces;
                few = w.values.rows.few;
              };
            };
          }) w (sum_still (with_values old v) change (λ r. changed_long revalued r.corners i) faces)
          (λ lists. λ j. record {
            verts = verts j;
            edges = edges j;
            faces = faces j;
            layers = layers_in old;
            materials = lists.materials;
            libraries = lists.libraries;
          })
