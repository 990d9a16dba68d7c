-- What is read at the slot of a name is what stands at the name.
use Rattle.std.proofs.Common.{◌≡◌, ◌<◌, ◌≤◌, ◌*◌, ℕ, zero, suc, ℤ, true, false, not, is_some, List, [], ◌∷◌, ◌++◌, Option, Some, None, length, map, refl, sym, ap, ◌∙◌, subst, inl, inr, arith}
use Rattle.std.specs.Prelude.{slice_index_or, Bool, IsTrue, MatchOption}
use Rattle.std.specs.List.{All, slice_get, flat_map}
use Rattle.std.specs.Option.{option_map, option_map_or}
use Rattle.std.proofs.lemmas.Bool.{false≢true}
use Rattle.std.proofs.lemmas.Option.{same_Some}
use Rattle.std.proofs.lemmas.List.{length-map}
use Rattle.std.proofs.lemmas.List.Folds.{list_any_at}
use Rattle.std.proofs.lemmas.List.Elements.{All-head, All-tail}
use Rattle.std.proofs.lemmas.List.Sums.{sum_by-cons}
use Rattle.cust_data.proofs.Widths.{width_bounds}
use Rattle.cust_data.specs.Layers.{Layer, AreLayers, is_width, total, row_of}
use Rattle.raw_pool.specs.declared.pool.Slot.{Slot}
use Rattle.mesh_store.specs.Slots.{at, LeadsFirst}
use Rattle.mesh_store.specs.Stored.{Stored, no_slot}
use Rattle.mesh_store.specs.declared.cells.VertCell.{VertCell}
use Rattle.mesh_store.specs.declared.cells.EdgeCell.{EdgeCell}
use Rattle.mesh_store.specs.declared.cells.LoopCell.{LoopCell}
use Rattle.mesh_store.specs.declared.cells.FaceCell.{FaceCell}
use Rattle.mesh_store.specs.declared.layers.Part.{Part}
use Rattle.mesh_store.specs.Parts.{table_of}
use Rattle.mesh_cycles.proofs.Cells.{live_cell}
use Rattle.mesh_cycles.proofs.Around.{in_live}
use Rattle.link_ring.specs.Members.{HasMember}
use Rattle.mesh_cycles.specs.Cycles.{AreCycles, round_of}
use Rattle.mesh_cycles.specs.Found.{loops_in}
use Rattle.mesh_store.specs.declared.cells.Round.{Round}
use Rattle.mesh_model.specs.Table.{at as record_at, least_from, passes}
use Rattle.mesh_model.specs.Complex.{Complex, corners_of, layers_of}
use Rattle.mesh_model.specs.declared.names.Kind.{Kind}
use Rattle.mesh_model.specs.declared.names.Kind.TheVariants.{Verts, Edges, Corners, Faces}
use Rattle.mesh_model.specs.declared.records.CornerRec.{CornerRec}
use Rattle.mesh_records.specs.Kinds.{part_of}
use Rattle.mesh_model.specs.Incidence.{is_loose, uses_edge}
use Rattle.mesh_model.specs.declared.names.VertName.{VertName}
use Rattle.mesh_model.specs.declared.names.EdgeName.{EdgeName}
use Rattle.mesh_model.specs.declared.names.FaceName.{FaceName}
use Rattle.mesh_model.specs.declared.records.VertRec.{VertRec}
use Rattle.mesh_model.specs.declared.records.EdgeRec.{EdgeRec}
use Rattle.mesh_model.specs.declared.records.FaceRec.{FaceRec}
use Rattle.mesh_model.specs.declared.records.Counters.{Counters}
use Rattle.mesh_model.proofs.Reading.{least_from-found, least_from-none}
use Rattle.mesh_records.specs.ReadOff.{NameLists}
use Rattle.mesh_records.specs.AtSlots.{StoredVert, StoredEdge, StoredLoop, StoredFace, vert_in, edge_in, loop_in, face_in, IsAt}
use Rattle.mesh_records.specs.ReadOff.{point_of, vert_rec, edge_rec, loop_rec, face_rec, no_corner, corner_rec, vert_name, edge_name, names_at, read_off}
use Rattle.mesh_records.specs.Whole.{IsWhole}
use Rattle.mesh_records.proofs.Options.{has_key, there}
use Rattle.mesh_records.proofs.Elements.{name_live, loop_is_at, loop_live, face_is_at, vert_number, edge_number}
use Rattle.mesh_records.proofs.ByName.{told_number}
use Rattle.mesh_records.proofs.Filters.{map_after}
use Rattle.mesh_records.proofs.Gone.{passes_below}
use Rattle.mesh_records.proofs.Stands.{stands_for}

-- ---- the least name

none_is : {X : Type 0} (o : Option X) → o ≡ None → is_some o ≡ false
none_is None e = refl
none_is {X} (Some x) e = ap (λ (o : Option X). is_some o) e

module _ {S Y : Type 0} (names : List (Option S)) (table : List (Option Y))
    (same : (k : ℕ) → is_some (at names k) ≡ is_some (record_at table k)) (least : ℕ) where
  pub least_none : ((k : ℕ) → least ≤ k → at names k ≡ None) → least_from table least ≡ None
  least_none none = least_from-none table least (λ k le lt. sym (same k) ∙ none_is (at names k) (none k le))

  pub least_some : (s : S) (l : LeadsFirst names least s) → least_from table least ≡ Some l.name
  least_some s l =
      let here : is_some (record_at table l.name) ≡ true =
      sym (same l.name) ∙ ap (λ (o : Option S). is_some o) l.here in
      let none = λ (k : ℕ) (le : least ≤ k) (lt : k < l.name). sym (same k) ∙ none_is (at names k) (l.none k le lt) in
      least_from-found table least l.name l.from (passes_below (λ (y : Y). true) table l.name
      (stands-true (record_at table l.name) here)) here none
    where
      stands-true : (o : Option Y) → is_some o ≡ true → passes (λ (y : Y). true) o ≡ true
      stands-true None h = absurd (false≢true h)
      stands-true (Some y) h = refl

-- ---- one element

module _ (st : Stored) (n : Counters) (lists : NameLists) (w : IsWhole st n) where
  pub point_read : (k : ℕ) (s : Slot) (p : List ℤ) → at st.verts.names k ≡ Some s
      → option_map (λ (c : VertCell). c.point) (at st.verts.cells s.0) ≡ Some p
      → option_map (λ (r : VertRec). r.point) (record_at (read_off st n lists).verts k) ≡ Some (point_of p)
  point_read k s p named e =
      let c = has_key (λ (c : VertCell). c.point) (at st.verts.cells s.0) p e in
      let tell = λ (x : VertCell). let y : StoredVert =
      record { number = x.number; point = x.point; vals = row_of st.values.verts s.0 } in y in
      ap (option_map (λ (r : VertRec). r.point)) ((stands_for st n lists w).points k s named)
      ∙ ap (λ (o : Option VertCell). option_map (λ (r : VertRec). r.point) (option_map vert_rec (option_map tell o)))
      c.is
      ∙ ap (λ (q : List ℤ). Some (point_of q)) c.same

  pub ends_read : (k : ℕ) (s : Slot) (es : List Slot) (a b : ℕ) → at st.edges.names k ≡ Some s
      → option_map (λ (c : EdgeCell). c.ends) (at st.edges.cells s.0) ≡ Some es
      → option_map (λ (c : VertCell). c.number) (at st.verts.cells (slice_index_or es 0 no_slot).0) ≡ Some a
      → option_map (λ (c : VertCell). c.number) (at st.verts.cells (slice_index_or es 1 no_slot).0) ≡ Some b
      → option_map (λ (r : EdgeRec). r.a ∷ r.b ∷ []) (record_at (read_off st n lists).edges k)
      ≡ Some ((record { 0 = a }) ∷ (record { 0 = b }) ∷ [])
  ends_read k s es a b named e ea eb =
      let c = has_key (λ (c : EdgeCell). c.ends) (at st.edges.cells s.0) es e in
      let tell = λ (x : EdgeCell). let y : StoredEdge =
      record { number = x.number; ends = x.ends; vals = row_of st.values.edges s.0 } in y in
      let name = λ (t : ℕ) (j : ℕ) (q : option_map (λ (x : VertCell). x.number) (at st.verts.cells t) ≡ Some j).
      told_number (λ (v : StoredVert). v.number) (vert_in st t) j (vert_number st t ∙ q) in
      let x = name (slice_index_or es 0 no_slot).0 a ea in
      let y = name (slice_index_or es 1 no_slot).0 b eb in
      let pair : Option (List VertName) = Some (vert_name st (slice_index_or es 0 no_slot).0
      ∷ vert_name st (slice_index_or es 1 no_slot).0 ∷ []) in
      let same : pair ≡ Some ((record { 0 = a }) ∷ (record { 0 = b }) ∷ []) =
      λ i. Some ((record { 0 = x i }) ∷ (record { 0 = y i }) ∷ []) in
      ap (option_map (λ (r : EdgeRec). r.a ∷ r.b ∷ [])) ((stands_for st n lists w).ends k s named)
      ∙ ap (λ (o : Option EdgeCell). option_map (λ (r : EdgeRec). r.a ∷ r.b ∷ [])
      (option_map (edge_rec st) (option_map tell o))) c.is
      ∙ ap (λ (qs : List Slot). Some (vert_name st (slice_index_or qs 0 no_slot).0
      ∷ vert_name st (slice_index_or qs 1 no_slot).0 ∷ [])) c.same
      ∙ same

  pub corners_read : (k : ℕ) (s : Slot) → at st.faces.names k ≡ Some s
      → corners_of (record_at (read_off st n lists).faces k) ≡ map (corner_rec st) (loops_in st s.0)
  corners_read k s named =
      let f = there (face_in st s.0) (face_is_at st s.0 (name_live w.records.named.faces k s named)) in
      ap corners_of ((stands_for st n lists w).corners k s named ∙ ap (option_map (face_rec st s.0)) f.1)

  pub count_read : (k : ℕ) (s : Slot) → at st.faces.names k ≡ Some s
      → length (round_of st s.0) ≡ length (corners_of (record_at (read_off st n lists).faces k))
  count_read k s named =
      sym (ap length (corners_read k s named) ∙ length-map (loops_in st s.0) (corner_rec st)
      ∙ length-map (round_of st s.0) (λ (r : Round). r.0))

-- an edge is loose just where no face along it is found
pub none_is_loose : (c : Complex) (e : EdgeName) (r : Option FaceName) (b : Bool)
    → MatchOption r (is_loose c e ≡ true) (λ (f : FaceName). passes (uses_edge e) (record_at c.faces f.0) ≡ true)
    → is_some r ≡ not b → b ≡ is_loose c e
none_is_loose c e None true h is = sym h
none_is_loose c e None false h is = absurd (false≢true is)
none_is_loose c e (Some f) true h is = absurd (false≢true (sym is))
none_is_loose c e (Some f) false h is =
    sym (ap not (list_any_at (passes (uses_edge e)) c.faces f.0 None (passes_below (uses_edge e) c.faces f.0 h) h))

-- ---- layers and rows

pub kind_layers : (st : Stored) (n : Counters) (lists : NameLists) (c : Complex) (kind : Kind) (part : Part)
    → read_off st n lists ≡ c → part ≡ part_of kind → (table_of part st.values).layers ≡ layers_of c.layers kind
kind_layers st n lists c kind part e p =
    ap (λ (q : Part). (table_of q st.values).layers) p ∙ by_kind kind ∙ ap (λ (x : Complex). layers_of x.layers kind) e
  where
    by_kind : (k : Kind) → (table_of (part_of k) st.values).layers ≡ layers_of (read_off st n lists).layers k
    by_kind Verts = refl
    by_kind Edges = refl
    by_kind Corners = refl
    by_kind Faces = refl

-- layers that a layer set can hold have at most 64 numbers
narrow : (layers : List Layer) → All (λ (l : Layer). IsTrue (is_width l.width)) layers
    → total layers ≤ 4 * length layers
narrow [] h = omega arith
narrow (l ∷ ls) h =
    let P = λ (x : Layer). IsTrue (is_width x.width) in
    let one = (width_bounds l.width (All-head P l ls h)).1 in
    let more = narrow ls (All-tail P l ls h) in
    let sum = sum_by-cons (λ (x : Layer). x.width) l ls in
    omega arith

pub few_numbers : (layers : List Layer) → AreLayers layers → total layers ≤ 64
few_numbers layers h = let a = narrow layers h.widths in let b = h.few in omega arith

module _ (st : Stored) (n : Counters) (lists : NameLists) (w : IsWhole st n) (i : ℕ) where
  pub vert_value_read : (k : ℕ) (s : Slot) → at st.verts.names k ≡ Some s
      → option_map (λ (r : VertRec). slice_get r.vals i) (record_at (read_off st n lists).verts k)
      ≡ Some (slice_get (row_of st.values.verts s.0) i)
  vert_value_read k s named =
      let c = live_cell st.verts.cells s.0 (name_live w.records.named.verts k s named) in
      let tell = λ (x : VertCell). let y : StoredVert =
      record { number = x.number; point = x.point; vals = row_of st.values.verts s.0 } in y in
      ap (option_map (λ (r : VertRec). slice_get r.vals i)) ((stands_for st n lists w).points k s named)
      ∙ ap (λ (o : Option VertCell). option_map (λ (r : VertRec). slice_get r.vals i)
      (option_map vert_rec (option_map tell o))) c.1

  pub edge_value_read : (k : ℕ) (s : Slot) → at st.edges.names k ≡ Some s
      → option_map (λ (r : EdgeRec). slice_get r.vals i) (record_at (read_off st n lists).edges k)
      ≡ Some (slice_get (row_of st.values.edges s.0) i)
  edge_value_read k s named =
      let c = live_cell st.edges.cells s.0 (name_live w.records.named.edges k s named) in
      let tell = λ (x : EdgeCell). let y : StoredEdge =
      record { number = x.number; ends = x.ends; vals = row_of st.values.edges s.0 } in y in
      ap (option_map (λ (r : EdgeRec). slice_get r.vals i)) ((stands_for st n lists w).ends k s named)
      ∙ ap (λ (o : Option EdgeCell). option_map (λ (r : EdgeRec). slice_get r.vals i)
      (option_map (edge_rec st) (option_map tell o))) c.1

  pub face_value_read : (k : ℕ) (s : Slot) → at st.faces.names k ≡ Some s
      → option_map (λ (r : FaceRec). slice_get r.vals i) (record_at (read_off st n lists).faces k)
      ≡ Some (slice_get (row_of st.values.faces s.0) i)
  face_value_read k s named =
      let c = live_cell st.faces.cells s.0 (name_live w.records.named.faces k s named) in
      let tell = λ (x : FaceCell). let y : StoredFace =
      record { number = x.number; vals = row_of st.values.faces s.0 } in y in
      ap (option_map (λ (r : FaceRec). slice_get r.vals i)) ((stands_for st n lists w).corners k s named)
      ∙ ap (λ (o : Option FaceCell). option_map (λ (r : FaceRec). slice_get r.vals i)
      (option_map (face_rec st s.0) (option_map tell o))) c.1

-- an element of a mapped list
got_mapped : {X Y : Type 0} (f : X → Y) (xs : List X) (i : ℕ) (x : X) → slice_get xs i ≡ Some x
    → slice_get (map f xs) i ≡ Some (f x)
got_mapped f [] i x e = absurd (let no : None ≡ Some x = e in cc)
got_mapped {X} {Y} f (y ∷ ys) zero x e = ap (option_map f) e
got_mapped f (y ∷ ys) (suc i) x e = got_mapped f ys i x e

module _ (st : Stored) (n : Counters) (lists : NameLists) (w : IsWhole st n) (k : ℕ) (s : Slot)
    (named : at st.faces.names k ≡ Some s) where
  -- the corner at a position is that of the loop there
  pub corner_read : (i : ℕ) (l : Slot) → slice_get (loops_in st s.0) i ≡ Some l
      → slice_get (corners_of (record_at (read_off st n lists).faces k)) i ≡ Some (corner_rec st l)
  corner_read i l e = ap (λ (cs : List CornerRec). slice_get cs i) (corners_read st n lists w k s named)
      ∙ got_mapped (corner_rec st) (loops_in st s.0) i l e

-- the names of a loop's vertex and edge
pub corner_names : (st : Stored) (l v e : Slot) (i j : ℕ)
    → option_map (λ (c : LoopCell). c.vert) (at st.loops l.0) ≡ Some v
    → option_map (λ (c : LoopCell). c.edge) (at st.loops l.0) ≡ Some e
    → option_map (λ (c : VertCell). c.number) (at st.verts.cells v.0) ≡ Some i
    → option_map (λ (c : EdgeCell). c.number) (at st.edges.cells e.0) ≡ Some j
    → (let x : VertName = record { 0 = i } in let y : EdgeName = record { 0 = j } in (x, y)) ≡ names_at st l
corner_names st l v e i j qv qe ni nj =
    let c = has_key (λ (c : LoopCell). c.vert) (at st.loops l.0) v qv in
    let along : c.cell.edge ≡ e = same_Some _ _ (sym (ap (option_map (λ (x : LoopCell). x.edge)) c.is) ∙ qe) in
    let tell = λ (x : LoopCell). let y : StoredLoop =
    record { vert = x.vert; edge = x.edge; face = x.face; vals = row_of st.values.loops l.0 } in y in
    let rec : corner_rec st l ≡ loop_rec st (tell c.cell) =
    ap (λ (o : Option LoopCell). option_map_or (loop_rec st) (option_map tell o) no_corner) c.is in
    let x : (vert_name st v.0).0 ≡ i = told_number (λ (y : StoredVert). y.number) (vert_in st v.0) i
    (vert_number st v.0 ∙ ni) in
    let y : (edge_name st e.0).0 ≡ j = told_number (λ (z : StoredEdge). z.number) (edge_in st e.0) j
    (edge_number st e.0 ∙ nj) in
    let vert : (corner_rec st l).vert.0 ≡ i =
    ap (λ (r : CornerRec). r.vert.0) rec ∙ ap (λ (t : Slot). (vert_name st t.0).0) c.same ∙ x in
    let edge : (corner_rec st l).edge.0 ≡ j =
    ap (λ (r : CornerRec). r.edge.0) rec ∙ ap (λ (t : Slot). (edge_name st t.0).0) along ∙ y in
    λ k. (record { 0 = sym vert k }, record { 0 = sym edge k })

-- ---- corners

-- a face that has a corner at a position is there
pub corner_there : (c : Complex) (f i : ℕ) → i < length (corners_of (record_at c.faces f))
    → is_some (record_at c.faces f) ≡ true
corner_there c f i h = by_face (record_at c.faces f) h
  where
    by_face : (o : Option FaceRec) → i < length (corners_of o) → is_some o ≡ true
    by_face None l = absurd (omega arith)
    by_face (Some x) l = refl

-- a position of a corner is one of a loop
pub loop_within : (st : Stored) (n : Counters) (lists : NameLists) (w : IsWhole st n) (k : ℕ) (s : Slot)
    → at st.faces.names k ≡ Some s → (c : Complex) → read_off st n lists ≡ c
    → (i : ℕ) → i < length (corners_of (record_at c.faces k)) → i < length (loops_in st s.0)
loop_within st n lists w k s named c e i h =
    let P = λ (x : Complex). i < length (corners_of (record_at x.faces k)) in
    let low = subst P (sym e) h in
    let same = ap length (corners_read st n lists w k s named) in
    let long = length-map (loops_in st s.0) (corner_rec st) in
    omega arith

-- a loop of a face is there
pub loop_there : (st : Stored) → AreCycles st → (f i : ℕ) (l : Slot) → slice_get (loops_in st f) i ≡ Some l
    → IsAt (loop_in st) l.0
loop_there st h f i l e = loop_is_at st l.0 (in_live st h f l (got_member (loops_in st f) i l e))
  where
    got_member : (xs : List Slot) (j : ℕ) (x : Slot) → slice_get xs j ≡ Some x → HasMember xs x
    got_member [] j x q = absurd (let no : None ≡ Some x = q in cc)
    got_member (y ∷ ys) zero x q = inl (same_Some _ _ q)
    got_member (y ∷ ys) (suc j) x q = inr (got_member ys j x q)

-- a loop's row is that of its corner
pub corner_row : (st : Stored) (l : Slot) → IsAt (loop_in st) l.0 → (corner_rec st l).vals ≡ row_of st.values.loops l.0
corner_row st l is =
    let c = live_cell st.loops l.0 (loop_live st l.0 is) in
    let tell = λ (x : LoopCell). let y : StoredLoop =
    record { vert = x.vert; edge = x.edge; face = x.face; vals = row_of st.values.loops l.0 } in y in
    ap (λ (o : Option LoopCell). (option_map_or (loop_rec st) (option_map tell o) no_corner).vals) c.1

pub corner_value_read : (st : Stored) (n : Counters) (lists : NameLists) (w : IsWhole st n) (f : ℕ) (s : Slot)
    → at st.faces.names f ≡ Some s → (i k : ℕ) (l : Slot) → slice_get (loops_in st s.0) i ≡ Some l
    → option_map (λ (r : CornerRec). slice_get r.vals k) (slice_get
    (corners_of (record_at (read_off st n lists).faces f)) i) ≡ Some (slice_get (row_of st.values.loops l.0) k)
corner_value_read st n lists w f s named i k l e =
    let row = corner_row st l (loop_there st w.cycles.cycles s.0 i l e) in
    ap (option_map (λ (r : CornerRec). slice_get r.vals k)) (corner_read st n lists w f s named i l e)
    ∙ ap (λ (vs : List ℤ). Some (slice_get vs k)) row

pub loops_count : (st : Stored) (n : Counters) (lists : NameLists) (w : IsWhole st n) (f : ℕ) (s : Slot)
    → at st.faces.names f ≡ Some s → length (loops_in st s.0)
    ≡ length (corners_of (record_at (read_off st n lists).faces f))
loops_count st n lists w f s named = sym (ap length (corners_read st n lists w f s named)
    ∙ length-map (loops_in st s.0) (corner_rec st))

pub all_names_read : (st : Stored) (n : Counters) (lists : NameLists) (w : IsWhole st n) (f : ℕ) (s : Slot)
    → at st.faces.names f ≡ Some s
    → map (names_at st) (loops_in st s.0) ≡ map (λ (k : CornerRec). (k.vert, k.edge))
    (corners_of (record_at (read_off st n lists).faces f))
all_names_read st n lists w f s named =
    let pair : CornerRec → VertName × EdgeName = λ k. (k.vert, k.edge) in
    sym (ap (map pair) (corners_read st n lists w f s named) ∙ map_after pair (corner_rec st) (loops_in st s.0))

-- pieces of a mapped list
pieces_mapped : {A B C : Type 0} (piece : B → List C) (f : A → B) (other : A → List C) (xs : List A)
    → ((x : A) → HasMember xs x → piece (f x) ≡ other x) → flat_map piece (map f xs) ≡ flat_map other xs
pieces_mapped piece f other [] h = refl
pieces_mapped {C = C} piece f other (x ∷ xs) h =
    let one = h x (inl refl) in
    let more = pieces_mapped piece f other xs (λ y m. h y (inr m)) in
    λ i. one i ++ more i

pub all_rows_read : (st : Stored) (n : Counters) (lists : NameLists) (w : IsWhole st n) (f : ℕ) (s : Slot)
    → at st.faces.names f ≡ Some s
    → flat_map (λ (l : Slot). row_of st.values.loops l.0) (loops_in st s.0)
    ≡ flat_map (λ (k : CornerRec). k.vals) (corners_of (record_at (read_off st n lists).faces f))
all_rows_read st n lists w f s named =
    let vals = λ (k : CornerRec). k.vals in
    sym (ap (flat_map vals) (corners_read st n lists w f s named)
    ∙ pieces_mapped vals (corner_rec st) (λ (l : Slot). row_of st.values.loops l.0) (loops_in st s.0)
    (λ l m. corner_row st l (loop_is_at st l.0 (in_live st w.cycles.cycles s.0 l m))))
