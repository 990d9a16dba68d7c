-- Whether a mesh can lose a vertex.
use Rattle.std.proofs.Common.{◌≡◌, ◌<◌, ◌≤◌, ◌+◌, ℕ, Bool, true, false, not, ◌||◌, ◌&&◌, is_some, List, [], ◌∷◌, Option, Some, None, length, map, take, refl, sym, ap, ◌∙◌}
use Rattle.std.specs.List.{list_any, list_all}
use Rattle.std.specs.Option.{option_map, option_and_then}
use Rattle.std.proofs.lemmas.Bool.{false≢true, false_from_ne_true}
use Rattle.std.proofs.lemmas.List.{take_all}
use Rattle.std.proofs.lemmas.List.Folds.{list_all_more}
use Rattle.mesh_model.proofs.Lists.{list_all-All}
use Rattle.raw_pool.specs.declared.pool.Slot.{Slot}
use Rattle.mesh_store.specs.Slots.{at}
use Rattle.mesh_store.specs.Stored.{Stored}
use Rattle.mesh_cycles.specs.Found.{loops_in}
use Rattle.mesh_model.specs.Table.{at as record_at, passes, allows}
use Rattle.mesh_model.specs.Complex.{Complex, corners_of}
use Rattle.mesh_model.specs.Incidence.{has_end, uses_vert, is_at}
use Rattle.mesh_model.specs.Kernel.{uses_edge_at}
use Rattle.mesh_model.specs.declared.names.VertName.{VertName}
use Rattle.mesh_model.specs.declared.records.CornerRec.{CornerRec}
use Rattle.mesh_model.specs.declared.records.FaceRec.{FaceRec}
use Rattle.mesh_model.specs.declared.records.Counters.{Counters}
use Rattle.mesh_records.specs.ReadOff.{NameLists, corner_rec, face_rec, edge_at, read_off}
use Rattle.mesh_records.specs.AtSlots.{face_in}
use Rattle.mesh_records.specs.Whole.{IsWhole}
use Rattle.mesh_records.proofs.Options.{there}
use Rattle.mesh_records.proofs.Elements.{name_live, face_is_at}
use Rattle.mesh_records.proofs.ByName.{edges_all, faces_all}

-- ---- a test of the elements of a list, from the first one on

-- the first one passes
pub any_here : {X : Type 0} (test : X → Bool) (xs rest : List X) (x : X) → xs ≡ x ∷ rest → test x ≡ true
    → list_any test xs ≡ true
any_here test xs rest x e on = ap (list_any test) e ∙ ap (λ (b : Bool). b || list_any test rest) on

-- it doesn't
pub any_ahead : {X : Type 0} (test : X → Bool) (xs rest : List X) (x : X) → xs ≡ x ∷ rest → test x ≡ false
    → list_any test xs ≡ list_any test rest
any_ahead test xs rest x e off = ap (list_any test) e ∙ ap (λ (b : Bool). b || list_any test rest) off

-- the elements of a mapped list
any_mapped : {X Y : Type 0} (test : Y → Bool) (f : X → Y) (xs : List X)
    → list_any test (map f xs) ≡ list_any (λ (x : X). test (f x)) xs
any_mapped test f [] = refl
any_mapped test f (x ∷ xs) = ap (λ (b : Bool). test (f x) || b) (any_mapped test f xs)

-- tests that agree
any_same : {X : Type 0} (p q : X → Bool) → ((x : X) → p x ≡ q x) → (xs : List X) → list_any p xs ≡ list_any q xs
any_same p q same [] = refl
any_same {X} p q same (x ∷ xs) = let more = any_same p q same xs in λ i. same x i || more i

-- ---- a test of all entries of a table

-- one entry more passes
pub all_more : {X : Type 0} (test : Option X → Bool) (xs : List (Option X)) (n : ℕ) → n < length xs
    → list_all test (take n xs) ≡ true → test (record_at xs n) ≡ true → list_all test (take (n + 1) xs) ≡ true
all_more test xs n low so_far on = list_all_more test xs n None low ∙ (λ i. so_far i && on i)

-- an entry doesn't
pub all_but : {X : Type 0} (test : Option X → Bool) (xs : List (Option X)) (n : ℕ) → n < length xs
    → test (record_at xs n) ≡ false → list_all test xs ≡ false
all_but test xs n low off = false_from_ne_true (list_all test xs)
    (λ q. false≢true (sym off ∙ list_all-All test xs q n None low))

-- all do
pub all_of : {X : Type 0} (test : Option X → Bool) (xs : List (Option X)) (n : ℕ) → length xs ≤ n
    → list_all test (take n xs) ≡ true → list_all test xs ≡ true
all_of {X} test xs n high so_far = sym (ap (list_all test) (take_all n xs high)) ∙ so_far

-- ---- a face that may keep a vertex from going

-- a corner at the vertex
abbrev pub at_vert : Stored → VertName → Slot → Bool
at_vert st v l = is_at v (corner_rec st l)

-- a corner along an edge that ends there
abbrev pub along_edge_at : Stored → VertName → Slot → Bool
along_edge_at st v l = passes (has_end v) (edge_at st (corner_rec st l).edge.0)

-- the face without the one, or with the other
abbrev pub lets_go : Complex → VertName → FaceRec → Bool
lets_go c v r = not (uses_vert v r) || uses_edge_at c v r

lets_go_there : (c : Complex) (v : VertName) (o : Option FaceRec) (ks : List CornerRec) → is_some o ≡ true
    → corners_of o ≡ ks
    → allows (lets_go c v) o ≡ (not (list_any (is_at v) ks)
    || list_any (λ (k : CornerRec). passes (has_end v) (record_at c.edges k.edge.0)) ks)
lets_go_there c v None ks h e = absurd (false≢true h)
lets_go_there c v (Some r) ks h e =
    ap (λ (cs : List CornerRec). not (list_any (is_at v) cs)
    || list_any (λ (k : CornerRec). passes (has_end v) (record_at c.edges k.edge.0)) cs) e

module _ (st : Stored) (n : Counters) (lists : NameLists) (w : IsWhole st n) (v : VertName) (k : ℕ) where
  -- no face stands at the name
  pub none_keeps : at st.faces.names k ≡ None
      → allows (lets_go (read_off st n lists) v) (record_at (read_off st n lists).faces k) ≡ true
  none_keeps none =
      ap (allows (lets_go (read_off st n lists) v)) (faces_all st n w.records k
      ∙ ap (option_and_then (λ (x : Slot). option_map (face_rec st x.0) (face_in st x.0))) none)

  -- a face stands there: its loops tell
  pub loops_tell : (s : Slot) → at st.faces.names k ≡ Some s
      → (not (list_any (at_vert st v) (loops_in st s.0)) || list_any (along_edge_at st v) (loops_in st s.0))
      ≡ allows (lets_go (read_off st n lists) v) (record_at (read_off st n lists).faces k)
  loops_tell s named =
      let c = read_off st n lists in
      let loops = loops_in st s.0 in
      let E = λ (x : CornerRec). passes (has_end v) (record_at c.edges x.edge.0) in
      let f = there (face_in st s.0) (face_is_at st s.0 (name_live w.records.named.faces k s named)) in
      let stands : record_at c.faces k ≡ Some (face_rec st s.0 f.0) = faces_all st n w.records k
      ∙ ap (option_and_then (λ (x : Slot). option_map (face_rec st x.0) (face_in st x.0))) named
      ∙ ap (option_map (face_rec st s.0)) f.1 in
      let along : list_any E (map (corner_rec st) loops) ≡ list_any (along_edge_at st v) loops =
      any_mapped E (corner_rec st) loops
      ∙ any_same (λ (l : Slot). E (corner_rec st l)) (along_edge_at st v)
      (λ l. ap (passes (has_end v)) (edges_all st n w.records (corner_rec st l).edge.0)) loops in
      let meets = any_mapped (is_at v) (corner_rec st) loops in
      sym (lets_go_there c v (record_at c.faces k) (map (corner_rec st) loops)
      (ap (λ (o : Option FaceRec). is_some o) stands) (ap corners_of stands)
      ∙ (λ i. not (meets i) || along i))
