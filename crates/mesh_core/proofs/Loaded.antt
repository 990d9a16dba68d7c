-- A complex is made name by name from another.
use Rattle.std.proofs.Common.{◌≡◌, ◌≢◌, ◌<◌, ◌≤◌, ◌+◌, ◌++◌, ℕ, zero, suc, ℤ, false, is_some, List, [], ◌∷◌, Option, Some, None, length, take, get_or, refl, sym, ap, ◌∙◌, subst, arith}
use Rattle.std.specs.List.{All, slice_get}
use Rattle.std.specs.Option.{option_map}
use Rattle.std.proofs.lemmas.Bool.{false≢true}
use Rattle.std.proofs.lemmas.List.{length-map, length-take, take_all, take_more}
use Rattle.std.proofs.lemmas.List.Sums.{sum_by_push, sum_by-take-le}
use Rattle.mesh_model.specs.Table.{at, update, IsThere}
use Rattle.mesh_model.specs.Complex.{KindLayers, Complex, corner_sum, corners_of}
use Rattle.mesh_model.specs.Valid.{IsCornerLinked, IsLinked}
use Rattle.cust_data.specs.Layers.{total}
use Rattle.std.proofs.lemmas.Option.{slice_get_within, get_or_from_slice_get}
use Rattle.mesh_model.proofs.Tables.{stands}
use Rattle.mesh_model.specs.Kernel.{with_vert_like, with_edge_like, with_face_like, with_vert_vals, with_edge_vals, with_face_vals, with_corner_vals, with_corners_by, changed_at, corner_from}
use Rattle.mesh_model.specs.declared.names.VertName.{VertName}
use Rattle.mesh_model.specs.declared.names.EdgeName.{EdgeName}
use Rattle.mesh_model.specs.declared.names.FaceName.{FaceName}
use Rattle.mesh_model.specs.declared.records.Point.{Point}
use Rattle.mesh_model.specs.declared.records.VertRec.{VertRec}
use Rattle.mesh_model.specs.declared.records.EdgeRec.{EdgeRec}
use Rattle.mesh_model.specs.declared.records.CornerRec.{CornerRec}
use Rattle.mesh_model.specs.declared.records.FaceRec.{FaceRec}
use Rattle.mesh_model.proofs.Copies.{pair}
use Rattle.mesh_model.proofs.Reading.{take_more_get}
use Rattle.mesh_records.proofs.ReadBack.{corner_there}
use Rattle.mesh_records.specs.Loading.{with_vert_name, with_edge_name, with_face_name, verts_to, edges_to, faces_to, corners_to, with_first_corners}

-- ---- tables

-- a change at the last name
update_last : {X : Type 0} (xs : List (Option X)) (n : ℕ) (x : X) (change : X → X) → length xs ≡ n
    → update (xs ++ Some x ∷ []) n change ≡ xs ++ Some (change x) ∷ []
update_last {X} xs n x change long =
    ap (λ (k : ℕ). update (xs ++ Some x ∷ []) k change) (sym long) ∙ at_end xs
  where
    at_end : (ys : List (Option X)) → update (ys ++ Some x ∷ []) (length ys) change ≡ ys ++ Some (change x) ∷ []
    at_end [] = refl
    at_end (y ∷ ys) = ap (λ (t : List (Option X)). y ∷ t) (at_end ys)

-- what stands at the last name
pub at_last : {X : Type 0} (xs : List (Option X)) (n : ℕ) (o : Option X) → length xs ≡ n → at (xs ++ o ∷ []) n ≡ o
at_last {X} xs n o long = ap (λ (k : ℕ). at (xs ++ o ∷ []) k) (sym long) ∙ at_end xs
  where
    at_end : (ys : List (Option X)) → at (ys ++ o ∷ []) (length ys) ≡ o
    at_end [] = refl
    at_end (y ∷ ys) = at_end ys

-- so many names of a table
pub long_front : {X : Type 0} (xs : List X) (n : ℕ) → n ≤ length xs → length (take n xs) ≡ n
long_front xs n low = omega (arith, length-take n xs)

-- nothing stands where nothing is found
pub none_there : {X : Type 0} (o : Option X) → is_some o ≡ false → o ≡ None
none_there None h = refl
none_there (Some x) h = absurd (false≢true (sym h))

-- what is told twice is the same
pub some_same : {X : Type 0} (x y : X) → ◌≡◌ {A = Option X} (Some x) (Some y) → x ≡ y
some_same x y h = cc

-- ---- vertices

-- a vertex as it is told
vert_told : (o : Option VertRec) (p : Point) (vals : List ℤ) → option_map (λ (r : VertRec). r.point) o ≡ Some p
    → option_map (λ (r : VertRec). r.vals) o ≡ Some vals → o ≡ Some (record { point = p; vals = vals })
vert_told None p vals a b = absurd (let q : None ≡ Some p = a in cc)
vert_told (Some r) p vals a b =
    let point = some_same r.point p a in
    let row = some_same r.vals vals b in
    λ i. Some (record { point = point i; vals = row i })

module _ (c : Complex) (n : ℕ) (low : n < length c.verts) where
  pub verts_more : with_vert_name (verts_to c n) (at c.verts n) ≡ verts_to c (n + 1)
  verts_more = ap (λ (t : List (Option VertRec)). let x : Complex = record c { verts = t; edges = []; faces = [] } in x)
      (sym (take_more c.verts n None low))

  pub vert_passed : (m : Complex) → m ≡ verts_to c n → is_some (at c.verts n) ≡ false
      → with_vert_name m None ≡ verts_to c (n + 1)
  vert_passed m is none = ap (λ (x : Complex). with_vert_name x None) is
      ∙ ap (with_vert_name (verts_to c n)) (sym (none_there (at c.verts n) none)) ∙ verts_more

  -- a vertex is made, and the layers are still these
  pub vert_made : (m made : Complex) (p : Point) → m ≡ verts_to c n → made ≡ with_vert_like m p None
      → IsThere made.verts n × (made.layers ≡ c.layers)
  vert_made m made p is like =
      let e = like ∙ ap (λ (x : Complex). with_vert_like x p None) is in (
        ap (λ (x : Complex). is_some (at x.verts n)) e
            ∙ ap (λ (o : Option VertRec). is_some o)
            (at_last (take n c.verts) n _ (long_front c.verts n (omega arith))),
        ap (λ (x : Complex). x.layers) e,
      )

  -- its values are written
  pub vert_loaded : (m made : Complex) (p : Point) (vals : List ℤ) → m ≡ verts_to c n
      → made ≡ with_vert_like m p None → option_map (λ (r : VertRec). r.point) (at c.verts n) ≡ Some p
      → option_map (λ (r : VertRec). r.vals) (at c.verts n) ≡ Some vals
      → with_vert_vals made (record { 0 = n }) vals ≡ verts_to c (n + 1)
  vert_loaded m made p vals is like a b =
      let change = λ (r : VertRec). let q : VertRec = record r { vals = vals } in q in
      ap (λ (x : Complex). with_vert_vals x (record { 0 = n }) vals)
      (like ∙ ap (λ (x : Complex). with_vert_like x p None) is)
      ∙ ap (λ (t : List (Option VertRec)). let x : Complex = record c { verts = t; edges = []; faces = [] } in x)
      (update_last (take n c.verts) n _ change (long_front c.verts n (omega arith)))
      ∙ ap (with_vert_name (verts_to c n)) (sym (vert_told (at c.verts n) p vals a b)) ∙ verts_more

-- ---- edges

-- an edge as it is told
edge_told : (o : Option EdgeRec) (a b : VertName) (vals : List ℤ)
    → option_map (λ (r : EdgeRec). r.a ∷ r.b ∷ []) o ≡ Some (a ∷ b ∷ [])
    → option_map (λ (r : EdgeRec). r.vals) o ≡ Some vals → o ≡ Some (record { a = a; b = b; vals = vals })
edge_told None a b vals e f = absurd (let q : None ≡ Some (a ∷ b ∷ []) = e in cc)
edge_told (Some r) a b vals e f =
    let ends = some_same (r.a ∷ r.b ∷ []) (a ∷ b ∷ []) e in
    let from : r.a ≡ a = ap (λ (vs : List VertName). get_or vs 0 a) ends in
    let to : r.b ≡ b = ap (λ (vs : List VertName). get_or vs 1 b) ends in
    let row = some_same r.vals vals f in
    λ i. Some (record { a = from i; b = to i; vals = row i })

module _ (c : Complex) (n : ℕ) (low : n < length c.edges) where
  pub edges_more : with_edge_name (edges_to c n) (at c.edges n) ≡ edges_to c (n + 1)
  edges_more = ap (λ (t : List (Option EdgeRec)). let x : Complex = record c { edges = t; faces = [] } in x)
      (sym (take_more c.edges n None low))

  pub edge_passed : (m : Complex) → m ≡ edges_to c n → is_some (at c.edges n) ≡ false
      → with_edge_name m None ≡ edges_to c (n + 1)
  edge_passed m is none = ap (λ (x : Complex). with_edge_name x None) is
      ∙ ap (with_edge_name (edges_to c n)) (sym (none_there (at c.edges n) none)) ∙ edges_more

  -- an edge is made, and the layers are still these
  pub edge_made : (m made : Complex) (a b : VertName) → m ≡ edges_to c n → made ≡ with_edge_like m a b None
      → IsThere made.edges n × (made.layers ≡ c.layers)
  edge_made m made a b is like =
      let e = like ∙ ap (λ (x : Complex). with_edge_like x a b None) is in (
        ap (λ (x : Complex). is_some (at x.edges n)) e
            ∙ ap (λ (o : Option EdgeRec). is_some o)
            (at_last (take n c.edges) n _ (long_front c.edges n (omega arith))),
        ap (λ (x : Complex). x.layers) e,
      )

  -- its values are written
  pub edge_loaded : (m made : Complex) (a b : VertName) (vals : List ℤ) → m ≡ edges_to c n
      → made ≡ with_edge_like m a b None
      → option_map (λ (r : EdgeRec). r.a ∷ r.b ∷ []) (at c.edges n) ≡ Some (a ∷ b ∷ [])
      → option_map (λ (r : EdgeRec). r.vals) (at c.edges n) ≡ Some vals
      → with_edge_vals made (record { 0 = n }) vals ≡ edges_to c (n + 1)
  edge_loaded m made a b vals is like e f =
      let change = λ (r : EdgeRec). let q : EdgeRec = record r { vals = vals } in q in
      ap (λ (x : Complex). with_edge_vals x (record { 0 = n }) vals)
      (like ∙ ap (λ (x : Complex). with_edge_like x a b None) is)
      ∙ ap (λ (t : List (Option EdgeRec)). let x : Complex = record c { edges = t; faces = [] } in x)
      (update_last (take n c.edges) n _ change (long_front c.edges n (omega arith)))
      ∙ ap (with_edge_name (edges_to c n)) (sym (edge_told (at c.edges n) a b vals e f)) ∙ edges_more

-- ---- faces

module _ (c : Complex) (n : ℕ) (low : n < length c.faces) where
  pub faces_more : with_face_name (faces_to c n) (at c.faces n) ≡ faces_to c (n + 1)
  faces_more = ap (λ (t : List (Option FaceRec)). let x : Complex = record c { faces = t } in x)
      (sym (take_more c.faces n None low))

  pub face_passed : (m : Complex) → m ≡ faces_to c n → is_some (at c.faces n) ≡ false
      → with_face_name m None ≡ faces_to c (n + 1)
  face_passed m is none = ap (λ (x : Complex). with_face_name x None) is
      ∙ ap (with_face_name (faces_to c n)) (sym (none_there (at c.faces n) none)) ∙ faces_more

  -- a face with all its corners
  pub all_corners : (i : ℕ) → length (corners_of (at c.faces n)) ≤ i → corners_to c n i ≡ faces_to c (n + 1)
  all_corners i past = ap (with_face_name (faces_to c n)) (same (at c.faces n) past) ∙ faces_more
    where
      same : (o : Option FaceRec) → length (corners_of o) ≤ i → option_map (with_first_corners i) o ≡ o
      same None h = refl
      same (Some r) h = let whole = take_all i r.corners h in λ j. Some (record { corners = whole j; vals = r.vals })

  -- the face of the next name is there with its first corners
  pub part_there : (i : ℕ) → at (corners_to c n i).faces n ≡ option_map (with_first_corners i) (at c.faces n)
  part_there i = at_last (take n c.faces) n (option_map (with_first_corners i) (at c.faces n))
      (long_front c.faces n (omega arith))

  -- there are no more corners than in all
  pub few_corners : (i : ℕ) → i ≤ length (corners_of (at c.faces n))
      → corner_sum (corners_to c n i).faces + length (corners_of (at c.faces n)) ≤ corner_sum c.faces + i
  few_corners i within =
      let count = λ (o : Option FaceRec). length (corners_of o) in
      omega (
        arith,
        sum_by_push count (take n c.faces) (option_map (with_first_corners i) (at c.faces n)),
        sum_by_push count (take n c.faces) (at c.faces n),
        ap corner_sum (take_more c.faces n None low),
        sum_by-take-le count c.faces (n + 1),
        part (at c.faces n) within,
      )
    where
      part : (o : Option FaceRec) → i ≤ length (corners_of o)
          → length (corners_of (option_map (with_first_corners i) o)) ≡ i
      part None h = omega arith
      part (Some r) h = omega (arith, length-take i r.corners)

  -- and with a face more
  pub few_faces : corner_sum (faces_to c n).faces + length (corners_of (at c.faces n)) ≤ corner_sum c.faces
  few_faces =
      let count = λ (o : Option FaceRec). length (corners_of o) in
      omega (
        arith,
        sum_by_push count (take n c.faces) (at c.faces n),
        ap corner_sum (take_more c.faces n None low),
        sum_by-take-le count c.faces (n + 1),
      )

  -- a face is made, and the layers are still these
  pub face_made : (m made : Complex) (polygon : List (VertName × EdgeName)) → m ≡ faces_to c n
      → made ≡ with_face_like m polygon None
      → IsThere made.faces n × (length (corners_of (at made.faces n)) ≡ length polygon) × (made.layers ≡ c.layers)
  face_made m made polygon is like =
      let e = like ∙ ap (λ (x : Complex). with_face_like x polygon None) is in
      let here = ap (λ (x : Complex). at x.faces n) e
      ∙ at_last (take n c.faces) n _ (long_front c.faces n (omega arith)) in (
        ap (λ (o : Option FaceRec). is_some o) here,
        ap (λ (o : Option FaceRec). length (corners_of o)) here
            ∙ length-map polygon (corner_from (faces_to c n)),
        ap (λ (x : Complex). x.layers) e,
      )

  module _ (r : FaceRec) (is : at c.faces n ≡ Some r) where
    -- one corner more
    pub corner_more : (i : ℕ) (k : CornerRec) → slice_get r.corners i ≡ Some k
        → with_corners_by (corners_to c n i) (record { 0 = n }) (λ (ks : List CornerRec). ks ++ k ∷ [])
        ≡ corners_to c n (i + 1)
    corner_more i k here =
        let change = λ (f : FaceRec). let q : FaceRec = record f { corners = f.corners ++ k ∷ [] } in q in
        let more = sym (take_more_get r.corners i k here) in
        let F = λ (t : List (Option FaceRec)). let x : Complex = record c { faces = t } in x in
        ap (λ (o : Option FaceRec). F (update (take n c.faces ++ option_map (with_first_corners i) o ∷ []) n change)) is
        ∙ ap F (update_last (take n c.faces) n (with_first_corners i r) change (long_front c.faces n (omega arith)))
        ∙ ap (λ (ks : List CornerRec). F (take n c.faces ++ Some (record { corners = ks; vals = r.vals }) ∷ [])) more
        ∙ ap (λ (o : Option FaceRec). F (take n c.faces ++ option_map (with_first_corners (i + 1)) o ∷ [])) (sym is)

    -- a face is made with its first corner, and its values are written
    pub face_begun : (m made valued : Complex) (k : CornerRec) (polygon : List (VertName × EdgeName)) (vals row : List ℤ)
        → m ≡ faces_to c n → slice_get r.corners 0 ≡ Some k → polygon ≡ pair k ∷ [] → vals ≡ k.vals → row ≡ r.vals
        → made ≡ with_face_like m polygon None → valued ≡ with_corner_vals made (record { 0 = n }) 0 vals
        → with_face_vals valued (record { 0 = n }) row ≡ corners_to c n 1
    face_begun m made valued k polygon vals row begun here one first own like written =
        let long = long_front c.faces n (omega arith) in
        let F = λ (t : List (Option FaceRec)). let x : Complex = record c { faces = t } in x in
        let name : FaceName = record { 0 = n } in
        let revalued = λ (f : FaceRec). let q : FaceRec = record f { vals = r.vals } in q in
        let cornered = λ (f : FaceRec). let q : FaceRec = record f {
          corners =
              changed_at f.corners 0 (λ (x : CornerRec).
              let y : CornerRec = record x { vals = k.vals } in y);
        } in q in
        ap (λ (w : List ℤ). with_face_vals valued name w) own
        ∙ ap (λ (x : Complex). with_face_vals x name r.vals) (written
        ∙ ap (λ (w : List ℤ). with_corner_vals made name 0 w) first
        ∙ ap (λ (x : Complex). with_corner_vals x name 0 k.vals) (like
        ∙ ap (λ (p : List (VertName × EdgeName)). with_face_like m p None) one
        ∙ ap (λ (x : Complex). with_face_like x (pair k ∷ []) None) begun))
        ∙ ap (λ (t : List (Option FaceRec)). F (update t n revalued))
        (update_last (take n c.faces) n _ cornered long)
        ∙ ap F (update_last (take n c.faces) n _ revalued long)
        ∙ ap (λ (ks : List CornerRec). F (take n c.faces ++ Some (record { corners = ks; vals = r.vals }) ∷ []))
        (sym (take_more_get r.corners 0 k here))
        ∙ ap (λ (o : Option FaceRec). F (take n c.faces ++ option_map (with_first_corners 1) o ∷ [])) (sym is)

-- ---- whole tables

module _ (c : Complex) (n : ℕ) where
  pub all_verts : length c.verts ≤ n → verts_to c n ≡ edges_to c 0
  all_verts h = let whole = take_all n c.verts h in λ i. record c { verts = whole i; edges = []; faces = [] }

  pub all_edges : length c.edges ≤ n → edges_to c n ≡ faces_to c 0
  all_edges h = let whole = take_all n c.edges h in λ i. record c { edges = whole i; faces = [] }

  pub all_faces : length c.faces ≤ n → faces_to c n ≡ c
  all_faces h = let whole = take_all n c.faces h in λ i. record c { faces = whole i }

-- ---- corners

-- a polygon of one corner
pub all_one : {X : Type 0} (P : X → Type 0) (x : X) → P x → All P (x ∷ [])
all_one P x p zero d low = p
all_one P x p (suc i) d low = absurd (omega arith)

-- ---- a face of a linked complex

module _ (c : Complex) (n : ℕ) (linked : IsLinked c) (there : IsThere c.faces n) where
  -- it has a corner
  pub has_corner : 0 < length (corners_of (at c.faces n))
  has_corner =
      let it = stands (at c.faces n) there in
      let P = λ (o : Option FaceRec). 0 < length (corners_of o) in
      subst P (sym it.1) (linked.faces n it.0 it.1).some

  -- its corners are linked
  pub corner_linked : (i : ℕ) (k : CornerRec) → slice_get (corners_of (at c.faces n)) i ≡ Some k → IsCornerLinked c k
  corner_linked i k here =
      let it = stands (at c.faces n) there in
      let same = ap (λ (o : Option FaceRec). slice_get (corners_of o) i) (sym it.1) ∙ here in
      subst (IsCornerLinked c) (get_or_from_slice_get (it.0).corners i k k same)
      ((linked.faces n it.0 it.1).corners i k (slice_get_within (it.0).corners i k same))

-- a corner of a face of a linked complex is linked
pub corner_within : (c : Complex) (n : ℕ) → IsLinked c → (i : ℕ) (k : CornerRec)
    → slice_get (corners_of (at c.faces n)) i ≡ Some k → IsCornerLinked c k
corner_within c n linked i k is =
    corner_linked c n linked (corner_there c n i (slice_get_within (corners_of (at c.faces n)) i k is)) i k is

-- a corner is linked in a complex of the same vertices, edges and layers
pub linked_along : (c d : Complex) (k : CornerRec) → d.verts ≡ c.verts → d.edges ≡ c.edges → d.layers ≡ c.layers
    → IsCornerLinked c k → IsCornerLinked d k
linked_along c d k verts edges layers h = record {
  vert = (let P = λ (t : List (Option VertRec)). IsThere t k.vert.0 in subst P (sym verts) h.vert);
  edge = (let P = λ (t : List (Option EdgeRec)). IsThere t k.edge.0 in subst P (sym edges) h.edge);
  vals = h.vals ∙ sym (ap (λ (ls : KindLayers). total ls.corners) layers);
}

-- ---- an edge of a linked complex

-- the ends of an edge in a list, one by one
pub ends_told : (o : Option EdgeRec) (vs : List VertName) (d : VertName)
    → option_map (λ (r : EdgeRec). r.a ∷ r.b ∷ []) o ≡ Some vs
    → option_map (λ (r : EdgeRec). r.a ∷ r.b ∷ []) o ≡ Some (get_or vs 0 d ∷ get_or vs 1 d ∷ [])
ends_told None vs d told = absurd (let q : None ≡ Some vs = told in cc)
ends_told (Some r) vs d told =
    let e = some_same (r.a ∷ r.b ∷ []) vs told in
    λ j. Some (get_or (e j) 0 d ∷ get_or (e j) 1 d ∷ [])

-- they are there, and they differ
pub ends_linked : (c : Complex) (n : ℕ) (vs : List VertName) (d : VertName) → IsLinked c → IsThere c.edges n
    → option_map (λ (r : EdgeRec). r.a ∷ r.b ∷ []) (at c.edges n) ≡ Some vs
    → IsThere c.verts (get_or vs 0 d).0 × IsThere c.verts (get_or vs 1 d).0 × ((get_or vs 0 d).0 ≢ (get_or vs 1 d).0)
ends_linked c n vs d linked there told =
    let it = stands (at c.edges n) there in
    let h = linked.edges n it.0 it.1 in
    let e = some_same ((it.0).a ∷ (it.0).b ∷ []) vs
    (sym (ap (option_map (λ (r : EdgeRec). r.a ∷ r.b ∷ [])) it.1) ∙ told) in
    let A = λ (v : VertName). IsThere c.verts v.0 in
    let a : (it.0).a ≡ get_or vs 0 d = λ j. get_or (e j) 0 d in
    let b : (it.0).b ≡ get_or vs 1 d = λ j. get_or (e j) 1 d in (
      subst A a h.a,
      subst A b h.b,
      λ same. h.differ (ap (λ (v : VertName). v.0) a ∙ same
          ∙ sym (ap (λ (v : VertName). v.0) b)),
    )
