-- A complex stays sound with layers that are declared for it.
use Rattle.std.proofs.Common.{◌≡◌, ◌∙◌, ◌≤◌, ◌+◌, ◌++◌, ℕ, zero, suc, ℤ, pos, Bool, true, false, cond, List, [], ◌∷◌}
use Rattle.std.proofs.Common.{Result, Ok, Err, OnOk, OnErr}
use Rattle.std.proofs.Common.{Option, Some, None, is_some, length, map, take, get_or, refl, sym, ap, subst, arith, IsTrue}
use Rattle.std.specs.List.{All, list_all, position, position_from, zip}
use Rattle.std.specs.Option.{option_map, option_or}
use Rattle.std.proofs.lemmas.Bool.{and_from}
use Rattle.std.proofs.lemmas.Iterator.Adapters.{position_from-zero}
use Rattle.std.proofs.lemmas.List.{append-nil, length-append, length-map, get_or-map, take-append-le}
use Rattle.std.proofs.lemmas.List.Folds.{list_all-append}
use Rattle.std.proofs.lemmas.List.Quantifiers.{position-Some}
use Rattle.std.proofs.lemmas.List.Sums.{sum_by_push, sum_by-cons}
use Rattle.std.proofs.Math.Seq.{take-append_seam}
use Rattle.cust_data.specs.Layers.{Layer, total, zeros}
use Rattle.mesh_model.specs.Complex.{KindLayers, Complex, width, layers_of, corner_sum, corners_of, verts_of}
use Rattle.mesh_model.specs.Complex.{material_layer, smooth_layer}
use Rattle.mesh_model.specs.Declaring.{layer_of, with_corner_zeros, with_declared, with_all_declared}
use Rattle.mesh_model.specs.Incidence.{joins, sides}
use Rattle.mesh_model.specs.Table.{at, IsThere, Each, passes, allows, changed}
use Rattle.mesh_model.specs.Valid.{AreKindLayers, IsLinked, IsPolygon, IsWithinLimits, IsSimple, IsSound, is_in_range}
use Rattle.mesh_model.specs.Valid.{are_distinct, is_along_side, is_material, is_smooth}
use Rattle.mesh_model.specs.Values.{number_in, same_layer}
use Rattle.mesh_model.specs.declared.layer_decl.LayerDecl.{LayerDecl}
use Rattle.mesh_model.specs.declared.names.Kind.{Kind}
use Rattle.mesh_model.specs.declared.names.Kind.TheVariants.{Verts, Edges, Corners, Faces}
use Rattle.mesh_model.specs.declared.names.VertName.{VertName}
use Rattle.mesh_model.specs.declared.records.VertRec.{VertRec}
use Rattle.mesh_model.specs.declared.records.EdgeRec.{EdgeRec}
use Rattle.mesh_model.specs.declared.records.CornerRec.{CornerRec}
use Rattle.mesh_model.specs.declared.records.FaceRec.{FaceRec}
use Rattle.mesh_core.specs.Seen.{Seen, now, IsAsBefore}
use Rattle.op_slots.specs.declared.bindings.Binding.{Binding}
use Rattle.mesh_session.specs.State.{State, IsSoundState, IsSoundSession, fresh_state, state_with, view_with}
use Rattle.mesh_session.specs.declared.entry.Entry.{Entry}
use Rattle.mesh_session.proofs.Sounds.{sound_first}
use Rattle.mesh_model.proofs.Right.{IsVertRight, IsEdgeRight, IsFaceRight, AreRight-from_valid, IsValid-from_right}
use Rattle.mesh_model.proofs.Tables.{at-changed, length-changed}
use Rattle.mesh_model.proofs.Zeros.{length-zeros, in_range-zeros, material-zero}

-- ---- ROWS WITH ZEROS BEHIND

-- past its end a row reads as zeros
read_behind : (row : List ℤ) (n i : ℕ) → get_or (row ++ zeros n) i (pos 0) ≡ get_or row i (pos 0)
read_behind [] zero i = refl
read_behind [] (suc n) zero = refl
read_behind [] (suc n) (suc i) = read_behind [] n i
read_behind (x ∷ row) n zero = refl
read_behind (x ∷ row) n (suc i) = read_behind row n i

past_end : (row : List ℤ) (i : ℕ) → length row ≤ i → get_or row i (pos 0) ≡ pos 0
past_end [] i past = refl
past_end (x ∷ row) zero past = absurd (omega arith)
past_end (x ∷ row) (suc i) past = past_end row i (omega arith)

in_range_behind : (row : List ℤ) (n : ℕ) → list_all is_in_range row ≡ true
    → list_all is_in_range (row ++ zeros n) ≡ true
in_range_behind row n h = list_all-append is_in_range row (zeros n)
    ∙ and_from (list_all is_in_range row) (list_all is_in_range (zeros n)) h (in_range-zeros n)

long_behind : (row : List ℤ) (n w v : ℕ) → length row ≡ w → v ≡ w + n → length (row ++ zeros n) ≡ v
long_behind row n w v long more = omega (arith, length-append row (zeros n), length-zeros n)

-- ---- A LAYER BEHIND OTHERS

from_push : {X : Type 0} (p : X → Bool) (i : ℕ) (xs : List X) (x : X)
    → position_from p i (xs ++ x ∷ []) ≡ option_or (position_from p i xs) (cond (p x) (Some (i + length xs)) None)
from_push p i [] x = ap (λ (n : ℕ). cond (p x) (Some n) None) (omega arith)
from_push {X = X} p i (y ∷ ys) x =
    ap (cond (p y) (Some i)) (from_push p (i + 1) ys x)
    ∙ ap (λ (n : ℕ). cond (p y) (Some i) (option_or (position_from p (i + 1) ys) (cond (p x) (Some n) None)))
    (omega arith)
    ∙ out (p y) (position_from p (i + 1) ys) (cond (p x) (Some (i + length (y ∷ ys))) None)
  where
    out : (b : Bool) (o q : Option ℕ) → cond b (Some i) (option_or o q) ≡ option_or (cond b (Some i) o) q
    out true o q = refl
    out false o q = refl

position_push : {X : Type 0} (p : X → Bool) (xs : List X) (x : X)
    → position p (xs ++ x ∷ []) ≡ option_or (position p xs) (cond (p x) (Some (length xs)) None)
position_push p xs x =
    position_from-zero p (xs ++ x ∷ []) ∙ from_push p 0 xs x
    ∙ ap (λ (n : ℕ). option_or (position_from p 0 xs) (cond (p x) (Some n) None)) (omega arith)
    ∙ ap (λ (o : Option ℕ). option_or o (cond (p x) (Some (length xs)) None)) (sym (position_from-zero p xs))

-- a number of a layer is read as before where a layer stands behind, or it is a zero of that layer
number_more : (test : ℤ → Bool) (ls : List Layer) (new l : Layer) (row : List ℤ) (n : ℕ) → length row ≡ total ls
    → test (pos 0) ≡ true → allows test (number_in ls l row) ≡ true
    → allows test (number_in (ls ++ new ∷ []) l (row ++ zeros n)) ≡ true
number_more test ls new l row n long pass was =
    ap (λ (o : Option ℕ). allows test (option_map read o)) (position_push (same_layer l) ls new)
    ∙ by_place (position (same_layer l) ls) refl
  where
    read : ℕ → ℤ
    read k = get_or (row ++ zeros n) (total (take k (ls ++ new ∷ []))) (pos 0)

    last : (b : Bool) → allows test (option_map read (cond b (Some (length ls)) None)) ≡ true
    last true =
        ap test (read_behind row n (total (take (length ls) (ls ++ new ∷ [])))
        ∙ ap (λ (x : List Layer). get_or row (total x) (pos 0)) (take-append_seam ls (new ∷ []))
        ∙ past_end row (total ls) (omega arith)) ∙ pass
    last false = refl

    by_place : (o : Option ℕ) → position (same_layer l) ls ≡ o
        → allows test (option_map read (option_or o (cond (same_layer l new) (Some (length ls)) None))) ≡ true
    by_place None at = last (same_layer l new)
    by_place (Some k) at =
        let below = (position-Some (same_layer l) ls k l at).0 in
        ap test (read_behind row n (total (take k (ls ++ new ∷ [])))
        ∙ ap (λ (x : List Layer). get_or row (total x) (pos 0)) (take-append-le k ls (new ∷ []) (omega arith)))
        ∙ sym (ap (λ (o : Option ℕ). allows test (option_map (λ i. get_or row (total (take i ls)) (pos 0)) o)) at)
        ∙ was

-- ---- RECORDS WITH ZEROS BEHIND THEIR VALUES

abbrev vert_more : ℕ → VertRec → VertRec
vert_more n r = record r { vals = r.vals ++ zeros n }

abbrev edge_more : ℕ → EdgeRec → EdgeRec
edge_more n e = record e { vals = e.vals ++ zeros n }

abbrev corner_more : ℕ → CornerRec → CornerRec
corner_more n k = record k { vals = k.vals ++ zeros n }

abbrev face_more : ℕ → ℕ → FaceRec → FaceRec
face_more n m f = record { corners = map (corner_more n) f.corners; vals = f.vals ++ zeros m }

-- no zeros change nothing
same_vert : (o : Option VertRec) → o ≡ option_map (vert_more 0) o
same_vert None = refl
same_vert (Some r) = ap (λ (vals : List ℤ). Some (record r { vals = vals })) (sym (append-nil r.vals))

same_edge : (o : Option EdgeRec) → o ≡ option_map (edge_more 0) o
same_edge None = refl
same_edge (Some e) = ap (λ (vals : List ℤ). Some (record e { vals = vals })) (sym (append-nil e.vals))

same_corners : (ks : List CornerRec) → ks ≡ map (corner_more 0) ks
same_corners [] = refl
same_corners (k ∷ ks) =
    ap (λ (vals : List ℤ). record k { vals = vals } ∷ ks) (sym (append-nil k.vals))
    ∙ ap (λ (rest : List CornerRec). corner_more 0 k ∷ rest) (same_corners ks)

abbrev faced : List CornerRec → List ℤ → Option FaceRec
faced ks vals = Some (record { corners = ks; vals = vals })

same_face : (o : Option FaceRec) → o ≡ option_map (face_more 0 0) o
same_face None = refl
same_face (Some f) = ap (λ (ks : List CornerRec). faced ks f.vals) (same_corners f.corners)
    ∙ ap (faced (map (corner_more 0) f.corners)) (sym (append-nil f.vals))

same_face_vals : (n : ℕ) (o : Option FaceRec) → option_map (with_corner_zeros n) o ≡ option_map (face_more n 0) o
same_face_vals n None = refl
same_face_vals n (Some f) = ap (faced (map (corner_more n) f.corners)) (sym (append-nil f.vals))

same_face_corners : (n : ℕ) (o : Option FaceRec)
    → option_map (λ (f : FaceRec). record f { vals = f.vals ++ zeros n }) o ≡ option_map (face_more 0 n) o
same_face_corners n None = refl
same_face_corners n (Some f) = ap (λ (ks : List CornerRec). faced ks (f.vals ++ zeros n)) (same_corners f.corners)

-- faces that keep the number of their corners keep the sum
sum_same : (change : FaceRec → FaceRec) (fs : List (Option FaceRec))
    → ((f : FaceRec) → length (change f).corners ≡ length f.corners) → corner_sum (changed change fs) ≡ corner_sum fs
sum_same change [] same = refl
sum_same change (o ∷ fs) same =
    let count = λ (x : Option FaceRec). length (corners_of x) in
    omega (
      arith,
      sum_by-cons count (option_map change o) (changed change fs),
      sum_by-cons count o fs,
      one o,
      sum_same change fs same,
    )
  where
    one : (x : Option FaceRec) → length (corners_of (option_map change x)) ≡ length (corners_of x)
    one None = refl
    one (Some f) = same f

-- ---- A COMPLEX WITH WIDER ROWS

-- the records of d are those of c with so many zeros behind the values of each kind, and its layers are as much wider
record IsWider (c d : Complex) (nv ne nc nf : ℕ) : Type 0 where
  verts : (k : ℕ) → at d.verts k ≡ option_map (vert_more nv) (at c.verts k)
  edges : (k : ℕ) → at d.edges k ≡ option_map (edge_more ne) (at c.edges k)
  faces : (k : ℕ) → at d.faces k ≡ option_map (face_more nc nf) (at c.faces k)
  vert_names : length d.verts ≡ length c.verts
  edge_names : length d.edges ≡ length c.edges
  face_names : length d.faces ≡ length c.faces
  corners : corner_sum d.faces ≡ corner_sum c.faces
  of_verts : width d Verts ≡ width c Verts + nv
  of_edges : width d Edges ≡ width c Edges + ne
  of_corners : width d Corners ≡ width c Corners + nc
  of_faces : width d Faces ≡ width c Faces + nf
  materials : d.materials ≡ c.materials
  numbers : (test : ℤ → Bool) (l : Layer) (row : List ℤ) → length row ≡ width c Faces → test (pos 0) ≡ true
      → allows test (number_in c.layers.faces l row) ≡ true
      → allows test (number_in d.layers.faces l (row ++ zeros nf)) ≡ true

wide_more : (ls : List Layer) (l : Layer) → total (ls ++ l ∷ []) ≡ total ls + l.width
wide_more ls l = sum_by_push (λ (x : Layer). x.width) ls l

numbers_same : (ls : List Layer) (test : ℤ → Bool) (l : Layer) (row : List ℤ)
    → allows test (number_in ls l row) ≡ true → allows test (number_in ls l (row ++ zeros 0)) ≡ true
numbers_same ls test l row was = ap (λ (r : List ℤ). allows test (number_in ls l r)) (append-nil row) ∙ was

-- a complex with a layer of each kind
wider_verts : (c : Complex) (d : LayerDecl) → IsWider c (with_declared c (record d { kind = Verts })) d.width 0 0 0
wider_verts c d = record {
  verts = at-changed (vert_more d.width) c.verts;
  edges = λ k. same_edge (at c.edges k);
  faces = λ k. same_face (at c.faces k);
  vert_names = length-changed (vert_more d.width) c.verts;
  edge_names = refl;
  face_names = refl;
  corners = refl;
  of_verts = wide_more c.layers.verts (layer_of d);
  of_edges = omega arith;
  of_corners = omega arith;
  of_faces = omega arith;
  materials = refl;
  numbers = λ test l row long pass was. numbers_same c.layers.faces test l row was;
}

wider_edges : (c : Complex) (d : LayerDecl) → IsWider c (with_declared c (record d { kind = Edges })) 0 d.width 0 0
wider_edges c d = record {
  verts = λ k. same_vert (at c.verts k);
  edges = at-changed (edge_more d.width) c.edges;
  faces = λ k. same_face (at c.faces k);
  vert_names = refl;
  edge_names = length-changed (edge_more d.width) c.edges;
  face_names = refl;
  corners = refl;
  of_verts = omega arith;
  of_edges = wide_more c.layers.edges (layer_of d);
  of_corners = omega arith;
  of_faces = omega arith;
  materials = refl;
  numbers = λ test l row long pass was. numbers_same c.layers.faces test l row was;
}

wider_corners : (c : Complex) (d : LayerDecl) → IsWider c (with_declared c (record d { kind = Corners })) 0 0 d.width 0
wider_corners c d = record {
  verts = λ k. same_vert (at c.verts k);
  edges = λ k. same_edge (at c.edges k);
  faces = λ k. at-changed (with_corner_zeros d.width) c.faces k ∙ same_face_vals d.width (at c.faces k);
  vert_names = refl;
  edge_names = refl;
  face_names = length-changed (with_corner_zeros d.width) c.faces;
  corners = sum_same (with_corner_zeros d.width) c.faces (λ f. length-map f.corners (corner_more d.width));
  of_verts = omega arith;
  of_edges = omega arith;
  of_corners = wide_more c.layers.corners (layer_of d);
  of_faces = omega arith;
  materials = refl;
  numbers = λ test l row long pass was. numbers_same c.layers.faces test l row was;
}

wider_faces : (c : Complex) (d : LayerDecl) → IsWider c (with_declared c (record d { kind = Faces })) 0 0 0 d.width
wider_faces c d =
    let change : FaceRec → FaceRec = λ (f : FaceRec). record f { vals = f.vals ++ zeros d.width } in
    record {
      verts = λ k. same_vert (at c.verts k);
      edges = λ k. same_edge (at c.edges k);
      faces = λ k. at-changed change c.faces k ∙ same_face_corners d.width (at c.faces k);
      vert_names = refl;
      edge_names = refl;
      face_names = length-changed change c.faces;
      corners = sum_same change c.faces (λ f. refl);
      of_verts = omega arith;
      of_edges = omega arith;
      of_corners = omega arith;
      of_faces = wide_more c.layers.faces (layer_of d);
      materials = refl;
      numbers = λ test l row long pass was. number_more test c.layers.faces (layer_of d) l row d.width long pass was;
    }

-- ---- RECORDS STAY RIGHT

-- a property of what each record becomes
each_became : {X : Type 0} (P Q : X → Type 0) (change : X → X) (s t : List (Option X))
    → ((k : ℕ) → at t k ≡ option_map change (at s k)) → Each P s → ((x : X) → P x → Q (change x)) → Each Q t
each_became {X = X} P Q change s t became h step k y is = go (at s k) refl
  where
    go : (o : Option X) → at s k ≡ o → Q y
    go None was = absurd (let none : at t k ≡ None = became k ∙ ap (option_map change) was in cc)
    go (Some x) was =
        let same : change x ≡ y = let some : at t k ≡ Some (change x) = became k ∙ ap (option_map change) was in cc in
        subst Q same (step x (h k x was))

there_became : {X : Type 0} (change : X → X) (s t : List (Option X))
    → ((k : ℕ) → at t k ≡ option_map change (at s k)) → (k : ℕ) → IsThere s k → IsThere t k
there_became {X = X} change s t became k h = ap is_some (became k) ∙ one (at s k) h
  where
    one : (o : Option X) → is_some o ≡ true → is_some (option_map change o) ≡ true
    one (Some x) some = refl
    one None some = some

-- the same edges are along the sides of corners with zeros behind their values
along_wider : (n m : ℕ) (s t : List (Option EdgeRec)) → ((k : ℕ) → at t k ≡ option_map (edge_more n) (at s k))
    → (ks : List CornerRec) (vs : List (VertName × VertName))
    → list_all (is_along_side t) (zip (map (corner_more m) ks) vs) ≡ list_all (is_along_side s) (zip ks vs)
along_wider n m s t became [] vs = refl
along_wider n m s t became (k ∷ ks) [] = refl
along_wider n m s t became (k ∷ ks) (v ∷ vs) =
    rw (became k.edge.0, one (at s k.edge.0), along_wider n m s t became ks vs) refl
  where
    one : (o : Option EdgeRec) → passes (joins v.0 v.1) (option_map (edge_more n) o) ≡ passes (joins v.0 v.1) o
    one None = refl
    one (Some e) = refl

verts_wider : (n : ℕ) (ks : List CornerRec) → verts_of (map (corner_more n) ks) ≡ verts_of ks
verts_wider n [] = refl
verts_wider n (k ∷ ks) = ap (λ (vs : List VertName). k.vert ∷ vs) (verts_wider n ks)

polygon_wider : (n m : ℕ) (s t : List (Option EdgeRec)) → ((k : ℕ) → at t k ≡ option_map (edge_more n) (at s k))
    → (ks : List CornerRec) → IsPolygon s ks → IsPolygon t (map (corner_more m) ks)
polygon_wider n m s t became ks h =
    let long = length-map ks (corner_more m) in
    record {
      least = let least = h.least in omega arith;
      most = let most = h.most in omega arith;
      distinct = ap are_distinct (verts_wider m ks) ∙ h.distinct;
      closed = ap (λ (vs : List VertName). list_all (is_along_side t) (zip (map (corner_more m) ks) (sides vs)))
          (verts_wider m ks) ∙ along_wider n m s t became ks (sides (verts_of ks)) ∙ h.closed;
    }

-- all that holds of the records of a sound complex, but for its layers
record HasRight (c : Complex) : Type 0 where
  verts : Each (IsVertRight c) c.verts
  edges : Each (IsEdgeRight c) c.edges
  faces : Each (IsFaceRight c) c.faces
  limits : IsWithinLimits c
  simple : IsSimple c

-- edges join the same vertices
simple_wider : (n : ℕ) (c d : Complex) → ((k : ℕ) → at d.edges k ≡ option_map (edge_more n) (at c.edges k))
    → IsSimple c → IsSimple d
simple_wider n c d became simple k m e f at_k at_m joined = go (at c.edges k) (at c.edges m) refl refl
  where
    go : (o q : Option EdgeRec) → at c.edges k ≡ o → at c.edges m ≡ q → k ≡ m
    go None q one two = absurd (let none : at d.edges k ≡ None = became k ∙ ap (option_map (edge_more n)) one in cc)
    go (Some x) None one two =
        absurd (let none : at d.edges m ≡ None = became m ∙ ap (option_map (edge_more n)) two in cc)
    go (Some x) (Some y) one two =
        let some_x : at d.edges k ≡ Some (edge_more n x) = became k ∙ ap (option_map (edge_more n)) one in
        let some_y : at d.edges m ≡ Some (edge_more n y) = became m ∙ ap (option_map (edge_more n)) two in
        let is_x : e ≡ edge_more n x = cc in
        let is_y : f ≡ edge_more n y = cc in
        simple k m x y one two (rw (is_x, is_y) at joined)

right_wider : (c d : Complex) (nv ne nc nf : ℕ) → IsWider c d nv ne nc nf → HasRight c → HasRight d
right_wider c d nv ne nc nf w h = record {
  verts = each_became (IsVertRight c) (IsVertRight d) (vert_more nv) c.verts d.verts w.verts h.verts (λ r right. record {
    linked = record { vals = long_behind r.vals nv (width c Verts) (width d Verts) right.linked.vals w.of_verts };
    valid = record { point = right.valid.point; vals = in_range_behind r.vals nv right.valid.vals };
  });
  edges = each_became (IsEdgeRight c) (IsEdgeRight d) (edge_more ne) c.edges d.edges w.edges h.edges (λ e right. record {
    linked = record {
      a = there_became (vert_more nv) c.verts d.verts w.verts e.a.0 right.linked.a;
      b = there_became (vert_more nv) c.verts d.verts w.verts e.b.0 right.linked.b;
      differ = right.linked.differ;
      vals = long_behind e.vals ne (width c Edges) (width d Edges) right.linked.vals w.of_edges;
    };
    valid = record { vals = in_range_behind e.vals ne right.valid.vals };
  });
  faces = each_became (IsFaceRight c) (IsFaceRight d) (face_more nc nf) c.faces d.faces w.faces h.faces
      (λ f right. record {
        polygon = polygon_wider ne nc c.edges d.edges w.edges f.corners right.polygon;
        corners = λ k e less. (let low = length-map f.corners (corner_more nc) in
            let corner = right.corners k e (omega arith) in
            rw (get_or-map (corner_more nc) f.corners k e e (omega arith)) (record {
              count = long_behind (get_or f.corners k e).vals nc (width c Corners) (width d Corners) corner.count
                  w.of_corners;
              range = in_range_behind (get_or f.corners k e).vals nc corner.range;
            }));
        vals = record {
          count = long_behind f.vals nf (width c Faces) (width d Faces) right.vals.count w.of_faces;
          range = in_range_behind f.vals nf right.vals.range;
          material = rw w.materials (w.numbers (is_material c) material_layer f.vals right.vals.count (material-zero c)
              right.vals.material);
          smooth = w.numbers is_smooth smooth_layer f.vals right.vals.count refl right.vals.smooth;
        };
      });
  limits = record {
    verts = let most = h.limits.verts in omega (arith, w.vert_names);
    edges = let most = h.limits.edges in omega (arith, w.edge_names);
    faces = let most = h.limits.faces in omega (arith, w.face_names);
    corners = let most = h.limits.corners in omega (arith, w.corners);
  };
  simple = simple_wider ne c d w.edges h.simple;
}

right_declared : (c : Complex) (d : LayerDecl) → HasRight c → HasRight (with_declared c d)
right_declared c d h = by_kind d.kind
  where
    by_kind : (kind : Kind) → HasRight (with_declared c (record d { kind = kind }))
    by_kind Verts = right_wider c (with_declared c (record d { kind = Verts })) d.width 0 0 0 (wider_verts c d) h
    by_kind Edges = right_wider c (with_declared c (record d { kind = Edges })) 0 d.width 0 0 (wider_edges c d) h
    by_kind Corners = right_wider c (with_declared c (record d { kind = Corners })) 0 0 d.width 0 (wider_corners c d) h
    by_kind Faces = right_wider c (with_declared c (record d { kind = Faces })) 0 0 0 d.width (wider_faces c d) h

right_all : (c : Complex) (ds : List LayerDecl) → HasRight c → HasRight (with_all_declared c ds)
right_all c [] h = h
right_all c (d ∷ ds) h = right_all (with_declared c d) ds (right_declared c d h)

-- a sound complex with layers that can be held is sound
pub sound_declared : (c new : Complex) (ds : List LayerDecl) → new ≡ with_all_declared c ds → AreKindLayers new.layers
    → IsSound c → IsSound new
sound_declared c new ds is layers h =
    let were = AreRight-from_valid c h.valid in
    let are : HasRight new = rw is (right_all c ds (record {
      verts = were.verts;
      edges = were.edges;
      faces = were.faces;
      limits = h.valid.limits;
      simple = h.simple;
    })) in
    record {
      valid = IsValid-from_right new
          (record { layers = layers; verts = are.verts; edges = are.edges; faces = are.faces }) are.limits;
      simple = are.simple;
    }

-- ---- A SESSION THAT IS LOADED

-- a fresh session is sound with what a mesh was made, and where the mesh is as before
pub sound_loaded : {A E : Type 0} (r : Result A E) (old new : Seen) (draft : Complex) (ds : List LayerDecl)
    (bs : List Binding) (undo redo : List Entry) → OnOk r (now new ≡ with_all_declared draft ds)
    → OnOk r (new.base ≡ now new) → OnErr r (IsAsBefore old new) → IsLinked (now new) → IsSound draft
    → IsSoundSession (view_with old bs undo redo) → state_with (now old) bs undo redo ≡ fresh_state
    → IsSoundSession (view_with new bs undo redo)
sound_loaded (Ok x) old new draft ds bs undo redo made base kept linked sound were fresh =
    let unbound : bs ≡ [] = ap (λ (s : State). s.bindings) fresh in
    let first : undo ≡ [] = ap (λ (s : State). s.undo) fresh in
    let last : redo ≡ [] = ap (λ (s : State). s.redo) fresh in
    record {
      state = rw (unbound, first, last)
          (sound_first (now new) (sound_declared draft (now new) ds made linked.layers sound));
      same = base;
    }
sound_loaded (Err e) old new draft ds bs undo redo made base kept linked sound were fresh = record {
  state = subst (λ (c : Complex). IsSoundState (state_with c bs undo redo)) (sym kept.now) were.state;
  same = kept.base ∙ were.same ∙ sym kept.now;
}
