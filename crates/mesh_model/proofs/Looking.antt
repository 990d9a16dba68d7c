-- What look-ups find, and which names are new.
use Rattle.std.proofs.Common.{◌≡◌, ◌≢◌, ℕ, ◌≤◌, true, false, eqb, List, [], ◌∷◌, length, refl, sym, ◌∙◌, arith, Option}
use Rattle.std.proofs.Common.{Some, None, is_some}
use Rattle.std.specs.Option.{unwrap_or, option_map}
use Rattle.std.specs.List.{All}
use Rattle.std.proofs.lemmas.List.Elements.{All-head, All-tail}
use Rattle.std.proofs.lemmas.List.Sums.{sum_by-cons}
use Rattle.std.proofs.lemmas.Bool.{or_from, ne_eqb}
use Rattle.mesh_model.specs.Table.{at, IsThere, changed}
use Rattle.mesh_model.specs.Complex.{Complex, has, verts_of, corners_of, corner_sum}
use Rattle.mesh_model.specs.Elements.{is_among}
use Rattle.mesh_model.specs.Lookups.{edge_rec, face_rec, vert_rec, no_vert, no_edge, no_face, next_vert}
use Rattle.mesh_model.specs.declared.names.Elem.TheVariants.{Vert, Edge, Face}
use Rattle.mesh_model.specs.declared.names.VertName.{VertName}
use Rattle.mesh_model.specs.declared.names.EdgeName.{EdgeName}
use Rattle.mesh_model.specs.declared.names.FaceName.{FaceName}
use Rattle.mesh_model.specs.declared.records.CornerRec.{CornerRec}
use Rattle.mesh_model.specs.declared.records.FaceRec.{FaceRec}
use Rattle.mesh_model.proofs.Tables.{there-below, at-changed}

pub unwrapped : {X : Type 0} (o : Option X) (d : X) → is_some o ≡ true → o ≡ Some (unwrap_or o d)
unwrapped None d h = absurd (cc)
unwrapped (Some x) d h = refl

-- the record of an element that is there stands at its name
pub at-vert_rec : (c : Complex) (v : VertName) → has c (Vert v) ≡ true → at c.verts v.0 ≡ Some (vert_rec c v)
at-vert_rec c v h = unwrapped (at c.verts v.0) no_vert h

pub at-edge_rec : (c : Complex) (e : EdgeName) → has c (Edge e) ≡ true → at c.edges e.0 ≡ Some (edge_rec c e)
at-edge_rec c e h = unwrapped (at c.edges e.0) no_edge h

pub at-face_rec : (c : Complex) (f : FaceName) → has c (Face f) ≡ true → at c.faces f.0 ≡ Some (face_rec c f)
at-face_rec c f h = unwrapped (at c.faces f.0) no_face h

-- the next name is no name of an element that is there
pub next-new : {X : Type 0} (table : List (Option X)) (n : ℕ) → IsThere table n → n ≢ length table
next-new table n there same = let less = there-below table n there in absurd (omega arith)

-- the next vertex is none of some that are there
pub next_vert-out : (c : Complex) (ks : List CornerRec) → All (λ (k : CornerRec). IsThere c.verts k.vert.0) ks
    → is_among (verts_of ks) (next_vert c) ≡ false
next_vert-out c [] there = refl
next_vert-out c (k ∷ ks) there =
    let P : CornerRec → Type 0 = λ x. IsThere c.verts x.vert.0 in
    or_from (eqb k.vert.0 (length c.verts)) (is_among (verts_of ks) (next_vert c))
    (ne_eqb k.vert.0 (length c.verts) (next-new c.verts k.vert.0 (All-head P k ks there)))
    (next_vert-out c ks (All-tail P k ks there))

-- what a change of all records leaves was a record, changed
pub was-changed : {X : Type 0} (table : List (Option X)) (change : X → X) (n : ℕ) (x : X)
    → at (changed change table) n ≡ Some x → (y : X) × (at table n ≡ Some y) × (x ≡ change y)
was-changed {X = X} table change n x h = of_some (at table n) (sym (at-changed change table n) ∙ h)
  where
    of_some : (o : Option X) → option_map change o ≡ Some x → (y : X) × (o ≡ Some y) × (x ≡ change y)
    of_some None is = absurd (cc)
    of_some (Some y) is = (y, refl, cc)

-- where no face gets more corners, there are no more
pub corner_sum-changed_le : (change : FaceRec → FaceRec) (faces : List (Option FaceRec))
    → ((f : FaceRec) → length (change f).corners ≤ length f.corners)
    → corner_sum (changed change faces) ≤ corner_sum faces
corner_sum-changed_le change [] fewer = omega arith
corner_sum-changed_le change (o ∷ os) fewer =
    let size : Option FaceRec → ℕ = λ x. length (corners_of x) in
    omega (
      arith,
      corner_sum-changed_le change os fewer,
      one o,
      sum_by-cons (λ (x : Option FaceRec). length (corners_of x)) (option_map change o) (changed change os),
      sum_by-cons (λ (x : Option FaceRec). length (corners_of x)) o os,
    )
  where
    one : (a : Option FaceRec) → length (corners_of (option_map change a)) ≤ length (corners_of a)
    one None = omega arith
    one (Some f) = fewer f
