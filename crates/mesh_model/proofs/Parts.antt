-- A part of a complex, with all that its records name, is linked, valid and simple.
use Rattle.std.proofs.Common.{◌≡◌, ℕ, ◌≤◌, true, suc, List, [], ◌∷◌, length, refl, sym, ap, ◌∙◌, subst, arith, Option}
use Rattle.std.proofs.Common.{Some, None}
use Rattle.std.specs.List.{All, list_all, zip}
use Rattle.std.proofs.lemmas.Bool.{and_parts, and_from}
use Rattle.std.proofs.lemmas.List.Elements.{All-head, All-tail}
use Rattle.std.proofs.lemmas.List.Sums.{sum_by-cons}
use Rattle.cust_data.specs.Layers.{total}
use Rattle.mesh_model.specs.Table.{at, passes, IsThere}
use Rattle.mesh_model.specs.Complex.{KindLayers, Complex, layers_of, corners_of, corner_sum, verts_of}
use Rattle.mesh_model.specs.Incidence.{joins, sides}
use Rattle.mesh_model.specs.Valid.{AreKindLayers, IsLinked, is_along_side, IsValid, IsSimple, IsSound}
use Rattle.mesh_model.specs.declared.names.Kind.TheVariants.{Verts, Edges, Corners, Faces}
use Rattle.mesh_model.specs.declared.names.VertName.{VertName}
use Rattle.mesh_model.specs.declared.records.EdgeRec.{EdgeRec}
use Rattle.mesh_model.specs.declared.records.CornerRec.{CornerRec}
use Rattle.mesh_model.specs.declared.records.FaceRec.{FaceRec}
use Rattle.mesh_model.proofs.Tables.{Extends, stands}
use Rattle.mesh_model.proofs.Grown.{IsFaceValid-same}

-- a corner's vertex and edge are there
pub record IsCornerThere (c : Complex) (k : CornerRec) : Type 0 where
  pub vert : IsThere c.verts k.vert.0
  pub edge : IsThere c.edges k.edge.0

-- d is a part of c with the same next names, layers and materials, and what its edges and faces name is there
pub record IsPart (d c : Complex) : Type 0 where
  pub verts : Extends d.verts c.verts
  pub edges : Extends d.edges c.edges
  pub faces : Extends d.faces c.faces
  pub vert_names : length d.verts ≡ length c.verts
  pub edge_names : length d.edges ≡ length c.edges
  pub face_names : length d.faces ≡ length c.faces
  pub layers : d.layers ≡ c.layers
  pub materials : d.materials ≡ c.materials
  pub ends : (n : ℕ) (e : EdgeRec) → at d.edges n ≡ Some e → IsThere d.verts e.a.0 × IsThere d.verts e.b.0
  pub corners : (n : ℕ) (f : FaceRec) → at d.faces n ≡ Some f → All (IsCornerThere d) f.corners

-- ---- LINKED

pub IsLinked-part : (d c : Complex) → IsPart d c → IsLinked c → IsLinked d
IsLinked-part d c p h = record {
  layers = subst AreKindLayers (sym p.layers) h.layers;
  verts = λ n r is. record {
    vals = (h.verts n r (p.verts n r is)).vals
        ∙ ap (λ (ls : KindLayers). total (layers_of ls Verts)) (sym p.layers);
  };
  edges = λ n e is. let was = h.edges n e (p.edges n e is) in let ends = p.ends n e is in record {
    a = ends.0;
    b = ends.1;
    differ = was.differ;
    vals = was.vals ∙ ap (λ (ls : KindLayers). total (layers_of ls Edges)) (sym p.layers);
  };
  faces = λ n f is. let was = h.faces n f (p.faces n f is) in record {
    some = was.some;
    corners = λ k q less. let there = p.corners n f is k q less in record {
      vert = there.vert;
      edge = there.edge;
      vals = (was.corners k q less).vals ∙ ap (λ (ls : KindLayers). total (layers_of ls Corners)) (sym p.layers);
    };
    vals = was.vals ∙ ap (λ (ls : KindLayers). total (layers_of ls Faces)) (sym p.layers);
  };
}

-- ---- VALID

along-part : (d c : Complex) → Extends d.edges c.edges → (ks : List CornerRec) (ss : List (VertName × VertName))
    → All (IsCornerThere d) ks → list_all (is_along_side c.edges) (zip ks ss) ≡ true
    → list_all (is_along_side d.edges) (zip ks ss) ≡ true
along-part d c within [] ss there h = refl
along-part d c within (k ∷ ks) [] there h = refl
along-part d c within (k ∷ ks) (s ∷ ss) there h =
    let both = and_parts (is_along_side c.edges (k, s)) (list_all (is_along_side c.edges) (zip ks ss)) h in
    let it = stands (at d.edges k.edge.0) (All-head (IsCornerThere d) k ks there).edge in
    let here : is_along_side d.edges (k, s) ≡ true =
    ap (passes (joins s.0 s.1)) (it.1 ∙ sym (within k.edge.0 it.0 it.1)) ∙ both.0 in
    and_from (is_along_side d.edges (k, s)) (list_all (is_along_side d.edges) (zip ks ss)) here
    (along-part d c within ks ss (All-tail (IsCornerThere d) k ks there) both.1)

-- a part has no more corners
pub corner_sum-within : (s t : List (Option FaceRec)) → length s ≡ length t → Extends s t → corner_sum s ≤ corner_sum t
corner_sum-within [] t long within = omega arith
corner_sum-within (o ∷ os) [] long within = absurd (omega arith)
corner_sum-within (o ∷ os) (p ∷ ps) long within =
    let size : Option FaceRec → ℕ = λ x. length (corners_of x) in
    omega (
      arith,
      corner_sum-within os ps (omega arith) (λ n x is. within (suc n) x is),
      one o (λ x is. within 0 x is),
      sum_by-cons size o os,
      sum_by-cons size p ps,
    )
  where
    one : (a : Option FaceRec) → ((x : FaceRec) → a ≡ Some x → p ≡ Some x)
        → length (corners_of a) ≤ length (corners_of p)
    one None same = omega arith
    one (Some f) same = let is = same f refl in rw is (omega arith)

pub IsValid-part : (d c : Complex) → IsPart d c → IsValid c → IsValid d
IsValid-part d c p h = record {
  linked = IsLinked-part d c p h.linked;
  verts = λ n r is. h.verts n r (p.verts n r is);
  edges = λ n e is. h.edges n e (p.edges n e is);
  faces = λ n f is.
      let was = h.faces n f (p.faces n f is) in
      let closed = along-part d c p.edges f.corners (sides (verts_of f.corners)) (p.corners n f is)
      was.polygon.closed in
      let few : length c.materials ≤ length d.materials = omega (arith, ap length p.materials) in
      IsFaceValid-same d c p.layers few f (record {
        least = was.polygon.least;
        most = was.polygon.most;
        distinct =
            was.polygon.distinct;
        closed = closed;
      }) was;
  limits = record {
    verts = rw p.vert_names h.limits.verts;
    edges = rw p.edge_names h.limits.edges;
    faces = rw p.face_names h.limits.faces;
    corners = let few = h.limits.corners in let less = corner_sum-within d.faces c.faces p.face_names p.faces in
        omega arith;
  };
}

-- ---- SIMPLE

pub IsSimple-part : (d c : Complex) → Extends d.edges c.edges → IsSimple c → IsSimple d
IsSimple-part d c within h m n e f at_m at_n same = h m n e f (within m e at_m) (within n f at_n) same

pub IsSound-part : (d c : Complex) → IsPart d c → IsSound c → IsSound d
IsSound-part d c p h = record { valid = IsValid-part d c p h.valid; simple = IsSimple-part d c p.edges h.simple }
