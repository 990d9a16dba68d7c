-- A complex with records more, each of them right by itself, is linked, valid and simple.
use Rattle.std.proofs.Common.{◌≡◌, ℕ, ◌≤◌, true, ◌&&◌, IsTrue, ◌⊎◌, inl, inr, ℤ, pos, negsuc, int_le, List, [], ◌∷◌}
use Rattle.std.proofs.Common.{length, get_or, refl, sym, ap, ◌∙◌, subst, arith, Option, Some, None}
use Rattle.std.specs.List.{list_all, zip}
use Rattle.std.proofs.lemmas.Bool.{and_parts, and_from, leb-true, le-leb}
use Rattle.cust_data.specs.Layers.{total}
use Rattle.mesh_model.specs.Table.{at, allows, IsThere}
use Rattle.mesh_model.specs.Complex.{KindLayers, Complex, layers_of, verts_of, material_layer, smooth_layer}
use Rattle.mesh_model.specs.Values.{number_in}
use Rattle.mesh_model.specs.Incidence.{joins, sides}
use Rattle.mesh_model.specs.Valid.{AreKindLayers, IsVertLinked, IsEdgeLinked, IsCornerLinked, IsFaceLinked, IsLinked}
use Rattle.mesh_model.specs.Valid.{is_along_side, IsPolygon, is_material, is_smooth, IsVertValid, IsEdgeValid}
use Rattle.mesh_model.specs.Valid.{IsFaceValid, IsWithinLimits, IsValid, IsSimple, IsSound}
use Rattle.mesh_model.specs.declared.names.Kind.TheVariants.{Verts, Edges, Corners, Faces}
use Rattle.mesh_model.specs.declared.names.VertName.{VertName}
use Rattle.mesh_model.specs.declared.records.EdgeRec.{EdgeRec}
use Rattle.mesh_model.specs.declared.records.CornerRec.{CornerRec}
use Rattle.mesh_model.specs.declared.records.FaceRec.{FaceRec}
use Rattle.mesh_model.specs.declared.records.VertRec.{VertRec}
use Rattle.mesh_model.proofs.Edges.{joins-symm}
use Rattle.mesh_model.proofs.Tables.{Extends, there-Extends, passes-Extends}

-- d is c with records more: what stood stands, with the same layers and no fewer materials
pub record IsGrown (d c : Complex) : Type 0 where
  pub verts : Extends c.verts d.verts
  pub edges : Extends c.edges d.edges
  pub faces : Extends c.faces d.faces
  pub layers : d.layers ≡ c.layers
  pub materials : length c.materials ≤ length d.materials

-- each record of a table stood in an earlier one, or has a property
abbrev pub EachNew : {X : Type 0} → (X → Type 0) → List (Option X) → List (Option X) → Type 0
EachNew {X} P old new = (n : ℕ) (x : X) → at new n ≡ Some x → (at old n ≡ Some x) ⊎ P x

-- the new records are linked
pub record AreNewLinked (d c : Complex) : Type 0 where
  pub verts : EachNew (IsVertLinked d) c.verts d.verts
  pub edges : EachNew (IsEdgeLinked d) c.edges d.edges
  pub faces : EachNew (IsFaceLinked d) c.faces d.faces

-- the new records are valid, and the limits hold
pub record AreNewValid (d c : Complex) : Type 0 where
  pub verts : EachNew IsVertValid c.verts d.verts
  pub edges : EachNew IsEdgeValid c.edges d.edges
  pub faces : EachNew (IsFaceValid d) c.faces d.faces
  pub limits : IsWithinLimits d

-- an edge that has the same two ends as a new one is that one
abbrev pub AreNewSimple : Complex → Complex → Type 0
AreNewSimple d c = (m n : ℕ) (e f : EdgeRec) → at d.edges m ≡ Some e → at d.edges n ≡ Some f → IsTrue (joins e.a e.b f)
    → (at c.edges m ≡ Some e) ⊎ (m ≡ n)

-- ---- LINKED

-- what c's records name is there in d, with the same layers
pub record Keeps (d c : Complex) : Type 0 where
  pub verts : (n : ℕ) → IsThere c.verts n → IsThere d.verts n
  pub edges : (n : ℕ) → IsThere c.edges n → IsThere d.edges n
  pub layers : d.layers ≡ c.layers

pub Keeps-grown : (d c : Complex) → IsGrown d c → Keeps d c
Keeps-grown d c g =
    record {
      verts = there-Extends c.verts d.verts g.verts;
      edges = there-Extends c.edges d.edges g.edges;
      layers =
          g.layers;
    }

pub IsVertLinked-kept : (d c : Complex) → Keeps d c → (r : VertRec) → IsVertLinked c r → IsVertLinked d r
IsVertLinked-kept d c g r l =
    record { vals = l.vals ∙ ap (λ (ls : KindLayers). total (layers_of ls Verts)) (sym g.layers) }

pub IsEdgeLinked-kept : (d c : Complex) → Keeps d c → (e : EdgeRec) → IsEdgeLinked c e → IsEdgeLinked d e
IsEdgeLinked-kept d c g e l = record {
  a = g.verts e.a.0 l.a;
  b = g.verts e.b.0 l.b;
  differ = l.differ;
  vals = l.vals ∙ ap (λ (ls : KindLayers). total (layers_of ls Edges)) (sym g.layers);
}

pub IsCornerLinked-kept : (d c : Complex) → Keeps d c → (k : CornerRec) → IsCornerLinked c k → IsCornerLinked d k
IsCornerLinked-kept d c g k l = record {
  vert = g.verts k.vert.0 l.vert;
  edge = g.edges k.edge.0 l.edge;
  vals = l.vals ∙ ap (λ (ls : KindLayers). total (layers_of ls Corners)) (sym g.layers);
}

pub IsFaceLinked-kept : (d c : Complex) → Keeps d c → (f : FaceRec) → IsFaceLinked c f → IsFaceLinked d f
IsFaceLinked-kept d c g f l = record {
  some = l.some;
  corners = λ k q less. IsCornerLinked-kept d c g (get_or f.corners k q) (l.corners k q less);
  vals = l.vals ∙ ap (λ (ls : KindLayers). total (layers_of ls Faces)) (sym g.layers);
}

-- a complex that keeps what records name, and whose new records are linked, is linked
pub IsLinked-kept : (d c : Complex) → Keeps d c → AreNewLinked d c → IsLinked c → IsLinked d
IsLinked-kept d c g new h = record {
  layers = subst AreKindLayers (sym g.layers) h.layers;
  verts = λ n r is. elim (new.verts n r is)
      [ inl old ↦ IsVertLinked-kept d c g r (h.verts n r old) | inr right ↦ right ];
  edges = λ n e is. elim (new.edges n e is)
      [ inl old ↦ IsEdgeLinked-kept d c g e (h.edges n e old) | inr right ↦ right ];
  faces = λ n f is. elim (new.faces n f is)
      [ inl old ↦ IsFaceLinked-kept d c g f (h.faces n f old) | inr right ↦ right ];
}

pub IsLinked-grown : (d c : Complex) → IsGrown d c → AreNewLinked d c → IsLinked c → IsLinked d
IsLinked-grown d c g new h = IsLinked-kept d c (Keeps-grown d c g) new h

-- ---- VALID

along-grown : (d c : Complex) → Extends c.edges d.edges → (ps : List (CornerRec × (VertName × VertName)))
    → list_all (is_along_side c.edges) ps ≡ true → list_all (is_along_side d.edges) ps ≡ true
along-grown d c more [] h = refl
along-grown d c more (p ∷ ps) h =
    let both = and_parts (is_along_side c.edges p) (list_all (is_along_side c.edges) ps) h in
    and_from (is_along_side d.edges p) (list_all (is_along_side d.edges) ps)
    (passes-Extends (joins p.1.0 p.1.1) c.edges d.edges more p.0.edge.0 both.0) (along-grown d c more ps both.1)

-- a polygon stays one where its edges stay
pub IsPolygon-Extends : (d c : Complex) → Extends c.edges d.edges → (corners : List CornerRec)
    → IsPolygon c.edges corners → IsPolygon d.edges corners
IsPolygon-Extends d c more corners r =
    record {
      least = r.least;
      most = r.most;
      distinct = r.distinct;
      closed =
          along-grown d c more (zip corners (sides (verts_of corners))) r.closed;
    }

more_materials : (m n : ℕ) → m ≤ n → (x : ℤ) → (int_le (pos 0) x && int_le x (pos m)) ≡ true
    → (int_le (pos 0) x && int_le x (pos n)) ≡ true
more_materials m n le (pos k) h =
    let both = and_parts (int_le (pos 0) (pos k)) (int_le (pos k) (pos m)) h in
    let less = leb-true k m both.1 in
    and_from (int_le (pos 0) (pos k)) (int_le (pos k) (pos n)) both.0 (le-leb k n (omega arith))
more_materials m n le (negsuc k) h = h

material-grown : (d c : Complex) → length c.materials ≤ length d.materials → (o : Option ℤ)
    → allows (is_material c) o ≡ true → allows (is_material d) o ≡ true
material-grown d c le None h = refl
material-grown d c le (Some x) h = more_materials (length c.materials) (length d.materials) le x h

-- a valid face stays valid where its polygon, the layers and the materials stay
pub IsFaceValid-same : (d c : Complex) → d.layers ≡ c.layers → length c.materials ≤ length d.materials → (f : FaceRec)
    → IsPolygon d.edges f.corners → IsFaceValid c f → IsFaceValid d f
IsFaceValid-same d c same le f polygon v = record {
  polygon = polygon;
  corners = v.corners;
  vals = v.vals;
  material = material-grown d c le (number_in d.layers.faces material_layer f.vals)
      (ap (λ (ls : KindLayers). allows (is_material c) (number_in ls.faces material_layer f.vals)) same ∙ v.material);
  smooth = ap (λ (ls : KindLayers). allows is_smooth (number_in ls.faces smooth_layer f.vals)) same ∙ v.smooth;
}

pub IsValid-grown : (d c : Complex) → IsGrown d c → AreNewLinked d c → AreNewValid d c → IsValid c → IsValid d
IsValid-grown d c g links new h = record {
  linked = IsLinked-grown d c g links h.linked;
  verts = λ n r is. elim (new.verts n r is) [ inl old ↦ h.verts n r old | inr right ↦ right ];
  edges = λ n e is. elim (new.edges n e is) [ inl old ↦ h.edges n e old | inr right ↦ right ];
  faces = λ n f is. elim (new.faces n f is) [
    | inl old ↦ IsFaceValid-same d c g.layers g.materials f
        (IsPolygon-Extends d c g.edges f.corners (h.faces n f old).polygon) (h.faces n f old)
    | inr right ↦ right
  ];
  limits = new.limits;
}

-- ---- SIMPLE

pub IsSimple-grown : (d c : Complex) → AreNewSimple d c → IsSimple c → IsSimple d
IsSimple-grown d c new h m n e f at_m at_n same = elim (new m n e f at_m at_n same) [
  | inl old_m ↦ elim (new n m f e at_n at_m (sym (joins-symm e f) ∙ same))
      [ inl old_n ↦ h m n e f old_m old_n same | inr is ↦ sym is ]
  | inr is ↦ is
]

pub IsSound-grown : (d c : Complex) → IsGrown d c → AreNewLinked d c → AreNewValid d c → AreNewSimple d c → IsSound c
    → IsSound d
IsSound-grown d c g links new simple h =
    record { valid = IsValid-grown d c g links new h.valid; simple = IsSimple-grown d c simple h.simple }
