-- A complex is valid where each of its records is right by itself: the edges of a polygon tell that what its corners
-- name is there.
use Rattle.std.proofs.Common.{◌≡◌, ◌≢◌, ℕ, true, eqb, IsTrue, ℤ, pos, int_le, ◌&&◌, List, length, get_or, sym, ap, ◌∙◌}
use Rattle.std.proofs.Common.{subst, inl, inr, arith}
use Rattle.std.specs.List.{All, list_all}
use Rattle.std.proofs.lemmas.Bool.{or_cases, eqb-true}
use Rattle.cust_data.specs.Layers.{total}
use Rattle.mesh_model.specs.Table.{at, IsThere, Each, passes, allows}
use Rattle.mesh_model.specs.Complex.{KindLayers, Complex, layers_of, width, material_layer, smooth_layer}
use Rattle.mesh_model.specs.Values.{number_in}
use Rattle.mesh_model.specs.Incidence.{has_end}
use Rattle.mesh_model.specs.Valid.{AreKindLayers, IsVertLinked, IsEdgeLinked, IsFaceLinked, IsPolygon, IsVertValid}
use Rattle.mesh_model.specs.Valid.{IsEdgeValid, IsFaceValid, IsWithinLimits, IsValid, is_in_range, is_material}
use Rattle.mesh_model.specs.Valid.{is_smooth}
use Rattle.mesh_model.specs.declared.names.Kind.TheVariants.{Verts, Edges, Corners, Faces}
use Rattle.mesh_model.specs.declared.names.VertName.{VertName}
use Rattle.mesh_model.specs.declared.records.VertRec.{VertRec}
use Rattle.mesh_model.specs.declared.records.EdgeRec.{EdgeRec}
use Rattle.mesh_model.specs.declared.records.CornerRec.{CornerRec}
use Rattle.mesh_model.specs.declared.records.FaceRec.{FaceRec}
use Rattle.mesh_model.proofs.Tables.{stands, there_passes}
use Rattle.mesh_model.proofs.Paths.{IsCircle-from_polygon, start_of, nowhere}
use Rattle.mesh_model.proofs.Circles.{path-has_ends}

-- values of corners fit the layers and are in range
pub record AreCornerVals (c : Complex) (vals : List ℤ) : Type 0 where
  pub count : length vals ≡ width c Corners
  pub range : IsTrue (list_all is_in_range vals)

-- so do a corner's
abbrev pub HasVals : Complex → CornerRec → Type 0
HasVals c k = AreCornerVals c k.vals

-- values of a face fit the layers, and are in range
pub record AreFaceVals (c : Complex) (vals : List ℤ) : Type 0 where
  pub count : length vals ≡ width c Faces
  pub range : IsTrue (list_all is_in_range vals)
  pub material : IsTrue (allows (is_material c) (number_in c.layers.faces material_layer vals))
  pub smooth : IsTrue (allows is_smooth (number_in c.layers.faces smooth_layer vals))

-- a face is a polygon with values that are right
pub record IsFaceRight (c : Complex) (f : FaceRec) : Type 0 where
  pub polygon : IsPolygon c.edges f.corners
  pub corners : All (HasVals c) f.corners
  pub vals : AreFaceVals c f.vals

pub record IsVertRight (c : Complex) (r : VertRec) : Type 0 where
  pub linked : IsVertLinked c r
  pub valid : IsVertValid r

pub record IsEdgeRight (c : Complex) (e : EdgeRec) : Type 0 where
  pub linked : IsEdgeLinked c e
  pub valid : IsEdgeValid e

-- each record is right
pub record AreRight (c : Complex) : Type 0 where
  pub layers : AreKindLayers c.layers
  pub verts : Each (IsVertRight c) c.verts
  pub edges : Each (IsEdgeRight c) c.edges
  pub faces : Each (IsFaceRight c) c.faces

-- ---- FROM A VALID COMPLEX, AND BACK

pub IsFaceRight-from_valid : (c : Complex) (f : FaceRec) → IsFaceLinked c f → IsFaceValid c f → IsFaceRight c f
IsFaceRight-from_valid c f l v = record {
  polygon = v.polygon;
  corners = λ k d less. record { count = (l.corners k d less).vals; range = (v.corners k d less).vals };
  vals = record { count = l.vals; range = v.vals; material = v.material; smooth = v.smooth };
}

pub AreRight-from_valid : (c : Complex) → IsValid c → AreRight c
AreRight-from_valid c h = record {
  layers = h.linked.layers;
  verts = λ n r is. record { linked = h.linked.verts n r is; valid = h.verts n r is };
  edges = λ n e is. record { linked = h.linked.edges n e is; valid = h.edges n e is };
  faces = λ n f is. IsFaceRight-from_valid c f (h.linked.faces n f is) (h.faces n f is);
}

-- an end of an edge is there
pub end-there : (c : Complex) → Each (IsEdgeRight c) c.edges → (n : ℕ) (v : VertName)
    → passes (has_end v) (at c.edges n) ≡ true → IsThere c.verts v.0
end-there c right n v h =
    let it = stands (at c.edges n) (there_passes (has_end v) (at c.edges n) h) in
    let linked = (right n it.0 it.1).linked in
    let ends : has_end v it.0 ≡ true = sym (ap (passes (has_end v)) it.1) ∙ h in
    elim (or_cases (eqb it.0.a.0 v.0) (eqb it.0.b.0 v.0) ends) [
      | inl is_a ↦ subst (IsThere c.verts) (eqb-true it.0.a.0 v.0 is_a) linked.a
      | inr is_b ↦ subst (IsThere c.verts) (eqb-true it.0.b.0 v.0 is_b) linked.b
    ]

pub IsFaceLinked-from_right : (c : Complex) → Each (IsEdgeRight c) c.edges → (f : FaceRec) → IsFaceRight c f
    → IsFaceLinked c f
IsFaceLinked-from_right c edges f r =
    let circle = IsCircle-from_polygon c f.corners r.polygon in
    let ends = path-has_ends c.edges f.corners (start_of f.corners nowhere) circle.closed in
    record {
      some = let least = r.polygon.least in omega arith;
      corners = λ k d less. record {
        vert = end-there c edges (get_or f.corners k d).edge.0 (get_or f.corners k d).vert (ends k d less);
        edge = there_passes (has_end (get_or f.corners k d).vert) (at c.edges (get_or f.corners k d).edge.0)
            (ends k d less);
        vals = (r.corners k d less).count;
      };
      vals = r.vals.count;
    }

pub IsFaceValid-from_right : (c : Complex) (f : FaceRec) → IsFaceRight c f → IsFaceValid c f
IsFaceValid-from_right c f r = record {
  polygon = r.polygon;
  corners = λ k d less. record { vals = (r.corners k d less).range };
  vals = r.vals.range;
  material = r.vals.material;
  smooth = r.vals.smooth;
}

pub IsValid-from_right : (c : Complex) → AreRight c → IsWithinLimits c → IsValid c
IsValid-from_right c r limits = record {
  linked = record {
    layers = r.layers;
    verts = λ n x is. (r.verts n x is).linked;
    edges = λ n x is. (r.edges n x is).linked;
    faces = λ n f is. IsFaceLinked-from_right c r.edges f (r.faces n f is);
  };
  verts = λ n x is. (r.verts n x is).valid;
  edges = λ n x is. (r.edges n x is).valid;
  faces = λ n f is. IsFaceValid-from_right c f (r.faces n f is);
  limits = limits;
}

-- ---- A COMPLEX WITH THE SAME LAYERS AND MATERIALS

-- d has the layers and the materials of c
pub record HasSameLayers (d c : Complex) : Type 0 where
  pub layers : d.layers ≡ c.layers
  pub materials : d.materials ≡ c.materials

pub AreCornerVals-same : (d c : Complex) → HasSameLayers d c → (vals : List ℤ) → AreCornerVals c vals
    → AreCornerVals d vals
AreCornerVals-same d c same vals h =
    record {
      count = h.count ∙ ap (λ (ls : KindLayers). total (layers_of ls Corners)) (sym same.layers);
      range =
          h.range;
    }

pub AreFaceVals-same : (d c : Complex) → HasSameLayers d c → (vals : List ℤ) → AreFaceVals c vals → AreFaceVals d vals
AreFaceVals-same d c same vals h = record {
  count = h.count ∙ ap (λ (ls : KindLayers). total (layers_of ls Faces)) (sym same.layers);
  range = h.range;
  material = ap (λ (ls : KindLayers). allows (is_material d) (number_in ls.faces material_layer vals)) same.layers
      ∙ ap (λ (ms : List (List ℕ)). allows (λ n. int_le (pos 0) n && int_le n (pos (length ms)))
      (number_in c.layers.faces material_layer vals)) same.materials ∙ h.material;
  smooth = ap (λ (ls : KindLayers). allows is_smooth (number_in ls.faces smooth_layer vals)) same.layers ∙ h.smooth;
}

pub IsVertRight-same : (d c : Complex) → HasSameLayers d c → (r : VertRec) → IsVertRight c r → IsVertRight d r
IsVertRight-same d c same r h =
    record {
      linked = record {
        vals = h.linked.vals
            ∙ ap (λ (ls : KindLayers). total (layers_of ls Verts)) (sym same.layers);
      };
      valid = h.valid;
    }

-- an edge whose ends are there
pub IsEdgeRight-same : (d c : Complex) → HasSameLayers d c → (e r : EdgeRec) → r.vals ≡ e.vals → IsThere d.verts r.a.0
    → IsThere d.verts r.b.0 → r.a.0 ≢ r.b.0 → IsEdgeRight c e → IsEdgeRight d r
IsEdgeRight-same d c same e r vals a b differ h = record {
  linked = record {
    a = a;
    b = b;
    differ = differ;
    vals = ap length vals ∙ h.linked.vals
        ∙ ap (λ (ls : KindLayers). total (layers_of ls Edges)) (sym same.layers);
  };
  valid = record { vals = ap (list_all is_in_range) vals ∙ h.valid.vals };
}

pub HasVals-same : (d c : Complex) → HasSameLayers d c → (ks : List CornerRec) → All (HasVals c) ks → All (HasVals d) ks
HasVals-same d c same ks h k e less = AreCornerVals-same d c same (get_or ks k e).vals (h k e less)

-- a face whose polygon stays one
pub face-same : (d c : Complex) → HasSameLayers d c → (f : FaceRec) → IsPolygon d.edges f.corners → IsFaceRight c f
    → IsFaceRight d f
face-same d c same f polygon h = record {
  polygon = polygon;
  corners = HasVals-same d c same f.corners h.corners;
  vals =
      AreFaceVals-same d c same f.vals h.vals;
}

-- a face with other corners
pub face-with : (d c : Complex) → HasSameLayers d c → (f : FaceRec) (ks : List CornerRec) → IsPolygon d.edges ks
    → All (HasVals d) ks → IsFaceRight c f → IsFaceRight d (record f { corners = ks })
face-with d c same f ks polygon vals h =
    record { polygon = polygon; corners = vals; vals = AreFaceVals-same d c same f.vals h.vals }
