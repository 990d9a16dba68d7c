-- One record changed: when the complex stays linked, valid and simple.
use Rattle.std.proofs.Common.{◌≡◌, ℕ, ◌+◌, ◌≤◌, true, List, length, refl, sym, ap, ◌∙◌, subst, inl, inr, arith, Option}
use Rattle.std.proofs.Common.{Some}
use Rattle.mesh_model.specs.Table.{at, update, IsThere}
use Rattle.mesh_model.specs.Complex.{Complex, corner_sum}
use Rattle.mesh_model.specs.Incidence.{joins}
use Rattle.mesh_model.specs.Valid.{IsVertLinked, IsEdgeLinked, IsFaceLinked, IsLinked, IsPolygon, IsVertValid}
use Rattle.mesh_model.specs.Valid.{IsEdgeValid, IsFaceValid, IsValid, IsSimple}
use Rattle.mesh_model.specs.declared.limits.TheConstants.{MAX_CORNERS}
use Rattle.mesh_model.specs.declared.names.VertName.{VertName}
use Rattle.mesh_model.specs.declared.names.EdgeName.{EdgeName}
use Rattle.mesh_model.specs.declared.names.FaceName.{FaceName}
use Rattle.mesh_model.specs.declared.records.VertRec.{VertRec}
use Rattle.mesh_model.specs.declared.records.EdgeRec.{EdgeRec}
use Rattle.mesh_model.specs.declared.records.FaceRec.{FaceRec}
use Rattle.mesh_model.proofs.Tables.{length-update, was-updated, is_there-update}
use Rattle.mesh_model.proofs.CornerSums.{corner_sum-update}
use Rattle.mesh_model.proofs.Edges.{joins-symm}
use Rattle.mesh_model.proofs.Grown.{EachNew, Keeps, IsVertLinked-kept, IsEdgeLinked-kept, IsFaceLinked-kept}
use Rattle.mesh_model.proofs.Grown.{IsLinked-kept, IsPolygon-Extends, IsFaceValid-same}

-- a record changed into one that has a property
pub EachNew-update : {X : Type 0} (P : X → Type 0) (table : List (Option X)) (m : ℕ) (change : X → X)
    → ((x : X) → at table m ≡ Some x → P (change x)) → EachNew P table (update table m change)
EachNew-update P table m change has n x is = elim (was-updated table m n change x is) [
  | inl old ↦ inl old
  | inr new ↦ let was = new.1 in inr (subst P (sym was.2) (has was.0 (ap (λ (k : ℕ). at table k) new.0 ∙ was.1)))
]

still_there : {X : Type 0} (table : List (Option X)) (m : ℕ) (change : X → X) (n : ℕ) → IsThere table n
    → IsThere (update table m change) n
still_there table m change n there = is_there-update table m n change ∙ there

-- ---- A VERTEX'S RECORD

abbrev pub update_vert : Complex → VertName → (VertRec → VertRec) → Complex
update_vert c v change = record c { verts = update c.verts v.0 change }

pub Keeps-update_vert : (c : Complex) (v : VertName) (change : VertRec → VertRec) → Keeps (update_vert c v change) c
Keeps-update_vert c v change = record {
  verts = still_there c.verts v.0 change;
  edges = λ n there. there;
  layers =
      refl;
}

pub IsLinked-update_vert : (c : Complex) (v : VertName) (change : VertRec → VertRec)
    → ((r : VertRec) → at c.verts v.0 ≡ Some r → IsVertLinked c (change r)) → IsLinked c
    → IsLinked (update_vert c v change)
IsLinked-update_vert c v change links h =
    IsLinked-kept (update_vert c v change) c (Keeps-update_vert c v change) (record {
      verts = EachNew-update (IsVertLinked (update_vert c v change)) c.verts v.0 change
          (λ r is. IsVertLinked-kept (update_vert c v change) c (Keeps-update_vert c v change) (change r) (links r is));
      edges = λ n e is. inl is;
      faces = λ n f is. inl is;
    }) h

pub IsValid-update_vert : (c : Complex) (v : VertName) (change : VertRec → VertRec)
    → ((r : VertRec) → at c.verts v.0 ≡ Some r → IsVertLinked c (change r) × IsVertValid (change r)) → IsValid c
    → IsValid (update_vert c v change)
IsValid-update_vert c v change right h = record {
  linked = IsLinked-update_vert c v change (λ r is. (right r is).0) h.linked;
  verts = λ n r is. elim (EachNew-update IsVertValid c.verts v.0 change (λ x at_v. (right x at_v).1) n r is)
      [ inl old ↦ h.verts n r old | inr new ↦ new ];
  edges = h.edges;
  faces = λ n f is. IsFaceValid-same (update_vert c v change) c refl (omega arith) f
      (IsPolygon-Extends (update_vert c v change) c (λ k x stood. stood) f.corners (h.faces n f is).polygon)
      (h.faces n f is);
  limits = record {
    verts = rw (length-update c.verts v.0 change) h.limits.verts;
    edges = h.limits.edges;
    faces =
        h.limits.faces;
    corners = h.limits.corners;
  };
}

-- ---- AN EDGE'S RECORD

abbrev pub update_edge : Complex → EdgeName → (EdgeRec → EdgeRec) → Complex
update_edge c e change = record c { edges = update c.edges e.0 change }

pub Keeps-update_edge : (c : Complex) (e : EdgeName) (change : EdgeRec → EdgeRec) → Keeps (update_edge c e change) c
Keeps-update_edge c e change = record {
  verts = λ n there. there;
  edges = still_there c.edges e.0 change;
  layers =
      refl;
}

pub IsLinked-update_edge : (c : Complex) (e : EdgeName) (change : EdgeRec → EdgeRec)
    → ((r : EdgeRec) → at c.edges e.0 ≡ Some r → IsEdgeLinked c (change r)) → IsLinked c
    → IsLinked (update_edge c e change)
IsLinked-update_edge c e change links h =
    IsLinked-kept (update_edge c e change) c (Keeps-update_edge c e change) (record {
      verts = λ n r is. inl is;
      edges = EachNew-update (IsEdgeLinked (update_edge c e change)) c.edges e.0 change
          (λ r is. IsEdgeLinked-kept (update_edge c e change) c (Keeps-update_edge c e change) (change r) (links r is));
      faces = λ n f is. inl is;
    }) h

-- besides, the faces are polygons of the changed edges
pub IsValid-update_edge : (c : Complex) (e : EdgeName) (change : EdgeRec → EdgeRec)
    → ((r : EdgeRec) → at c.edges e.0 ≡ Some r → IsEdgeLinked c (change r) × IsEdgeValid (change r))
    → ((n : ℕ) (f : FaceRec) → at c.faces n ≡ Some f → IsPolygon (update_edge c e change).edges f.corners) → IsValid c
    → IsValid (update_edge c e change)
IsValid-update_edge c e change right polygons h = record {
  linked = IsLinked-update_edge c e change (λ r is. (right r is).0) h.linked;
  verts = h.verts;
  edges = λ n r is. elim (EachNew-update IsEdgeValid c.edges e.0 change (λ x at_e. (right x at_e).1) n r is)
      [ inl old ↦ h.edges n r old | inr new ↦ new ];
  faces = λ n f is. IsFaceValid-same (update_edge c e change) c refl (omega arith) f (polygons n f is) (h.faces n f is);
  limits = record {
    verts = h.limits.verts;
    edges = rw (length-update c.edges e.0 change) h.limits.edges;
    faces =
        h.limits.faces;
    corners = h.limits.corners;
  };
}

-- no other edge joins the ends of the changed one
pub IsSimple-update_edge : (c : Complex) (e : EdgeName) (change : EdgeRec → EdgeRec)
    → ((r : EdgeRec) → at c.edges e.0 ≡ Some r → (n : ℕ) (f : EdgeRec) → at c.edges n ≡ Some f
    → joins (change r).a (change r).b f ≡ true → n ≡ e.0)
    → IsSimple c → IsSimple (update_edge c e change)
IsSimple-update_edge c e change alone h m n d f at_m at_n same = elim (was-updated c.edges e.0 m change d at_m) [
  | inl old_m ↦ elim (was-updated c.edges e.0 n change f at_n) [
    | inl old_n ↦ h m n d f old_m old_n same
    | inr new_n ↦ meets n m f d new_n old_m (sym (joins-symm d f) ∙ same)
  ]
  | inr new_m ↦ elim (was-updated c.edges e.0 n change f at_n) [
    | inl old_n ↦ sym (meets m n d f new_m old_n same)
    | inr new_n ↦ sym new_m.0 ∙ new_n.0
  ]
]
  where
    meets : (i j : ℕ) (x y : EdgeRec) → (e.0 ≡ i) × ((z : EdgeRec) × (at c.edges i ≡ Some z) × (x ≡ change z))
        → at c.edges j ≡ Some y → joins x.a x.b y ≡ true → j ≡ i
    meets i j x y new old joined = let was = new.1 in
        alone was.0 (ap (λ (k : ℕ). at c.edges k) new.0
        ∙ was.1) j y old (ap (λ (z : EdgeRec). joins z.a z.b y) (sym was.2) ∙ joined) ∙ new.0

-- ---- A FACE'S RECORD

abbrev pub update_face : Complex → FaceName → (FaceRec → FaceRec) → Complex
update_face c f change = record c { faces = update c.faces f.0 change }

pub Keeps-update_face : (c : Complex) (f : FaceName) (change : FaceRec → FaceRec) → Keeps (update_face c f change) c
Keeps-update_face c f change = record { verts = λ n there. there; edges = λ n there. there; layers = refl }

pub IsLinked-update_face : (c : Complex) (f : FaceName) (change : FaceRec → FaceRec)
    → ((r : FaceRec) → at c.faces f.0 ≡ Some r → IsFaceLinked c (change r)) → IsLinked c
    → IsLinked (update_face c f change)
IsLinked-update_face c f change links h =
    IsLinked-kept (update_face c f change) c (Keeps-update_face c f change) (record {
      verts = λ n r is. inl is;
      edges = λ n r is. inl is;
      faces = EachNew-update (IsFaceLinked (update_face c f change)) c.faces f.0 change
          (λ r is. IsFaceLinked-kept (update_face c f change) c (Keeps-update_face c f change) (change r) (links r is));
    }) h

face_again : (c : Complex) (f : FaceName) (change : FaceRec → FaceRec) (r : FaceRec) → IsFaceValid c r
    → IsFaceValid (update_face c f change) r
face_again c f change r v =
    IsFaceValid-same (update_face c f change) c refl (omega arith) r
    (IsPolygon-Extends (update_face c f change) c (λ k x stood. stood) r.corners v.polygon) v

-- besides, the live corners stay within their limit
pub IsValid-update_face : (c : Complex) (f : FaceName) (change : FaceRec → FaceRec) (r : FaceRec)
    → at c.faces f.0 ≡ Some r → IsFaceLinked c (change r) → IsFaceValid c (change r)
    → corner_sum c.faces + length (change r).corners ≤ MAX_CORNERS + length r.corners → IsValid c
    → IsValid (update_face c f change)
IsValid-update_face c f change r is links valid few h =
    let same : (x : FaceRec) → at c.faces f.0 ≡ Some x → r ≡ x = λ x at_f. let e = sym is ∙ at_f in cc in
    record {
      linked = IsLinked-update_face c f change
          (λ x at_f. subst (λ (y : FaceRec). IsFaceLinked c (change y)) (same x at_f) links) h.linked;
      verts = h.verts;
      edges = h.edges;
      faces = λ n x at_n. elim
          (EachNew-update (IsFaceValid (update_face c f change)) c.faces f.0 change
          (λ y at_f. subst (λ (z : FaceRec). IsFaceValid (update_face c f change) (change z)) (same y at_f)
          (face_again c f change (change r) valid)) n x at_n) [
            | inl old ↦ face_again c f change x (h.faces n x old)
            | inr new ↦ new
          ];
      limits = record {
        verts = h.limits.verts;
        edges = h.limits.edges;
        faces = rw (length-update c.faces f.0 change) h.limits.faces;
        corners = let sum = corner_sum-update c.faces f.0 change r is in omega arith;
      };
    }
