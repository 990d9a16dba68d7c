-- A vertex, an edge or a face more: when the complex stays linked, valid and simple.
use Rattle.std.proofs.Common.{◌≡◌, ℕ, zero, suc, ◌+◌, ◌<◌, ◌≤◌, Bool, true, false, cond, List, [], ◌∷◌, ◌++◌, length}
use Rattle.std.proofs.Common.{get_or, refl, sym, ap, ◌∙◌, subst, inl, inr, arith, Option, Some, None, true≢false}
use Rattle.std.specs.List.{position, position_from}
use Rattle.std.specs.Option.{option_map}
use Rattle.std.proofs.lemmas.List.{length_push}
use Rattle.std.proofs.lemmas.Iterator.Adapters.{position_from-zero}
use Rattle.mesh_model.specs.Table.{at, passes}
use Rattle.mesh_model.specs.Complex.{Complex, corner_sum}
use Rattle.mesh_model.specs.Incidence.{joins, edge_joining}
use Rattle.mesh_model.specs.Making.{with_vert, with_edge, with_face}
use Rattle.mesh_model.specs.Valid.{IsVertLinked, IsEdgeLinked, IsFaceLinked, IsLinked, IsVertValid, IsEdgeValid}
use Rattle.mesh_model.specs.Valid.{IsFaceValid, IsValid, IsSimple}
use Rattle.mesh_model.specs.declared.limits.TheConstants.{MAX_VERTS, MAX_EDGES, MAX_FACES, MAX_CORNERS}
use Rattle.mesh_model.specs.declared.names.VertName.{VertName}
use Rattle.mesh_model.specs.declared.names.EdgeName.{EdgeName}
use Rattle.mesh_model.specs.declared.records.VertRec.{VertRec}
use Rattle.mesh_model.specs.declared.records.EdgeRec.{EdgeRec}
use Rattle.mesh_model.specs.declared.records.FaceRec.{FaceRec}
use Rattle.mesh_model.proofs.Tables.{Extends-append, at-append, at-below}
use Rattle.mesh_model.proofs.CornerSums.{corner_sum-push}
use Rattle.mesh_model.proofs.Grown.{IsGrown, AreNewLinked, EachNew, Keeps-grown, IsVertLinked-kept, IsEdgeLinked-kept}
use Rattle.mesh_model.proofs.Grown.{IsFaceLinked-kept, IsPolygon-Extends, IsFaceValid-same, IsLinked-grown}
use Rattle.mesh_model.proofs.Grown.{IsValid-grown, IsSimple-grown}

-- one record more, which has a property
EachNew-append : {X : Type 0} (P : X → Type 0) (table : List (Option X)) (r : X) → P r
    → EachNew P table (table ++ Some r ∷ [])
EachNew-append P table r has n x is =
    elim (at-append table r x n is) [ inl old ↦ inl old | inr new ↦ inr (subst P (sym new.1) has) ]

-- ---- ONE VERTEX MORE

pub IsGrown-with_vert : (c : Complex) (r : VertRec) → IsGrown (with_vert c r) c
IsGrown-with_vert c r = record {
  verts = Extends-append c.verts (Some r ∷ []);
  edges = λ n x is. is;
  faces =
      λ n x is. is;
  layers = refl;
  materials = omega arith;
}

new_vert : (c : Complex) (r : VertRec) → IsVertLinked c r → AreNewLinked (with_vert c r) c
new_vert c r l = record {
  verts = EachNew-append (IsVertLinked (with_vert c r)) c.verts r
      (IsVertLinked-kept (with_vert c r) c (Keeps-grown (with_vert c r) c (IsGrown-with_vert c r)) r l);
  edges = λ n x is. inl is;
  faces = λ n x is. inl is;
}

pub IsLinked-with_vert : (c : Complex) (r : VertRec) → IsVertLinked c r → IsLinked c → IsLinked (with_vert c r)
IsLinked-with_vert c r l h = IsLinked-grown (with_vert c r) c (IsGrown-with_vert c r) (new_vert c r l) h

pub IsValid-with_vert : (c : Complex) (r : VertRec) → length c.verts < MAX_VERTS → IsVertLinked c r → IsVertValid r
    → IsValid c → IsValid (with_vert c r)
IsValid-with_vert c r few l v h = IsValid-grown (with_vert c r) c (IsGrown-with_vert c r) (new_vert c r l) (record {
  verts = EachNew-append IsVertValid c.verts r v;
  edges = λ n x is. inl is;
  faces = λ n x is. inl is;
  limits = record {
    verts = rw length_push (omega arith);
    edges = h.limits.edges;
    faces = h.limits.faces;
    corners =
        h.limits.corners;
  };
}) h

pub IsSimple-with_vert : (c : Complex) (r : VertRec) → IsSimple c → IsSimple (with_vert c r)
IsSimple-with_vert c r h = h

-- ---- ONE EDGE MORE

pub IsGrown-with_edge : (c : Complex) (r : EdgeRec) → IsGrown (with_edge c r) c
IsGrown-with_edge c r = record {
  verts = λ n x is. is;
  edges = Extends-append c.edges (Some r ∷ []);
  faces =
      λ n x is. is;
  layers = refl;
  materials = omega arith;
}

new_edge : (c : Complex) (r : EdgeRec) → IsEdgeLinked c r → AreNewLinked (with_edge c r) c
new_edge c r l = record {
  verts = λ n x is. inl is;
  edges = EachNew-append (IsEdgeLinked (with_edge c r)) c.edges r
      (IsEdgeLinked-kept (with_edge c r) c (Keeps-grown (with_edge c r) c (IsGrown-with_edge c r)) r l);
  faces = λ n x is. inl is;
}

pub IsLinked-with_edge : (c : Complex) (r : EdgeRec) → IsEdgeLinked c r → IsLinked c → IsLinked (with_edge c r)
IsLinked-with_edge c r l h = IsLinked-grown (with_edge c r) c (IsGrown-with_edge c r) (new_edge c r l) h

pub IsValid-with_edge : (c : Complex) (r : EdgeRec) → length c.edges < MAX_EDGES → IsEdgeLinked c r → IsEdgeValid r
    → IsValid c → IsValid (with_edge c r)
IsValid-with_edge c r few l v h = IsValid-grown (with_edge c r) c (IsGrown-with_edge c r) (new_edge c r l) (record {
  verts = λ n x is. inl is;
  edges = EachNew-append IsEdgeValid c.edges r v;
  faces = λ n x is. inl is;
  limits = record {
    verts = h.limits.verts;
    edges = rw length_push (omega arith);
    faces = h.limits.faces;
    corners =
        h.limits.corners;
  };
}) h

-- no edge joins two vertices
abbrev pub JoinsNone : List (Option EdgeRec) → VertName → VertName → Type 0
JoinsNone edges v w = (n : ℕ) (e : EdgeRec) → at edges n ≡ Some e → joins v w e ≡ false

pub IsSimple-with_edge : (c : Complex) (r : EdgeRec) → JoinsNone c.edges r.a r.b → IsSimple c → IsSimple (with_edge c r)
IsSimple-with_edge c r none h =
    IsSimple-grown (with_edge c r) c (λ m n e f at_m at_n same. elim (at-append c.edges r e m at_m) [
      | inl old_m ↦ inl old_m
      | inr new_m ↦ elim (at-append c.edges r f n at_n) [
        | inl old_n ↦ absurd (true≢false (sym same ∙ ap (λ (x : EdgeRec). joins x.a x.b f) new_m.1 ∙ none n f old_n))
        | inr new_n ↦ inr (new_m.0 ∙ sym new_n.0)
      ]
    ]) h

-- where no place passes, none does
none_at : {X : Type 0} (p : X → Bool) (k : ℕ) (x : X) (xs : List X) (b : Bool) → p x ≡ b
    → cond b (Some k) (position_from p (k + 1) xs) ≡ None → (b ≡ false) × (position_from p (k + 1) xs ≡ None)
none_at p k x xs true is h = absurd (cc)
none_at p k x xs false is h = (refl, h)

none_from : {X : Type 0} (p : X → Bool) (k : ℕ) (xs : List X) (d : X) → position_from p k xs ≡ None → (n : ℕ)
    → n < length xs → p (get_or xs n d) ≡ false
none_from p k [] d h n less = absurd (omega arith)
none_from p k (x ∷ xs) d h zero less = (none_at p k x xs (p x) refl h).0
none_from p k (x ∷ xs) d h (suc n) less = let rest = (none_at p k x xs (p x) refl h).1 in
    none_from p (k + 1) xs d rest n (omega arith)

no_place : (edges : List (Option EdgeRec)) (v w : VertName) (o : Option ℕ)
    → option_map {T = ℕ} (λ n. let e : EdgeName = record { 0 = n } in e) o ≡ None → o ≡ None
no_place edges v w None h = refl
no_place edges v w (Some n) h = absurd (cc)

-- where none is found, none joins the two
pub JoinsNone-edge_joining : (edges : List (Option EdgeRec)) (v w : VertName) → edge_joining edges v w ≡ None
    → JoinsNone edges v w
JoinsNone-edge_joining edges v w none n e is =
    let nowhere = no_place edges v w (position (passes (joins v w)) edges) none in
    let no : passes (joins v w) (at edges n) ≡ false =
    none_from (passes (joins v w)) 0 edges None (sym (position_from-zero (passes (joins v w)) edges)
    ∙ nowhere) n (at-below edges n e is) in
    ap (passes (joins v w)) (sym is) ∙ no

-- ---- ONE FACE MORE

pub IsGrown-with_face : (c : Complex) (r : FaceRec) → IsGrown (with_face c r) c
IsGrown-with_face c r =
    record {
      verts = λ n x is. is;
      edges = λ n x is. is;
      faces = Extends-append c.faces (Some r ∷ []);
      layers = refl;
      materials = omega arith;
    }

new_face : (c : Complex) (r : FaceRec) → IsFaceLinked c r → AreNewLinked (with_face c r) c
new_face c r l = record {
  verts = λ n x is. inl is;
  edges = λ n x is. inl is;
  faces = EachNew-append (IsFaceLinked (with_face c r)) c.faces r
      (IsFaceLinked-kept (with_face c r) c (Keeps-grown (with_face c r) c (IsGrown-with_face c r)) r l);
}

pub IsLinked-with_face : (c : Complex) (r : FaceRec) → IsFaceLinked c r → IsLinked c → IsLinked (with_face c r)
IsLinked-with_face c r l h = IsLinked-grown (with_face c r) c (IsGrown-with_face c r) (new_face c r l) h

pub IsValid-with_face : (c : Complex) (r : FaceRec) → length c.faces < MAX_FACES
    → corner_sum c.faces + length r.corners ≤ MAX_CORNERS → IsFaceLinked c r → IsFaceValid c r → IsValid c
    → IsValid (with_face c r)
IsValid-with_face c r few few_corners l v h =
    IsValid-grown (with_face c r) c (IsGrown-with_face c r) (new_face c r l) (record {
      verts = λ n x is. inl is;
      edges = λ n x is. inl is;
      faces = EachNew-append (IsFaceValid (with_face c r)) c.faces r
          (IsFaceValid-same (with_face c r) c refl (omega arith) r
          (IsPolygon-Extends (with_face c r) c (λ n x is. is) r.corners v.polygon) v);
      limits = record {
        verts = h.limits.verts;
        edges = h.limits.edges;
        faces = rw length_push (omega arith);
        corners =
            rw (corner_sum-push c.faces r) few_corners;
      };
    }) h

pub IsSimple-with_face : (c : Complex) (r : FaceRec) → IsSimple c → IsSimple (with_face c r)
IsSimple-with_face c r h = h
