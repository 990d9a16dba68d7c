-- In a valid complex each corner's edge ends at the corner's vertex.
use Rattle.std.proofs.Common.{◌≡◌, ◌≤◌, ◌+◌, ◌==◌, ◌&&◌, ◌||◌, ℕ, suc, Bool, true, false, cond, List, [], ◌∷◌, ◌++◌, length, map, take, drop, Option, Some, None, refl, sym, ap, ◌∙◌, subst, inl, inr, arith, length-append}
use Rattle.std.specs.List.{filter, flat_map, list_all, enumerate_from, zip}
use Rattle.std.proofs.lemmas.Bool.{false≢true, eqb-true}
use Rattle.std.proofs.lemmas.List.{length-map, length-take, length-drop}
use Rattle.link_ring.specs.Members.{HasMember}
use Rattle.mesh_model.specs.Table.{at, passes}
use Rattle.mesh_model.specs.Complex.{Complex, corners_of, verts_of}
use Rattle.mesh_model.specs.Incidence.{has_end, joins, is_at, corners_in, corners_at_vert}
use Rattle.mesh_model.specs.Valid.{IsValid, is_along_side}
use Rattle.mesh_model.specs.declared.names.VertName.{VertName}
use Rattle.mesh_model.specs.declared.names.FaceName.{FaceName}
use Rattle.mesh_model.specs.declared.records.CornerRec.{CornerRec}
use Rattle.mesh_model.specs.declared.records.EdgeRec.{EdgeRec}
use Rattle.mesh_model.specs.declared.records.FaceRec.{FaceRec}
use Rattle.mesh_records.specs.Order.{has_corner_at, corners_of_vert}

both_hold : (x y : Bool) → (x && y) ≡ true → (x ≡ true) × (y ≡ true)
both_hold true y h = (refl, h)
both_hold false y h = absurd (false≢true h)

end_of_two : (x y z u : Bool) → ((x && y) || (z && u)) ≡ true → (x || u) ≡ true
end_of_two true y z u h = refl
end_of_two false y z true h = refl
end_of_two false y true false h = absurd (false≢true h)
end_of_two false y false false h = absurd (false≢true h)

-- an edge that joins a vertex to another one ends there
joined_ends : (v u : VertName) (o : Option EdgeRec) → passes (joins v u) o ≡ true → passes (has_end v) o ≡ true
joined_ends v u None h = h
joined_ends v u (Some e) h = end_of_two (e.a.0 == v.0) (e.b.0 == u.0) (e.a.0 == u.0) (e.b.0 == v.0) h

-- each corner's edge ends at its vertex where it is along its side
ends_all : (edges : List (Option EdgeRec)) (ks : List CornerRec) (us : List VertName) → length ks ≤ length us
    → list_all (is_along_side edges) (zip ks (zip (verts_of ks) us)) ≡ true
    → (k : CornerRec) → HasMember ks k → passes (has_end k.vert) (at edges k.edge.0) ≡ true
ends_all edges [] us low h k m = absurd m
ends_all edges (x ∷ ks) [] low h k m = absurd (omega arith)
ends_all edges (x ∷ ks) (u ∷ us) low h k m =
    let b = both_hold (is_along_side edges (x, (x.vert, u)))
    (list_all (is_along_side edges) (zip ks (zip (verts_of ks) us))) h in
    let P = λ (y : CornerRec). passes (has_end y.vert) (at edges y.edge.0) ≡ true in
    elim m [
      | inl e ↦ subst P e (joined_ends x.vert u (at edges x.edge.0) b.0)
      | inr r ↦ ends_all edges ks us (omega arith) b.1 k r
    ]

-- so a vertex is that of a corner just where it is, and the corner's edge ends there
module _ (c : Complex) (v : VertName) where
  same_test : (k : CornerRec) → passes (has_end k.vert) (at c.edges k.edge.0) ≡ true → is_at v k ≡ has_corner_at c v k
  same_test k h = by_case (is_at v k) refl
    where
      by_case : (b : Bool) → is_at v k ≡ b → is_at v k ≡ has_corner_at c v k
      by_case true e =
          let P = λ (i : ℕ). passes (has_end (record { 0 = i })) (at c.edges k.edge.0) ≡ true in
          let ends = subst P (eqb-true k.vert.0 v.0 e) h in
          e ∙ sym ((λ i. e i && passes (has_end v) (at c.edges k.edge.0)) ∙ ends)
      by_case false e = e ∙ sym (ap (λ (b : Bool). b && passes (has_end v) (at c.edges k.edge.0)) e)

  same_in : (i : ℕ) (o : Option FaceRec) → ((k : CornerRec) → HasMember (corners_of o) k
      → passes (has_end k.vert) (at c.edges k.edge.0) ≡ true)
      → corners_in (has_corner_at c v) (i, o) ≡ corners_in (is_at v) (i, o)
  same_in i o h =
      let name = λ (k : ℕ × CornerRec). let p : FaceName × ℕ = (record { 0 = i }, k.0) in p in
      ap (map name) (from_place 0 (corners_of o) h)
    where
      from_place : (m : ℕ) (ks : List CornerRec)
          → ((k : CornerRec) → HasMember ks k → passes (has_end k.vert) (at c.edges k.edge.0) ≡ true)
          → filter (λ (p : ℕ × CornerRec). has_corner_at c v p.1) (enumerate_from m ks)
          ≡ filter (λ (p : ℕ × CornerRec). is_at v p.1) (enumerate_from m ks)
      from_place m [] q = refl
      from_place m (k ∷ ks) q =
          let more = from_place (m + 1) ks (λ x p. q x (inr p)) in
          let one = sym (same_test k (q k (inl refl))) in
          λ z. cond (one z) ((m, k) ∷ more z) (more z)

  same_from : (m : ℕ) (faces : List (Option FaceRec))
      → ((o : Option FaceRec) → HasMember faces o → (k : CornerRec) → HasMember (corners_of o) k
      → passes (has_end k.vert) (at c.edges k.edge.0) ≡ true)
      → flat_map (corners_in (has_corner_at c v)) (enumerate_from m faces)
      ≡ flat_map (corners_in (is_at v)) (enumerate_from m faces)
  same_from m [] h = refl
  same_from m (o ∷ faces) h =
      let one = same_in m o (h o (inl refl)) in
      let more = same_from (m + 1) faces (λ p q. h p (inr q)) in
      λ z. one z ++ more z

  pub valid_corners : IsValid c → corners_of_vert c v ≡ corners_at_vert c v
  valid_corners valid = same_from 0 c.faces all
    where
      member_there : (xs : List (Option FaceRec)) (f : FaceRec) → HasMember xs (Some f) → (k : ℕ) × (at xs k ≡ Some f)
      member_there [] f m = absurd m
      member_there (x ∷ xs) f m = elim m [
        | inl e ↦ (0, e)
        | inr r ↦ (let t = member_there xs f r in (suc t.0, t.1))
      ]

      all : (o : Option FaceRec) → HasMember c.faces o → (k : CornerRec) → HasMember (corners_of o) k
          → passes (has_end k.vert) (at c.edges k.edge.0) ≡ true
      all None m k q = absurd q
      all (Some f) m k q =
          let t = member_there c.faces f m in
          let p = (valid.faces t.0 f t.1).polygon in
          let vs = verts_of f.corners in
          let long = length-map f.corners (λ (x : CornerRec). x.vert) in
          let parts = length-append (drop 1 vs) (take 1 vs) in
          let first = length-take 1 vs in
          let rest = length-drop 1 vs in
          let least = p.least in
          ends_all c.edges f.corners (drop 1 vs ++ take 1 vs) (omega arith) p.closed k q
