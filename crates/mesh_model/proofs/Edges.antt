-- The ends of edges.
use Rattle.std.proofs.Common.{◌≡◌, ℕ, Bool, true, false, eqb, ◌&&◌, ◌||◌, refl, ap, ◌∙◌, inl, inr, ◌⊎◌}
use Rattle.std.specs.Cmp.{nat_eq_equiv}
use Rattle.std.proofs.lemmas.Bool.{and_parts, or_cases, or_left, or_right, eq-eqb, eqb-true}
use Rattle.mesh_model.specs.Incidence.{joins, has_end}
use Rattle.mesh_model.specs.declared.names.VertName.{VertName}
use Rattle.mesh_model.specs.declared.records.EdgeRec.{EdgeRec}

-- names of the same number
pub same_vert_name : (v w : VertName) → v.0 ≡ w.0 → v ≡ w
same_vert_name v w h = ap (λ (n : ℕ). let x : VertName = record { 0 = n } in x) h

or_comm : (p q : Bool) → (p || q) ≡ (q || p)
or_comm true true = refl
or_comm true false = refl
or_comm false true = refl
or_comm false false = refl

and_comm : (p q : Bool) → (p && q) ≡ (q && p)
and_comm true true = refl
and_comm true false = refl
and_comm false true = refl
and_comm false false = refl

-- the order of the two ends doesn't matter
pub joins-turned : (v w : VertName) (e : EdgeRec) → joins v w e ≡ joins w v e
joins-turned v w e = or_comm (eqb e.a.0 v.0 && eqb e.b.0 w.0) (eqb e.a.0 w.0 && eqb e.b.0 v.0)

-- one edge joins the ends of another where that one joins its ends
pub joins-symm : (d e : EdgeRec) → joins d.a d.b e ≡ joins e.a e.b d
joins-symm d e = rw (
  nat_eq_equiv.symm e.a.0 d.a.0,
  nat_eq_equiv.symm e.b.0 d.b.0,
  nat_eq_equiv.symm e.a.0 d.b.0,
  nat_eq_equiv.symm e.b.0 d.a.0,
)
    (ap (λ (b : Bool). (eqb d.a.0 e.a.0 && eqb d.b.0 e.b.0) || b) (and_comm (eqb d.b.0 e.a.0) (eqb d.a.0 e.b.0)))

-- an edge joins its own ends
pub joins-itself : (e : EdgeRec) → joins e.a e.b e ≡ true
joins-itself e = or_left (eqb e.a.0 e.a.0 && eqb e.b.0 e.b.0) (eqb e.a.0 e.b.0 && eqb e.b.0 e.a.0)
    (ap (λ (b : Bool). b && eqb e.b.0 e.b.0) (eq-eqb e.a.0 e.a.0 refl) ∙ eq-eqb e.b.0 e.b.0 refl)

-- an edge that joins two vertices has these two ends, in one order or the other
pub joins-cases : (v w : VertName) (e : EdgeRec) → joins v w e ≡ true
    → ((e.a ≡ v) × (e.b ≡ w)) ⊎ ((e.a ≡ w) × (e.b ≡ v))
joins-cases v w e h = elim (or_cases (eqb e.a.0 v.0 && eqb e.b.0 w.0) (eqb e.a.0 w.0 && eqb e.b.0 v.0) h) [
  | inl ahead ↦ let both = and_parts (eqb e.a.0 v.0) (eqb e.b.0 w.0) ahead in
      inl (same_vert_name e.a v (eqb-true e.a.0 v.0 both.0), same_vert_name e.b w (eqb-true e.b.0 w.0 both.1))
  | inr back ↦ let both = and_parts (eqb e.a.0 w.0) (eqb e.b.0 v.0) back in
      inr (same_vert_name e.a w (eqb-true e.a.0 w.0 both.0), same_vert_name e.b v (eqb-true e.b.0 v.0 both.1))
]

-- and so the first is one of its ends
pub has_end-joins : (v w : VertName) (e : EdgeRec) → joins v w e ≡ true → has_end v e ≡ true
has_end-joins v w e h = elim (or_cases (eqb e.a.0 v.0 && eqb e.b.0 w.0) (eqb e.a.0 w.0 && eqb e.b.0 v.0) h) [
  | inl ahead ↦ or_left (eqb e.a.0 v.0) (eqb e.b.0 v.0) (and_parts (eqb e.a.0 v.0) (eqb e.b.0 w.0) ahead).0
  | inr back ↦ or_right (eqb e.a.0 v.0) (eqb e.b.0 v.0) (and_parts (eqb e.a.0 w.0) (eqb e.b.0 v.0) back).1
]

pub has_end-a : (e : EdgeRec) → has_end e.a e ≡ true
has_end-a e = or_left (eqb e.a.0 e.a.0) (eqb e.b.0 e.a.0) (eq-eqb e.a.0 e.a.0 refl)

pub has_end-b : (e : EdgeRec) → has_end e.b e ≡ true
has_end-b e = or_right (eqb e.a.0 e.b.0) (eqb e.b.0 e.b.0) (eq-eqb e.b.0 e.b.0 refl)
