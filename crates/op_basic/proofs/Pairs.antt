-- Two vertices in a list, and whether they are the same.
use Rattle.std.proofs.Common.{◌≡◌, ◌≢◌, ℕ, zero, suc, ◌+◌, ◌<◌, ◌≤◌, Bool, true, false, cond, eqb, nat_le, ◌&&◌, List, [], ◌∷◌}
use Rattle.std.proofs.Common.{length, map, get_or, refl, sym, ap, ◌∙◌, inl, inr, arith, Some, None, find}
use Rattle.std.specs.List.{range_with_len, count_by}
use Rattle.std.proofs.lemmas.Bool.{cases_eq, cases_Bool, cond-true, cond-false, eq-eqb, eqb-true, ne_eqb}
use Rattle.std.proofs.lemmas.List.Sums.{sum_by-cons}
use Rattle.mesh_model.specs.Complex.{Complex}
use Rattle.mesh_model.specs.declared.names.VertName.{VertName}
use Rattle.op_basic.specs.Making.{least_repeated}

pub two_of : {X : Type 0} (xs : List X) (d : X) → length xs ≡ 2 → xs ≡ get_or xs 0 d ∷ get_or xs 1 d ∷ []
two_of [] d h = absurd (omega arith)
two_of (x ∷ []) d h = absurd (omega arith)
two_of (x ∷ y ∷ []) d h = refl
two_of (x ∷ y ∷ z ∷ xs) d h = absurd (omega arith)

abbrev vert : ℕ → VertName
vert n = record { 0 = n }

-- the least name that passes is found
pub find_from : (p : VertName → Bool) (m n k : ℕ) → m ≤ k → k < m + n → p (vert k) ≡ true
    → ((j : ℕ) → m ≤ j → j < k → p (vert j) ≡ false) → find p (map vert (range_with_len m n)) ≡ Some (vert k)
find_from p m zero k least less pass before = absurd (omega arith)
find_from p m (suc n) k least less pass before = elim (cases_eq m k) [
  | inl same ↦ cond-true (p (vert m)) (Some (vert m)) (find p (map vert (range_with_len (m + 1) n)))
      (ap (λ (j : ℕ). p (vert j)) same ∙ pass) ∙ ap (λ (j : ℕ). Some (vert j)) same
  | inr other ↦ cond-false (p (vert m)) (Some (vert m)) (find p (map vert (range_with_len (m + 1) n)))
      (before m (omega arith) (omega arith))
      ∙ find_from p (m + 1) n k (omega arith) (omega arith) pass (λ j le lt. before j (omega arith) lt)
]

pub find_nothing : (p : VertName → Bool) (m n : ℕ) → ((j : ℕ) → p (vert j) ≡ false)
    → find p (map vert (range_with_len m n)) ≡ None
find_nothing p m zero h = refl
find_nothing p m (suc n) h = cond-false (p (vert m)) (Some (vert m)) (find p (map vert (range_with_len (m + 1) n))) (h m)
    ∙ find_nothing p (m + 1) n h

-- a test that two vertices pass
two_test : (s t : Bool) → nat_le 2 (cond s 1 0 + (cond t 1 0 + 0)) ≡ (s && t)
two_test true true = refl
two_test true false = refl
two_test false true = refl
two_test false false = refl

twice : (p : VertName → Bool) (a b : VertName) → nat_le 2 (count_by p (a ∷ b ∷ [])) ≡ (p a && p b)
twice p a b =
    let one : VertName → ℕ = λ v. cond (p v) 1 0 in
    ap (nat_le 2) (sum_by-cons one a (b ∷ []) ∙ ap (λ (n : ℕ). one a + n) (sum_by-cons one b []))
    ∙ two_test (p a) (p b)

pub repeats : (c : Complex) (a b : VertName) → a.0 ≡ b.0 → a.0 < length c.verts
    → least_repeated c (a ∷ b ∷ []) ≡ Some a
repeats c a b same below =
    let test : VertName → Bool = λ v. nat_le 2 (count_by (λ (w : VertName). eqb w.0 v.0) (a ∷ b ∷ [])) in
    find_from test 0 (length c.verts) a.0 (omega arith) (omega arith)
    (twice (λ (w : VertName). eqb w.0 a.0) a b
    ∙ rw (eq-eqb a.0 a.0 refl, eq-eqb b.0 a.0 (sym same)) refl)
    (λ j least less. twice (λ (w : VertName). eqb w.0 j) a b
    ∙ ap (λ (t : Bool). t && eqb b.0 j) (ne_eqb a.0 j (λ e. absurd (omega arith))))

pub differs : (c : Complex) (a b : VertName) → a.0 ≢ b.0 → least_repeated c (a ∷ b ∷ []) ≡ None
differs c a b apart =
    let test : VertName → Bool = λ v. nat_le 2 (count_by (λ (w : VertName). eqb w.0 v.0) (a ∷ b ∷ [])) in
    find_nothing test 0 (length c.verts) (λ j. twice (λ (w : VertName). eqb w.0 j) a b ∙ not_both j)
  where
    not_both : (j : ℕ) → (eqb a.0 j && eqb b.0 j) ≡ false
    not_both j = elim (cases_Bool (eqb a.0 j)) [
      | inl is ↦ rw (is, ne_eqb b.0 j (λ e. apart (eqb-true a.0 j is ∙ sym e))) refl
      | inr is ↦ rw is refl
    ]
