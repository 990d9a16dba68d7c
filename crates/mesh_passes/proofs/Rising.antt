-- Names that rise: none stands twice.
use Rattle.std.proofs.Common.{◌≡◌, ℕ, zero, suc, ◌<◌, true, false, eqb, ltb, List, [], ◌∷◌, length, map, take, get_or, refl}
use Rattle.std.proofs.Common.{arith}
use Rattle.std.specs.List.{list_any, list_all}
use Rattle.std.proofs.lemmas.Bool.{and_parts, ltb-true, ne_eqb, or_from}
use Rattle.mesh_model.specs.Naming.{is_rising}

-- what comes after a number that is below all is above it
pub above : {N : Type 0} (num : N → ℕ) (n : ℕ) (xs : List N) (i : ℕ) (d : N) → list_all (λ y. ltb n y) (map num xs) ≡ true
    → i < length xs → n < num (get_or xs i d)
above num n [] i d h less = absurd (omega arith)
above num n (x ∷ xs) zero d h less =
    ltb-true n (num x) (and_parts (ltb n (num x)) (list_all (λ y. ltb n y) (map num xs)) h).0
above num n (x ∷ xs) (suc i) d h less =
    above num n xs i d (and_parts (ltb n (num x)) (list_all (λ y. ltb n y) (map num xs)) h).1 (omega arith)

-- no earlier name is the same
pub not_before : {N : Type 0} (num : N → ℕ) (xs : List N) (i : ℕ) (d : N) → is_rising (map num xs) ≡ true → i < length xs
    → list_any (λ x. eqb (num x) (num (get_or xs i d))) (take i xs) ≡ false
not_before num [] i d h less = absurd (omega arith)
not_before num (x ∷ xs) zero d h less = refl
not_before num (x ∷ xs) (suc i) d h less =
    let both = and_parts (list_all (λ y. ltb (num x) y) (map num xs)) (is_rising (map num xs)) h in
    let more : i < length xs = omega arith in
    let up = above num (num x) xs i d both.0 more in
    let apart : eqb (num x) (num (get_or xs i d)) ≡ false =
    ne_eqb (num x) (num (get_or xs i d)) (λ e. absurd (omega arith)) in
    or_from (eqb (num x) (num (get_or xs i d))) (list_any (λ y. eqb (num y) (num (get_or xs i d))) (take i xs)) apart
    (not_before num xs i d both.1 more)
