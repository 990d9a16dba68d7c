-- A loop goes over the places of a chunk and writes each.
use Rattle.std.proofs.Common.{◌≡◌, ℕ, zero, suc, ◌<◌, ◌≤◌, List, length, get_or, replicate, refl, sym, ◌∙◌, arith, ext_get_or}
use Rattle.std.proofs.lemmas.List.{length-replicate}
use Rattle.raw_pool.specs.Place.{Place, Empty}

-- of n places those below i are written, and the others are as they were
pub record Sweep {X : Type 0} (written was : ℕ → Place X) (ps : List (Place X)) (i n : ℕ) : Type 0 where
  pub long : length ps ≡ n
  pub past : (k : ℕ) → k < i → get_or ps k Empty ≡ written k
  pub ahead : (k : ℕ) → i ≤ k → get_or ps k Empty ≡ was k

-- a row of empty places
get_empty : {X : Type 0} (n k : ℕ) → let none : Place X = Empty in get_or (replicate n none) k none ≡ none
get_empty zero k = refl
get_empty (suc n) zero = refl
get_empty (suc n) (suc k) = get_empty n k

-- all are empty at the end
pub swept_empty : {X : Type 0} {was : ℕ → Place X} {ps : List (Place X)} {i n : ℕ} → Sweep (λ k. Empty) was ps i n
    → n ≤ i → ps ≡ replicate n Empty
swept_empty {ps = ps} {n = n} s le = ext_get_or Empty ps (replicate n Empty) (s.long ∙ sym (length-replicate n Empty))
    (λ k h. s.past k (let m = s.long in omega arith) ∙ sym (get_empty n k))

-- all are as in the other list at the end
pub swept_copy : {X : Type 0} {was : ℕ → Place X} {ps : List (Place X)} {i n : ℕ} (qs : List (Place X))
    → Sweep (λ k. get_or qs k Empty) was ps i n → n ≤ i → length qs ≡ n → ps ≡ qs
swept_copy {ps = ps} qs s le e = ext_get_or Empty ps qs (s.long ∙ sym e)
    (λ k h. s.past k (let m = s.long in omega arith))
