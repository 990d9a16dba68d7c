-- Room for rows of numbers.
use Rattle.std.proofs.Common.{◌≡◌, ℕ, zero, suc, ◌+◌, ◌-◌, ◌*◌, ◌<◌, ◌≤◌, arith, Result, Ok, Err, IsOk, inl, inr}
use Rattle.std.proofs.lemmas.Bool.{cases_lt}
use Rattle.std.proofs.Math.Nat.{suc-mul, add-mul, mul-le-mul_right}

-- room for one row fewer
pub room_less : (count spare width capacity : ℕ) → count + spare * width ≤ capacity
    → count + (spare - 1) * width ≤ capacity
room_less count spare width capacity room = let less =
    mul-le-mul_right {m = spare - 1} {n = spare} width (omega arith) in omega arith

-- a row more takes room for one
pub room_used : (count spare width capacity : ℕ) → count + spare * width ≤ capacity → 0 < spare
    → count + width + (spare - 1) * width ≤ capacity
room_used count zero width capacity room some = absurd (omega arith)
room_used count (suc n) width capacity room some = let is = suc-mul n width in let one : suc n - 1 ≡ n =
    omega arith in rw one (omega arith)

-- what is told of room after a row more, by a vector that holds it and whose capacity hasn't fallen
pub room_after : (count spare width capacity later : ℕ) → count + spare * width ≤ capacity → capacity ≤ later
    → count + width ≤ later → count + width + (spare - 1) * width ≤ later
room_after count zero width capacity later room grown holds = let none : (0 - 1) * width ≡ 0 =
    omega arith in rw none (omega arith)
room_after count (suc n) width capacity later room grown holds = let used =
    room_used count (suc n) width capacity room (omega arith) in omega arith

-- a result that is Ok isn't an error
pub failed : {T E : Type 0} (r : Result T E) → IsOk r → (e : E) → r ≡ Err e → ⊥
failed (Ok x) ok e is = cc
failed (Err f) ok e is = absurd (cc)

-- what is told of room once some of it was used, by a vector that holds what was put there and whose capacity hasn't
-- fallen
pub room_left : (base spare used width capacity later : ℕ) → base + spare * width ≤ capacity → capacity ≤ later
    → base + used * width ≤ later → base + used * width + (spare - used) * width ≤ later
room_left base spare used width capacity later room grown holds = elim (cases_lt spare used) [
  | inl less ↦ (let none : spare - used ≡ 0 = omega arith in let gone : 0 * width ≡ 0 =
      omega arith in rw none (omega arith))
  | inr le ↦ (let parts = add-mul used (spare - used) width in let all : used + (spare - used) ≡ spare =
      omega arith in let whole = rw all at parts in omega arith)
]
