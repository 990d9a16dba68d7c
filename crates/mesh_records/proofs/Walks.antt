-- A walk to a position.
use Rattle.std.proofs.Common.{◌≡◌, ◌<◌, ◌≤◌, ◌+◌, ◌*◌, ℕ, suc, true, is_some, List, [], ◌∷◌, ◌++◌, Option, Some, None, length, length-append, ap, subst, arith}
use Rattle.std.specs.List.{slice_get}
use Rattle.std.specs.Iterator.{YieldsFirst, SkipsThenYields}
use Rattle.std.proofs.Math.Nat.{mul-le-mul_right, suc-mul}
use Rattle.std.proofs.lemmas.Option.{slice_get-get_or}
use Rattle.std.proofs.lemmas.Iterator.Consumers.{nth_from_yields_List, YieldsList-from_first}
use Rattle.raw_pool.specs.declared.pool.Slot.{Slot}
use Rattle.raw_pool.specs.Slots.{IsLive}
use Rattle.mesh_store.specs.Stored.{Stored}
use Rattle.mesh_cycles.specs.Cycles.{AreCycles}
use Rattle.mesh_cycles.specs.Found.{loops_in}
use Rattle.mesh_cycles.proofs.Around.{in_live}
use Rattle.mesh_cycles.proofs.Mapped.{next_member, next_taken}

-- what comes after so many is at that position of what was left
pub nth_given : {S X : Type 0} (rest : S → List X) (s u : S) (n : ℕ) (r : Option X) (xs : List X) → rest s ≡ xs
    → SkipsThenYields (YieldsFirst rest) s n r u → r ≡ slice_get xs n
nth_given {S} {X} rest s u n None xs e h =
    nth_from_yields_List None u n h (YieldsList-from_first (λ (x : X). x) rest xs e)
nth_given {S} {X} rest s u n (Some x) xs e h =
    nth_from_yields_List (Some x) u n h (YieldsList-from_first (λ (y : X). y) rest xs e)

-- something is at a position within a list
pub is_within : {X : Type 0} (xs : List X) (i : ℕ) → i < length xs → is_some (slice_get xs i) ≡ true
is_within [] i h = absurd (omega arith)
is_within {X} (x ∷ xs) i h = ap (λ (o : Option X). is_some o) (slice_get-get_or (x ∷ xs) i x h)

-- one piece more is within the whole
pub piece_fits : (a b w : ℕ) → a < b → a * w + w ≤ b * w
piece_fits a b w h =
    let low : suc a ≤ b = omega arith in
    let P = λ (k : ℕ). k ≤ b * w in
    subst P (suc-mul a w) (mul-le-mul_right w low)

-- the next loop of a face is live
pub next_live : (st : Stored) → AreCycles st → (f : ℕ) (taken left rest : List Slot) (l : Slot)
    → taken ++ left ≡ loops_in st f → left ≡ l ∷ rest → IsLive st.loops l.0
next_live st h f taken left rest l seen step =
    in_live st h f l (next_member (loops_in st f) taken left rest l seen step)

-- more follow than were taken
pub more_follow : {X : Type 0} (all taken left rest : List X) (x : X) → taken ++ left ≡ all → left ≡ x ∷ rest
    → length taken < length all
more_follow {X} all taken left rest x seen step =
    let whole = ap (λ (ls : List X). length ls) (next_taken all taken left rest x seen step) in
    let parts = length-append (taken ++ x ∷ []) rest in
    let parts' = length-append taken (x ∷ []) in
    omega arith

-- the row of the next one fits
pub row_fits : {X : Type 0} (all taken left rest : List X) (x : X) (w start long : ℕ) → taken ++ left ≡ all
    → left ≡ x ∷ rest → length taken * w ≡ start → long ≡ length all * w → start + w ≤ long
row_fits all taken left rest x w start long seen step count whole =
    let fits = piece_fits (length taken) (length all) w (more_follow all taken left rest x seen step) in
    omega arith
