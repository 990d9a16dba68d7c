-- What holds of closures, of ranks and of limits.
use Rattle.std.specs.Prelude.{◌≡◌, ◌<◌, ◌↔◌, ℕ, IsTrue, List, length, slice_index}
use Rattle.std.specs.declared.option.Option.TheVariants.{None}
use Rattle.mesh_model.specs.Complex.{Complex, counters_of}
use Rattle.mesh_model.specs.Elements.{Elements}
use Rattle.mesh_model.specs.Naming.{rank, is_rising, are_rising}
use Rattle.mesh_model.specs.Closure.{AreLive, closure}
use Rattle.mesh_model.specs.Refusals.{limit_passed}
use Rattle.mesh_model.specs.Valid.{IsLinked, IsWithinLimits}

-- the names of a closure rise
abbrev pub ClosureRises : Type 0
ClosureRises = (c : Complex) (x : Elements) → IsTrue (are_rising (closure c x))

-- the elements of a closure are there where those of the set are
abbrev pub ClosureIsLive : Type 0
ClosureIsLive = (c : Complex) (x : Elements) → IsLinked c → AreLive c x → AreLive c (closure c x)

-- a closure is its own closure
abbrev pub ClosureIsClosed : Type 0
ClosureIsClosed = (c : Complex) (x : Elements) → closure c (closure c x) ≡ closure c x

-- a member's rank in a rising list is its position
abbrev pub RankIsPosition : Type 0
RankIsPosition = (members : List ℕ) (i : ℕ) → IsTrue (is_rising members) → i < length members
    → rank members (slice_index members i) ≡ i

-- no limit is passed where all hold
abbrev pub NoLimitPassed : Type 0
NoLimitPassed = (c : Complex) → (limit_passed (counters_of c) ≡ None) ↔ IsWithinLimits c
