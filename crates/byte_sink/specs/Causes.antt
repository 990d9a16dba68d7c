-- Counts of faults: an answer that blames a fault comes only where the count of such faults rose.
use Rattle.std.specs.Prelude.{ℕ, ◌+◌, ◌-◌, ◌^◌, ◌≤◌, ◌≡◌, min, Bool, true, false}
use Rattle.std.specs.declared.result.Result.{Result}
use Rattle.std.specs.declared.result.Result.TheVariants.{Ok, Err}
use Rattle.byte_sink.specs.declared.write_fault.WriteFault.{WriteFault}
use Rattle.byte_sink.specs.declared.write_fault.WriteFault.TheVariants.{Failed, NoMemory}

-- it is greater than before, or stands at its type's end
pub record Rose (before now : ℕ) : Type 0 where
  pub risen : min (before + 1) (2 ^ 64 - 1) ≤ now
  pub never_falls : before ≤ now

-- a count rose where its fault was answered, and is as before else
abbrev pub CountsIf : Bool → ℕ → ℕ → Type 0
CountsIf true before now = Rose before now
CountsIf false before now = now ≡ before

-- what stands behind the sink refused the bytes
abbrev pub has_failed : {T : Type 0} → Result T WriteFault → Bool
has_failed (Ok _) = false
has_failed (Err NoMemory) = false
has_failed (Err Failed) = true

-- Failed comes only where the count rose, and every other answer leaves it
abbrev pub CountsFault : {T : Type 0} → Result T WriteFault → ℕ → ℕ → Type 0
CountsFault result before now = CountsIf (has_failed result) before now
