-- Faults of a sink and of a world, and counts.
use Rattle.std.specs.Prelude.{ℕ, ◌≡◌, ◌+◌, ◌-◌, ◌^◌, min, Bool, true, false, Result, Ok, Err}
use Rattle.byte_sink.specs.declared.write_fault.WriteFault.{WriteFault}
use Rattle.byte_sink.specs.declared.write_fault.WriteFault.TheVariants as sink
use Rattle.worlds.specs.declared.world_fault.WorldFault.{WorldFault}
use Rattle.worlds.specs.declared.world_fault.WorldFault.TheVariants.{Failed, NoMemory}

-- a sink's fault is the world's fault of the same name
abbrev pub fault_of : WriteFault → WorldFault
fault_of sink.Failed = Failed
fault_of sink.NoMemory = NoMemory

-- one more, where a count is not at its type's end
abbrev pub one_more : ℕ → ℕ
one_more count = min (count + 1) (2 ^ 64 - 1)

-- a file or the output failed
abbrev pub has_failed : {T : Type 0} → Result T WorldFault → Bool
has_failed (Ok _) = false
has_failed (Err Failed) = true
has_failed (Err NoMemory) = false

-- a count is one more where its fault was answered, and is as before else
abbrev pub CountsOneIf : Bool → ℕ → ℕ → Type 0
CountsOneIf true before now = now ≡ one_more before
CountsOneIf false before now = now ≡ before
