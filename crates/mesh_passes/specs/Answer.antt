-- What the call of an operator answers, and what it leaves.
use Rattle.std.specs.Prelude.{◌≡◌, Result, Ok, Err}
use Rattle.mesh_model.specs.Complex.{Complex}
use Rattle.mesh_model.specs.Valid.{IsLinked, IsSound}
use Rattle.mesh_model.specs.declared.refusal.Refusal.{Refusal}
use Rattle.mesh_core.specs.Seen.{Seen, now}
use Rattle.op_slots.specs.declared.slots.Slots.{Slots}
use Rattle.op_slots.specs.declared.fault.Fault.{Fault}
use Rattle.op_slots.specs.declared.fault.Fault.TheVariants.{Refused, NoMemory}

-- a mesh between two commands: its complex is sound, and the way back leads to it
pub record IsReady (m : Seen) : Type 0 where
  pub sound : IsSound (now m)
  pub same : m.base ≡ now m

-- done, it is as the row says, and sound; refused, it is as the row says, and the complex is the same; where memory ran
-- out the complex is linked, and is the same where the row refuses
abbrev pub AnswerIs : Result (Slots × Complex) Refusal → Complex → Complex → Result Slots Fault → Type 0
AnswerIs is old new (Ok slots) = (is ≡ Ok (slots, new)) × IsSound new
AnswerIs is old new (Err (Refused r)) = (is ≡ Err r) × (new ≡ old)
AnswerIs is old new (Err NoMemory) = IsLinked new × ((r : Refusal) → is ≡ Err r → new ≡ old)

-- a call answers a row, and leaves the way back
pub record Meets (is : Result (Slots × Complex) Refusal) (old new : Seen) (result : Result Slots Fault) : Type 0 where
  pub answer : AnswerIs is (now old) (now new) result
  pub base : new.base ≡ old.base
