-- The row of an operator: the refusal of its first condition that fails, or else its slots and the complex after.
use Rattle.std.specs.Prelude.{[], Result, Ok, Err}
use Rattle.std.specs.declared.option.Option.{Option}
use Rattle.std.specs.declared.option.Option.TheVariants.{None, Some}
use Rattle.mesh_model.specs.Complex.{Complex}
use Rattle.mesh_model.specs.Elements.{Elements, no_elements}
use Rattle.mesh_model.specs.declared.refusal.Refusal.{Refusal}
use Rattle.op_slots.specs.declared.slots.Slots.{Slots}

-- the refusal, or else what is done
abbrev pub row : Option Refusal → Slots × Complex → Result (Slots × Complex) Refusal
row (Some r) done = Err r
row None done = Ok done

-- slots with these elements and no pair
abbrev pub only : Elements → Slots
only x = record { geom = x; map = [] }

-- no element and no pair
abbrev pub no_slots : Slots
no_slots = only no_elements
