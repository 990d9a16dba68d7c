-- duplicate and split: the closure of what is named is copied.
use Rattle.std.specs.Prelude.{Result}
use Rattle.std.specs.declared.option.Option.{Option}
use Rattle.mesh_model.specs.Complex.{Complex}
use Rattle.mesh_model.specs.Elements.{Elements}
use Rattle.mesh_model.specs.Closure.{closure}
use Rattle.mesh_model.specs.Refusals.{unless_too_many}
use Rattle.mesh_model.specs.declared.refusal.Refusal.{Refusal}
use Rattle.op_slots.specs.declared.slots.Slots.{Slots}
use Rattle.mesh_passes.specs.Row.{row}
use Rattle.mesh_passes.specs.Killing.{without_set}
use Rattle.mesh_copies.specs.Copying.{with_copies, copy_slots}

-- ---- duplicate: the closure is copied

-- refused where a limit would be passed
abbrev pub duplicate_refusal : Elements → Complex → Option Refusal
duplicate_refusal x c = unless_too_many (with_copies c (closure c x))

-- the copies, and the complex with them
abbrev pub duplicate_result : Elements → Complex → Slots × Complex
duplicate_result x c = let s = closure c x in (copy_slots c s, with_copies c s)

-- ---- split: the closure is copied; then its faces go, its edges that no face is left along, and its bare vertices

-- the complex with the copies and without what the set alone had
abbrev pub split_off : Complex → Elements → Complex
split_off c s = without_set (with_copies c s) s

-- refused where a limit would be passed, by what is left
abbrev pub split_refusal : Elements → Complex → Option Refusal
split_refusal x c = unless_too_many (split_off c (closure c x))

-- the copies, and the complex with them
abbrev pub split_result : Elements → Complex → Slots × Complex
split_result x c = let s = closure c x in (copy_slots c s, split_off c s)

-- ---- rows

abbrev pub duplicate_row : Elements → Complex → Result (Slots × Complex) Refusal
duplicate_row x c = row (duplicate_refusal x c) (duplicate_result x c)

abbrev pub split_row : Elements → Complex → Result (Slots × Complex) Refusal
split_row x c = row (split_refusal x c) (split_result x c)
