-- reverse: faces turned over.
use Rattle.std.specs.Prelude.{List, Result}
use Rattle.std.specs.declared.option.Option.{Option}
use Rattle.std.specs.declared.option.Option.TheVariants.{None}
use Rattle.mesh_model.specs.Complex.{Complex}
use Rattle.mesh_model.specs.Elements.{no_elements}
use Rattle.mesh_model.specs.declared.names.FaceName.{FaceName}
use Rattle.mesh_model.specs.declared.refusal.Refusal.{Refusal}
use Rattle.op_slots.specs.declared.slots.Slots.{Slots}
use Rattle.mesh_passes.specs.Row.{row, only}
use Rattle.mesh_passes.specs.Turning.{turned_over}

-- never refused: nothing is made, so no limit can be passed
abbrev pub reverse_refusal : List FaceName → Complex → Option Refusal
reverse_refusal fs c = None

-- the faces, and the complex with them turned over
abbrev pub reverse_result : List FaceName → Complex → Slots × Complex
reverse_result fs c = (only (record no_elements { faces = fs }), turned_over c fs)

abbrev pub reverse_row : List FaceName → Complex → Result (Slots × Complex) Refusal
reverse_row fs c = row (reverse_refusal fs c) (reverse_result fs c)
