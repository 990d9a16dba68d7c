-- What a session can do so far, beside what the table of operators tells.
use Rattle.std.specs.Prelude.{Bool, true, false, List}
use Rattle.std.specs.List.{list_all}
use Rattle.op_slots.specs.declared.op.Op.{Op}
use Rattle.op_slots.specs.declared.op.Op.TheVariants as op
use Rattle.op_slots.specs.declared.command.Command.{Command}
use Rattle.op_slots.specs.declared.command.What.{What}
use Rattle.op_slots.specs.declared.command.What.TheVariants.{Run, Undo, Redo}

-- the operators that a session can do
abbrev pub is_op_built : Op → Bool
is_op_built (op.MakeVert at) = true
is_op_built (op.MakeEdge verts) = true
is_op_built (op.MakeFace verts) = true
is_op_built (op.Set of geom layer values) = true
is_op_built (op.Translate verts by) = true
is_op_built (op.Scale verts about num den) = true
is_op_built (op.Mirror verts axis about) = true
is_op_built (op.Reverse faces) = true
is_op_built (op.Duplicate geom) = true
is_op_built (op.Split geom) = true
is_op_built (op.Delete geom context) = true
is_op_built _ = false

-- so what it can do: these operators, and each way through its past
abbrev pub is_built : What → Bool
is_built (Run o) = is_op_built o
is_built Undo = true
is_built Redo = true

-- each of some commands
abbrev pub are_built : List Command → Bool
are_built cs = list_all (λ (c : Command). is_built c.what) cs
