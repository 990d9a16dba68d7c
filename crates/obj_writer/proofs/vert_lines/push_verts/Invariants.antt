use Rattle.std.proofs.Common.{◌≡◌, ◌++◌, take}
use Rattle.std.specs.List.{flat_map}
use Rattle.obj_writer.specs.Written.{vert_entry}
use Rattle.obj_writer.proofs.vert_lines.push_verts.Given as goal

-- the lines of the vertices so far
abbrev pub invariant-loop-n : goal.invariant-loop-n
invariant-loop-n g l =
    l.out.items ≡ l.fn.out.items ++ flat_map (vert_entry l.scale) (take l.n (g.S.Shape.complex l.shape).verts)
