use Rattle.std.proofs.Common.{◌≡◌, ◌++◌, take}
use Rattle.std.specs.List.{flat_map}
use Rattle.mesh_model.specs.Table.{at}
use Rattle.mesh_model.specs.Complex.{corners_of}
use Rattle.obj_writer.specs.Whole.{corner_word}
use Rattle.obj_writer.proofs.face_lines.push_corners.Given as goal

-- the words of the corners so far
abbrev pub invariant-loop-i : goal.invariant-loop-i
invariant-loop-i g l =
    l.out.items ≡ l.fn.out.items ++ flat_map (corner_word (g.S.Shape.complex l.shape))
    (take l.i (corners_of (at (g.S.Shape.complex l.shape).faces l.fn.f.0)))
