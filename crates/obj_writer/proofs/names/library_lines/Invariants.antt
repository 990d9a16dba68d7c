use Rattle.std.proofs.Common.{◌≡◌, take, codes}
use Rattle.std.specs.List.{flat_map}
use Rattle.obj_writer.specs.Whole.{name_line}
use Rattle.obj_writer.proofs.names.library_lines.Given as goal

-- the lines of the libraries so far
abbrev pub invariant-loop-k : goal.invariant-loop-k
invariant-loop-k g l = l.out.items ≡ flat_map (name_line (codes "mtllib"))
    (take l.k (g.S.Shape.complex l.shape).libraries)
