use Rattle.std.proofs.Common.{◌≡◌, ◌++◌, take}
use Rattle.std.specs.List.{flat_map, enumerate_from}
use Rattle.obj_writer.specs.Written.{loose_entry}
use Rattle.obj_writer.proofs.loose_lines.push_loose.Given as goal

-- the lines of the loose edges so far
abbrev pub invariant-loop-n : goal.invariant-loop-n
invariant-loop-n g l =
    l.out.items ≡ l.fn.out.items ++ flat_map (loose_entry (g.S.Shape.complex l.shape))
    (take l.n (enumerate_from 0 (g.S.Shape.complex l.shape).edges))
