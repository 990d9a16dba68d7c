use Rattle.std.proofs.Common.{◌≡◌, ◌≤◌, ◌+◌, ◌-◌, length}
use Rattle.bmesh_run.proofs.Reading.{IsAsked, AndLeft}
use Rattle.bmesh_run.proofs.read.whole_file.read_all.Given as goal

abbrev pub invariant-loop-piece : goal.invariant-loop-piece
invariant-loop-piece g l =
    let told = g.W.World.told in
    record {
      only : IsAsked (told l.fn.world) (told l.world) l.name;
      left : AndLeft (told l.fn.world) (told l.world) l.name l.out.items;
      few : length l.out.items ≤ l.limit + 1;
      room : length l.piece ≡ 4096;
    }

abbrev pub decreases-loop-piece : goal.decreases-loop-piece
decreases-loop-piece g l = l.limit + 1 - length l.out.items
