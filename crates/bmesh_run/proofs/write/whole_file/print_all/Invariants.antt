use Rattle.std.proofs.Common.{◌≡◌, ◌-◌, ◌≤◌, length, take}
use Rattle.byte_sink.specs.Wrote.{with_after}
use Rattle.bmesh_run.proofs.write.whole_file.print_all.Given as goal

abbrev pub invariant-loop-done : goal.invariant-loop-done
invariant-loop-done g l =
    let told = g.W.World.told in
    record {
      within : l.done ≤ length l.bytes;
      printed : told l.world ≡ record (told l.fn.world) {
        printed =
            with_after (told l.fn.world).printed (take l.done l.bytes);
      };
    }

abbrev pub decreases-loop-done : goal.decreases-loop-done
decreases-loop-done g l = length l.bytes - l.done
