use Rattle.std.proofs.Common.{◌≡◌, length}
use Rattle.obj_reader.specs.Values.{stutters}
use Rattle.obj_reader.proofs.values.stutters.Given as goal

abbrev pub invariant-loop-rest : goal.invariant-loop-rest
invariant-loop-rest l = stutters l.rest ≡ stutters l.corners

abbrev pub decreases-loop-rest : goal.decreases-loop-rest
decreases-loop-rest l = length l.rest
