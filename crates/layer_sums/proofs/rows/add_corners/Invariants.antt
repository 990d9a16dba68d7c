use Rattle.std.proofs.Common.{◌≡◌, take, drop}
use Rattle.std.specs.List.{fold}
use Rattle.mesh_model.specs.Table.{at}
use Rattle.layer_sums.specs.Sums.{corner_rows, plus}
use Rattle.layer_sums.proofs.Summing.{joined}
use Rattle.layer_sums.proofs.rows.add_corners.Given as goal

-- the rows of the corners so far are added, and the others are left
abbrev pub invariant-loop-corner : goal.invariant-loop-corner
invariant-loop-corner g l =
    let rows = corner_rows (at (g.S.Shape.complex l.shape).faces l.fn.f.0) in record {
      rest : l.rest ≡ joined (drop l.corner rows);
      added : l.sums ≡ fold plus l.fn.sums (take l.corner rows);
    }
