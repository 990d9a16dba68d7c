use Rattle.std.proofs.Common.{◌∙◌}
use Rattle.mesh_core.specs.Seen.{now}
use Rattle.mesh_copies.proofs.Copyings.{vert_made}
use Rattle.mesh_copies.proofs.copying.copy_vert.Goals as goal

pub returns-clause-now : goal.returns-clause-now
returns-clause-now c = c.in_ok-make_vert.ensures.now
    ∙ vert_made (now c.args.mesh.now) c.point-p.result c.args.v c.point-p.ensures
