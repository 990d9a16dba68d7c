use Rattle.std.proofs.Common.{ap, ◌∙◌}
use Rattle.mesh_core.specs.Seen.{now}
use Rattle.mesh_passes.specs.Moving.{unless_on_grid}
use Rattle.op_basic.specs.Motions.{translation}
use Rattle.op_basic.proofs.translating.TranslateArgsOperator.check.Goals as goal

pub returns : goal.returns
returns c = c.unless_on_grid.ensures
    ∙ ap (unless_on_grid (translation c.args.self.now.by) (now c.args.mesh.now)) c.verts.ensures.names
