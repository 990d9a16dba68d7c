use Rattle.std.proofs.Common.{◌∙◌}
use Rattle.mesh_core.specs.Seen.{now}
use Rattle.mesh_passes.proofs.Reached.{faces_closed}
use Rattle.mesh_passes.proofs.closing.faces_of.Goals as goal

pub returns : goal.returns
returns c = c.in_ok-faces.ensures ∙ rw (c.deref.ensures.value, c.in_ok-numbers.ensures, c.faces.ensures.names)
    (faces_closed (now c.args.mesh.now) c.args.set.now c.requires c.faces.ensures.rising)
