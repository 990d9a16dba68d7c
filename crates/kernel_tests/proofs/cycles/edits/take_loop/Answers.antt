use Rattle.kernel_tests.proofs.Sound.{sound_radial}
use Rattle.kernel_tests.proofs.cycles.edits.take_loop.Goals as goal

pub returns : goal.returns
returns g c = sound_radial c.radial_remove.ensures.edits c.requires
