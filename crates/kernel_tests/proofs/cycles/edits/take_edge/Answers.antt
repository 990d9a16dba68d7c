use Rattle.kernel_tests.proofs.Sound.{sound_disk}
use Rattle.kernel_tests.proofs.cycles.edits.take_edge.Goals as goal

pub returns : goal.returns
returns g c = sound_disk c.disk_remove.ensures.edits c.requires
