use Rattle.link_ring.proofs.Reading.{reads_at}
use Rattle.mesh_cycles.proofs.Completeness.{second_in}
use Rattle.kernel_tests.proofs.Sound.{sound_disk}
use Rattle.kernel_tests.proofs.cycles.edits.take_second_edge.Goals as goal

pub disk_remove-requires-clause-member : goal.disk_remove-requires-clause-member
disk_remove-requires-clause-member g c =
    second_in (reads_at (c.requires.cycles.disks c.vert-vert.result.0) c.some_dart-first.ensures.first)
    c.next-second.ensures

pub returns : goal.returns
returns g c = sound_disk c.disk_remove.ensures.edits c.requires
