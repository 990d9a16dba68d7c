use Rattle.link_ring.proofs.Reading.{reads_at}
use Rattle.mesh_cycles.proofs.Completeness.{second_in}
use Rattle.kernel_tests.proofs.Sound.{sound_radial}
use Rattle.kernel_tests.proofs.cycles.edits.take_second_loop.Goals as goal

pub radial_remove-requires-clause-member : goal.radial_remove-requires-clause-member
radial_remove-requires-clause-member g c =
    second_in (reads_at (c.requires.cycles.radials c.edge-edge.result.0) c.some_radial-first.ensures.first)
    c.next-second.ensures

pub returns : goal.returns
returns g c = sound_radial c.radial_remove.ensures.edits c.requires
