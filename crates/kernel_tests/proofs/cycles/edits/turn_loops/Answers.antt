use Rattle.std.proofs.Common.{◌∙◌}
use Rattle.mesh_cycles.proofs.Besides.{radial_edge_of}
use Rattle.kernel_tests.proofs.Sound.{sound_radial}
use Rattle.kernel_tests.proofs.cycles.edits.turn_loops.Goals as goal

pub radial_add-requires-clause-edge : goal.radial_add-requires-clause-edge
radial_add-requires-clause-edge g c =
    let e = c.edge-edge.result.0 in
    let l = c.some_radial-first.result in
    radial_edge_of c.args.st.now c.radial_remove.new.st e c.radial_remove.ensures.edits.rest l.0
    ∙ c.requires.cycles.radial_edges e l c.some_radial-first.ensures.member

pub returns : goal.returns
returns g c = sound_radial c.radial_add.ensures (sound_radial c.radial_remove.ensures.edits c.requires)
