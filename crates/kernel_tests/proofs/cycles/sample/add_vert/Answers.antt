use Rattle.std.proofs.Common.{ap}
use Rattle.mesh_store.specs.Stored.{Stored}
use Rattle.mesh_cycles.proofs.Completeness.{whole_vert}
use Rattle.mesh_cycles.proofs.Elements.{vert_added}
use Rattle.kernel_tests.proofs.Sound.{sound_same}
use Rattle.kernel_tests.proofs.cycles.sample.add_vert.Goals as goal

pub returns-clause-sound : goal.returns-clause-sound
returns-clause-sound g c =
    let st = c.args.st.now in
    let at = c.add_vert in
    sound_same st at.new.self (ap (λ (t : Stored). t.faces) at.ensures.adds)
    (vert_added st at.new.self at.result c.requires.cycles c.args.name _ _ at.ensures.vacant at.ensures.adds).same
    c.requires

pub returns-clause-whole : goal.returns-clause-whole
returns-clause-whole g c =
    let st = c.args.st.now in
    let at = c.add_vert in
    whole_vert st at.new.self at.result c.args.name _ c.requires.cycles at.ensures.vacant at.ensures.adds
