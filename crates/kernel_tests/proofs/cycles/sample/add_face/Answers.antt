use Rattle.std.proofs.Common.{ap}
use Rattle.mesh_store.specs.Stored.{Stored}
use Rattle.mesh_cycles.proofs.Elements.{face_added}
use Rattle.kernel_tests.proofs.Sound.{sound_face}
use Rattle.kernel_tests.proofs.cycles.sample.add_face.Goals as goal

pub returns : goal.returns
returns g c =
    let st = c.args.st.now in
    let at = c.add_face in
    sound_face st at.new.self at.result c.args.name
    (face_added st at.new.self at.result c.requires.cycles c.args.name _ at.ensures.vacant at.ensures.adds)
    (ap (λ (t : Stored). t.faces.cells) at.ensures.adds) c.requires
