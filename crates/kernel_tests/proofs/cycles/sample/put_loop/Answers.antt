use Rattle.std.proofs.Common.{ap, ◌∙◌}
use Rattle.std.specs.Option.{option_map}
use Rattle.link_ring.proofs.Members.{member_of}
use Rattle.mesh_store.specs.Stored.{Stored}
use Rattle.mesh_store.specs.declared.cells.LoopCell.{LoopCell}
use Rattle.mesh_cycles.proofs.Besides.{radial_face_of}
use Rattle.mesh_cycles.proofs.Elements.{loop_added}
use Rattle.kernel_tests.proofs.Sound.{sound_same, sound_radial}
use Rattle.kernel_tests.proofs.cycles.sample.put_loop.Goals as goal

pub radial_add-requires-clause-cycles : goal.radial_add-requires-clause-cycles
radial_add-requires-clause-cycles g c =
    let at = c.add_loop-l in
    (loop_added c.args.st.now at.new.self at.result c.requires.sound.cycles c.args.vert c.args.edge c.args.face
    at.ensures.vacant at.ensures.adds).same.cycles

pub returns-clause-sound : goal.returns-clause-sound
returns-clause-sound g c =
    let st = c.args.st.now in
    let at = c.add_loop-l in
    sound_radial c.radial_add.ensures (sound_same st at.new.self (ap (λ (t : Stored). t.faces) at.ensures.adds)
    (loop_added st at.new.self at.result c.requires.sound.cycles c.args.vert c.args.edge c.args.face at.ensures.vacant
    at.ensures.adds).same c.requires.sound)

pub returns-clause-face : goal.returns-clause-face
returns-clause-face g c =
    let at = c.add_loop-l in
    let a = loop_added c.args.st.now at.new.self at.result c.requires.sound.cycles c.args.vert c.args.edge c.args.face
    at.ensures.vacant at.ensures.adds in
    radial_face_of at.new.self c.radial_add.new.st c.args.edge.0 c.radial_add.ensures.rest at.result
    ∙ ap (option_map (λ (b : LoopCell). b.face.0)) a.there

pub returns-clause-apart : goal.returns-clause-apart
returns-clause-apart g c = λ f m.
    let at = c.add_loop-l in
    let a = loop_added c.args.st.now at.new.self at.result c.requires.sound.cycles c.args.vert c.args.edge c.args.face
    at.ensures.vacant at.ensures.adds in
    a.no_round f (member_of (record { 0 = at.result }) m (c.radial_add.ensures.rounds f))
