use Rattle.std.proofs.Common.{ap, [], ◌∷◌}
use Rattle.mesh_store.specs.Stored.{Stored, new_edge}
use Rattle.mesh_cycles.proofs.Completeness.{whole_edge}
use Rattle.mesh_cycles.proofs.Elements.{edge_added}
use Rattle.kernel_tests.proofs.Sound.{sound_same}
use Rattle.kernel_tests.proofs.cycles.sample.join.Goals as goal

pub put_darts-requires-clause-cycles : goal.put_darts-requires-clause-cycles
put_darts-requires-clause-cycles g c =
    let st = c.args.st.now in
    let at = c.add_edge-edge in
    let differ = c.two_ends.ensures in
    (edge_added st at.new.self at.result c.requires.cycles c.args.name (c.vert-from.result ∷ c.vert-to.result ∷ []) _
    at.ensures.vacant differ at.ensures.adds).same.cycles

pub put_darts-requires-clause-apart : goal.put_darts-requires-clause-apart
put_darts-requires-clause-apart g c =
    let st = c.args.st.now in
    let at = c.add_edge-edge in
    let differ = c.two_ends.ensures in
    (edge_added st at.new.self at.result c.requires.cycles c.args.name (c.vert-from.result ∷ c.vert-to.result ∷ []) _
    at.ensures.vacant differ at.ensures.adds).alone

pub returns-clause-sound : goal.returns-clause-sound
returns-clause-sound g c =
    let st = c.args.st.now in
    let at = c.add_edge-edge in
    let differ = c.two_ends.ensures in
    c.put_darts.ensures.sound (sound_same st at.new.self (ap (λ (t : Stored). t.faces) at.ensures.adds)
    (edge_added st at.new.self at.result c.requires.cycles c.args.name (c.vert-from.result ∷ c.vert-to.result ∷ []) _
    at.ensures.vacant differ at.ensures.adds).same c.requires)

pub returns-clause-whole : goal.returns-clause-whole
returns-clause-whole g c = λ w.
    let st = c.args.st.now in
    let at = c.add_edge-edge in
    let ends = c.vert-from.result ∷ c.vert-to.result ∷ [] in
    let differ = c.two_ends.ensures in
    let a = edge_added st at.new.self at.result c.requires.cycles c.args.name ends _ at.ensures.vacant differ
    at.ensures.adds in
    c.put_darts.ensures.whole (whole_edge st at.new.self at.result (new_edge c.args.name ends at.result) a
    (ap (λ (t : Stored). t.edges.cells) at.ensures.adds) w)
