use Rattle.std.proofs.Common.{◌≡◌, length, arith}
use Rattle.std.proofs.lemmas.List.{length-map}
use Rattle.mesh_store.specs.declared.cells.Round.{Round}
use Rattle.mesh_cycles.specs.Cycles.{round_of}
use Rattle.mesh_cycles.specs.Found.{loops_in}
use Rattle.mesh_cycles.proofs.Around.{in_once, in_live}
use Rattle.mesh_cycles.proofs.LoopCalls.{round_short}
use Rattle.mesh_cycles.proofs.in_face.corners_of_face.Goals as goal

pub returns-clause-once : goal.returns-clause-once
returns-clause-once c = in_once c.args.st.now c.requires.cycles c.args.f.0

pub returns-clause-few : goal.returns-clause-few
returns-clause-few c =
    let st = c.args.st.now in
    let f = c.args.f.0 in
    let same : length (loops_in st f) ≡ length (round_of st f) = length-map (round_of st f) (λ (l : Round). l.0) in
    let short = round_short st f c.requires.cycles in
    let few = c.first_round.ensures.few in
    omega arith

pub returns-clause-live : goal.returns-clause-live
returns-clause-live c = in_live c.args.st.now c.requires.cycles c.args.f.0
