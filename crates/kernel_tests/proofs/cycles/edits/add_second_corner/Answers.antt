use Rattle.std.proofs.Common.{◌∙◌, sym, subst}
use Rattle.std.proofs.lemmas.Option.{same_Some}
use Rattle.mesh_cycles.specs.Cycles.{IsCounted}
use Rattle.mesh_cycles.proofs.Completeness.{live_len}
use Rattle.kernel_tests.proofs.Sound.{sound_round}
use Rattle.kernel_tests.proofs.cycles.edits.add_second_corner.Goals as goal

pub loop_insert_counted-requires-clause-member : goal.loop_insert_counted-requires-clause-member
loop_insert_counted-requires-clause-member g c =
    let f = c.face-face.result.0 in
    (f, c.some_round-first.ensures.member)

pub loop_insert_counted-requires-clause-counted : goal.loop_insert_counted-requires-clause-counted
loop_insert_counted-requires-clause-counted g c = λ k is.
    let st = c.put_loop-l.new.st in
    let f = c.face-face.result.0 in
    let s = c.put_loop-l.ensures in
    let there = s.sound.cycles.round_faces f c.some_round-first.result c.some_round-first.ensures.member in
    let P = IsCounted st in
    subst P (same_Some _ _ (sym there ∙ is)) (live_len st f s.sound.counted s.live)

pub loop_insert_counted-requires-clause-same : goal.loop_insert_counted-requires-clause-same
loop_insert_counted-requires-clause-same g c =
    let f = c.face-face.result.0 in
    let s = c.put_loop-l.ensures in
    s.face ∙ sym (s.sound.cycles.round_faces f c.some_round-first.result c.some_round-first.ensures.member)

pub returns : goal.returns
returns g c =
    let f = c.face-face.result.0 in
    let s = c.put_loop-l.ensures in
    sound_round (c.loop_insert_counted.ensures f (s.sound.cycles.round_faces f c.some_round-first.result
    c.some_round-first.ensures.member)) s.sound
