use Rattle.std.proofs.Common.{◌<◌, length, get_or, arith}
use Rattle.std.proofs.lemmas.Option.{slice_get-get_or}
use Rattle.mesh_trail.proofs.Rising.{front_least, front_none}
use Rattle.mesh_trail.proofs.note_map.least_in_front.Goals as goal

pub returns-then-at-rising : goal.returns-then-at-rising
returns-then-at-rising g c =
    let es = c.args.entries.now in
    let at = c.first_from-at.result in
    let less : at < length es = omega (arith, c.requires.within, c.if-at-rising.true) in
    front_least es c.args.rising c.args.least at (get_or es at c.index-entries-at.result) c.requires.tree
    c.requires.within c.requires.rising c.first_from-at.ensures
    (slice_get-get_or es at c.index-entries-at.result less) c.if-at-rising.true

pub returns-else-at-rising : goal.returns-else-at-rising
returns-else-at-rising g c = front_none c.args.entries.now c.args.rising c.args.least c.first_from-at.result
    c.requires.within c.if-at-rising.false c.first_from-at.ensures
