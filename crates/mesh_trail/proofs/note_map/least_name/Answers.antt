use Rattle.std.proofs.Common.{get_or}
use Rattle.std.proofs.lemmas.List.{take_all}
use Rattle.std.proofs.lemmas.Option.{slice_get-get_or}
use Rattle.mesh_trail.proofs.Least.{least_more}
use Rattle.mesh_trail.proofs.note_map.least_name.Goals as goal

pub loop-k-preserved : goal.loop-k-preserved
loop-k-preserved g c =
    let es = c.args.entries.now in
    let e = get_or es c.loop-k.k c.index-entries-k.result in
    rw c.nearer-best.ensures (least_more es c.loop-k.k e c.loop-k.best c.args.least c.requires.tree
    (slice_get-get_or es c.loop-k.k c.index-entries-k.result c.loop-k-test.true) c.loop-k.invariant)

pub returns : goal.returns
returns g c = rw (take_all c.loop-k.k c.args.entries.now c.loop-k-test.false) at c.loop-k.invariant
