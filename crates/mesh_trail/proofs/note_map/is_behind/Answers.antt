use Rattle.std.proofs.Common.{◌<◌, ◌-◌, length, get_or, arith}
use Rattle.std.proofs.lemmas.Option.{slice_get-get_or}
use Rattle.mesh_trail.proofs.Rising.{behind_none, behind_last}
use Rattle.mesh_trail.proofs.note_map.is_behind.Goals as goal

pub returns-then-n-eq0 : goal.returns-then-n-eq0
returns-then-n-eq0 g c = λ yes. behind_none c.args.entries.now c.args.name (omega arith)

pub returns-then-last-name : goal.returns-then-last-name
returns-then-last-name g c =
    let es = c.args.entries.now in
    let less : length es - 1 < length es = omega arith in
    λ yes. behind_last es c.args.rising c.args.name (get_or es (length es - 1) c.index-entries-n.result) (omega arith)
    c.requires.rising (slice_get-get_or es (length es - 1) c.index-entries-n.result less) (omega arith)
