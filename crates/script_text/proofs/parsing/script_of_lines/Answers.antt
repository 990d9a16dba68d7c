use Rattle.std.proofs.Common.{◌<◌, [], length, map}
use Rattle.std.proofs.lemmas.List.{length-map, get_or-map}
use Rattle.script_text.proofs.ScriptLemmas.{lines_more, lines_stop}
use Rattle.script_text.proofs.parsing.script_of_lines.Goals as goal

pub loop-k-preserved : goal.loop-k-preserved
loop-k-preserved c =
    let here : c.loop-k.k < length c.args.lines.now = c.loop-k-test.true in
    lines_more (map (λ l. l.now) c.args.lines.now) c.loop-k.k _ _ _ _ (rw length-map here)
    (get_or-map (λ l. l.now) c.args.lines.now c.loop-k.k (record { ref_ptr = (0, 0); now = [] }) [] here)
    c.in_default.ensures c.loop-k.invariant

pub returns-in-Err : goal.returns-in-Err
returns-in-Err c =
    let here : c.loop-k.k < length c.args.lines.now = c.loop-k-test.true in
    rw c.stopped.ensures (lines_stop c.in-Err.stop (map (λ l. l.now) c.args.lines.now) c.loop-k.k _ _ _
    (rw length-map here)
    (get_or-map (λ l. l.now) c.args.lines.now c.loop-k.k (record { ref_ptr = (0, 0); now = [] }) [] here)
    c.in-Err.ensures c.loop-k.invariant)
