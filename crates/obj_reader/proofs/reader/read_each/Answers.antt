use Rattle.std.proofs.Common.{◌≡◌, ◌∙◌, Some, None, sym, arith}
use Rattle.text_words.specs.Text.{cut, lines}
use Rattle.text_words.specs.Outcome.{steps}
use Rattle.text_words.proofs.OutcomeLemmas.{stops_same}
use Rattle.obj_reader.specs.Progress.{start, step}
use Rattle.obj_reader.proofs.CutLemmas.{lines_more, lines_stop, lines_last, cut_shorter}
use Rattle.obj_reader.proofs.reader.read_each.Goals as goal

pub loop-line-preserved : goal.loop-line-preserved
loop-line-preserved c =
    let rest = c.loop-line.rest.now in
    let line = c.in-Some.line.now in
    let more = c.in-Some.more.now in
    let told : cut 10 rest ≡ Some (line, more) = sym c.in-Some.ensures in
    record {
      same = lines_more (step c.args.scale) c.loop-line.progress c.read_physical_line.new.progress rest line more
          (steps (step c.args.scale) start (lines c.args.text.now)) told c.in-Ok.ensures.told
          c.loop-line.invariant.same;
      parts = c.in-Ok.ensures.keeps;
      number = omega (arith, c.in-Ok.ensures.number, cut_shorter rest line more told, c.loop-line.invariant.number);
    }

pub returns-in-Err-clause-told : goal.returns-in-Err-clause-told
returns-in-Err-clause-told c =
    let told : cut 10 c.loop-line.rest.now ≡ Some (c.in-Some.line.now, c.in-Some.more.now) = sym c.in-Some.ensures in
    lines_stop c.in-Err.stop (step c.args.scale) c.loop-line.progress c.loop-line.rest.now c.in-Some.line.now
    c.in-Some.more.now (steps (step c.args.scale) start (lines c.args.text.now)) told c.in-Err.ensures.told
    c.loop-line.invariant.same

pub returns-in-Ok-read_physical_line-clause-told : goal.returns-in-Ok-read_physical_line-clause-told
returns-in-Ok-read_physical_line-clause-told c =
    let told : cut 10 c.loop-line.rest.now ≡ None = sym c.in_default.ensures in
    lines_last (step c.args.scale) c.loop-line.progress c.loop-line.rest.now
    (steps (step c.args.scale) start (lines c.args.text.now)) told c.loop-line.invariant.same
    ∙ c.in-Ok-read_physical_line.ensures.told

pub returns-in-Err-read_physical_line-clause-told : goal.returns-in-Err-read_physical_line-clause-told
returns-in-Err-read_physical_line-clause-told c =
    let told : cut 10 c.loop-line.rest.now ≡ None = sym c.in_default.ensures in
    let all = steps (step c.args.scale) start (lines c.args.text.now) in
    stops_same c.in-Err-read_physical_line.stop (step c.args.scale c.loop-line.rest.now c.loop-line.progress) all
    (lines_last (step c.args.scale) c.loop-line.progress c.loop-line.rest.now all told c.loop-line.invariant.same)
    c.in-Err-read_physical_line.ensures.told
