use Rattle.std.proofs.Common.{◌≡◌, ◌≤◌, ◌<◌, ◌-◌, ◌∙◌, drop, length, ap, sym, arith}
use Rattle.std.proofs.lemmas.List.{drop_all}
use Rattle.text_words.specs.Trims.{is_of, skipped}
use Rattle.text_words.proofs.TrimLemmas.{skip_more, skip_stay, rest_all}
use Rattle.text_words.proofs.trims.trim_start.Goals as goal
use Rattle.text_words.proofs.trims.trim_start.Goals.{then-loop-k-test+else-has, else-loop-k-test}

pub loop-k-preserved : goal.loop-k-preserved
loop-k-preserved c = record {
  within = omega (arith, c.loop-k-test.true);
  same = sym (skip_more (is_of c.args.class) c.args.text.now c.loop-k.k c.loop-k-test.true
      (sym c.has.ensures ∙ c.if-has.true)) ∙ c.loop-k.invariant.same;
}

pub returns : goal.returns
returns c = rest_all c.loop-k.k c.args.text.now ∙ (elim c.loop-k-test.branch [
  | then-loop-k-test+else-has w ↦ sym (skip_stay (is_of c.args.class) c.args.text.now c.loop-k.k w.loop-k-test.true
      (sym w.has.ensures ∙ w.if-has.false)) ∙ c.loop-k.invariant.same
  | else-loop-k-test w ↦ drop_all c.loop-k.k c.args.text.now w.loop-k-test.false
      ∙ ap (skipped (is_of c.args.class)) (sym (drop_all c.loop-k.k c.args.text.now w.loop-k-test.false))
      ∙ c.loop-k.invariant.same
])
