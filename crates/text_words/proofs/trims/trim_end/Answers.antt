use Rattle.std.proofs.Common.{◌≡◌, ◌≤◌, ◌-◌, ◌∙◌, take, ap, sym, arith}
use Rattle.text_words.specs.Trims.{is_of, trimmed}
use Rattle.text_words.proofs.TrimLemmas.{trim_more, trim_stay}
use Rattle.text_words.proofs.trims.trim_end.Goals as goal
use Rattle.text_words.proofs.trims.trim_end.Goals.{then-loop-n-test+else-has, else-loop-n-test}

pub loop-n-preserved : goal.loop-n-preserved
loop-n-preserved c = record {
  within = omega (arith, c.loop-n.invariant.within);
  same = sym (trim_more (is_of c.args.class) c.args.text.now c.loop-n.n c.loop-n-test.true c.loop-n.invariant.within
      (sym c.has.ensures ∙ c.if-has.true)) ∙ c.loop-n.invariant.same;
}

pub returns : goal.returns
returns c = elim c.loop-n-test.branch [
  | then-loop-n-test+else-has w ↦ sym (trim_stay (is_of c.args.class) c.args.text.now c.loop-n.n w.loop-n-test.true
      c.loop-n.invariant.within (sym w.has.ensures ∙ w.if-has.false)) ∙ c.loop-n.invariant.same
  | else-loop-n-test w ↦
      let none : c.loop-n.n ≡ 0 = omega (arith, w.loop-n-test.false) in
      ap (λ m. take m c.args.text.now) none ∙ ap (λ m. trimmed (is_of c.args.class) (take m c.args.text.now)) (sym none)
      ∙ c.loop-n.invariant.same
]
