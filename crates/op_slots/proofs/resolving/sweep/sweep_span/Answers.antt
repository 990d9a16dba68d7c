use Rattle.std.proofs.Common.{◌∙◌, arith}
use Rattle.op_slots.specs.declared.resolving.spans.Span.{Span}
use Rattle.op_slots.proofs.Sweeps.{gap, looked_at, passed_more}
use Rattle.op_slots.proofs.resolving.sweep.sweep_span.Goals as goal

-- what stands in for a span past the last
abbrev no_span : Span
no_span = record { first = 0; last = 0 }

pub returns-then-end-start : goal.returns-then-end-start
returns-then-end-start g c = record {
  passed = passed_more c.args.spans.now c.args.k c.args.from c.max.result _ no_span c.requires.passed c.requires.within
      (omega arith) (λ n above below. omega arith);
  below = omega arith;
  found =
      c.requires.found
      ∙ gap (g.S.Shape.complex c.args.shape.now) c.args.kind c.args.spans.now c.args.k c.args.from c.max.result no_span
      c.requires.sorted c.requires.passed c.requires.within (omega arith) (omega arith)
      (λ more. omega arith);
}

pub loop-n-init : goal.loop-n-init
loop-n-init g c = record {
  found =
      c.requires.found
      ∙ gap (g.S.Shape.complex c.args.shape.now) c.args.kind c.args.spans.now c.args.k c.args.from c.max-start.result
      no_span c.requires.sorted c.requires.passed c.requires.within (omega arith) (omega arith)
      (λ more. omega arith);
  first = omega arith;
}

pub loop-n-preserved : goal.loop-n-preserved
loop-n-preserved g c = record {
  found =
      looked_at (g.S.Shape.complex c.args.shape.now) c.args.kind c.args.spans.now c.args.k c.loop-n.n no_span
      c.loop-n.found.items _ c.requires.within (omega arith) (omega arith) c.loop-n.invariant.found
      c.in_ok-add_live.ensures;
  first = omega arith;
}
