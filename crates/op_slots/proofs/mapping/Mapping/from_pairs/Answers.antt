use Rattle.std.proofs.Common.{sym, ◌∙◌}
use Rattle.op_slots.proofs.Pairing.{taken_more, taken_twice, taken_all}
use Rattle.op_slots.proofs.mapping.Mapping.from_pairs.Goals as goal

pub loop-pair-preserved : goal.loop-pair-preserved
loop-pair-preserved c =
    taken_more c.args.pairs.now c.loop-pair.pair-index _ c.loop-pair.targets.entries _ c.in_ok-before.before
    c.loop-pair-test.true c.loop-pair.invariant c.in_ok-before.ensures.old
    (sym c.is_some.ensures ∙ c.if-is_some.false)
    c.in_ok-before.ensures.entries

pub returns-then-is_some : goal.returns-then-is_some
returns-then-is_some c =
    taken_twice c.args.pairs.now c.loop-pair.pair-index _ c.loop-pair.targets.entries c.in_ok-before.before
    c.loop-pair-test.true c.loop-pair.invariant c.in_ok-before.ensures.old
    (sym c.is_some.ensures ∙ c.if-is_some.true)

pub returns : goal.returns
returns c = taken_all c.args.pairs.now c.loop-pair.pair-index c.loop-pair.targets.entries c.loop-pair-test.false
    c.loop-pair.invariant
