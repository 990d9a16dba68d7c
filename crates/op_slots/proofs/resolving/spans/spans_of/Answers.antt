use Rattle.op_slots.specs.Values.{stands_for}
use Rattle.op_slots.proofs.Spanning.{hold_more, hold_all}
use Rattle.op_slots.proofs.resolving.spans.spans_of.Goals as goal

pub loop-term-preserved : goal.loop-term-preserved
loop-term-preserved c =
    hold_more c.loop-term.spans.items c.add_term.new.spans.items
    (stands_for c.args.bindings.now.bound c.args.want c.args.kind) c.args.terms.now c.loop-term.term-index
    c.term-item.result
    c.loop-term-test.true c.term-item.is c.loop-term.invariant c.in_ok-add_term.ensures

pub returns : goal.returns
returns c =
    hold_all c.loop-term.spans.items (stands_for c.args.bindings.now.bound c.args.want c.args.kind) c.args.terms.now
    c.loop-term.term-index c.loop-term-test.false c.loop-term.invariant
