use Rattle.op_slots.specs.Values.{numbers_of}
use Rattle.op_slots.proofs.Spanning.{add_more}
use Rattle.op_slots.proofs.resolving.spans.add_slot.Goals as goal

pub loop-k-preserved : goal.loop-k-preserved
loop-k-preserved c =
    add_more c.args.spans.now.items c.loop-k.spans.items c.add_span.new.spans.items
    (numbers_of c.args.slots.now c.args.kind) c.loop-k.k c.number_at-number.result
    c.number_at-number.ensures c.loop-k.invariant c.in_ok-add_span.ensures
