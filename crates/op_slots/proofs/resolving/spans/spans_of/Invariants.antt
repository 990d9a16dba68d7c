use Rattle.std.proofs.Common.{take}
use Rattle.std.specs.List.{list_any}
use Rattle.op_slots.specs.Values.{stands_for}
use Rattle.op_slots.specs.Spans.{Hold}
use Rattle.op_slots.proofs.resolving.spans.spans_of.Given as goal

-- the spans hold what the terms so far stand for
abbrev pub invariant-loop-term : goal.invariant-loop-term
invariant-loop-term l = Hold l.spans.items (λ n.
    list_any (stands_for l.bindings.bound l.want l.kind n) (take l.term-index l.terms))
