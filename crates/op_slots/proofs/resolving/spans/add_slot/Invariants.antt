use Rattle.std.proofs.Common.{take, eqb}
use Rattle.std.specs.List.{list_any}
use Rattle.op_slots.specs.Values.{numbers_of}
use Rattle.op_slots.specs.Spans.{Adds}
use Rattle.op_slots.proofs.resolving.spans.add_slot.Given as goal

-- the numbers so far are added
abbrev pub invariant-loop-k : goal.invariant-loop-k
invariant-loop-k l = Adds l.initial.spans.items l.spans.items
    (λ n. list_any (λ m. eqb m n) (take l.k (numbers_of l.slots l.kind)))
