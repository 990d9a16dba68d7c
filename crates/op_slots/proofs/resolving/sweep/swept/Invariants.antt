use Rattle.std.proofs.Common.{◌≡◌, ◌≤◌, take}
use Rattle.op_slots.specs.Values.{next_of}
use Rattle.op_slots.specs.Spans.{ArePassed, found_below}
use Rattle.op_slots.proofs.resolving.sweep.swept.Given as goal

-- the spans so far are passed, and what they find is found
abbrev pub invariant-loop-k : goal.invariant-loop-k
invariant-loop-k g l = record {
  passed : ArePassed (take l.k l.spans) l.from (next_of (g.S.Shape.complex l.shape) l.kind);
  below : l.from ≤ next_of (g.S.Shape.complex l.shape) l.kind;
  found : l.found.items ≡ found_below (g.S.Shape.complex l.shape) l.kind l.spans l.from;
}
