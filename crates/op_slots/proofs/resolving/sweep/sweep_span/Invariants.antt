use Rattle.std.proofs.Common.{◌≡◌, ◌≤◌}
use Rattle.op_slots.specs.Spans.{found_below}
use Rattle.op_slots.proofs.resolving.sweep.sweep_span.Given as goal

-- what is found so far
abbrev pub invariant-loop-n : goal.invariant-loop-n
invariant-loop-n g l = record {
  found : l.found.items ≡ found_below (g.S.Shape.complex l.shape) l.kind l.spans l.n;
  first : l.start ≤ l.n;
}
