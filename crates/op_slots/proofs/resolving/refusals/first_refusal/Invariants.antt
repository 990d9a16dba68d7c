use Rattle.std.proofs.Common.{◌≡◌, drop, map}
use Rattle.mesh_model.specs.Refusals.{first_of}
use Rattle.op_slots.specs.Values.{term_refusal}
use Rattle.op_slots.proofs.resolving.refusals.first_refusal.Given as goal

-- the terms that are left have the first refusal
abbrev pub invariant-loop-term : goal.invariant-loop-term
invariant-loop-term g l =
    let refusal = term_refusal (g.S.Shape.complex l.shape) l.bindings.bound l.want in
    first_of (map refusal (drop l.term-index l.terms)) ≡ first_of (map refusal l.terms)
