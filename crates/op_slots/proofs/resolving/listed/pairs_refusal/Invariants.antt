use Rattle.std.proofs.Common.{◌≡◌, drop, map}
use Rattle.mesh_model.specs.Refusals.{first_of}
use Rattle.op_slots.specs.Values.{pair_refusal}
use Rattle.op_slots.proofs.resolving.listed.pairs_refusal.Given as goal

-- the pairs that are left have the first refusal
abbrev pub invariant-loop-k : goal.invariant-loop-k
invariant-loop-k g l =
    let refusal = pair_refusal (g.S.Shape.complex l.shape) in
    first_of (map refusal (drop l.k l.pairs)) ≡ first_of (map refusal l.pairs)
