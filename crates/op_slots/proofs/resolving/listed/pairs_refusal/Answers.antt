use Rattle.std.proofs.Common.{◌∙◌, ap, sym}
use Rattle.std.proofs.lemmas.Option.{slice_get_within, get_or_from_slice_get}
use Rattle.op_slots.specs.Values.{pair_refusal}
use Rattle.op_slots.proofs.Firsts.{stopped_at, passed_over}
use Rattle.op_slots.proofs.resolving.listed.pairs_refusal.Goals as goal

pub returns-in-Some : goal.returns-in-Some
returns-in-Some g c =
    let shape = g.S.Shape.complex c.args.shape.now in
    let p = c.get.result in
    stopped_at (pair_refusal shape) c.args.pairs.now c.loop-k.k p _ c.in-Some.refusal
    (slice_get_within c.args.pairs.now c.loop-k.k p c.get.ensures)
    (ap (pair_refusal shape) (get_or_from_slice_get c.args.pairs.now c.loop-k.k p p c.get.ensures)
    ∙ sym c.in-Some.ensures) c.loop-k.invariant

pub loop-k-preserved : goal.loop-k-preserved
loop-k-preserved g c =
    let shape = g.S.Shape.complex c.args.shape.now in
    let p = c.get.result in
    passed_over (pair_refusal shape) c.args.pairs.now c.loop-k.k p _
    (slice_get_within c.args.pairs.now c.loop-k.k p c.get.ensures)
    (ap (pair_refusal shape) (get_or_from_slice_get c.args.pairs.now c.loop-k.k p p c.get.ensures)
    ∙ sym c.in_default.ensures) c.loop-k.invariant
