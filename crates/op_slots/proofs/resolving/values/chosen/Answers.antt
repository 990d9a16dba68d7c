use Rattle.std.proofs.Common.{◌∙◌, ap, arith, rules}
use Rattle.std.proofs.lemmas.List.Sorted.{IsNonDecreasingBy-from_sort_by_key}
use Rattle.op_slots.specs.Values.{next_of}
use Rattle.op_slots.specs.Spans.{found_below}
use Rattle.op_slots.specs.declared.resolving.spans.Span.{Span}
use Rattle.op_slots.proofs.Choosing.{found_is_chosen}
use Rattle.op_slots.proofs.resolving.values.chosen.Goals as goal

pub swept-requires-clause-sorted : goal.swept-requires-clause-sorted
swept-requires-clause-sorted g c =
    rw c.deref.ensures.value (IsNonDecreasingBy-from_sort_by_key (λ (s : Span). s.first) _
    c.in_ok-sort_by_key.ensures.sorted (λ a r q k. search rules))

pub returns : goal.returns
returns g c =
    let shape = g.S.Shape.complex c.args.shape.now in
    c.in_ok-found.ensures ∙ ap (λ spans. found_below shape c.args.kind spans (next_of shape c.args.kind))
    c.deref.ensures.value
    ∙ found_is_chosen shape c.args.kind c.args.bindings.now.bound c.args.want c.args.terms.now _ _ c.in_ok-spans.ensures
    c.in_ok-sort_by_key.ensures.permutation (omega arith)
