use Rattle.std.proofs.Common.{◌<◌, ℕ, List, arith, sym, subst}
use Rattle.std.specs.List.{All}
use Rattle.obj_reader.proofs.marks.Marks.are_distinct.Goals as goal

pub mark_all-requires-clause-fresh : goal.mark_all-requires-clause-fresh
mark_all-requires-clause-fresh c =
    let mark : ℕ = c.next_mark-mark.result in
    let P = λ (xs : List ℕ). All (λ k. k < mark) xs in
    subst P (sym c.deref_mut.ensures.value) (c.grow.ensures.below mark c.next_mark-mark.ensures.some
    c.next_mark-mark.ensures.fresh)

-- where memory ran out
pub invariant_of-self : goal.invariant_of-self
invariant_of-self c = λ k d less.
    omega (
      arith,
      c.grow.ensures.below c.next_mark-mark.result c.next_mark-mark.ensures.some
          c.next_mark-mark.ensures.fresh k d less,
    )
