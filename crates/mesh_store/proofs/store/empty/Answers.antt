use Rattle.std.proofs.Common.{ℕ, List, Option, None, length, replicate, ap, ◌∙◌, subst}
use Rattle.std.proofs.lemmas.List.{length-set}
use Rattle.raw_pool.specs.declared.pool.Slot.{Slot}
use Rattle.raw_pool.specs.Slots.{NoneLiveFrom}
use Rattle.mesh_store.proofs.Clearing.{FirstLeft, fewer_left, none_vacated}
use Rattle.mesh_store.proofs.store.empty.Goals as goal

pub loop-next-smaller : goal.loop-next-smaller
loop-next-smaller g c =
    let none : Option g.row.T.Denot = None in
    fewer_left c.loop-next.pool c.take.new.self
    (ap (λ (xs : List (Option g.row.T.Denot)). length xs) c.take.ensures.loses
    ∙ length-set c.loop-next.pool c.in-Some.s.0 none) c.take.ensures.spare

-- nothing is left
pub returns : goal.returns
returns g c =
    let i = c.loop-next.invariant in
    let left : NoneLiveFrom c.loop-next.pool 0 =
    subst (λ (o : Option Slot). FirstLeft o c.loop-next.pool 0) c.in_default.is i.next in
    none_vacated c.loop-next.pool left ∙ ap (λ (n : ℕ). let none : Option g.row.T.Denot = None in replicate n none)
    i.places
