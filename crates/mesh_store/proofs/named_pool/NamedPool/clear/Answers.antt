use Rattle.std.proofs.Common.{ℕ, Option, None, length, replicate, ap, ◌∙◌, subst}
use Rattle.std.proofs.lemmas.List.{length-set}
use Rattle.raw_pool.specs.declared.pool.Slot.{Slot}
use Rattle.raw_pool.specs.Slots.{NoneLiveFrom}
use Rattle.mesh_store.specs.Naming.{NamedCells}
use Rattle.mesh_store.proofs.Clearing.{FirstLeft, fewer_left, none_vacated, none_named}
use Rattle.mesh_store.proofs.named_pool.NamedPool.clear.Goals as goal

pub loop-next-smaller : goal.loop-next-smaller
loop-next-smaller g c =
    let none : Option g.row.T.Denot = None in
    fewer_left c.loop-next.self.cells c.remove.new.self.cells
    (ap (λ (p : NamedCells g.row.T.Denot). length p.cells) c.remove.ensures.removes
    ∙ length-set c.loop-next.self.cells c.in-Some.s.0 none) c.remove.ensures.spare

-- nothing is left, and so no name leads anywhere
pub returns : goal.returns
returns g c =
    let i = c.loop-next.invariant in
    let left : NoneLiveFrom c.loop-next.self.cells 0 =
    subst (λ (o : Option Slot). FirstLeft o c.loop-next.self.cells 0) c.in_default.is i.next in
    let cells = none_vacated c.loop-next.self.cells left
    ∙ ap (λ (n : ℕ). let none : Option g.row.T.Denot = None in replicate n none) i.cells in
    let names = none_vacated c.loop-next.self.names (none_named g.T.Numbered.number c.loop-next.self.cells
    c.loop-next.self.names i.named left)
    ∙ ap (λ (n : ℕ). let none : Option Slot = None in replicate n none) i.names in
    λ k. record { cells = cells k; names = names k }
