use Rattle.std.proofs.Common.{◌≡◌, ◌<◌, None, length, subst, sym}
use Rattle.mesh_store.specs.Slots.{at}
use Rattle.mesh_store.specs.Naming.{NamedCells}
use Rattle.mesh_store.proofs.Directory.{added}
use Rattle.mesh_store.proofs.named_pool.NamedPool.add.Goals as goal

-- the new cell's number leads to it
pub invariant_of-self : goal.invariant_of-self
invariant_of-self g c =
    let number = g.T.Numbered.number in
    let names = c.self.inside.names.items in
    let n = c.number-number.result in
    let is : number c.args.cell ≡ n = sym c.number-number.ensures in
    let N = λ (p : NamedCells g.row.T.Denot). at p.names (number c.args.cell) ≡ None in
    let R = λ (p : NamedCells g.row.T.Denot). number c.args.cell < length p.names in
    let unnamed : at names (number c.args.cell) ≡ None = subst N (sym c.self.view_is) c.requires.unnamed in
    let reach : number c.args.cell < length names = subst R (sym c.self.view_is) c.requires.reach in
    rw c.put-slot.ensures.gains
    (added number c.self.inside.pool names c.self.inside.marks.words.items c.set.new.self.words.items c.self.invariant
    c.set.ensures.len
    c.put-slot.result c.args.cell n is c.put-slot.ensures.vacant.1 c.put-slot.ensures.vacant.0 (rw (← is) unnamed)
    (rw (← is) reach) c.set.ensures.tags)
