use Rattle.std.proofs.Common.{◌≡◌, ◌<◌, None, length, subst, sym}
use Rattle.mesh_store.specs.Slots.{at}
use Rattle.mesh_store.specs.Naming.{NamedCells}
use Rattle.mesh_store.proofs.Directory.{added}
use Rattle.mesh_store.proofs.named_pool.NamedPool.add_with.Goals as goal

-- the number of the cell that was made leads to it
pub invariant_of-self : goal.invariant_of-self
invariant_of-self g c =
    let number = g.T.Numbered.number in
    let names = c.self.inside.names.items in
    let x = c.put_with-slot.ensures.gains in
    let N = λ (p : NamedCells g.row.T.Denot). at p.names c.args.number ≡ None in
    let R = λ (p : NamedCells g.row.T.Denot). c.args.number < length p.names in
    let unnamed : at names c.args.number ≡ None = subst N (sym c.self.view_is) c.requires.unnamed in
    let reach : c.args.number < length names = subst R (sym c.self.view_is) c.requires.reach in
    rw x.2
    (added number c.self.inside.pool names c.self.inside.marks.words.items c.set.new.self.words.items c.self.invariant
    c.set.ensures.len
    c.put_with-slot.result x.0 c.args.number (c.requires.numbered c.put_with-slot.result x.0 x.1)
    c.put_with-slot.ensures.vacant.1 c.put_with-slot.ensures.vacant.0 unnamed reach c.set.ensures.tags)
