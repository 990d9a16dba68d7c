use Rattle.std.proofs.Common.{◌<◌, length, arith, sym}
use Rattle.mesh_store.proofs.Directory.{number_below, removed}
use Rattle.mesh_store.proofs.named_pool.NamedPool.remove.Goals as goal

-- the directory has the number of every live cell
pub index_mut-requires : goal.index_mut-requires
index_mut-requires g c =
    let low : g.T.Numbered.number c.take-cell.result < length c.self.inside.names.items =
    number_below g.T.Numbered.number c.self.inside.pool c.self.inside.names.items c.self.invariant.named c.args.s.0
    c.take-cell.result c.take-cell.ensures.value in
    omega (arith, low, c.number-number.ensures, c.self.inside.names.ok.0)

-- and so have the bits
pub clear-requires : goal.clear-requires
clear-requires g c =
    let low : g.T.Numbered.number c.take-cell.result < length c.self.inside.names.items =
    number_below g.T.Numbered.number c.self.inside.pool c.self.inside.names.items c.self.invariant.named c.args.s.0
    c.take-cell.result c.take-cell.ensures.value in
    omega (arith, low, c.number-number.ensures, c.self.invariant.room)

-- its number leads nowhere, and every other one to its cell
pub invariant_of-self : goal.invariant_of-self
invariant_of-self g c =
    rw c.take-cell.ensures.loses
    (removed g.T.Numbered.number c.self.inside.pool c.self.inside.names.items c.self.inside.marks.words.items
    c.clear.new.self.words.items c.self.invariant c.clear.ensures.len
    c.args.s.0 c.take-cell.result c.number-number.result (sym c.number-number.ensures) c.take-cell.ensures.value
    c.clear.ensures.tags)
