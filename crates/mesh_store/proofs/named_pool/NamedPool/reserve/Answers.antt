use Rattle.std.proofs.Common.{◌<◌, ◌≤◌, ◌+◌, ◌*◌, ◌^◌, length, subst, sym, refl, arith}
use Rattle.mesh_store.specs.Naming.{NamedCells}
use Rattle.mesh_store.proofs.Growth.{names_hold, widens_none, widened_fits}
use Rattle.mesh_store.proofs.named_pool.NamedPool.reserve.Goals as goal

-- the pool has grown, or not, and no name and no bit has come
pub invariant_of-self : goal.invariant_of-self
invariant_of-self g c =
    let P = λ (p : NamedCells g.row.T.Denot). length p.cells + c.args.n + 1024 < 2 ^ 32 in
    let marks = c.self.inside.marks.words.items in
    names_hold g.T.Numbered.number c.self.inside.pool c.reserve.new.self c.self.inside.names.items
    c.self.inside.names.items marks marks c.args.n 1024 c.args.reach
    c.self.invariant c.reserve.ensures.grows (λ h. (c.reserve.ensures.enough h).1)
    (subst P (sym c.self.view_is) c.requires.room)
    (widens_none c.self.inside.names.items c.args.reach) c.ranges.reach.fits (λ k. refl) c.self.invariant.room

-- some room for bits has come
pub invariant_of-self-in_err-cover : goal.invariant_of-self-in_err-cover
invariant_of-self-in_err-cover g c =
    let P = λ (p : NamedCells g.row.T.Denot). length p.cells + c.args.n + 1024 < 2 ^ 32 in
    let marks = c.self.inside.marks.words.items in
    let more = c.cover.new.self.words.items in
    let fits : length c.self.inside.names.items ≤ length more * 64 =
    (let r = c.self.invariant.room in let l = c.cover.ensures.grows in omega arith) in
    names_hold g.T.Numbered.number c.self.inside.pool c.reserve.new.self c.self.inside.names.items
    c.self.inside.names.items marks more c.args.n 1024 c.args.reach
    c.self.invariant c.reserve.ensures.grows (λ h. (c.reserve.ensures.enough h).1)
    (subst P (sym c.self.view_is) c.requires.room)
    (widens_none c.self.inside.names.items c.args.reach) c.ranges.reach.fits c.cover.ensures.same fits

-- names have come
pub invariant_of-self-2 : goal.invariant_of-self-2
invariant_of-self-2 g c =
    let P = λ (p : NamedCells g.row.T.Denot). length p.cells + c.args.n + 1024 < 2 ^ 32 in
    let marks = c.self.inside.marks.words.items in
    let more = c.cover.new.self.words.items in
    let fits = widened_fits c.self.inside.names.items c.widen.new.names.items c.args.reach (length marks) (length more)
    c.widen.ensures.widens c.self.invariant.room c.cover.ensures.grows c.in_ok-cover.ensures.ok in
    names_hold g.T.Numbered.number c.self.inside.pool c.reserve.new.self c.self.inside.names.items
    c.widen.new.names.items marks more c.args.n 1024 c.args.reach
    c.self.invariant c.reserve.ensures.grows (λ h. (c.reserve.ensures.enough h).1)
    (subst P (sym c.self.view_is) c.requires.room)
    c.widen.ensures.widens c.ranges.reach.fits c.cover.ensures.same fits
