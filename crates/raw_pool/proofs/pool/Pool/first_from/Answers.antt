use Rattle.std.proofs.Common.{Option, List, subst}
use Rattle.raw_pool.specs.Slots.{NoneLiveFrom, IsFirstLive}
use Rattle.raw_pool.proofs.Holding.{vacant_at, first_live}
use Rattle.raw_pool.proofs.pool.Pool.first_from.Goals as goal

pub returns-in-Some : goal.returns-in-Some
returns-in-Some g c =
    let cs = c.self.inside.chunks.items in let ws = c.self.inside.tags.words.items in
    let P = λ (xs : List (Option g.row.T.Denot)). IsFirstLive xs c.args.low c.in-Some.at in
    subst P c.self.view_is (first_live g.row.CHUNK cs ws c.self.inside.head c.self.inside.spare c.self.invariant
    c.args.low c.in-Some.at c.in-Some.ensures).1

pub returns-in-None : goal.returns-in-None
returns-in-None g c =
    let cs = c.self.inside.chunks.items in let ws = c.self.inside.tags.words.items in
    let P = λ (xs : List (Option g.row.T.Denot)). NoneLiveFrom xs c.args.low in
    subst P c.self.view_is (λ k l. vacant_at g.row.CHUNK cs ws c.self.inside.head c.self.inside.spare c.self.invariant k
    (c.in-None.ensures k l))
