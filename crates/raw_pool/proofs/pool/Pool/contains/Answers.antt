use Rattle.std.proofs.Common.{◌≡◌, length, List, Option, sym, ap, subst, arith}
use Rattle.raw_pool.specs.Slots.{IsLive}
use Rattle.raw_pool.specs.Inside.{all_places, slots_of}
use Rattle.raw_pool.proofs.Vacancy.{length-values}
use Rattle.raw_pool.proofs.Holding.{tag_says, live_tag}
use Rattle.raw_pool.proofs.pool.Pool.contains.Goals as goal

pub has-requires : goal.has-requires
has-requires g c =
    let l = c.if-at-capacity.true in let e = c.capacity.ensures in let r = c.self.invariant.room in
    let v = length-values (all_places c.self.inside.chunks.items) in let w : length
    (slots_of c.self.inside.chunks.items) ≡ length c.args.self.now = ap length c.self.view_is in
    omega arith

pub returns-then-at-capacity : goal.returns-then-at-capacity
returns-then-at-capacity g c =
    let s = c.args.s.0 in
    let l = c.if-at-capacity.true in let e = c.capacity.ensures in
    let v = length-values (all_places c.self.inside.chunks.items) in let w : length
    (slots_of c.self.inside.chunks.items) ≡ length c.args.self.now = ap length c.self.view_is in
    let P = λ (xs : List (Option g.row.T.Denot)). IsLive xs s in (
      λ t. subst P c.self.view_is (tag_says g.row.CHUNK c.self.inside.chunks.items c.self.inside.tags.words.items
          c.self.inside.head c.self.inside.spare c.self.invariant s (omega arith) (c.has.ensures.0 t)),
      λ h. c.has.ensures.1 (live_tag g.row.CHUNK c.self.inside.chunks.items c.self.inside.tags.words.items
          c.self.inside.head c.self.inside.spare c.self.invariant s (subst P (sym c.self.view_is) h)),
    )
