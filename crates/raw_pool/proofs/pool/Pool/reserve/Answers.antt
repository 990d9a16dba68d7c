use Rattle.std.proofs.Common.{◌≡◌, ◌+◌, sym, ap, ◌∙◌, arith}
use Rattle.raw_pool.specs.Slots.{spare_count}
use Rattle.raw_pool.proofs.Growing.{grown_on, spare_push}
use Rattle.raw_pool.proofs.pool.Pool.reserve.Goals as goal

pub loop-self-smaller : goal.loop-self-smaller
loop-self-smaller g c =
    let v : spare_count c.loop-self.self ≡ c.self.inside.spare =
    ap spare_count (sym c.self.view_is) ∙ c.self.invariant.free.all in
    let w : spare_count c.grow.new.self ≡ spare_count c.loop-self.self + g.row.CHUNK =
    ap spare_count c.in_ok-grow.ensures.ok ∙ spare_push c.loop-self.self g.row.CHUNK in
    let p = c.self.invariant.positive in let t = c.loop-self-test.true in
    omega arith

pub loop-self-preserved : goal.loop-self-preserved
loop-self-preserved g c =
    let v : spare_count c.loop-self.self ≡ c.self.inside.spare =
    ap spare_count (sym c.self.view_is) ∙ c.self.invariant.free.all in
    grown_on g.row.CHUNK c.args.self.now c.loop-self.self c.grow.new.self c.args.n c.loop-self.invariant
    (let t = c.loop-self-test.true in omega arith) c.in_ok-grow.ensures.ok
