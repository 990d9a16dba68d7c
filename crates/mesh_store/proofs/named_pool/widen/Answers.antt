use Rattle.std.proofs.Common.{◌<◌, length, arith}
use Rattle.mesh_store.proofs.Growth.{widens_more}
use Rattle.mesh_store.proofs.named_pool.widen.Goals as goal

-- one name more, below the reach
pub loop-names-preserved : goal.loop-names-preserved
loop-names-preserved c =
    let low : length c.loop-names.names.items < c.args.reach =
    omega (arith, c.loop-names-test.true, c.len.ensures, c.loop-names.names.ok.0) in
    rw c.in_ok-push.ensures.items (widens_more c.loop-names.invariant low)
