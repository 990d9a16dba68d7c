use Rattle.std.proofs.Common.{length, arith}
use Rattle.mesh_trail.specs.Kept.{AreWithin}
use Rattle.mesh_trail.proofs.Wide.{rows_wide}
use Rattle.mesh_trail.proofs.table.Table.rows_fit.Goals as goal

pub returns : goal.returns
returns g c =
    let t = c.self.inside in
    let within : AreWithin t.width (length t.values.items) t.map.names =
    λ q k at_q. (let le = c.self.invariant.within q k at_q in omega arith) in
    rw (← c.self.view_is) (rows_wide {B = g.row.B.Denot} t.width t.values.items t.map.names within)
