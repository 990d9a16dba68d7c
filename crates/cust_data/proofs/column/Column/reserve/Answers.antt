use Rattle.cust_data.proofs.Widths.{cell_small}
use Rattle.cust_data.proofs.column.Column.reserve.Goals as goal

-- a cell is small
pub resize-requires-room-T-Clone : goal.resize-requires-room-T-Clone
resize-requires-room-T-Clone g c κs = cell_small g.row.N c.self.invariant.allowed
