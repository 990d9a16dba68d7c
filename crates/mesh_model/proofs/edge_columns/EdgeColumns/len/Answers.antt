use Rattle.std.proofs.Common.{◌∙◌, sym}
use Rattle.mesh_model.proofs.Tables.{length-table_of}
use Rattle.mesh_model.proofs.FlatTables.{length-used}
use Rattle.mesh_model.proofs.edge_columns.EdgeColumns.len.Goals as goal

pub returns-clause-len : goal.returns-clause-len
returns-clause-len c = rw (← c.self.view_is) (sym (length-table_of _ _))

pub returns-clause-used : goal.returns-clause-used
returns-clause-used c = rw (← c.self.view_is) (length-used _ _ c.self.invariant.few ∙ sym (length-table_of _ _))
