use Rattle.std.proofs.Common.{sym}
use Rattle.mesh_model.proofs.Tables.{length-table_of}
use Rattle.mesh_model.proofs.face_columns.FaceColumns.len.Goals as goal

pub returns : goal.returns
returns c = rw (← c.self.view_is) (sym (length-table_of _ _))
