use Rattle.mesh_records.proofs.Order.{all_live}
use Rattle.mesh_core.proofs.rising.verts_by_name.Goals as goal

pub returns-clause-ready : goal.returns-clause-ready
returns-clause-ready c = all_live c.verts_rising.ensures.named _ c.verts_rising.ensures.items
