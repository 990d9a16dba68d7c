use Rattle.mesh_cycles.proofs.Around.{edges_once, edge_live}
use Rattle.mesh_cycles.proofs.around_vert.edges_of_vert.Goals as goal

pub returns-clause-once : goal.returns-clause-once
returns-clause-once c = edges_once c.args.st.now c.requires.cycles c.args.v.0

pub returns-clause-live : goal.returns-clause-live
returns-clause-live c = edge_live c.args.st.now c.requires.cycles c.args.v.0
