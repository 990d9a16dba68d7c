use Rattle.mesh_cycles.proofs.Around.{along_once, along_live}
use Rattle.mesh_cycles.proofs.along_edge.loops_of_edge.Goals as goal

pub returns-clause-once : goal.returns-clause-once
returns-clause-once c = along_once c.args.st.now c.requires.cycles c.args.e.0

pub returns-clause-live : goal.returns-clause-live
returns-clause-live c = along_live c.args.st.now c.requires.cycles c.args.e.0
