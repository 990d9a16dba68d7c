use Rattle.mesh_cycles.proofs.Joining.{found_flipped}
use Rattle.mesh_cycles.proofs.find.edge_between.Goals as goal

pub returns-else-has_fewer : goal.returns-else-has_fewer
returns-else-has_fewer c = found_flipped c.args.st.now c.args.a.0 c.args.b.0 c.find_edge-else-has_fewer.result
    c.find_edge-else-has_fewer.ensures
