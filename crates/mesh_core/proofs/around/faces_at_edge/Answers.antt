use Rattle.mesh_cycles.specs.Found.{loops_along, faces_along}
use Rattle.mesh_records.proofs.FacesWhere.{faces_live}
use Rattle.mesh_core.proofs.around.faces_at_edge.Goals as goal

pub returns-clause-ready : goal.returns-clause-ready
returns-clause-ready c = record {
  faces = c.faces_of_edge.ensures.ready;
  live = faces_live c.args.st.now (loops_along c.args.st.now c.args.e.0) (faces_along c.args.st.now c.args.e.0)
      c.faces_of_edge.ensures.all _ c.faces_of_edge.ensures.items;
}
