use Rattle.mesh_cycles.specs.Found.{loops_around, faces_around}
use Rattle.mesh_records.proofs.FacesWhere.{faces_live}
use Rattle.mesh_core.proofs.around.faces_at_vert.Goals as goal

pub returns-clause-ready : goal.returns-clause-ready
returns-clause-ready c = record {
  faces = c.faces_of_vert.ensures.ready;
  live = faces_live c.args.st.now (loops_around c.args.st.now c.args.v.0) (faces_around c.args.st.now c.args.v.0)
      c.faces_of_vert.ensures.all _ c.faces_of_vert.ensures.items;
}
