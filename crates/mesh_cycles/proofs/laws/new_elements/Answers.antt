use Rattle.mesh_cycles.proofs.Elements.{vert_added, edge_added, loop_added, face_added}
use Rattle.mesh_cycles.proofs.Cleared.{cleared_cycles}
use Rattle.mesh_cycles.proofs.laws.new_elements.Goals as goal

pub returns : goal.returns
returns c = record {
  verts = λ old new s name point names h vacant adds. vert_added old new s h name point names vacant adds;
  edges = λ old new s name ends names h vacant differ adds. edge_added old new s h name ends names vacant differ adds;
  loops = λ old new s vert edge face h vacant adds. loop_added old new s h vert edge face vacant adds;
  faces = λ old new s name names h vacant adds. face_added old new s h name names vacant adds;
  none = cleared_cycles;
}
