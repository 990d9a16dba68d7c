use Rattle.std.proofs.Common.{◌≡◌, None, take, drop}
use Rattle.mesh_model.specs.Declaring.{first_declaration_fault, with_all_declared}
use Rattle.mesh_core.specs.Seen.{now}
use Rattle.mesh_core.proofs.mesh.Mesh.declare.Given as goal

abbrev pub invariant-loop-layer : goal.invariant-loop-layer
invariant-loop-layer l = record {
  made : now l.self ≡ with_all_declared (now l.fn.self) (take l.layer-index l.layers);
  free : first_declaration_fault (now l.self).layers (drop l.layer-index l.layers) ≡ None;
}
