use Rattle.std.proofs.Common.{◌≡◌, ◌≤◌, length, take}
use Rattle.mesh_model.specs.NameSet.{is_in}
use Rattle.mesh_model.specs.Elements.{is_among}
use Rattle.mesh_model.specs.declared.names.VertName.{VertName}
use Rattle.mesh_model.proofs.copying.set_of.Given as goal

abbrev pub invariant-loop-v : goal.invariant-loop-v
invariant-loop-v l = record {
  members : (v : VertName) → is_in l.set v.0 ≡ is_among (take l.v-index l.verts) v;
  wide : l.count ≤ length l.set;
}
