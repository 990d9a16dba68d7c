use Rattle.std.proofs.Common.{◌≡◌, ◌≤◌, take}
use Rattle.mesh_model.specs.Table.{live}
use Rattle.obj_writer.specs.Ranks.{AreIndicesTo}
use Rattle.obj_writer.proofs.ranks.indices_of.Given as goal

abbrev pub invariant-loop-n : goal.invariant-loop-n
invariant-loop-n g l = record {
  table : AreIndicesTo (g.S.Shape.complex l.shape) l.n l.indices.items;
  count : l.before ≡ live (take l.n (g.S.Shape.complex l.shape).verts);
  few : l.before ≤ l.n;
}
