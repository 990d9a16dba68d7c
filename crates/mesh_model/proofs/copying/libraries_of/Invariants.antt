use Rattle.std.proofs.Common.{◌≡◌, ◌≤◌, length, take}
use Rattle.mesh_model.proofs.copying.libraries_of.Given as goal

abbrev pub invariant-loop-k : goal.invariant-loop-k
invariant-loop-k g l = record {
  names : l.names ≡ take l.k (g.S.Shape.complex l.shape).libraries;
  within : l.k ≤ length (g.S.Shape.complex l.shape).libraries;
}
