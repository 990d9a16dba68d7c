use Rattle.std.proofs.Common.{◌≡◌, [], take}
use Rattle.mesh_model.specs.Complex.{layers_of}
use Rattle.mesh_model.proofs.copying.layers_of.Given as goal

abbrev pub invariant-loop-k : goal.invariant-loop-k
invariant-loop-k g l = l.set ≡ record {
  layers = take l.k (layers_of (g.S.Shape.complex l.shape).layers l.kind);
  rows =
      [];
}
