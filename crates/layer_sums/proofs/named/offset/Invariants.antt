use Rattle.std.proofs.Common.{◌≡◌, take}
use Rattle.cust_data.specs.Layers.{total}
use Rattle.mesh_model.specs.Complex.{layers_of}
use Rattle.layer_sums.proofs.named.offset.Given as goal

-- the widths of the layers so far
abbrev pub invariant-loop-j : goal.invariant-loop-j
invariant-loop-j g l = l.start ≡ total (take l.j (layers_of (g.S.Shape.complex l.shape).layers l.kind))
