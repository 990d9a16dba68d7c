use Rattle.std.proofs.Common.{◌≡◌, take}
use Rattle.cust_data.specs.Layers.{total}
use Rattle.mesh_model.specs.Complex.{layers_of}
use Rattle.mesh_core.specs.Seen.{now}
use Rattle.op_values.proofs.setting.offset.Given as goal

abbrev pub invariant-loop-j : goal.invariant-loop-j
invariant-loop-j l = l.from ≡ total (take l.j (layers_of (now l.mesh).layers l.kind))
