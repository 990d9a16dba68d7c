use Rattle.std.proofs.Common.{◌≡◌, ℕ, ◌<◌, false, get_or}
use Rattle.cust_data.specs.Layers.{Layer, same_name}
use Rattle.mesh_model.specs.Complex.{layers_of}
use Rattle.mesh_core.specs.Seen.{now}
use Rattle.op_values.proofs.setting.layer_of.Given as goal

abbrev pub invariant-loop-k : goal.invariant-loop-k
invariant-loop-k l = (j : ℕ) (d : Layer) → j < l.k
    → same_name (get_or (layers_of (now l.mesh).layers l.kind) j d).name l.name ≡ false
