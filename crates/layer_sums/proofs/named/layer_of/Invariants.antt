use Rattle.std.proofs.Common.{◌≡◌, ℕ, ◌<◌, false, get_or}
use Rattle.cust_data.specs.Layers.{Layer, same_name}
use Rattle.mesh_model.specs.Complex.{layers_of}
use Rattle.layer_sums.proofs.named.layer_of.Given as goal

-- no layer so far has the name
abbrev pub invariant-loop-k : goal.invariant-loop-k
invariant-loop-k g l = (j : ℕ) (d : Layer) → j < l.k
    → same_name (get_or (layers_of (g.S.Shape.complex l.shape).layers l.kind) j d).name l.name ≡ false
