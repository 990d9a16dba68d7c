use Rattle.std.proofs.Common.{◌≡◌, take}
use Rattle.mesh_model.specs.Complex.{layers_of}
use Rattle.mesh_model.specs.Declaring.{with_layers_of}
use Rattle.mesh_records.specs.Loading.{only_layers}
use Rattle.mesh_core.specs.Seen.{now}
use Rattle.mesh_core.proofs.mesh.Mesh.load_layers.Given as goal

abbrev pub invariant-loop-k : goal.invariant-loop-k
invariant-loop-k l = now l.self
    ≡ only_layers (with_layers_of (now l.fn.self).layers l.kind (take l.k (layers_of l.draft.layers l.kind)))
