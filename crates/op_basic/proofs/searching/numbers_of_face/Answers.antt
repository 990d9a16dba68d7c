use Rattle.std.proofs.Common.{map, ap, ◌∙◌}
use Rattle.mesh_model.specs.Complex.{corners_of}
use Rattle.mesh_model.specs.Table.{at}
use Rattle.mesh_model.specs.declared.names.VertName.{VertName}
use Rattle.mesh_model.specs.declared.names.EdgeName.{EdgeName}
use Rattle.mesh_core.specs.Seen.{now}
use Rattle.op_basic.proofs.Searched.{corner_numbers}
use Rattle.op_basic.proofs.searching.numbers_of_face.Goals as goal

pub returns : goal.returns
returns c = c.in_ok-numbers.ensures
    ∙ ap (map (λ (k : VertName × EdgeName). k.0.0)) (c.deref.ensures.value ∙ c.in_ok-corners.ensures)
    ∙ corner_numbers (corners_of (at (now c.args.mesh.now).faces c.args.f.0))
