use Rattle.std.proofs.Common.{not, ◌||◌, ◌∙◌}
use Rattle.std.specs.List.{list_all}
use Rattle.mesh_model.specs.Complex.{material_layer, smooth_layer}
use Rattle.mesh_model.specs.Values.{same_layer}
use Rattle.mesh_model.specs.Valid.{is_material, is_smooth}
use Rattle.mesh_model.specs.declared.names.Kind.TheVariants.{Faces}
use Rattle.mesh_core.specs.Seen.{now}
use Rattle.op_values.specs.Putting.{layer_at}
use Rattle.op_values.proofs.Settings.{and_then, and_else, all_of_both}
use Rattle.op_values.proofs.setting.are_allowed_at_faces.Goals as goal

pub returns-then-can_be_materials : goal.returns-then-can_be_materials
returns-then-can_be_materials c =
    let whole = now c.args.mesh.now in
    let l = layer_at whole Faces c.args.k in
    let a = not (same_layer material_layer l) in
    let b = not (same_layer smooth_layer l) in
    and_then c.can_be_materials.result (a || list_all (is_material whole) c.args.values.now) c.can_be_smooth.result
    (b || list_all is_smooth c.args.values.now) c.can_be_materials.ensures c.if-can_be_materials.true
    c.can_be_smooth.ensures
    ∙ all_of_both a b (is_material whole) is_smooth c.args.values.now

pub returns-else-can_be_materials : goal.returns-else-can_be_materials
returns-else-can_be_materials c =
    let whole = now c.args.mesh.now in
    let l = layer_at whole Faces c.args.k in
    let a = not (same_layer material_layer l) in
    let b = not (same_layer smooth_layer l) in
    and_else c.can_be_materials.result (a || list_all (is_material whole) c.args.values.now)
    (b || list_all is_smooth c.args.values.now) c.can_be_materials.ensures c.if-can_be_materials.false
    ∙ all_of_both a b (is_material whole) is_smooth c.args.values.now
