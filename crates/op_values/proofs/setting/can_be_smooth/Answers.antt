use Rattle.std.specs.List.{list_all}
use Rattle.mesh_model.specs.Complex.{smooth_layer}
use Rattle.mesh_model.specs.Values.{same_layer}
use Rattle.mesh_model.specs.Valid.{is_smooth}
use Rattle.mesh_model.specs.declared.names.Kind.TheVariants.{Faces}
use Rattle.mesh_core.specs.Seen.{now}
use Rattle.op_values.specs.Putting.{no_layer, layer_at}
use Rattle.op_values.proofs.Settings.{layer_read, or_then, or_else}
use Rattle.op_values.proofs.setting.can_be_smooth.Goals as goal

pub returns-then-not-is_fixed : goal.returns-then-not-is_fixed
returns-then-not-is_fixed c =
    let whole = now c.args.mesh.now in
    or_then c.is_fixed.result (same_layer smooth_layer (layer_at whole Faces c.args.k))
    (list_all (is_smooth) c.args.values.now)
    (layer_read (same_layer smooth_layer) whole.layers.faces c.args.k no_layer c.is_fixed.result c.requires
    c.is_fixed.ensures) c.if-not-is_fixed.true

pub returns-else-not-is_fixed : goal.returns-else-not-is_fixed
returns-else-not-is_fixed c =
    let whole = now c.args.mesh.now in
    or_else c.is_fixed.result (same_layer smooth_layer (layer_at whole Faces c.args.k)) c.are_smooth.result
    (list_all (is_smooth) c.args.values.now)
    (layer_read (same_layer smooth_layer) whole.layers.faces c.args.k no_layer c.is_fixed.result c.requires
    c.is_fixed.ensures) c.if-not-is_fixed.false c.are_smooth.ensures
