use Rattle.std.proofs.Common.{[], ◌∷◌, Bool, is_some, sym, ap, ◌∙◌}
use Rattle.std.proofs.lemmas.List.Quantifiers.{position-Some}
use Rattle.cust_data.specs.Layers.{Layer, same_name}
use Rattle.mesh_model.specs.Table.{passes}
use Rattle.mesh_model.specs.Complex.{layers_of}
use Rattle.mesh_model.specs.Refusals.{unless}
use Rattle.mesh_model.specs.declared.refusal.Why.TheVariants.{NoLayer, BadValue}
use Rattle.mesh_core.specs.Seen.{now}
use Rattle.mesh_passes.proofs.Conditions.{fails_unless, holds_unless, last_of}
use Rattle.op_values.specs.Putting.{no_layer}
use Rattle.op_values.specs.Setting.{layer_named, are_values}
use Rattle.op_values.proofs.Settings.{find_at_position, find_none}
use Rattle.op_values.proofs.setting.refused.Goals as goal

pub unless_values-requires : goal.unless_values-requires
unless_values-requires c =
    (position-Some (λ (l : Layer). same_name l.name c.args.name.now)
    (layers_of (now c.args.mesh.now).layers c.args.kind) c.in-Some.k no_layer (sym c.layer_of.ensures ∙ c.in-Some.is)).0

pub returns-in-Some : goal.returns-in-Some
returns-in-Some c =
    let whole = now c.args.mesh.now in
    let test : Layer → Bool = λ l. same_name l.name c.args.name.now in
    let can = are_values whole c.args.kind c.args.values.now in
    let named = find_at_position test (layers_of whole.layers c.args.kind) c.in-Some.k no_layer
    (sym c.layer_of.ensures ∙ c.in-Some.is) in
    let second = unless (passes can (layer_named whole c.args.kind c.args.name.now)) BadValue in
    c.unless_values.ensures
    ∙ ap (λ (b : Bool). unless b BadValue) (sym (ap (passes can) named))
    ∙ last_of second
    ∙ holds_unless (is_some (layer_named whole c.args.kind c.args.name.now)) NoLayer (second ∷ []) (ap is_some named)

pub returns-in-None : goal.returns-in-None
returns-in-None c =
    let whole = now c.args.mesh.now in
    let test : Layer → Bool = λ l. same_name l.name c.args.name.now in
    let can = are_values whole c.args.kind c.args.values.now in
    fails_unless (is_some (layer_named whole c.args.kind c.args.name.now)) NoLayer
    (unless (passes can (layer_named whole c.args.kind c.args.name.now)) BadValue ∷ [])
    (ap is_some (find_none test (layers_of whole.layers c.args.kind) (sym c.layer_of.ensures ∙ c.in-None.is)))
