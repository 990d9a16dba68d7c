use Rattle.std.proofs.Common.{◌≡◌, ℤ, List, sym, ap, ◌∙◌}
use Rattle.std.proofs.lemmas.List.Quantifiers.{position-Some}
use Rattle.cust_data.specs.Layers.{Layer, same_name, find_layer}
use Rattle.mesh_model.specs.Complex.{Complex, layers_of}
use Rattle.mesh_model.specs.Values.{with_numbers}
use Rattle.mesh_core.specs.Seen.{now}
use Rattle.mesh_passes.specs.Row.{only}
use Rattle.mesh_passes.proofs.Steps.{done}
use Rattle.op_slots.specs.declared.slots.Slots.{Slots}
use Rattle.op_values.specs.Putting.{no_layer, layer_at, rows_put}
use Rattle.op_values.specs.Setting.{are_values, with_layer_set}
use Rattle.op_values.proofs.Settings.{set_may, set_named, set_is, both_ok}
use Rattle.op_values.proofs.setting.SetArgsOperator.change.Goals as goal

pub set_layer-requires-clause-within : goal.set_layer-requires-clause-within
set_layer-requires-clause-within c =
    let s = c.args.self.now in
    let layers = layers_of (now c.args.mesh.now).layers s.of in
    (position-Some (λ (l : Layer). same_name l.name s.layer) layers c.in-Some.k no_layer
    (sym (c.layer_of.ensures ∙ ap (find_layer layers) c.as_slice.ensures) ∙ c.in-Some.is)).0

pub set_layer-requires-clause-values : goal.set_layer-requires-clause-values
set_layer-requires-clause-values c =
    let s = c.args.self.now in
    let whole = now c.args.mesh.now in
    let layers = layers_of whole.layers s.of in
    let found = sym (c.layer_of.ensures ∙ ap (find_layer layers) c.as_slice.ensures) ∙ c.in-Some.is in
    ap (λ (values : List ℤ). are_values whole s.of values (layer_at whole s.of c.in-Some.k)) c.as_slice-in-Some.ensures
    ∙ set_may s.of s.geom s.layer s.values whole c.in-Some.k c.requires.may found

pub unreachable-requires : goal.unreachable-requires
unreachable-requires c =
    let s = c.args.self.now in
    let layers = layers_of (now c.args.mesh.now).layers s.of in
    set_named s.of s.geom s.layer s.values (now c.args.mesh.now) c.requires.may
    (sym (c.layer_of.ensures ∙ ap (find_layer layers) c.as_slice.ensures) ∙ c.in-None.is)

pub returns-clause-outcome : goal.returns-clause-outcome
returns-clause-outcome c =
    let s = c.args.self.now in
    let whole = now c.args.mesh.now in
    let layers = layers_of whole.layers s.of in
    let found = sym (c.layer_of.ensures ∙ ap (find_layer layers) c.as_slice.ensures) ∙ c.in-Some.is in
    let after = with_layer_set whole s.of s.geom s.layer s.values in
    let put : List ℤ → Complex = λ values. rows_put (with_numbers layers c.in-Some.k values) s.of whole s.geom in
    both_ok c.set_layer.result (λ (slots : Slots). slots ≡ only s.geom)
    (λ (slots : Slots). ◌≡◌ {A = Slots × Complex} (only s.geom, after) (slots, now c.set_layer.new.mesh))
    (now c.set_layer.new.mesh ≡ put c.as_slice-in-Some.result.now) c.set_layer.ensures.slots c.set_layer.ensures.now
    (λ slots is e. done (only s.geom) slots after (now c.set_layer.new.mesh) is
    (e ∙ ap put c.as_slice-in-Some.ensures ∙ set_is s.of s.geom s.layer s.values whole c.in-Some.k found))
