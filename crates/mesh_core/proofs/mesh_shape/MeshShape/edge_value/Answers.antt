use Rattle.std.proofs.Common.{◌<◌, ℤ, Option, Some, sym, ap, ◌∙◌, subst, w64, rules, FitsSigned}
use Rattle.std.specs.List.{slice_get}
use Rattle.std.specs.Option.{option_map}
use Rattle.std.proofs.lemmas.Int.{to_z-of_z}
use Rattle.mesh_model.specs.Table.{at}
use Rattle.mesh_model.specs.Complex.{Complex, width}
use Rattle.mesh_model.specs.declared.names.Kind.TheVariants.{Edges}
use Rattle.mesh_model.specs.declared.records.EdgeRec.{EdgeRec}
use Rattle.mesh_records.specs.ReadOff.{NameLists}
use Rattle.mesh_core.specs.Seen.{now}
use Rattle.mesh_records.proofs.Elements.{name_live}
use Rattle.mesh_records.proofs.Examples.{edge_of_name}
use Rattle.mesh_records.proofs.ReadBack.{few_numbers, edge_value_read}
use Rattle.mesh_core.proofs.mesh_shape.MeshShape.edge_value.Goals as goal

pub slot_of_edge-edge-requires : goal.slot_of_edge-edge-requires
slot_of_edge-edge-requires c = edge_of_name c.self.inside.store c.self.inside.next _ (now c.args.self.now) c.args.e.0
    (ap now c.self.view_is) c.requires.there

pub value_at-requires-clause-live : goal.value_at-requires-clause-live
value_at-requires-clause-live c = name_live c.self.invariant.whole.records.named.edges c.args.e.0 c.slot_of_edge-edge.result
    c.slot_of_edge-edge.ensures

pub value_at-requires-clause-within : goal.value_at-requires-clause-within
value_at-requires-clause-within c = let P =
    λ (x : Complex). c.args.k < width x Edges in subst P (sym (ap now c.self.view_is)) c.requires.within

pub value_at-requires-clause-few : goal.value_at-requires-clause-few
value_at-requires-clause-few c = few_numbers c.self.inside.store.values.edges.layers
    c.self.invariant.whole.values.edges.layers

pub returns : goal.returns
returns c =
    let fits : FitsSigned w64 c.value_at.result = search rules in
    let lists : NameLists = record { materials = c.self.inside.materials; libraries = c.self.inside.libraries } in
    sym (ap (λ (x : Complex). option_map (λ (r : EdgeRec). slice_get r.vals c.args.k) (at x.edges c.args.e.0))
    (ap now c.self.view_is))
    ∙ edge_value_read c.self.inside.store c.self.inside.next lists c.self.invariant.whole c.args.k c.args.e.0
    c.slot_of_edge-edge.result c.slot_of_edge-edge.ensures
    ∙ ap (λ (o : Option ℤ). Some o) (c.value_at.ensures
    ∙ ap (λ (z : ℤ). Some z) (sym (to_z-of_z w64 c.value_at.result fits)))
