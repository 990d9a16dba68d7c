use Rattle.std.proofs.Common.{◌<◌, ℤ, Option, Some, sym, ap, ◌∙◌, subst, w64, rules, FitsSigned}
use Rattle.std.specs.List.{slice_get}
use Rattle.std.specs.Option.{option_map}
use Rattle.std.proofs.lemmas.Int.{to_z-of_z}
use Rattle.mesh_model.specs.declared.names.Kind.TheVariants.{Corners}
use Rattle.mesh_model.specs.declared.records.CornerRec.{CornerRec}
use Rattle.mesh_model.specs.Table.{at}
use Rattle.mesh_model.specs.Complex.{Complex, corners_of, width}
use Rattle.mesh_records.specs.ReadOff.{NameLists}
use Rattle.mesh_core.specs.Seen.{now}
use Rattle.mesh_records.proofs.Elements.{name_live, loop_live}
use Rattle.mesh_records.proofs.Examples.{face_of_name}
use Rattle.mesh_records.proofs.ReadBack.{corner_there, loop_within, loop_there, corner_value_read, few_numbers}
use Rattle.mesh_core.proofs.mesh_shape.MeshShape.corner_value.Goals as goal

pub slot_of_face-face-requires : goal.slot_of_face-face-requires
slot_of_face-face-requires c = face_of_name c.self.inside.store c.self.inside.next _ (now c.args.self.now) c.args.f.0
    (ap now c.self.view_is) (corner_there (now c.args.self.now) c.args.f.0 c.args.i c.requires.there)

pub loop_at-corner-requires-clause-live : goal.loop_at-corner-requires-clause-live
loop_at-corner-requires-clause-live c =
    name_live c.self.invariant.whole.records.named.faces c.args.f.0 c.slot_of_face-face.result c.slot_of_face-face.ensures

pub loop_at-corner-requires-clause-within : goal.loop_at-corner-requires-clause-within
loop_at-corner-requires-clause-within c =
    let lists : NameLists = record { materials = c.self.inside.materials; libraries = c.self.inside.libraries } in
    loop_within c.self.inside.store c.self.inside.next lists c.self.invariant.whole c.args.f.0 c.slot_of_face-face.result
    c.slot_of_face-face.ensures (now c.args.self.now) (ap now c.self.view_is) c.args.i c.requires.there

pub value_at-requires-clause-live : goal.value_at-requires-clause-live
value_at-requires-clause-live c =
    loop_live c.self.inside.store c.loop_at-corner.result.0
    (loop_there c.self.inside.store c.self.invariant.whole.cycles.cycles c.slot_of_face-face.result.0 c.args.i
    c.loop_at-corner.result c.loop_at-corner.ensures)

pub value_at-requires-clause-within : goal.value_at-requires-clause-within
value_at-requires-clause-within c = let P =
    λ (x : Complex). c.args.k < width x Corners in subst P (sym (ap now c.self.view_is)) c.requires.within

pub value_at-requires-clause-few : goal.value_at-requires-clause-few
value_at-requires-clause-few c = few_numbers c.self.inside.store.values.loops.layers
    c.self.invariant.whole.values.loops.layers

pub returns : goal.returns
returns c =
    let fits : FitsSigned w64 c.value_at.result = search rules in
    let lists : NameLists = record { materials = c.self.inside.materials; libraries = c.self.inside.libraries } in
    sym (ap (λ (x : Complex). option_map (λ (r : CornerRec). slice_get r.vals c.args.k)
    (slice_get (corners_of (at x.faces c.args.f.0)) c.args.i)) (ap now c.self.view_is))
    ∙ corner_value_read c.self.inside.store c.self.inside.next lists c.self.invariant.whole c.args.f.0
    c.slot_of_face-face.result c.slot_of_face-face.ensures c.args.i c.args.k c.loop_at-corner.result
    c.loop_at-corner.ensures
    ∙ ap (λ (o : Option ℤ). Some o) (c.value_at.ensures
    ∙ ap (λ (z : ℤ). Some z) (sym (to_z-of_z w64 c.value_at.result fits)))
