use Rattle.std.proofs.Common.{◌<◌, ℤ, Option, Some, sym, ap, ◌∙◌, subst, w64, rules, FitsSigned}
use Rattle.std.specs.List.{slice_get}
use Rattle.std.specs.Option.{option_map}
use Rattle.std.proofs.lemmas.Int.{to_z-of_z}
use Rattle.mesh_model.specs.Table.{at}
use Rattle.mesh_model.specs.Complex.{Complex, width}
use Rattle.mesh_model.specs.declared.names.Kind.TheVariants.{Faces}
use Rattle.mesh_model.specs.declared.records.FaceRec.{FaceRec}
use Rattle.mesh_records.specs.ReadOff.{NameLists}
use Rattle.mesh_core.specs.Seen.{now}
use Rattle.mesh_records.proofs.Elements.{name_live}
use Rattle.mesh_records.proofs.Examples.{face_of_name}
use Rattle.mesh_records.proofs.ReadBack.{few_numbers, face_value_read}
use Rattle.mesh_core.proofs.mesh_shape.MeshShape.face_value.Goals as goal

pub slot_of_face-face-requires : goal.slot_of_face-face-requires
slot_of_face-face-requires c = face_of_name c.self.inside.store c.self.inside.next _ (now c.args.self.now) c.args.f.0
    (ap now c.self.view_is) c.requires.there

pub value_at-requires-clause-live : goal.value_at-requires-clause-live
value_at-requires-clause-live c = name_live c.self.invariant.whole.records.named.faces c.args.f.0 c.slot_of_face-face.result
    c.slot_of_face-face.ensures

pub value_at-requires-clause-within : goal.value_at-requires-clause-within
value_at-requires-clause-within c = let P =
    λ (x : Complex). c.args.k < width x Faces in subst P (sym (ap now c.self.view_is)) c.requires.within

pub value_at-requires-clause-few : goal.value_at-requires-clause-few
value_at-requires-clause-few c = few_numbers c.self.inside.store.values.faces.layers
    c.self.invariant.whole.values.faces.layers

pub returns : goal.returns
returns c =
    let fits : FitsSigned w64 c.value_at.result = search rules in
    let lists : NameLists = record { materials = c.self.inside.materials; libraries = c.self.inside.libraries } in
    sym (ap (λ (x : Complex). option_map (λ (r : FaceRec). slice_get r.vals c.args.k) (at x.faces c.args.f.0))
    (ap now c.self.view_is))
    ∙ face_value_read c.self.inside.store c.self.inside.next lists c.self.invariant.whole c.args.k c.args.f.0
    c.slot_of_face-face.result c.slot_of_face-face.ensures
    ∙ ap (λ (o : Option ℤ). Some o) (c.value_at.ensures
    ∙ ap (λ (z : ℤ). Some z) (sym (to_z-of_z w64 c.value_at.result fits)))
