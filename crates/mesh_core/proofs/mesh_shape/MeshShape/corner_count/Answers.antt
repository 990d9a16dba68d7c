use Rattle.std.proofs.Common.{length, sym, ap, ◌∙◌}
use Rattle.std.proofs.lemmas.Option.{same_Some}
use Rattle.mesh_cycles.proofs.Completeness.{live_len}
use Rattle.mesh_model.specs.Table.{at}
use Rattle.mesh_model.specs.Complex.{Complex, corners_of}
use Rattle.mesh_records.specs.ReadOff.{NameLists}
use Rattle.mesh_core.specs.Seen.{now}
use Rattle.mesh_records.proofs.Elements.{name_live}
use Rattle.mesh_records.proofs.Examples.{face_of_name}
use Rattle.mesh_records.proofs.ReadBack.{count_read}
use Rattle.mesh_core.proofs.mesh_shape.MeshShape.corner_count.Goals as goal

pub slot_of_face-face-requires : goal.slot_of_face-face-requires
slot_of_face-face-requires c = face_of_name c.self.inside.store c.self.inside.next _ (now c.args.self.now) c.args.f.0
    (ap now c.self.view_is) c.requires

pub face_len-requires : goal.face_len-requires
face_len-requires c = name_live c.self.invariant.whole.records.named.faces c.args.f.0 c.slot_of_face-face.result
    c.slot_of_face-face.ensures

pub returns : goal.returns
returns c =
    let st = c.self.inside.store in
    let w = c.self.invariant.whole in
    let f = c.slot_of_face-face.result in
    let lists : NameLists = record { materials = c.self.inside.materials; libraries = c.self.inside.libraries } in
    let live = name_live w.records.named.faces c.args.f.0 f c.slot_of_face-face.ensures in
    same_Some _ _ (sym c.face_len.ensures.len ∙ live_len st f.0 w.cycles.counted live)
    ∙ count_read st c.self.inside.next lists w c.args.f.0 f c.slot_of_face-face.ensures
    ∙ ap (λ (x : Complex). length (corners_of (at x.faces c.args.f.0))) (ap now c.self.view_is)
