use Rattle.std.proofs.Common.{length, map, sym, ap, ◌∙◌}
use Rattle.mesh_model.specs.declared.records.CornerRec.{CornerRec}
use Rattle.mesh_model.specs.Table.{at}
use Rattle.mesh_model.specs.Complex.{Complex, corners_of}
use Rattle.mesh_records.specs.ReadOff.{NameLists}
use Rattle.mesh_core.specs.Seen.{now}
use Rattle.mesh_records.proofs.Elements.{name_live}
use Rattle.mesh_records.proofs.Examples.{face_of_name}
use Rattle.mesh_records.proofs.ReadBack.{loops_count, all_names_read}
use Rattle.mesh_core.proofs.mesh_shape.MeshShape.corners.Goals as goal

pub slot_of_face-face-requires : goal.slot_of_face-face-requires
slot_of_face-face-requires c = face_of_name c.self.inside.store c.self.inside.next _ (now c.args.self.now) c.args.f.0
    (ap now c.self.view_is) c.requires.there

pub corners_into-requires-clause-cycles : goal.corners_into-requires-clause-cycles
corners_into-requires-clause-cycles c = c.self.invariant.whole.cycles.cycles

pub corners_into-requires-clause-live : goal.corners_into-requires-clause-live
corners_into-requires-clause-live c = name_live c.self.invariant.whole.records.named.faces c.args.f.0
    c.slot_of_face-face.result c.slot_of_face-face.ensures

pub corners_into-requires-clause-room : goal.corners_into-requires-clause-room
corners_into-requires-clause-room c =
    let lists : NameLists = record { materials = c.self.inside.materials; libraries = c.self.inside.libraries } in
    c.requires.room ∙ sym (ap (λ (x : Complex). length (corners_of (at x.faces c.args.f.0))) (ap now c.self.view_is))
    ∙ sym (loops_count c.self.inside.store c.self.inside.next lists c.self.invariant.whole c.args.f.0
    c.slot_of_face-face.result c.slot_of_face-face.ensures)

pub returns : goal.returns
returns c =
    let lists : NameLists = record { materials = c.self.inside.materials; libraries = c.self.inside.libraries } in
    c.corners_into.ensures
    ∙ all_names_read c.self.inside.store c.self.inside.next lists c.self.invariant.whole c.args.f.0 c.slot_of_face-face.result
    c.slot_of_face-face.ensures
    ∙ ap (λ (x : Complex). map (λ (k : CornerRec). (k.vert, k.edge)) (corners_of (at x.faces c.args.f.0)))
    (ap now c.self.view_is)
