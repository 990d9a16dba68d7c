use Rattle.std.proofs.Common.{Some, sym, ap, ◌∙◌}
use Rattle.std.specs.List.{slice_get}
use Rattle.std.specs.Option.{option_map}
use Rattle.mesh_model.specs.declared.names.VertName.{VertName}
use Rattle.mesh_model.specs.declared.names.EdgeName.{EdgeName}
use Rattle.mesh_model.specs.declared.records.CornerRec.{CornerRec}
use Rattle.mesh_model.specs.Table.{at}
use Rattle.mesh_model.specs.Complex.{Complex, corners_of}
use Rattle.mesh_records.specs.ReadOff.{NameLists}
use Rattle.mesh_core.specs.Seen.{now}
use Rattle.mesh_records.proofs.Elements.{name_live}
use Rattle.mesh_records.proofs.Examples.{face_of_name}
use Rattle.mesh_records.proofs.ReadBack.{corner_there, loop_within, loop_there, corner_read}
use Rattle.mesh_core.proofs.mesh_shape.MeshShape.corner.Goals as goal

pub slot_of_face-face-requires : goal.slot_of_face-face-requires
slot_of_face-face-requires c = face_of_name c.self.inside.store c.self.inside.next _ (now c.args.self.now) c.args.f.0
    (ap now c.self.view_is) (corner_there (now c.args.self.now) c.args.f.0 c.args.i c.requires)

pub loop_at-requires-clause-live : goal.loop_at-requires-clause-live
loop_at-requires-clause-live c = name_live c.self.invariant.whole.records.named.faces c.args.f.0 c.slot_of_face-face.result
    c.slot_of_face-face.ensures

pub loop_at-requires-clause-within : goal.loop_at-requires-clause-within
loop_at-requires-clause-within c =
    let lists : NameLists = record { materials = c.self.inside.materials; libraries = c.self.inside.libraries } in
    loop_within c.self.inside.store c.self.inside.next lists c.self.invariant.whole c.args.f.0 c.slot_of_face-face.result
    c.slot_of_face-face.ensures (now c.args.self.now) (ap now c.self.view_is) c.args.i c.requires

pub corner_at-requires-clause-live : goal.corner_at-requires-clause-live
corner_at-requires-clause-live c = loop_there c.self.inside.store c.self.invariant.whole.cycles.cycles
    c.slot_of_face-face.result.0 c.args.i c.loop_at.result c.loop_at.ensures

pub returns : goal.returns
returns c =
    let lists : NameLists = record { materials = c.self.inside.materials; libraries = c.self.inside.libraries } in
    sym (ap (λ (x : Complex). option_map (λ (k : CornerRec). (k.vert, k.edge))
    (slice_get (corners_of (at x.faces c.args.f.0)) c.args.i)) (ap now c.self.view_is))
    ∙ ap (option_map (λ (k : CornerRec). (k.vert, k.edge)))
    (corner_read c.self.inside.store c.self.inside.next lists c.self.invariant.whole c.args.f.0 c.slot_of_face-face.result
    c.slot_of_face-face.ensures c.args.i c.loop_at.result c.loop_at.ensures)
    ∙ ap (λ (p : VertName × EdgeName). Some p) (sym c.corner_at.ensures)
