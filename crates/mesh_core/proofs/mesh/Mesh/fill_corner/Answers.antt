use Rattle.std.proofs.Common.{◌∷◌, [], ◌++◌, List, sym, ap, ◌∙◌, subst}
use Rattle.mesh_model.specs.Kernel.{with_corners_by}
use Rattle.mesh_model.specs.Valid.{IsCornerLinked}
use Rattle.mesh_model.specs.declared.records.CornerRec.{CornerRec}
use Rattle.mesh_model.proofs.Tables.{there-below}
use Rattle.mesh_records.proofs.ReadBack.{corner_there}
use Rattle.mesh_core.specs.Seen.{now}
use Rattle.mesh_core.proofs.Filled.{corner_told, corner_face_there, corner_few, corner_room, corner_is_linked, corner_filled}
use Rattle.mesh_core.proofs.mesh.Mesh.fill_corner.Goals as goal

pub append_corner-requires-clause-there : goal.append_corner-requires-clause-there
append_corner-requires-clause-there c =
    let d = c.args.draft.now in
    let there = corner_there d c.args.f.0 c.args.i c.requires.within in
    corner_face_there c.args.self.now d c.args.f.0 c.args.i c.requires.so_far (there-below d.faces c.args.f.0 there) there

pub append_corner-requires-clause-few : goal.append_corner-requires-clause-few
append_corner-requires-clause-few c =
    let d = c.args.draft.now in
    let there = corner_there d c.args.f.0 c.args.i c.requires.within in
    corner_few c.args.self.now d c.args.f.0 c.args.i c.requires.so_far (there-below d.faces c.args.f.0 there)
    c.requires.within

pub append_corner-requires-clause-linked : goal.append_corner-requires-clause-linked
append_corner-requires-clause-linked c =
    let d = c.args.draft.now in
    let there = corner_there d c.args.f.0 c.args.i c.requires.within in
    let t = corner_told d c.args.f.0 c.args.i c.requires.linked c.requires.within c.corner.result
    c.read_corner_row.new.into c.corner.ensures c.read_corner_row.ensures in
    subst (IsCornerLinked (now c.args.self.now)) (sym t.is)
    (corner_is_linked c.args.self.now d c.args.f.0 c.args.i c.requires.so_far (there-below d.faces c.args.f.0 there)
    t.corner t.linked)

pub append_corner-requires-clause-room : goal.append_corner-requires-clause-room
append_corner-requires-clause-room c =
    let d = c.args.draft.now in
    let there = corner_there d c.args.f.0 c.args.i c.requires.within in
    corner_room c.args.self.now d c.args.f.0 c.args.i c.requires.so_far (there-below d.faces c.args.f.0 there)
    c.requires.within

pub returns-clause-so_far : goal.returns-clause-so_far
returns-clause-so_far c =
    let d = c.args.draft.now in
    let there = corner_there d c.args.f.0 c.args.i c.requires.within in
    let t = corner_told d c.args.f.0 c.args.i c.requires.linked c.requires.within c.corner.result
    c.read_corner_row.new.into c.corner.ensures c.read_corner_row.ensures in
    corner_filled c.args.self.now d c.args.f.0 c.args.i c.requires.so_far (there-below d.faces c.args.f.0 there)
    c.append_corner.new.self t.corner t.here
    (c.append_corner.ensures.now
    ∙ ap (λ (k : CornerRec). with_corners_by (now c.args.self.now) c.args.f (λ (ks : List CornerRec). ks ++ k ∷ []))
    t.is)
    c.append_corner.ensures.places
