use Rattle.std.proofs.Common.{length}
use Rattle.mesh_model.specs.ChangeSet.{same_face}
use Rattle.mesh_trail.specs.Kept.{kept_row, face_of}
use Rattle.mesh_trail.proofs.Tables.{trim_names, trim_left}
use Rattle.mesh_trail.proofs.FaceNotes.{kept_spans}
use Rattle.mesh_trail.proofs.faces.trim_spans.Goals as goal

pub trim_map-requires-clause-stored : goal.trim_map-requires-clause-stored
trim_map-requires-clause-stored g c =
    let t = c.table.inside in
    kept_spans (length c.args.corners.now.corners) c.args.corners.now.longest t.width t.values.items t.map.names
    (rw (← c.table.view_is) at c.requires.stored)

pub returns-clause-trimmed : goal.returns-clause-trimmed
returns-clause-trimmed g c =
    let t = c.table.inside in
    let corners = c.args.corners.now.corners in
    let trimmed = rw c.deref.ensures.value at c.trim_map.ensures.trimmed in
    rw (← c.table.view_is) (record {
      notes = trim_names (face_of corners) t.width t.values.items same_face (g.S.Shape.complex c.args.now.now).faces
          t.map.names c.trim_map.new.map.names trimmed;
      left = trim_left (kept_row t.width t.values.items) t.map.names c.trim_map.new.map.names trimmed.left;
    })
