use Rattle.std.proofs.Common.{◌<◌, Option, length, arith, ap, sym, ◌∙◌}
use Rattle.std.specs.Option.{option_map}
use Rattle.mesh_model.specs.Complex.{corners_of}
use Rattle.mesh_model.specs.declared.records.CornerRec.{CornerRec}
use Rattle.mesh_trail.specs.Noted.{noted, map_notes}
use Rattle.mesh_trail.specs.Kept.{face_of}
use Rattle.mesh_trail.proofs.CornerRows.{pair_in}
use Rattle.mesh_trail.proofs.FaceNotes.{face_count, face_within, face_corner, none_face}
use Rattle.mesh_trail.proofs.faces.FaceTable.corner.Goals as goal

pub pair-requires : goal.pair-requires
pair-requires c =
    let t = c.self.inside in
    let is = sym c.body.ensures ∙ c.in-Some.is in
    let less : c.args.i < length (corners_of (noted (map_notes (face_of t.corners.corners) t.spans.names) c.args.name))
    = rw (← c.self.view_is) at c.requires in
    let count = face_count t.corners.corners t.corners.longest t.spans.names c.args.name c.in-Some.span c.self.invariant
    is in
    let within = face_within (length t.corners.corners) t.corners.longest t.spans.names c.args.name c.in-Some.span
    c.self.invariant is in
    omega arith

pub returns-in-Some : goal.returns-in-Some
returns-in-Some c =
    let t = c.self.inside in
    let is = sym c.body.ensures ∙ c.in-Some.is in
    let less : c.args.i < length (corners_of (noted (map_notes (face_of t.corners.corners) t.spans.names) c.args.name))
    = rw (← c.self.view_is) at c.requires in
    rw (← c.self.view_is) (ap (λ (o : Option CornerRec). option_map pair_in o)
    (face_corner t.corners.corners t.spans.names c.args.name c.args.i c.in-Some.span is less) ∙ c.pair.ensures)

pub returns-in-None : goal.returns-in-None
returns-in-None c =
    let t = c.self.inside in
    none_face t.corners.corners t.spans.names c.args.name c.args.i (sym c.body.ensures ∙ c.in-None.is)
    (rw (← c.self.view_is) at c.requires)
