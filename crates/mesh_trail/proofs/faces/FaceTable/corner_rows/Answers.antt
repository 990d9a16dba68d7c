use Rattle.std.proofs.Common.{◌≡◌, ◌*◌, ℕ, length, arith, ap, sym, ◌∙◌}
use Rattle.std.specs.List.{flat_map}
use Rattle.mesh_model.specs.Complex.{corners_of}
use Rattle.mesh_trail.specs.Noted.{noted, map_notes}
use Rattle.mesh_trail.specs.Kept.{face_of}
use Rattle.mesh_trail.proofs.CornerRows.{vals_in}
use Rattle.mesh_trail.proofs.MapNotes.{some-map_notes, mapped_none}
use Rattle.mesh_trail.proofs.FaceNotes.{face_count, face_within, face_corners}
use Rattle.mesh_trail.proofs.faces.FaceTable.corner_rows.Goals as goal

pub copy_rows-requires-clause-within : goal.copy_rows-requires-clause-within
copy_rows-requires-clause-within c =
    let t = c.self.inside in
    let is = sym c.body.ensures ∙ c.in-Some.is in
    let within = face_within (length t.corners.corners) t.corners.longest t.spans.names c.args.name c.in-Some.span
    c.self.invariant is in
    omega (arith, within)

pub copy_rows-requires-clause-room : goal.copy_rows-requires-clause-room
copy_rows-requires-clause-room c =
    let t = c.self.inside in
    let is = sym c.body.ensures ∙ c.in-Some.is in
    let room : length c.args.into.now ≡ length (corners_of (noted (map_notes (face_of t.corners.corners) t.spans.names)
    c.args.name)) * t.corners.width = rw (← c.self.view_is) at c.requires.room in
    let count = face_count t.corners.corners t.corners.longest t.spans.names c.args.name c.in-Some.span c.self.invariant
    is in
    room ∙ ap (λ (n : ℕ). n * t.corners.width) (sym count)

pub returns-in-Some : goal.returns-in-Some
returns-in-Some c =
    let t = c.self.inside in
    let is = sym c.body.ensures ∙ c.in-Some.is in
    rw (← c.self.view_is) (c.copy_rows.ensures
    ∙ sym (ap (flat_map vals_in) (face_corners t.corners.corners t.spans.names c.args.name c.in-Some.span is)))

pub returns-in_default : goal.returns-in_default
returns-in_default c =
    let t = c.self.inside in
    mapped_none (λ r. r.0) (noted t.spans.names c.args.name) (sym c.body.ensures ∙ c.in_default.is)
    (some-map_notes (face_of t.corners.corners) t.spans.names c.args.name (rw (← c.self.view_is) at c.requires.there))
