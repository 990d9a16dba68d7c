use Rattle.std.proofs.Common.{◌≡◌, ℕ, length, map, take, drop, arith, ap, sym, ◌∙◌}
use Rattle.mesh_model.specs.Complex.{corners_of}
use Rattle.mesh_trail.specs.Noted.{noted, map_notes}
use Rattle.mesh_trail.specs.Kept.{face_of}
use Rattle.mesh_trail.proofs.CornerRows.{pair_in}
use Rattle.mesh_trail.proofs.MapNotes.{some-map_notes, mapped_none}
use Rattle.mesh_trail.proofs.FaceNotes.{face_count, face_within, face_corners}
use Rattle.mesh_trail.proofs.faces.FaceTable.corners.Goals as goal

pub copy_pairs-requires : goal.copy_pairs-requires
copy_pairs-requires c =
    let t = c.self.inside in
    let is = sym c.body.ensures ∙ c.in-Some.is in
    let room : length c.args.into.now ≡ length (corners_of (noted (map_notes (face_of t.corners.corners) t.spans.names)
    c.args.name)) = rw (← c.self.view_is) at c.requires.room in
    let count = face_count t.corners.corners t.corners.longest t.spans.names c.args.name c.in-Some.span c.self.invariant
    is in
    let within = face_within (length t.corners.corners) t.corners.longest t.spans.names c.args.name c.in-Some.span
    c.self.invariant is in
    omega (arith, room, count, within)

pub returns-in-Some : goal.returns-in-Some
returns-in-Some c =
    let t = c.self.inside in
    let is = sym c.body.ensures ∙ c.in-Some.is in
    let room : length c.args.into.now ≡ length (corners_of (noted (map_notes (face_of t.corners.corners) t.spans.names)
    c.args.name)) = rw (← c.self.view_is) at c.requires.room in
    let count = face_count t.corners.corners t.corners.longest t.spans.names c.args.name c.in-Some.span c.self.invariant
    is in
    rw (← c.self.view_is) (c.copy_pairs.ensures
    ∙ ap (λ (n : ℕ). map pair_in (take n (drop c.in-Some.span.from t.corners.corners))) (room ∙ sym count)
    ∙ sym (ap (map pair_in) (face_corners t.corners.corners t.spans.names c.args.name c.in-Some.span is)))

pub returns-in_default : goal.returns-in_default
returns-in_default c =
    let t = c.self.inside in
    mapped_none (λ r. r.0) (noted t.spans.names c.args.name) (sym c.body.ensures ∙ c.in_default.is)
    (some-map_notes (face_of t.corners.corners) t.spans.names c.args.name (rw (← c.self.view_is) at c.requires.there))
