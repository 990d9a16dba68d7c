use Rattle.std.proofs.Common.{◌≡◌, length, ap, ◌∙◌, arith}
use Rattle.mesh_trail.specs.Noted.{map_notes}
use Rattle.mesh_trail.specs.Kept.{KeptCorners, face_of}
use Rattle.mesh_trail.proofs.faces.FaceTable.trim.Goals as goal

pub invariant_of-self : goal.invariant_of-self
invariant_of-self g c =
    let t = c.self.inside in
    let count : length c.trim_spans.new.corners.corners ≡ length t.corners.corners =
    ap (λ (s : KeptCorners). length s.corners) c.trim_spans.ensures.corners in
    let most : c.trim_spans.new.corners.longest ≡ t.corners.longest =
    ap (λ (s : KeptCorners). s.longest) c.trim_spans.ensures.corners in
    λ name r at_name. (let it = c.self.invariant name r (c.trim_spans.ensures.trimmed.left name r at_name) in
    (omega (arith, it.0, count), omega (arith, it.1, most)))

pub returns-clause-names : goal.returns-clause-names
returns-clause-names g c =
    rw (← c.self.view_is) (ap (λ (s : KeptCorners). map_notes (face_of s.corners) c.trim_spans.new.table.names)
    c.trim_spans.ensures.corners ∙ c.trim_spans.ensures.trimmed.notes)
