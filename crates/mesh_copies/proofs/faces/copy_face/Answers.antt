use Rattle.std.proofs.Common.{◌≡◌, List, [], ◌∷◌, map, Option, Some, ap, ◌∙◌}
use Rattle.mesh_model.specs.Table.{at}
use Rattle.mesh_model.specs.Complex.{Complex, corners_of}
use Rattle.mesh_model.specs.Kernel.{with_corners, with_face_like}
use Rattle.mesh_model.specs.declared.records.CornerRec.{CornerRec}
use Rattle.mesh_model.specs.declared.records.FaceRec.{FaceRec}
use Rattle.mesh_model.proofs.Tables.{stands}
use Rattle.mesh_core.specs.Seen.{now}
use Rattle.mesh_copies.specs.Copying.{copied_corner}
use Rattle.mesh_copies.specs.CopyingSteps.{vert_after, edge_after}
use Rattle.mesh_copies.proofs.Copyings.{face_made}
use Rattle.mesh_copies.proofs.faces.copy_face.Goals as goal

pub returns-clause-now : goal.returns-clause-now
returns-clause-now c =
    let rv = vert_after c.args.next c.args.set.now in
    let re = edge_after c.args.next c.args.set.now in
    let it = stands (at (now c.args.mesh.now).faces c.args.f.0) c.requires.live in
    let first = (c.index-first.result.now.vert, c.index-first.result.now.edge) ∷ [] in
    let ks : c.deref.result.now ≡ map (copied_corner rv re) it.0.corners =
    c.deref.ensures.value ∙ c.in_ok-corners.ensures
    ∙ ap (λ (o : Option FaceRec). map (copied_corner rv re) (corners_of o)) it.1 in
    c.in_ok-reface.ensures.now
    ∙ ap (λ (x : Complex). with_corners x c.in_ok-copy.copy c.deref.result.now) c.in_ok-copy.ensures.now
    ∙ ap (λ (xs : List CornerRec). with_corners (with_face_like (now c.args.mesh.now) first (Some c.args.f)) c.in_ok-copy.copy xs) ks
    ∙ face_made rv re (now c.args.mesh.now) c.args.f c.in_ok-copy.copy it.0 first it.1 c.in_ok-copy.ensures.name
