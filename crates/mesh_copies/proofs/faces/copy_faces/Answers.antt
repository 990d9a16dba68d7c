use Rattle.std.proofs.Common.{◌≡◌, ◌+◌, [], ◌∷◌, length, take, get_or, sym, ap, ◌∙◌, subst, arith, length-take}
use Rattle.mesh_model.specs.Table.{at}
use Rattle.mesh_model.specs.Complex.{Complex, corners_of, corner_sum}
use Rattle.mesh_model.specs.declared.names.FaceName.{FaceName}
use Rattle.mesh_core.specs.Seen.{now}
use Rattle.mesh_passes.proofs.Steps.{face_in, stepped}
use Rattle.mesh_copies.specs.CopyingSteps.{vert_after, edge_after, with_face_copies, IsFaceCopyLinked, corners_in}
use Rattle.mesh_copies.proofs.Copied.{no_face}
use Rattle.mesh_copies.proofs.Copyings.{faces_more, faces_live, faces_long, faces_linked, faces_at, sum-copied, sum-next}
use Rattle.mesh_copies.proofs.faces.copy_faces.Goals as goal

pub copy_face-requires-clause-live : goal.copy_face-requires-clause-live
copy_face-requires-clause-live c =
    let fs = c.args.faces.now in
    let i = c.loop-f.f-index in
    let rv = vert_after c.args.next c.args.set.now in
    let re = edge_after c.args.next c.args.set.now in
    face_in (now c.loop-f.mesh) (with_face_copies rv re (now c.args.mesh.now) (take i fs)) (get_or fs i no_face).0
    c.loop-f.invariant.now
    (faces_live rv re (now c.args.mesh.now) (take i fs) (get_or fs i no_face)
    (c.requires.live i no_face c.loop-f-test.true))

pub copy_face-requires-clause-linked : goal.copy_face-requires-clause-linked
copy_face-requires-clause-linked c =
    let fs = c.args.faces.now in
    let i = c.loop-f.f-index in
    let rv = vert_after c.args.next c.args.set.now in
    let re = edge_after c.args.next c.args.set.now in
    subst (λ (x : Complex). IsFaceCopyLinked rv re x (get_or fs i no_face)) (sym c.loop-f.invariant.now)
    (faces_linked rv re (now c.args.mesh.now) (take i fs) (get_or fs i no_face)
    (c.requires.live i no_face c.loop-f-test.true) (c.requires.linked i no_face c.loop-f-test.true))

pub copy_face-requires-clause-limit : goal.copy_face-requires-clause-limit
copy_face-requires-clause-limit c =
    let fs = c.args.faces.now in
    let i = c.loop-f.f-index in
    let rv = vert_after c.args.next c.args.set.now in
    let re = edge_after c.args.next c.args.set.now in
    let long : length (now c.loop-f.mesh).faces ≡ length (now c.args.mesh.now).faces + length (take i fs) =
    ap (λ (x : Complex). length x.faces) c.loop-f.invariant.now ∙ faces_long rv re (now c.args.mesh.now) (take i fs) in
    omega (arith, long, length-take i fs, c.requires.limit, c.loop-f-test.true)

pub copy_face-requires-clause-few : goal.copy_face-requires-clause-few
copy_face-requires-clause-few c =
    let fs = c.args.faces.now in
    let i = c.loop-f.f-index in
    let rv = vert_after c.args.next c.args.set.now in
    let re = edge_after c.args.next c.args.set.now in
    let f = get_or fs i no_face in
    let sum : corner_sum (now c.loop-f.mesh).faces
    ≡ corner_sum (now c.args.mesh.now).faces + corners_in (now c.args.mesh.now) (take i fs) =
    ap (λ (x : Complex). corner_sum x.faces) c.loop-f.invariant.now
    ∙ sum-copied rv re (now c.args.mesh.now) (take i fs) in
    let here : length (corners_of (at (now c.loop-f.mesh).faces f.0))
    ≡ length (corners_of (at (now c.args.mesh.now).faces f.0)) =
    ap (λ (x : Complex). length (corners_of (at x.faces f.0))) c.loop-f.invariant.now
    ∙ ap (λ o. length (corners_of o)) (faces_at rv re (now c.args.mesh.now) (take i fs) f
    (c.requires.live i no_face c.loop-f-test.true)) in
    omega (arith, sum, here, sum-next (now c.args.mesh.now) fs i no_face c.loop-f-test.true, c.requires.few)

pub loop-f-preserved : goal.loop-f-preserved
loop-f-preserved c =
    let fs = c.args.faces.now in
    let i = c.loop-f.f-index in
    let rv = vert_after c.args.next c.args.set.now in
    let re = edge_after c.args.next c.args.set.now in record {
      now = stepped (λ (x : Complex) (f : FaceName). with_face_copies rv re x (f ∷ [])) (get_or fs i no_face)
          (now c.loop-f.mesh) _ (with_face_copies rv re (now c.args.mesh.now) (take i fs)) _
          c.in_ok-copy_face.ensures.now c.loop-f.invariant.now
          (faces_more rv re (now c.args.mesh.now) fs i no_face c.loop-f-test.true
          (c.requires.live i no_face c.loop-f-test.true));
      base = c.copy_face.ensures.base ∙ c.loop-f.invariant.base;
    }
