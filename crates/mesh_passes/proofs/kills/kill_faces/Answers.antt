use Rattle.std.proofs.Common.{◌≡◌, take, get_or, ◌∙◌}
use Rattle.mesh_model.specs.declared.names.FaceName.{FaceName}
use Rattle.mesh_model.specs.Kernel.{without_face}
use Rattle.mesh_passes.specs.Killing.{without_faces}
use Rattle.mesh_core.specs.Seen.{now}
use Rattle.mesh_passes.proofs.Steps.{face_in, stepped}
use Rattle.mesh_passes.proofs.Killings.{faces_more, faces_live}
use Rattle.mesh_passes.proofs.kills.kill_faces.Goals as goal

abbrev none : FaceName
none = record { 0 = 0 }

pub kill_face-requires : goal.kill_face-requires
kill_face-requires c =
    face_in (now c.loop-f.mesh) (without_faces (now c.args.mesh.now) (take c.loop-f.f-index c.args.faces.now))
    (get_or c.args.faces.now c.loop-f.f-index none).0 c.loop-f.invariant.now
    (faces_live (now c.args.mesh.now) c.args.faces.now c.loop-f.f-index none c.requires.rising c.loop-f-test.true
    (c.requires.live c.loop-f.f-index none c.loop-f-test.true))

pub loop-f-preserved : goal.loop-f-preserved
loop-f-preserved c = record {
  now = stepped without_face (get_or c.args.faces.now c.loop-f.f-index none) (now c.loop-f.mesh) _
      (without_faces (now c.args.mesh.now) (take c.loop-f.f-index c.args.faces.now)) _ c.in_ok-kill_face.ensures.now
      c.loop-f.invariant.now
      (faces_more (now c.args.mesh.now) c.args.faces.now c.loop-f.f-index none c.loop-f-test.true);
  base = c.kill_face.ensures.base ∙ c.loop-f.invariant.base;
}
