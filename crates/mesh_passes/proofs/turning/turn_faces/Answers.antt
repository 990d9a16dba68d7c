use Rattle.std.proofs.Common.{◌≡◌, take, get_or, ◌∙◌}
use Rattle.mesh_model.specs.declared.names.FaceName.{FaceName}
use Rattle.mesh_model.specs.Kernel.{reversed_face}
use Rattle.mesh_passes.specs.Turning.{turned_over}
use Rattle.mesh_core.specs.Seen.{now}
use Rattle.mesh_passes.proofs.Steps.{face_in, stepped}
use Rattle.mesh_passes.proofs.Turnings.{turned_more, turned_live}
use Rattle.mesh_passes.proofs.turning.turn_faces.Goals as goal

abbrev none : FaceName
none = record { 0 = 0 }

pub reverse_face-requires : goal.reverse_face-requires
reverse_face-requires c =
    face_in (now c.loop-f.mesh) (turned_over (now c.args.mesh.now) (take c.loop-f.f-index c.args.faces.now))
    (get_or c.args.faces.now c.loop-f.f-index none).0 c.loop-f.invariant.now
    (turned_live (now c.args.mesh.now) c.args.faces.now c.loop-f.f-index none c.requires.rising c.loop-f-test.true
    (c.requires.live c.loop-f.f-index none c.loop-f-test.true))

pub loop-f-preserved : goal.loop-f-preserved
loop-f-preserved c = record {
  now = stepped reversed_face (get_or c.args.faces.now c.loop-f.f-index none) (now c.loop-f.mesh) _
      (turned_over (now c.args.mesh.now) (take c.loop-f.f-index c.args.faces.now)) _ c.in_ok-reverse_face.ensures.now
      c.loop-f.invariant.now
      (turned_more (now c.args.mesh.now) c.args.faces.now c.loop-f.f-index none c.requires.rising c.loop-f-test.true);
  base = c.reverse_face.ensures.base ∙ c.loop-f.invariant.base;
}
