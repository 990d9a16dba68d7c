use Rattle.std.proofs.Common.{◌++◌, ◌∙◌, ap, codes}
use Rattle.std.specs.List.{flat_map}
use Rattle.mesh_model.specs.Complex.{corners_of}
use Rattle.mesh_model.specs.Table.{at}
use Rattle.obj_writer.specs.Whole.{corner_word}
use Rattle.obj_writer.proofs.FaceTextLemmas.{line_told}
use Rattle.obj_writer.proofs.WritingLemmas.{three}
use Rattle.obj_writer.proofs.face_lines.push_face.Goals as goal

pub returns : goal.returns
returns g c =
    let whole = g.S.Shape.complex c.args.shape.now in
    let words = flat_map (corner_word whole) (corners_of (at whole.faces c.args.f.0)) in
    three c.args.out.now.items c.push.new.self.items c.push_corners.new.out.items c.push-2.new.self.items (codes "f")
    words (codes "\n") c.in_ok-push.ensures.items c.in_ok-push_corners.ensures c.in_ok-push-2.ensures.items
    ∙ ap (λ t. c.args.out.now.items ++ t) (line_told whole (at whole.faces c.args.f.0) c.requires.there)
