use Rattle.std.proofs.Common.{◌≡◌, Some, arith, rules}
use Rattle.std.specs.Option.{option_map}
use Rattle.std.proofs.lemmas.Int.{ints, to_z-of_z}
use Rattle.mesh_model.specs.Table.{at}
use Rattle.obj_writer.specs.Whole.{numbers_of}
use Rattle.obj_writer.proofs.FaceTextLemmas.{faces_wide, numbers_told}
use Rattle.obj_writer.proofs.face_lines.face_numbers.Goals as goal

pub face_value-material-requires-clause-within : goal.face_value-material-requires-clause-within
face_value-material-requires-clause-within g c = let wide =
    faces_wide (g.S.Shape.complex c.args.shape.now) c.requires.fixed in omega arith

pub face_value-smooth-requires-clause-within : goal.face_value-smooth-requires-clause-within
face_value-smooth-requires-clause-within g c = let wide =
    faces_wide (g.S.Shape.complex c.args.shape.now) c.requires.fixed in omega arith

pub returns : goal.returns
returns g c =
    let whole = g.S.Shape.complex c.args.shape.now in
    let m = c.face_value-material.result in
    let s = c.face_value-smooth.result in
    let told : option_map (numbers_of whole) (at whole.faces c.args.f.0) ≡ Some (m, s) =
    numbers_told whole (at whole.faces c.args.f.0) m s c.requires.fixed c.face_value-material.ensures
    c.face_value-smooth.ensures in
    first_of (search rules, grind (arith, ints, to_z-of_z, told))
