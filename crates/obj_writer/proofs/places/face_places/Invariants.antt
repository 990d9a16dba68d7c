use Rattle.std.proofs.Common.{◌≡◌, map, take}
use Rattle.mesh_model.specs.Table.{at}
use Rattle.mesh_model.specs.Complex.{corners_of}
use Rattle.obj_writer.specs.Whole.{uv_of}
use Rattle.obj_writer.proofs.places.face_places.Given as goal

-- the places of the corners so far
abbrev pub invariant-loop-i : goal.invariant-loop-i
invariant-loop-i g l =
    l.uvs.items ≡ map (uv_of (g.S.Shape.complex l.shape)) (take l.i
    (corners_of (at (g.S.Shape.complex l.shape).faces l.fn.f.0)))
