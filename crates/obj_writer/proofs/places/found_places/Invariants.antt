use Rattle.std.proofs.Common.{◌≡◌, map, take}
use Rattle.std.specs.List.{flat_map}
use Rattle.mesh_model.specs.Complex.{corners_of}
use Rattle.obj_writer.specs.Whole.{uv_of, distinct}
use Rattle.obj_writer.proofs.places.found_places.Given as goal

-- the places of the faces so far
abbrev pub invariant-loop-n : goal.invariant-loop-n
invariant-loop-n g l =
    l.found.keys ≡ distinct (map (uv_of (g.S.Shape.complex l.shape))
    (flat_map corners_of (take l.n (g.S.Shape.complex l.shape).faces)))
