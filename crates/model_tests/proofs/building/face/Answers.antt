use Rattle.std.proofs.Common.{to_z, of_z, w64}
use Rattle.model_tests.proofs.building.face.Goals as goal

pub add_face-requires-clause-edges : goal.add_face-requires-clause-edges
add_face-requires-clause-edges g c =
    c.has_room.ensures.edges c.confirm.ensures (to_z w64 (of_z w64 c.args.material)) (to_z w64 (of_z w64 c.args.smooth))
