use Rattle.std.proofs.Common.{to_z, of_z, w64}
use Rattle.sample_drafts.proofs.elements.face.Goals as goal

pub add_face-requires-clause-edges : goal.add_face-requires-clause-edges
add_face-requires-clause-edges c =
    c.has_room.ensures.edges c.if-not-has_room.false (to_z w64 (of_z w64 c.args.material)) (to_z w64 (of_z w64 c.args.smooth))
