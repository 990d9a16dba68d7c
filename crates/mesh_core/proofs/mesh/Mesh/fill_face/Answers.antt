use Rattle.std.proofs.Common.{sym, ◌∙◌}
use Rattle.mesh_core.proofs.Filled.{face_limit, face_reach, face_skipped}
use Rattle.mesh_records.proofs.ReadBack.{few_numbers}
use Rattle.mesh_core.proofs.mesh.Mesh.fill_face.Goals as goal

pub skip_face-requires-clause-limit : goal.skip_face-requires-clause-limit
skip_face-requires-clause-limit c =
    face_limit c.args.self.now c.args.draft.now c.args.f.0 c.requires.so_far c.requires.low

pub skip_face-requires-clause-reach : goal.skip_face-requires-clause-reach
skip_face-requires-clause-reach c =
    face_reach c.args.self.now c.args.draft.now c.args.f.0 c.requires.so_far c.requires.low

pub returns-then-not-has-clause-so_far : goal.returns-then-not-has-clause-so_far
returns-then-not-has-clause-so_far c =
    face_skipped c.args.self.now c.args.draft.now c.args.f.0 c.requires.so_far c.requires.low
    c.skip_face.new.self (sym c.has.ensures ∙ c.if-not-has.true) c.skip_face.ensures.now c.skip_face.ensures.stored

pub begin_face-requires-clause-few : goal.begin_face-requires-clause-few
begin_face-requires-clause-few c = few_numbers c.args.draft.now.layers.corners c.requires.linked.layers.corners
