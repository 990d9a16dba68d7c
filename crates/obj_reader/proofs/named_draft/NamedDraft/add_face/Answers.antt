use Rattle.obj_reader.proofs.IndexedLemmas.{indexed_face}
use Rattle.obj_reader.proofs.named_draft.NamedDraft.add_face.Goals as goal

pub invariant_of-self-2 : goal.invariant_of-self-2
invariant_of-self-2 c =
    indexed_face c.self.inside.draft _ c.args.corners.now _ _ c.self.inside.materials.keys c.self.inside.libraries.keys
    c.in_ok-name.ensures.ok c.self.invariant
