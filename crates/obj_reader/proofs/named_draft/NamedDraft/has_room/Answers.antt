use Rattle.obj_reader.proofs.named_draft.NamedDraft.has_room.Goals as goal

pub returns-clause-edges : goal.returns-clause-edges
returns-clause-edges c = rw (← c.self.view_is) c.has_room.ensures.edges
