use Rattle.obj_reader.proofs.physical.finish_line.Goals as goal

pub returns-clause-sound : goal.returns-clause-sound
returns-clause-sound c = rw c.into_draft.ensures (c.in_ok-read_line.ensures.keeps 268435457 c.requires.parts).sound
