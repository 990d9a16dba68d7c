use Rattle.mesh_session.specs.Performing.{state_of}
use Rattle.mesh_session.proofs.Sounds.{sound_redone}
use Rattle.mesh_session.proofs.session.Session.redo.Goals as goal

pub invariant_of-self-2 : goal.invariant_of-self-2
invariant_of-self-2 c = record {
  state = sound_redone (state_of c.self.inside.mesh c.self.inside.history)
      (state_of c.redo.new.mesh c.redo.new.history) c.in_ok-reply.reply c.in_ok-reply.ensures.ok c.self.invariant.state;
  same = c.in_ok-reply.ensures.same;
}
