use Rattle.mesh_session.specs.Performing.{state_of}
use Rattle.mesh_session.proofs.Sounds.{sound_undone}
use Rattle.mesh_session.proofs.session.Session.undo.Goals as goal

pub invariant_of-self-2 : goal.invariant_of-self-2
invariant_of-self-2 c = record {
  state = sound_undone (state_of c.self.inside.mesh c.self.inside.history)
      (state_of c.undo.new.mesh c.undo.new.history) c.in_ok-reply.reply c.in_ok-reply.ensures.ok c.self.invariant.state;
  same = c.in_ok-reply.ensures.same;
}
