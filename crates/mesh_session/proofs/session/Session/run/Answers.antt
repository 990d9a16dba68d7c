use Rattle.mesh_session.specs.Operators.{op_row}
use Rattle.mesh_session.specs.Performing.{state_of}
use Rattle.mesh_session.specs.Steps.{binding_of}
use Rattle.mesh_core.specs.Seen.{now}
use Rattle.mesh_session.proofs.Sounds.{sound_run, named_new}
use Rattle.mesh_session.proofs.session.Session.run.Goals as goal

pub invariant_of-self-2 : goal.invariant_of-self-2
invariant_of-self-2 c = record {
  state = sound_run (state_of c.self.inside.mesh c.self.inside.history) (state_of c.run.new.mesh c.run.new.history)
      (binding_of c.args.name.now)
      (op_row c.args.op.now c.self.inside.history.bindings.bound (now c.self.inside.mesh)) c.in_ok-reply.reply
      c.in_ok-reply.ensures.ok
      (λ slots. named_new c.self.inside.history.bindings.bound c.args.name.now slots
      (rw (← c.self.view_is) at c.requires))
      c.self.invariant.state c.in_ok-reply.ensures.ready.sound;
  same = c.in_ok-reply.ensures.ready.same;
}
