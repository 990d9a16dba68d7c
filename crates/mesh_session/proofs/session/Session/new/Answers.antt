use Rattle.std.proofs.Common.{sym, ◌∙◌}
use Rattle.mesh_session.proofs.Sounds.{sound_fresh}
use Rattle.mesh_session.proofs.session.Session.new.Goals as goal

pub invariant_of-session : goal.invariant_of-session
invariant_of-session c = record {
  state = sound_fresh _ c.new-2.result.bindings.bound c.new-2.result.undo.items c.new-2.result.redo.items
      c.new.ensures.empty c.new-2.ensures.bindings c.new-2.ensures.undo c.new-2.ensures.redo;
  same = c.new.ensures.base ∙ sym c.new.ensures.empty;
}
