use Rattle.mesh_session.proofs.Declared.{sound_loaded}
use Rattle.mesh_session.proofs.session.Session.load.Goals as goal

pub invariant_of-self : goal.invariant_of-self
invariant_of-self c =
    sound_loaded c.load-loaded.result c.self.inside.mesh c.load-loaded.new.self c.args.draft.now c.args.layers.now
    c.self.inside.history.bindings.bound c.self.inside.history.undo.items c.self.inside.history.redo.items
    c.load-loaded.ensures.now c.load-loaded.ensures.base c.load-loaded.ensures.err c.counters.ensures.linked
    c.requires.sound c.self.invariant (rw (← c.self.view_is) at c.requires.fresh)
