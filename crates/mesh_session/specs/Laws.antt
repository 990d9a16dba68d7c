-- What holds of all sessions.
use Rattle.std.specs.Prelude.{◌≡◌}
use Rattle.std.specs.declared.option.Option.TheVariants.{None}
use Rattle.op_slots.specs.declared.op.Op.{Op}
use Rattle.op_slots.specs.declared.command.What.TheVariants.{Run, Undo}
use Rattle.op_slots.specs.declared.command.Command.{Command}
use Rattle.op_slots.specs.declared.slots.Slots.{Slots}
use Rattle.mesh_passes.specs.Row.{no_slots}
use Rattle.mesh_session.specs.State.{State}
use Rattle.mesh_session.specs.Steps.{step}
use Rattle.mesh_session.specs.declared.reply.Reply.TheVariants.{Done}

-- two states agree on the complex, on what is bound, and on what can be undone
pub record GivesBack (s after : State) : Type 0 where
  pub now : after.now ≡ s.now
  pub bindings : after.bindings ≡ s.bindings
  pub undo : after.undo ≡ s.undo

-- after a command that runs an operator and is done, undo is done, and gives back the complex, what is bound, and what
-- can be undone
abbrev pub UndoGivesBack : Type 0
UndoGivesBack =
    (s : State) (ran undo : Command) (op : Op) (slots : Slots) → ran.what ≡ Run op
    → (step s ran).0 ≡ Done slots → undo.what ≡ Undo → undo.bind ≡ None
    → ((step (step s ran).1 undo).0 ≡ Done no_slots) × GivesBack s (step (step s ran).1 undo).1
