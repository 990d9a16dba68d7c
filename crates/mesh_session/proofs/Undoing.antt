-- Undo after a done command.
use Rattle.std.proofs.Common.{◌≡◌, ◌∙◌, ℕ, Bool, true, false, List, [], ◌∷◌, ◌++◌, Option, Some, None, Result, Ok, Err, refl}
use Rattle.std.proofs.Common.{sym, ap, subst}
use Rattle.std.specs.Prelude.{if◌then◌else◌, option_to_list}
use Rattle.mesh_model.specs.Complex.{Complex}
use Rattle.mesh_model.specs.declared.refusal.Refusal.{Refusal}
use Rattle.op_slots.specs.declared.bindings.Binding.{Binding}
use Rattle.op_slots.specs.declared.op.Op.{Op}
use Rattle.op_slots.specs.declared.command.Command.{Command}
use Rattle.op_slots.specs.declared.command.What.{What}
use Rattle.op_slots.specs.declared.command.What.TheVariants.{Run, Undo}
use Rattle.op_slots.specs.declared.slots.Slots.{Slots}
use Rattle.mesh_passes.specs.Row.{no_slots}
use Rattle.mesh_session.specs.Laws.{GivesBack, UndoGivesBack}
use Rattle.mesh_session.specs.Operators.{unable, op_row}
use Rattle.mesh_session.specs.State.{State, is_new, next_state}
use Rattle.mesh_session.specs.Steps.{binding_of, with_result, newest, undone, step_by, step}
use Rattle.mesh_session.specs.declared.reply.Reply.{Reply}
use Rattle.mesh_session.specs.declared.reply.Reply.TheVariants.{Done, Refused}
use Rattle.mesh_session.proofs.Newest.{newest_last, without_last_bound}

-- undo, in a state that a done command left
back : (s : State) (b : Option Binding) (next : Complex)
    → ((undone (next_state s b next) (newest (next_state s b next).undo)).0 ≡ Done no_slots)
    × GivesBack s (undone (next_state s b next) (newest (next_state s b next).undo)).1
back s b next =
    rw (newest_last (next_state s b next).undo s.undo (record { complex = s.now; binding = b }) refl)
    (refl, record { now = refl; bindings = without_last_bound (s.bindings ++ option_to_list b) s.bindings b refl; undo = refl })

-- after a row that was done
by_row : (s : State) (bind : Slots → Option Binding) (row : Result (Slots × Complex) Refusal) (slots : Slots)
    → (with_result s bind row).0 ≡ Done slots
    → ((undone (with_result s bind row).1 (newest (with_result s bind row).1.undo)).0 ≡ Done no_slots)
    × GivesBack s (undone (with_result s bind row).1 (newest (with_result s bind row).1.undo)).1
by_row s bind (Err r) slots done = absurd (cc)
by_row s bind (Ok x) slots done = back s (bind x.0) x.1

-- the state after a command
abbrev After : State → State → Type 0
After s after =
    ((undone after (newest after.undo)).0 ≡ Done no_slots) × GivesBack s (undone after (newest after.undo)).1

by_name : (s : State) (b : Bool) (name : Option (List ℕ)) (op : Op) (slots : Slots)
    → (if b then step_by s name (Run op) else (Refused unable, s)).0 ≡ Done slots
    → After s (if b then step_by s name (Run op) else (Refused unable, s)).1
by_name s true name op slots done = by_row s (binding_of name) (op_row op s.bindings s.now) slots done
by_name s false name op slots done = absurd (cc)

by_what : (s : State) (ran : Command) (what : What) (op : Op) (slots : Slots) → what ≡ Run op
    → (step s (record ran { what = what })).0 ≡ Done slots → After s (step s (record ran { what = what })).1
by_what s ran what op slots is =
    subst (λ (w : What). (step s (record ran { what = w })).0 ≡ Done slots → After s (step s (record ran { what = w })).1)
    (sym is) (by_name s (is_new s.bindings ran.bind) ran.bind op slots)

-- an undo is that of the state
undo_is : (s : State) (undo : Command) → undo.what ≡ Undo → undo.bind ≡ None → step s undo ≡ undone s (newest s.undo)
undo_is s undo what bind =
    rw (bind, what) refl

pub undo_gives_back : UndoGivesBack
undo_gives_back s ran undo op slots is done undoes unnamed =
    rw (undo_is (step s ran).1 undo undoes unnamed) (by_what s ran ran.what op slots is done)
