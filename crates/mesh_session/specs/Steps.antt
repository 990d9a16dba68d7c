-- What commands do to a session.
use Rattle.std.specs.Prelude.{ℕ, ◌-◌, if◌then◌else◌, List, [], ◌∷◌, ◌++◌, length, take, reverse}
use Rattle.std.specs.Prelude.{option_to_list, Result, Ok, Err}
use Rattle.std.specs.declared.option.Option.{Option}
use Rattle.std.specs.declared.option.Option.TheVariants.{None, Some}
use Rattle.std.specs.Option.{option_map}
use Rattle.mesh_model.specs.Complex.{Complex}
use Rattle.mesh_model.specs.declared.refusal.Refusal.{Refusal}
use Rattle.mesh_model.specs.declared.refusal.Why.{Why}
use Rattle.mesh_model.specs.declared.refusal.Why.TheVariants.{NothingToUndo, NothingToRedo}
use Rattle.mesh_model.specs.declared.refusal.Place.TheVariants.{Nowhere}
use Rattle.op_slots.specs.declared.bindings.Binding.{Binding}
use Rattle.op_slots.specs.declared.slots.Slots.{Slots}
use Rattle.op_slots.specs.declared.command.Command.{Command}
use Rattle.op_slots.specs.declared.command.What.{What}
use Rattle.op_slots.specs.declared.command.What.TheVariants.{Run, Undo, Redo}
use Rattle.mesh_passes.specs.Row.{no_slots}
use Rattle.mesh_session.specs.Operators.{unable, op_row}
use Rattle.mesh_session.specs.State.{State, is_new, next_state}
use Rattle.mesh_session.specs.declared.entry.Entry.{Entry}
use Rattle.mesh_session.specs.declared.reply.Reply.{Reply}
use Rattle.mesh_session.specs.declared.reply.Reply.TheVariants.{Done, Refused}

-- ---- RUN

-- what a done command binds: its slots to its name, if it has one
abbrev pub binding_of : Option (List ℕ) → Slots → Option Binding
binding_of name slots = option_map (λ (n : List ℕ). record { name = n; slots = slots }) name

-- the reply by an operator's row, and the state then: refused, it is the same; done, it goes on to the operator's
-- complex, with what is bound to the slots
abbrev pub with_result : State → (Slots → Option Binding) → Result (Slots × Complex) Refusal → Reply × State
with_result s bind (Err r) = (Refused r, s)
with_result s bind (Ok done) = (Done done.0, next_state s (bind done.0) done.1)

-- ---- UNDO AND REDO

-- there is nothing to go to, which this refusal says
abbrev pub nothing_to : Why → Reply
nothing_to why = Refused (record { why = why; place = Nowhere })

-- the newest of some entries, and those before it
abbrev pub first_of_reversed : List Entry → Option (Entry × List Entry)
first_of_reversed [] = None
first_of_reversed (e ∷ es) = Some (e, reverse es)

abbrev pub newest : List Entry → Option (Entry × List Entry)
newest es = first_of_reversed (reverse es)

-- some bindings without the last, if one goes
abbrev pub without_last : List Binding → Option Binding → List Binding
without_last bs b = take (length bs - length (option_to_list b)) bs

-- the complex is that of the newest entry to go back to, whose binding is taken away; redo goes to the one before
abbrev pub undone : State → Option (Entry × List Entry) → Reply × State
undone s None = (nothing_to NothingToUndo, s)
undone s (Some last) = (
  Done no_slots,
  record {
    now = last.0.complex;
    bindings = without_last s.bindings last.0.binding;
    undo = last.1;
    redo = s.redo ++ record { complex = s.now; binding = last.0.binding } ∷ [];
  },
)

-- the complex is that of the newest entry to go on to, whose binding is given back; undo goes to the one before
abbrev pub redone : State → Option (Entry × List Entry) → Reply × State
redone s None = (nothing_to NothingToRedo, s)
redone s (Some last) = (
  Done no_slots,
  record {
    now = last.0.complex;
    bindings = s.bindings ++ option_to_list last.0.binding;
    undo = s.undo ++ record { complex = s.now; binding = last.0.binding } ∷ [];
    redo = last.1;
  },
)

-- ---- COMMANDS

-- the reply to a command by what it does, and the state then
abbrev pub step_by : State → Option (List ℕ) → What → Reply × State
step_by s name (Run op) = with_result s (binding_of name) (op_row op s.bindings s.now)
step_by s name Undo = undone s (newest s.undo)
step_by s name Redo = redone s (newest s.redo)

-- the reply to a command, and the state then; no name is bound again
abbrev pub step : State → Command → Reply × State
step s c = if is_new s.bindings c.bind then step_by s c.bind c.what else (Refused unable, s)

-- the replies to some commands in order, and the last state
abbrev pub steps : State → List Command → List Reply × State
steps s [] = ([], s)
steps s (c ∷ cs) = let one = step s c in let rest = steps one.1 cs in (one.0 ∷ rest.0, rest.1)
