-- What parts of a step give.
use Rattle.std.specs.Prelude.{ℕ, ◌≡◌, List, [], ◌∷◌, ◌++◌, Result, Ok, Err}
use Rattle.std.specs.declared.option.Option.{Option}
use Rattle.std.specs.declared.option.Option.TheVariants.{None, Some}
use Rattle.mesh_model.specs.Complex.{Complex}
use Rattle.mesh_model.specs.Valid.{IsSound}
use Rattle.mesh_model.specs.declared.refusal.Refusal.{Refusal}
use Rattle.mesh_core.specs.Seen.{Seen, now}
use Rattle.op_slots.specs.declared.bindings.Binding.{Binding}
use Rattle.op_slots.specs.declared.slots.Slots.{Slots}
use Rattle.op_slots.specs.declared.fault.Fault.{Fault}
use Rattle.op_slots.specs.declared.fault.Fault.TheVariants as fault
use Rattle.mesh_session.specs.Steps.{binding_of}
use Rattle.mesh_session.specs.State.{State, state_with}
use Rattle.mesh_session.specs.declared.entry.Entry.{Entry}
use Rattle.mesh_session.specs.declared.history.History.{History}
use Rattle.mesh_session.specs.declared.performing.Performed.{Performed}

-- the state of a mesh and a history
abbrev pub state_of : Seen → History → State
state_of m h = state_with (now m) h.bindings.bound h.undo.items h.redo.items

-- ---- OPERATORS

-- an operator was done by its row: the complex is the row's, the way back leads to it, the complex before is handed out,
-- and what is bound to a name is there twice
pub record IsDone (row : Result (Slots × Complex) Refusal) (name : Option (List ℕ)) (old new : Seen)
    (done : Performed) : Type 0 where
  pub is : row ≡ Ok (done.slots, now new)
  pub sound : IsSound (now new)
  pub same : new.base ≡ now new
  pub complex : done.before ≡ now old
  pub kept : done.kept ≡ binding_of name done.slots
  pub bound : done.bound ≡ binding_of name done.slots

-- done; refused, as the row says, and the complex is the same; or there was no memory, and only the way back is the same
abbrev pub Attempts : Result (Slots × Complex) Refusal → Option (List ℕ) → Seen → Seen → Result Performed Fault → Type 0
Attempts row name old new (Ok done) = IsDone row name old new done
Attempts row name old new (Err (fault.Refused r)) = (row ≡ Err r) × (now new ≡ now old) × (new.base ≡ old.base)
Attempts row name old new (Err fault.NoMemory) = new.base ≡ old.base

-- done; or refused, as the row says, or there was no memory, and the complex is the same, to which the way back leads
abbrev pub Performs : Result (Slots × Complex) Refusal → Option (List ℕ) → Seen → Seen → Result Performed Fault → Type 0
Performs row name old new (Ok done) = IsDone row name old new done
Performs row name old new (Err (fault.Refused r)) = (row ≡ Err r) × (now new ≡ now old) × (new.base ≡ now new)
Performs row name old new (Err fault.NoMemory) = (now new ≡ now old) × (new.base ≡ now new)

-- ---- UNDO AND REDO

-- the last of some entries is taken off, and the complex is the entry's; one with the complex before stands last in the
-- other list
pub record WentTo (b : Option Binding) (old new : Complex) (from from_after onto onto_after : List Entry) : Type 0 where
  pub taken : from ≡ from_after ++ record { complex = new; binding = b } ∷ []
  pub put : onto_after ≡ onto ++ record { complex = old; binding = b } ∷ []

-- there was no entry, and nothing has changed
pub record StaysAt (old new : Complex) (from from_after onto onto_after : List Entry) : Type 0 where
  pub none : from ≡ []
  pub complex : new ≡ old
  pub front : from_after ≡ from
  pub back : onto_after ≡ onto

-- gone to an entry, with its binding, or stayed
abbrev pub Goes : Option (Option Binding) → Complex → Complex → List Entry → List Entry → List Entry → List Entry → Type 0
Goes None old new from from_after onto onto_after = StaysAt old new from from_after onto onto_after
Goes (Some b) old new from from_after onto onto_after = WentTo b old new from from_after onto onto_after
