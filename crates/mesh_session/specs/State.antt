-- What a session is.
use Rattle.std.specs.Prelude.{◌≡◌, ℕ, Bool, true, not, List, [], ◌∷◌, ◌++◌, reverse, option_to_list}
use Rattle.std.specs.declared.option.Option.{Option}
use Rattle.std.specs.declared.option.Option.TheVariants.{None, Some}
use Rattle.std.specs.Option.{option_map}
use Rattle.std.specs.List.{All, filter_map}
use Rattle.mesh_model.specs.Complex.{Complex, no_complex}
use Rattle.mesh_model.specs.Valid.{IsSound}
use Rattle.mesh_core.specs.Seen.{Seen, now, CyclesHold}
use Rattle.op_slots.specs.Bindings.{is_bound, are_named_once}
use Rattle.op_slots.specs.declared.bindings.Binding.{Binding}
use Rattle.mesh_session.specs.declared.entry.Entry.{Entry}

-- the complex now, the bindings in the order made, and the entries that undo and redo go to, the next one last
pub record State : Type 0 where
  pub now : Complex
  pub bindings : List Binding
  pub undo : List Entry
  pub redo : List Entry

-- what a session shows: its state, and the mesh that stands for its complex
pub record View : Type 0 where
  pub state : State
  pub mesh : Seen

-- the mesh of a session stands for the complex now, to which its way back leads, and every disk, radial and loop cycle of
-- it visits exactly its members, each once
pub record CyclesHoldIn (s : View) : Type 0 where
  pub complex : now s.mesh ≡ s.state.now
  pub back : s.mesh.base ≡ s.state.now
  pub cycles : CyclesHold s.mesh

-- nothing is there, no name was given, nothing is bound, and there is nothing to go back or on to
abbrev pub fresh_state : State
fresh_state = record { now = no_complex; bindings = []; undo = []; redo = [] }

-- a complex was loaded, and no command was given
abbrev pub first_state : Complex → State
first_state c = record { now = c; bindings = []; undo = []; redo = [] }

-- the bindings that some entries have, in their order
abbrev pub bindings_of : List Entry → List Binding
bindings_of entries = filter_map (λ (e : Entry). e.binding) entries

-- the state of a complex, its bindings and two lists of entries
abbrev pub state_with : Complex → List Binding → List Entry → List Entry → State
state_with now bindings undo redo = record { now = now; bindings = bindings; undo = undo; redo = redo }

-- what a session of a mesh, bindings and two lists of entries shows
abbrev pub view_with : Seen → List Binding → List Entry → List Entry → View
view_with mesh bindings undo redo = record { state = state_with (now mesh) bindings undo redo; mesh = mesh }

-- a name isn't bound yet, or there is none
abbrev pub is_new : List Binding → Option (List ℕ) → Bool
is_new bs None = true
is_new bs (Some name) = not (is_bound bs name)

-- the name of a binding, if there is one
abbrev pub name_of : Option Binding → Option (List ℕ)
name_of b = option_map (λ (x : Binding). x.name) b

-- the names of some entries aren't bound before, when they are bound one after the other
abbrev pub AreNew : List Binding → List Entry → Type 0
AreNew bs [] = Unit {0}
AreNew bs (e ∷ es) = (is_new bs (name_of e.binding) ≡ true) × AreNew (bs ++ option_to_list e.binding) es

-- each complex of a session is valid and simple, what is bound now is what undo would take away, and no name is bound
-- twice, however often redo is done
pub record IsSoundState (s : State) : Type 0 where
  pub now : IsSound s.now
  pub undo : All (λ (e : Entry). IsSound e.complex) s.undo
  pub redo : All (λ (e : Entry). IsSound e.complex) s.redo
  pub bindings : s.bindings ≡ bindings_of s.undo
  pub once : are_named_once s.bindings ≡ true
  pub names : AreNew s.bindings (reverse s.redo)

-- the state is sound, and the way back leads to the complex now
pub record IsSoundSession (s : View) : Type 0 where
  pub state : IsSoundState s.state
  pub same : s.mesh.base ≡ now s.mesh

-- the next complex is the one now, undo goes back to the one before and takes the binding away, and nothing can be
-- redone
abbrev pub next_state : State → Option Binding → Complex → State
next_state s b next = record {
  now = next;
  bindings = s.bindings ++ option_to_list b;
  undo = s.undo ++ record { complex = s.now; binding = b } ∷ [];
  redo = [];
}
