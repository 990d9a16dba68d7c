-- Commands on the square, worked out.
use Rattle.std.specs.Prelude.{◌≡◌, ℕ, List, [], ◌∷◌, map, codes}
use Rattle.std.specs.declared.option.Option.TheVariants.{None, Some}
use Rattle.mesh_model.specs.Complex.{Complex}
use Rattle.mesh_model.specs.Deleting.{without_verts}
use Rattle.mesh_model.specs.Models.{square, vert}
use Rattle.mesh_model.specs.declared.names.Elem.{Elem}
use Rattle.mesh_model.specs.declared.names.Elem.TheVariants.{Vert, Edge}
use Rattle.mesh_model.specs.declared.refusal.Why.{Why}
use Rattle.mesh_model.specs.declared.refusal.Why.TheVariants.{NoSuch, NoSlot, WrongKind, Empty, NothingToUndo}
use Rattle.mesh_model.specs.declared.refusal.Why.TheVariants.{NothingToRedo}
use Rattle.mesh_model.specs.declared.refusal.Place.TheVariants as place
use Rattle.mesh_model.specs.declared.names.Kind.TheVariants as kind
use Rattle.op_slots.specs.declared.bindings.Binding.{Binding}
use Rattle.op_slots.specs.declared.term.Term.{Term}
use Rattle.op_slots.specs.declared.term.Term.TheVariants.{One, Range, Slot}
use Rattle.op_slots.specs.declared.op.Op.TheVariants.{Delete, Poke}
use Rattle.op_slots.specs.declared.op.Context.TheVariants.{Verts}
use Rattle.op_slots.specs.declared.command.What.TheVariants.{Run, Undo, Redo}
use Rattle.op_slots.specs.declared.command.Command.{Command}
use Rattle.mesh_passes.specs.Row.{no_slots}
use Rattle.mesh_session.specs.Operators.{unable}
use Rattle.mesh_session.specs.State.{State, first_state, fresh_state}
use Rattle.mesh_session.specs.Steps.{step, steps}
use Rattle.mesh_session.specs.declared.reply.Reply.{Reply}
use Rattle.mesh_session.specs.declared.reply.Reply.TheVariants.{Done, Refused}

-- a command on a line that deletes elements with the context of vertices
abbrev pub deletes : ℕ → List Term → Command
deletes line terms = record { line = line; bind = None; what = Run (Delete terms Verts) }

-- a name's vertex as a term
abbrev pub vert_term : ℕ → Term
vert_term n = One (Vert (vert n))

-- the refusal of an element
abbrev pub refused_at : Why → Elem → Reply
refused_at why elem = Refused (record { why = why; place = place.Elem elem })

-- a state without bindings and without anything to redo, with complexes that undo goes back to
abbrev pub state_after : Complex → List Complex → State
state_after now undo = record {
  now = now;
  bindings = [];
  undo = map (λ (c : Complex). record { complex = c; binding = None }) undo;
  redo = [];
}

-- one vertex of the square is deleted, and undo goes back to the square
abbrev pub CutsACorner : Type 0
CutsACorner =
    step (first_state square) (deletes 1 (vert_term 0 ∷ []))
    ≡ (Done no_slots, state_after (without_verts square (vert 0 ∷ [])) (square ∷ []))

-- a command with a name binds what it gives back, and undo takes that away
abbrev pub BindsItsSlots : Type 0
BindsItsSlots =
    let binding : Binding = record { name = codes "gone"; slots = no_slots } in
    step (first_state square) (record (deletes 1 (vert_term 0 ∷ [])) { bind = Some (codes "gone") })
    ≡ (
      Done no_slots,
      record {
        now = without_verts square (vert 0 ∷ []);
        bindings = binding ∷ [];
        undo = record { complex = square; binding = Some binding } ∷ [];
        redo = [];
      },
    )

-- a name that is bound stands for its slots, here for nothing, and isn't bound again; another one isn't bound
abbrev pub NamesStandForSlots : Type 0
NamesStandForSlots =
    let cut = (step (first_state square) (record (deletes 1 (vert_term 0 ∷ [])) { bind = Some (codes "gone") })).1 in
    (step cut (deletes 2 (Slot (codes "gone") None ∷ [])) ≡ (Refused (record { why = Empty; place = place.Nowhere }), cut))
    × (step cut (deletes 2 (Slot (codes "other") None ∷ []))
    ≡ (Refused (record { why = NoSlot; place = place.Nowhere }), cut))
    × (step cut (record (deletes 2 (vert_term 1 ∷ [])) { bind = Some (codes "gone") }) ≡ (Refused unable, cut))

-- a range stands for the vertices that are there, each once
abbrev pub DeletesARange : Type 0
DeletesARange =
    step (first_state square) (deletes 1 (Range kind.Verts 2 9 ∷ vert_term 3 ∷ []))
    ≡ (Done no_slots, state_after (without_verts square (vert 2 ∷ vert 3 ∷ [])) (square ∷ []))

-- what can't be done so far is refused
abbrev pub RefusesTheRest : Type 0
RefusesTheRest =
    step (first_state square) (record { line = 1; bind = None; what = Run (Poke (vert_term 0 ∷ [])) })
    ≡ (Refused unable, first_state square)

-- undo and redo on a line
abbrev pub undoes : ℕ → Command
undoes line = record { line = line; bind = None; what = Undo }

abbrev pub redoes : ℕ → Command
redoes line = record { line = line; bind = None; what = Redo }

-- a refusal without an element
abbrev pub refused : Why → Reply
refused why = Refused (record { why = why; place = place.Nowhere })

-- there is nothing to go back to, and nothing to go on to
abbrev pub NothingToGoTo : Type 0
NothingToGoTo =
    steps (first_state square) (undoes 1 ∷ redoes 2 ∷ [])
    ≡ (refused NothingToUndo ∷ refused NothingToRedo ∷ [], first_state square)

-- undo gives the square back and takes the name away, redo gives both back, and a new command leaves nothing to redo
abbrev pub GoesBackAndOn : Type 0
GoesBackAndOn =
    let cut : Command = record (deletes 1 (vert_term 0 ∷ [])) { bind = Some (codes "gone") } in
    let binding : Binding = record { name = codes "gone"; slots = no_slots } in
    let corner : Complex = without_verts square (vert 0 ∷ []) in
    (steps (first_state square) (cut ∷ undoes 2 ∷ [])
    ≡ (
      Done no_slots ∷ Done no_slots ∷ [],
      record {
        now = square;
        bindings = [];
        undo = [];
        redo = record { complex = corner; binding = Some binding } ∷ [];
      },
    ))
    × ((steps (first_state square) (cut ∷ undoes 2 ∷ redoes 3 ∷ [])).1 ≡ (step (first_state square) cut).1)
    × (steps (first_state square) (cut ∷ undoes 2 ∷ deletes 3 (vert_term 1 ∷ []) ∷ redoes 4 ∷ [])
    ≡ (
      Done no_slots ∷ Done no_slots ∷ Done no_slots ∷ refused NothingToRedo ∷ [],
      state_after (without_verts square (vert 1 ∷ [])) (square ∷ []),
    ))

-- a vertex that isn't there is refused by its name, the first in the order written, and the state is the same
abbrev pub RefusesAMissingVertex : Type 0
RefusesAMissingVertex =
    step (first_state square) (deletes 1 (vert_term 2 ∷ vert_term 9 ∷ vert_term 8 ∷ []))
    ≡ (refused_at NoSuch (Vert (vert 9)), first_state square)

-- an edge among the vertices is refused, and so is no term at all
abbrev pub RefusesOtherTerms : Type 0
RefusesOtherTerms =
    (step (first_state square) (deletes 1 (One (Edge (record { 0 = 1 })) ∷ vert_term 9 ∷ []))
    ≡ (refused_at WrongKind (Edge (record { 0 = 1 })), first_state square))
    × (step (first_state square) (deletes 1 [])
    ≡ (Refused (record { why = Empty; place = place.Nowhere }), first_state square))

-- a vertex can't be deleted twice, a refused command adds nothing to undo, and a vertex may be named twice in one
-- command
abbrev pub DeletesOnce : Type 0
DeletesOnce =
    steps (first_state square)
    (deletes 1 (vert_term 0 ∷ []) ∷ deletes 2 (vert_term 0 ∷ []) ∷ deletes 4 (vert_term 2 ∷ vert_term 2 ∷ []) ∷ [])
    ≡ (
      Done no_slots ∷ refused_at NoSuch (Vert (vert 0)) ∷ Done no_slots ∷ [],
      state_after (without_verts square (vert 0 ∷ vert 2 ∷ [])) (square ∷ without_verts square (vert 0 ∷ []) ∷ []),
    )

-- without a command there is no reply, and the state is the same
abbrev pub NoCommand : Type 0
NoCommand = steps fresh_state [] ≡ ([], fresh_state)
