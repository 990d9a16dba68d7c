-- Commands keep the layers that every model has from its beginning.
use Rattle.std.proofs.Common.{◌≡◌, ◌∙◌, ℕ, Bool, true, false, List, [], ◌∷◌, ◌++◌, Result, Ok, Err, refl, sym, ap, subst}
use Rattle.std.proofs.Common.{take}
use Rattle.std.specs.Prelude.{reverse, if◌then◌else◌}
use Rattle.std.specs.List.{All}
use Rattle.std.specs.declared.option.Option.{Option}
use Rattle.std.specs.declared.option.Option.TheVariants.{Some}
use Rattle.std.proofs.lemmas.List.{reverse-append, reverse-reverse}
use Rattle.std.proofs.lemmas.List.Elements.{All-nil, All-push, All-pop}
use Rattle.cust_data.specs.Layers.{Layer}
use Rattle.mesh_model.specs.Complex.{Complex, fixed_layers}
use Rattle.mesh_model.specs.Declaring.{layer_of, with_declared, with_all_declared}
use Rattle.mesh_model.specs.declared.layer_decl.LayerDecl.{LayerDecl}
use Rattle.mesh_model.specs.declared.names.Kind.{Kind}
use Rattle.mesh_model.specs.declared.names.Kind.TheVariants.{Verts, Edges, Corners, Faces}
use Rattle.mesh_model.specs.declared.refusal.Refusal.{Refusal}
use Rattle.op_slots.specs.declared.bindings.Binding.{Binding}
use Rattle.op_slots.specs.declared.command.Command.{Command}
use Rattle.op_slots.specs.declared.command.What.{What}
use Rattle.op_slots.specs.declared.command.What.TheVariants.{Run, Undo, Redo}
use Rattle.op_slots.specs.declared.slots.Slots.{Slots}
use Rattle.mesh_session.specs.Operators.{op_row, unable}
use Rattle.mesh_session.specs.State.{State, first_state, is_new}
use Rattle.mesh_session.specs.Steps.{binding_of, with_result, first_of_reversed, undone, redone, step_by, step, steps}
use Rattle.mesh_session.specs.declared.entry.Entry.{Entry}
use Rattle.mesh_session.specs.declared.reply.Reply.{Reply}
use Rattle.mesh_session.specs.declared.reply.Reply.TheVariants.{Refused}
use Rattle.mesh_session.proofs.KeptLayers.{KeepsLayers, op_keeps}
use Rattle.obj_format.specs.Fixed.{BeginsFixed}

-- ---- DECLARED LAYERS

-- a layer behind others leaves the first ones
first_one : (xs : List Layer) (l m : Layer) → take 1 xs ≡ l ∷ [] → take 1 (xs ++ m ∷ []) ≡ l ∷ []
first_one [] l m h = absurd (cc)
first_one (x ∷ xs) l m h = h

first_two : (xs : List Layer) (k l m : Layer) → take 2 xs ≡ k ∷ l ∷ [] → take 2 (xs ++ m ∷ []) ≡ k ∷ l ∷ []
first_two [] k l m h = absurd (cc)
first_two (x ∷ []) k l m h = absurd (cc)
first_two (x ∷ y ∷ xs) k l m h = h

fixed_declared : (c : Complex) (d : LayerDecl) → BeginsFixed c → BeginsFixed (with_declared c d)
fixed_declared c d h = by_kind d.kind
  where
    by_kind : (kind : Kind) → BeginsFixed (with_declared c (record d { kind = kind }))
    by_kind Verts = record { corners = h.corners; faces = h.faces }
    by_kind Edges = record { corners = h.corners; faces = h.faces }
    by_kind Corners =
        record { corners = first_one c.layers.corners _ (layer_of d) h.corners; faces = h.faces }
    by_kind Faces =
        record { corners = h.corners; faces = first_two c.layers.faces _ _ (layer_of d) h.faces }

fixed_behind : (c : Complex) (ds : List LayerDecl) → BeginsFixed c → BeginsFixed (with_all_declared c ds)
fixed_behind c [] h = h
fixed_behind c (d ∷ ds) h = fixed_behind (with_declared c d) ds (fixed_declared c d h)

-- layers that are declared stand behind the fixed ones
pub fixed_all : (c : Complex) (ds : List LayerDecl) → c.layers ≡ fixed_layers → BeginsFixed (with_all_declared c ds)
fixed_all c ds same = fixed_behind c ds (record { corners = rw same refl; faces = rw same refl })

-- ---- COMMANDS

-- the complex of an entry begins with the layers
abbrev EntryFixed : Entry → Type 0
EntryFixed e = BeginsFixed e.complex

-- all complexes of a session begin with the layers
record AllFixed (s : State) : Type 0 where
  complex : BeginsFixed s.now
  back : All EntryFixed s.undo
  on : All EntryFixed s.redo

-- the same layers begin the same
same_layers : (c new : Complex) → new.layers ≡ c.layers → BeginsFixed c → BeginsFixed new
same_layers c new kept h = record { corners = rw kept h.corners; faces = rw kept h.faces }

fixed_run : (s : State) (bind : Slots → Option Binding) (r : Result (Slots × Complex) Refusal) → KeepsLayers s.now r
    → AllFixed s → AllFixed (with_result s bind r).1
fixed_run s bind (Err e) kept h = h
fixed_run s bind (Ok done) kept h = record {
  complex = same_layers s.now done.1 kept h.complex;
  back = All-push EntryFixed s.undo (record { complex = s.now; binding = bind done.0 }) h.back h.complex;
  on = All-nil EntryFixed;
}

-- the entries of which these are the reverse
parts : (all r : List Entry) (e : Entry) → reverse all ≡ e ∷ r → All EntryFixed all
    → All EntryFixed (reverse r) × EntryFixed e
parts all r e is h = All-pop EntryFixed all (reverse r) (Some e)
    (sym (reverse-reverse all) ∙ ap reverse is ∙ reverse-append (e ∷ []) r) h

fixed_undo : (s : State) → AllFixed s → (r : List Entry) → reverse s.undo ≡ r
    → AllFixed (undone s (first_of_reversed r)).1
fixed_undo s h [] is = h
fixed_undo s h (e ∷ r) is = record {
  complex = (parts s.undo r e is h.back).1;
  back = (parts s.undo r e is h.back).0;
  on = All-push EntryFixed s.redo (record { complex = s.now; binding = e.binding }) h.on h.complex;
}

fixed_redo : (s : State) → AllFixed s → (r : List Entry) → reverse s.redo ≡ r
    → AllFixed (redone s (first_of_reversed r)).1
fixed_redo s h [] is = h
fixed_redo s h (e ∷ r) is = record {
  complex = (parts s.redo r e is h.on).1;
  back = All-push EntryFixed s.undo (record { complex = s.now; binding = e.binding }) h.back h.complex;
  on = (parts s.redo r e is h.on).0;
}

fixed_what : (s : State) (name : Option (List ℕ)) (w : What) → AllFixed s → AllFixed (step_by s name w).1
fixed_what s name (Run op) h = fixed_run s (binding_of name) (op_row op s.bindings s.now) (op_keeps op s.bindings s.now) h
fixed_what s name Undo h = fixed_undo s h (reverse s.undo) refl
fixed_what s name Redo h = fixed_redo s h (reverse s.redo) refl

fixed_step : (s : State) (c : Command) → AllFixed s → AllFixed (step s c).1
fixed_step s c h = by_name (is_new s.bindings c.bind)
  where
    by_name : (b : Bool) → AllFixed (if b then step_by s c.bind c.what else (Refused unable, s)).1
    by_name true = fixed_what s c.bind c.what h
    by_name false = h

fixed_steps : (s : State) (cs : List Command) → AllFixed s → AllFixed (steps s cs).1
fixed_steps s [] h = h
fixed_steps s (c ∷ cs) h = fixed_steps (step s c).1 cs (fixed_step s c h)

-- a loaded complex is the only one
fixed_first : (c : Complex) (start : State) → start ≡ first_state c → BeginsFixed c → AllFixed start
fixed_first c start is_loaded h = rw is_loaded
    (record { complex = h; back = All-nil EntryFixed; on = All-nil EntryFixed })

-- some commands were given on a complex
pub fixed_after : (c : Complex) (start : State) (commands : List Command) (replies : List Reply) (final : State)
    → start ≡ first_state c → (replies, final) ≡ steps start commands → BeginsFixed c → BeginsFixed final.now
fixed_after c start commands replies final is_loaded told h =
    let same : (steps start commands).1 ≡ final = sym (ap (λ (p : List Reply × State). p.1) told) in
    subst (λ (s : State). BeginsFixed s.now) same
    (fixed_steps start commands (fixed_first c start is_loaded h)).complex
