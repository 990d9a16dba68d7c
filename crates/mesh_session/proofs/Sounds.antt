-- A session stays sound.
use Rattle.std.proofs.Common.{◌≡◌, ◌∙◌, ℕ, true, false, not, List, [], ◌∷◌, ◌++◌, Option, Some, None, nat_eq, refl, subst}
use Rattle.std.proofs.Common.{sym, ap, Result, Ok, Err}
use Rattle.std.specs.Prelude.{reverse, option_to_list}
use Rattle.std.specs.List.{All, cons_option}
use Rattle.std.proofs.lemmas.Bool.{and_parts, or_parts, or_from, not-true, not_from_false, false_from_ne_true, true≢false}
use Rattle.std.proofs.Common.{rules}
use Rattle.std.proofs.lemmas.List.{append-nil, reverse-append, reverse-reverse}
use Rattle.std.proofs.lemmas.List.Elements.{All-nil, All-push, All-pop, filter_map-append}
use Rattle.std.proofs.lemmas.List.Folds.{list_any-append}
use lib.Pointwise.{pointwise}
use Rattle.mesh_model.proofs.ChangeSets.{tells_list, tells_number}
use Rattle.mesh_model.proofs.Leads.{Tells}
use Rattle.mesh_model.specs.Complex.{Complex, no_complex}
use Rattle.mesh_model.specs.Valid.{IsSound}
use Rattle.mesh_model.specs.declared.refusal.Refusal.{Refusal}
use Rattle.op_slots.specs.Bindings.{has_name, is_bound, are_named_once}
use Rattle.op_slots.specs.declared.bindings.Binding.{Binding}
use Rattle.op_slots.specs.declared.slots.Slots.{Slots}
use Rattle.op_slots.proofs.Naming.{once_front, once_more}
use Rattle.mesh_session.specs.State.{State, bindings_of, is_new, name_of, AreNew, IsSoundState, next_state, first_state}
use Rattle.mesh_session.specs.State.{state_with}
use Rattle.mesh_session.specs.Steps.{binding_of, first_of_reversed, newest, undone, redone, with_result, without_last}
use Rattle.mesh_session.specs.declared.entry.Entry.{Entry}
use Rattle.mesh_session.specs.declared.reply.Reply.{Reply}
use Rattle.mesh_session.proofs.Newest.{without_last_bound}

-- ---- BINDINGS OF ENTRIES

one : (b : Option Binding) → cons_option b [] ≡ option_to_list b
one None = refl
one (Some b) = refl

-- one entry more
bindings_of-push : (es : List Entry) (e : Entry)
    → bindings_of (es ++ e ∷ []) ≡ bindings_of es ++ option_to_list e.binding
bindings_of-push es e =
    filter_map-append (λ (x : Entry). x.binding) es (e ∷ [])
    ∙ ap (λ (bs : List Binding). bindings_of es ++ bs) (one e.binding)

-- ---- NAMES

-- bindings with a new one are named once
once_next : (bs : List Binding) (b : Option Binding) → are_named_once bs ≡ true → is_new bs (name_of b) ≡ true
    → are_named_once (bs ++ option_to_list b) ≡ true
once_next bs None once new = ap are_named_once (append-nil bs) ∙ once
once_next bs (Some b) once new = once_more bs b once (not-true (is_bound bs b.name) new)

-- a name differs from another both ways
other_way : (b c : Binding) → has_name c.name b ≡ false → has_name b.name c ≡ false
other_way b c h = false_from_ne_true (has_name b.name c) (λ same. true≢false (
    sym (tells_names.itself b.name) ∙ ap (λ (n : List ℕ). pointwise nat_eq b.name n)
    (sym (tells_names.sound c.name b.name same)) ∙ h))
  where
    tells_names : Tells (pointwise nat_eq)
    tells_names = tells_list nat_eq tells_number

-- the name of the last binding is none of those before
apart : (bs : List Binding) (b : Binding) → are_named_once (bs ++ b ∷ []) ≡ true → is_bound bs b.name ≡ false
apart [] b once = refl
apart (x ∷ bs) b once =
    let both = and_parts (not (is_bound (bs ++ b ∷ []) x.name)) (are_named_once (bs ++ b ∷ [])) once in
    let out = or_parts (is_bound bs x.name) (is_bound (b ∷ []) x.name)
    (sym (list_any-append (has_name x.name) bs (b ∷ [])) ∙ not-true (is_bound (bs ++ b ∷ []) x.name) both.0) in
    or_from (has_name b.name x) (is_bound bs b.name)
    (other_way b x (or_parts (has_name x.name b) false out.1).0) (apart bs b both.1)

-- a last binding is new among those before
last_is_new : (bs : List Binding) (b : Option Binding) → are_named_once (bs ++ option_to_list b) ≡ true
    → is_new bs (name_of b) ≡ true
last_is_new bs None once = refl
last_is_new bs (Some b) once = not_from_false (is_bound bs b.name) (apart bs b once)

-- ---- STATES

-- a sound state goes on to a sound complex
IsSoundState-next_state : (s : State) (b : Option Binding) (next : Complex) → is_new s.bindings (name_of b) ≡ true
    → IsSoundState s → IsSound next → IsSoundState (next_state s b next)
IsSoundState-next_state s b next new h sound = record {
  now = sound;
  undo = All-push (λ (e : Entry). IsSound e.complex) s.undo (record { complex = s.now; binding = b }) h.undo h.now;
  redo = All-nil (λ (e : Entry). IsSound e.complex);
  bindings = ap (λ (bs : List Binding). bs ++ option_to_list b) h.bindings
      ∙ sym (bindings_of-push s.undo (record { complex = s.now; binding = b }));
  once = once_next s.bindings b h.once new;
  names = tt;
}

-- the entries without the last are sound, and so is the last
parts : (all es : List Entry) (e : Entry) → all ≡ es ++ e ∷ [] → All (λ (x : Entry). IsSound x.complex) all
    → All (λ (x : Entry). IsSound x.complex) es × IsSound e.complex
parts all es e is h = All-pop (λ (x : Entry). IsSound x.complex) all es (Some e) is h

-- the state after undo, and that after redo, where there is an entry
abbrev after_undo : State → List Entry → Entry → State
after_undo s es e = (undone s (Some (e, es))).1

abbrev after_redo : State → List Entry → Entry → State
after_redo s es e = (redone s (Some (e, es))).1

IsSoundState-undone : (s : State) (es : List Entry) (e : Entry) → s.undo ≡ es ++ e ∷ [] → IsSoundState s
    → IsSoundState (after_undo s es e)
IsSoundState-undone s es e is h =
    let bound : s.bindings ≡ bindings_of es ++ option_to_list e.binding =
    h.bindings ∙ ap bindings_of is ∙ bindings_of-push es e in
    let left : without_last s.bindings e.binding ≡ bindings_of es =
    without_last_bound s.bindings (bindings_of es) e.binding bound in
    let once : are_named_once (bindings_of es ++ option_to_list e.binding) ≡ true =
    ap are_named_once (sym bound) ∙ h.once in
    record {
      now = (parts s.undo es e is h.undo).1;
      undo = (parts s.undo es e is h.undo).0;
      redo = All-push (λ (x : Entry). IsSound x.complex) s.redo (record { complex = s.now; binding = e.binding })
          h.redo h.now;
      bindings = left;
      once = ap are_named_once left ∙ once_front (bindings_of es) (option_to_list e.binding) once;
      names = rw (left, reverse-append s.redo (record { complex = s.now; binding = e.binding } ∷ [])) (
        last_is_new (bindings_of es) e.binding once,
        subst (λ (bs : List Binding). AreNew bs (reverse s.redo)) bound h.names,
      );
    }

IsSoundState-redone : (s : State) (es : List Entry) (e : Entry) → s.redo ≡ es ++ e ∷ [] → IsSoundState s
    → IsSoundState (after_redo s es e)
IsSoundState-redone s es e is h =
    let names : AreNew s.bindings (e ∷ reverse es) =
    subst (AreNew s.bindings) (ap reverse is ∙ reverse-append es (e ∷ [])) h.names in
    record {
      now = (parts s.redo es e is h.redo).1;
      undo = All-push (λ (x : Entry). IsSound x.complex) s.undo (record { complex = s.now; binding = e.binding })
          h.undo h.now;
      redo = (parts s.redo es e is h.redo).0;
      bindings = ap (λ (bs : List Binding). bs ++ option_to_list e.binding) h.bindings
          ∙ sym (bindings_of-push s.undo (record { complex = s.now; binding = e.binding }));
      once = once_next s.bindings e.binding h.once names.0;
      names = names.1;
    }

-- ---- STEPS

-- the list of which this is the reverse
unreversed : (all r : List Entry) (e : Entry) → reverse all ≡ e ∷ r → all ≡ reverse r ++ e ∷ []
unreversed all r e is = sym (reverse-reverse all) ∙ ap reverse is ∙ reverse-append (e ∷ []) r

-- a session stays sound where an operator runs
pub sound_run : (s new : State) (bind : Slots → Option Binding) (row : Result (Slots × Complex) Refusal)
    (reply : Reply) → (reply, new) ≡ with_result s bind row → ((slots : Slots) → is_new s.bindings (name_of (bind slots)) ≡ true)
    → IsSoundState s → IsSound new.now → IsSoundState new
sound_run s new bind (Err r) reply told named h sound =
    subst IsSoundState (sym (ap (λ (p : Reply × State). p.1) told)) h
sound_run s new bind (Ok done) reply told named h sound =
    let same : new ≡ next_state s (bind done.0) done.1 = ap (λ (p : Reply × State). p.1) told in
    subst IsSoundState (sym same) (IsSoundState-next_state s (bind done.0) done.1 (named done.0) h
    (subst IsSound (ap (λ (x : State). x.now) same) sound))

-- it stays sound where undo is asked for
pub sound_undone : (s new : State) (reply : Reply) → (reply, new) ≡ undone s (newest s.undo) → IsSoundState s
    → IsSoundState new
sound_undone s new reply told h = by_reverse (reverse s.undo) refl told
  where
    by_reverse : (r : List Entry) → reverse s.undo ≡ r → (reply, new) ≡ undone s (first_of_reversed r) → IsSoundState new
    by_reverse [] is told = subst IsSoundState (sym (ap (λ (p : Reply × State). p.1) told)) h
    by_reverse (e ∷ r) is told = subst IsSoundState (sym (ap (λ (p : Reply × State). p.1) told))
        (IsSoundState-undone s (reverse r) e (unreversed s.undo r e is) h)

-- and where redo is
pub sound_redone : (s new : State) (reply : Reply) → (reply, new) ≡ redone s (newest s.redo) → IsSoundState s
    → IsSoundState new
sound_redone s new reply told h = by_reverse (reverse s.redo) refl told
  where
    by_reverse : (r : List Entry) → reverse s.redo ≡ r → (reply, new) ≡ redone s (first_of_reversed r) → IsSoundState new
    by_reverse [] is told = subst IsSoundState (sym (ap (λ (p : Reply × State). p.1) told)) h
    by_reverse (e ∷ r) is told = subst IsSoundState (sym (ap (λ (p : Reply × State). p.1) told))
        (IsSoundState-redone s (reverse r) e (unreversed s.redo r e is) h)

-- the entry that redo goes to has a new name
pub next_is_new : (s : State) (es : List Entry) (e : Entry) → s.redo ≡ es ++ e ∷ [] → IsSoundState s
    → is_new s.bindings (name_of e.binding) ≡ true
next_is_new s es e is h =
    let names : AreNew s.bindings (e ∷ reverse es) =
    subst (AreNew s.bindings) (ap reverse is ∙ reverse-append es (e ∷ [])) h.names in
    names.0

-- a loaded session is sound
pub sound_first : (c : Complex) → IsSound c → IsSoundState (first_state c)
sound_first c sound = record {
  now = sound;
  undo = All-nil (λ (e : Entry). IsSound e.complex);
  redo = All-nil (λ (e : Entry). IsSound e.complex);
  bindings = refl;
  once = refl;
  names = tt;
}

-- what is bound has the command's name
pub named_new : (bs : List Binding) (name : Option (List ℕ)) (slots : Slots) → is_new bs name ≡ true
    → is_new bs (name_of (binding_of name slots)) ≡ true
named_new bs None slots new = refl
named_new bs (Some n) slots new = new

-- no element is a sound complex
sound_none : IsSound no_complex
sound_none = search rules

-- and a fresh session is sound
pub sound_fresh : (c : Complex) (bs : List Binding) (undo redo : List Entry) → c ≡ no_complex → bs ≡ [] → undo ≡ []
    → redo ≡ [] → IsSoundState (state_with c bs undo redo)
sound_fresh c bs undo redo none unbound first last = rw (none, unbound, first, last) (sound_first no_complex sound_none)
