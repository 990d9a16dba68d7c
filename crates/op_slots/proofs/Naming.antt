-- Bindings: names that are bound once, and what a name is bound to.
use Rattle.std.proofs.Common.{◌≡◌, ℕ, Bool, true, false, cond, not, ltb, List, [], ◌∷◌, ◌++◌, length, refl}
use Rattle.std.proofs.Common.{sym, ap, ◌∙◌, Some, None, nat_eq}
use Rattle.std.specs.List.{position, position_or_len, find, slice_get}
use Rattle.std.specs.Option.{unwrap_or}
use Rattle.std.proofs.lemmas.Bool.{and_parts, and_from, or_from, or_parts, ltb-false, not-true, not_from_false}
use Rattle.std.proofs.lemmas.Bool.{false_from_ne_true, true≢false}
use Rattle.std.proofs.lemmas.Option.{slice_get_past}
use Rattle.std.proofs.lemmas.List.Folds.{find_at, list_any-append}
use lib.Pointwise.{pointwise}
use Rattle.mesh_model.proofs.ChangeSets.{tells_list, tells_number}
use Rattle.mesh_model.proofs.Leads.{Tells}
use Rattle.op_slots.specs.Bindings.{has_name, is_bound, are_named_once}
use Rattle.op_slots.specs.declared.bindings.Binding.{Binding}

-- ---- WHERE A NAME STANDS

placed : (b : Bool) (x k : ℕ) → cond b (Some x) None ≡ Some k → x ≡ k
placed true x k h = ap (λ o. unwrap_or o 0) h
placed false x k h = absurd (cc)

unplaced : (b : Bool) (x : ℕ) → cond b (Some x) None ≡ None → b ≡ false
unplaced true x h = absurd (cc)
unplaced false x h = refl

-- what is found stands at the position
pub found_at : {X : Type 0} (p : X → Bool) (xs : List X) (k : ℕ) → position p xs ≡ Some k → find p xs ≡ slice_get xs k
found_at p xs k h = find_at p xs ∙ ap (slice_get xs) (placed (ltb (position_or_len p xs) (length xs))
    (position_or_len p xs) k h)

-- nothing is found where there is no position
pub found_nowhere : {X : Type 0} (p : X → Bool) (xs : List X) → position p xs ≡ None → find p xs ≡ None
found_nowhere p xs h =
    find_at p xs ∙ slice_get_past xs (position_or_len p xs)
    (ltb-false (position_or_len p xs) (length xs) (unplaced (ltb (position_or_len p xs) (length xs))
    (position_or_len p xs) h))

-- ---- NAMED ONCE

-- the front of bindings that are named once
pub once_front : (bs cs : List Binding) → are_named_once (bs ++ cs) ≡ true → are_named_once bs ≡ true
once_front [] cs h = refl
once_front (b ∷ bs) cs h =
    let both = and_parts (not (is_bound (bs ++ cs) b.name)) (are_named_once (bs ++ cs)) h in
    let out = or_parts (is_bound bs b.name) (is_bound cs b.name)
    (sym (list_any-append (has_name b.name) bs cs) ∙ not-true (is_bound (bs ++ cs) b.name) both.0) in
    and_from (not (is_bound bs b.name)) (are_named_once bs) (not_from_false (is_bound bs b.name) out.0)
    (once_front bs cs both.1)

-- a name differs from another both ways
other_way : (b c : Binding) → has_name c.name b ≡ false → has_name b.name c ≡ false
other_way b c h = false_from_ne_true (has_name b.name c) (λ same. true≢false (
    sym (tells_names.itself b.name) ∙ ap (λ (n : List ℕ). pointwise nat_eq b.name n)
    (sym (tells_names.sound c.name b.name same)) ∙ h))
  where
    tells_names : Tells (pointwise nat_eq)
    tells_names = tells_list nat_eq tells_number

-- one binding more, of a name that isn't bound
pub once_more : (bs : List Binding) (c : Binding) → are_named_once bs ≡ true → is_bound bs c.name ≡ false
    → are_named_once (bs ++ c ∷ []) ≡ true
once_more [] c once out = refl
once_more (b ∷ bs) c once out =
    let both = and_parts (not (is_bound bs b.name)) (are_named_once bs) once in
    let apart = or_parts (has_name c.name b) (is_bound bs c.name) out in
    and_from (not (is_bound (bs ++ c ∷ []) b.name)) (are_named_once (bs ++ c ∷ []))
    (not_from_false (is_bound (bs ++ c ∷ []) b.name) (list_any-append (has_name b.name) bs (c ∷ [])
    ∙ or_from (is_bound bs b.name) (is_bound (c ∷ []) b.name) (not-true (is_bound bs b.name) both.0)
    (or_from (has_name b.name c) false (other_way b c apart.0) refl)))
    (once_more bs c both.1 apart.1)
