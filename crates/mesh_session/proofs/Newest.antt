-- The newest entry, and bindings without the last.
use Rattle.std.proofs.Common.{◌≡◌, ◌∙◌, ℕ, ◌-◌, List, [], ◌∷◌, ◌++◌, length, take, Option, Some, None, refl, sym, ap, subst, arith}
use Rattle.std.proofs.Common.{length-append}
use Rattle.std.proofs.lemmas.List.{reverse-append, reverse-reverse, take_at}
use Rattle.std.specs.Prelude.{reverse, option_to_list}
use Rattle.op_slots.specs.declared.bindings.Binding.{Binding}
use Rattle.mesh_session.specs.Steps.{first_of_reversed, newest, without_last}
use Rattle.mesh_session.specs.declared.entry.Entry.{Entry}

-- the newest stands last
pub newest_last : (all es : List Entry) (e : Entry) → all ≡ es ++ e ∷ [] → newest all ≡ Some (e, es)
newest_last all es e is =
    ap newest is
    ∙ ap first_of_reversed (reverse-append es (e ∷ []))
    ∙ ap (λ (rest : List Entry). Some (e, rest)) (reverse-reverse es)

-- what was bound last is taken away
pub without_last_bound : (all bs : List Binding) (b : Option Binding) → all ≡ bs ++ option_to_list b
    → without_last all b ≡ bs
without_last_bound all bs b is =
    let long : length all - length (option_to_list b) ≡ length bs =
    omega (arith, ap length is ∙ length-append bs (option_to_list b)) in
    ap (λ (n : ℕ). take n all) long ∙ ap (take (length bs)) is
    ∙ take_at bs (option_to_list b) (length bs) refl
