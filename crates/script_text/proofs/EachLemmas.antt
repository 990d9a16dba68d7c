-- Lemmas on the values of words.
use Rattle.std.proofs.Common.{◌≡◌, ℕ, ◌≤◌, List, length, map, sym, ◌∙◌, rules, Option}
use Rattle.std.proofs.lemmas.List.{length-map}
use Rattle.text_words.specs.Each.{each}
use Rattle.text_words.proofs.EachLemmas.{each_map}
use Rattle.script_text.specs.Terms.{at_most}

few : {Y : Type 0} (most : ℕ) (f : List ℕ → Option Y) (ws : List (List ℕ)) → length ws ≤ most
    → at_most most f ws ≡ each f ws
few most f ws short = search rules

-- where a view of the words isn't too long
pub at_most-few : {X Y : Type 0} (most : ℕ) (f : List ℕ → Option Y) (g : X → List ℕ) (xs : List X) → length xs ≤ most
    → each (λ x. f (g x)) xs ≡ at_most most f (map g xs)
at_most-few most f g xs short = sym (each_map f g xs) ∙ sym (few most f (map g xs) (rw length-map short))
