-- Lemmas on values of each item.
use Rattle.std.proofs.Common.{◌≡◌, ◌&&◌, Bool, List, [], ◌∷◌, map, refl, ap, Option}
use Rattle.std.specs.List.{list_all}
use Rattle.text_words.specs.Each.{each, with_first}

-- a view of the items, or a list of what is viewed
pub each_map : {X Y Z : Type 0} (f : Y → Option Z) (g : X → Y) (xs : List X)
    → each f (map g xs) ≡ each (λ x. f (g x)) xs
each_map f g [] = refl
each_map f g (x ∷ xs) = ap (with_first (f (g x))) (each_map f g xs)

-- a test of a view of the items
pub list_all_map : {X Y : Type 0} (p : Y → Bool) (g : X → Y) (xs : List X)
    → list_all p (map g xs) ≡ list_all (λ x. p (g x)) xs
list_all_map p g [] = refl
list_all_map p g (x ∷ xs) = ap (λ b. p (g x) && b) (list_all_map p g xs)
