-- The first refusal of some things, one after another.
use Rattle.std.proofs.Common.{◌≡◌, ℕ, ◌+◌, ◌<◌, ◌≤◌, List, ◌∷◌, length, drop, get_or, map, sym, ap, ◌∙◌}
use Rattle.std.proofs.Common.{Option, Some, None}
use Rattle.std.proofs.lemmas.List.{drop_more, drop_all}
use Rattle.mesh_model.specs.Refusals.{first_of}
use Rattle.mesh_model.specs.declared.refusal.Refusal.{Refusal}

here : {X : Type 0} (f : X → Option Refusal) (xs : List X) (k : ℕ) (d : X) → k < length xs
    → first_of (map f (drop k xs)) ≡ first_of (f (get_or xs k d) ∷ map f (drop (k + 1) xs))
here f xs k d less = ap (λ ys. first_of (map f ys)) (drop_more xs k d less)

-- one that isn't refused is passed over
pub passed_over : {X : Type 0} (f : X → Option Refusal) (xs : List X) (k : ℕ) (d : X) (all : Option Refusal)
    → k < length xs
    → f (get_or xs k d) ≡ None → first_of (map f (drop k xs)) ≡ all → first_of (map f (drop (k + 1) xs)) ≡ all
passed_over f xs k d all less none before =
    sym (ap (λ o. first_of (o ∷ map f (drop (k + 1) xs))) none) ∙ sym (here f xs k d less) ∙ before

-- one that is refused is the first
pub stopped_at : {X : Type 0} (f : X → Option Refusal) (xs : List X) (k : ℕ) (d : X) (all : Option Refusal)
    (r : Refusal) → k < length xs
    → f (get_or xs k d) ≡ Some r → first_of (map f (drop k xs)) ≡ all → Some r ≡ all
stopped_at f xs k d all r less is before =
    sym (ap (λ o. first_of (o ∷ map f (drop (k + 1) xs))) is) ∙ sym (here f xs k d less) ∙ before

-- where none is left, none is refused
pub none_left : {X : Type 0} (f : X → Option Refusal) (xs : List X) (k : ℕ) (all : Option Refusal) → length xs ≤ k
    → first_of (map f (drop k xs)) ≡ all → None ≡ all
none_left f xs k all past before = sym (ap (λ ys. first_of (map f ys)) (drop_all k xs past)) ∙ before
