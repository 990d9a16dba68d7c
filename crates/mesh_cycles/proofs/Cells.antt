-- What is told of a cell, before and after a write that leaves it.
use Rattle.std.proofs.Common.{◌≡◌, ◌≢◌, ℕ, zero, suc, List, [], ◌∷◌, Option, Some, None, map, length, refl, sym, ap, ◌∙◌}
use Rattle.std.specs.Option.{option_map}
use Rattle.std.proofs.Math.ListN.{get_or-map}
use Rattle.std.proofs.Math.Seq.{map-set_same}
use Rattle.std.proofs.lemmas.List.{length-map}
use Rattle.std.proofs.lemmas.Bool.{false≢true}
use Rattle.raw_pool.specs.Slots.{IsLive}
use Rattle.mesh_store.specs.Slots.{at, changed}
use Rattle.mesh_store.proofs.Places.{unwritten}

-- what g tells of a cell is what it tells of the cell that f gives
pub kept : {X Z : Type 0} (f : X → X) (g : Option X → Z) → ((x : X) → g (Some x) ≡ g (Some (f x))) → (o : Option X)
    → g o ≡ g (option_map f o)
kept f g same None = refl
kept f g same (Some x) = same x

-- so it is the same in two lists that f makes one
pub told : {X Z : Type 0} (f : X → X) (g : Option X → Z) → ((x : X) → g (Some x) ≡ g (Some (f x)))
    → (xs ys : List (Option X))
    → map (option_map f) ys ≡ map (option_map f) xs → (s : ℕ) → g (at ys s) ≡ g (at xs s)
told {X} f g same xs ys e s =
    kept f g same (at ys s)
    ∙ ap g (sym (get_or-map (option_map f) ys s None) ∙ ap (λ (zs : List (Option X)). at zs s) e
    ∙ get_or-map (option_map f) xs s None)
    ∙ sym (kept f g same (at xs s))

-- such lists are equally long
pub as_long : {X Y : Type 0} (f : X → Y) (xs ys : List (Option X)) → map (option_map f) ys ≡ map (option_map f) xs
    → length ys ≡ length xs
as_long {X} {Y} f xs ys e =
    sym (length-map ys (option_map f)) ∙ ap (λ (zs : List (Option Y)). length zs) e ∙ length-map xs (option_map f)

-- of two changes of a cell, of which the second covers the first
pub covered : {X Y : Type 0} (f : X → X) (g : X → Y) → ((x : X) → g (f x) ≡ g x) → (o : Option X)
    → option_map g (option_map f o) ≡ option_map g o
covered f g same None = refl
covered {Y = Y} f g same (Some x) = ap (λ (y : Y). Some y) (same x)

-- a change that g covers leaves what g tells
pub changed_beside : {X Y : Type 0} (f : X → X) (g : X → Y) → ((x : X) → g (f x) ≡ g x) → (xs : List (Option X)) (s : ℕ)
    → map (option_map g) (changed f xs s) ≡ map (option_map g) xs
changed_beside f g same xs s = map-set_same (option_map g) xs s (option_map f (at xs s)) None
    (covered f g same (at xs s))

-- two changes to one place are one
pub changed_twice : {X : Type 0} (f g : X → X) (xs : List (Option X)) (s : ℕ)
    → changed g (changed f xs s) s ≡ changed (λ x. g (f x)) xs s
changed_twice f g [] s = refl
changed_twice {X} f g (None ∷ xs) zero = refl
changed_twice {X} f g (Some x ∷ xs) zero = refl
changed_twice {X} f g (x ∷ xs) (suc s) = ap (λ (ys : List (Option X)). x ∷ ys) (changed_twice f g xs s)

-- of two changes to one place the second counts, where it covers the first
pub changed_over : {X : Type 0} (f g : X → X) → ((x : X) → g (f x) ≡ g x) → (xs : List (Option X)) (s : ℕ)
    → changed g (changed f xs s) s ≡ changed g xs s
changed_over f g same [] s = refl
changed_over {X} f g same (x ∷ xs) zero = ap (λ (o : Option X). o ∷ xs) (covered f g same x)
changed_over {X} f g same (x ∷ xs) (suc s) = ap (λ (ys : List (Option X)). x ∷ ys) (changed_over f g same xs s)

-- a live place has a cell
pub live_cell : {X : Type 0} (xs : List (Option X)) (s : ℕ) → IsLive xs s → (x : X) × (at xs s ≡ Some x)
live_cell {X} xs s h = some_of (at xs s) h
  where
    some_of : (o : Option X) → IsLive (o ∷ []) 0 → (x : X) × (o ≡ Some x)
    some_of None l = absurd (false≢true l)
    some_of (Some x) l = (x, refl)

-- the change is read where it was made
pub changed_here : {X : Type 0} (f : X → X) (xs : List (Option X)) (s : ℕ)
    → at (changed f xs s) s ≡ option_map f (at xs s)
changed_here f [] s = refl
changed_here f (x ∷ xs) zero = refl
changed_here f (x ∷ xs) (suc s) = changed_here f xs s

-- and nowhere else
pub changed_elsewhere : {X : Type 0} (f : X → X) (xs : List (Option X)) (s t : ℕ) → t ≢ s
    → at (changed f xs s) t ≡ at xs t
changed_elsewhere f xs s t n = unwritten xs s t (option_map f (at xs s)) n

-- what g gives of a value, f leads back to the value
pub led_back : {X Y : Type 0} (f : Y → X) (g : X → Y) → ((x : X) → f (g x) ≡ x) → (o : Option X)
    → option_map f (option_map g o) ≡ o
led_back f g same None = refl
led_back {X} f g same (Some x) = ap (λ (y : X). Some y) (same x)
