-- Each thing of a circle with the one before it.
use Rattle.std.proofs.Common.{◌≡◌, ℕ, suc, ◌-◌, List, [], ◌∷◌, ◌++◌, length, take, refl, ap, ◌∙◌, arith}
use Rattle.std.specs.List.{zip}
use Rattle.std.proofs.lemmas.List.{take_at, drop_at}
use Rattle.mesh_model.specs.Lookups.{turned, with_previous}

-- the last of some things
abbrev pub last_of : {X : Type 0} → X → List X → X
last_of x [] = x
last_of x (y ∷ ys) = last_of y ys

-- all but the last
abbrev pub front_of : {X : Type 0} → X → List X → List X
front_of x [] = []
front_of x (y ∷ ys) = x ∷ front_of y ys

pub front-last : {X : Type 0} (x : X) (xs : List X) → x ∷ xs ≡ front_of x xs ++ last_of x xs ∷ []
front-last x [] = refl
front-last {X = X} x (y ∷ ys) = ap (λ (zs : List X). x ∷ zs) (front-last y ys)

pub length-front : {X : Type 0} (x : X) (xs : List X) → length (front_of x xs) ≡ length xs
length-front x [] = refl
length-front x (y ∷ ys) = ap (λ (n : ℕ). suc n) (length-front y ys)

-- each thing with the one before it, the first with a given one
abbrev pub after_each : {X : Type 0} → X → List X → List (X × X)
after_each p [] = []
after_each p (x ∷ xs) = (x, p) ∷ after_each x xs

zip-front : {X : Type 0} (p x : X) (xs : List X) → zip (x ∷ xs) (p ∷ front_of x xs) ≡ after_each p (x ∷ xs)
zip-front p x [] = refl
zip-front {X = X} p x (y ∷ ys) = ap (λ (zs : List (X × X)). (x, p) ∷ zs) (zip-front x y ys)

turned-front : {X : Type 0} (x : X) (xs : List X) → turned (length xs) (x ∷ xs) ≡ last_of x xs ∷ front_of x xs
turned-front {X = X} x xs =
    ap (turned (length xs)) (front-last x xs)
    ∙ ap (λ (zs : List X). zs ++ take (length xs) (front_of x xs ++ last_of x xs ∷ []))
    (drop_at (front_of x xs) (last_of x xs ∷ []) (length xs) (length-front x xs))
    ∙ ap (λ (zs : List X). last_of x xs ∷ zs)
    (take_at (front_of x xs) (last_of x xs ∷ []) (length xs) (length-front x xs))

-- in a circle the last is before the first
pub with_previous-cons : {X : Type 0} (x : X) (xs : List X)
    → with_previous (x ∷ xs) ≡ after_each (last_of x xs) (x ∷ xs)
with_previous-cons {X = X} x xs =
    let count : length (x ∷ xs) - 1 ≡ length xs = omega arith in
    ap (λ (n : ℕ). zip (x ∷ xs) (turned n (x ∷ xs))) count ∙ ap (zip (x ∷ xs)) (turned-front x xs)
    ∙ zip-front (last_of x xs) x xs
