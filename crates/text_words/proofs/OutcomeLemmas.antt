-- Lemmas on values or faults.
use Rattle.std.proofs.Common.{◌≡◌, ℕ, ◌+◌, ◌<◌, ◌≤◌, List, [], ◌∷◌, length, drop, get_or, map, refl, ap, sym, ◌∙◌, Result, Ok, Err}
use Rattle.std.proofs.lemmas.List.{drop_more, drop_all}
use Rattle.text_words.specs.declared.outcome.Stop.{Stop}
use Rattle.text_words.specs.declared.outcome.Stop.TheVariants.{Fault, NoMemory}
use Rattle.text_words.specs.Outcome.{◌>>=◌, StopsAs, Gives, steps}

-- a fault of the first step is one of both
pub stops_on : {X Y W : Type 0} (e : Stop W) (r : Result X W) (f : X → Result Y W) → StopsAs e r → StopsAs e (r >>= f)
stops_on NoMemory r f h = tt
stops_on {W = W} (Fault w) r f h = ap (λ (x : Result _ W). x >>= f) h

-- a fault of an equal outcome
pub stops_same : {X W : Type 0} (e : Stop W) (r s : Result X W) → s ≡ r → StopsAs e r → StopsAs e s
stops_same NoMemory r s same h = tt
stops_same (Fault w) r s same h = same ∙ h

-- the steps that are left begin with this one
steps_here : {X A W : Type 0} (f : X → A → Result A W) (a : A) (xs : List X) (k : ℕ) (d : X) → k < length xs
    → steps f a (drop k xs) ≡ (f (get_or xs k d) a >>= (λ b. steps f b (drop (k + 1) xs)))
steps_here f a xs k d here = ap (steps f a) (drop_more xs k d here)

-- a step that is done
pub steps_more : {X A W : Type 0} (f : X → A → Result A W) (a b : A) (xs : List X) (k : ℕ) (d : X) (all : Result A W)
    → k < length xs → f (get_or xs k d) a ≡ Ok b → steps f a (drop k xs) ≡ all → steps f b (drop (k + 1) xs) ≡ all
steps_more f a b xs k d all here done before =
    sym (ap (λ r. r >>= (λ c. steps f c (drop (k + 1) xs))) done) ∙ sym (steps_here f a xs k d here) ∙ before

-- no step is left
pub steps_all : {X A W : Type 0} (f : X → A → Result A W) (a : A) (xs : List X) (k : ℕ) → length xs ≤ k
    → steps f a (drop k xs) ≡ Ok a
steps_all f a xs k past = ap (steps f a) (drop_all k xs past)

-- a step that stops
pub steps_stop : {X A W : Type 0} (e : Stop W) (f : X → A → Result A W) (a : A) (xs : List X) (k : ℕ) (d : X)
    (all : Result A W)
    → k < length xs → StopsAs e (f (get_or xs k d) a) → steps f a (drop k xs) ≡ all → StopsAs e all
steps_stop e f a xs k d all here stop before =
    stops_same e (f (get_or xs k d) a >>= (λ b. steps f b (drop (k + 1) xs))) all
    (sym before ∙ steps_here f a xs k d here)
    (stops_on e (f (get_or xs k d) a) (λ b. steps f b (drop (k + 1) xs)) stop)

bind_same : {A B W : Type 0} (r : Result A W) (f g : A → Result B W) → ((a : A) → f a ≡ g a) → (r >>= f) ≡ (r >>= g)
bind_same (Err w) f g same = refl
bind_same (Ok a) f g same = same a

-- steps over a view
pub steps-map : {X Y A W : Type 0} (f : Y → A → Result A W) (g : X → Y) (a : A) (xs : List X)
    → steps f a (map g xs) ≡ steps (λ x. f (g x)) a xs
steps-map f g a [] = refl
steps-map f g a (x ∷ xs) =
    bind_same (f (g x) a) (λ b. steps f b (map g xs)) (λ b. steps (λ y. f (g y)) b xs) (λ b. steps-map f g b xs)
