-- Values or faults, and what a call that may lack memory tells of them.
use Rattle.std.specs.Prelude.{◌≡◌, List, [], ◌∷◌, Result, Ok, Err}
use Rattle.std.specs.declared.option.Option.{Option}
use Rattle.std.specs.declared.option.Option.TheVariants.{None, Some}
use Rattle.text_words.specs.declared.outcome.Stop.{Stop}
use Rattle.text_words.specs.declared.outcome.Stop.TheVariants.{Fault, NoMemory}

infixl 10 ◌>>=◌
-- the fault, or what follows from the value
abbrev pub ◌>>=◌ : {A B W : Type 0} → Result A W → (A → Result B W) → Result B W
Err w >>= f = Err w
Ok a >>= f = f a

-- the value, or a fault where there is none
abbrev pub ok_or : {A W : Type 0} → Option A → W → Result A W
ok_or None w = Err w
ok_or (Some a) w = Ok a

-- a fault is the outcome's; want of memory says nothing of it
abbrev pub StopsAs : {A W : Type 0} → Stop W → Result A W → Type 0
StopsAs NoMemory want = Unit {0}
StopsAs (Fault w) want = want ≡ Err w

-- a call's value is the outcome's, and so is its fault
abbrev pub Gives : {A W : Type 0} → Result A (Stop W) → Result A W → Type 0
Gives (Ok x) want = want ≡ Ok x
Gives (Err e) want = StopsAs e want

-- what a call leaves behind is the outcome's, and so is its fault
abbrev pub Leaves : {U A W : Type 0} → Result U (Stop W) → A → Result A W → Type 0
Leaves (Ok _) x want = want ≡ Ok x
Leaves (Err e) x want = StopsAs e want

-- one step after another, to the first fault
abbrev pub steps : {X A W : Type 0} → (X → A → Result A W) → A → List X → Result A W
steps f a [] = Ok a
steps f a (x ∷ xs) = f x a >>= (λ b. steps f b xs)
