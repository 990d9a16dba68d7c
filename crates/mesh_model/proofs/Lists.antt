-- Tests over lists, element by element.
use Rattle.std.proofs.Common.{◌≡◌, ◌≢◌, ℕ, zero, suc, ◌<◌, Bool, true, false, List, [], ◌∷◌, ◌++◌, length, get_or, map}
use Rattle.std.proofs.Common.{take, drop, refl, ap, arith, inl, inr}
use Rattle.std.specs.List.{All, list_all, list_any}
use Rattle.std.proofs.lemmas.Bool.{and_parts, and_from, or_parts, or_cases}
use Rattle.std.proofs.lemmas.List.Elements.{All-cons, All-head, All-tail, All-append, All-take, All-drop, All-map}
use Rattle.std.proofs.lemmas.List.Elements.{All-weaker}
use Rattle.mesh_model.specs.Kernel.{changed_at}

-- each element passes where all do
pub list_all-All : {X : Type 0} (p : X → Bool) (xs : List X) → list_all p xs ≡ true → All (λ x. p x ≡ true) xs
list_all-All p [] h = λ k d less. absurd (omega arith)
list_all-All p (x ∷ xs) h = let both = and_parts (p x) (list_all p xs) h in
    All-cons (λ x. p x ≡ true) x xs both.0 (list_all-All p xs both.1)

pub All-list_all : {X : Type 0} (p : X → Bool) (xs : List X) → All (λ x. p x ≡ true) xs → list_all p xs ≡ true
All-list_all p [] h = refl
All-list_all p (x ∷ xs) h =
    and_from (p x) (list_all p xs) (All-head (λ x. p x ≡ true) x xs h)
    (All-list_all p xs (All-tail (λ x. p x ≡ true) x xs h))

-- no element passes where none does
pub list_any-none : {X : Type 0} (p : X → Bool) (xs : List X) → list_any p xs ≡ false → All (λ x. p x ≡ false) xs
list_any-none p [] h = λ k d less. absurd (omega arith)
list_any-none p (x ∷ xs) h = let both = or_parts (p x) (list_any p xs) h in
    All-cons (λ x. p x ≡ false) x xs both.0 (list_any-none p xs both.1)

-- what holds of each element that passes holds where one does
pub list_any-elim : {X : Type 0} (P : Type 0) (p : X → Bool) (xs : List X) → All (λ x. p x ≡ true → P) xs
    → list_any p xs ≡ true → P
list_any-elim P p [] all h = absurd (cc)
list_any-elim P p (x ∷ xs) all h = elim (or_cases (p x) (list_any p xs) h) [
  | inl here ↦ All-head (λ y. p y ≡ true → P) x xs all here
  | inr later ↦ list_any-elim P p xs (All-tail (λ y. p y ≡ true → P) x xs all) later
]

-- tests that agree at each element
pub list_any-same : {X : Type 0} (p q : X → Bool) (xs : List X) → All (λ x. p x ≡ q x) xs
    → list_any p xs ≡ list_any q xs
list_any-same p q [] h = refl
list_any-same p q (x ∷ xs) h =
    rw (All-head (λ y. p y ≡ q y) x xs h, list_any-same p q xs (All-tail (λ y. p y ≡ q y) x xs h)) refl

-- ---- THE ELEMENT AT A POSITION CHANGED

pub length-changed_at : {X : Type 0} (xs : List X) (i : ℕ) (change : X → X)
    → length (changed_at xs i change) ≡ length xs
length-changed_at [] zero change = refl
length-changed_at [] (suc i) change = refl
length-changed_at (x ∷ xs) zero change = refl
length-changed_at (x ∷ xs) (suc i) change = ap (λ (n : ℕ). suc n) (length-changed_at xs i change)

pub get_or-changed_at : {X : Type 0} (xs : List X) (i : ℕ) (change : X → X) (d : X) → i < length xs
    → get_or (changed_at xs i change) i d ≡ change (get_or xs i d)
get_or-changed_at [] i change d less = absurd (omega arith)
get_or-changed_at (x ∷ xs) zero change d less = refl
get_or-changed_at (x ∷ xs) (suc i) change d less = get_or-changed_at xs i change d (omega arith)

pub get_or-changed_other : {X : Type 0} (xs : List X) (i : ℕ) (change : X → X) (k : ℕ) (d : X) → i ≢ k
    → get_or (changed_at xs i change) k d ≡ get_or xs k d
get_or-changed_other [] zero change k d off = refl
get_or-changed_other [] (suc i) change k d off = refl
get_or-changed_other (x ∷ xs) zero change zero d off = absurd (off refl)
get_or-changed_other (x ∷ xs) zero change (suc k) d off = refl
get_or-changed_other (x ∷ xs) (suc i) change zero d off = refl
get_or-changed_other (x ∷ xs) (suc i) change (suc k) d off =
    get_or-changed_other xs i change k d (λ same. off (ap (λ (n : ℕ). suc n) same))

-- what each element has, and the changed one too
pub All-changed_at : {X : Type 0} (P : X → Type 0) (xs : List X) (i : ℕ) (change : X → X)
    → ((x : X) → P x → P (change x)) → All P xs → All P (changed_at xs i change)
All-changed_at P xs i change keeps h = All-append P (take i xs ++ map change (take 1 (drop i xs))) (drop 1 (drop i xs))
    (All-append P (take i xs) (map change (take 1 (drop i xs))) (All-take P i xs h)
    (All-map P change (take 1 (drop i xs))
    (All-weaker P (λ x. P (change x)) keeps (take 1 (drop i xs)) (All-take P 1 (drop i xs) (All-drop P i xs h)))))
    (All-drop P 1 (drop i xs) (All-drop P i xs h))
