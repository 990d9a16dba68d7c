-- What stands for each side of a polygon, and where in a polygon the first corner of some kind stands.
use Rattle.std.proofs.Common.{◌≡◌, Bool, true, false, ◌||◌, List, [], ◌∷◌, ◌++◌, drop, refl, sym, ap, ◌∙◌, inl, inr}
use Rattle.std.proofs.Common.{arith}
use Rattle.std.specs.List.{All, list_any, zip, flat_map}
use Rattle.std.proofs.lemmas.List.{append_assoc}
use Rattle.std.proofs.lemmas.List.Elements.{All-head, All-tail, All-cons}
use Rattle.std.proofs.lemmas.Bool.{or_parts, or_from, cases_Bool}
use Rattle.mesh_model.specs.Lookups.{with_next}

-- the first of some things, or else a given one
abbrev pub next_of : {X : Type 0} → List X → X → X
next_of [] z = z
next_of (x ∷ xs) z = x

-- what stands for each thing and the next, the last one's next being given
abbrev pub walk : {X Y : Type 0} → (X × X → List Y) → List X → X → List Y
walk g [] z = []
walk g (x ∷ xs) z = g (x, next_of xs z) ++ walk g xs z

flat_map-zip : {X Y : Type 0} (g : X × X → List Y) (xs : List X) (z : X)
    → flat_map g (zip xs (drop 1 xs ++ z ∷ [])) ≡ walk g xs z
flat_map-zip g [] z = refl
flat_map-zip g (x ∷ []) z = refl
flat_map-zip {Y = Y} g (x ∷ y ∷ ys) z = ap (λ (rest : List Y). g (x, y) ++ rest) (flat_map-zip g (y ∷ ys) z)

-- in a circle the first follows the last
pub flat_map-with_next : {X Y : Type 0} (g : X × X → List Y) (xs : List X) (d : X)
    → flat_map g (with_next xs) ≡ walk g xs (next_of xs d)
flat_map-with_next g [] d = refl
flat_map-with_next g (x ∷ xs) d = flat_map-zip g (x ∷ xs) x

pub next-append : {X : Type 0} (xs ys : List X) (z : X) → next_of (xs ++ ys) z ≡ next_of xs (next_of ys z)
next-append [] ys z = refl
next-append (x ∷ xs) ys z = refl

pub walk-append : {X Y : Type 0} (g : X × X → List Y) (xs ys : List X) (z : X)
    → walk g (xs ++ ys) z ≡ walk g xs (next_of ys z) ++ walk g ys z
walk-append g [] ys z = refl
walk-append {X = X} {Y = Y} g (x ∷ xs) ys z =
    ap (λ (n : X). g (x, n) ++ walk g (xs ++ ys) z) (next-append xs ys z)
    ∙ ap (λ (rest : List Y). g (x, next_of xs (next_of ys z)) ++ rest) (walk-append g xs ys z)
    ∙ sym (append_assoc (g (x, next_of xs (next_of ys z))) (walk g xs (next_of ys z)) (walk g ys z))

-- where no thing passes a test, and those that don't stand for themselves, nothing changes
pub walk-kept : {X : Type 0} (p : X → Bool) (g : X × X → List X) → ((x y : X) → p x ≡ false → g (x, y) ≡ x ∷ [])
    → (xs : List X) (z : X) → list_any p xs ≡ false → walk g xs z ≡ xs
walk-kept p g own [] z none = refl
walk-kept {X = X} p g own (x ∷ xs) z none =
    let both = or_parts (p x) (list_any p xs) none in
    ap (λ (here : List X). here ++ walk g xs z) (own x (next_of xs z) both.0)
    ∙ ap (λ (rest : List X). x ∷ rest) (walk-kept p g own xs z both.1)

pub next-fails : {X : Type 0} (p : X → Bool) (xs : List X) (z : X) → list_any p xs ≡ false → p z ≡ false
    → p (next_of xs z) ≡ false
next-fails p [] z none last = last
next-fails p (x ∷ xs) z none last = (or_parts (p x) (list_any p xs) none).0

-- the same where a thing stands for itself if neither it nor the next one passes
pub walk-clear : {X : Type 0} (p : X → Bool) (g : X × X → List X)
    → ((x y : X) → p x ≡ false → p y ≡ false → g (x, y) ≡ x ∷ []) → (xs : List X) (z : X) → list_any p xs ≡ false
    → p z ≡ false → walk g xs z ≡ xs
walk-clear p g own [] z none last = refl
walk-clear {X = X} p g own (x ∷ xs) z none last =
    let both = or_parts (p x) (list_any p xs) none in
    ap (λ (here : List X). here ++ walk g xs z) (own x (next_of xs z) both.0 (next-fails p xs z both.1 last))
    ∙ ap (λ (rest : List X). x ∷ rest) (walk-clear p g own xs z both.1 last)

pub All-next : {X : Type 0} (P : X → Type 0) (xs : List X) (z : X) → All P xs → P z → P (next_of xs z)
All-next P [] z all last = last
All-next P (x ∷ xs) z all last = All-head P x xs all

-- ---- THE FIRST THAT PASSES

-- a list in three parts: the first thing that passes a test, what is before it and what is after
pub record Found {X : Type 0} (p : X → Bool) (xs : List X) : Type 0 where
  pub before : List X
  pub here : X
  pub after : List X
  pub parts : xs ≡ before ++ here ∷ after
  pub passes : p here ≡ true
  pub none_before : list_any p before ≡ false

pub found : {X : Type 0} (p : X → Bool) (xs : List X) → list_any p xs ≡ true → Found p xs
found p [] h = absurd (cc)
found {X = X} p (x ∷ xs) h = elim (cases_Bool (p x)) [
  | inl here ↦ record { before = []; here = x; after = xs; parts = refl; passes = here; none_before = refl }
  | inr later ↦ let rest = found p xs (ap (λ (b : Bool). b || list_any p xs) (sym later) ∙ h) in
      record {
        before = x ∷ rest.before;
        here = rest.here;
        after = rest.after;
        parts =
            ap (λ (ys : List X). x ∷ ys) rest.parts;
        passes = rest.passes;
        none_before =
            or_from (p x) (list_any p rest.before) later rest.none_before;
      }
]

-- one thing of a circle passes a test, and all others stand for themselves
pub around : {X : Type 0} (p : X → Bool) (g : X × X → List X) → ((x y : X) → p x ≡ false → g (x, y) ≡ x ∷ [])
    → (before after : List X) (k : X) → list_any p before ≡ false → list_any p after ≡ false
    → flat_map g (with_next (before ++ k ∷ after)) ≡ before ++ (g (k, next_of (after ++ before) k) ++ after)
around {X = X} p g own before after k none_before none_after =
    let first : next_of (before ++ k ∷ after) k ≡ next_of before k = next-append before (k ∷ after) k in
    flat_map-with_next g (before ++ k ∷ after) k
    ∙ ap (walk g (before ++ k ∷ after)) first
    ∙ walk-append g before (k ∷ after) (next_of before k)
    ∙ ap (λ (xs : List X). xs ++ (g (k, next_of after (next_of before k)) ++ walk g after (next_of before k)))
    (walk-kept p g own before k none_before)
    ∙ ap (λ (xs : List X). before ++ (g (k, next_of after (next_of before k)) ++ xs))
    (walk-kept p g own after (next_of before k) none_after)
    ∙ ap (λ (n : X). before ++ (g (k, n) ++ after)) (sym (next-append after before k))

-- no thing of a circle passes it
pub untouched : {X : Type 0} (p : X → Bool) (g : X × X → List X) → ((x y : X) → p x ≡ false → g (x, y) ≡ x ∷ [])
    → (xs : List X) (d : X) → list_any p xs ≡ false → flat_map g (with_next xs) ≡ xs
untouched p g own xs d none = flat_map-with_next g xs d ∙ walk-kept p g own xs (next_of xs d) none

pub All-left : {X : Type 0} (P : X → Type 0) (xs ys : List X) → All P (xs ++ ys) → All P xs
All-left P [] ys all = λ k d less. absurd (omega arith)
All-left P (x ∷ xs) ys all =
    All-cons P x xs (All-head P x (xs ++ ys) all) (All-left P xs ys (All-tail P x (xs ++ ys) all))

pub All-right : {X : Type 0} (P : X → Type 0) (xs ys : List X) → All P (xs ++ ys) → All P ys
All-right P [] ys all = all
All-right P (x ∷ xs) ys all = All-right P xs ys (All-tail P x (xs ++ ys) all)
