-- Lemmas on the pieces of a text.
use Rattle.std.proofs.Common.{◌≡◌, ℕ, ◌+◌, ◌≤◌, Bool, true, false, cond, List, [], ◌∷◌, length, map, refl, ap, arith, eqb}
use Rattle.std.specs.List.{filter}
use Rattle.std.proofs.lemmas.List.Sums.{count_by-le-length}
use Rattle.std.proofs.lemmas.List.Splits.{length-slice_split}
use Rattle.text_words.specs.Text.{lines, parts_of}

filter_step : {X Y : Type 0} (f : X → Y) (x : X) (b : Bool) (xs : List X) (ys : List Y) → map f xs ≡ ys
    → map f (cond b (x ∷ xs) xs) ≡ cond b (f x ∷ ys) ys
filter_step f x true xs ys h = ap (λ zs. f x ∷ zs) h
filter_step f x false xs ys h = h

-- a test of what a view shows
pub map-filter : {X Y : Type 0} (f : X → Y) (p : Y → Bool) (xs : List X)
    → map f (filter (λ x. p (f x)) xs) ≡ filter p (map f xs)
map-filter f p [] = refl
map-filter f p (x ∷ xs) = filter_step f x (p (f x)) (filter (λ x. p (f x)) xs) (filter p (map f xs)) (map-filter f p xs)

-- there are no more separators than bytes
pub length-parts_of : (separator : ℕ) (text : List ℕ) → length (parts_of separator text) ≤ length text + 1
length-parts_of separator text = omega (
  arith,
  length-slice_split (λ b. eqb b separator) text,
  count_by-le-length (λ b. eqb b separator) text,
)

-- there are no more line feeds than bytes
pub length-lines : (text : List ℕ) → length (lines text) ≤ length text + 1
length-lines text = length-parts_of 10 text
