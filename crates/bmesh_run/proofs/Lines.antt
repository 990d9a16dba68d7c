-- One element more of a list that is walked by index.
use Rattle.std.proofs.Common.{◌≡◌, ℕ, ◌+◌, ◌<◌, ◌++◌, ◌≤◌, Bool, true, false, cond, List, [], ◌∷◌, length, get_or, take}
use Rattle.std.proofs.Common.{sym, ap, ◌∙◌, arith}
use Rattle.std.specs.List.{zip, enumerate_from, count_by}
use Rattle.std.proofs.lemmas.List.FromFn.{length-enumerate_from, get_or-enumerate_from}
use Rattle.std.proofs.lemmas.List.Sums.{sum_by-append}
use Rattle.std.proofs.lemmas.List.{take_more, take_all}
use Rattle.std.proofs.lemmas.Slice.Zip.{get_or-zip, length-zip}
use Rattle.std.proofs.lemmas.Grind.{common_steps}

-- an entry with its name more
take-enumerate : {X : Type 0} (xs : List X) (i : ℕ) (d : X) → i < length xs
    → take (i + 1) (enumerate_from 0 xs) ≡ take i (enumerate_from 0 xs) ++ (i, get_or xs i d) ∷ []
take-enumerate {X = X} xs i d h =
    let long : i < length (enumerate_from 0 xs) = omega (arith, length-enumerate_from 0 xs) in
    take_more (enumerate_from 0 xs) i (0, d) long
    ∙ ap (λ (e : ℕ × X). take i (enumerate_from 0 xs) ++ e ∷ []) (get_or-enumerate_from 0 xs i (0, d) h
    ∙ ap (λ (n : ℕ). (n, get_or xs i d)) (omega arith))

-- two elements at one place more
pub take-zip : {X Y : Type 0} (xs : List X) (ys : List Y) (i : ℕ) (x : X) (y : Y) → i < length xs → i < length ys
    → x ≡ get_or xs i x → y ≡ get_or ys i y → take (i + 1) (zip xs ys) ≡ take i (zip xs ys) ++ (x, y) ∷ []
take-zip {X = X} {Y = Y} xs ys i x y less_x less_y is_x is_y =
    let long : i < length (zip xs ys) = grind (arith, common_steps, length-zip) in
    take_more (zip xs ys) i (x, y) long
    ∙ ap (λ (e : X × Y). take i (zip xs ys) ++ e ∷ []) (get_or-zip xs ys i (x, y) less_x less_y
    ∙ ap (λ (a : X). (a, get_or ys i y)) (sym is_x) ∙ ap (λ (b : Y). (x, b)) (sym is_y))

-- all places of two lists that are as long
pub all-zip : {X Y : Type 0} (xs : List X) (ys : List Y) (n : ℕ) → length xs ≤ n → take n (zip xs ys) ≡ zip xs ys
all-zip xs ys n h = take_all n (zip xs ys) (grind (arith, common_steps, length-zip))

pub all-enumerate : {X : Type 0} (xs : List X) (n : ℕ) → length xs ≤ n
    → take n (enumerate_from 0 xs) ≡ enumerate_from 0 xs
all-enumerate xs n h = take_all n (enumerate_from 0 xs) (omega (arith, length-enumerate_from 0 xs))

plus_one : (n : ℕ) (b : Bool) → n + (0 + cond b 1 0) ≡ cond b (n + 1) n
plus_one n true = omega arith
plus_one n false = omega arith

counted : {X : Type 0} (p : X → Bool) (xs : List X) (x : X) (b : Bool) → p x ≡ b
    → count_by p (xs ++ x ∷ []) ≡ cond b (count_by p xs + 1) (count_by p xs)
counted p xs x b is = sum_by-append (λ y. cond (p y) 1 0) xs (x ∷ [])
    ∙ ap (λ (c : Bool). count_by p xs + (0 + cond c 1 0)) is ∙ plus_one (count_by p xs) b

-- a number of entries that pass a test, with one entry more
pub count-enumerate : {X : Type 0} (p : ℕ × X → Bool) (xs : List X) (i count : ℕ) (d : X) (b : Bool) → i < length xs
    → p (i, get_or xs i d) ≡ b → count ≡ count_by p (take i (enumerate_from 0 xs))
    → cond b (count + 1) count ≡ count_by p (take (i + 1) (enumerate_from 0 xs))
count-enumerate {X = X} p xs i count d b h is told =
    ap (λ (n : ℕ). cond b (n + 1) n) told
    ∙ sym (ap (count_by p) (take-enumerate xs i d h) ∙ counted p (take i (enumerate_from 0 xs)) (i, get_or xs i d) b is)
