-- Lemmas on texts that are trimmed.
use Rattle.std.proofs.Common.{◌≡◌, ◌<◌, ◌≤◌, ◌+◌, ◌-◌, ◌∙◌, ℕ, true, false, Bool, cond, List, [], ◌∷◌, ◌++◌, length, take, drop, get_or, refl, ap, sym, arith}
use Rattle.std.proofs.lemmas.List.{take_more, drop_more, drop_all, take_all, length-drop}
use Rattle.text_words.specs.Trims.{kept, trimmed, skipped}

trimmed-drop : (p : ℕ → Bool) (xs : List ℕ) (c : ℕ) → p c ≡ true → trimmed p (xs ++ c ∷ []) ≡ trimmed p xs
trimmed-drop p [] c passes = ap (λ b. cond b [] (c ∷ [])) passes
trimmed-drop p (x ∷ xs) c passes = ap (kept p x) (trimmed-drop p xs c passes)

kept_some : (p : ℕ → Bool) (x : ℕ) (xs : List ℕ) (c : ℕ) → kept p x (xs ++ c ∷ []) ≡ x ∷ xs ++ c ∷ []
kept_some p x [] c = refl
kept_some p x (y ∷ ys) c = refl

trimmed-stay : (p : ℕ → Bool) (xs : List ℕ) (c : ℕ) → p c ≡ false → trimmed p (xs ++ c ∷ []) ≡ xs ++ c ∷ []
trimmed-stay p [] c fails = ap (λ b. cond b [] (c ∷ [])) fails
trimmed-stay p (x ∷ xs) c fails = ap (kept p x) (trimmed-stay p xs c fails) ∙ kept_some p x xs c

last_apart : (xs : List ℕ) (n : ℕ) → 0 < n → n ≤ length xs → take n xs ≡ take (n - 1) xs ++ get_or xs (n - 1) 0 ∷ []
last_apart xs n some here = ap (λ m. take m xs) (omega arith) ∙ take_more xs (n - 1) 0 (omega arith)

-- a byte at the end that goes
pub trim_more : (p : ℕ → Bool) (xs : List ℕ) (n : ℕ) → 0 < n → n ≤ length xs → p (get_or xs (n - 1) 0) ≡ true
    → trimmed p (take n xs) ≡ trimmed p (take (n - 1) xs)
trim_more p xs n some here passes = ap (trimmed p) (last_apart xs n some here)
    ∙ trimmed-drop p (take (n - 1) xs) (get_or xs (n - 1) 0) passes

-- a byte at the end that stays
pub trim_stay : (p : ℕ → Bool) (xs : List ℕ) (n : ℕ) → 0 < n → n ≤ length xs → p (get_or xs (n - 1) 0) ≡ false
    → trimmed p (take n xs) ≡ take n xs
trim_stay p xs n some here fails = ap (trimmed p) (last_apart xs n some here)
    ∙ trimmed-stay p (take (n - 1) xs) (get_or xs (n - 1) 0) fails ∙ sym (last_apart xs n some here)

-- a byte at the start that goes
pub skip_more : (p : ℕ → Bool) (xs : List ℕ) (k : ℕ) → k < length xs → p (get_or xs k 0) ≡ true
    → skipped p (drop k xs) ≡ skipped p (drop (k + 1) xs)
skip_more p xs k here passes = ap (skipped p) (drop_more xs k 0 here)
    ∙ ap (λ b. cond b (skipped p (drop (k + 1) xs)) (get_or xs k 0 ∷ drop (k + 1) xs)) passes

-- a byte at the start that stays
pub skip_stay : (p : ℕ → Bool) (xs : List ℕ) (k : ℕ) → k < length xs → p (get_or xs k 0) ≡ false
    → skipped p (drop k xs) ≡ drop k xs
skip_stay p xs k here fails = ap (skipped p) (drop_more xs k 0 here)
    ∙ ap (λ b. cond b (skipped p (drop (k + 1) xs)) (get_or xs k 0 ∷ drop (k + 1) xs)) fails
    ∙ sym (drop_more xs k 0 here)

-- all that stands from a place on
pub rest_all : (k : ℕ) (xs : List ℕ) → take (length xs - k) (drop k xs) ≡ drop k xs
rest_all k xs = take_all (length xs - k) (drop k xs) (omega (arith, length-drop k xs))
