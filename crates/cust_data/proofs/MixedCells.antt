-- Cells mixed number by number.
use Rattle.std.proofs.Common.{◌≡◌, ℕ, ◌+◌, ◌≤◌, ◌<◌, ℤ, pos, List, [], ◌∷◌, ◌++◌, length, take, drop, get_or, set, arith, refl, sym, ap, ◌∙◌}
use Rattle.std.specs.List.{zip}
use Rattle.std.proofs.lemmas.List.{append-nil, append_assoc, map-append, take_all, drop_all, take_more, drop_more, set_at, get_or_at, length-take-le, length-map}
use Rattle.std.proofs.lemmas.Slice.Zip.{length-zip}
use Rattle.cust_data.specs.Mixing.{mix, mix_cell}

-- lists of the same length, and what follows them, are joined pair by pair
pub zip-append : {A B : Type 0} (xs us : List A) (ys vs : List B) → length xs ≡ length ys
    → zip (xs ++ us) (ys ++ vs) ≡ zip xs ys ++ zip us vs
zip-append [] us [] vs e = refl
zip-append [] us (y ∷ ys) vs e = absurd (omega (arith, e))
zip-append (x ∷ xs) us [] vs e = absurd (omega (arith, e))
zip-append (x ∷ xs) us (y ∷ ys) vs e = ap (λ zs. (x, y) ∷ zs) (zip-append xs us ys vs (omega (arith, e)))

-- as many numbers are mixed
pub length-mix_cell : (a b : List ℤ) (num den : ℤ) → length a ≡ length b → length (mix_cell a b num den) ≡ length a
length-mix_cell a b num den e = length-map (zip a b) (λ ((x, y) : ℤ × ℤ). mix x y num den)
    ∙ omega (arith, length-zip a b, e)

-- one number more
mix_cell_push : (a b : List ℤ) (x y num den : ℤ) → length a ≡ length b
    → mix_cell (a ++ x ∷ []) (b ++ y ∷ []) num den ≡ mix_cell a b num den ++ mix x y num den ∷ []
mix_cell_push a b x y num den e =
    rw (zip-append a (x ∷ []) b (y ∷ []) e) (map-append (λ ((x, y) : ℤ × ℤ). mix x y num den) (zip a b) ((x, y) ∷ []))

-- the cell while its first k numbers are mixed
abbrev pub mixed_to : List ℤ → List ℤ → ℤ → ℤ → ℕ → List ℤ
mixed_to a b num den k = mix_cell (take k a) (take k b) num den ++ drop k a

-- the next number is mixed
pub mixed_more : (a b cell : List ℤ) (num den v : ℤ) (k : ℕ) → length a ≡ length b → k < length b
    → cell ≡ mixed_to a b num den k → v ≡ mix (get_or cell k (pos 0)) (get_or b k (pos 0)) num den
    → set cell k v ≡ mixed_to a b num den (k + 1)
mixed_more a b cell num den v k same in_range before is =
    let in_a : k < length a = omega arith in
    let front = mix_cell (take k a) (take k b) num den in
    let front_a : length (take k a) ≡ k = length-take-le k a (omega arith) in
    let front_b : length (take k b) ≡ k = length-take-le k b (omega arith) in
    let count : length (mix_cell (take k a) (take k b) num den) ≡ k =
    length-mix_cell (take k a) (take k b) num den (front_a ∙ sym front_b) ∙ front_a in
    let split : cell ≡ mix_cell (take k a) (take k b) num den ++ get_or a k (pos 0) ∷ drop (k + 1) a =
    before ∙ ap (λ xs. mix_cell (take k a) (take k b) num den ++ xs) (drop_more a k (pos 0) in_a) in
    let here : get_or cell k (pos 0) ≡ get_or a k (pos 0) =
    ap (λ (xs : List ℤ). get_or xs k (pos 0)) split
    ∙ get_or_at (mix_cell (take k a) (take k b) num den) (get_or a k (pos 0)) (drop (k + 1) a) (pos 0) k count in
    let value : v ≡ mix (get_or a k (pos 0)) (get_or b k (pos 0)) num den =
    is ∙ ap (λ (x : ℤ). mix x (get_or b k (pos 0)) num den) here in
    rw (
      split,
      set_at (mix_cell (take k a) (take k b) num den) (get_or a k (pos 0)) (drop (k + 1) a) v k count,
      value,
      take_more a k (pos 0) in_a,
      take_more b k (pos 0) in_range,
      mix_cell_push (take k a) (take k b) (get_or a k (pos 0)) (get_or b k (pos 0)) num den (front_a ∙ sym front_b),
    )
    (sym (append_assoc (mix_cell (take k a) (take k b) num den)
    (mix (get_or a k (pos 0)) (get_or b k (pos 0)) num den ∷ []) (drop (k + 1) a)))

-- all numbers are mixed
pub mixed_all : (a b cell : List ℤ) (num den : ℤ) (k : ℕ) → length a ≡ length b → length b ≤ k
    → cell ≡ mixed_to a b num den k → cell ≡ mix_cell a b num den
mixed_all a b cell num den k same past e =
    let past_a : length a ≤ k = omega arith in
    e ∙ rw (take_all k a past_a, take_all k b past, drop_all k a past_a) (append-nil (mix_cell a b num den))
