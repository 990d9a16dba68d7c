-- Rows added number by number: how long they are, and how far from 0.
use Rattle.std.proofs.Common.{◌≡◌, ◌∙◌, ◌<◌, ◌≤◌, ◌+◌, ◌*◌, ◌++◌, ℕ, ℤ, pos, neg_ℤ, ◌+ℤ◌, ◌≤ℤ◌, List, [], ◌∷◌, length}
use Rattle.std.proofs.Common.{get_or, set, map, take, refl, sym, ap, subst, min, arith, w64, to_z, of_z, FitsSigned}
use Rattle.std.specs.List.{All, fold, zip}
use Rattle.std.proofs.lemmas.Int.{ints, clamps, to_z-of_z}
use Rattle.std.proofs.lemmas.List.{length-map, get_or-map, get_or-replicate, length-replicate, take_more, take_more_set}
use Rattle.std.proofs.lemmas.List.{map-append}
use Rattle.std.proofs.lemmas.List.Elements.{All-head, All-tail}
use Rattle.std.proofs.lemmas.Slice.Zip.{get_or-zip, length-zip}
use Rattle.cust_data.specs.Layers.{zeros}
use Rattle.layer_sums.specs.Sums.{plus, AreWithin}

abbrev add : ℤ × ℤ → ℤ
add p = p.0 +ℤ p.1

pub plus-at : (xs ys : List ℤ) (k : ℕ) (d : ℤ) → k < length xs → k < length ys
    → get_or (plus xs ys) k d ≡ get_or xs k d +ℤ get_or ys k d
plus-at xs ys k d in_xs in_ys =
    let long = length-zip xs ys in
    get_or-map add (zip xs ys) k (d, d) d (omega arith) ∙ ap add (get_or-zip xs ys k (d, d) in_xs in_ys)

pub length-plus : (xs ys : List ℤ) → length ys ≡ length xs → length (plus xs ys) ≡ length xs
length-plus xs ys same = length-map (zip xs ys) add ∙ length-zip xs ys ∙ omega arith

pub within_plus : (n : ℕ) (xs ys : List ℤ) → length ys ≡ length xs → AreWithin n xs → AreWithin 1 ys
    → AreWithin (n + 1) (plus xs ys)
within_plus n xs ys same far near k d less =
    let long = length-plus xs ys same in
    let in_xs : k < length xs = omega arith in
    let in_ys : k < length ys = omega arith in
    let x = far k d in_xs in
    let y = near k d in_ys in
    rw (plus-at xs ys k d in_xs in_ys) (omega (arith, ints, x.0, x.1, y.0, y.1), omega (arith, ints, x.0, x.1, y.0, y.1))

pub within_more : (m n : ℕ) (xs : List ℤ) → m ≤ n → AreWithin m xs → AreWithin n xs
within_more m n xs le far k d less =
    let x = far k d less in
    (omega (arith, ints, x.0, x.1), omega (arith, ints, x.0, x.1))

pub within_zeros : (w : ℕ) → AreWithin 0 (zeros w)
within_zeros w k d less =
    let low : k < w = omega (arith, length-replicate w (pos 0)) in
    rw (get_or-replicate w k (pos 0) d low) (omega (arith, ints), omega (arith, ints))

-- rows of so many numbers, each of which is one value
pub record IsRow (w : ℕ) (row : List ℤ) : Type 0 where
  pub long : length row ≡ w
  pub small : AreWithin 1 row

pub length-fold : (w : ℕ) (sums : List ℤ) (rows : List (List ℤ)) → length sums ≡ w → All (IsRow w) rows
    → length (fold plus sums rows) ≡ w
length-fold w sums [] long are = long
length-fold w sums (row ∷ rows) long are =
    let first = All-head (IsRow w) row rows are in
    length-fold w (plus sums row) rows (length-plus sums row (first.long ∙ sym long) ∙ long)
    (All-tail (IsRow w) row rows are)

pub within_fold : (w n : ℕ) (sums : List ℤ) (rows : List (List ℤ)) → length sums ≡ w → All (IsRow w) rows
    → AreWithin n sums → AreWithin (n + length rows) (fold plus sums rows)
within_fold w n sums [] long are far = within_more n (n + 0) sums (omega arith) far
within_fold w n sums (row ∷ rows) long are far =
    let first = All-head (IsRow w) row rows are in
    within_more (n + 1 + length rows) (n + length (row ∷ rows)) (fold plus (plus sums row) rows) (omega arith)
    (within_fold w (n + 1) (plus sums row) rows (length-plus sums row (first.long ∙ sym long) ∙ long)
    (All-tail (IsRow w) row rows are) (within_plus n sums row (first.long ∙ sym long) far first.small))

-- ---- ONE NUMBER AFTER ANOTHER

-- a number that is cast, added and cast again
pub added_is : (x y : ℤ) → (neg_ℤ (pos 4000000000000000000) ≤ℤ x) × (x ≤ℤ pos 4000000000000000000)
    → (neg_ℤ (pos 1000000000) ≤ℤ y) × (y ≤ℤ pos 1000000000)
    → to_z w64 (of_z w64 (to_z w64 (of_z w64 x) +ℤ to_z w64 (of_z w64 y))) ≡ x +ℤ y
added_is x y far near =
    let fits_x : FitsSigned w64 x = omega (arith, ints, clamps, far.0, far.1) in
    let fits_y : FitsSigned w64 y = omega (arith, ints, clamps, near.0, near.1) in
    let fits : FitsSigned w64 (x +ℤ y) = omega (arith, ints, clamps, far.0, far.1, near.0, near.1) in
    simp to_z-of_z

-- one place more is added
pub added_more : (old row sums : List ℤ) (k : ℕ) (x : ℤ) → length row ≡ length old → length sums ≡ length old
    → k < length row → take k sums ≡ map (λ p. p.0 +ℤ p.1) (take k (zip old row))
    → x ≡ get_or old k (pos 0) +ℤ get_or row k (pos 0)
    → take (k + 1) (set sums k x) ≡ map (λ p. p.0 +ℤ p.1) (take (k + 1) (zip old row))
added_more old row sums k x same long less before is =
    let both = length-zip old row in
    let pair : get_or (zip old row) k (pos 0, pos 0) ≡ (get_or old k (pos 0), get_or row k (pos 0)) =
    get_or-zip old row k (pos 0, pos 0) (omega arith) less in
    take_more_set sums k x (omega arith)
    ∙ ap (λ (ys : List ℤ). ys ++ x ∷ []) before
    ∙ ap (λ (z : ℤ). map add (take k (zip old row)) ++ z ∷ []) (is ∙ ap add (sym pair))
    ∙ sym (map-append add (take k (zip old row)) (get_or (zip old row) k (pos 0, pos 0) ∷ []))
    ∙ ap (map add) (sym (take_more (zip old row) k (pos 0, pos 0) (omega arith)))
