-- Rows that are copied and compared.
use Rattle.std.proofs.Common.{◌≡◌, ℕ, zero, suc, ◌+◌, ◌<◌, ◌≤◌, List, [], ◌∷◌, ◌++◌, length, take, refl, sym, ap, ◌∙◌, arith, Some, append_assoc, get_or}
use Rattle.std.specs.Prelude.{slice_get}
use Rattle.std.proofs.lemmas.List.{take_more, take-append-le, take_all}
use Rattle.std.proofs.lemmas.Option.{same_Some, slice_get_within, slice_get-get_or, get_or_from_slice_get}

-- one element more of a list that is copied
pub one_more : {X : Type 0} (done all : List X) (xs : List X) (k : ℕ) (x : X) → done ≡ xs ++ take k all
    → slice_get all k ≡ Some x → done ++ x ∷ [] ≡ xs ++ take (k + 1) all
one_more {X = X} done all xs k x is at_k =
    ap (λ (ys : List X). ys ++ x ∷ []) is ∙ append_assoc xs (take k all) (x ∷ [])
    ∙ ap (λ (ys : List X). xs ++ ys) (sym (take_more all k x (slice_get_within all k x at_k)
    ∙ ap (λ (y : X). take k all ++ y ∷ []) (get_or_from_slice_get all k x x at_k)))

-- lists of one length that agree below it are equal
pub same_below : {X : Type 0} (xs ys : List X) (n : ℕ) → length xs ≡ n → length ys ≡ n
    → ((i : ℕ) → i < n → slice_get xs i ≡ slice_get ys i) → xs ≡ ys
same_below [] [] n long wide same = refl
same_below [] (y ∷ ys) n long wide same = absurd (omega arith)
same_below (x ∷ xs) [] n long wide same = absurd (omega arith)
same_below {X = X} (x ∷ xs) (y ∷ ys) zero long wide same = absurd (omega arith)
same_below {X = X} (x ∷ xs) (y ∷ ys) (suc n) long wide same =
    let head = same_Some x y (same 0 (omega arith)) in
    let tail = same_below xs ys n (omega arith) (omega arith) (λ i less. same (suc i) (omega arith)) in
    ap (λ (z : X). z ∷ xs) head ∙ ap (λ (zs : List X). y ∷ zs) tail

-- what an index reads
pub read_at : {X : Type 0} (xs : List X) (i : ℕ) (x : X) → i < length xs → x ≡ get_or xs i x → slice_get xs i ≡ Some x
read_at {X = X} xs i x less is = slice_get-get_or xs i x less ∙ ap (λ (y : X). Some y) (sym is)

-- the front of a list that was written over
pub front_read : {X : Type 0} (count most : ℕ) (given rest : List X) → length given ≡ count → count ≤ most
    → take count (take most (given ++ rest)) ≡ given
front_read {X = X} count most given rest long within =
    front count most (given ++ rest) within ∙ take-append-le count given rest (omega arith)
    ∙ take_all count given (omega arith)
  where
    front : (count most : ℕ) (xs : List X) → count ≤ most → take count (take most xs) ≡ take count xs
    front zero most xs le = refl
    front (suc count) zero xs le = absurd (omega arith)
    front (suc count) (suc most) [] le = refl
    front (suc count) (suc most) (x ∷ xs) le = ap (λ (ys : List X). x ∷ ys) (front count most xs (omega arith))
