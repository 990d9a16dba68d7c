-- What spans hold, number by number.
use Rattle.std.proofs.Common.{◌≡◌, ℕ, ◌+◌, ◌<◌, ◌≤◌, Bool, true, ◌&&◌, ◌||◌, eqb, leb, List, length}
use Rattle.std.proofs.Common.{take, get_or, sym, ap, ◌∙◌, arith, Some}
use Rattle.std.specs.List.{list_any, slice_get}
use Rattle.std.proofs.Math.Bool.{or_assoc}
use Rattle.std.proofs.lemmas.Bool.{and_parts, and_from, leb-true, le-leb, eq-eqb, eqb-true}
use Rattle.std.proofs.lemmas.Option.{slice_get_within, get_or_from_slice_get}
use Rattle.std.proofs.lemmas.List.{take_all}
use Rattle.std.proofs.lemmas.List.Folds.{list_any_more}
use Rattle.mesh_model.proofs.NameSets.{same_tests}
use Rattle.op_slots.specs.Spans.{is_in, Adds, Hold}
use Rattle.op_slots.specs.declared.resolving.spans.Span.{Span}

-- a span of one number
one_number : (m n : ℕ) → (leb m n && leb n m) ≡ eqb m n
one_number m n = same_tests (leb m n && leb n m) (eqb m n)
    (λ h. let both = and_parts (leb m n) (leb n m) h in
    let low : m < n + 1 = let less = leb-true m n both.0 in omega arith in
    let high : n < m + 1 = let less = leb-true n m both.1 in omega arith in
    eq-eqb m n (omega arith))
    (λ h. let same = eqb-true m n h in and_from (leb m n) (leb n m) (le-leb m n (omega arith))
    (le-leb n m (omega arith)))

-- the next of some numbers is added
pub add_more : (old mid new : List Span) (numbers : List ℕ) (k number : ℕ) → slice_get numbers k ≡ Some number
    → Adds old mid (λ n. list_any (λ m. eqb m n) (take k numbers))
    → Adds mid new (λ n. true && is_in n (record { first = number; last = number }))
    → Adds old new (λ n. list_any (λ m. eqb m n) (take (k + 1) numbers))
add_more old mid new numbers k number at first second n small =
    let so_far : Bool = list_any (λ m. eqb m n) (take k numbers) in
    let less : k < length numbers = slice_get_within numbers k number at in
    second n small ∙ ap (λ b. b || (leb number n && leb n number)) (first n small)
    ∙ or_assoc (list_any (is_in n) old) so_far (leb number n && leb n number)
    ∙ ap (λ b. list_any (is_in n) old || (so_far || b)) (one_number number n)
    ∙ ap (λ b. list_any (is_in n) old || b) (sym (list_any_more (λ m. eqb m n) numbers k number less
    ∙ ap (λ m. so_far || eqb m n) (get_or_from_slice_get numbers k number number at)))

-- what all numbers are is added
pub add_all : (old new : List Span) (numbers : List ℕ) (k : ℕ) → length numbers ≤ k
    → Adds old new (λ n. list_any (λ m. eqb m n) (take k numbers)) → Adds old new (λ n. list_any (λ m. eqb m n) numbers)
add_all old new numbers k past added n small =
    added n small ∙ ap (λ (ms : List ℕ). list_any (is_in n) old || list_any (λ m. eqb m n) ms) (take_all k numbers past)

-- the spans hold what one more passes
pub hold_more : {X : Type 0} (old new : List Span) (test : ℕ → X → Bool) (xs : List X) (k : ℕ) (x : X) → k < length xs
    → x ≡ get_or xs k x
    → Hold old (λ n. list_any (test n) (take k xs)) → Adds old new (λ n. test n x)
    → Hold new (λ n. list_any (test n) (take (k + 1) xs))
hold_more old new test xs k x less is held added n small =
    added n small ∙ ap (λ b. b || test n x) (held n small) ∙ ap (λ y. list_any (test n) (take k xs) || test n y) is
    ∙ sym (list_any_more (test n) xs k x less)

-- and what all pass
pub hold_all : {X : Type 0} (spans : List Span) (test : ℕ → X → Bool) (xs : List X) (k : ℕ) → length xs ≤ k
    → Hold spans (λ n. list_any (test n) (take k xs)) → Hold spans (λ n. list_any (test n) xs)
hold_all spans test xs k past held n small = held n small ∙ ap (list_any (test n)) (take_all k xs past)
