-- What a sweep over spans finds.
use Rattle.std.proofs.Common.{◌≡◌, ℕ, zero, suc, ◌+◌, ◌-◌, ◌<◌, ◌≤◌, Bool, true, false, cond, leb, List, []}
use Rattle.std.proofs.Common.{◌∷◌, ◌++◌, length, take, get_or, map, refl, sym, ap, ◌∙◌, arith, subst, inl, inr}
use Rattle.std.specs.List.{filter, list_any, range_with_len}
use Rattle.std.specs.List.Sorted.{IsNonDecreasingBy}
use Rattle.std.proofs.lemmas.Bool.{and_from, and_left, and_right, or_from, cases_lt, lt-leb, le-leb}
use Rattle.std.proofs.lemmas.List.{get_or-take, length-take, take_all}
use Rattle.std.proofs.lemmas.List.FromFn.{filter_of_map_range_with_len_more}
use Rattle.std.proofs.lemmas.List.Folds.{list_any_none, list_any_more, list_any_at}
use Rattle.mesh_model.proofs.Lists.{list_any-none}
use Rattle.mesh_model.specs.Complex.{Complex}
use Rattle.mesh_model.specs.declared.names.Kind.{Kind}
use Rattle.op_slots.specs.Values.{is_live, next_of}
use Rattle.op_slots.specs.Spans.{is_in, is_found, found_below, ArePassed}
use Rattle.op_slots.specs.declared.resolving.spans.Span.{Span}

-- ---- NUMBERS BELOW A COUNT THAT PASS A TEST

pub same_map : (ns : List ℕ) → map (λ n. n) ns ≡ ns
same_map [] = refl
same_map (n ∷ ns) = ap (λ ms. n ∷ ms) (same_map ns)

-- one number more
one_more : (p : ℕ → Bool) (k : ℕ) → filter p (range_with_len 0 (k + 1))
    ≡ filter p (range_with_len 0 k) ++ cond (p k) (k ∷ []) []
one_more p k =
    ap (filter p) (sym (same_map (range_with_len 0 (k + 1))))
    ∙ filter_of_map_range_with_len_more p (λ n. n) 0 k k (omega arith)
    ∙ ap (λ ns. filter p ns ++ cond (p k) (k ∷ []) []) (same_map (range_with_len 0 k))

no_more : (ns : List ℕ) → ns ++ [] ≡ ns
no_more [] = refl
no_more (n ∷ ns) = ap (λ ms. n ∷ ms) (no_more ns)

-- one that passes
pub one_hit : (p : ℕ → Bool) (k : ℕ) → p k ≡ true
    → filter p (range_with_len 0 (k + 1)) ≡ filter p (range_with_len 0 k) ++ k ∷ []
one_hit p k h = one_more p k ∙ ap (λ b. filter p (range_with_len 0 k) ++ cond b (k ∷ []) []) h

-- one that doesn't
pub one_miss : (p : ℕ → Bool) (k : ℕ) → p k ≡ false
    → filter p (range_with_len 0 (k + 1)) ≡ filter p (range_with_len 0 k)
one_miss p k h = one_more p k ∙ ap (λ b. filter p (range_with_len 0 k) ++ cond b (k ∷ []) []) h
    ∙ no_more (filter p (range_with_len 0 k))

-- some that don't
skipped : (p : ℕ → Bool) (k more : ℕ) → ((n : ℕ) → k ≤ n → n < k + more → p n ≡ false)
    → filter p (range_with_len 0 (k + more)) ≡ filter p (range_with_len 0 k)
skipped p k zero fails = let same : k + zero ≡ k = omega arith in ap (λ (m : ℕ). filter p (range_with_len 0 m)) same
skipped p k (suc more) fails =
    let same : k + suc more ≡ k + more + 1 = omega arith in
    ap (λ (m : ℕ). filter p (range_with_len 0 m)) same
    ∙ one_miss p (k + more) (fails (k + more) (omega arith) (omega arith))
    ∙ skipped p k more (λ n above below. fails n above (omega arith))

-- from one bound to a later one
pub skip_to : (p : ℕ → Bool) (k to : ℕ) → k ≤ to → ((n : ℕ) → k ≤ n → n < to → p n ≡ false)
    → filter p (range_with_len 0 k) ≡ filter p (range_with_len 0 to)
skip_to p k to up fails =
    let same : k + (to - k) ≡ to = omega arith in
    sym (skipped p k (to - k) (λ n above below. fails n above (omega arith)))
    ∙ ap (λ (m : ℕ). filter p (range_with_len 0 m)) same

-- ---- SPANS

below_span : (n : ℕ) (s : Span) → n < s.first → is_in n s ≡ false
below_span n s less = and_left (leb s.first n) (leb n s.last) (lt-leb s.first n less)

above_span : (n : ℕ) (s : Span) → s.last < n → is_in n s ≡ false
above_span n s more = and_right (leb s.first n) (leb n s.last) (lt-leb n s.last more)

pub within_span : (n : ℕ) (s : Span) → s.first ≤ n → n ≤ s.last → is_in n s ≡ true
within_span n s low high = and_from (leb s.first n) (leb n s.last) (le-leb s.first n low) (le-leb n s.last high)

-- a number before the first of a span is in none from there on, nor in those that are passed
no_span : (spans : List Span) (k from next n : ℕ) → IsNonDecreasingBy (λ (s : Span). s.first) spans
    → ArePassed (take k spans) from next → from ≤ n → n < next
    → ((d : Span) → k < length spans → n < (get_or spans k d).first) → list_any (is_in n) spans ≡ false
no_span spans k from next n sorted passed above below before =
    list_any_none (is_in n) spans (λ j d less. elim (cases_lt j k) [
      | inl early ↦
          let out : is_in n (get_or (take k spans) j d) ≡ false =
          list_any-none (is_in n) (take k spans) (passed n above below) j d (rw length-take (omega arith)) in
          sym (ap (is_in n) (get_or-take k spans j d early)) ∙ out
      | inr late ↦
          let first : n < (get_or spans k d).first = before d (omega arith) in
          let up : (get_or spans k d).first ≤ (get_or spans j d).first = sorted k j d late less in
          below_span n (get_or spans j d) (omega arith)
    ])

-- what is found stays the same up to the first number of the span at a position
pub gap : (c : Complex) (kind : Kind) (spans : List Span) (k from to : ℕ) (d : Span)
    → IsNonDecreasingBy (λ (s : Span). s.first) spans → ArePassed (take k spans) from (next_of c kind)
    → k < length spans → from ≤ to → to ≤ next_of c kind → (from < to → to ≤ (get_or spans k d).first)
    → found_below c kind spans from ≡ found_below c kind spans to
gap c kind spans k from to d sorted passed within up top before =
    skip_to (is_found c kind spans) from to up (λ n above below.
    and_right (is_live c kind n) (list_any (is_in n) spans)
    (no_span spans k from (next_of c kind) n sorted passed above (omega arith)
    (λ e there.
    let same : get_or spans k d ≡ get_or spans k e = same_at spans k d e there in
    let least : to ≤ (get_or spans k d).first = before (omega arith) in
    let other : to ≤ (get_or spans k e).first = subst (λ (s : Span). to ≤ s.first) same least in
    omega arith)))
  where
    same_at : (xs : List Span) (i : ℕ) (d e : Span) → i < length xs → get_or xs i d ≡ get_or xs i e
    same_at [] i d e less = absurd (omega arith)
    same_at (x ∷ xs) zero d e less = refl
    same_at (x ∷ xs) (suc i) d e less = same_at xs i d e (omega arith)

-- a number of the span at a position is found where its element is there
pub hit : (c : Complex) (kind : Kind) (spans : List Span) (k n : ℕ) (d : Span) → k < length spans
    → (get_or spans k d).first ≤ n → n ≤ (get_or spans k d).last
    → is_live c kind n ≡ true → found_below c kind spans (n + 1) ≡ found_below c kind spans n ++ n ∷ []
hit c kind spans k n d within low high live =
    one_hit (is_found c kind spans) n (and_from (is_live c kind n) (list_any (is_in n) spans) live
    (list_any_at (is_in n) spans k d within (within_span n (get_or spans k d) low high)))

-- and isn't where it isn't
pub miss : (c : Complex) (kind : Kind) (spans : List Span) (n : ℕ) → is_live c kind n ≡ false
    → found_below c kind spans (n + 1) ≡ found_below c kind spans n
miss c kind spans n dead = one_miss (is_found c kind spans) n
    (and_left (is_live c kind n) (list_any (is_in n) spans) dead)

-- the span at a position is passed too
pub passed_more : (spans : List Span) (k from to next : ℕ) (d : Span) → ArePassed (take k spans) from next
    → k < length spans → from ≤ to
    → ((n : ℕ) → to ≤ n → n < next → (get_or spans k d).last < n) → ArePassed (take (k + 1) spans) to next
passed_more spans k from to next d passed within up past n above below =
    list_any_more (is_in n) spans k d within
    ∙ or_from (list_any (is_in n) (take k spans)) (is_in n (get_or spans k d)) (passed n (omega arith) below)
    (above_span n (get_or spans k d) (past n above below))

-- one number more of the span at a position is looked at
pub looked_at : (c : Complex) (kind : Kind) (spans : List Span) (k n : ℕ) (d : Span) (found new : List ℕ)
    → k < length spans → (get_or spans k d).first ≤ n → n ≤ (get_or spans k d).last
    → found ≡ found_below c kind spans n → new ≡ cond (is_live c kind n) (found ++ n ∷ []) found
    → new ≡ found_below c kind spans (n + 1)
looked_at c kind spans k n d found new within low high so_far grown = grown ∙ by (is_live c kind n) refl
  where
    by : (b : Bool) → is_live c kind n ≡ b → cond b (found ++ n ∷ []) found ≡ found_below c kind spans (n + 1)
    by true live = ap (λ ns. ns ++ n ∷ []) so_far ∙ sym (hit c kind spans k n d within low high live)
    by false dead = so_far ∙ sym (miss c kind spans n dead)

-- where all spans are passed, nothing more is found
pub all_found : (c : Complex) (kind : Kind) (spans : List Span) (k from : ℕ) → length spans ≤ k
    → ArePassed (take k spans) from (next_of c kind) → from ≤ next_of c kind
    → found_below c kind spans from ≡ found_below c kind spans (next_of c kind)
all_found c kind spans k from past passed below =
    skip_to (is_found c kind spans) from (next_of c kind) below (λ n above under.
    and_right (is_live c kind n) (list_any (is_in n) spans)
    (ap (list_any (is_in n)) (sym (take_all k spans past)) ∙ passed n above under))
