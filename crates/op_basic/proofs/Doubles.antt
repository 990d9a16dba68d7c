-- In a sorted list the least number that stands twice is the first that is equal to the one after it.
use Rattle.std.proofs.Common.{◌≡◌, ◌≢◌, ℕ, zero, suc, ◌+◌, ◌<◌, ◌≤◌, Bool, true, false, cond, eqb, nat_le, List, [], ◌∷◌}
use Rattle.std.proofs.Common.{length, map, get_or, refl, sym, ap, ◌∙◌, subst, inl, inr, arith, Option, Some, None, find}
use Rattle.std.specs.List.{range_with_len, count_by}
use Rattle.std.specs.List.Sorted.{IsSorted, IsPermutation}
use Rattle.std.specs.Ordering.{nat_cmp}
use Rattle.std.specs.Option.{option_map}
use Rattle.std.proofs.lemmas.Bool.{cases_eq, cond-true, cond-false, eq-eqb, ne_eqb, le-leb}
use Rattle.std.proofs.lemmas.Map.Keys.{ge_from_not_lt}
use Rattle.std.proofs.lemmas.List.Sums.{sum_by-cons}
use Rattle.std.proofs.lemmas.List.Sorted.{sum_by-IsPermutation}
use Rattle.mesh_model.specs.Complex.{Complex}
use Rattle.mesh_model.specs.Naming.{vert_numbers}
use Rattle.mesh_model.specs.declared.names.VertName.{VertName}
use Rattle.op_basic.specs.Making.{least_repeated}
use Rattle.op_basic.specs.Searching.{first_double}
use Rattle.op_basic.proofs.Pairs.{find_from, find_nothing}

abbrev vert : ℕ → VertName
vert n = record { 0 = n }

-- how often a number stands in a list
abbrev times : List ℕ → ℕ → ℕ
times ns n = count_by (λ (m : ℕ). eqb m n) ns

times-cons : (m : ℕ) (ms : List ℕ) (n : ℕ) → times (m ∷ ms) n ≡ cond (eqb m n) 1 0 + times ms n
times-cons m ms n = sum_by-cons (λ (y : ℕ). cond (eqb y n) 1 0) m ms

times-here : (m : ℕ) (ms : List ℕ) (n : ℕ) → m ≡ n → times (m ∷ ms) n ≡ 1 + times ms n
times-here m ms n same = times-cons m ms n ∙ ap (λ (b : Bool). cond b 1 0 + times ms n) (eq-eqb m n same)

times-past : (m : ℕ) (ms : List ℕ) (n : ℕ) → m ≢ n → times (m ∷ ms) n ≡ times ms n
times-past m ms n other = times-cons m ms n ∙ ap (λ (b : Bool). cond b 1 0 + times ms n) (ne_eqb m n other)
    ∙ nothing (times ms n)
  where
    nothing : (k : ℕ) → 0 + k ≡ k
    nothing k = omega arith

-- each is at most the one after it
abbrev Ascends : List ℕ → Type 0
Ascends ns = (k : ℕ) (d : ℕ) → suc k < length ns → get_or ns k d ≤ get_or ns (suc k) d

pub ascends : (ns : List ℕ) → IsSorted nat_cmp ns → Ascends ns
ascends ns h k d less =
    let next : k + 1 ≡ suc k = omega arith in
    subst (λ (j : ℕ). get_or ns k d ≤ get_or ns j d) next
    (ge_from_not_lt (get_or ns (k + 1) d) (get_or ns k d) (h k d (omega arith) (omega arith)))

tail_ascends : (n : ℕ) (ns : List ℕ) → Ascends (n ∷ ns) → Ascends ns
tail_ascends n ns h k d less = h (suc k) d (omega arith)

-- a number below the first stands nowhere
none_below : (n m : ℕ) (ms : List ℕ) → Ascends (m ∷ ms) → n < m → times (m ∷ ms) n ≡ 0
none_below n m [] h less = times-past m [] n (λ same. absurd (omega arith))
none_below n m (k ∷ ks) h less =
    let next : m ≤ k = h 0 0 (omega arith) in
    times-past m (k ∷ ks) n (λ same. absurd (omega arith))
    ∙ none_below n k ks (tail_ascends m (k ∷ ks) h) (omega arith)

find_same : (p q : VertName → Bool) (vs : List VertName) → ((v : VertName) → p v ≡ q v) → find p vs ≡ find q vs
find_same p q [] h = refl
find_same p q (v ∷ vs) h = rw (h v, find_same p q vs h) refl

-- the least number that stands twice
abbrev twice_in : List ℕ → ℕ → Option VertName
twice_in ns count = find (λ (v : VertName). nat_le 2 (times ns v.0)) (map vert (range_with_len 0 count))

first_past : (m n : ℕ) (ns : List ℕ) → Ascends (m ∷ n ∷ ns) → m ≢ n → (k : ℕ)
    → nat_le 2 (times (m ∷ n ∷ ns) k) ≡ nat_le 2 (times (n ∷ ns) k)
first_past m n ns h other k =
    let next : m ≤ n = h 0 0 (omega arith) in
    elim (cases_eq m k) [
      | inl same ↦
          let gone : times (n ∷ ns) k ≡ 0 = none_below k n ns (tail_ascends m (n ∷ ns) h) (omega arith) in
          ap (nat_le 2) (times-here m (n ∷ ns) k same) ∙ rw gone refl
      | inr off ↦ ap (nat_le 2) (times-past m (n ∷ ns) k off)
    ]

pub first_twice : (ns : List ℕ) (count : ℕ) → Ascends ns → ((k d : ℕ) → k < length ns → get_or ns k d < count)
    → twice_in ns count ≡ option_map vert (first_double ns)
first_twice [] count h below = find_nothing (λ (v : VertName). nat_le 2 (times [] v.0)) 0 count (λ j. refl)
first_twice (m ∷ []) count h below = find_nothing (λ (v : VertName). nat_le 2 (times (m ∷ []) v.0)) 0 count
    (λ j. elim (cases_eq m j) [
      | inl same ↦ ap (nat_le 2) (times-here m [] j same)
      | inr other ↦ ap (nat_le 2) (times-past m [] j other)
    ])
first_twice (m ∷ n ∷ ns) count h below = elim (cases_eq m n) [
  | inl same ↦
      let here : times (m ∷ n ∷ ns) m ≡ 1 + (1 + times ns m) =
      times-here m (n ∷ ns) m refl ∙ ap (λ (k : ℕ). 1 + k) (times-here n ns m (sym same)) in
      find_from (λ (v : VertName). nat_le 2 (times (m ∷ n ∷ ns) v.0)) 0 count m (omega arith)
      (let less = below 0 0 (omega arith) in omega arith)
      (ap (nat_le 2) here ∙ le-leb 2 (1 + (1 + times ns m)) (omega arith))
      (λ j least less. ap (nat_le 2) (none_below j m (n ∷ ns) h less))
      ∙ sym (ap (option_map vert) (cond-true (eqb m n) (Some m) (first_double (n ∷ ns)) (eq-eqb m n same)))
  | inr other ↦
      find_same (λ (v : VertName). nat_le 2 (times (m ∷ n ∷ ns) v.0)) (λ (v : VertName). nat_le 2 (times (n ∷ ns) v.0))
      (map vert (range_with_len 0 count)) (λ v. first_past m n ns h other v.0)
      ∙ first_twice (n ∷ ns) count (tail_ascends m (n ∷ ns) h) (λ k d less. below (suc k) d (omega arith))
      ∙ sym (ap (option_map vert) (cond-false (eqb m n) (Some m) (first_double (n ∷ ns)) (ne_eqb m n other)))
]

-- names are counted as their numbers are
times_named : (vs : List VertName) (n : ℕ) → count_by (λ (w : VertName). eqb w.0 n) vs ≡ times (vert_numbers vs) n
times_named [] n = refl
times_named (v ∷ vs) n = sum_by-cons (λ (w : VertName). cond (eqb w.0 n) 1 0) v vs
    ∙ ap (λ (k : ℕ). cond (eqb v.0 n) 1 0 + k) (times_named vs n) ∙ sym (times-cons v.0 (vert_numbers vs) n)

-- the least vertex that stands twice, by the sorted numbers
pub repeated_sorted : (c : Complex) (vs : List VertName) (ns : List ℕ) → IsPermutation (vert_numbers vs) ns
    → IsSorted nat_cmp ns → ((k d : ℕ) → k < length ns → get_or ns k d < length c.verts)
    → least_repeated c vs ≡ option_map vert (first_double ns)
repeated_sorted c vs ns same sorted below =
    find_same (λ (v : VertName). nat_le 2 (count_by (λ (w : VertName). eqb w.0 v.0) vs))
    (λ (v : VertName). nat_le 2 (times ns v.0)) (map vert (range_with_len 0 (length c.verts)))
    (λ v. ap (nat_le 2) (times_named vs v.0
    ∙ sym (sum_by-IsPermutation (λ (m : ℕ). cond (eqb m v.0) 1 0) (vert_numbers vs) ns same)))
    ∙ first_twice ns (length c.verts) (ascends ns sorted) below

-- a sorted list without a double rises
pub rises : (ns : List ℕ) → IsSorted nat_cmp ns → first_double ns ≡ None → (k d : ℕ) → suc k < length ns
    → get_or ns k d < get_or ns (suc k) d
rises ns sorted none k d less = upto ns (ascends ns sorted) none k d less
  where
    split : (m n : ℕ) (ns : List ℕ) (b : Bool) → eqb m n ≡ b → cond b (Some m) (first_double (n ∷ ns)) ≡ None
        → (eqb m n ≡ false) × (first_double (n ∷ ns) ≡ None)
    split m n ns true is h = absurd (cc)
    split m n ns false is h = (is, h)

    upto : (ns : List ℕ) → Ascends ns → first_double ns ≡ None → (k d : ℕ) → suc k < length ns
        → get_or ns k d < get_or ns (suc k) d
    upto [] h none k d less = absurd (omega arith)
    upto (m ∷ []) h none k d less = absurd (omega arith)
    upto (m ∷ n ∷ ns) h none zero d less =
        let next : m ≤ n = h 0 d (omega arith) in
        let apart = (split m n ns (eqb m n) refl none).0 in
        elim (cases_eq m n) [
          | inl same ↦ absurd (let wrong : true ≡ false = sym (eq-eqb m n same) ∙ apart in cc)
          | inr other ↦ omega arith
        ]
    upto (m ∷ n ∷ ns) h none (suc k) d less =
        upto (n ∷ ns) (tail_ascends m (n ∷ ns) h) (split m n ns (eqb m n) refl none).1 k d (omega arith)
