-- Tables: what one function gives at each number below a bound.
use Rattle.std.proofs.Common.{◌≡◌, ◌≢◌, ℕ, ◌+◌, ◌<◌, ◌≤◌, true, is_some, Option, None, List, [], ◌∷◌, ◌++◌, length, get_or, sym, ap, ◌∙◌, subst, inl, inr, arith}
use Rattle.std.specs.Prelude.{slice_set}
use Rattle.std.specs.Option.{option_map}
use Rattle.std.proofs.lemmas.List.{length-set, get_or-set_same, get_or-set_other, get_or_past}
use Rattle.std.proofs.lemmas.List.FromFn.{length-map-range_with_len, get_or-map-range_with_len, map-range_with_len_more, fill_by_all}
use Rattle.std.proofs.lemmas.Bool.{cases_eq, cases_lt, false≢true}
use Rattle.mesh_model.specs.Table.{update}
use Rattle.mesh_records.specs.ReadOff.{table}
use Rattle.mesh_records.specs.Changes.{with_last}

module _ {X : Type 0} (d : X) (f : ℕ → X) where
  pub at_table : (n k : ℕ) → k < n → get_or (table f n) k d ≡ f k
  at_table n k h = get_or-map-range_with_len f 0 n k k d h (omega arith)

  -- a table with the same entries
  pub table_same : (g : ℕ → X) (n : ℕ) → ((k : ℕ) → k < n → g k ≡ f k) → table g n ≡ table f n
  table_same g n h = sym (fill_by_all g (table f n) n d (length-map-range_with_len f 0 n)
      (λ k lt. at_table n k lt ∙ sym (h k lt)))

  -- one entry more
  pub table_more : (g : ℕ → X) (n : ℕ) (x : X) → ((k : ℕ) → k < n → g k ≡ f k) → g n ≡ x
      → table g (n + 1) ≡ table f n ++ x ∷ []
  table_more g n x h e =
      map-range_with_len_more g 0 n n (omega arith)
      ∙ ap (λ (xs : List X). xs ++ g n ∷ []) (table_same g n h)
      ∙ ap (λ (y : X). table f n ++ y ∷ []) e

  -- one entry changed
  pub table_set : (g : ℕ → X) (n k : ℕ) (x : X) → k < n → g k ≡ x → ((j : ℕ) → j < n → j ≢ k → g j ≡ f j)
      → table g n ≡ slice_set (table f n) k x
  table_set g n k x low e h =
      let long : length (table f n) ≡ n = length-map-range_with_len f 0 n in
      sym (fill_by_all g (slice_set (table f n) k x) n d (length-set (table f n) k x ∙ long)
      (λ j lt. elim (cases_eq j k) [
        | inl p ↦
            let P = λ (i : ℕ). get_or (slice_set (table f n) k x) i d ≡ g i in
            subst P (sym p) (get_or-set_same (table f n) k x d (omega arith) ∙ sym e)
        | inr ne ↦ get_or-set_other (table f n) k j x d ne ∙ at_table n j lt ∙ sym (h j lt ne)
      ]))

-- a table is as long as its bound
pub length_table : {X : Type 0} (f : ℕ → X) (n : ℕ) → length (table f n) ≡ n
length_table f n = length-map-range_with_len f 0 n

-- two entries changed
pub table_set_two : {X : Type 0} (d : X) (f g : ℕ → X) (n a b : ℕ) (x y : X) → a < n → b < n → a ≢ b → g a ≡ x → g b ≡ y
    → ((j : ℕ) → j < n → j ≢ a → j ≢ b → g j ≡ f j)
    → table g n ≡ slice_set (slice_set (table f n) a x) b y
table_set_two {X} d f g n a b x y la lb differ p q h =
    let long : length (slice_set (table f n) a x) ≡ n = length-set (table f n) a x ∙ length-map-range_with_len f 0 n in
    let one : List X = slice_set (table f n) a x in
    sym (fill_by_all g (slice_set one b y) n d (length-set one b y ∙ long) (λ j lt. elim (cases_eq j b) [
      | inl e ↦
          let P = λ (i : ℕ). get_or (slice_set one b y) i d ≡ g i in
          subst P (sym e) (get_or-set_same one b y d (omega arith) ∙ sym q)
      | inr nb ↦ get_or-set_other one b j y d nb ∙ elim (cases_eq j a) [
        | inl e ↦
            let long' : length (table f n) ≡ n = length-map-range_with_len f 0 n in
            let P = λ (i : ℕ). get_or one i d ≡ g i in
            subst P (sym e) (get_or-set_same (table f n) a x d (omega arith) ∙ sym p)
        | inr na ↦ get_or-set_other (table f n) a j x d na ∙ at_table d f n j lt ∙ sym (h j lt na nb)
      ]
    ]))

-- what stands in a table is below its bound
pub below_bound : {X : Type 0} (f : ℕ → Option X) (n k : ℕ) → is_some (get_or (table f n) k None) ≡ true
    → (k < n) × (is_some (f k) ≡ true)
below_bound {X} f n k h = elim (cases_lt k n) [
  | inl lt ↦ (lt, ap (λ (o : Option X). is_some o) (sym (at_table None f n k lt)) ∙ h)
  | inr ge ↦
      let long : length (table f n) ≡ n = length-map-range_with_len f 0 n in
      absurd (false≢true (ap (λ (o : Option X). is_some o) (sym (get_or_past (table f n) k None (omega arith))) ∙ h))
]

-- a list of a table gets one more
pub with_two : {X : Type 0} (f g : ℕ → List X) (n a b : ℕ) (e : X) → a < n → b < n → a ≢ b → g a ≡ f a ++ e ∷ []
    → g b ≡ f b ++ e ∷ [] → ((j : ℕ) → j < n → j ≢ a → j ≢ b → g j ≡ f j)
    → table g n ≡ with_last (with_last (table f n) a e) b e
with_two {X} f g n a b e la lb differ p q h =
    let at_a = at_table [] f n a la in
    let at_b = get_or-set_other (table f n) a b (get_or (table f n) a [] ++ e ∷ []) [] (λ r. differ (sym r))
    ∙ at_table [] f n b lb in
    table_set_two [] f g n a b (get_or (table f n) a [] ++ e ∷ [])
    (get_or (slice_set (table f n) a (get_or (table f n) a [] ++ e ∷ [])) b [] ++ e ∷ []) la lb differ
    (p ∙ ap (λ (xs : List X). xs ++ e ∷ []) (sym at_a)) (q ∙ ap (λ (xs : List X). xs ++ e ∷ []) (sym at_b)) h

-- a table has what its function gives where that gives nothing past the bound
pub at_all : {X : Type 0} (f : ℕ → Option X) (n : ℕ) → ((k : ℕ) → n ≤ k → f k ≡ None) → (k : ℕ)
    → get_or (table f n) k None ≡ f k
at_all f n past k = elim (cases_lt k n) [
  | inl lt ↦ at_table None f n k lt
  | inr ge ↦ (let long = length_table f n in get_or_past (table f n) k None (omega arith) ∙ sym (past k ge))
]

-- one entry changed by a function
pub table_updated : {X : Type 0} (f g : ℕ → Option X) (n k : ℕ) (change : X → X) → k < n
    → g k ≡ option_map change (f k) → ((j : ℕ) → j < n → j ≢ k → g j ≡ f j)
    → table g n ≡ update (table f n) k change
table_updated {X} f g n k change low here besides =
    table_set None f g n k (option_map change (get_or (table f n) k None)) low
    (here ∙ ap (option_map change) (sym (at_table None f n k low))) besides
