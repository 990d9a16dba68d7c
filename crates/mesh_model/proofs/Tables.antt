-- Tables of names: what stands at a name after each change, and when two tables are equal.
use Rattle.std.proofs.Common.{◌≡◌, ◌≢◌, ℕ, zero, suc, ◌+◌, ◌<◌, ◌≤◌, Bool, true, false, not, cond, eqb, ◌&&◌, ◌||◌}
use Rattle.std.proofs.Common.{List, [], ◌∷◌, ◌++◌, length, map, refl, sym, ap, ◌∙◌, ◌⊎◌, inl, inr, arith, Option, Some}
use Rattle.std.proofs.Common.{None, is_some}
use Rattle.std.specs.Prelude.{slice_set}
use Rattle.std.specs.List.{enumerate_from}
use Rattle.std.specs.Option.{option_map}
use Rattle.std.proofs.lemmas.List.{ext_get_or, length-set, length-map, get_or-set_same, get_or-set_other, get_or_past}
use Rattle.std.proofs.lemmas.List.{get_or_append_left}
use Rattle.std.proofs.lemmas.List.FromFn.{length-enumerate_from, length-map-range_with_len, get_or-map-range_with_len}
use Rattle.std.proofs.lemmas.List.FromFn.{map-range_with_len_more, fill_by_all}
use Rattle.std.proofs.lemmas.List.Sums.{sum_by-append, sum_by-set, sum_by-cons, count_by-le-length}
use Rattle.std.proofs.lemmas.Bool.{cases_eq, cases_lt, eq-eqb, eqb-true, ne_eqb, cond-false}
use Rattle.std.proofs.Math.Seq.{get_or-append_seam}
use Rattle.mesh_model.specs.Table.{at, IsThere, kept, kept_names, only_if, passes, erase, update, changed}
use Rattle.mesh_model.specs.Table.{changed_names, table_of, live}

-- ---- WHAT STANDS

-- a record that stands
pub stands : {X : Type 0} (o : Option X) → is_some o ≡ true → (x : X) × (o ≡ Some x)
stands None h = absurd (cc)
stands (Some x) h = (x, refl)

pub there_from : {X : Type 0} (table : List (Option X)) (n : ℕ) (x : X) → at table n ≡ Some x → IsThere table n
there_from table n x h = ap is_some h

-- what passes a test stands
pub there_passes : {X : Type 0} (test : X → Bool) (o : Option X) → passes test o ≡ true → is_some o ≡ true
there_passes test None h = absurd (cc)
there_passes test (Some x) h = refl

-- nothing stands past the end
pub at-past : {X : Type 0} (table : List (Option X)) (n : ℕ) → length table ≤ n → at table n ≡ None
at-past table n over = get_or_past table n None over

-- something stands only below the next name
pub at-below : {X : Type 0} (table : List (Option X)) (n : ℕ) (x : X) → at table n ≡ Some x → n < length table
at-below [] n x h = absurd (cc)
at-below (y ∷ ys) zero x h = omega arith
at-below (y ∷ ys) (suc n) x h = let less = at-below ys n x h in omega arith

pub there-below : {X : Type 0} (table : List (Option X)) (n : ℕ) → IsThere table n → n < length table
there-below table n h = let it = stands (at table n) h in at-below table n it.0 it.1

-- tables of the same length in which the same stands at each name
pub same_tables : {X : Type 0} (s t : List (Option X)) → length s ≡ length t → ((n : ℕ) → at s n ≡ at t n) → s ≡ t
same_tables s t long h = ext_get_or None s t long (λ i less. h i)

-- ---- WHAT STANDS IN ONE TABLE STANDS IN ANOTHER

abbrev pub Extends : {X : Type 0} → List (Option X) → List (Option X) → Type 0
Extends {X} old new = (n : ℕ) (x : X) → at old n ≡ Some x → at new n ≡ Some x

pub there-Extends : {X : Type 0} (old new : List (Option X)) → Extends old new → (n : ℕ) → IsThere old n → IsThere new n
there-Extends old new more n h = let it = stands (at old n) h in there_from new n it.0 (more n it.0 it.1)

pub passes-Extends : {X : Type 0} (test : X → Bool) (old new : List (Option X)) → Extends old new → (n : ℕ)
    → passes test (at old n) ≡ true → passes test (at new n) ≡ true
passes-Extends test old new more n h =
    let it = stands (at old n) (there_passes test (at old n) h) in
    ap (passes test) (more n it.0 it.1) ∙ sym (ap (passes test) it.1) ∙ h

-- ---- MORE RECORDS

pub Extends-append : {X : Type 0} (table more : List (Option X)) → Extends table (table ++ more)
Extends-append table more n x h = get_or_append_left table more None n (at-below table n x h) ∙ h

-- what stands after an append stood, or is the new record at the next name
pub at-append : {X : Type 0} (table : List (Option X)) (r x : X) (n : ℕ) → at (table ++ Some r ∷ []) n ≡ Some x
    → (at table n ≡ Some x) ⊎ ((n ≡ length table) × (x ≡ r))
at-append [] r x zero h = inr (refl, cc)
at-append [] r x (suc n) h = absurd (cc)
at-append (y ∷ ys) r x zero h = inl h
at-append (y ∷ ys) r x (suc n) h =
    elim (at-append ys r x n h) [ inl old ↦ inl old | inr new ↦ inr (ap (λ (k : ℕ). suc k) new.0, new.1) ]

pub at-append_new : {X : Type 0} (table : List (Option X)) (r : X) → at (table ++ Some r ∷ []) (length table) ≡ Some r
at-append_new table r = get_or-append_seam table (Some r) [] None

-- ---- FILTERS

pub length-kept : {X : Type 0} (test : X → Bool) (table : List (Option X)) → length (kept test table) ≡ length table
length-kept test table = length-map table (only_if test)

pub length-kept_names : {X : Type 0} (test : ℕ → Bool) (table : List (Option X))
    → length (kept_names test table) ≡ length table
length-kept_names test table = length-map (enumerate_from 0 table) _ ∙ length-enumerate_from 0 table

pub at-kept : {X : Type 0} (test : X → Bool) (table : List (Option X)) (n : ℕ)
    → at (kept test table) n ≡ only_if test (at table n)
at-kept test [] n = refl
at-kept test (x ∷ xs) zero = refl
at-kept test (x ∷ xs) (suc n) = at-kept test xs n

at-named : {X : Type 0} (test : ℕ → Bool) (m n : ℕ) (table : List (Option X))
    → at (map (λ e. only_if (λ _. test e.0) e.1) (enumerate_from m table)) n ≡ only_if (λ _. test (m + n)) (at table n)
at-named test m n [] = refl
at-named test m zero (x ∷ xs) = ap (λ (k : ℕ). only_if (λ _. test k) x) (omega arith)
at-named test m (suc n) (x ∷ xs) = at-named test (m + 1) n xs
    ∙ ap (λ (k : ℕ). only_if (λ _. test k) (at xs n)) (omega arith)

pub at-kept_names : {X : Type 0} (test : ℕ → Bool) (table : List (Option X)) (n : ℕ)
    → at (kept_names test table) n ≡ only_if (λ _. test n) (at table n)
at-kept_names test table n = at-named test 0 n table ∙ ap (λ (k : ℕ). only_if (λ _. test k) (at table n)) (omega arith)

only_if-cond : {X : Type 0} (b : Bool) (y x : X) → cond b (Some y) None ≡ Some x → (Some y ≡ Some x) × (b ≡ true)
only_if-cond true y x h = (h, refl)
only_if-cond false y x h = absurd (cc)

pub only_if-Some : {X : Type 0} (test : X → Bool) (o : Option X) (x : X) → only_if test o ≡ Some x
    → (o ≡ Some x) × (test x ≡ true)
only_if-Some test None x h = absurd (cc)
only_if-Some test (Some y) x h = let both = only_if-cond (test y) y x h in let same : y ≡ x = let e = both.0 in cc in
    (both.0, ap test (sym same) ∙ both.1)

pub only_if-pass : {X : Type 0} (test : X → Bool) (o : Option X) (x : X) → o ≡ Some x → test x ≡ true
    → only_if test o ≡ Some x
only_if-pass test o x is pass = ap (only_if test) is ∙ ap (λ (b : Bool). cond b (Some x) None) pass

only_if-true : {X : Type 0} (o : Option X) → only_if (λ _. true) o ≡ o
only_if-true None = refl
only_if-true (Some x) = refl

-- what a filter keeps stood, and passes
pub was-kept : {X : Type 0} (test : X → Bool) (table : List (Option X)) (n : ℕ) (x : X)
    → at (kept test table) n ≡ Some x → (at table n ≡ Some x) × (test x ≡ true)
was-kept test table n x h = only_if-Some test (at table n) x (sym (at-kept test table n) ∙ h)

pub was-kept_names : {X : Type 0} (test : ℕ → Bool) (table : List (Option X)) (n : ℕ) (x : X)
    → at (kept_names test table) n ≡ Some x → (at table n ≡ Some x) × (test n ≡ true)
was-kept_names test table n x h = only_if-Some (λ _. test n) (at table n) x (sym (at-kept_names test table n) ∙ h)

-- what stands and passes is kept
pub still-kept : {X : Type 0} (test : X → Bool) (table : List (Option X)) (n : ℕ) (x : X) → at table n ≡ Some x
    → test x ≡ true → at (kept test table) n ≡ Some x
still-kept test table n x is pass = at-kept test table n ∙ only_if-pass test (at table n) x is pass

pub still-kept_names : {X : Type 0} (test : ℕ → Bool) (table : List (Option X)) (n : ℕ) → test n ≡ true
    → at (kept_names test table) n ≡ at table n
still-kept_names {X = X} test table n pass = at-kept_names test table n
    ∙ ap (λ (b : Bool). only_if (λ (_ : X). b) (at table n)) pass ∙ only_if-true (at table n)

pub there-kept_names : {X : Type 0} (test : ℕ → Bool) (table : List (Option X)) (n : ℕ) → test n ≡ true
    → IsThere table n → IsThere (kept_names test table) n
there-kept_names test table n pass there = ap is_some (still-kept_names test table n pass) ∙ there

-- tests that agree on what stands keep the same
pub kept-same : {X : Type 0} (p q : X → Bool) (table : List (Option X))
    → ((n : ℕ) (x : X) → at table n ≡ Some x → p x ≡ q x) → kept p table ≡ kept q table
kept-same {X = X} p q table h = same_tables (kept p table) (kept q table) (length-kept p table
    ∙ sym (length-kept q table))
    (λ n. at-kept p table n ∙ agree (at table n) (h n) ∙ sym (at-kept q table n))
  where
    agree : (o : Option X) → ((x : X) → o ≡ Some x → p x ≡ q x) → only_if p o ≡ only_if q o
    agree None same = refl
    agree (Some x) same = ap (λ (b : Bool). cond b (Some x) None) (same x refl)

pub kept-all : {X : Type 0} (p : X → Bool) (table : List (Option X))
    → ((n : ℕ) (x : X) → at table n ≡ Some x → p x ≡ true) → kept p table ≡ table
kept-all {X = X} p table h = same_tables (kept p table) table (length-kept p table) (λ n. at-kept p table n
    ∙ stays (at table n) (h n))
  where
    stays : (o : Option X) → ((x : X) → o ≡ Some x → p x ≡ true) → only_if p o ≡ o
    stays None pass = refl
    stays (Some x) pass = ap (λ (b : Bool). cond b (Some x) None) (pass x refl)

pub kept_names-same : {X : Type 0} (p q : ℕ → Bool) (table : List (Option X)) → ((n : ℕ) → p n ≡ q n)
    → kept_names p table ≡ kept_names q table
kept_names-same {X = X} p q table h = same_tables (kept_names p table) (kept_names q table) (length-kept_names p table
    ∙ sym (length-kept_names q table))
    (λ n. at-kept_names p table n ∙ ap (λ (b : Bool). only_if (λ (_ : X). b) (at table n)) (h n)
    ∙ sym (at-kept_names q table n))

pub kept_names-all : {X : Type 0} (p : ℕ → Bool) (table : List (Option X)) → ((n : ℕ) → p n ≡ true)
    → kept_names p table ≡ table
kept_names-all p table h =
    same_tables (kept_names p table) table (length-kept_names p table) (λ n. still-kept_names p table n (h n))

-- ---- WRITES

pub at-set : {X : Type 0} (table : List (Option X)) (m n : ℕ) (x : Option X) → m < length table
    → at (slice_set table m x) n ≡ cond (eqb m n) x (at table n)
at-set table m n x less = elim (cases_eq m n) [
  | inl same ↦ rw (← same, eq-eqb m m refl) (get_or-set_same table m x None less)
  | inr other ↦ rw (ne_eqb m n other) (get_or-set_other table m n x None (λ e. other (sym e)))
]

pub length-erase : {X : Type 0} (table : List (Option X)) (m : ℕ) → length (erase table m) ≡ length table
length-erase table m = length-set table m None

pub at-erase : {X : Type 0} (table : List (Option X)) (m n : ℕ)
    → at (erase table m) n ≡ cond (eqb m n) None (at table n)
at-erase {X = X} table m n = elim (cases_lt m (length table)) [
  | inl less ↦ at-set table m n None less
  | inr past ↦ elim (cases_eq m n) [
    | inl same ↦ rw (← same, eq-eqb m m refl) (get_or_past (erase table m) m None (rw (length-erase table m) past))
    | inr other ↦ rw (ne_eqb m n other) (get_or-set_other table m n None None (λ e. other (sym e)))
  ]
]

pub at-erase_other : {X : Type 0} (table : List (Option X)) (m n : ℕ) → m ≢ n → at (erase table m) n ≡ at table n
at-erase_other table m n other = at-erase table m n ∙ cond-false (eqb m n) None (at table n) (ne_eqb m n other)

-- what stands after a record is taken away stood, at another name
pub was-erased : {X : Type 0} (table : List (Option X)) (m n : ℕ) (x : X) → at (erase table m) n ≡ Some x
    → (at table n ≡ Some x) × (m ≢ n)
was-erased {X = X} table m n x h = taken (eqb m n) refl (sym (at-erase table m n) ∙ h)
  where
    taken : (b : Bool) → eqb m n ≡ b → cond b None (at table n) ≡ Some x → (at table n ≡ Some x) × (m ≢ n)
    taken true same is = absurd (cc)
    taken false other is = (is, λ same. absurd (let yes = eq-eqb m n same in cc))

pub length-update : {X : Type 0} (table : List (Option X)) (m : ℕ) (change : X → X)
    → length (update table m change) ≡ length table
length-update table m change = length-set table m (option_map change (at table m))

pub at-update : {X : Type 0} (table : List (Option X)) (m n : ℕ) (change : X → X)
    → at (update table m change) n ≡ cond (eqb m n) (option_map change (at table n)) (at table n)
at-update {X = X} table m n change = elim (cases_lt m (length table)) [
  | inl less ↦ at-set table m n (option_map change (at table m)) less ∙ here (eqb m n) refl
  | inr past ↦ ap (λ (t : List (Option X)). at t n) (set_past table past) ∙ nothing (eqb m n) refl past
]
  where
    set_past : (t : List (Option X)) → length t ≤ m → update t m change ≡ t
    set_past t over = same_tables (update t m change) t (length-update t m change) (λ k. elim (cases_eq m k) [
      | inl same ↦ at-past (update t m change) k (rw (length-update t m change) (omega arith))
          ∙ sym (at-past t k (omega arith))
      | inr other ↦ get_or-set_other t m k (option_map change (at t m)) None (λ e. other (sym e))
    ])

    here : (b : Bool) → eqb m n ≡ b
        → cond b (option_map change (at table m)) (at table n) ≡ cond b (option_map change (at table n)) (at table n)
    here true same = ap (λ (k : ℕ). option_map change (at table k)) (eqb-true m n same)
    here false other = refl

    nothing : (b : Bool) → eqb m n ≡ b → length table ≤ m
        → at table n ≡ cond b (option_map change (at table n)) (at table n)
    nothing true same over = let none = at-past table n (let is = eqb-true m n same in omega arith) in rw none refl
    nothing false other over = refl

pub at-update_other : {X : Type 0} (table : List (Option X)) (m n : ℕ) (change : X → X) → m ≢ n
    → at (update table m change) n ≡ at table n
at-update_other table m n change other = at-update table m n change
    ∙ cond-false (eqb m n) (option_map change (at table n)) (at table n) (ne_eqb m n other)

-- what an update leaves stood before, or is the changed record
pub was-updated : {X : Type 0} (table : List (Option X)) (m n : ℕ) (change : X → X) (x : X)
    → at (update table m change) n ≡ Some x
    → (at table n ≡ Some x) ⊎ ((m ≡ n) × ((y : X) × (at table n ≡ Some y) × (x ≡ change y)))
was-updated {X = X} table m n change x h = written (eqb m n) refl (sym (at-update table m n change) ∙ h)
  where
    before : (o : Option X) → option_map change o ≡ Some x → (y : X) × (o ≡ Some y) × (x ≡ change y)
    before None is = absurd (cc)
    before (Some y) is = (y, refl, cc)

    written : (b : Bool) → eqb m n ≡ b → cond b (option_map change (at table n)) (at table n) ≡ Some x
        → (at table n ≡ Some x) ⊎ ((m ≡ n) × ((y : X) × (at table n ≡ Some y) × (x ≡ change y)))
    written true same is = inr (eqb-true m n same, before (at table n) is)
    written false other is = inl is

is_some-map : {X : Type 0} (change : X → X) (o : Option X) → is_some (option_map change o) ≡ is_some o
is_some-map change None = refl
is_some-map change (Some x) = refl

-- an update takes nothing away
pub is_there-update : {X : Type 0} (table : List (Option X)) (m n : ℕ) (change : X → X)
    → is_some (at (update table m change) n) ≡ is_some (at table n)
is_there-update {X = X} table m n change = ap is_some (at-update table m n change) ∙ either (eqb m n)
  where
    either : (b : Bool) → is_some (cond b (option_map change (at table n)) (at table n)) ≡ is_some (at table n)
    either true = is_some-map change (at table n)
    either false = refl

-- an update that changes what stands into itself
pub update-same : {X : Type 0} (table : List (Option X)) (m : ℕ) (change : X → X)
    → ((x : X) → at table m ≡ Some x → change x ≡ x) → update table m change ≡ table
update-same {X = X} table m change h =
    same_tables (update table m change) table (length-update table m change) (λ n. at-update table m n change
    ∙ stays n (eqb m n) refl)
  where
    fixed : (o : Option X) → ((x : X) → o ≡ Some x → change x ≡ x) → option_map change o ≡ o
    fixed None is = refl
    fixed (Some x) is = ap (λ (y : X). Some y) (is x refl)

    stays : (n : ℕ) (b : Bool) → eqb m n ≡ b → cond b (option_map change (at table n)) (at table n) ≡ at table n
    stays n true same = fixed (at table n) (λ x is. h x (ap (λ (k : ℕ). at table k) (eqb-true m n same) ∙ is))
    stays n false other = refl

-- two updates at a name are one
pub update-update : {X : Type 0} (table : List (Option X)) (m : ℕ) (f g : X → X)
    → update (update table m f) m g ≡ update table m (λ x. g (f x))
update-update {X = X} table m f g = same_tables (update (update table m f) m g) (update table m (λ x. g (f x)))
    (length-update (update table m f) m g ∙ length-update table m f ∙ sym (length-update table m (λ x. g (f x))))
    (λ n. at-update (update table m f) m n g
    ∙ ap (λ (o : Option X). cond (eqb m n) (option_map g o) o) (at-update table m n f) ∙ both (eqb m n) (at table n)
    ∙ sym (at-update table m n (λ x. g (f x))))
  where
    both : (b : Bool) (o : Option X) → cond b (option_map g (cond b (option_map f o) o)) (cond b (option_map f o) o)
        ≡ cond b (option_map (λ x. g (f x)) o) o
    both true None = refl
    both true (Some x) = refl
    both false o = refl

-- ---- CHANGES OF MANY

pub length-changed : {X : Type 0} (change : X → X) (table : List (Option X))
    → length (changed change table) ≡ length table
length-changed change table = length-map table (option_map change)

pub at-changed : {X : Type 0} (change : X → X) (table : List (Option X)) (n : ℕ)
    → at (changed change table) n ≡ option_map change (at table n)
at-changed change [] n = refl
at-changed change (x ∷ xs) zero = refl
at-changed change (x ∷ xs) (suc n) = at-changed change xs n

pub length-changed_names : {X : Type 0} (test : ℕ → Bool) (change : X → X) (table : List (Option X))
    → length (changed_names test change table) ≡ length table
length-changed_names test change table = length-map (enumerate_from 0 table) _ ∙ length-enumerate_from 0 table

cond-same : {X : Type 0} {x : X} (b : Bool) → cond b x x ≡ x
cond-same true = refl
cond-same false = refl

changed-from : {X : Type 0} (test : ℕ → Bool) (f : X → X) (m n : ℕ) (t : List (Option X))
    → at (map (λ e. cond (test e.0) (option_map f e.1) e.1) (enumerate_from m t)) n
    ≡ cond (test (m + n)) (option_map f (at t n)) (at t n)
changed-from test f m n [] = sym (cond-same (test (m + n)))
changed-from {X = X} test f m zero (x ∷ xs) = ap (λ (k : ℕ). cond (test k) (option_map f x) x) (omega arith)
changed-from test f m (suc n) (x ∷ xs) = changed-from test f (m + 1) n xs
    ∙ ap (λ (k : ℕ). cond (test k) (option_map f (at xs n)) (at xs n)) (omega arith)

pub at-changed_names : {X : Type 0} (test : ℕ → Bool) (change : X → X) (table : List (Option X)) (n : ℕ)
    → at (changed_names test change table) n ≡ cond (test n) (option_map change (at table n)) (at table n)
at-changed_names test change table n = changed-from test change 0 n table
    ∙ ap (λ (k : ℕ). cond (test k) (option_map change (at table n)) (at table n)) (omega arith)

pub changed_names-none : {X : Type 0} (test : ℕ → Bool) (change : X → X) (table : List (Option X))
    → ((n : ℕ) → test n ≡ false) → changed_names test change table ≡ table
changed_names-none test change table h =
    same_tables (changed_names test change table) table (length-changed_names test change table)
    (λ n. at-changed_names test change table n
    ∙ cond-false (test n) (option_map change (at table n)) (at table n) (h n))

-- ---- ONE NAME MORE

cond-only_if : {X : Type 0} (p same : Bool) (o : Option X)
    → cond same None (only_if (λ _. p) o) ≡ only_if (λ _. p && not same) o
cond-only_if true true None = refl
cond-only_if true true (Some x) = refl
cond-only_if true false o = refl
cond-only_if false true None = refl
cond-only_if false true (Some x) = refl
cond-only_if false false o = refl

-- one record more taken away is one name more that fails
pub erase-kept_names : {X : Type 0} (p q : ℕ → Bool) (m : ℕ) (table : List (Option X))
    → ((n : ℕ) → q n ≡ (p n && not (eqb m n))) → erase (kept_names p table) m ≡ kept_names q table
erase-kept_names {X = X} p q m table h = same_tables (erase (kept_names p table) m) (kept_names q table)
    (length-erase (kept_names p table) m ∙ length-kept_names p table ∙ sym (length-kept_names q table))
    (λ n. at-erase (kept_names p table) m n ∙ ap (λ (o : Option X). cond (eqb m n) None o) (at-kept_names p table n)
    ∙ cond-only_if (p n) (eqb m n) (at table n)
    ∙ ap (λ (b : Bool). only_if (λ (_ : X). b) (at table n)) (sym (h n)) ∙ sym (at-kept_names q table n))

one-changed : {X : Type 0} (a b : Bool) (x y z : X) → (b ≡ true → z ≡ x) → cond b z (cond a x y) ≡ cond (a || b) x y
one-changed true true x y z h = h refl
one-changed true false x y z h = refl
one-changed false true x y z h = h refl
one-changed false false x y z h = refl

-- one record more changed is one name more that passes
pub update-changed_names : {X : Type 0} (p q : ℕ → Bool) (m : ℕ) (f one : X → X) (table : List (Option X))
    → ((n : ℕ) → q n ≡ (p n || eqb m n)) → p m ≡ false → option_map one (at table m) ≡ option_map f (at table m)
    → update (changed_names p f table) m one ≡ changed_names q f table
update-changed_names {X = X} p q m f one table h apart same =
    same_tables (update (changed_names p f table) m one) (changed_names q f table)
    (length-update (changed_names p f table) m one ∙ length-changed_names p f table
    ∙ sym (length-changed_names q f table))
    (λ n. at-update (changed_names p f table) m n one
    ∙ ap (λ (o : Option X). cond (eqb m n) (option_map one o) o) (at-changed_names p f table n)
    ∙ one-changed (p n) (eqb m n) (option_map f (at table n)) (at table n)
    (option_map one (cond (p n) (option_map f (at table n)) (at table n)))
    (λ e. let is = eqb-true m n e in at_m n is)
    ∙ ap (λ (b : Bool). cond b (option_map f (at table n)) (at table n)) (sym (h n))
    ∙ sym (at-changed_names q f table n))
  where
    at_m : (n : ℕ) → m ≡ n
        → option_map one (cond (p n) (option_map f (at table n)) (at table n)) ≡ option_map f (at table n)
    at_m n is = ap (λ (k : ℕ). option_map one (cond (p k) (option_map f (at table k)) (at table k))) (sym is)
        ∙ ap (option_map one) (cond-false (p m) (option_map f (at table m)) (at table m) apart) ∙ same
        ∙ ap (λ (k : ℕ). option_map f (at table k)) is

-- ---- TABLES OF FUNCTIONS

pub length-table_of : {X : Type 0} (f : ℕ → Option X) (count : ℕ) → length (table_of f count) ≡ count
length-table_of f count = length-map-range_with_len f 0 count

pub at-table_of : {X : Type 0} (f : ℕ → Option X) (count n : ℕ) → n < count → at (table_of f count) n ≡ f n
at-table_of f count n less = get_or-map-range_with_len f 0 count n n None less (omega arith)

pub past-table_of : {X : Type 0} (f : ℕ → Option X) (count n : ℕ) → count ≤ n → at (table_of f count) n ≡ None
past-table_of f count n over = at-past (table_of f count) n (rw (length-table_of f count) over)

-- a function that gives nothing past the count
pub at-table_of_all : {X : Type 0} (f : ℕ → Option X) (count : ℕ) → ((n : ℕ) → count ≤ n → f n ≡ None) → (n : ℕ)
    → at (table_of f count) n ≡ f n
at-table_of_all f count none n =
    elim (cases_lt n count) [
      | inl less ↦ at-table_of f count n less
      | inr over ↦ past-table_of f count n over
          ∙ sym (none n over)
    ]

-- a table of what a function gives
pub is_table_of : {X : Type 0} (f : ℕ → Option X) (table : List (Option X)) (count : ℕ) → length table ≡ count
    → ((n : ℕ) → n < count → at table n ≡ f n) → table ≡ table_of f count
is_table_of f table count long is = fill_by_all f table count None long is

pub table_of-at : {X : Type 0} (table : List (Option X)) → table_of (λ n. at table n) (length table) ≡ table
table_of-at table = sym (is_table_of (λ n. at table n) table (length table) refl (λ n less. refl))

-- functions that give the same below the count
pub table_of-same : {X : Type 0} (f g : ℕ → Option X) (count : ℕ) → ((n : ℕ) → n < count → f n ≡ g n)
    → table_of f count ≡ table_of g count
table_of-same f g count same =
    is_table_of g (table_of f count) count (length-table_of f count) (λ n less. at-table_of f count n less
    ∙ same n less)

pub table_of-more : {X : Type 0} (f : ℕ → Option X) (count : ℕ)
    → table_of f (count + 1) ≡ table_of f count ++ f count ∷ []
table_of-more f count = map-range_with_len_more f 0 count count (omega arith)

-- ---- HOW MANY STAND

-- one if something stands
abbrev one_if : {X : Type 0} → Option X → ℕ
one_if o = cond (is_some o) 1 0

pub live-append : {X : Type 0} (table : List (Option X)) (r : X) → live (table ++ Some r ∷ []) ≡ live table + 1
live-append {X = X} table r = sum_by-append one_if table (Some r ∷ [])

pub live-set : {X : Type 0} (table : List (Option X)) (n : ℕ) (o : Option X) → n < length table
    → live (slice_set table n o) + one_if (at table n) ≡ live table + one_if o
live-set {X = X} table n o less = sum_by-set one_if table n o None less

pub live-erase : {X : Type 0} (table : List (Option X)) (n : ℕ) → IsThere table n
    → live (erase table n) + 1 ≡ live table
live-erase {X = X} table n there =
    let one : one_if (at table n) ≡ 1 = ap (λ (b : Bool). cond b 1 0) there in
    omega (arith, one, live-set table n None (there-below table n there))

one_if-only_if : {X : Type 0} (test : X → Bool) (o : Option X) → one_if (only_if test o) ≤ one_if o
one_if-only_if test None = omega arith
one_if-only_if {X = X} test (Some x) = fewer (test x)
  where
    fewer : (b : Bool) → one_if (cond b (Some x) None) ≤ 1
    fewer true = omega arith
    fewer false = omega arith

pub live-kept : {X : Type 0} (test : X → Bool) (table : List (Option X)) → live (kept test table) ≤ live table
live-kept test [] = omega arith
live-kept {X = X} test (o ∷ os) =
    omega (
      arith,
      live-kept test os,
      one_if-only_if test o,
      sum_by-cons one_if (only_if test o) (kept test os),
      sum_by-cons one_if o os,
    )

pub live-length : {X : Type 0} (table : List (Option X)) → live table ≤ length table
live-length table = count_by-le-length is_some table
