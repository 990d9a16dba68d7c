-- Records of a table are taken away one by one.
use Rattle.std.proofs.Common.{◌≡◌, ◌<◌, ◌+◌, ◌⊎◌, ℕ, Bool, true, false, not, cond, is_some, List, Option, Some, None, length, get_or, refl, sym, ap, ◌∙◌, subst, inl, inr, arith}
use Rattle.std.specs.Prelude.{slice_set}
use Rattle.std.specs.List.{list_any}
use Rattle.std.proofs.lemmas.Bool.{false≢true, cases_eq, cases_lt}
use Rattle.std.proofs.lemmas.List.{length-set, length-map, get_or-set_same, get_or-set_other, get_or_past}
use Rattle.std.proofs.lemmas.List.FromFn.{fill_by_all}
use Rattle.std.proofs.lemmas.List.Folds.{list_any_at}
use Rattle.std.proofs.lemmas.List.Sums.{sum_by-set}
use Rattle.std.proofs.Math.ListN.{get_or-map}
use Rattle.mesh_model.specs.Table.{at, passes, only_if, kept, live}
use Rattle.mesh_records.specs.Gone.{SomeGone}

-- lists are equal where they are equally long and have the same at each place
same_entries : {X : Type 0} (d : X) (xs ys : List X) → length xs ≡ length ys
    → ((k : ℕ) → k < length ys → get_or xs k d ≡ get_or ys k d) → xs ≡ ys
same_entries d xs ys long h =
    fill_by_all (λ (k : ℕ). get_or ys k d) xs (length ys) d long h
    ∙ sym (fill_by_all (λ (k : ℕ). get_or ys k d) ys (length ys) d refl (λ k lt. refl))

-- ---- what passes a test

-- what passes is there
there : {X : Type 0} (test : X → Bool) (o : Option X) → passes test o ≡ true → is_some o ≡ true
there test None h = absurd (false≢true h)
there test (Some x) h = refl

pub passes_there : {X : Type 0} (test : X → Bool) (xs : List (Option X)) (k : ℕ) → passes test (at xs k) ≡ true
    → is_some (at xs k) ≡ true
passes_there test xs k h = there test (at xs k) h

pub passes_below : {X : Type 0} (test : X → Bool) (xs : List (Option X)) (k : ℕ) → passes test (at xs k) ≡ true
    → k < length xs
passes_below test xs k h = elim (cases_lt k (length xs)) [
  | inl lt ↦ lt
  | inr ge ↦ absurd (false≢true (ap (passes test) (sym (get_or_past xs k None ge)) ∙ h))
]

-- where none of a table passes, none at a name does
pub none_passes : {X : Type 0} (test : X → Bool) (xs : List (Option X)) → not (list_any (passes test) xs) ≡ true
    → (k : ℕ) → passes test (at xs k) ≡ true → ⊥
none_passes test xs none k h = false≢true (ap not (sym (list_any_at (passes test) xs k None (passes_below test xs k h)
    h)) ∙ none)

-- what stands, if it doesn't pass, is as before, or nothing is left of what passes
kept_if : {X : Type 0} (b : Bool) (x : X)
    → (cond (not b) (Some x) None ≡ Some x) ⊎ ((cond (not b) (Some x) None ≡ None) × (b ≡ true))
kept_if true x = inr (refl, refl)
kept_if false x = inl refl

kept_or : {X : Type 0} (test : X → Bool) (o : Option X)
    → (only_if (λ (x : X). not (test x)) o ≡ o) ⊎ ((only_if (λ (x : X). not (test x)) o ≡ None)
    × (passes test o ≡ true))
kept_or test None = inl refl
kept_or test (Some x) = kept_if (test x) x

passes_if : {X : Type 0} (other : X → Bool) (b : Bool) (x : X) → passes other (cond b (Some x) None) ≡ true
    → (other x ≡ true) × (b ≡ true)
passes_if other true x h = (h, refl)
passes_if other false x h = absurd (false≢true h)

-- what passes of what is kept passed both tests
pub passes_kept : {X : Type 0} (test other : X → Bool) (o : Option X) → passes other (only_if test o) ≡ true
    → (passes other o ≡ true) × (passes test o ≡ true)
passes_kept test other None h = absurd (false≢true h)
passes_kept test other (Some x) h = passes_if other (test x) x h

pub at_kept : {X : Type 0} (test : X → Bool) (xs : List (Option X)) (k : ℕ)
    → at (kept test xs) k ≡ only_if test (at xs k)
at_kept test xs k = get_or-map (only_if test) xs k None

-- nothing passes a test and the opposite one
pub not_both : {X : Type 0} (test : X → Bool) (o : Option X) → passes test o ≡ true
    → passes (λ (x : X). not (test x)) o ≡ true → ⊥
not_both test None a b = false≢true a
not_both test (Some x) a b = false≢true (ap not (sym a) ∙ b)

-- ---- what is gone

pub none_gone : {X : Type 0} (test : X → Bool) (xs : List (Option X)) → SomeGone test xs xs
none_gone test xs = record { long = refl; each = λ k. inl refl }

module _ {X : Type 0} (test : X → Bool) (old mid : List (Option X)) (l : SomeGone test old mid) where
  -- what passes now stood before
  pub stood : (other : X → Bool) (k : ℕ) → passes other (at mid k) ≡ true → at mid k ≡ at old k
  stood other k h = elim (l.each k) [ inl s ↦ s | inr g ↦ absurd (false≢true (ap (passes other) (sym g.0) ∙ h)) ]

  -- one more is gone
  pub one_gone : (f : ℕ) → passes test (at mid f) ≡ true → SomeGone test old (slice_set mid f None)
  one_gone f h =
      let none : Option X = None in
      record {
        long = length-set mid f none ∙ l.long;
        each = λ k. elim (cases_eq k f) [
          | inl q ↦
              let P = λ (j : ℕ). at (slice_set mid f none) j ≡ none in
              let Q = λ (j : ℕ). passes test (at old j) ≡ true in
              inr (
                subst P (sym q) (get_or-set_same mid f none none (passes_below test mid f h)),
                subst Q (sym q) (ap (passes test) (sym (stood test f h)) ∙ h),
              )
          | inr ne ↦ (let other = get_or-set_other mid f k none none ne in elim (l.each k)
              [ inl s ↦ inl (other ∙ s) | inr g ↦ inr (other ∙ g.0, g.1) ])
        ];
      }

  -- all are gone that pass another test
  pub more_gone : (other : X → Bool) → ((k : ℕ) → passes other (at mid k) ≡ true → passes test (at old k) ≡ true)
      → SomeGone test old (kept (λ (x : X). not (other x)) mid)
  more_gone other h = record {
    long = length-map mid (only_if (λ (x : X). not (other x))) ∙ l.long;
    each = λ k. (let e = at_kept (λ (x : X). not (other x)) mid k in elim (kept_or other (at mid k)) [
      | inl s ↦ elim (l.each k) [ inl a ↦ inl (e ∙ s ∙ a) | inr g ↦ inr (e ∙ s ∙ g.0, g.1) ]
      | inr t ↦ inr (e ∙ t.0, h k t.1)
    ]);
  }

  -- where none is left that passes, all those are gone, and no others
  pub all_gone : ((k : ℕ) → passes test (at mid k) ≡ true → ⊥) → mid ≡ kept (λ (x : X). not (test x)) old
  all_gone none =
      same_entries None mid (kept (λ (x : X). not (test x)) old)
      (l.long ∙ sym (length-map old (only_if (λ (x : X). not (test x))))) (λ k lt.
      let e = at_kept (λ (x : X). not (test x)) old k in
      elim (kept_or test (at old k)) [
        | inl s ↦ elim (l.each k) [ inl a ↦ a ∙ sym s ∙ sym e | inr g ↦ absurd (gone (at old k) s g.1) ]
        | inr t ↦ elim (l.each k) [ inl a ↦ absurd (none k (ap (passes test) a ∙ t.1)) | inr g ↦ g.0 ∙ sym t.0 ∙ sym e ]
      ])
    where
      gone : (o : Option X) → only_if (λ (x : X). not (test x)) o ≡ o → passes test o ≡ true → ⊥
      gone None s h = false≢true h
      gone (Some x) s h = let q : None ≡ Some x =
          ap (λ (b : Bool). cond (not b) (Some x) None) (sym h) ∙ s in let bad : ⊥ = cc in bad

-- one less is there
pub fewer : {X : Type 0} (test : X → Bool) (xs : List (Option X)) (f : ℕ) → passes test (at xs f) ≡ true
    → live (slice_set xs f None) < live xs
fewer {X} test xs f h =
    let none : Option X = None in
    let count : Option X → ℕ = λ o. cond (is_some o) 1 0 in
    let one : count (at xs f) ≡ 1 = ap (λ (b : Bool). cond b 1 0) (passes_there test xs f h) in
    let set : live (slice_set xs f none) + count (at xs f) ≡ live xs + 0 =
    sum_by-set count xs f none none (passes_below test xs f h) in
    let less : live (slice_set xs f none) + 1 ≡ live xs =
    ap (λ (k : ℕ). live (slice_set xs f none) + k) (sym one) ∙ set ∙ (omega arith) in
    omega arith
