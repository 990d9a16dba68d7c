-- All values are taken out of a pool, the first that is left each time.
use Rattle.std.proofs.Common.{◌≡◌, ℕ, suc, ◌+◌, ◌-◌, ◌<◌, List, [], ◌∷◌, Option, Some, None, length, refl, sym, ap, ◌∙◌, subst, inl, inr, arith}
use Rattle.std.specs.Prelude.{slice_set, MatchOption}
use Rattle.std.specs.Option.{option_map}
use Rattle.std.proofs.lemmas.Bool.{cases_lt, cases_eq}
use Rattle.raw_pool.specs.declared.pool.Slot.{Slot}
use Rattle.raw_pool.specs.Slots.{spare_count, NoneLiveFrom, IsFirstLive}
use Rattle.raw_pool.proofs.SlotFacts.{spare_le}
use Rattle.mesh_store.specs.Slots.{at, vacated}
use Rattle.mesh_store.specs.Naming.{AreNamed}
use Rattle.mesh_store.proofs.Places.{written, unwritten}

-- the first live slot that is left, if there is one
abbrev pub FirstLeft : {X : Type 0} → Option Slot → List (Option X) → ℕ → Type 0
FirstLeft next xs low = MatchOption next (NoneLiveFrom xs low) (λ (t : Slot). IsFirstLive xs low t.0)

-- with one more vacant place, fewer are live
pub fewer_left : {X : Type 0} (old new : List (Option X)) → length new ≡ length old
    → spare_count new ≡ spare_count old + 1 → length new - spare_count new < length old - spare_count old
fewer_left old new same more = let most = spare_le new in omega arith

-- a list in which nothing is live
pub none_vacated : {X : Type 0} (xs : List (Option X)) → NoneLiveFrom xs 0 → xs ≡ vacated xs
none_vacated [] h = refl
none_vacated {X} (x ∷ xs) h =
    ap (λ (o : Option X). o ∷ xs) (h 0 (omega arith))
    ∙ ap (λ (ys : List (Option X)). None ∷ ys) (none_vacated xs (λ k l. h (suc k) (omega arith)))

-- where no cell is live, no name leads anywhere
pub none_named : {X : Type 0} (number : X → ℕ) (cells : List (Option X)) (names : List (Option Slot))
    → AreNamed number cells names → NoneLiveFrom cells 0 → NoneLiveFrom names 0
none_named {X} number cells names a h k l = by_name (at names k) refl
  where
    by_name : (o : Option Slot) → at names k ≡ o → o ≡ None
    by_name None e = refl
    by_name (Some s) e = absurd (let none : None ≡ Some k =
        sym (ap (option_map number) (h s.0 (omega arith))) ∙ a.live k s e in cc)

-- behind the slot that was taken out is the first that is left of all
pub first_left : {X : Type 0} (xs : List (Option X)) (s : ℕ) (next : Option Slot) → IsFirstLive xs 0 s → s < length xs
    → FirstLeft next (slice_set xs s None) (s + 1) → FirstLeft next (slice_set xs s None) 0
first_left {X} xs s next f low h = by_next next h
  where
    before : (k : ℕ) → k < s + 1 → at (slice_set xs s None) k ≡ None
    before k l = elim (cases_eq k s) [
      | inl e ↦ (let P = λ (j : ℕ). at (slice_set xs s None) j ≡ None in subst P (sym e) (written xs s None low))
      | inr n ↦ unwritten xs s k None n ∙ f.none k (omega arith) (omega arith)
    ]

    by_next : (o : Option Slot) → FirstLeft o (slice_set xs s None) (s + 1) → FirstLeft o (slice_set xs s None) 0
    by_next None g = λ k l. elim (cases_lt k (s + 1)) [ inl a ↦ before k a | inr b ↦ g k b ]
    by_next (Some t) g = record {
      from = omega arith;
      live = g.live;
      none = λ k l m. elim (cases_lt k (s + 1)) [ inl a ↦ before k a | inr b ↦ g.none k b m ];
    }
