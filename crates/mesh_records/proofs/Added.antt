-- One element is added with a row of values: what is there besides stays.
use Rattle.std.proofs.Common.{◌≡◌, ◌≢◌, ◌<◌, ◌+◌, ℕ, ℤ, List, Option, Some, None, length, sym, ap, ◌∙◌, arith}
use Rattle.std.specs.Prelude.{slice_set}
use Rattle.std.specs.Option.{option_map}
use Rattle.std.proofs.lemmas.List.{length-set}
use Rattle.cust_data.specs.Layers.{LayerTable, row_of, with_row}
use Rattle.raw_pool.specs.Slots.{spare_count}
use Rattle.mesh_store.specs.Slots.{at}
use Rattle.mesh_store.proofs.Places.{written, unwritten}
use Rattle.mesh_records.specs.Frames.{SameSize}
use Rattle.mesh_records.specs.Whole.{IsFew}
use Rattle.mesh_records.proofs.Values.{row_written, row_unwritten}

module _ {X Z : Type 0} (tell : X → List ℤ → Z) (cells : List (Option X)) (t : LayerTable) (s : ℕ) (c : X)
    (row : List ℤ) where
  -- elsewhere the same is told
  pub told_beside : (k : ℕ) → k ≢ s → option_map (λ (x : X). tell x (row_of (with_row t s row) k))
      (at (slice_set cells s (Some c)) k) ≡ option_map (λ (x : X). tell x (row_of t k)) (at cells k)
  told_beside k ne =
      ap (option_map (λ (x : X). tell x (row_of (with_row t s row) k))) (unwritten cells s k (Some c) ne)
      ∙ ap (λ (r : List ℤ). option_map (λ (x : X). tell x r) (at cells k)) (row_unwritten t s k row ne)

  -- so it is of what was there, where nothing was at the place
  pub told_before : at cells s ≡ None → (k : ℕ) (z : Z)
      → option_map (λ (x : X). tell x (row_of t k)) (at cells k) ≡ Some z
      → option_map (λ (x : X). tell x (row_of (with_row t s row) k)) (at (slice_set cells s (Some c)) k) ≡ Some z
  told_before vacant k z e =
      told_beside k (λ q. let none : None ≡ option_map (λ (x : X). tell x (row_of t k)) (at cells k) =
      sym (ap (λ (j : ℕ). option_map (λ (x : X). tell x (row_of t k)) (at cells j)) q
      ∙ ap (option_map (λ (x : X). tell x (row_of t k))) vacant) in let no : None ≡ Some z = none ∙ e in cc)
      ∙ e

  -- and at the place the new one
  pub told_here : s < length cells → s < length t.rows
      → option_map (λ (x : X). tell x (row_of (with_row t s row) s)) (at (slice_set cells s (Some c)) s)
      ≡ Some (tell c row)
  told_here low rows =
      ap (option_map (λ (x : X). tell x (row_of (with_row t s row) s))) (written cells s (Some c) low)
      ∙ ap (λ (r : List ℤ). Some (tell c r)) (row_written t s row rows)

-- ---- sizes

-- one more, with a name of its own
pub few_added : {X : Type 0} (xs : List (Option X)) (s : ℕ) (c : X) (given : ℕ) → IsFew xs given
    → spare_count (slice_set xs s (Some c)) + 1 ≡ spare_count xs → IsFew (slice_set xs s (Some c)) (given + 1)
few_added xs s c given f spare =
    let long = length-set xs s (Some c) in
    let live = f.live in
    let small = f.small in
    record { live = omega arith; small = omega arith }

pub few_more : {X : Type 0} {xs ys : List (Option X)} {given : ℕ} → length ys ≡ length xs
    → spare_count ys + 1 ≡ spare_count xs → IsFew xs given → IsFew ys (given + 1)
few_more a b f = let c = f.live in let d = f.small in record { live = omega arith; small = omega arith }

pub few_same : {X : Type 0} {xs ys : List (Option X)} (given : ℕ) → SameSize xs ys → IsFew xs given → IsFew ys given
few_same given s f = let a = s.long in let b = s.spare in let c = f.live in let d =
    f.small in record { live = omega arith; small = omega arith }

pub size_along : {X : Type 0} {old new : List (Option X)} → new ≡ old → SameSize old new
size_along {X} e = record {
  long = ap (λ (xs : List (Option X)). length xs) e;
  spare = ap (λ (xs : List (Option X)). spare_count xs) e;
}

pub sizes_then : {X : Type 0} {old mid new : List (Option X)} → SameSize old mid → SameSize mid new → SameSize old new
sizes_then p q = record { long = q.long ∙ p.long; spare = q.spare ∙ p.spare }
