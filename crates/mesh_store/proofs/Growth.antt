-- Lists that get more vacant places at their end.
use Rattle.std.proofs.Common.{◌≡◌, ℕ, ℤ, zero, suc, ◌+◌, ◌-◌, ◌<◌, ◌≤◌, ◌*◌, ◌^◌, true, false, nat_le, List, [], ◌∷◌, ◌++◌, Option, None, length, replicate, refl, sym, ap, ◌∙◌, inl, inr, arith, append-nil, append_assoc, length-append}
use Rattle.std.specs.Option.{option_map}
use Rattle.std.proofs.lemmas.List.{length-replicate, replicate-append-replicate}
use Rattle.std.proofs.lemmas.Bool.{cases_lt, le-leb, lt-leb}
use Rattle.raw_pool.specs.declared.pool.Slot.{Slot}
use Rattle.raw_pool.specs.Slots.{spare_count, GrowsFor}
use Rattle.raw_pool.specs.Tags.{tag_at, SameTags}
use Rattle.mesh_store.specs.Slots.{at, WidensTo}
use Rattle.cust_data.specs.Layers.{LayerTable, zeros, total, with_places}
use Rattle.mesh_store.specs.Naming.{AreNamed, NamedCells}
use Rattle.mesh_store.specs.Inside.{NamesHold, mark_of}
use Rattle.mesh_store.specs.Room.{WidensCells, WidensPool, WidensRows, most_places}

-- nothing stands in vacant places
pub at_vacant : {X : Type 0} (n k : ℕ) → let none : Option X = None in at (replicate n none) k ≡ none
at_vacant zero k = refl
at_vacant (suc n) zero = refl
at_vacant (suc n) (suc k) = at_vacant n k

-- vacant places at the end change nothing that stands
pub at_longer : {X : Type 0} (xs : List (Option X)) (n s : ℕ) → at (xs ++ replicate n None) s ≡ at xs s
at_longer [] n s = at_vacant n s
at_longer (x ∷ xs) n zero = refl
at_longer (x ∷ xs) n (suc s) = at_longer xs n s

-- one place more, below the bound
pub widens_more : {X : Type 0} {old new : List (Option X)} {bound : ℕ} → WidensTo old new bound → length new < bound
    → WidensTo old (new ++ None ∷ []) bound
widens_more {X} {old} {new} {bound} w h =
    let long : length new ≡ length old + w.more = ap length w.same ∙ simp (length-append, length-replicate) in
    let one : List (Option X) = None ∷ [] in
    record {
      more = w.more + 1;
      same = ap (λ (xs : List (Option X)). xs ++ one) w.same ∙ append_assoc old (replicate w.more None) one
          ∙ ap (λ (xs : List (Option X)). old ++ xs) (replicate-append-replicate w.more 1 None);
      most = omega arith;
    }

-- no place more
pub widens_none : {X : Type 0} (xs : List (Option X)) (bound : ℕ) → WidensTo xs xs bound
widens_none xs bound = record { more = 0; same = sym (append-nil xs); most = omega arith }

-- places as they were
pub cells_same : {X : Type 0} (xs : List (Option X)) (n chunk : ℕ) → WidensCells xs xs n chunk
cells_same xs n chunk = record {
  grows = record { more = 0; same = sym (append-nil xs); few = λ h. omega arith };
  enough = λ h. refl;
}

-- a pool as it was
pub pool_same : {X : Type 0} (p : NamedCells X) (n chunk reach : ℕ) → WidensPool p p n chunk reach
pool_same p n chunk reach = record {
  cells = cells_same p.cells n chunk;
  names = widens_none p.names reach;
}

-- the length after a growth
pub grown_length : {X : Type 0} (old new : List (Option X)) (n chunk : ℕ) → GrowsFor old new n chunk
    → (n ≤ spare_count old → new ≡ old) → length old + n + chunk < 2 ^ 32 → length new < 2 ^ 32
grown_length old new n chunk g e h =
    let long : length new ≡ length old + g.more = ap length g.same ∙ simp (length-append, length-replicate) in
    elim (cases_lt (spare_count old) n) [
      | inl lt ↦ (let few = g.few lt in omega arith)
      | inr ge ↦ (let same : length new ≡ length old = ap length (e ge) in omega arith)
    ]

-- the directory leads to the same cells
pub names_longer : {X : Type 0} (number : X → ℕ) (cells more_cells : List (Option X))
    (names more_names : List (Option Slot)) (j k : ℕ)
    → more_cells ≡ cells ++ replicate j None → more_names ≡ names ++ replicate k None → AreNamed number cells names
    → AreNamed number more_cells more_names
names_longer number cells more_cells names more_names j k e f a = record {
  named = λ s x h.
      let same : at more_cells s ≡ at cells s = ap (λ (xs : List (Option _)). at xs s) e ∙ at_longer cells j s in
      ap (λ (xs : List (Option Slot)). at xs (number x)) f ∙ at_longer names k (number x) ∙ a.named s x (sym same ∙ h);
  live = λ n s h.
      let same : at more_names n ≡ at names n = ap (λ (xs : List (Option Slot)). at xs n) f ∙ at_longer names k n in
      ap (option_map number) (ap (λ (xs : List (Option _)). at xs s.0) e ∙ at_longer cells j s.0)
      ∙ a.live n s (sym same ∙ h);
}

-- a table of names is as long as it was, or at most as long as its reach
pub widened_length : {X : Type 0} (old new : List (Option X)) (bound : ℕ) → WidensTo old new bound → length old < 2 ^ 32
    → bound < 2 ^ 32 → length new < 2 ^ 32
widened_length old new bound w h b =
    let long : length new ≡ length old + w.more = ap length w.same ∙ simp (length-append, length-replicate) in
    let most = w.most in
    omega arith

-- a name that did not lead anywhere has no bit, also past the end
pub longer_marks : (names more_names : List (Option Slot)) (marks more_marks : List ℕ) (bound : ℕ)
    → WidensTo names more_names bound → SameTags marks more_marks
    → ((j : ℕ) → tag_at marks j ≡ mark_of (at names j)) → (j : ℕ) → tag_at more_marks j ≡ mark_of (at more_names j)
longer_marks names more_names marks more_marks bound w same h j =
    same j ∙ h j ∙ ap mark_of (sym (ap (λ (xs : List (Option Slot)). at xs j) w.same ∙ at_longer names w.more j))

-- a table that is no longer than its bits, or than its reach, has a bit for each name
pub widened_fits : {X : Type 0} (old new : List (Option X)) (bound marks more_marks : ℕ) → WidensTo old new bound
    → length old ≤ marks * 64 → marks ≤ more_marks → bound ≤ more_marks * 64 → length new ≤ more_marks * 64
widened_fits old new bound marks more_marks w h m b =
    let long : length new ≡ length old + w.more = ap length w.same ∙ simp (length-append, length-replicate) in
    let most = w.most in
    omega arith

-- what is true of a pool is true of it after more room was made
pub names_hold : {X : Type 0} (number : X → ℕ) (cells more_cells : List (Option X))
    (names more_names : List (Option Slot)) (marks more_marks : List ℕ) (n chunk reach : ℕ)
    → NamesHold number cells names marks → GrowsFor cells more_cells n chunk
    → (n ≤ spare_count cells → more_cells ≡ cells) → length cells + n + chunk < 2 ^ 32
    → WidensTo names more_names reach → reach < 2 ^ 32 → SameTags marks more_marks
    → length more_names ≤ length more_marks * 64 → NamesHold number more_cells more_names more_marks
names_hold number cells more_cells names more_names marks more_marks n chunk reach h g e room w r same fits = record {
  few_cells = grown_length cells more_cells n chunk g e room;
  few_names = widened_length names more_names reach w h.few_names r;
  named = names_longer number cells more_cells names more_names g.more w.more g.same w.same h.named;
  room = fits;
  marked = longer_marks names more_names marks more_marks reach w same h.marked;
}

-- ---- rows

-- a pool with room has at most so many places
pub grown_most : {X : Type 0} (old new : List (Option X)) (n chunk : ℕ) → 1 ≤ chunk → WidensCells old new n chunk
    → length new ≤ most_places old n chunk
grown_most old new n chunk some w =
    let long : length new ≡ length old + w.grows.more =
    ap length w.grows.same ∙ simp (length-append, length-replicate) in
    elim (cases_lt (spare_count old) n) [
      | inl lt ↦ (let few = w.grows.few lt in let is : nat_le n (spare_count old) ≡ false =
          lt-leb n (spare_count old) lt in rw is (omega arith))
      | inr ge ↦ (let same : length new ≡ length old =
          ap length (w.enough ge) in let is : nat_le n (spare_count old) ≡ true =
          le-leb n (spare_count old) ge in rw is (omega arith))
    ]

-- rows as they were
pub rows_same : (t : LayerTable) (most : ℕ) → WidensRows t t most
rows_same t most = record { until = 0; same = sym (with_no_places t); few = omega arith }
  where
    with_no_places : (u : LayerTable) → with_places u 0 ≡ u
    with_no_places u =
        let none : 0 - length u.rows ≡ 0 = omega arith in
        ap (λ (n : ℕ). let t : LayerTable = record {
          layers = u.layers;
          rows = u.rows ++ replicate n (zeros (total u.layers));
        } in t) none
        ∙ ap (λ (rows : List (List ℤ)). let t : LayerTable = record { layers = u.layers; rows = rows } in t)
        (append-nil u.rows)
