-- Cells whose elements have names, and the directory of these names.
use Rattle.std.specs.Prelude.{◌≡◌, ℕ, List, slice_set}
use Rattle.std.specs.declared.option.Option.{Option}
use Rattle.std.specs.declared.option.Option.TheVariants.{None, Some}
use Rattle.std.specs.Option.{option_map}
use Rattle.std.specs.Coded.{Coded, code_by, coded×, coded_list, coded_option, coded_ℕ}
use Rattle.std.proofs.Common.{refl}
use Rattle.raw_pool.specs.declared.pool.Slot.{Slot}
use Rattle.mesh_store.specs.Slots.{at}

-- the cells by slot, and the slots by name
pub record NamedCells (X : Type 0) : Type 0 where
  pub cells : List (Option X)
  pub names : List (Option Slot)

-- the directory leads from each number of a live cell to that cell, and from no other number
pub record AreNamed {X : Type 0} (number : X → ℕ) (cells : List (Option X)) (names : List (Option Slot)) : Type 0 where
  pub named : (s : ℕ) (x : X) → at cells s ≡ Some x → at names (number x) ≡ Some (record { 0 = s })
  pub live : (n : ℕ) (s : Slot) → at names n ≡ Some s → option_map number (at cells s.0) ≡ Some n

-- a slot is stored as its number
abbrev pub slot_code : Coded Slot
slot_code = code_by ℕ coded_ℕ (λ s. s.0) (λ n. record { 0 = n }) (λ _. refl)

-- both lists as a pair
abbrev pub named_code : {X : Type 0} → Coded X → Coded (NamedCells X)
named_code {X} c =
    code_by (List (Option X) × List (Option Slot)) (coded× (coded_list (coded_option c))
    (coded_list (coded_option slot_code)))
    (λ p. (p.cells, p.names)) (λ p. record { cells = p.0; names = p.1 }) (λ _. refl)

-- the number of what stands, and 0 where nothing does
abbrev pub number_in : {X : Type 0} → (X → ℕ) → Option X → ℕ
number_in number None = 0
number_in number (Some x) = number x

-- the cell at a slot is gone, and its name leads nowhere
abbrev pub without_cell : {X : Type 0} → (X → ℕ) → NamedCells X → ℕ → NamedCells X
without_cell number p s = record {
  cells = slice_set p.cells s None;
  names = slice_set p.names (number_in number (at p.cells s)) None;
}

-- a cell that stands at a slot is changed as R tells, and all else stays
pub record Updates {X : Type 0} (R : X → X → Type 0) (old new : NamedCells X) (s : ℕ) : Type 0 where
  pub was : X
  pub now : X
  pub there : at old.cells s ≡ Some was
  pub gives : R was now
  pub same : new ≡ record { cells = slice_set old.cells s (Some now); names = old.names }
