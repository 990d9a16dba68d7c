-- What is true of every pool of named cells.
use Rattle.std.specs.Prelude.{◌≡◌, ◌≤◌, ◌<◌, ◌*◌, ◌^◌, ℕ, List, length}
use Rattle.std.specs.declared.option.Option.{Option}
use Rattle.std.specs.declared.option.Option.TheVariants.{None, Some}
use Rattle.raw_pool.specs.declared.pool.Slot.{Slot}
use Rattle.raw_pool.specs.Tags.{tag_at}
use Rattle.mesh_store.specs.Slots.{at}
use Rattle.mesh_store.specs.Naming.{AreNamed}

-- the bit of a name: 1 where it leads to a slot
abbrev pub mark_of : Option Slot → ℕ
mark_of None = 0
mark_of (Some s) = 1

-- names and slots fit 32 bits, the directory leads to the cells, and each name has its bit
pub record NamesHold {X : Type 0} (number : X → ℕ) (cells : List (Option X)) (names : List (Option Slot))
    (marks : List ℕ) : Type 0 where
  pub few_cells : length cells < 2 ^ 32
  pub few_names : length names < 2 ^ 32
  pub named : AreNamed number cells names
  pub room : length names ≤ length marks * 64
  pub marked : (k : ℕ) → tag_at marks k ≡ mark_of (at names k)
