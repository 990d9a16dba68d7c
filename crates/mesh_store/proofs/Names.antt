-- What a name of the directory leads to is live.
use Rattle.std.proofs.Common.{◌≡◌, ℕ, true, List, Option, Some, None, refl, sym}
use Rattle.std.specs.Option.{option_map}
use Rattle.raw_pool.specs.declared.pool.Slot.{Slot}
use Rattle.raw_pool.specs.Slots.{holds, IsLive}
use Rattle.mesh_store.specs.Slots.{at, LeadsFirst}
use Rattle.mesh_store.specs.Naming.{AreNamed}

-- what has a number stands
numbered_holds : {X : Type 0} (number : X → ℕ) (o : Option X) (n : ℕ) → option_map number o ≡ Some n → holds o ≡ true
numbered_holds number None n e = cc
numbered_holds number (Some x) n e = refl

module _ {X : Type 0} {number : X → ℕ} {cells : List (Option X)} {names : List (Option Slot)}
    (h : AreNamed number cells names) where
  -- the slot of a name is live
  pub named_live : (n : ℕ) (s : Slot) → Some s ≡ at names n → IsLive cells s.0
  named_live n s e = numbered_holds number (at cells s.0) n (h.live n s (sym e))

  -- and so is the slot of the least name from a number on
  pub first_live : (low : ℕ) (s : Slot) → LeadsFirst names low s → IsLive cells s.0
  first_live low s l = named_live l.name s (sym l.here)
