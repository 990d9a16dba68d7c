-- Names that are bound to slots.
use Rattle.std.specs.Prelude.{ℕ, ◌&&◌, Bool, true, not, List, [], ◌∷◌, nat_eq}
use Rattle.std.specs.List.{list_any}
use Rattle.std.specs.declared.option.Option.{Option}
use Rattle.std.specs.Option.{option_map}
use Rattle.std.specs.List.{find}
use lib.Pointwise.{pointwise}
use Rattle.op_slots.specs.declared.bindings.Binding.{Binding}
use Rattle.op_slots.specs.declared.slots.Slots.{Slots}

-- the bindings in the order made, and room for how many more
pub record Bound : Type 0 where
  pub bound : List Binding
  pub spare : ℕ

-- a name and its slots as a binding
abbrev pub binding_of : List ℕ × Slots → Binding
binding_of b = record { name = b.0; slots = b.1 }

-- a binding has a name
abbrev pub has_name : List ℕ → Binding → Bool
has_name name b = pointwise nat_eq b.name name

-- the slots that a name is bound to, if it is bound
abbrev pub slots_of : List Binding → List ℕ → Option Slots
slots_of bs name = option_map (λ (b : Binding). b.slots) (find (has_name name) bs)

-- a name is bound
abbrev pub is_bound : List Binding → List ℕ → Bool
is_bound bs name = list_any (has_name name) bs

-- no name is bound twice
abbrev pub are_named_once : List Binding → Bool
are_named_once [] = true
are_named_once (b ∷ bs) = not (is_bound bs b.name) && are_named_once bs
