-- The bytes that a sink tells to have taken: some bytes, or nothing where it doesn't tell.
use Rattle.std.specs.Prelude.{ℕ, ◌≡◌, List, ◌++◌, take}
use Rattle.std.specs.Option.{option_map}
use Rattle.std.specs.declared.option.Option.{Option}

-- the bytes told, with these after them
abbrev pub with_after : Option (List ℕ) → List ℕ → Option (List ℕ)
with_after told bytes = option_map (λ had. had ++ bytes) told

-- of these bytes a prefix was added at the end
abbrev pub AddsPrefix : Option (List ℕ) → Option (List ℕ) → List ℕ → Type 0
AddsPrefix old new bytes = (n : ℕ) × (new ≡ with_after old (take n bytes))
