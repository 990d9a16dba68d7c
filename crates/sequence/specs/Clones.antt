-- Clones of the values of a list.
use Rattle.std.specs.Prelude.{◌≡◌, List}
use Rattle.std.specs.List.{AllZip}

-- the second list has a clone of each value of the first, and is equal to it where clones are
abbrev pub AreClones : {X : Type 0} → (X → X → Type 0) → List X → List X → Type 0
AreClones clone xs ys = AllZip clone xs ys × (((x y : _) → clone x y → y ≡ x) → ys ≡ xs)
