-- Lists of values of which one may be missing.
use Rattle.std.specs.Prelude.{List, [], ◌∷◌, ◌++◌}
use Rattle.std.specs.Option.{option_map}
use Rattle.std.specs.declared.option.Option.{Option}
use Rattle.std.specs.declared.option.Option.TheVariants.{None, Some}

-- a value before the others, or None where it or one of them is missing
abbrev pub with_first : {Y : Type 0} → Option Y → Option (List Y) → Option (List Y)
with_first None ys = None
with_first (Some y) None = None
with_first (Some y) (Some ys) = Some (y ∷ ys)

-- the value of each, in order, or None where one has none
abbrev pub each : {X Y : Type 0} → (X → Option Y) → List X → Option (List Y)
each f [] = Some []
each f (x ∷ xs) = with_first (f x) (each f xs)

-- the values so far, before those of the rest
abbrev pub with_front : {Y : Type 0} → List Y → Option (List Y) → Option (List Y)
with_front ys rest = option_map (λ zs. ys ++ zs) rest
