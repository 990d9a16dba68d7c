-- A point of three coordinates, each of which may be off the grid.
use Rattle.std.specs.Prelude.{ℤ}
use Rattle.std.specs.declared.option.Option.{Option}
use Rattle.std.specs.declared.option.Option.TheVariants.{None, Some}
use Rattle.mesh_model.specs.declared.records.Point.{Point}

-- the point, where each coordinate is there
abbrev pub point_of : Option ℤ → Option ℤ → Option ℤ → Option Point
point_of (Some x) (Some y) (Some z) = Some (record { x = x; y = y; z = z })
point_of _ _ _ = None
