-- translate, scale and mirror: each vertex that is named moves, unless one of them would leave the grid.
use Rattle.std.specs.Prelude.{ℤ, pos, ◌+ℤ◌, ◌-ℤ◌, ◌*ℤ◌, neg_ℤ, int_le, Bool, ◌&&◌, List, [], ◌∷◌, Result}
use Rattle.std.specs.declared.option.Option.{Option}
use Rattle.cust_data.specs.Mixing.{floor_div}
use Rattle.mesh_model.specs.Complex.{Complex}
use Rattle.mesh_model.specs.Refusals.{first_of, unless}
use Rattle.mesh_model.specs.Valid.{is_in_range, is_on_grid}
use Rattle.mesh_model.specs.declared.names.VertName.{VertName}
use Rattle.mesh_model.specs.declared.records.Point.{Point}
use Rattle.mesh_model.specs.declared.refusal.Refusal.{Refusal}
use Rattle.mesh_model.specs.declared.refusal.Why.TheVariants.{BadValue}
use Rattle.op_slots.specs.declared.slots.Slots.{Slots}
use Rattle.op_slots.specs.declared.op.Axis.{Axis}
use Rattle.op_slots.specs.declared.op.Axis.TheVariants.{X, Y, Z}
use Rattle.mesh_passes.specs.Row.{row}
use Rattle.mesh_passes.specs.Moving.{unless_on_grid, motion}

-- ---- translate: every coordinate by as much

-- a point moved by as much
abbrev pub translation : Point → Point → Point
translation by p = record { x = p.x +ℤ by.x; y = p.y +ℤ by.y; z = p.z +ℤ by.z }

-- refused at the first condition that fails; nothing is made, so no limit can be passed
abbrev pub translate_refusal : List VertName → Point → Complex → Option Refusal
translate_refusal vs by c = unless_on_grid (translation by) c vs

-- the vertices, and the complex with them moved
abbrev pub translate_result : List VertName → Point → Complex → Slots × Complex
translate_result vs by c = motion (translation by) vs c

-- ---- scale: the way from a point, times a ratio, rounded down

-- a coordinate, and a point, scaled
abbrev pub scaled : ℤ → ℤ → ℤ → ℤ → ℤ
scaled num den about x = about +ℤ floor_div ((x -ℤ about) *ℤ num) den

abbrev pub scaling : Point → ℤ → ℤ → Point → Point
scaling about num den p =
    record { x = scaled num den about.x p.x; y = scaled num den about.y p.y; z = scaled num den about.z p.z }

-- num is at most a million in size, and den is 1 to a million
abbrev pub is_ratio : ℤ → ℤ → Bool
is_ratio num den = (int_le (pos 1) den && int_le den (pos 1000000))
    && (int_le (neg_ℤ (pos 1000000)) num && int_le num (pos 1000000))

-- refused at the first condition that fails; nothing is made, so no limit can be passed
abbrev pub scale_refusal : List VertName → Point → ℤ → ℤ → Complex → Option Refusal
scale_refusal vs about num den c = first_of (
    unless (is_on_grid about && is_ratio num den) BadValue
    ∷ unless_on_grid (scaling about num den) c vs
    ∷ [])

-- the vertices, and the complex with them moved
abbrev pub scale_result : List VertName → Point → ℤ → ℤ → Complex → Slots × Complex
scale_result vs about num den c = motion (scaling about num den) vs c

-- ---- mirror: one coordinate on the other side of a plane, as far from it

-- a point mirrored
abbrev pub mirroring : Axis → ℤ → Point → Point
mirroring X about p = record p { x = pos 2 *ℤ about -ℤ p.x }
mirroring Y about p = record p { y = pos 2 *ℤ about -ℤ p.y }
mirroring Z about p = record p { z = pos 2 *ℤ about -ℤ p.z }

-- refused at the first condition that fails; nothing is made, so no limit can be passed
abbrev pub mirror_refusal : List VertName → Axis → ℤ → Complex → Option Refusal
mirror_refusal vs axis about c = first_of (
    unless (is_in_range about) BadValue
    ∷ unless_on_grid (mirroring axis about) c vs
    ∷ [])

-- the vertices, and the complex with them moved
abbrev pub mirror_result : List VertName → Axis → ℤ → Complex → Slots × Complex
mirror_result vs axis about c = motion (mirroring axis about) vs c

-- ---- rows

abbrev pub translate_row : List VertName → Point → Complex → Result (Slots × Complex) Refusal
translate_row vs by c = row (translate_refusal vs by c) (translate_result vs by c)

abbrev pub scale_row : List VertName → Point → ℤ → ℤ → Complex → Result (Slots × Complex) Refusal
scale_row vs about num den c = row (scale_refusal vs about num den c) (scale_result vs about num den c)

abbrev pub mirror_row : List VertName → Axis → ℤ → Complex → Result (Slots × Complex) Refusal
mirror_row vs axis about c = row (mirror_refusal vs axis about c) (mirror_result vs axis about c)
