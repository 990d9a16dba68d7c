-- Some vertices moved, and those that would leave the grid.
use Rattle.std.specs.Prelude.{Bool, not, ◌&&◌, List}
use Rattle.std.specs.declared.option.Option.{Option}
use Rattle.std.specs.Option.{option_map}
use Rattle.std.specs.List.{find}
use Rattle.mesh_model.specs.Table.{at, passes, update, changed_names}
use Rattle.mesh_model.specs.Complex.{Complex}
use Rattle.mesh_model.specs.Elements.{is_among, no_elements}
use Rattle.mesh_model.specs.Refusals.{refused_at}
use Rattle.mesh_model.specs.Valid.{is_on_grid}
use Rattle.mesh_model.specs.declared.names.VertName.{VertName}
use Rattle.mesh_model.specs.declared.names.Elem.TheVariants.{Vert}
use Rattle.mesh_model.specs.declared.records.Point.{Point}
use Rattle.mesh_model.specs.declared.records.VertRec.{VertRec}
use Rattle.mesh_model.specs.declared.refusal.Refusal.{Refusal}
use Rattle.mesh_model.specs.declared.refusal.Why.TheVariants.{OutOfGrid}
use Rattle.op_slots.specs.declared.slots.Slots.{Slots}
use Rattle.mesh_passes.specs.Row.{only}

-- a vertex moved
abbrev pub moved_vert : (Point → Point) → VertRec → VertRec
moved_vert to r = record r { point = to r.point }

-- some vertices moved
unfoldable pub moved : (Point → Point) → Complex → List VertName → Complex
moved to c vs = record c { verts = changed_names (λ n. is_among vs (record { 0 = n })) (moved_vert to) c.verts }

-- one vertex moved
unfoldable pub moved_one : (Point → Point) → Complex → VertName → Complex
moved_one to c v = record c { verts = update c.verts v.0 (moved_vert to) }

-- a vertex would leave the grid
abbrev pub leaves : (Point → Point) → VertRec → Bool
leaves to r = not (is_on_grid (to r.point))

-- a vertex is on the grid, and stays there
abbrev pub stays_on_grid : (Point → Point) → VertRec → Bool
stays_on_grid to r = is_on_grid r.point && is_on_grid (to r.point)

-- the first of some vertices that would leave the grid: the least one, since a set's names rise
abbrev pub first_leaving : (Point → Point) → Complex → List VertName → Option VertName
first_leaving to c vs = find (λ (v : VertName). passes (leaves to) (at c.verts v.0)) vs

-- refused at the least vertex that would leave the grid
abbrev pub unless_on_grid : (Point → Point) → Complex → List VertName → Option Refusal
unless_on_grid to c vs = refused_at OutOfGrid (option_map Vert (first_leaving to c vs))

-- what a motion gives back: the vertices that moved
abbrev pub motion : (Point → Point) → List VertName → Complex → Slots × Complex
motion to vs c = (only (record no_elements { verts = vs }), moved to c vs)
