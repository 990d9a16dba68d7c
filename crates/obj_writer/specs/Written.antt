-- The lines of vertices and of loose edges in the Wavefront OBJ text of a complex.
use Rattle.std.specs.Prelude.{ℕ, ℤ, ◌+◌, ◌-◌, ◌/◌, ◌%◌, ◌^◌, ◌==◌, pos, int_lt, unsigned_abs, if◌then◌else◌, List, []}
use Rattle.std.specs.Prelude.{◌++◌, length, take, codes}
use Rattle.std.specs.Fmt.{decimal}
use Rattle.std.specs.List.{flat_map, enumerate_from, repeat}
use Rattle.std.specs.declared.option.Option.{Option}
use Rattle.std.specs.declared.option.Option.TheVariants.{None, Some}
use Rattle.mesh_model.specs.Table.{live}
use Rattle.mesh_model.specs.Complex.{Complex}
use Rattle.mesh_model.specs.Incidence.{is_loose}
use Rattle.mesh_model.specs.declared.records.Point.{Point}
use Rattle.mesh_model.specs.declared.records.VertRec.{VertRec}
use Rattle.mesh_model.specs.declared.records.EdgeRec.{EdgeRec}

-- a number in at least so many digits, with zeros in front
abbrev pub wide_decimal : ℕ → ℕ → List ℕ
wide_decimal width n = repeat (width - length (decimal n)) (codes "0") ++ decimal n

-- a number of units without sign: the whole part, and at a scale above 0 a point and the decimal places
abbrev pub magnitude : ℕ → ℕ → List ℕ
magnitude scale n =
    if scale == 0 then decimal n else decimal (n / 10 ^ scale) ++ (codes "." ++ wide_decimal scale (n % 10 ^ scale))

-- a number of units at a scale, with a minus where it is below 0
abbrev pub grid_number : ℕ → ℤ → List ℕ
grid_number scale n =
    if int_lt n (pos 0) then codes "-" ++ magnitude scale (unsigned_abs n) else magnitude scale (unsigned_abs n)

-- the index of a vertex: its place among the live vertices by rising name, from 1
abbrev pub index : Complex → ℕ → ℕ
index c v = live (take v c.verts) + 1

-- a line `v X Y Z` for a point
abbrev pub vert_line : ℕ → Point → List ℕ
vert_line scale p =
    codes "v " ++ (grid_number scale p.x
    ++ (codes " " ++ (grid_number scale p.y ++ (codes " " ++ (grid_number scale p.z ++ codes "\n")))))

-- the line of what stands at a vertex's name
abbrev pub vert_entry : ℕ → Option VertRec → List ℕ
vert_entry scale None = []
vert_entry scale (Some r) = vert_line scale r.point

-- the lines of the vertices by rising name
abbrev pub vert_lines : ℕ → Complex → List ℕ
vert_lines scale c = flat_map (vert_entry scale) c.verts

-- a line `l A B` for two indices
abbrev pub loose_line : ℕ → ℕ → List ℕ
loose_line a b = codes "l " ++ (decimal a ++ (codes " " ++ (decimal b ++ codes "\n")))

-- the line of what stands at an edge's name, if no face has it
abbrev pub loose_entry : Complex → ℕ × Option EdgeRec → List ℕ
loose_entry c (n, None) = []
loose_entry c (n, Some e) = if is_loose c (record { 0 = n }) then loose_line (index c e.a.0) (index c e.b.0) else []

-- the lines of the loose edges by rising name
abbrev pub loose_lines : Complex → List ℕ
loose_lines c = flat_map (loose_entry c) (enumerate_from 0 c.edges)
