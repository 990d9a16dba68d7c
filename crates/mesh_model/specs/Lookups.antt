-- The records that stand at names, the next names, and lists read round in a circle.
use Rattle.std.specs.Prelude.{ℕ, ◌-◌, pos, Bool, List, [], ◌++◌, length, take, drop, slice_index_or}
use Rattle.std.specs.declared.option.Option.{Option}
use Rattle.std.specs.Option.{unwrap_or, option_map}
use Rattle.std.specs.List.{zip, position}
use Rattle.mesh_model.specs.Table.{at, passes}
use Rattle.mesh_model.specs.Complex.{Complex}
use Rattle.mesh_model.specs.declared.names.VertName.{VertName}
use Rattle.mesh_model.specs.declared.names.EdgeName.{EdgeName}
use Rattle.mesh_model.specs.declared.names.FaceName.{FaceName}
use Rattle.mesh_model.specs.declared.records.VertRec.{VertRec}
use Rattle.mesh_model.specs.declared.records.EdgeRec.{EdgeRec}
use Rattle.mesh_model.specs.declared.records.CornerRec.{CornerRec}
use Rattle.mesh_model.specs.declared.records.FaceRec.{FaceRec}

-- records of nothing, which stand in where a name or a position has none
abbrev pub no_vert : VertRec
no_vert = record { point = record { x = pos 0; y = pos 0; z = pos 0 }; vals = [] }

abbrev pub no_edge : EdgeRec
no_edge = record { a = record { 0 = 0 }; b = record { 0 = 0 }; vals = [] }

abbrev pub no_corner : CornerRec
no_corner = record { vert = record { 0 = 0 }; edge = record { 0 = 0 }; vals = [] }

abbrev pub no_face : FaceRec
no_face = record { corners = []; vals = [] }

-- the record of a vertex
abbrev pub vert_rec : Complex → VertName → VertRec
vert_rec c v = unwrap_or (at c.verts v.0) no_vert

-- the record of an edge
abbrev pub edge_rec : Complex → EdgeName → EdgeRec
edge_rec c e = unwrap_or (at c.edges e.0) no_edge

-- the record of a face
abbrev pub face_rec : Complex → FaceName → FaceRec
face_rec c f = unwrap_or (at c.faces f.0) no_face

-- the corner of a face at a position
abbrev pub corner_rec : Complex → FaceName → ℕ → CornerRec
corner_rec c f i = slice_index_or (face_rec c f).corners i no_corner

-- the least face that passes a test
abbrev pub least_face : (FaceRec → Bool) → Complex → Option FaceName
least_face test c = option_map (λ n. record { 0 = n }) (position (passes test) c.faces)

-- the names that the next elements get
abbrev pub next_vert : Complex → VertName
next_vert c = record { 0 = length c.verts }

abbrev pub next_edge : Complex → EdgeName
next_edge c = record { 0 = length c.edges }

abbrev pub next_face : Complex → FaceName
next_face c = record { 0 = length c.faces }

-- a circle of things read from another position on
abbrev pub turned : {X : Type 0} → ℕ → List X → List X
turned n xs = drop n xs ++ take n xs

-- each thing of a circle with the one after it
abbrev pub with_next : {X : Type 0} → List X → List (X × X)
with_next xs = zip xs (turned 1 xs)

-- each thing of a circle with the one before it
abbrev pub with_previous : {X : Type 0} → List X → List (X × X)
with_previous xs = zip xs (turned (length xs - 1) xs)
