-- What is left of a complex without the vertices of a set.
use Rattle.std.specs.Prelude.{ℕ, Bool, not, ◌||◌, List}
use Rattle.std.specs.declared.option.Option.{Option}
use Rattle.std.specs.List.{list_any}
use Rattle.mesh_model.specs.Table.{at, only_if}
use Rattle.mesh_model.specs.NameSet.{is_in}
use Rattle.mesh_model.specs.Complex.{Complex}
use Rattle.mesh_model.specs.declared.records.VertRec.{VertRec}
use Rattle.mesh_model.specs.declared.records.EdgeRec.{EdgeRec}
use Rattle.mesh_model.specs.declared.records.CornerRec.{CornerRec}
use Rattle.mesh_model.specs.declared.records.FaceRec.{FaceRec}

-- an edge has no end in the set
abbrev pub keeps_edge : List Bool → EdgeRec → Bool
keeps_edge gone e = not (is_in gone e.a.0 || is_in gone e.b.0)

-- a face has no corner at a vertex of the set
abbrev pub keeps_face : List Bool → FaceRec → Bool
keeps_face gone f = not (list_any (λ (k : CornerRec). is_in gone k.vert.0) f.corners)

-- what is left at a name
abbrev pub vert_left : List Bool → Complex → ℕ → Option VertRec
vert_left gone c n = only_if (λ _. not (is_in gone n)) (at c.verts n)

abbrev pub edge_left : List Bool → Complex → ℕ → Option EdgeRec
edge_left gone c n = only_if (keeps_edge gone) (at c.edges n)

abbrev pub face_left : List Bool → Complex → ℕ → Option FaceRec
face_left gone c n = only_if (keeps_face gone) (at c.faces n)
