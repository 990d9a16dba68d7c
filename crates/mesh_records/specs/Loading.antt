-- A complex is made name by name.
use Rattle.std.specs.Prelude.{ℕ, List, [], ◌∷◌, ◌++◌, take}
use Rattle.std.specs.declared.option.Option.{Option}
use Rattle.std.specs.Option.{option_map}
use Rattle.mesh_model.specs.Table.{at}
use Rattle.mesh_model.specs.Complex.{KindLayers, Complex, no_complex}
use Rattle.mesh_model.specs.declared.records.VertRec.{VertRec}
use Rattle.mesh_model.specs.declared.records.EdgeRec.{EdgeRec}
use Rattle.mesh_model.specs.declared.records.FaceRec.{FaceRec}

-- ---- one name more, at which this stands, if anything

abbrev pub with_vert_name : Complex → Option VertRec → Complex
with_vert_name c r = record c { verts = c.verts ++ r ∷ [] }

abbrev pub with_edge_name : Complex → Option EdgeRec → Complex
with_edge_name c r = record c { edges = c.edges ++ r ∷ [] }

abbrev pub with_face_name : Complex → Option FaceRec → Complex
with_face_name c r = record c { faces = c.faces ++ r ∷ [] }

-- ---- a complex so far

-- these layers, and nothing else
abbrev pub only_layers : KindLayers → Complex
only_layers layers = record no_complex { layers = layers }

-- the vertices up to a name; the layers and the lists of names
abbrev pub verts_to : Complex → ℕ → Complex
verts_to c n = record c { verts = take n c.verts; edges = []; faces = [] }

-- besides, all vertices, and the edges up to a name
abbrev pub edges_to : Complex → ℕ → Complex
edges_to c n = record c { edges = take n c.edges; faces = [] }

-- besides, all edges, and the faces up to a name
abbrev pub faces_to : Complex → ℕ → Complex
faces_to c n = record c { faces = take n c.faces }

-- a face with its first so many corners
abbrev pub with_first_corners : ℕ → FaceRec → FaceRec
with_first_corners i f = record f { corners = take i f.corners }

-- besides, the first so many corners of the face of the next name
abbrev pub corners_to : Complex → ℕ → ℕ → Complex
corners_to c n i = with_face_name (faces_to c n) (option_map (with_first_corners i) (at c.faces n))
