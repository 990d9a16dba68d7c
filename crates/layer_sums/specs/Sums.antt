-- The numbers of layers, summed over all elements.
use Rattle.std.specs.Prelude.{ℕ, ℤ, pos, neg_ℤ, ◌+ℤ◌, ◌≤ℤ◌, ◌*◌, List, [], ◌∷◌, length, map}
use Rattle.std.specs.declared.option.Option.{Option}
use Rattle.std.specs.declared.option.Option.TheVariants.{None, Some}
use Rattle.std.specs.Option.{option_map_or}
use Rattle.std.specs.List.{All, fold, flat_map, zip}
use Rattle.cust_data.specs.Layers.{zeros, find_layer}
use Rattle.mesh_model.specs.Complex.{Complex, width, layers_of, corners_of}
use Rattle.mesh_model.specs.Table.{at}
use Rattle.mesh_model.specs.Values.{numbers_at}
use Rattle.mesh_model.specs.declared.names.Kind.{Kind}
use Rattle.mesh_model.specs.declared.names.Kind.TheVariants.{Verts, Edges, Corners, Faces}
use Rattle.mesh_model.specs.declared.records.VertRec.{VertRec}
use Rattle.mesh_model.specs.declared.records.EdgeRec.{EdgeRec}
use Rattle.mesh_model.specs.declared.records.CornerRec.{CornerRec}
use Rattle.mesh_model.specs.declared.records.FaceRec.{FaceRec}

-- ---- ROWS OF VALUES

-- the row of what stands at the name of a vertex, of an edge, or of a face, if something does
abbrev pub vert_rows : Option VertRec → List (List ℤ)
vert_rows None = []
vert_rows (Some r) = r.vals ∷ []

abbrev pub edge_rows : Option EdgeRec → List (List ℤ)
edge_rows None = []
edge_rows (Some e) = e.vals ∷ []

abbrev pub face_rows : Option FaceRec → List (List ℤ)
face_rows None = []
face_rows (Some f) = f.vals ∷ []

-- the rows of a face's corners in order
abbrev pub corner_rows : Option FaceRec → List (List ℤ)
corner_rows o = map (λ (k : CornerRec). k.vals) (corners_of o)

-- the rows of all elements of a kind by rising name, or of all corners, face by face
abbrev pub rows_of : Complex → Kind → List (List ℤ)
rows_of c Verts = flat_map vert_rows c.verts
rows_of c Edges = flat_map edge_rows c.edges
rows_of c Corners = flat_map corner_rows c.faces
rows_of c Faces = flat_map face_rows c.faces

-- the next name of a kind, and of faces for corners
abbrev pub names_of : Complex → Kind → ℕ
names_of c Verts = length c.verts
names_of c Edges = length c.edges
names_of c Corners = length c.faces
names_of c Faces = length c.faces

-- the rows at one name
abbrev pub rows_at : Complex → Kind → ℕ → List (List ℤ)
rows_at c Verts n = vert_rows (at c.verts n)
rows_at c Edges n = edge_rows (at c.edges n)
rows_at c Corners n = corner_rows (at c.faces n)
rows_at c Faces n = face_rows (at c.faces n)

-- ---- SUMS

-- two rows added number by number
abbrev pub plus : List ℤ → List ℤ → List ℤ
plus xs ys = map (λ p. p.0 +ℤ p.1) (zip xs ys)

-- all rows of a kind added up, which is a row too
abbrev pub row_sums : Complex → Kind → List ℤ
row_sums c kind = fold plus (zeros (width c kind)) (rows_of c kind)

-- the numbers that a row has in the layer of a name, and none where its kind has no such layer
abbrev pub numbers_named : Complex → Kind → List ℕ → List ℤ → List ℤ
numbers_named c kind name row =
    let layers = layers_of c.layers kind in
    option_map_or (λ k. numbers_at layers k row) (find_layer layers name) []

-- the numbers of the layer of a name, summed over all elements of its kind
abbrev pub layer_sums : Complex → Kind → List ℕ → List ℤ
layer_sums c kind name = numbers_named c kind name (row_sums c kind)

-- ---- BOUNDS

-- numbers that so many values can sum to
abbrev pub AreWithin : ℕ → List ℤ → Type 0
AreWithin n xs = All (λ x. (neg_ℤ (pos (n * 1000000000)) ≤ℤ x) × (x ≤ℤ pos (n * 1000000000))) xs
