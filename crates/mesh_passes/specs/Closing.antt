-- The numbers of the edges and vertices that belong to a closure, as they are come by.
use Rattle.std.specs.Prelude.{ℕ, List, [], ◌∷◌, ◌++◌, map}
use Rattle.std.specs.declared.option.Option.{Option}
use Rattle.std.specs.declared.option.Option.TheVariants.{None, Some}
use Rattle.std.specs.List.{flat_map}
use Rattle.mesh_model.specs.Table.{at}
use Rattle.mesh_model.specs.Complex.{Complex, corners_of}
use Rattle.mesh_model.specs.Naming.{vert_numbers, edge_numbers}
use Rattle.mesh_model.specs.declared.names.VertName.{VertName}
use Rattle.mesh_model.specs.declared.names.EdgeName.{EdgeName}
use Rattle.mesh_model.specs.declared.names.FaceName.{FaceName}
use Rattle.mesh_model.specs.declared.records.EdgeRec.{EdgeRec}
use Rattle.mesh_model.specs.declared.records.CornerRec.{CornerRec}
use Rattle.mesh_model.specs.declared.records.FaceRec.{FaceRec}

-- the numbers of the edges along a face
abbrev pub side_numbers : Option FaceRec → List ℕ
side_numbers f = map (λ (k : CornerRec). k.edge.0) (corners_of f)

-- the numbers of the two ends of an edge
abbrev pub end_numbers : Option EdgeRec → List ℕ
end_numbers None = []
end_numbers (Some r) = r.a.0 ∷ r.b.0 ∷ []

-- the numbers of some edges and of those along some faces
unfoldable pub edges_reached : Complex → List EdgeName → List FaceName → List ℕ
edges_reached c es fs = edge_numbers es ++ flat_map (λ (f : FaceName). side_numbers (at c.faces f.0)) fs

-- the numbers of some vertices and of the ends of some edges
unfoldable pub verts_reached : Complex → List VertName → List EdgeName → List ℕ
verts_reached c vs es = vert_numbers vs ++ flat_map (λ (e : EdgeName). end_numbers (at c.edges e.0)) es
