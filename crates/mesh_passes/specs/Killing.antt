-- Elements taken away, as filters of whole tables. What is loose or bare is told by the complex that is given.
use Rattle.std.specs.Prelude.{Bool, not, ◌&&◌, List}
use Rattle.std.specs.List.{list_any}
use Rattle.mesh_model.specs.Table.{kept, kept_names}
use Rattle.mesh_model.specs.Complex.{Complex}
use Rattle.mesh_model.specs.Elements.{Elements, is_among}
use Rattle.mesh_model.specs.Closure.{is_edge_among, is_face_among}
use Rattle.mesh_model.specs.Incidence.{is_loose, is_bare}
use Rattle.mesh_model.specs.declared.names.VertName.{VertName}
use Rattle.mesh_model.specs.declared.names.EdgeName.{EdgeName}
use Rattle.mesh_model.specs.declared.names.FaceName.{FaceName}
use Rattle.mesh_model.specs.declared.records.CornerRec.{CornerRec}
use Rattle.mesh_model.specs.declared.records.FaceRec.{FaceRec}

-- a face has a corner along one of some edges
abbrev pub uses_edge_among : List EdgeName → FaceRec → Bool
uses_edge_among es f = list_any (λ (k : CornerRec). is_edge_among es k.edge) f.corners

-- without some faces
unfoldable pub without_faces : Complex → List FaceName → Complex
without_faces c fs = record c { faces = kept_names (λ n. not (is_face_among fs (record { 0 = n }))) c.faces }

-- without some edges, and the faces along them
unfoldable pub without_edges : Complex → List EdgeName → Complex
without_edges c es = record c {
  edges = kept_names (λ n. not (is_edge_among es (record { 0 = n }))) c.edges;
  faces = kept (λ f. not (uses_edge_among es f)) c.faces;
}

-- without those of some edges along which no face has a corner
unfoldable pub without_loose : Complex → List EdgeName → Complex
without_loose c es = record c {
  edges = kept_names (λ n. not (is_edge_among es (record { 0 = n }) && is_loose c (record { 0 = n }))) c.edges;
}

-- without those of some vertices at which no edge ends
unfoldable pub without_bare : Complex → List VertName → Complex
without_bare c vs = record c {
  verts = kept_names (λ n. not (is_among vs (record { 0 = n }) && is_bare c (record { 0 = n }))) c.verts;
}

-- without the faces of a set, then without its edges that are loose, then without its vertices that are bare
abbrev pub without_set : Complex → Elements → Complex
without_set c s = without_bare (without_loose (without_faces c s.faces) s.edges) s.verts
