-- Deleting vertices: these vertices, their edges and the faces with them, as three filters.
use Rattle.std.specs.Prelude.{Bool, not, ◌||◌, List}
use Rattle.std.specs.List.{list_any}
use Rattle.mesh_model.specs.Table.{kept, kept_names}
use Rattle.mesh_model.specs.Complex.{Complex}
use Rattle.mesh_model.specs.Elements.{is_among}
use Rattle.mesh_model.specs.declared.names.VertName.{VertName}
use Rattle.mesh_model.specs.declared.records.EdgeRec.{EdgeRec}
use Rattle.mesh_model.specs.declared.records.CornerRec.{CornerRec}
use Rattle.mesh_model.specs.declared.records.FaceRec.{FaceRec}

-- an edge has an end among them
abbrev pub has_end_among : List VertName → EdgeRec → Bool
has_end_among vs e = is_among vs e.a || is_among vs e.b

-- a face has a corner at one of them
abbrev pub has_corner_among : List VertName → FaceRec → Bool
has_corner_among vs f = list_any (λ (k : CornerRec). is_among vs k.vert) f.corners

-- the complex without them, their edges and the faces with them
abbrev pub without_verts : Complex → List VertName → Complex
without_verts c vs = record c {
  verts = kept_names (λ n. not (is_among vs (record { 0 = n }))) c.verts;
  edges = kept (λ e. not (has_end_among vs e)) c.edges;
  faces = kept (λ f. not (has_corner_among vs f)) c.faces;
}
