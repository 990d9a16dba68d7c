-- Records in which one name stands for another.
use Rattle.std.specs.Prelude.{◌==◌, map, if◌then◌else◌}
use Rattle.mesh_model.specs.declared.names.VertName.{VertName}
use Rattle.mesh_model.specs.declared.names.EdgeName.{EdgeName}
use Rattle.mesh_model.specs.declared.records.EdgeRec.{EdgeRec}
use Rattle.mesh_model.specs.declared.records.CornerRec.{CornerRec}
use Rattle.mesh_model.specs.declared.records.FaceRec.{FaceRec}

-- one vertex in the place of another
abbrev pub renamed_vert : VertName → VertName → VertName → VertName
renamed_vert from to v = if v.0 == from.0 then to else v

-- one edge in the place of another
abbrev pub renamed_edge : EdgeName → EdgeName → EdgeName → EdgeName
renamed_edge from to e = if e.0 == from.0 then to else e

-- an edge with other ends
abbrev pub with_ends : (VertName → VertName) → EdgeRec → EdgeRec
with_ends rename e = record e { a = rename e.a; b = rename e.b }

-- a corner along another edge
abbrev pub along : EdgeName → CornerRec → CornerRec
along e k = record k { edge = e }

-- a face whose corners are at other vertices
abbrev pub with_corner_verts : (VertName → VertName) → FaceRec → FaceRec
with_corner_verts rename f = record f { corners = map (λ (k : CornerRec). record k { vert = rename k.vert }) f.corners }

-- a face whose corners run along other edges
abbrev pub with_corner_edges : (EdgeName → EdgeName) → FaceRec → FaceRec
with_corner_edges rename f = record f { corners = map (λ (k : CornerRec). along (rename k.edge) k) f.corners }
