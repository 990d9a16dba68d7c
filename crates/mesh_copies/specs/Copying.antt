-- Copies of a set. They have the next names, by rank, and what they name are copies too.
use Rattle.std.specs.Prelude.{List, ◌++◌, map, length}
use Rattle.std.specs.Option.{option_map}
use Rattle.mesh_model.specs.Table.{at}
use Rattle.mesh_model.specs.Complex.{Complex}
use Rattle.mesh_model.specs.Elements.{Elements}
use Rattle.mesh_model.specs.Naming.{fresh_vert, fresh_edge, fresh_face}
use Rattle.mesh_model.specs.declared.names.VertName.{VertName}
use Rattle.mesh_model.specs.declared.names.EdgeName.{EdgeName}
use Rattle.mesh_model.specs.declared.names.FaceName.{FaceName}
use Rattle.mesh_model.specs.declared.records.EdgeRec.{EdgeRec}
use Rattle.mesh_model.specs.declared.records.CornerRec.{CornerRec}
use Rattle.mesh_model.specs.declared.records.FaceRec.{FaceRec}
use Rattle.op_slots.specs.declared.slots.Slots.{Slots}
use Rattle.op_slots.specs.declared.mapping.Pair.{Pair}

-- the names of the copies of a set's members
abbrev pub vert_copy : Complex → Elements → VertName → VertName
vert_copy c s = fresh_vert (length c.verts) 0 s.verts

abbrev pub edge_copy : Complex → Elements → EdgeName → EdgeName
edge_copy c s = fresh_edge (length c.edges) 0 s.edges

abbrev pub face_copy : Complex → Elements → FaceName → FaceName
face_copy c s = fresh_face (length c.faces) 0 s.faces

-- the records of the copies: the same values, with other ends, corner vertices and corner edges
abbrev pub copied_edge : (VertName → VertName) → EdgeRec → EdgeRec
copied_edge vert r = record r { a = vert r.a; b = vert r.b }

abbrev pub copied_corner : (VertName → VertName) → (EdgeName → EdgeName) → CornerRec → CornerRec
copied_corner vert edge k = record k { vert = vert k.vert; edge = edge k.edge }

abbrev pub copied_face : (VertName → VertName) → (EdgeName → EdgeName) → FaceRec → FaceRec
copied_face vert edge r = record r { corners = map (copied_corner vert edge) r.corners }

-- a complex with the copies of a set more
abbrev pub with_copies : Complex → Elements → Complex
with_copies c s = record c {
  verts = c.verts ++ map (λ (v : VertName). at c.verts v.0) s.verts;
  edges = c.edges ++ map (λ (e : EdgeName). option_map (copied_edge (vert_copy c s)) (at c.edges e.0)) s.edges;
  faces = c.faces ++ map (λ (f : FaceName). option_map (copied_face (vert_copy c s) (edge_copy c s)) (at c.faces f.0))
      s.faces;
}

-- the copies of a set
abbrev pub copies : Complex → Elements → Elements
copies c s = record {
  verts = map (vert_copy c s) s.verts;
  edges = map (edge_copy c s) s.edges;
  faces = map (face_copy c s) s.faces;
}

-- each vertex of a set with its copy
abbrev pub copy_pairs : Complex → Elements → List Pair
copy_pairs c s = map (λ (v : VertName). record { source = v; target = vert_copy c s v }) s.verts

-- what a copied set gives back: the copies, and where each vertex went
abbrev pub copy_slots : Complex → Elements → Slots
copy_slots c s = record { geom = copies c s; map = copy_pairs c s }
