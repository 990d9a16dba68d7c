-- The complex and the disk lists, read off a store. Each is a table of what one function gives at each name.
use Rattle.std.specs.Prelude.{ℕ, ℤ, pos, List, [], map, slice_index_or}
use Rattle.std.specs.declared.option.Option.{Option}
use Rattle.std.specs.List.{range_with_len}
use Rattle.std.specs.Option.{option_map, option_map_or, option_and_then}
use Rattle.raw_pool.specs.declared.pool.Slot.{Slot}
use Rattle.mesh_store.specs.Slots.{at}
use Rattle.mesh_store.specs.Stored.{Stored}
use Rattle.mesh_cycles.specs.Found.{edges_around, loops_in}
use Rattle.mesh_model.specs.Complex.{Complex, KindLayers}
use Rattle.mesh_model.specs.declared.names.VertName.{VertName}
use Rattle.mesh_model.specs.declared.names.EdgeName.{EdgeName}
use Rattle.mesh_model.specs.declared.records.Point.{Point}
use Rattle.mesh_model.specs.declared.records.VertRec.{VertRec}
use Rattle.mesh_model.specs.declared.records.EdgeRec.{EdgeRec}
use Rattle.mesh_model.specs.declared.records.CornerRec.{CornerRec}
use Rattle.mesh_model.specs.declared.records.FaceRec.{FaceRec}
use Rattle.mesh_model.specs.declared.records.Counters.{Counters}
use Rattle.mesh_records.specs.AtSlots.{StoredVert, StoredEdge, StoredLoop, StoredFace, vert_in, edge_in, loop_in, face_in}
use Rattle.mesh_records.specs.AtSlots.{end_of}

-- what f gives of each number below n
abbrev pub table : {X : Type 0} → (ℕ → X) → ℕ → List X
table f n = map f (range_with_len 0 n)

-- ---- one element

-- the name of the vertex at a slot, and v0 where none is
abbrev pub vert_name : Stored → ℕ → VertName
vert_name st s = record { 0 = option_map_or (λ (v : StoredVert). v.number) (vert_in st s) 0 }

-- the name of the edge at a slot, and e0 where none is
abbrev pub edge_name : Stored → ℕ → EdgeName
edge_name st s = record { 0 = option_map_or (λ (e : StoredEdge). e.number) (edge_in st s) 0 }

-- three coordinates as a point
abbrev pub point_of : List ℤ → Point
point_of p = record { x = slice_index_or p 0 (pos 0); y = slice_index_or p 1 (pos 0); z = slice_index_or p 2 (pos 0) }

-- the record of a vertex
abbrev pub vert_rec : StoredVert → VertRec
vert_rec v = record { point = point_of v.point; vals = v.vals }

-- the record of an edge: its ends by name
abbrev pub edge_rec : Stored → StoredEdge → EdgeRec
edge_rec st e = record { a = vert_name st (end_of 0 e); b = vert_name st (end_of 1 e); vals = e.vals }

-- a corner of no face
abbrev pub no_corner : CornerRec
no_corner = record { vert = record { 0 = 0 }; edge = record { 0 = 0 }; vals = [] }

-- the record of a loop: its vertex and its edge by name
abbrev pub loop_rec : Stored → StoredLoop → CornerRec
loop_rec st l = record { vert = vert_name st l.vert.0; edge = edge_name st l.edge.0; vals = l.vals }

-- the record of the loop at a slot
abbrev pub corner_rec : Stored → Slot → CornerRec
corner_rec st l = option_map_or (loop_rec st) (loop_in st l.0) no_corner

-- the names of a loop's vertex and of its edge
abbrev pub names_at : Stored → Slot → VertName × EdgeName
names_at st l = ((corner_rec st l).vert, (corner_rec st l).edge)

-- the record of the face at a slot: its loops in order, from the first on
abbrev pub face_rec : Stored → ℕ → StoredFace → FaceRec
face_rec st s f = record { corners = map (corner_rec st) (loops_in st s); vals = f.vals }

-- ---- by name

-- the vertex of a name, if it leads to a slot
abbrev pub vert_at : Stored → ℕ → Option VertRec
vert_at st k = option_and_then (λ (s : Slot). option_map vert_rec (vert_in st s.0)) (at st.verts.names k)

-- the edge of a name
abbrev pub edge_at : Stored → ℕ → Option EdgeRec
edge_at st k = option_and_then (λ (s : Slot). option_map (edge_rec st) (edge_in st s.0)) (at st.edges.names k)

-- the face of a name
abbrev pub face_at : Stored → ℕ → Option FaceRec
face_at st k = option_and_then (λ (s : Slot). option_map (face_rec st s.0) (face_in st s.0)) (at st.faces.names k)

-- the names of the edges around a slot of a vertex, from its first edge on
abbrev pub names_around : Stored → Slot → List EdgeName
names_around st s = map (λ (e : Slot). edge_name st e.0) (edges_around st s.0)

-- the names of the edges around the vertex of a name
abbrev pub disk_at : Stored → ℕ → List EdgeName
disk_at st k = option_map_or (names_around st) (at st.verts.names k) []

-- ---- whole

-- the names of materials and of their libraries, each in bytes
pub record NameLists : Type 0 where
  pub materials : List (List ℕ)
  pub libraries : List (List ℕ)

-- the layers of each kind
abbrev pub layers_in : Stored → KindLayers
layers_in st = record {
  verts = st.values.verts.layers;
  edges = st.values.edges.layers;
  corners = st.values.loops.layers;
  faces = st.values.faces.layers;
}

-- the complex that is stored: what stands at each name below the next ones
abbrev pub read_off : Stored → Counters → NameLists → Complex
read_off st n lists = record {
  verts = table (vert_at st) n.verts;
  edges = table (edge_at st) n.edges;
  faces = table (face_at st) n.faces;
  layers = layers_in st;
  materials = lists.materials;
  libraries = lists.libraries;
}
