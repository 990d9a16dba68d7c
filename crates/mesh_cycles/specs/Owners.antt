-- Which vertex, edge or face a dart or a loop belongs to, and with which of its members a cycle begins.
use Rattle.std.specs.Prelude.{◌==◌, ℕ, cond, slice_index_or}
use Rattle.std.specs.declared.option.Option.{Option}
use Rattle.std.specs.Option.{option_map, option_map_or, option_and_then}
use Rattle.raw_pool.specs.declared.pool.Slot.{Slot}
use Rattle.mesh_store.specs.Slots.{at}
use Rattle.mesh_store.specs.Stored.{Stored, no_slot}
use Rattle.mesh_store.specs.declared.cells.Dart.{Dart}
use Rattle.mesh_store.specs.declared.cells.Radial.{Radial}
use Rattle.mesh_store.specs.declared.cells.Round.{Round}
use Rattle.mesh_store.specs.declared.cells.VertCell.{VertCell}
use Rattle.mesh_store.specs.declared.cells.EdgeCell.{EdgeCell}
use Rattle.mesh_store.specs.declared.cells.LoopCell.{LoopCell}
use Rattle.mesh_store.specs.declared.cells.FaceCell.{FaceCell}

-- the end of an edge on a side
abbrev pub end_on : ℕ → EdgeCell → ℕ
end_on side e = (slice_index_or e.ends side no_slot).0

-- the side on which an edge ends at a vertex: 0 where its first end is that vertex, else 1
abbrev pub side_at : ℕ → EdgeCell → ℕ
side_at v e = cond (end_on 0 e == v) 0 1

-- the vertex at which a dart ends
abbrev pub dart_end : Stored → Dart → Option ℕ
dart_end st d = option_map (end_on d.side) (at st.edges.cells d.edge.0)

-- the vertex of a loop
abbrev pub vert_of : Stored → Slot → Option ℕ
vert_of st l = option_map (λ (c : LoopCell). c.vert.0) (at st.loops l.0)

-- the edge of a loop
abbrev pub edge_of : Stored → Slot → Option ℕ
edge_of st l = option_map (λ (c : LoopCell). c.edge.0) (at st.loops l.0)

-- the face of a loop
abbrev pub face_of : Stored → Slot → Option ℕ
face_of st l = option_map (λ (c : LoopCell). c.face.0) (at st.loops l.0)

-- the stored number of a face's loops
abbrev pub len_of : Stored → ℕ → Option ℕ
len_of st f = option_map (λ (c : FaceCell). c.len) (at st.faces.cells f)

-- the dart of an edge at a vertex
abbrev pub dart_at : Stored → ℕ → Slot → Dart
dart_at st v e = record { edge = e; side = option_map_or (side_at v) (at st.edges.cells e.0) 0 }

-- the dart with which a vertex's disk cycle begins: that of its first edge
abbrev pub first_dart : Stored → ℕ → Option Dart
first_dart st v = option_and_then (λ (c : VertCell). option_map (dart_at st v) c.first_edge) (at st.verts.cells v)

-- the loop with which an edge's radial cycle begins
abbrev pub first_radial : Stored → ℕ → Option Radial
first_radial st e = option_and_then (λ (c : EdgeCell). option_map (λ (l : Slot). record { 0 = l }) c.first_loop)
    (at st.edges.cells e)

-- the loop with which a face's loop cycle begins
abbrev pub first_round : Stored → ℕ → Option Round
first_round st f = option_and_then (λ (c : FaceCell). option_map (λ (l : Slot). record { 0 = l }) c.first_loop)
    (at st.faces.cells f)
