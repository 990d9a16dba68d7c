-- What a store holds, and the links of its three kinds of cycles.
use Rattle.std.specs.Prelude.{◌==◌, ◌&&◌, ℕ, ℤ, nat_lt, is_some, cond, List, [], map}
use Rattle.std.specs.declared.option.Option.{Option}
use Rattle.std.specs.declared.option.Option.TheVariants.{None, Some}
use Rattle.std.specs.Option.{option_map, option_map_or}
use Rattle.cust_data.specs.Layers.{LayerTable}
use Rattle.raw_pool.specs.declared.pool.Slot.{Slot}
use Rattle.link_ring.specs.Ring.{LinkMap}
use Rattle.mesh_store.specs.Slots.{at, changed}
use Rattle.mesh_store.specs.Naming.{NamedCells}
use Rattle.mesh_store.specs.declared.cells.Dart.{Dart}
use Rattle.mesh_store.specs.declared.cells.DiskLink.{DiskLink}
use Rattle.mesh_store.specs.declared.cells.Radial.{Radial}
use Rattle.mesh_store.specs.declared.cells.Round.{Round}
use Rattle.mesh_store.specs.declared.cells.VertCell.{VertCell}
use Rattle.mesh_store.specs.declared.cells.EdgeCell.{EdgeCell}
use Rattle.mesh_store.specs.declared.cells.LoopCell.{LoopCell}
use Rattle.mesh_store.specs.declared.cells.FaceCell.{FaceCell}
use Rattle.mesh_store.specs.declared.layers.Layers.{Layers}

-- vertices, edges and faces by slot with their directories, loops by slot, and the values of the four by slot
pub record Stored : Type 0 where
  pub verts : NamedCells VertCell
  pub edges : NamedCells EdgeCell
  pub loops : List (Option LoopCell)
  pub faces : NamedCells FaceCell
  pub values : Layers

-- no layers, and no rows
abbrev pub no_values : Layers
no_values = let none : LayerTable = record { layers = []; rows = [] } in record
    { verts = none; edges = none; loops = none; faces = none }

-- an empty store
abbrev pub empty_store : Stored
empty_store = record {
  verts = record { cells = []; names = [] };
  edges = record { cells = []; names = [] };
  loops = [];
  faces = record { cells = []; names = [] };
  values = no_values;
}

-- ---- fields

-- the vertex with its point changed
abbrev pub with_point : List ℤ → VertCell → VertCell
with_point to c = record c { point = to }

-- the vertex with its first edge changed
abbrev pub with_first_edge : Option Slot → VertCell → VertCell
with_first_edge to c = record c { first_edge = to }

-- the edge with its ends changed
abbrev pub with_ends : List Slot → EdgeCell → EdgeCell
with_ends to c = record c { ends = to }

-- the edge with its first loop changed
abbrev pub with_first_loop : Option Slot → EdgeCell → EdgeCell
with_first_loop to c = record c { first_loop = to }

-- the loop with its vertex changed
abbrev pub with_loop_vert : Slot → LoopCell → LoopCell
with_loop_vert to c = record c { vert = to }

-- the loop with its edge changed
abbrev pub with_loop_edge : Slot → LoopCell → LoopCell
with_loop_edge to c = record c { edge = to }

-- the loop with its face changed
abbrev pub with_loop_face : Slot → LoopCell → LoopCell
with_loop_face to c = record c { face = to }

-- the face with its first loop changed
abbrev pub with_face_loop : Option Slot → FaceCell → FaceCell
with_face_loop to c = record c { first_loop = to }

-- the face with its length changed
abbrev pub with_face_len : ℕ → FaceCell → FaceCell
with_face_len to c = record c { len = to }

-- the store with one vertex changed
abbrev pub change_vert : (VertCell → VertCell) → Stored → ℕ → Stored
change_vert f st s = record st { verts = record { cells = changed f st.verts.cells s; names = st.verts.names } }

-- the store with one edge changed
abbrev pub change_edge : (EdgeCell → EdgeCell) → Stored → ℕ → Stored
change_edge f st s = record st { edges = record { cells = changed f st.edges.cells s; names = st.edges.names } }

-- the store with one loop changed
abbrev pub change_loop : (LoopCell → LoopCell) → Stored → ℕ → Stored
change_loop f st s = record st { loops = changed f st.loops s }

-- the store with one face changed
abbrev pub change_face : (FaceCell → FaceCell) → Stored → ℕ → Stored
change_face f st s = record st { faces = record { cells = changed f st.faces.cells s; names = st.faces.names } }

-- ---- new elements, whose links lead to themselves

-- a vertex with no edge
abbrev pub new_vert : ℕ → List ℤ → VertCell
new_vert name point = record { number = name; point = point; first_edge = None }

-- a dart's two links, where it stands alone
abbrev pub own_link : Dart → DiskLink
own_link d = record { next = d; prev = d }

-- an edge at a slot, with no loop, whose darts stand alone
abbrev pub new_edge : ℕ → List Slot → Slot → EdgeCell
new_edge name ends s = record {
  number = name;
  ends = ends;
  first_loop = None;
  disk_a = own_link (record { edge = s; side = 0 });
  disk_b = own_link (record { edge = s; side = 1 });
}

-- a loop at a slot, which stands alone
abbrev pub new_loop : Slot → Slot → Slot → Slot → LoopCell
new_loop vert edge face s = record {
  vert = vert;
  edge = edge;
  face = face;
  radial_next = record { 0 = s };
  radial_prev = record { 0 = s };
  round_next = record { 0 = s };
  round_prev = record { 0 = s };
}

-- a face with no loop
abbrev pub new_face : ℕ → FaceCell
new_face name = record { number = name; first_loop = None; len = 0 }

-- ---- links

-- the dart after one at an edge; what is no dart of it is its own
abbrev pub dart_next : Dart → Option EdgeCell → Dart
dart_next d None = d
dart_next d (Some e) = cond (d.side == 0) e.disk_a.next (cond (d.side == 1) e.disk_b.next d)

-- the dart before it
abbrev pub dart_prev : Dart → Option EdgeCell → Dart
dart_prev d None = d
dart_prev d (Some e) = cond (d.side == 0) e.disk_a.prev (cond (d.side == 1) e.disk_b.prev d)

-- the darts of the live edges, each with side 0 or 1, and their disk links
abbrev pub dart_links : Stored → LinkMap Dart
dart_links st = record {
  has = λ (d : Dart). is_some (at st.edges.cells d.edge.0) && nat_lt d.side 2;
  next = λ (d : Dart). dart_next d (at st.edges.cells d.edge.0);
  prev = λ (d : Dart). dart_prev d (at st.edges.cells d.edge.0);
}

-- the live loops, and their radial links
abbrev pub radial_links : Stored → LinkMap Radial
radial_links st = record {
  has = λ (r : Radial). is_some (at st.loops r.0.0);
  next = λ (r : Radial). option_map_or (λ (l : LoopCell). l.radial_next) (at st.loops r.0.0) r;
  prev = λ (r : Radial). option_map_or (λ (l : LoopCell). l.radial_prev) (at st.loops r.0.0) r;
}

-- the live loops, and their links around their faces
abbrev pub round_links : Stored → LinkMap Round
round_links st = record {
  has = λ (r : Round). is_some (at st.loops r.0.0);
  next = λ (r : Round). option_map_or (λ (l : LoopCell). l.round_next) (at st.loops r.0.0) r;
  prev = λ (r : Round). option_map_or (λ (l : LoopCell). l.round_prev) (at st.loops r.0.0) r;
}

-- ---- all but the links of one kind

-- the first slot, which stands for a link that is left out
abbrev pub no_slot : Slot
no_slot = record { 0 = 0 }

-- an edge with its disk links left out
abbrev pub without_disk : EdgeCell → EdgeCell
without_disk e = let none = own_link (record { edge = no_slot; side = 0 }) in record e { disk_a = none; disk_b = none }

-- a loop with its radial links left out
abbrev pub without_radial : LoopCell → LoopCell
without_radial l = record l { radial_next = record { 0 = no_slot }; radial_prev = record { 0 = no_slot } }

-- a loop with its links around its face left out
abbrev pub without_round : LoopCell → LoopCell
without_round l = record l { round_next = record { 0 = no_slot }; round_prev = record { 0 = no_slot } }

-- everything but the disk links
abbrev pub beside_darts : Stored → Stored
beside_darts st = record st {
  edges = record {
    cells = map (option_map without_disk) st.edges.cells;
    names = st.edges.names;
  };
}

-- everything but the radial links
abbrev pub beside_radials : Stored → Stored
beside_radials st = record st { loops = map (option_map without_radial) st.loops }

-- everything but the links around faces
abbrev pub beside_rounds : Stored → Stored
beside_rounds st = record st { loops = map (option_map without_round) st.loops }
