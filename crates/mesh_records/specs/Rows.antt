-- Two small meshes, worked out: a square, and three triangles on one edge.
use Rattle.std.specs.Prelude.{◌≡◌, ℕ, ℤ, pos, negsuc, List, [], ◌∷◌, map}
use Rattle.std.specs.declared.option.Option.{Option}
use Rattle.std.specs.declared.option.Option.TheVariants.{None, Some}
use Rattle.cust_data.specs.Layers.{LayerTable}
use Rattle.mesh_store.specs.Stored.{Stored}
use Rattle.mesh_store.specs.Rows.{slot, dart}
use Rattle.mesh_store.specs.declared.cells.Dart.{Dart}
use Rattle.mesh_store.specs.declared.cells.VertCell.{VertCell}
use Rattle.mesh_store.specs.declared.cells.EdgeCell.{EdgeCell}
use Rattle.mesh_store.specs.declared.cells.LoopCell.{LoopCell}
use Rattle.mesh_cycles.specs.Found.{loops_along}
use Rattle.mesh_cycles.specs.Rows.{slots, face}
use Rattle.mesh_model.specs.Complex.{uv_layer, material_layer, smooth_layer}
use Rattle.mesh_model.specs.Incidence.{edges_at, corners_at_edge}
use Rattle.mesh_model.specs.Kernel.{with_corner_vals}
use Rattle.mesh_model.specs.Models.{vert as v, edge as e, face as f, square, fin}
use Rattle.mesh_model.specs.declared.records.Counters.{Counters}
use Rattle.mesh_records.specs.ReadOff.{NameLists}
use Rattle.mesh_records.specs.ReadOff.{table, disk_at, read_off}
use Rattle.mesh_records.specs.Room.{room_in}
use Rattle.mesh_records.specs.StandsFor.{place_of}

-- ---- CELLS

-- a vertex at a point, with its first edge
abbrev vert : ℕ → ℤ → ℤ → ℤ → ℕ → Option VertCell
vert name x y z first =
    Some (record { number = name; point = x ∷ y ∷ z ∷ []; first_edge = Some (slot first) })

-- an edge from one slot to another, with its first loop and the darts after and before it around each of its ends
abbrev edge : ℕ → ℕ → ℕ → ℕ → Dart → Dart → Dart → Dart → Option EdgeCell
edge name a b first after_a before_a after_b before_b = Some (record {
  number = name;
  ends = slots (a ∷ b ∷ []);
  first_loop = Some (slot first);
  disk_a = record { next = after_a; prev = before_a };
  disk_b = record { next = after_b; prev = before_b };
})

-- a loop, with the loops after and before it around its edge and in its face
abbrev loop : ℕ → ℕ → ℕ → ℕ → ℕ → ℕ → ℕ → Option LoopCell
loop vert edge face along_after along_before after before = Some (record {
  vert = slot vert;
  edge = slot edge;
  face = slot face;
  radial_next = record { 0 = slot along_after };
  radial_prev = record { 0 = slot along_before };
  round_next = record { 0 = slot after };
  round_prev = record { 0 = slot before };
})

-- two numbers that are 0
abbrev pub zero_pair : List ℤ
zero_pair = pos 0 ∷ pos 0 ∷ []

-- no material and no library
abbrev pub no_lists : NameLists
no_lists = record { materials = []; libraries = [] }

-- no layer, and so many empty rows
abbrev bare_rows : List (List ℤ) → LayerTable
bare_rows rows = record { layers = []; rows = rows }

-- ---- THE SQUARE

-- the square, with slots in another order than names, a vacant place for a vertex, and values at its second corner
abbrev pub square_store : Stored
square_store = record {
  verts = record {
    cells = vert 3 (pos 0) (pos 4) (pos 0) 1 ∷ vert 2 (pos 4) (pos 4) (pos 0) 2 ∷ vert 1 (pos 4) (pos 0) (pos 0) 3
        ∷ vert 0 (pos 0) (pos 0) (pos 0) 3 ∷ None ∷ [];
    names = map Some (slots (3 ∷ 2 ∷ 1 ∷ 0 ∷ []));
  };
  edges = record {
    cells = edge 3 0 3 0 (dart 1 1) (dart 1 1) (dart 3 0) (dart 3 0)
        ∷ edge 2 1 0 1 (dart 2 1) (dart 2 1) (dart 0 0) (dart 0 0)
        ∷ edge 1 2 1 2 (dart 3 1) (dart 3 1) (dart 1 0) (dart 1 0)
        ∷ edge 0 3 2 3 (dart 0 1) (dart 0 1) (dart 2 0) (dart 2 0) ∷ [];
    names = map Some (slots (3 ∷ 2 ∷ 1 ∷ 0 ∷ []));
  };
  loops = loop 0 0 0 0 0 3 1 ∷ loop 1 1 0 1 1 0 2 ∷ loop 2 2 0 2 2 1 3 ∷ loop 3 3 0 3 3 2 0 ∷ [];
  faces = record { cells = face 0 3 4 ∷ []; names = Some (slot 0) ∷ [] };
  values = record {
    verts = bare_rows ([] ∷ [] ∷ [] ∷ [] ∷ [] ∷ []);
    edges = bare_rows ([] ∷ [] ∷ [] ∷ [] ∷ []);
    loops = record {
      layers = uv_layer ∷ [];
      rows = zero_pair ∷ zero_pair ∷ (pos 7 ∷ pos 8 ∷ []) ∷ zero_pair ∷ [];
    };
    faces = record { layers = material_layer ∷ smooth_layer ∷ []; rows = zero_pair ∷ [] };
  };
}

-- the next names of the square, and its corners
abbrev pub square_next : Counters
square_next = record { verts = 4; edges = 4; faces = 1; corners = 4 }

-- it reads as the square, with those values at the second corner
abbrev pub SquareRead : Type 0
SquareRead =
    read_off square_store square_next no_lists ≡ with_corner_vals square (f 0) 1 (pos 7 ∷ pos 8 ∷ [])

-- two edges are around each vertex
abbrev pub SquareDisks : Type 0
SquareDisks = table (disk_at square_store) 4
    ≡ (e 0 ∷ e 3 ∷ []) ∷ (e 0 ∷ e 1 ∷ []) ∷ (e 1 ∷ e 2 ∷ []) ∷ (e 2 ∷ e 3 ∷ []) ∷ []

-- there is a place for a vertex, but no name within the directory's reach
abbrev pub SquareRoom : Type 0
SquareRoom = room_in square_store square_next ≡ record { verts = 0; edges = 0; corners = 0; faces = 0 }

-- ---- THE FIN

-- three triangles on one edge, around which the third comes after the first
abbrev pub fin_store : Stored
fin_store = record {
  verts = record {
    cells = vert 0 (pos 0) (pos 0) (pos 0) 0 ∷ vert 1 (pos 0) (pos 0) (pos 4) 0 ∷ vert 2 (pos 4) (pos 0) (pos 0) 1
        ∷ vert 3 (pos 0) (pos 4) (pos 0) 3 ∷ vert 4 (negsuc 3) (pos 0) (pos 0) 5 ∷ None ∷ None ∷ [];
    names = map Some (slots (0 ∷ 1 ∷ 2 ∷ 3 ∷ 4 ∷ []));
  };
  edges = record {
    cells = edge 0 0 1 0 (dart 2 1) (dart 6 1) (dart 1 0) (dart 5 0)
        ∷ edge 1 1 2 1 (dart 3 0) (dart 0 1) (dart 2 0) (dart 2 0)
        ∷ edge 2 2 0 2 (dart 1 1) (dart 1 1) (dart 4 1) (dart 0 0)
        ∷ edge 3 1 3 4 (dart 5 0) (dart 1 0) (dart 4 0) (dart 4 0)
        ∷ edge 4 3 0 5 (dart 3 1) (dart 3 1) (dart 6 1) (dart 2 1)
        ∷ edge 5 1 4 7 (dart 0 1) (dart 3 0) (dart 6 0) (dart 6 0)
        ∷ edge 6 4 0 8 (dart 5 1) (dart 5 1) (dart 0 0) (dart 4 1) ∷ [];
    names = map Some (slots (0 ∷ 1 ∷ 2 ∷ 3 ∷ 4 ∷ 5 ∷ 6 ∷ []));
  };
  loops = loop 0 0 0 6 3 1 2 ∷ loop 1 1 0 1 1 2 0 ∷ loop 2 2 0 2 2 0 1
      ∷ loop 0 0 1 0 6 4 5 ∷ loop 1 3 1 4 4 5 3 ∷ loop 3 4 1 5 5 3 4
      ∷ loop 0 0 2 3 0 7 8 ∷ loop 1 5 2 7 7 8 6 ∷ loop 4 6 2 8 8 6 7 ∷ [];
  faces = record {
    cells = face 0 0 3 ∷ face 1 3 3 ∷ face 2 6 3 ∷ [];
    names = map Some (slots (0 ∷ 1 ∷ 2 ∷ []));
  };
  values = record {
    verts = bare_rows ([] ∷ [] ∷ [] ∷ [] ∷ [] ∷ [] ∷ [] ∷ []);
    edges = bare_rows ([] ∷ [] ∷ [] ∷ [] ∷ [] ∷ [] ∷ [] ∷ []);
    loops = record {
      layers = uv_layer ∷ [];
      rows = zero_pair ∷ zero_pair ∷ zero_pair ∷ zero_pair ∷ zero_pair ∷ zero_pair ∷ zero_pair ∷ zero_pair ∷ zero_pair
          ∷ [];
    };
    faces = record { layers = material_layer ∷ smooth_layer ∷ []; rows = zero_pair ∷ zero_pair ∷ zero_pair ∷ [] };
  };
}

-- the next names of the fin, and its corners
abbrev pub fin_next : Counters
fin_next = record { verts = 5; edges = 7; faces = 3; corners = 9 }

-- it reads as the fin
abbrev pub FinRead : Type 0
FinRead = read_off fin_store fin_next no_lists ≡ fin

-- four edges are around the ends of the shared edge, and two around each other vertex
abbrev pub FinDisks : Type 0
FinDisks = table (disk_at fin_store) 5
    ≡ (e 0 ∷ e 2 ∷ e 4 ∷ e 6 ∷ []) ∷ (e 0 ∷ e 1 ∷ e 3 ∷ e 5 ∷ []) ∷ (e 1 ∷ e 2 ∷ []) ∷ (e 3 ∷ e 4 ∷ [])
    ∷ (e 5 ∷ e 6 ∷ []) ∷ []

-- a filter over all its edges gives the same edges around the first vertex
abbrev pub FinEdges : Type 0
FinEdges = edges_at fin (v 0) ≡ e 0 ∷ e 2 ∷ e 4 ∷ e 6 ∷ []

-- the loops along the shared edge are the first corners of the faces, in the order of the cycle
abbrev pub FinAlong : Type 0
FinAlong = map (place_of fin_store) (loops_along fin_store 0) ≡ (f 0, 0) ∷ (f 2, 0) ∷ (f 1, 0) ∷ []

-- and those along another edge is the one corner that a filter over all corners gives
abbrev pub FinAlongLast : Type 0
FinAlongLast = map (place_of fin_store) (loops_along fin_store 6) ≡ corners_at_edge fin (e 6)
