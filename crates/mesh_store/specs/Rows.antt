-- A small store, worked out: an edge joins two vertices, and both loops of a face go along it.
use Rattle.std.specs.Prelude.{◌≡◌, ℕ, ℤ, pos, true, false, List, [], ◌∷◌, map}
use Rattle.std.specs.declared.option.Option.TheVariants.{None, Some}
use Rattle.raw_pool.specs.declared.pool.Slot.{Slot}
use Rattle.mesh_store.specs.Slots.{at}
use Rattle.mesh_store.specs.Naming.{without_cell}
use Rattle.mesh_store.specs.Stored.{Stored, no_values, with_point, with_ends, with_loop_face, with_face_len, change_vert, change_edge, change_loop, change_face, own_link, new_edge, new_loop, dart_links, radial_links, round_links, beside_darts, beside_radials, beside_rounds}
use Rattle.mesh_store.specs.declared.cells.Dart.{Dart}
use Rattle.mesh_store.specs.declared.cells.VertCell.{VertCell}
use Rattle.mesh_store.specs.declared.cells.EdgeCell.{EdgeCell}
use Rattle.mesh_store.specs.declared.cells.LoopCell.{LoopCell}
use Rattle.mesh_store.specs.declared.cells.FaceCell.{FaceCell}

-- a slot
abbrev pub slot : ℕ → Slot
slot n = record { 0 = n }

-- a dart
abbrev pub dart : ℕ → ℕ → Dart
dart e side = record { edge = slot e; side = side }

-- a vertex of the edge
abbrev pub vert : ℕ → List ℤ → VertCell
vert name point = record { number = name; point = point; first_edge = Some (slot 0) }

-- the edge, with each of its darts alone
abbrev pub edge : EdgeCell
edge = record {
  number = 0;
  ends = slot 0 ∷ slot 1 ∷ [];
  first_loop = Some (slot 1);
  disk_a = own_link (dart 0 0);
  disk_b = own_link (dart 0 1);
}

-- a loop of the face, with the loop beside it in both of its cycles
abbrev pub corner : ℕ → ℕ → LoopCell
corner v beside = record {
  vert = slot v;
  edge = slot 0;
  face = slot 0;
  radial_next = record { 0 = slot beside };
  radial_prev = record { 0 = slot beside };
  round_next = record { 0 = slot beside };
  round_prev = record { 0 = slot beside };
}

-- the face
abbrev pub face : FaceCell
face = record { number = 2; first_loop = Some (slot 0); len = 2 }

-- the store: vertex 1 is at slot 0 and vertex 0 at slot 1
abbrev pub small : Stored
small = record {
  verts = record {
    cells = Some (vert 1 []) ∷ Some (vert 0 []) ∷ None ∷ [];
    names = Some (slot 1) ∷ Some (slot 0) ∷ [];
  };
  edges = record { cells = Some edge ∷ None ∷ []; names = Some (slot 0) ∷ [] };
  loops = Some (corner 0 1) ∷ Some (corner 1 0) ∷ None ∷ [];
  faces = record { cells = Some face ∷ []; names = None ∷ None ∷ Some (slot 0) ∷ [] };
  values = no_values;
}

-- a change is one of the field named, and nothing where nothing stands
abbrev pub SmallChanges : Type 0
SmallChanges =
    ((change_vert (with_point (pos 3 ∷ pos 4 ∷ [])) small 1).verts.cells
    ≡ Some (vert 1 []) ∷ Some (vert 0 (pos 3 ∷ pos 4 ∷ [])) ∷ None ∷ [])
    × ((change_edge (with_ends (slot 1 ∷ slot 2 ∷ [])) small 0).edges.cells
    ≡ Some (record edge { ends = slot 1 ∷ slot 2 ∷ [] }) ∷ None ∷ [])
    × ((change_loop (with_loop_face (slot 9)) small 0).loops
    ≡ Some (record (corner 0 1) { face = slot 9 }) ∷ Some (corner 1 0) ∷ None ∷ [])
    × ((change_face (with_face_len 7) small 0).faces.cells ≡ Some (record face { len = 7 }) ∷ [])
    × (change_loop (with_loop_face (slot 9)) small 2 ≡ small) × (change_face (with_face_len 7) small 3 ≡ small)

-- vertex 1 is gone with its name
abbrev pub SmallDrop : Type 0
SmallDrop = without_cell (λ (c : VertCell). c.number) small.verts 0
    ≡ record { cells = None ∷ Some (vert 0 []) ∷ None ∷ []; names = Some (slot 1) ∷ None ∷ [] }

-- the links of a new element lead to itself
abbrev pub SmallNew : Type 0
SmallNew =
    ((new_edge 6 [] (slot 4)).disk_a.next ≡ dart 4 0) × ((new_edge 6 [] (slot 4)).disk_b.prev ≡ dart 4 1)
    × ((new_loop (slot 0) (slot 0) (slot 0) (slot 4)).radial_prev ≡ record { 0 = slot 4 })
    × ((new_loop (slot 0) (slot 0) (slot 0) (slot 4)).round_next ≡ record { 0 = slot 4 })

-- the two darts and the two loops are keys, and nothing else is
abbrev pub SmallKeys : Type 0
SmallKeys =
    (map (dart_links small).has (dart 0 0 ∷ dart 0 1 ∷ dart 0 2 ∷ dart 1 0 ∷ []) ≡ true ∷ true ∷ false ∷ false ∷ [])
    × (map (λ n. (radial_links small).has (record { 0 = slot n })) (0 ∷ 1 ∷ 2 ∷ 3 ∷ [])
    ≡ true ∷ true ∷ false ∷ false ∷ [])
    × (map (λ n. (round_links small).has (record { 0 = slot n })) (0 ∷ 1 ∷ 2 ∷ 3 ∷ [])
    ≡ true ∷ true ∷ false ∷ false ∷ [])

-- each dart is alone, and each loop beside the other
abbrev pub SmallLinks : Type 0
SmallLinks =
    ((dart_links small).next (dart 0 1) ≡ dart 0 1) × ((dart_links small).prev (dart 0 0) ≡ dart 0 0)
    × ((radial_links small).next (record { 0 = slot 0 }) ≡ record { 0 = slot 1 })
    × ((radial_links small).prev (record { 0 = slot 1 }) ≡ record { 0 = slot 0 })
    × ((round_links small).next (record { 0 = slot 1 }) ≡ record { 0 = slot 0 })
    × ((round_links small).prev (record { 0 = slot 0 }) ≡ record { 0 = slot 1 })

-- links of one kind don't show beside them, and those of another kind do
abbrev pub SmallBeside : Type 0
SmallBeside =
    (beside_darts (change_edge (λ e. record e { disk_b = own_link (dart 9 0) }) small 0) ≡ beside_darts small)
    × (beside_radials (change_loop (λ l. record l { radial_next = record { 0 = slot 9 } }) small 1)
    ≡ beside_radials small)
    × (beside_rounds (change_loop (λ l. record l { round_prev = record { 0 = slot 9 } }) small 1) ≡ beside_rounds small)
    × (at (beside_rounds (change_loop (λ l. record l { radial_next = record { 0 = slot 9 } }) small 1)).loops 1
    ≡ Some (record (corner 1 0) {
      radial_next = record { 0 = slot 9 };
      round_next = record { 0 = slot 0 };
      round_prev = record { 0 = slot 0 };
    }))
