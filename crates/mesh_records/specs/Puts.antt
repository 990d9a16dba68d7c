-- What the steps of a call leave in the store.
use Rattle.std.specs.Prelude.{◌≡◌, ◌≢◌, ◌<◌, ◌+◌, ℕ, ℤ, List, [], ◌∷◌, ◌++◌, length, slice_set}
use Rattle.std.specs.declared.option.Option.{Option}
use Rattle.std.specs.declared.option.Option.TheVariants.{None, Some}
use Rattle.cust_data.specs.Layers.{LayerTable, total, zeros, row_of, with_row}
use Rattle.raw_pool.specs.declared.pool.Slot.{Slot}
use Rattle.raw_pool.specs.Slots.{spare_count}
use Rattle.mesh_store.specs.Slots.{at}
use Rattle.mesh_store.specs.Stored.{Stored, new_vert, new_edge, new_loop, new_face}
use Rattle.mesh_store.specs.Parts.{change_table}
use Rattle.mesh_store.specs.declared.cells.Dart.{Dart}
use Rattle.mesh_store.specs.declared.layers.Part.TheVariants.{Vert, Edge, Loop, Face}
use Rattle.mesh_cycles.specs.Owners.{len_of}
use Rattle.mesh_cycles.specs.Cycles.{AreCycles, AreWhole, IsCounted, disk_of, radial_of, round_of}
use Rattle.mesh_records.specs.Frames.{SameElements, SameSize}

-- a dart of an edge
abbrev pub dart_on : Slot → ℕ → Dart
dart_on edge side = record { edge = edge; side = side }

-- the row at an example's slot, or zeros
abbrev pub row_like : LayerTable → Option Slot → List ℤ
row_like t None = zeros (total t.layers)
row_like t (Some s) = row_of t s.0

-- the store with a vertex more at a slot, with an example's row
abbrev pub with_vert_at : Stored → ℕ → List ℤ → Slot → Option Slot → Stored
with_vert_at st name point s like = change_table Vert (λ t. with_row t s.0 (row_like t like)) (record st {
  verts = record {
    cells = slice_set st.verts.cells s.0 (Some (new_vert name point));
    names = slice_set st.verts.names name (Some s);
  };
})

-- a vertex is there more, at a slot that was vacant, and all else is as before
pub record PutsVert (old new : Stored) (name : ℕ) (point : List ℤ) (like : Option Slot) (s : Slot) : Type 0 where
  pub low : s.0 < length old.verts.cells
  pub vacant : at old.verts.cells s.0 ≡ None
  pub puts : new ≡ with_vert_at old name point s like
  pub spare : spare_count new.verts.cells + 1 ≡ spare_count old.verts.cells

-- the store with an edge more at a slot, with an example's row, whose darts stand alone
abbrev pub with_edge_at : Stored → ℕ → Slot → Slot → Slot → Option Slot → Stored
with_edge_at st name from to s like = change_table Edge (λ t. with_row t s.0 (row_like t like)) (record st {
  edges = record {
    cells = slice_set st.edges.cells s.0 (Some (new_edge name (from ∷ to ∷ []) s));
    names = slice_set st.edges.names name (Some s);
  };
})

-- an edge is there more, at a slot that was vacant; its darts are last around its ends, and all else is as before
pub record PutsEdge (old new : Stored) (name : ℕ) (from to : Slot) (like : Option Slot) (s : Slot) : Type 0 where
  pub low : s.0 < length old.edges.cells
  pub vacant : at old.edges.cells s.0 ≡ None
  pub elements : SameElements (with_edge_at old name from to s like) new
  pub values : new.values ≡ (with_edge_at old name from to s like).values
  pub cycles : AreCycles new
  pub around_from : disk_of new from.0 ≡ disk_of old from.0 ++ dart_on s 0 ∷ []
  pub around_to : disk_of new to.0 ≡ disk_of old to.0 ++ dart_on s 1 ∷ []
  pub others : (v : ℕ) → v ≢ from.0 → v ≢ to.0 → disk_of new v ≡ disk_of old v
  pub radials : (e : ℕ) → radial_of new e ≡ radial_of old e
  pub rounds : (f : ℕ) → round_of new f ≡ round_of old f
  pub complete : AreWhole old → AreWhole new
  pub lens : (f : ℕ) → len_of new f ≡ len_of old f
  pub spare : spare_count new.edges.cells + 1 ≡ spare_count old.edges.cells
  pub long : length new.edges.cells ≡ length old.edges.cells
  pub edge_reach : length new.edges.names ≡ length old.edges.names
  pub verts : SameSize old.verts.cells new.verts.cells
  pub vert_reach : length new.verts.names ≡ length old.verts.names
  pub loops : new.loops ≡ old.loops
  pub faces : new.faces ≡ old.faces

-- the store with a loop more at a slot, whose values are 0, which stands alone
abbrev pub with_loop_at : Stored → Slot → Slot → Slot → Slot → Stored
with_loop_at st v e f l = change_table Loop (λ t. with_row t l.0 (zeros (total t.layers))) (record st {
  loops = slice_set st.loops l.0 (Some (new_loop v e f l));
})

-- a loop is there more, at a place that was vacant, last along its edge and in its face; all else is as before
pub record PutsLoop (old new : Stored) (f v e l : Slot) : Type 0 where
  pub low : l.0 < length old.loops
  pub vacant : at old.loops l.0 ≡ None
  pub elements : SameElements (with_loop_at old v e f l) new
  pub values : new.values ≡ (with_loop_at old v e f l).values
  pub cycles : AreCycles new
  pub disks : (w : ℕ) → disk_of new w ≡ disk_of old w
  pub own : round_of new f.0 ≡ round_of old f.0 ++ record { 0 = l } ∷ []
  pub others : (g : ℕ) → g ≢ f.0 → round_of new g ≡ round_of old g
  pub along : radial_of new e.0 ≡ radial_of old e.0 ++ record { 0 = l } ∷ []
  pub besides : (d : ℕ) → d ≢ e.0 → radial_of new d ≡ radial_of old d
  pub counted : IsCounted new f.0
  pub lens : (g : ℕ) → g ≢ f.0 → len_of new g ≡ len_of old g
  pub spare : spare_count new.loops + 1 ≡ spare_count old.loops
  pub long : length new.loops ≡ length old.loops
  pub verts : new.verts ≡ old.verts
  pub edges : SameSize old.edges.cells new.edges.cells
  pub edge_names : new.edges.names ≡ old.edges.names
  pub faces : SameSize old.faces.cells new.faces.cells
  pub face_names : new.faces.names ≡ old.faces.names

-- the store with a face more at a slot, with an example's row, which has no loop
abbrev pub with_face_at : Stored → ℕ → Slot → Option Slot → Stored
with_face_at st name s like = change_table Face (λ t. with_row t s.0 (row_like t like)) (record st {
  faces = record {
    cells = slice_set st.faces.cells s.0 (Some (new_face name));
    names = slice_set st.faces.names name (Some s);
  };
})

-- a loop is put, with a row of values
pub record PutsCorner (old new : Stored) (f v e : Slot) (row : List ℤ) (l : Slot) : Type 0 where
  -- the store with the loop, whose values are 0
  pub bare : Stored
  pub puts : PutsLoop old bare f v e l
  pub writes : new ≡ change_table Loop (λ t. with_row t l.0 row) bare
