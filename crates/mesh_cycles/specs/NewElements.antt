-- What is true of every store after an add: the new element is in no cycle, and every cycle has its members.
use Rattle.std.specs.Prelude.{◌≡◌, ◌≢◌, ◌<◌, ℕ, ℤ, List, length, slice_set}
use Rattle.std.specs.declared.option.Option.{Option}
use Rattle.std.specs.declared.option.Option.TheVariants.{None, Some}
use Rattle.raw_pool.specs.declared.pool.Slot.{Slot}
use Rattle.mesh_store.specs.Slots.{at}
use Rattle.mesh_store.specs.Stored.{Stored, new_vert, new_edge, new_loop, new_face}
use Rattle.mesh_store.specs.Parts.{cleared}
use Rattle.mesh_cycles.specs.Owners.{end_on}
use Rattle.mesh_cycles.specs.Cycles.{AreCycles}
use Rattle.mesh_cycles.specs.Adds.{AddsVert, AddsEdge, AddsLoop, AddsFace}

-- a slot of a list is vacant
abbrev pub IsVacant : {X : Type 0} → List (Option X) → Slot → Type 0
IsVacant xs s = (s.0 < length xs) × (at xs s.0 ≡ None)

-- a new vertex has an empty cycle
abbrev pub NewVerts : Type 0
NewVerts = (old new : Stored) (s : Slot) (name : ℕ) (point : List ℤ) (names : List (Option Slot)) → AreCycles old
    → IsVacant old.verts.cells s
    → new ≡ record old {
      verts = record {
        cells = slice_set old.verts.cells s.0 (Some (new_vert name point));
        names = names;
      };
    } → AddsVert old new s (new_vert name point)

-- a new edge, whose ends differ, has an empty cycle, and its darts are in none
abbrev pub NewEdges : Type 0
NewEdges = (old new : Stored) (s : Slot) (name : ℕ) (ends : List Slot) (names : List (Option Slot)) → AreCycles old
    → IsVacant old.edges.cells s
    → end_on 0 (new_edge name ends s) ≢ end_on 1 (new_edge name ends s)
    → new ≡ record old {
      edges = record {
        cells = slice_set old.edges.cells s.0 (Some (new_edge name ends s));
        names = names;
      };
    } → AddsEdge old new s (new_edge name ends s)

-- a new loop is in no cycle
abbrev pub NewLoops : Type 0
NewLoops = (old new : Stored) (s vert edge face : Slot) → AreCycles old → IsVacant old.loops s
    → new ≡ record old { loops = slice_set old.loops s.0 (Some (new_loop vert edge face s)) }
    → AddsLoop old new s (new_loop vert edge face s)

-- a new face has an empty cycle
abbrev pub NewFaces : Type 0
NewFaces = (old new : Stored) (s : Slot) (name : ℕ) (names : List (Option Slot)) → AreCycles old
    → IsVacant old.faces.cells s
    → new ≡ record old {
      faces = record { cells = slice_set old.faces.cells s.0 (Some (new_face name)); names = names };
    } → AddsFace old new s (new_face name)

-- a store that was cleared has cycles that hold, all of them empty
abbrev pub NoElements : Type 0
NoElements = (st : Stored) → AreCycles (cleared st)
