-- What the iterators give, and the edge that joins two vertices.
use Rattle.std.specs.Prelude.{◌≡◌, ◌≤◌, ◌==◌, ◌&&◌, ◌||◌, ℕ, Bool, true, false, List, map}
use Rattle.std.specs.declared.option.Option.{Option}
use Rattle.std.specs.List.{filter, filter_map, flat_map, find}
use Rattle.std.specs.Option.{option_map_or, option_or, option_and_then}
use Rattle.raw_pool.specs.declared.pool.Slot.{Slot}
use Rattle.raw_pool.specs.Slots.{holds, IsLive}
use Rattle.link_ring.specs.Members.{HasMember}
use Rattle.mesh_store.specs.Slots.{at}
use Rattle.mesh_store.specs.Stored.{Stored, no_slot}
use Rattle.mesh_store.specs.declared.cells.Dart.{Dart}
use Rattle.mesh_store.specs.declared.cells.Radial.{Radial}
use Rattle.mesh_store.specs.declared.cells.Round.{Round}
use Rattle.mesh_store.specs.declared.cells.EdgeCell.{EdgeCell}
use Rattle.mesh_store.specs.declared.cells.LoopCell.{LoopCell}
use Rattle.mesh_cycles.specs.Owners.{end_on}
use Rattle.mesh_cycles.specs.Cycles.{disk_of, radial_of, round_of}

-- each slot of the list is live
abbrev pub AllLive : {X : Type 0} → List (Option X) → List Slot → Type 0
AllLive cells xs = (s : Slot) → HasMember xs s → IsLive cells s.0

-- the edges around a vertex
abbrev pub edges_around : Stored → ℕ → List Slot
edges_around st v = map (λ (d : Dart). d.edge) (disk_of st v)

-- the loops around an edge
abbrev pub loops_along : Stored → ℕ → List Slot
loops_along st e = map (λ (l : Radial). l.0) (radial_of st e)

-- the loops of a face, in order
abbrev pub loops_in : Stored → ℕ → List Slot
loops_in st f = map (λ (l : Round). l.0) (round_of st f)

-- a loop stands at a vertex
abbrev pub stands_at : Stored → ℕ → Slot → Bool
stands_at st v l = option_map_or (λ (c : LoopCell). c.vert.0 == v) (at st.loops l.0) false

-- a loop goes along an edge
abbrev pub goes_along : Stored → ℕ → Slot → Bool
goes_along st e l = option_map_or (λ (c : LoopCell). c.edge.0 == e) (at st.loops l.0) false

-- an edge ends at a vertex
abbrev pub ends_at : Stored → ℕ → Slot → Bool
ends_at st v e = option_map_or (λ (c : EdgeCell). (end_on 0 c == v) || (end_on 1 c == v)) (at st.edges.cells e.0) false

-- a loop is a corner at a vertex: it stands there, and its edge ends there
abbrev pub is_corner_at : Stored → ℕ → Slot → Bool
is_corner_at st v l = stands_at st v l && option_map_or (λ (c : LoopCell). ends_at st v c.edge) (at st.loops l.0) false

-- the loops at a vertex whose edges are around it, edge by edge
abbrev pub loops_around : Stored → ℕ → List Slot
loops_around st v = flat_map (λ e. filter (stands_at st v) (loops_along st e.0)) (edges_around st v)

-- the face of a loop
abbrev pub face_at : Stored → Slot → Slot
face_at st l = option_map_or (λ (c : LoopCell). c.face) (at st.loops l.0) no_slot

-- a loop, if there is one and it is among some loops, else the first of these that names a face
abbrev pub own_or_first : Stored → Option Slot → List Slot → Slot → Option Slot
own_or_first st own ls f =
    option_or (option_and_then (λ (k : Slot). find (λ (l : Slot). l.0 == k.0) ls) own)
    (find (λ (l : Slot). (face_at st l).0 == f.0) ls)

-- of some loops, only this one names a face
abbrev pub IsAlone : Stored → List Slot → Slot → Slot → Type 0
IsAlone st ls f l = (k : Slot) → HasMember ls k → face_at st k ≡ f → k ≡ l

-- with which of some loops a face comes: its own cycle's first that passes a test, or else the first that names it
abbrev pub leader : Stored → (Slot → Bool) → List Slot → Slot → Option Slot
leader st test ls f = own_or_first st (find test (loops_in st f.0)) ls f

-- the face of a loop is live, and comes with this loop
abbrev pub leads : Stored → (Slot → Bool) → List Slot → Slot → Bool
leads st test ls l = holds (at st.faces.cells (face_at st l).0) && option_map_or (λ (k : Slot). k.0 == l.0)
    (leader st test ls (face_at st l)) false

-- the faces that come with some of all loops
abbrev pub faces_led : Stored → (Slot → Bool) → List Slot → List Slot → List Slot
faces_led st test all ls = map (face_at st) (filter (leads st test all) ls)

-- the live faces of the loops along an edge, each with one of them
abbrev pub faces_along : Stored → ℕ → List Slot
faces_along st e = faces_led st (goes_along st e) (loops_along st e) (loops_along st e)

-- the live faces of the loops around a vertex, each with one of them
abbrev pub faces_around : Stored → ℕ → List Slot
faces_around st v = faces_led st (is_corner_at st v) (loops_around st v) (loops_around st v)

-- the slots that a table of names leads to, by rising name
abbrev pub by_name : List (Option Slot) → List Slot
by_name names = filter_map (λ o. o) names

-- a live edge joins two vertices
abbrev pub joins : Stored → ℕ → ℕ → Slot → Bool
joins st a b e = option_map_or (λ (c : EdgeCell). ((end_on 0 c == a) && (end_on 1 c == b)) ||
    ((end_on 0 c == b) && (end_on 1 c == a))) (at st.edges.cells e.0) false

-- no live edge joins two vertices
abbrev pub NoneJoins : Stored → ℕ → ℕ → Type 0
NoneJoins st a b = (e : Slot) → joins st a b e ≡ true → ⊥

-- the number of an edge's name
abbrev pub number_of : Stored → Slot → ℕ
number_of st e = option_map_or (λ (c : EdgeCell). c.number) (at st.edges.cells e.0) 0

-- the edge joins two vertices, and no edge that joins them has a lesser name
pub record JoinsFirst (st : Stored) (a b : ℕ) (e : Slot) : Type 0 where
  pub joined : joins st a b e ≡ true
  pub least : (k : Slot) → joins st a b k ≡ true → number_of st e ≤ number_of st k
