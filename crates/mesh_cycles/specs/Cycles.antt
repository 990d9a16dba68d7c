-- The three kinds of cycles of a store, each as the list of its members, and when all cycles hold.
use Rattle.std.specs.Prelude.{◌≡◌, ◌≢◌, ◌*◌, ℕ, IsTrue, List, length}
use Rattle.std.specs.declared.option.Option.{Option}
use Rattle.std.specs.declared.option.Option.TheVariants.{None, Some}
use Rattle.raw_pool.specs.declared.pool.Slot.{Slot}
use Rattle.link_ring.specs.Members.{HasMember}
use Rattle.link_ring.specs.Ring.{ReadsAs}
use Rattle.mesh_store.specs.Slots.{at}
use Rattle.mesh_store.specs.Stored.{Stored, dart_links, radial_links, round_links}
use Rattle.mesh_store.specs.declared.cells.Dart.{Dart}
use Rattle.mesh_store.specs.declared.cells.Radial.{Radial}
use Rattle.mesh_store.specs.declared.cells.Round.{Round}
use Rattle.mesh_store.specs.declared.cells.EdgeCell.{EdgeCell}
use Rattle.mesh_cycles.specs.Owners.{end_on, dart_end, edge_of, face_of, len_of, first_dart, first_radial, first_round}
use Rattle.mesh_cycles.specs.Lists.{ring_list, same_dart, same_radial, same_round}

-- there are at most so many darts
abbrev pub dart_limit : Stored → ℕ
dart_limit st = 2 * length st.edges.cells

-- there are at most so many loops
abbrev pub loop_limit : Stored → ℕ
loop_limit st = length st.loops

-- the disk cycle of a vertex: its darts, from that of its first edge on
abbrev pub disk_of : Stored → ℕ → List Dart
disk_of st v = ring_list same_dart (dart_links st) (dart_limit st) (first_dart st v)

-- the radial cycle of an edge: its loops, from its first on
abbrev pub radial_of : Stored → ℕ → List Radial
radial_of st e = ring_list same_radial (radial_links st) (loop_limit st) (first_radial st e)

-- the loop cycle of a face: its loops, from its first on
abbrev pub round_of : Stored → ℕ → List Round
round_of st f = ring_list same_round (round_links st) (loop_limit st) (first_round st f)

-- the two ends of each edge differ
abbrev pub EndsDiffer : List (Option EdgeCell) → Type 0
EndsDiffer cells = (e : ℕ) (c : EdgeCell) → at cells e ≡ Some c → end_on 0 c ≢ end_on 1 c

-- every cycle reads as its list, its members name their owner, and the two ends of an edge differ
pub record AreCycles (st : Stored) : Type 0 where
  pub disks : (v : ℕ) → ReadsAs (dart_links st) (first_dart st v) (disk_of st v)
  pub radials : (e : ℕ) → ReadsAs (radial_links st) (first_radial st e) (radial_of st e)
  pub rounds : (f : ℕ) → ReadsAs (round_links st) (first_round st f) (round_of st f)
  pub disk_ends : (v : ℕ) (d : Dart) → HasMember (disk_of st v) d → dart_end st d ≡ Some v
  pub radial_edges : (e : ℕ) (l : Radial) → HasMember (radial_of st e) l → edge_of st l.0 ≡ Some e
  pub round_faces : (f : ℕ) (l : Round) → HasMember (round_of st f) l → face_of st l.0 ≡ Some f
  pub differ : EndsDiffer st.edges.cells

-- the dart is in no disk cycle
abbrev pub IsInNoDisk : Stored → Dart → Type 0
IsInNoDisk st d = (v : ℕ) → HasMember (disk_of st v) d → ⊥

-- the loop is in no radial cycle
abbrev pub IsInNoRadial : Stored → Slot → Type 0
IsInNoRadial st l = (e : ℕ) → HasMember (radial_of st e) (record { 0 = l }) → ⊥

-- the loop is in no loop cycle
abbrev pub IsInNoRound : Stored → Slot → Type 0
IsInNoRound st l = (f : ℕ) → HasMember (round_of st f) (record { 0 = l }) → ⊥

-- the stored length of a face is the number of its loops
abbrev pub IsCounted : Stored → ℕ → Type 0
IsCounted st f = len_of st f ≡ Some (length (round_of st f))

-- every dart of a live edge that ends at a vertex is in the disk cycle of the vertex
abbrev pub HasWholeDisk : Stored → ℕ → Type 0
HasWholeDisk st v = (d : Dart) → IsTrue ((dart_links st).has d) → dart_end st d ≡ Some v → HasMember (disk_of st v) d

-- every dart of a live edge is in the disk cycle of its end
abbrev pub AreWhole : Stored → Type 0
AreWhole st = (v : ℕ) → HasWholeDisk st v

-- so is every dart of a live edge, but for one edge's
abbrev pub AreWholeBut : ℕ → Stored → Type 0
AreWholeBut e st = (v : ℕ) (d : Dart) → d.edge.0 ≢ e → IsTrue ((dart_links st).has d) → dart_end st d ≡ Some v
    → HasMember (disk_of st v) d

-- every dart of a live edge is in the disk cycle of its end, and every live loop in the cycles of its edge and its face
pub record AreComplete (st : Stored) : Type 0 where
  pub disks : AreWhole st
  pub radials : (l : Slot) (e : ℕ) → edge_of st l ≡ Some e → HasMember (radial_of st e) (record { 0 = l })
  pub rounds : (l : Slot) (f : ℕ) → face_of st l ≡ Some f → HasMember (round_of st f) (record { 0 = l })

-- the stored length of each face is the number of its loops
abbrev pub AreCounted : Stored → Type 0
AreCounted st = (f n : ℕ) → len_of st f ≡ Some n → n ≡ length (round_of st f)

-- all cycles hold, nothing that belongs to one is left out, and lengths are right
pub record HaveCycles (st : Stored) : Type 0 where
  pub cycles : AreCycles st
  pub complete : AreComplete st
  pub counted : AreCounted st

-- no vertex has a first edge, and no edge and no face a first loop
pub record HaveNoFirsts (st : Stored) : Type 0 where
  pub verts : (v : ℕ) → first_dart st v ≡ None
  pub edges : (e : ℕ) → first_radial st e ≡ None
  pub faces : (f : ℕ) → first_round st f ≡ None
