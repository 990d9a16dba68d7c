-- What stays when one cycle changes.
use Rattle.std.specs.Prelude.{◌≡◌, ◌≢◌, ℕ, List, map}
use Rattle.std.specs.declared.option.Option.TheVariants.{None}
use Rattle.std.specs.Option.{option_map}
use Rattle.link_ring.specs.Changes.{SameOutside}
use Rattle.mesh_store.specs.Stored.{Stored, dart_links, radial_links, round_links, with_first_edge, with_first_loop, with_face_loop, with_face_len, change_vert, change_edge, change_face, without_disk, without_radial, without_round, beside_darts, beside_radials, beside_rounds}
use Rattle.mesh_store.specs.declared.cells.Dart.{Dart}
use Rattle.mesh_store.specs.declared.cells.Radial.{Radial}
use Rattle.mesh_store.specs.declared.cells.Round.{Round}
use Rattle.mesh_store.specs.declared.cells.VertCell.{VertCell}
use Rattle.mesh_store.specs.declared.cells.EdgeCell.{EdgeCell}
use Rattle.mesh_store.specs.declared.cells.LoopCell.{LoopCell}
use Rattle.mesh_store.specs.declared.cells.FaceCell.{FaceCell}
use Rattle.mesh_cycles.specs.Cycles.{AreCycles, IsCounted, disk_of, radial_of, round_of}

-- every disk cycle has its members, but for one vertex's
abbrev pub SameDisksBut : ℕ → Stored → Stored → Type 0
SameDisksBut v old new = (w : ℕ) → w ≢ v → disk_of new w ≡ disk_of old w

-- every radial cycle has its members, but for one edge's
abbrev pub SameRadialsBut : ℕ → Stored → Stored → Type 0
SameRadialsBut e old new = (d : ℕ) → d ≢ e → radial_of new d ≡ radial_of old d

-- every loop cycle has its members, but for one face's
abbrev pub SameRoundsBut : ℕ → Stored → Stored → Type 0
SameRoundsBut f old new = (g : ℕ) → g ≢ f → round_of new g ≡ round_of old g

-- every disk cycle has its members
abbrev pub SameDisks : Stored → Stored → Type 0
SameDisks old new = (v : ℕ) → disk_of new v ≡ disk_of old v

-- every radial cycle has its members
abbrev pub SameRadials : Stored → Stored → Type 0
SameRadials old new = (e : ℕ) → radial_of new e ≡ radial_of old e

-- every loop cycle has its members
abbrev pub SameRounds : Stored → Stored → Type 0
SameRounds old new = (f : ℕ) → round_of new f ≡ round_of old f

-- everything but the disk links and the first edge of a vertex
abbrev pub beside_disk : Stored → ℕ → Stored
beside_disk st v = beside_darts (change_vert (with_first_edge None) st v)

-- everything but the radial links and the first loop of an edge
abbrev pub beside_radial : Stored → ℕ → Stored
beside_radial st e = beside_radials (change_edge (with_first_loop None) st e)

-- the face without its first loop and its length
abbrev pub bare_face : FaceCell → FaceCell
bare_face c = with_face_len 0 (with_face_loop None c)

-- everything but the links around faces, and the first loop and the length of a face
abbrev pub beside_round : Stored → ℕ → Stored
beside_round st f = beside_rounds (change_face bare_face st f)

-- ---- everything but cycles

-- the vertex without its first edge
abbrev pub bare_vert : VertCell → VertCell
bare_vert = with_first_edge None

-- the edge without its disk links and its first loop
abbrev pub bare_edge : EdgeCell → EdgeCell
bare_edge c = with_first_loop None (without_disk c)

-- the loop without its links
abbrev pub bare_loop : LoopCell → LoopCell
bare_loop c = without_round (without_radial c)

-- everything but links, first members and lengths: elements with their names, points, ends and owners, room, and values
abbrev pub bare : Stored → Stored
bare st = record {
  verts = record { cells = map (option_map bare_vert) st.verts.cells; names = st.verts.names };
  edges = record { cells = map (option_map bare_edge) st.edges.cells; names = st.edges.names };
  loops = map (option_map bare_loop) st.loops;
  faces = record { cells = map (option_map bare_face) st.faces.cells; names = st.faces.names };
  values = st.values;
}

-- ---- calls on one cycle

-- the disk cycle of a vertex has the members `now`. Disk links stay outside the keys `touched`, all other cycles have
-- their members, and all
-- else stays: `rest`, and so `stays`
pub record EditsDisk (old new : Stored) (v : ℕ) (touched now : List Dart) : Type 0 where
  pub own : disk_of new v ≡ now
  pub links : SameOutside (dart_links old) (dart_links new) touched
  pub others : SameDisksBut v old new
  pub radials : SameRadials old new
  pub rounds : SameRounds old new
  pub rest : beside_disk new v ≡ beside_disk old v
  pub stays : bare new ≡ bare old
  pub cycles : AreCycles new

-- the same of the radial cycle of an edge
pub record EditsRadial (old new : Stored) (e : ℕ) (touched now : List Radial) : Type 0 where
  pub own : radial_of new e ≡ now
  pub links : SameOutside (radial_links old) (radial_links new) touched
  pub disks : SameDisks old new
  pub others : SameRadialsBut e old new
  pub rounds : SameRounds old new
  pub rest : beside_radial new e ≡ beside_radial old e
  pub stays : bare new ≡ bare old
  pub cycles : AreCycles new

-- the same of the loop cycle of a face, whose length is then the number of its loops
pub record EditsRound (old new : Stored) (f : ℕ) (touched now : List Round) : Type 0 where
  pub own : round_of new f ≡ now
  pub len : IsCounted new f
  pub links : SameOutside (round_links old) (round_links new) touched
  pub disks : SameDisks old new
  pub radials : SameRadials old new
  pub others : SameRoundsBut f old new
  pub rest : beside_round new f ≡ beside_round old f
  pub stays : bare new ≡ bare old
  pub cycles : AreCycles new
