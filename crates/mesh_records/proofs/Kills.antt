-- A face is taken away.
use Rattle.std.proofs.Common.{◌≡◌, ◌≢◌, ◌+◌, ◌-◌, ◌<◌, ◌≤◌, ℕ, is_some, List, [], Option, Some, None, length, refl, sym, ap, ◌∙◌, subst, inl, inr, arith}
use Rattle.std.specs.Prelude.{slice_set, get_or}
use Rattle.std.specs.Option.{option_map, option_and_then}
use Rattle.std.proofs.lemmas.Bool.{cases_eq}
use Rattle.std.proofs.lemmas.List.{length-set, length-map}
use Rattle.std.proofs.lemmas.List.Sums.{sum_by-set}
use Rattle.cust_data.specs.Layers.{row_of}
use Rattle.raw_pool.specs.declared.pool.Slot.{Slot}
use Rattle.raw_pool.specs.Slots.{spare_count}
use Rattle.link_ring.specs.Members.{HasMember}
use Rattle.link_ring.proofs.Members.{member_of}
use Rattle.mesh_store.specs.Slots.{at}
use Rattle.mesh_store.specs.Naming.{NamedCells, AreNamed, number_in, without_cell}
use Rattle.mesh_store.specs.Stored.{Stored}
use Rattle.mesh_store.specs.declared.cells.Round.{Round}
use Rattle.mesh_store.specs.declared.cells.VertCell.{VertCell}
use Rattle.mesh_store.specs.declared.cells.FaceCell.{FaceCell}
use Rattle.mesh_store.specs.declared.layers.Layers.{Layers}
use Rattle.mesh_store.proofs.Places.{below, written, unwritten}
use Rattle.mesh_store.proofs.Directory.{removed_directory}
use Rattle.mesh_cycles.specs.Cycles.{round_of}
use Rattle.mesh_cycles.specs.Adds.{SameCycles}
use Rattle.mesh_cycles.specs.Found.{loops_in}
use Rattle.mesh_cycles.proofs.Elements.{face_dropped}
use Rattle.mesh_cycles.proofs.Completeness.{whole_same}
use Rattle.mesh_model.specs.Complex.{corners_of, corner_sum}
use Rattle.mesh_model.specs.Kernel.{without_face}
use Rattle.mesh_model.specs.declared.names.FaceName.{FaceName}
use Rattle.mesh_model.specs.declared.records.Counters.{Counters}
use Rattle.mesh_model.specs.declared.records.FaceRec.{FaceRec}
use Rattle.mesh_records.specs.ReadOff.{NameLists}
use Rattle.mesh_records.specs.AtSlots.{StoredLoop, StoredFace, loop_in, face_in, IsAt}
use Rattle.mesh_records.specs.ReadOff.{table, vert_at, edge_at, face_at, disk_at, read_off, layers_in, corner_rec, face_rec}
use Rattle.mesh_records.specs.Room.{UsesAtMost, none_of_all, room_in}
use Rattle.mesh_records.specs.Frames.{Extends}
use Rattle.mesh_records.specs.Takes.{LosesLoops}
use Rattle.mesh_records.specs.Whole.{AreRecords, IsFew, IsNearlyWhole, IsWhole}
use Rattle.mesh_records.proofs.Options.{has_key, there}
use Rattle.mesh_records.proofs.Elements.{name_live, face_is_at, face_of_in}
use Rattle.mesh_records.proofs.Tables.{at_table, length_table, table_same, table_set}
use Rattle.mesh_records.proofs.Reading.{vert_same, edge_same, face_same, disk_same}
use Rattle.mesh_records.proofs.Edges.{names_apart, name_below}
use Rattle.mesh_records.proofs.Loses.{told_left, told_was}

-- so many corners fewer
abbrev pub corners_less : Counters → ℕ → Counters
corners_less n k = record n { corners = n.corners - k }

-- the rule holds without the face, and no room is gone
pub record KillsFace (old new : Stored) (n : Counters) (k : FaceName) (len : ℕ) : Type 0 where
  pub whole : IsWhole new (corners_less n len)
  pub read : (lists : NameLists) → read_off new (corners_less n len) lists ≡ without_face (read_off old n lists) k
  pub disks : table (disk_at new) n.verts ≡ table (disk_at old) n.verts
  pub room : UsesAtMost none_of_all (room_in old n) (room_in new (corners_less n len))

-- one less, whose name stays given
pub few_removed : {X : Type 0} (xs : List (Option X)) (s given : ℕ) → IsFew xs given
    → (let none : Option X = None in spare_count (slice_set xs s none) ≡ spare_count xs + 1)
    → (let none : Option X = None in IsFew (slice_set xs s none) given)
few_removed {X} xs s given f spare =
    let none : Option X = None in
    let long = length-set xs s none in
    let live = f.live in
    let small = f.small in
    record { live = omega arith; small = omega arith }

-- the corners of a face that is there
pub face_corners : (st : Stored) (n : Counters) (k : ℕ) (f : Slot)
    → AreNamed (λ (c : FaceCell). c.number) st.faces.cells st.faces.names → at st.faces.names k ≡ Some f → k < n.faces
    → length (corners_of (get_or (table (face_at st) n.faces) k None)) ≡ length (round_of st f.0)
face_corners st n k f named e low =
    let c = there (face_in st f.0) (face_is_at st f.0 (name_live named k f e)) in
    ap (λ (o : Option FaceRec). length (corners_of o))
    (at_table None (face_at st) n.faces k low
    ∙ ap (option_and_then (λ (s : Slot). option_map (face_rec st s.0) (face_in st s.0))) e
    ∙ ap (option_map (face_rec st f.0)) c.1)
    ∙ length-map (loops_in st f.0) (corner_rec st) ∙ length-map (round_of st f.0) (λ (r : Round). r.0)

-- so many loops has the face of a name
pub loops_of_name : (st : Stored) (n : Counters) → IsWhole st n → (k : ℕ) (f : Slot) → at st.faces.names k ≡ Some f
    → length (corners_of (get_or (table (face_at st) n.faces) k None)) ≡ length (loops_in st f.0)
loops_of_name st n w k f e =
    face_corners st n k f w.records.named.faces e (name_below st.faces.names n.faces k f w.records.below.faces e)
    ∙ sym (length-map (round_of st f.0) (λ (r : Round). r.0))

sum_less : (st : Stored) (n : Counters) (k : ℕ) (f : Slot)
    → AreNamed (λ (c : FaceCell). c.number) st.faces.cells st.faces.names → at st.faces.names k ≡ Some f → k < n.faces
    → corner_sum (slice_set (table (face_at st) n.faces) k None) + length (round_of st f.0)
    ≡ corner_sum (table (face_at st) n.faces)
sum_less st n k f named e low =
    let none : Option FaceRec = None in
    let long = length_table (face_at st) n.faces in
    let count = λ (o : Option FaceRec). length (corners_of o) in
    let set = sum_by-set count (table (face_at st) n.faces) k none none (omega arith) in
    let here = face_corners st n k f named e low in
    omega arith

-- a face has no more corners than there are
pub corners_there : (st : Stored) (n : Counters) (k : ℕ) (f : Slot) → IsWhole st n → at st.faces.names k ≡ Some f
    → length (round_of st f.0) ≤ n.corners
corners_there st n k f w e =
    let low = name_below st.faces.names n.faces k f w.records.below.faces e in
    let a = w.corners in
    let b = sum_less st n k f w.records.named.faces e low in
    omega arith

-- the store without the face at a slot
abbrev gone : Stored → ℕ → Slot → Stored
gone st k f = record st {
  faces = record {
    cells = slice_set st.faces.cells f.0 None;
    names = slice_set st.faces.names k None;
  };
}

-- what is told of a face
tell : Stored → ℕ → FaceCell → StoredFace
tell st s c = record { number = c.number; vals = row_of st.values.faces s }

module _ (old mid : Stored) (n : Counters) (k : FaceName) (f : Slot) (w : IsWhole old n)
    (at_face : at old.faces.names k.0 ≡ Some f) (m : IsNearlyWhole mid n) (l : LosesLoops old mid f.0)
    (empty : round_of mid f.0 ≡ []) where
  mid_face : at mid.faces.names k.0 ≡ Some f
  mid_face = ap (λ (xs : List (Option Slot)). at xs k.0) l.face_names ∙ at_face

  low_face : f.0 < length mid.faces.cells
  low_face = let c = has_key (λ (c : FaceCell). c.number) (at mid.faces.cells f.0) k.0
      (m.records.named.faces.live k.0 f mid_face) in below mid.faces.cells f.0 c.cell c.is

  -- what is left is another face, which was there
  left : (s : ℕ) (x : StoredFace) → face_in (gone mid k.0 f) s ≡ Some x → s ≢ f.0
  unfolding tell
  left = told_left (tell mid) mid.faces.cells f.0 low_face

  was : (s : ℕ) (x : StoredFace) → face_in (gone mid k.0 f) s ≡ Some x → face_in mid s ≡ Some x
  unfolding tell
  was = told_was (tell mid) mid.faces.cells f.0 low_face

  still : (s : ℕ) → s ≢ f.0 → IsAt (face_in mid) s → IsAt (face_in (gone mid k.0 f)) s
  unfolding tell
  still s ne is = ap (λ (o : Option FaceCell). is_some (option_map (tell mid s) o))
      (unwritten mid.faces.cells f.0 s None ne) ∙ is

  extends : Extends (gone mid k.0 f) old
  extends = record {
    verts = λ s x e. sym (l.verts_in s) ∙ e;
    edges = λ s x e. sym (l.edges_in s) ∙ e;
    loops = l.loops;
    faces = λ s x e. sym (l.faces_in s) ∙ was s x e;
  }

  pub kills_face : (new : Stored) (len : ℕ) → len ≡ length (round_of old f.0)
      → new ≡ record mid { faces = without_cell (λ c. c.number) mid.faces f.0 }
      → spare_count new.faces.cells ≡ spare_count mid.faces.cells + 1 → KillsFace old new n k len
  kills_face new len is drops spare =
      let none : Option FaceCell = None in
      let no_name : Option Slot = None in
      let left_store = gone mid k.0 f in
      let r = m.records in
      let z = m.sizes in
      let v = m.values in
      let cell = has_key (λ (c : FaceCell). c.number) (at mid.faces.cells f.0) k.0 (r.named.faces.live k.0 f mid_face)
      in
      let number : number_in (λ (c : FaceCell). c.number) (at mid.faces.cells f.0) ≡ k.0 =
      ap (number_in (λ (c : FaceCell). c.number)) cell.is ∙ cell.same in
      let to_gone : new ≡ left_store = drops ∙ ap (λ (j : ℕ). gone mid j f) number in
      let Q = λ (t : Stored). SameCycles mid t in
      let same : SameCycles mid left_store = subst Q to_gone (face_dropped mid new f m.cycles.cycles empty drops) in
      let spare' : spare_count left_store.faces.cells ≡ spare_count mid.faces.cells + 1 =
      ap (λ (t : Stored). spare_count t.faces.cells) (sym to_gone) ∙ spare in
      let k_low = below mid.faces.names k.0 f mid_face in
      let dir = removed_directory (λ (c : FaceCell). c.number) mid.faces.cells mid.faces.names r.named.faces f.0
      cell.cell cell.is in
      let D = λ (j : ℕ). AreNamed (λ (c : FaceCell). c.number) (slice_set mid.faces.cells f.0 none)
      (slice_set mid.faces.names j no_name) in
      let low = name_below old.faces.names n.faces k.0 f w.records.below.faces at_face in
      let face_names = λ (j : ℕ) (ne : j ≢ k.0). ap (λ (xs : List (Option Slot)). at xs j) (sym l.face_names)
      ∙ sym (unwritten mid.faces.names k.0 j no_name ne) in
      let vert_names = λ (j : ℕ). ap (λ (p : NamedCells VertCell). at p.names j) (sym l.verts) in
      let edge_names = λ (j : ℕ). ap (λ (xs : List (Option Slot)). at xs j) (sym l.edge_names) in
      let in_none = λ (s : ℕ) (x : StoredLoop) (e : loop_in mid s ≡ Some x) (q : x.face.0 ≡ f.0).
      let member = m.cycles.complete.rounds (record { 0 = s }) f.0
      (sym (face_of_in mid (record { 0 = s })) ∙ ap (option_map (λ (y : StoredLoop). y.face.0)) e
      ∙ ap (λ (i : ℕ). Some i) q) in
      let P = λ (ls : List Round). HasMember ls (record { 0 = record { 0 = s } }) in
      subst P empty member in
      let records : AreRecords left_store n = record {
        linked = record {
          a = r.linked.a;
          b = r.linked.b;
          vert = r.linked.vert;
          edge = r.linked.edge;
          face = λ s x e. still x.face.0 (in_none s x e) (r.linked.face s x e);
        };
        named = record { verts = r.named.verts; edges = r.named.edges; faces = subst D cell.same dir };
        below = record {
          verts = r.below.verts;
          edges = r.below.edges;
          faces = λ j le. elim (cases_eq j k.0) [
            | inl q ↦ (let P = λ (i : ℕ). at left_store.faces.names i
                ≡ None in subst P (sym q) (written mid.faces.names k.0 no_name k_low))
            | inr ne ↦ unwritten mid.faces.names k.0 j no_name ne ∙ r.below.faces j le
          ];
        };
      } in
      let x = extends in
      let none_there : face_at left_store k.0 ≡ None =
      ap (option_and_then (λ (s : Slot). option_map (face_rec left_store s.0) (face_in left_store s.0)))
      (written mid.faces.names k.0 no_name k_low) in
      let faces = table_set None (face_at old) (face_at left_store) n.faces k.0 None low none_there
      (λ j lt ne. sym (face_same left_store old x records.linked same.cycles records.named.faces j (face_names j ne)
      (λ s e. sym (same.rounds s.0 ∙ l.rounds s.0 (names_apart w.records.named.faces j k.0 s f (face_names j ne ∙ e)
      at_face ne))))) in
      let verts = table_same None (vert_at old) (vert_at left_store) n.verts
      (λ j lt. sym (vert_same left_store old x records.named.verts j (vert_names j))) in
      let edges = table_same None (edge_at old) (edge_at left_store) n.edges
      (λ j lt. sym (edge_same left_store old x records.linked records.named.edges j (edge_names j))) in
      let layers : layers_in left_store ≡ layers_in old =
      ap (λ (y : Layers). record {
        verts = y.verts.layers;
        edges = y.edges.layers;
        corners = y.loops.layers;
        faces = y.faces.layers;
      }) l.values in
      let count : corner_sum (table (face_at left_store) n.faces) + length (round_of old f.0)
      ≡ corner_sum (table (face_at old) n.faces) =
      ap (λ (ts : List (Option FaceRec)). corner_sum ts + length (round_of old f.0)) faces
      ∙ sum_less old n k.0 f w.records.named.faces at_face low in
      let cells = length-set mid.faces.cells f.0 none in
      let names = length-set mid.faces.names k.0 no_name in
      let no_loops : length (round_of mid f.0) ≡ 0 = ap (λ (ls : List Round). length ls) empty in
      let loop_spare = l.spare in
      let loop_long = l.long in
      let loops_were = w.sizes.loops.live in
      let loops_small = w.sizes.loops.small in
      let was_corners = w.corners in
      let corner_limit = z.corner_limit in
      let face_reach = z.face_reach in
      let vert_spare = ap (λ (p : NamedCells VertCell). spare_count p.cells) l.verts in
      let vert_long = ap (λ (p : NamedCells VertCell). length p.names) l.verts in
      let edge_spare = l.edges.spare in
      let edge_long = ap (λ (xs : List (Option Slot)). length xs) l.edge_names in
      let face_spare = l.faces.spare in
      let face_long = ap (λ (xs : List (Option Slot)). length xs) l.face_names in
      let whole : IsWhole left_store (corners_less n len) = record {
        records = record {
          linked = records.linked;
          named = records.named;
          below = record { verts = records.below.verts; edges = records.below.edges; faces = records.below.faces };
        };
        cycles = record {
          cycles = same.cycles;
          complete = record {
            disks = whole_same mid left_store (λ d. refl) (λ d. refl) same.disks m.cycles.complete.disks;
            radials = λ s e p. member_of _ (m.cycles.complete.radials s e p) (sym (same.radials e));
            rounds = λ s g p. member_of _ (m.cycles.complete.rounds s g p) (sym (same.rounds g));
          };
          counted = λ g j p.
              let was_there = told_was (λ (i : ℕ) (c : FaceCell). c.len) mid.faces.cells f.0 low_face g j p in
              m.cycles.counted g j was_there ∙ ap (λ (ls : List Round). length ls) (sym (same.rounds g));
        };
        values = record {
          verts = v.verts;
          edges = v.edges;
          loops = v.loops;
          faces = v.faces;
          rows = record {
            verts = v.rows.verts;
            edges = v.rows.edges;
            loops = v.rows.loops;
            faces = (let b = v.rows.faces in omega arith);
            few = v.rows.few;
          };
        };
        sizes = record {
          vert_limit = z.vert_limit;
          edge_limit = z.edge_limit;
          face_limit = z.face_limit;
          corner_limit = omega arith;
          vert_reach = z.vert_reach;
          edge_reach = z.edge_reach;
          face_reach = omega arith;
          verts = z.verts;
          edges = z.edges;
          faces = few_removed mid.faces.cells f.0 n.faces z.faces spare';
          loops = record { live = omega arith; small = omega arith };
        };
        some = λ g at_g e.
            let c = there (face_in left_store g) at_g in
            let ne = left g c.0 c.1 in
            w.some g (ap (λ (o : Option StoredFace). is_some o) (sym (l.faces_in g) ∙ was g c.0 c.1))
            (sym (same.rounds g ∙ l.rounds g ne) ∙ e);
        corners = omega arith;
      } in
      let P = λ (t : Stored). KillsFace old t n k len in
      subst P (sym to_gone) (record {
        whole = whole;
        read = λ lists. λ i. record {
          verts = verts i;
          edges = edges i;
          faces = faces i;
          layers = layers i;
          materials = lists.materials;
          libraries = lists.libraries;
        };
        disks = table_same [] (disk_at old) (disk_at left_store) n.verts
            (λ j lt. sym (disk_same left_store old x same.cycles j (vert_names j)
            (λ s e. sym (same.disks s.0 ∙ l.disks s.0))));
        room = record { verts = omega arith; edges = omega arith; corners = omega arith; faces = omega arith };
      })
