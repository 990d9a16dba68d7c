-- A vertex without edges and corners is dropped.
use Rattle.std.proofs.Common.{◌≡◌, ◌≢◌, ◌+◌, ◌<◌, ◌||◌, ℕ, Bool, true, false, is_some, nat_lt, List, [], ◌∷◌, Option, Some, None, length, map, refl, sym, ap, ◌∙◌, subst, inl, inr, arith}
use Rattle.std.specs.Prelude.{slice_set}
use Rattle.std.specs.List.{list_any}
use Rattle.std.specs.Option.{option_map, option_map_or, option_and_then}
use Rattle.std.proofs.lemmas.Bool.{cases_eq, eq-eqb, false≢true}
use Rattle.std.proofs.lemmas.List.{length-set}
use Rattle.cust_data.specs.Layers.{row_of}
use Rattle.raw_pool.specs.declared.pool.Slot.{Slot}
use Rattle.raw_pool.specs.Slots.{spare_count}
use Rattle.link_ring.specs.Members.{HasMember}
use Rattle.link_ring.specs.Mapped.{mapped_to}
use Rattle.mesh_store.specs.Slots.{at}
use Rattle.mesh_store.specs.Naming.{AreNamed, number_in, without_cell}
use Rattle.mesh_store.specs.Stored.{Stored}
use Rattle.mesh_store.specs.declared.cells.Dart.{Dart}
use Rattle.mesh_store.specs.declared.cells.Round.{Round}
use Rattle.mesh_store.specs.declared.cells.VertCell.{VertCell}
use Rattle.mesh_store.proofs.Places.{below, written, unwritten}
use Rattle.mesh_store.proofs.Directory.{removed_directory}
use Rattle.mesh_cycles.specs.Owners.{dart_end}
use Rattle.mesh_cycles.specs.Cycles.{disk_of, round_of}
use Rattle.mesh_cycles.specs.Found.{loops_in}
use Rattle.mesh_cycles.proofs.Completeness.{dart_there}
use Rattle.mesh_cycles.proofs.Elements.{vert_dropped}
use Rattle.mesh_model.specs.Complex.{corner_sum}
use Rattle.mesh_model.specs.Table.{passes}
use Rattle.mesh_model.specs.Incidence.{is_at, uses_vert}
use Rattle.mesh_model.specs.declared.names.VertName.{VertName}
use Rattle.mesh_model.specs.declared.records.Counters.{Counters}
use Rattle.mesh_model.specs.declared.records.CornerRec.{CornerRec}
use Rattle.mesh_records.specs.ReadOff.{NameLists}
use Rattle.mesh_records.specs.AtSlots.{StoredVert, StoredEdge, StoredLoop, vert_in, edge_in, loop_in, face_in, end_of, IsAt}
use Rattle.mesh_records.specs.ReadOff.{table, vert_at, edge_at, face_at, disk_at, read_off, layers_in, vert_rec, vert_name, loop_rec, face_rec, no_corner, corner_rec, edge_name, names_around}
use Rattle.mesh_records.specs.StandsFor.{face_name}
use Rattle.mesh_records.specs.Room.{UsesAtMost, none_of_all, room_in}
use Rattle.mesh_records.specs.Changes.{only_without_vert, has_no_corner}
use Rattle.mesh_records.specs.Frames.{Extends}
use Rattle.mesh_records.specs.Whole.{AreLinked, IsWhole}
use Rattle.mesh_records.proofs.Options.{HasKey, has_key, there}
use Rattle.mesh_records.proofs.Elements.{dart_end_in, face_of_in}
use Rattle.mesh_records.proofs.Tables.{table_same, table_set}
use Rattle.mesh_records.proofs.ByName.{faces_all, face_leads, vert_named}
use Rattle.mesh_records.proofs.Reading.{vert_same, edge_same, face_same, disk_same}
use Rattle.mesh_records.proofs.Edges.{name_below}
use Rattle.mesh_records.proofs.Frames.{SameOwners, cycles_stay}
use Rattle.mesh_records.proofs.Gone.{none_passes}
use Rattle.mesh_records.proofs.Kills.{few_removed}
use Rattle.mesh_records.proofs.Drops.{none_set}
use Rattle.mesh_records.proofs.Loses.{told_was}

-- the store without the vertex at a slot, to which no name leads then
abbrev pub without_vert_at : Stored → Slot → Stored
without_vert_at st s = record st { verts = without_cell (λ c. c.number) st.verts s.0 }

-- the rule holds without the vertex, and no room is gone
pub record DropsAVert (old new : Stored) (n : Counters) (k : VertName) : Type 0 where
  pub whole : IsWhole new n
  pub read : (lists : NameLists) → read_off new n lists ≡ only_without_vert (read_off old n lists) k
  pub disks : table (disk_at new) n.verts ≡ table (disk_at old) n.verts
  pub room : UsesAtMost none_of_all (room_in old n) (room_in new n)

-- a list passes where a member does
any_member : {X : Type 0} (test : X → Bool) (xs : List X) (x : X) → HasMember xs x → test x ≡ true
    → list_any test xs ≡ true
any_member test [] x h e = absurd h
any_member test (y ∷ ys) x h e = elim h [
  | inl q ↦ by_first (test y) (ap test q ∙ e)
  | inr m ↦ by_rest (test y) (any_member test ys x m e)
]
  where
    by_first : (b : Bool) → b ≡ true → (b || list_any test ys) ≡ true
    by_first true q = refl
    by_first false q = absurd (false≢true q)

    by_rest : (b : Bool) → list_any test ys ≡ true → (b || list_any test ys) ≡ true
    by_rest true q = refl
    by_rest false q = q

module _ (old new : Stored) (n : Counters) (k : VertName) (s : Slot) (w : IsWhole old n)
    (at_vert : at old.verts.names k.0 ≡ Some s) (empty : disk_of old s.0 ≡ [])
    (lists : NameLists) (none : has_no_corner (read_off old n lists) k ≡ true) where
  cell : HasKey (λ (c : VertCell). c.number) (at old.verts.cells s.0) k.0
  cell = has_key (λ (c : VertCell). c.number) (at old.verts.cells s.0) k.0 (w.records.named.verts.live k.0 s at_vert)

  low : s.0 < length old.verts.cells
  low = below old.verts.cells s.0 cell.cell cell.is

  num : number_in (λ (c : VertCell). c.number) (at old.verts.cells s.0) ≡ k.0
  num = ap (number_in (λ (c : VertCell). c.number)) cell.is ∙ cell.same

  -- no edge ends there
  no_end : (side j : ℕ) (e : StoredEdge) → nat_lt side 2 ≡ true → edge_in old j ≡ Some e → end_of side e ≢ s.0
  no_end side j e lt is q =
      let d : Dart = record { edge = record { 0 = j }; side = side } in
      let ends : dart_end old d ≡ Some s.0 = sym (dart_end_in old d) ∙ ap (option_map (end_of side)) is
      ∙ ap (λ (i : ℕ). Some i) q in
      let P = λ (ds : List Dart). HasMember ds d in
      subst P empty (w.cycles.complete.disks s.0 d (dart_there old d s.0 ends lt) ends)

  -- and no loop is at it
  no_loop : (j : ℕ) (l : StoredLoop) → loop_in old j ≡ Some l → l.vert.0 ≢ s.0
  no_loop j l is q =
      let slot : Slot = record { 0 = j } in
      let f = l.face.0 in
      let live = w.records.linked.face j l is in
      let g = there (face_in old f) live in
      let member = w.cycles.complete.rounds slot f (sym (face_of_in old slot)
      ∙ ap (option_map (λ (x : StoredLoop). x.face.0)) is) in
      let inside = mapped_to (λ (r : Round). r.0) (round_of old f) (record { 0 = slot }) member in
      let corner = mapped_to (corner_rec old) (loops_in old f) slot inside in
      let rec : corner_rec old slot ≡ loop_rec old l =
      ap (λ (o : Option StoredLoop). option_map_or (loop_rec old) o no_corner) is in
      let name : (vert_name old l.vert.0).0 ≡ k.0 =
      ap (λ (i : ℕ). (vert_name old i).0) q ∙ vert_named old n w.records k.0 s at_vert in
      let here : (corner_rec old slot).vert.0 ≡ k.0 = ap (λ (x : CornerRec). x.vert.0) rec ∙ name in
      let uses = any_member (is_at k) (map (corner_rec old) (loops_in old f)) (corner_rec old slot) corner
      (eq-eqb (corner_rec old slot).vert.0 k.0 here) in
      let faces = table (face_at old) n.faces in
      let x = (face_name old f).0 in
      let stands : at faces x ≡ Some (face_rec old f g.0) =
      faces_all old n w.records x ∙ ap (option_and_then (λ (i : Slot). option_map (face_rec old i.0) (face_in old i.0)))
      (face_leads old n w.records l.face live)
      ∙ ap (option_map (face_rec old f)) g.1 in
      none_passes (uses_vert k) faces none x (ap (passes (uses_vert k)) stands ∙ uses)

  was : (j : ℕ) (x : StoredVert) → vert_in (without_vert_at old s) j ≡ Some x → vert_in old j ≡ Some x
  was = told_was (λ (j : ℕ) (c : VertCell). let y : StoredVert =
      record { number = c.number; point = c.point; vals = row_of old.values.verts j } in y) old.verts.cells s.0 low

  extends : Extends (without_vert_at old s) old
  extends = record { verts = was; edges = λ j x e. e; loops = λ j x e. e; faces = λ j x e. e }

  still : (j : ℕ) → j ≢ s.0 → IsAt (vert_in old) j → IsAt (vert_in (without_vert_at old s)) j
  still j ne is =
      let tell = λ (c : VertCell). let y : StoredVert =
      record { number = c.number; point = c.point; vals = row_of old.values.verts j } in y in
      ap (λ (o : Option VertCell). is_some (option_map tell o)) (unwritten old.verts.cells s.0 j None ne) ∙ is

  linked_made : AreLinked (without_vert_at old s)
  linked_made =
      let r = w.records.linked in
      record {
        a = λ j e is. still (end_of 0 e) (no_end 0 j e refl is) (r.a j e is);
        b = λ j e is. still (end_of 1 e) (no_end 1 j e refl is) (r.b j e is);
        vert = λ j l is. still l.vert.0 (no_loop j l is) (r.vert j l is);
        edge = r.edge;
        face = r.face;
      }

  names_less : (j : ℕ) → at (without_vert_at old s).verts.names j
      ≡ (let gone : Option Slot = None in at (slice_set old.verts.names k.0 gone) j)
  names_less j = let gone : Option Slot = None in ap (λ (i : ℕ). at (slice_set old.verts.names i gone) j) num

  named_made : AreNamed (λ (c : VertCell). c.number) (without_vert_at old s).verts.cells
      (without_vert_at old s).verts.names
  named_made =
      let gone : Option VertCell = None in
      let no_name : Option Slot = None in
      let D = λ (j : ℕ). AreNamed (λ (c : VertCell). c.number) (slice_set old.verts.cells s.0 gone)
      (slice_set old.verts.names j no_name) in
      subst D (sym (ap (number_in (λ (c : VertCell). c.number)) cell.is))
      (removed_directory (λ (c : VertCell). c.number) old.verts.cells old.verts.names w.records.named.verts s.0
      cell.cell cell.is)

  pub drops_a_vert : new ≡ record old { verts = without_cell (λ c. c.number) old.verts s.0 }
      → spare_count new.verts.cells ≡ spare_count old.verts.cells + 1 → DropsAVert old new n k
  drops_a_vert drops spare =
      let made = without_vert_at old s in
      let h = w.cycles.cycles in
      let r = w.records in
      let z = w.sizes in
      let v = w.values in
      let x = extends in
      let gone : Option VertCell = None in
      let no_name : Option Slot = None in
      let same = vert_dropped old made s h empty refl in
      let owners : SameOwners old made = record {
        darts = λ d. refl;
        ends = λ d. refl;
        edges = λ l. refl;
        faces = λ l. refl;
        lens = λ f. refl;
      } in
      let more : spare_count made.verts.cells ≡ spare_count old.verts.cells + 1 =
      ap (λ (t : Stored). spare_count t.verts.cells) (sym drops) ∙ spare in
      let vert_low = name_below old.verts.names n.verts k.0 s r.below.verts at_vert in
      let leads : at made.verts.names k.0 ≡ None =
      names_less k.0 ∙ written old.verts.names k.0 no_name (below old.verts.names k.0 s at_vert) in
      let others = λ (j : ℕ) (ne : j ≢ k.0). sym (names_less j ∙ unwritten old.verts.names k.0 j no_name ne) in
      let none_there : vert_at made k.0 ≡ None =
      ap (option_and_then (λ (i : Slot). option_map vert_rec (vert_in made i.0))) leads in
      let verts = table_set None (vert_at old) (vert_at made) n.verts k.0 None vert_low none_there
      (λ j lt ne. sym (vert_same made old x named_made j (others j ne))) in
      let edges = table_same None (edge_at old) (edge_at made) n.edges
      (λ j lt. sym (edge_same made old x linked_made r.named.edges j refl)) in
      let faces = table_same None (face_at old) (face_at made) n.faces
      (λ j lt. sym (face_same made old x linked_made same.cycles r.named.faces j refl
      (λ i e. sym (same.rounds i.0)))) in
      let here : disk_at made k.0 ≡ disk_at old k.0 =
      ap (λ (o : Option Slot). option_map_or (names_around made) o []) leads
      ∙ sym (ap (λ (o : Option Slot). option_map_or (names_around old) o []) at_vert
      ∙ ap (λ (ds : List Dart). map (λ (e : Slot). edge_name old e.0) (map (λ (d : Dart). d.edge) ds)) empty) in
      let cells_long = length-set old.verts.cells s.0 gone in
      let names_long = length-set old.verts.names (number_in (λ (c : VertCell). c.number) (at old.verts.cells s.0))
      no_name in
      let P = λ (t : Stored). DropsAVert old t n k in
      subst P (sym drops) (record {
        whole = record {
          records = record {
            linked = linked_made;
            named = record { verts = named_made; edges = r.named.edges; faces = r.named.faces };
            below = record {
              verts = λ j le. none_set old.verts.names (number_in (λ (c : VertCell). c.number) (at old.verts.cells s.0))
                  j (r.below.verts j le);
              edges = r.below.edges;
              faces = r.below.faces;
            };
          };
          cycles = cycles_stay old made owners same w.cycles;
          values = record {
            verts = v.verts;
            edges = v.edges;
            loops = v.loops;
            faces = v.faces;
            rows = record {
              verts = (let b = v.rows.verts in omega arith);
              edges = v.rows.edges;
              loops = v.rows.loops;
              faces = v.rows.faces;
              few = v.rows.few;
            };
          };
          sizes = record {
            vert_limit = z.vert_limit;
            edge_limit = z.edge_limit;
            face_limit = z.face_limit;
            corner_limit = z.corner_limit;
            vert_reach = (let b = z.vert_reach in omega arith);
            edge_reach = z.edge_reach;
            face_reach = z.face_reach;
            verts = few_removed old.verts.cells s.0 n.verts z.verts more;
            edges = z.edges;
            faces = z.faces;
            loops = z.loops;
          };
          some = λ f is e. w.some f is (sym (same.rounds f) ∙ e);
          corners = w.corners ∙ ap corner_sum (sym faces);
        };
        read = λ lists. λ i. record {
          verts = verts i;
          edges = edges i;
          faces = faces i;
          layers = layers_in old;
          materials = lists.materials;
          libraries = lists.libraries;
        };
        disks = table_same [] (disk_at old) (disk_at made) n.verts (λ j lt. elim (cases_eq j k.0) [
          | inl q ↦ (let E = λ (i : ℕ). disk_at made i ≡ disk_at old i in subst E (sym q) here)
          | inr ne ↦ sym (disk_same made old x same.cycles j (others j ne) (λ i e. sym (same.disks i.0)))
        ]);
        room = record { verts = omega arith; edges = omega arith; corners = omega arith; faces = omega arith };
      })
