-- A face is added, corner by corner.
use Rattle.std.proofs.Common.{◌≡◌, ◌≢◌, ◌+◌, ◌<◌, ◌≤◌, ◌^◌, ◌++◌, ℕ, ℤ, is_some, List, [], ◌∷◌, Option, Some, None, length, map, take, refl, sym, ap, ◌∙◌, subst, inl, inr, arith}
use Rattle.std.specs.Prelude.{slice_set, get_or, slice_index_or}
use Rattle.std.specs.Option.{option_map, option_map_or, option_and_then}
use Rattle.std.proofs.lemmas.Bool.{cases_eq, cases_lt}
use Rattle.std.proofs.lemmas.List.{length-set, length-append, length-map, length-take-le, map_more}
use Rattle.std.proofs.lemmas.List.Sums.{sum_by_push}
use Rattle.std.proofs.lemmas.Option.{same_Some}
use Rattle.cust_data.specs.Layers.{LayerTable, total, zeros, with_row}
use Rattle.raw_pool.specs.declared.pool.Slot.{Slot}
use Rattle.raw_pool.specs.Slots.{IsLive, spare_count}
use Rattle.link_ring.proofs.Members.{member_of}
use Rattle.mesh_store.specs.Slots.{at}
use Rattle.mesh_store.specs.Naming.{NamedCells, AreNamed}
use Rattle.mesh_store.specs.Stored.{Stored, new_face}
use Rattle.mesh_store.specs.Parts.{change_table}
use Rattle.mesh_store.specs.declared.layers.Part.TheVariants.{Face}
use Rattle.mesh_store.specs.declared.cells.Round.{Round}
use Rattle.mesh_store.specs.declared.cells.FaceCell.{FaceCell}
use Rattle.mesh_store.specs.declared.cells.VertCell.{VertCell}
use Rattle.mesh_store.proofs.Places.{written, unwritten, below}
use Rattle.mesh_store.proofs.Directory.{added_directory}
use Rattle.mesh_cycles.specs.Cycles.{round_of}
use Rattle.mesh_cycles.specs.Adds.{AddsFace}
use Rattle.mesh_cycles.specs.Found.{loops_in}
use Rattle.mesh_cycles.proofs.Cells.{live_cell}
use Rattle.mesh_cycles.proofs.Elements.{face_added}
use Rattle.mesh_cycles.proofs.Completeness.{whole_same}
use Rattle.mesh_model.specs.Complex.{Complex, KindLayers, corners_of, corner_sum}
use Rattle.mesh_model.specs.declared.limits.TheConstants.{MAX_FACES}
use Rattle.mesh_model.specs.declared.names.VertName.{VertName}
use Rattle.mesh_model.specs.declared.names.EdgeName.{EdgeName}
use Rattle.mesh_model.specs.declared.records.Counters.{Counters}
use Rattle.mesh_model.specs.declared.records.CornerRec.{CornerRec}
use Rattle.mesh_model.specs.declared.records.FaceRec.{FaceRec}
use Rattle.mesh_records.specs.ReadOff.{NameLists}
use Rattle.mesh_records.specs.AtSlots.{StoredLoop, StoredFace, face_in}
use Rattle.mesh_records.specs.ReadOff.{table, vert_at, edge_at, face_at, disk_at, layers_in, loop_rec, no_corner, corner_rec, face_rec, vert_name, edge_name}
use Rattle.mesh_records.specs.Frames.{Extends}
use Rattle.mesh_records.specs.Faces.{with_corners_more, corner_put, PutsCorners, AddsAFace, no_side}
use Rattle.mesh_records.specs.Puts.{row_like, with_face_at, PutsLoop}
use Rattle.mesh_records.specs.Whole.{HaveLoops, IsNearlyWhole, IsWhole}
use Rattle.mesh_records.proofs.Options.{still_at, there}
use Rattle.mesh_records.proofs.Elements.{name_live, face_live, vert_is_at, edge_is_at, face_is_at}
use Rattle.mesh_records.proofs.Tables.{at_table, table_same, table_more}
use Rattle.mesh_records.proofs.Values.{table_written, like_long}
use Rattle.mesh_records.proofs.Added.{told_before, told_here, few_added}
use Rattle.mesh_records.proofs.ByName.{vert_named, edge_named, led_to}
use Rattle.mesh_records.proofs.Reading.{vert_same, edge_same, face_same, disk_same, corners_more, vert_name_same, edge_name_same}
use Rattle.mesh_records.proofs.Edges.{names_apart}
use Rattle.mesh_records.proofs.Frames.{cycles_beside_values}
use Rattle.mesh_records.proofs.PutLoops.{put_extends, here, nearly_put}

-- ---- the corners as they are given

pub given_long : (st : Stored) (cs : List (VertName × EdgeName)) (i : ℕ) → i ≤ length cs
    → length (map (corner_put st) (take i cs)) ≡ i
given_long st cs i h = length-map (take i cs) (corner_put st) ∙ length-take-le i cs h

pub given_more : (st : Stored) (cs : List (VertName × EdgeName)) (i : ℕ) → i < length cs
    → map (corner_put st) (take (i + 1) cs)
    ≡ map (corner_put st) (take i cs) ++ corner_put st (slice_index_or cs i no_side) ∷ []
given_more st cs i h = map_more (corner_put st) cs i no_side h

-- ---- every face has a loop where every face that is read has a corner

empty_map : {X Y : Type 0} (g : X → Y) (xs : List X) → map g xs ≡ [] → xs ≡ []
empty_map g [] e = refl
empty_map g (x ∷ xs) e = cc

-- a face of a mesh has a corner
pub read_some : (st : Stored) → AreNamed (λ (c : FaceCell). c.number) st.faces.cells st.faces.names → HaveLoops st
    → (k : ℕ) (r : FaceRec) → face_at st k ≡ Some r → r.corners ≢ []
read_some st named some k r e none =
    let d = led_to (λ (s : Slot). face_in st s.0) (λ (s : Slot). face_rec st s.0) (at st.faces.names k) r e in
    let empty : map (corner_rec st) (loops_in st d.slot.0) ≡ [] = ap (λ (x : FaceRec). x.corners) d.same ∙ none in
    some d.slot.0 (ap (λ (o : Option StoredFace). is_some o) d.is)
    (empty_map (λ (x : Round). x.0) (round_of st d.slot.0) (empty_map (corner_rec st) (loops_in st d.slot.0) empty))

pub some_read : (st : Stored) → AreNamed (λ (c : FaceCell). c.number) st.faces.cells st.faces.names
    → ((k : ℕ) (r : FaceRec) → face_at st k ≡ Some r → r.corners ≢ []) → HaveLoops st
some_read st named read f is e =
    let c = there (face_in st f) is in
    let cell = live_cell st.faces.cells f (face_live st f is) in
    let leads = named.named f cell.0 cell.1 in
    let none : map (corner_rec st) (loops_in st f) ≡ [] =
    ap (λ (ls : List Round). map (corner_rec st) (map (λ (x : Round). x.0) ls)) e in
    read cell.0.number (face_rec st f c.0) (ap (option_and_then
    (λ (s : Slot). option_map (face_rec st s.0) (face_in st s.0))) leads ∙ ap (option_map (face_rec st f)) c.1) none

-- ---- the face is added

-- the face with its row of values
pub face_filled : (old alone made : Stored) (name : ℕ) (s : Slot) (like : Option Slot)
    → alone ≡ record old {
      faces = record {
        cells = slice_set old.faces.cells s.0 (Some (new_face name));
        names = slice_set old.faces.names name (Some s);
      };
    }
    → made ≡ change_table Face (λ (t : LayerTable). with_row t s.0 (row_like t like)) alone
    → made ≡ with_face_at old name s like
face_filled old alone made name s like adds fills =
    fills ∙ ap (change_table Face (λ (t : LayerTable). with_row t s.0 (row_like t like))) adds

-- what is told of a face
tell : FaceCell → List ℤ → StoredFace
tell c r = record { number = c.number; vals = r }

module _ (old : Stored) (n : Counters) (f : Slot) (like : Option Slot) (w : IsWhole old n) (low : n.faces < MAX_FACES)
    (reach : n.faces < length old.faces.names)
    (place : f.0 < length old.faces.cells) (vacant : at old.faces.cells f.0 ≡ None) where
  extends : Extends old (with_face_at old n.faces f like)
  unfolding tell
  extends = record {
    verts = λ k x e. e;
    edges = λ k x e. e;
    loops = λ k x e. e;
    faces = told_before tell old.faces.cells old.values.faces f.0 (new_face n.faces) (row_like old.values.faces like)
        vacant;
  }

  face_here : face_in (with_face_at old n.faces f like) f.0
      ≡ Some (record { number = n.faces; vals = row_like old.values.faces like })
  unfolding tell
  face_here = told_here tell old.faces.cells old.values.faces f.0 (new_face n.faces) (row_like old.values.faces like)
      place (let rows = w.values.rows.faces in omega arith)

  added : (let made = with_face_at old n.faces f like in AddsFace old made f (new_face n.faces))
  added =
      let names = slice_set old.faces.names n.faces (Some f) in
      let made : Stored = record old {
        faces =
            record { cells = slice_set old.faces.cells f.0 (Some (new_face n.faces)); names = names };
      } in
      let a = face_added old made f w.cycles.cycles n.faces names (place, vacant) refl in
      record {
        same = record {
          cycles = cycles_beside_values made (with_face_at old n.faces f like).values a.same.cycles;
          disks = a.same.disks;
          radials = a.same.radials;
          rounds = a.same.rounds;
        };
        there = a.there;
        empty = a.empty;
      }

  pub begins_a_face : (new : Stored) → ((t : Slot) → like ≡ Some t → IsLive old.faces.cells t.0)
      → new ≡ with_face_at old n.faces f like → spare_count new.faces.cells + 1 ≡ spare_count old.faces.cells
      → PutsCorners old new n f [] (row_like old.values.faces like)
  begins_a_face new like_live adds spare =
      let made = with_face_at old n.faces f like in
      let h = w.cycles.cycles in
      let r = w.records in
      let z = w.sizes in
      let v = w.values in
      let x = extends in
      let c = new_face n.faces in
      let a = added in
      let row = row_like old.values.faces like in
      let wide = like_long old.values.faces like v.faces (λ t e. let cell =
      live_cell old.faces.cells t.0 (like_live t e) in let b = below old.faces.cells t.0 cell.0 cell.1 in let rows =
      v.rows.faces in omega arith) in
      let faces = table_same None (face_at old) (face_at made) n.faces
      (λ k lt. face_same old made x r.linked h r.named.faces k
      (unwritten old.faces.names n.faces k (Some f) (omega arith)) (λ t e. a.same.rounds t.0)) in
      let edges = table_same None (edge_at old) (edge_at made) n.edges
      (λ k lt. edge_same old made x r.linked r.named.edges k refl) in
      let spare' : spare_count made.faces.cells + 1 ≡ spare_count old.faces.cells =
      ap (λ (t : Stored). spare_count t.faces.cells + 1) (sym adds) ∙ spare in
      let names = length-set old.faces.names n.faces (Some f) in
      let cells = length-set old.faces.cells f.0 (Some c) in
      let rows = length-set old.values.faces.rows f.0 row in
      let none : map (corner_rec made) (loops_in made f.0) ≡ [] =
      ap (λ (ls : List Round). map (corner_rec made) (map (λ (l : Round). l.0) ls)) a.empty in
      let P = λ (t : Stored). PutsCorners old t n f [] row in
      subst P (sym adds) (record {
        nearly = record {
          records = record {
            linked = record {
              a = r.linked.a;
              b = r.linked.b;
              vert = r.linked.vert;
              edge = r.linked.edge;
              face = λ t l e. still_at _ x.faces (r.linked.face t l e);
            };
            named = record {
              verts = r.named.verts;
              edges = r.named.edges;
              faces = added_directory (λ (b : FaceCell). b.number) old.faces.cells old.faces.names r.named.faces f c
                  vacant place (r.below.faces n.faces (omega arith)) reach;
            };
            below = record {
              verts = r.below.verts;
              edges = r.below.edges;
              faces = λ k le. unwritten old.faces.names n.faces k (Some f) (omega arith)
                  ∙ r.below.faces k (omega arith);
            };
          };
          cycles = record {
            cycles = a.same.cycles;
            complete = record {
              disks = whole_same old made (λ d. refl) (λ d. refl) a.same.disks w.cycles.complete.disks;
              radials = λ s e p. member_of _ (w.cycles.complete.radials s e p) (sym (a.same.radials e));
              rounds = λ s g p. member_of _ (w.cycles.complete.rounds s g p) (sym (a.same.rounds g));
            };
            counted = λ g j p. elim (cases_eq g f.0) [
              | inl q ↦
                  let is : Some 0 ≡ Some j = sym (ap (option_map (λ (b : FaceCell). b.len)) a.there)
                  ∙ ap (λ (i : ℕ). option_map (λ (b : FaceCell). b.len) (at made.faces.cells i)) (sym q) ∙ p in
                  sym (same_Some _ _ is) ∙ ap (λ (ls : List Round). length ls) (sym a.empty)
                  ∙ ap (λ (i : ℕ). length (round_of made i)) (sym q)
              | inr ne ↦ w.cycles.counted g j (ap (option_map (λ (b : FaceCell). b.len))
                  (sym (unwritten old.faces.cells f.0 g (Some c) ne)) ∙ p)
                  ∙ ap (λ (ls : List Round). length ls) (sym (a.same.rounds g))
            ];
          };
          values = record {
            verts = v.verts;
            edges = v.edges;
            loops = v.loops;
            faces = table_written old.values.faces f.0 row wide v.faces;
            rows = record {
              verts = v.rows.verts;
              edges = v.rows.edges;
              loops = v.rows.loops;
              faces = (let b = v.rows.faces in omega arith);
              few = v.rows.few;
            };
          };
          sizes = record {
            vert_limit = z.vert_limit;
            edge_limit = z.edge_limit;
            face_limit = omega arith;
            corner_limit = (let b = z.corner_limit in omega arith);
            vert_reach = z.vert_reach;
            edge_reach = z.edge_reach;
            face_reach = omega arith;
            verts = z.verts;
            edges = z.edges;
            faces = few_added old.faces.cells f.0 c n.faces z.faces spare';
            loops = (let b = z.loops.live in record { live = omega arith; small = z.loops.small });
          };
        };
        named = written old.faces.names n.faces (Some f) reach;
        face = face_here;
        corners = none;
        read = λ lists. λ i. record {
          verts = table (vert_at old) n.verts;
          edges = edges i;
          faces = faces i;
          layers = layers_in old;
          materials = lists.materials;
          libraries = lists.libraries;
        };
        disks = table_same [] (disk_at old) (disk_at made) n.verts
            (λ k lt. disk_same old made x h k refl (λ t e. a.same.disks t.0));
        vert_names = λ k. refl;
        edge_names = λ k. refl;
        spare = omega arith;
        room = record { verts = omega arith; edges = omega arith; corners = omega arith; faces = omega arith };
      })

-- ---- a corner is added

-- the layers stay
layers_stay : (old mid : Stored) (n : Counters) (f : Slot) (cs : List CornerRec) (vals : List ℤ)
    → PutsCorners old mid n f cs vals → layers_in mid ≡ layers_in old
layers_stay old mid n f cs vals s = let none : NameLists =
    record { materials = []; libraries = [] } in ap (λ (c : Complex). c.layers) (s.read none)

pub one_corner : (old mid new : Stored) (n : Counters) (f v e l : Slot) (cs : List CornerRec) (vals : List ℤ)
    (k : VertName × EdgeName) → PutsCorners old mid n f cs vals → PutsLoop mid new f v e l
    → at mid.verts.names k.0.0 ≡ Some v → at mid.edges.names k.1.0 ≡ Some e → n.corners + length cs < 2 ^ 24
    → PutsCorners old new n f (cs ++ corner_put old k ∷ []) vals
one_corner old mid new n f v e l cs vals k s p at_v at_e few =
    let w = s.nearly in
    let m = with_corners_more n (length cs) in
    let r = w.records in
    let h = w.cycles.cycles in
    let x = put_extends mid new f v e l p in
    let same = p.elements in
    let v_at = vert_is_at mid v.0 (name_live r.named.verts k.0.0 v at_v) in
    let e_at = edge_is_at mid e.0 (name_live r.named.edges k.1.0 e at_e) in
    let f_at = face_is_at mid f.0 (name_live r.named.faces n.faces f s.named) in
    let long : length (cs ++ corner_put old k ∷ []) ≡ length cs + 1 = length-append cs (corner_put old k ∷ []) in
    let N = λ (j : ℕ). IsNearlyWhole new (record n { faces = n.faces + 1; corners = j }) in
    let more : n.corners + length cs + 1 ≡ n.corners + length (cs ++ corner_put old k ∷ []) = omega arith in
    let verts = table_same None (vert_at mid) (vert_at new) n.verts
    (λ j lt. vert_same mid new x r.named.verts j (same.vert_names j)) in
    let edges = table_same None (edge_at mid) (edge_at new) n.edges
    (λ j lt. edge_same mid new x r.linked r.named.edges j (same.edge_names j)) in
    let faces = table_same None (face_at mid) (face_at new) n.faces
    (λ j lt. face_same mid new x r.linked h r.named.faces j (same.face_names j)
    (λ t is. p.others t.0 (names_apart r.named.faces j n.faces t f is s.named (omega arith)))) in
    let layers : layers_in new ≡ layers_in mid = same.layers in
    let told = same.loops l.0 ∙ here mid new f v e l p w.values.rows.loops in
    let vert : vert_name new v.0 ≡ k.0 = vert_name_same mid new x v.0 v_at
    ∙ (λ i. record { 0 = vert_named mid m r k.0.0 v at_v i }) in
    let edge : edge_name new e.0 ≡ k.1 = edge_name_same mid new x e.0 e_at
    ∙ (λ i. record { 0 = edge_named mid m r k.1.0 e at_e i }) in
    let zero = ap (λ (ls : KindLayers). zeros (total ls.corners)) (layers_stay old mid n f cs vals s) in
    let corner : corner_rec new l ≡ corner_put old k =
    ap (λ (o : Option StoredLoop). option_map_or (loop_rec new) o no_corner) told
    ∙ (λ i. record { vert = vert i; edge = edge i; vals = zero i }) in
    let is = corners_more mid new x r.linked h f.0 (record { 0 = l }) p.own
    ∙ ap (λ (ys : List CornerRec). ys ++ corner_rec new l ∷ []) s.corners
    ∙ ap (λ (y : CornerRec). cs ++ y ∷ []) corner in
    let q = p.spare in
    let y = s.spare in
    let room = s.room in
    let room_verts = room.verts in
    let room_edges = room.edges in
    let room_corners = room.corners in
    let room_faces = room.faces in
    let spare_verts = ap (λ (c : NamedCells VertCell). spare_count c.cells) p.verts in
    let reach_verts = ap (λ (c : NamedCells VertCell). length c.names) p.verts in
    let spare_edges = p.edges.spare in
    let reach_edges = ap (λ (xs : List (Option Slot)). length xs) p.edge_names in
    let spare_faces = p.faces.spare in
    let reach_faces = ap (λ (xs : List (Option Slot)). length xs) p.face_names in
    record {
      nearly = subst N more (nearly_put mid new f v e l p m w few v_at e_at f_at);
      named = same.face_names n.faces ∙ s.named;
      face = same.faces f.0 ∙ s.face;
      corners = is;
      read = λ lists. (λ i. record {
        verts = verts i;
        edges = edges i;
        faces = faces i;
        layers = layers i;
        materials = lists.materials;
        libraries = lists.libraries;
      }) ∙ s.read lists;
      disks = table_same [] (disk_at mid) (disk_at new) n.verts
          (λ j lt. disk_same mid new x h j (same.vert_names j) (λ t is. p.disks t.0)) ∙ s.disks;
      vert_names = λ j. same.vert_names j ∙ s.vert_names j;
      edge_names = λ j. same.edge_names j ∙ s.edge_names j;
      spare = omega arith;
      room = record { verts = omega arith; edges = omega arith; corners = omega arith; faces = omega arith };
    }

-- ---- the face is whole

pub adds_a_face : (old new : Stored) (n : Counters) (f : Slot) (cs : List CornerRec) (vals : List ℤ) → IsWhole old n
    → PutsCorners old new n f cs vals → 1 ≤ length cs → AddsAFace old new n cs vals
adds_a_face old new n f cs vals w s some =
    let none : NameLists = record { materials = []; libraries = [] } in
    let face : FaceRec = record { corners = cs; vals = vals } in
    let corners = s.corners in
    let own : face_at new n.faces ≡ Some face =
    ap (option_and_then (λ (t : Slot). option_map (face_rec new t.0) (face_in new t.0))) s.named
    ∙ ap (option_map (face_rec new f.0)) s.face ∙ (λ i. Some (record { corners = corners i; vals = vals })) in
    let stays = λ (k : ℕ) (lt : k < n.faces). sym (at_table None (face_at new) n.faces k lt)
    ∙ ap (λ (c : Complex). get_or c.faces k None) (s.read none) ∙ at_table None (face_at old) n.faces k lt in
    let faces = table_more None (face_at old) (face_at new) n.faces (Some face) stays own in
    let sum : corner_sum (table (face_at old) n.faces ++ Some face ∷ [])
    ≡ corner_sum (table (face_at old) n.faces) + length cs =
    sum_by_push (λ (o : Option FaceRec). length (corners_of o)) (table (face_at old) n.faces) (Some face) in
    let was = w.corners in
    let r = s.nearly.records in
    record {
      whole = record {
        records = r;
        cycles = s.nearly.cycles;
        values = s.nearly.values;
        sizes = s.nearly.sizes;
        some = some_read new r.named.faces (λ k x e. elim (cases_lt k n.faces) [
          | inl lt ↦ read_some old w.records.named.faces w.some k x (sym (stays k lt) ∙ e)
          | inr ge ↦ elim (cases_eq k n.faces) [
            | inl q ↦ (λ empty.
                let same : face ≡ x = same_Some face x (sym own ∙ ap (face_at new) (sym q) ∙ e) in
                let zero : length cs ≡ 0 = ap (λ (y : FaceRec). length y.corners) same
                ∙ ap (λ (ys : List CornerRec). length ys) empty in
                absurd (omega arith))
            | inr ne ↦ (λ empty.
                let past = r.below.faces k (omega arith) in
                let q : None ≡ Some x = sym (ap (option_and_then
                (λ (t : Slot). option_map (face_rec new t.0) (face_in new t.0))) past) ∙ e in
                absurd (cc))
          ]
        ]);
        corners = (let total = ap corner_sum faces in omega arith);
      };
      read = λ lists. λ i. record {
        verts = ap (λ (c : Complex). c.verts) (s.read lists) i;
        edges = ap (λ (c : Complex). c.edges) (s.read lists) i;
        faces = faces i;
        layers = ap (λ (c : Complex). c.layers) (s.read lists) i;
        materials = lists.materials;
        libraries = lists.libraries;
      };
      disks = s.disks;
      room = s.room;
    }
