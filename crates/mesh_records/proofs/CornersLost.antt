-- Corners of a face are taken away.
use Rattle.std.proofs.Common.{◌≡◌, ◌==◌, ◌≢◌, ◌<◌, ◌≤◌, ◌+◌, ◌-◌, ℕ, suc, zero, Bool, true, false, not, is_some, List, [], ◌∷◌, Option, Some, None, length, map, get_or, cond, refl, sym, ap, ◌∙◌, subst, inl, inr, arith}
use Rattle.std.specs.List.{slice_get, remove}
use Rattle.std.specs.Option.{option_map, option_and_then}
use Rattle.std.proofs.lemmas.Bool.{cases_eq, cases_lt, eq-eqb, eqb-true, false_from_ne_true, false≢true}
use Rattle.std.proofs.lemmas.Option.{same_Some}
use Rattle.std.proofs.lemmas.List.{length-map}
use Rattle.std.proofs.lemmas.List.Sums.{sum_by-set}
use Rattle.raw_pool.specs.declared.pool.Slot.{Slot}
use Rattle.raw_pool.specs.Slots.{spare_count}
use Rattle.link_ring.specs.Members.{HasMember, AllDistinct}
use Rattle.link_ring.specs.Mapped.{mapped_from}
use Rattle.mesh_store.specs.Slots.{at}
use Rattle.mesh_store.specs.Naming.{NamedCells, AreNamed}
use Rattle.mesh_store.specs.Stored.{Stored}
use Rattle.mesh_store.specs.declared.cells.VertCell.{VertCell}
use Rattle.mesh_store.specs.declared.cells.FaceCell.{FaceCell}
use Rattle.mesh_store.specs.declared.layers.Layers.{Layers}
use Rattle.mesh_store.specs.declared.cells.Round.{Round}
use Rattle.mesh_cycles.specs.Cycles.{round_of}
use Rattle.mesh_cycles.specs.Found.{loops_in}
use Rattle.mesh_cycles.specs.Lists.{same_round, without}
use Rattle.mesh_cycles.proofs.Around.{in_once}
use Rattle.mesh_model.specs.Complex.{KindLayers, corner_sum, corners_of}
use Rattle.mesh_model.specs.Kernel.{with_corners_by}
use Rattle.mesh_model.specs.declared.names.FaceName.{FaceName}
use Rattle.mesh_model.specs.declared.records.CornerRec.{CornerRec}
use Rattle.mesh_model.specs.declared.records.FaceRec.{FaceRec}
use Rattle.mesh_model.specs.declared.records.Counters.{Counters}
use Rattle.mesh_records.specs.AtSlots.{StoredFace, face_in}
use Rattle.mesh_records.specs.Corners.{IsWholeBut}
use Rattle.mesh_records.specs.Frames.{Extends}
use Rattle.mesh_records.specs.ReadOff.{NameLists, table, vert_at, edge_at, face_at, corner_rec, face_rec, disk_at, read_off, layers_in}
use Rattle.mesh_records.specs.Room.{UsesAtMost, none_of_all, room_in}
use Rattle.mesh_records.specs.Takes.{TakesLoop, LosesLoops}
use Rattle.mesh_records.specs.Whole.{IsWhole, IsNearlyWhole, HaveLoops, NoneFrom}
use Rattle.mesh_records.proofs.Edges.{names_apart, name_below}
use Rattle.mesh_records.proofs.Faces.{read_some, some_read}
use Rattle.mesh_records.proofs.Elements.{name_live, face_is_at}
use Rattle.mesh_records.proofs.Kills.{corners_less, face_corners}
use Rattle.mesh_records.proofs.Listed.{listed}
use Rattle.mesh_records.proofs.Loses.{loop_of, loses_none, loses_more, nearly_left, one_less}
use Rattle.mesh_records.proofs.Options.{there, told_twice}
use Rattle.mesh_records.proofs.Reading.{vert_same, edge_same, face_same, disk_same, corners_in}
use Rattle.mesh_records.proofs.Tables.{at_table, length_table, table_same, table_updated}

-- corners of a face are gone: the rule holds but for that face, what is read is changed so, and no room is gone
pub record LosesCorners (old new : Stored) (n : Counters) (k : FaceName) (change : List CornerRec → List CornerRec)
    (lost : ℕ) : Type 0 where
  pub whole : IsWholeBut k new (corners_less n lost)
  pub read : (lists : NameLists) → read_off new (corners_less n lost) lists
      ≡ with_corners_by (read_off old n lists) k change
  pub disks : table (disk_at new) n.verts ≡ table (disk_at old) n.verts
  pub room : UsesAtMost none_of_all (room_in old n) (room_in new (corners_less n lost))

-- ---- lists

-- a list without a loop that isn't in it
kept : (l : Slot) (rs : List Round) → (HasMember (map (λ (r : Round). r.0) rs) l → ⊥)
    → map (λ (r : Round). r.0) (without same_round (record { 0 = l }) rs) ≡ map (λ (r : Round). r.0) rs
kept l [] out = refl
kept l (r ∷ rs) out =
    stays (r.0.0 == l.0) (false_from_ne_true (r.0.0 == l.0)
    (λ q. out (inl (let n = eqb-true r.0.0 l.0 q in λ j. record { 0 = n j })))) (kept l rs (λ m. out (inr m)))
  where
    stays : (b : Bool) → b ≡ false
        → map (λ (x : Round). x.0) (without same_round (record { 0 = l }) rs) ≡ map (λ (x : Round). x.0) rs
        → map (λ (x : Round). x.0) (cond (not b) (r ∷ without same_round (record { 0 = l }) rs)
        (without same_round (record { 0 = l }) rs)) ≡ r.0 ∷ map (λ (x : Round). x.0) rs
    stays true h e = absurd (false≢true (sym h))
    stays false h e = ap (λ (zs : List Slot). r.0 ∷ zs) e

-- without a loop, the list is that without what stands at the loop's place
without_placed : (rs : List Round) (i : ℕ) (l : Slot) → slice_get (map (λ (r : Round). r.0) rs) i ≡ Some l
    → AllDistinct (map (λ (r : Round). r.0) rs)
    → map (λ (r : Round). r.0) (without same_round (record { 0 = l }) rs) ≡ remove (map (λ (r : Round). r.0) rs) i
without_placed [] i l e d = absurd (let no : None ≡ Some l = e in cc)
without_placed (r ∷ rs) zero l e d =
    let is : r.0 ≡ l = same_Some r.0 l e in
    let P = HasMember (map (λ (x : Round). x.0) rs) in
    goes (r.0.0 == l.0) (eq-eqb r.0.0 l.0 (ap (λ (s : Slot). s.0) is))
    (kept l rs (λ m. d.0 (subst P (sym is) m)))
  where
    goes : (b : Bool) → b ≡ true
        → map (λ (x : Round). x.0) (without same_round (record { 0 = l }) rs) ≡ map (λ (x : Round). x.0) rs
        → map (λ (x : Round). x.0) (cond (not b) (r ∷ without same_round (record { 0 = l }) rs)
        (without same_round (record { 0 = l }) rs)) ≡ map (λ (x : Round). x.0) rs
    goes true h e = e
    goes false h e = absurd (false≢true h)
without_placed (r ∷ rs) (suc i) l e d =
    let m = listed (map (λ (x : Round). x.0) rs) i l e in
    let P = HasMember (map (λ (x : Round). x.0) rs) in
    stays (r.0.0 == l.0) (false_from_ne_true (r.0.0 == l.0)
    (λ q. d.0 (subst P (let n = eqb-true r.0.0 l.0 q in λ j. record { 0 = sym n j }) m)))
    (without_placed rs i l e d.1)
  where
    stays : (b : Bool) → b ≡ false
        → map (λ (x : Round). x.0) (without same_round (record { 0 = l }) rs) ≡ remove (map (λ (x : Round). x.0) rs) i
        → map (λ (x : Round). x.0) (cond (not b) (r ∷ without same_round (record { 0 = l }) rs)
        (without same_round (record { 0 = l }) rs)) ≡ r.0 ∷ remove (map (λ (x : Round). x.0) rs) i
    stays true h e = absurd (false≢true (sym h))
    stays false h e = ap (λ (zs : List Slot). r.0 ∷ zs) e

map_removed : {A B : Type 0} (f : A → B) (xs : List A) (i : ℕ) → map f (remove xs i) ≡ remove (map f xs) i
map_removed f [] zero = refl
map_removed f [] (suc i) = refl
map_removed f (x ∷ xs) zero = refl
map_removed {A} {B} f (x ∷ xs) (suc i) = ap (λ (ys : List B). f x ∷ ys) (map_removed f xs i)

-- ---- faces

-- every face has a loop where one face alone is read otherwise, and has a corner
pub loops_updated : (old new : Stored) (count k : ℕ)
    → AreNamed (λ (c : FaceCell). c.number) new.faces.cells new.faces.names → NoneFrom new.faces.names count
    → ((j : ℕ) → j < count → j ≢ k → face_at new j ≡ face_at old j)
    → ((j : ℕ) (r : FaceRec) → j ≢ k → face_at old j ≡ Some r → r.corners ≢ [])
    → ((r : FaceRec) → face_at new k ≡ Some r → r.corners ≢ [])
    → HaveLoops new
loops_updated old new count k named below besides others own =
    some_read new named (λ j r e. elim (cases_eq j k) [
      | inl q ↦ own r (ap (face_at new) (sym q) ∙ e)
      | inr ne ↦ elim (cases_lt j count) [
        | inl lt ↦ others j r ne (sym (besides j lt ne) ∙ e)
        | inr ge ↦
            let none = ap (option_and_then (λ (s : Slot). option_map (face_rec new s.0) (face_in new s.0)))
            (below j ge) in
            absurd (let no : None ≡ Some r = sym none ∙ e in cc)
      ]
    ])

-- a face has a corner: the rule holds whole
pub whole_again : (st : Stored) (n : Counters) (k : FaceName) → IsWholeBut k st n
    → ((r : FaceRec) → face_at st k.0 ≡ Some r → r.corners ≢ []) → IsWhole st n
whole_again st n k w own = record {
  records = w.nearly.records;
  cycles = w.nearly.cycles;
  values = w.nearly.values;
  sizes = w.nearly.sizes;
  some = loops_updated st st n.faces k.0 w.nearly.records.named.faces w.nearly.records.below.faces (λ j lt ne. refl)
      w.others own;
  corners = w.corners;
}

module _ (old new : Stored) (n : Counters) (w : IsWhole old n) (k : FaceName) (f : Slot)
    (named : at old.faces.names k.0 ≡ Some f) (t : LosesLoops old new f.0) (nearly : IsNearlyWhole new n)
    (change : List CornerRec → List CornerRec)
    (is : map (corner_rec old) (loops_in new f.0) ≡ change (map (corner_rec old) (loops_in old f.0)))
    (lost : ℕ) (count : length (round_of new f.0) + lost ≡ length (round_of old f.0)) where
  extends : Extends new old
  extends = record {
    verts = λ s x e. sym (t.verts_in s) ∙ e;
    edges = λ s x e. sym (t.edges_in s) ∙ e;
    loops = t.loops;
    faces = λ s x e. sym (t.faces_in s) ∙ e;
  }

  -- the corners changed
  changed_face : FaceRec → FaceRec
  changed_face r = record r { corners = change r.corners }

  low_name : k.0 < n.faces
  low_name = name_below old.faces.names n.faces k.0 f w.records.below.faces named

  here : face_at new k.0 ≡ option_map changed_face (face_at old k.0)
  unfolding changed_face
  here =
      let corners = sym (corners_in new old extends nearly.records.linked nearly.cycles.cycles f.0) ∙ is in
      ap (option_and_then (λ (s : Slot). option_map (face_rec new s.0) (face_in new s.0)))
      (ap (λ (xs : List (Option Slot)). at xs k.0) t.face_names ∙ named)
      ∙ ap (option_map (face_rec new f.0)) (t.faces_in f.0)
      ∙ (λ j. option_map (λ (x : StoredFace). let r : FaceRec = record { corners = corners j; vals = x.vals } in r)
      (face_in old f.0))
      ∙ sym (told_twice (face_rec old f.0) changed_face (face_in old f.0))
      ∙ ap (option_map changed_face)
      (sym (ap (option_and_then (λ (s : Slot). option_map (face_rec old s.0) (face_in old s.0))) named))

  besides : (j : ℕ) → j < n.faces → j ≢ k.0 → face_at new j ≡ face_at old j
  besides j lt ne =
      let r = nearly.records in
      let names = ap (λ (xs : List (Option Slot)). at xs j) t.face_names in
      sym (face_same new old extends r.linked nearly.cycles.cycles r.named.faces j (sym names)
      (λ s e. sym (t.rounds s.0 (names_apart w.records.named.faces j k.0 s f (sym names ∙ e) named ne))))

  -- as many corners are left of the face as it has loops
  left : length (corners_of (option_map changed_face (get_or (table (face_at old) n.faces) k.0 None)))
      ≡ length (round_of new f.0)
  unfolding changed_face
  left =
      let live = there (face_in old f.0) (face_is_at old f.0 (name_live w.records.named.faces k.0 f named)) in
      ap (λ (o : Option FaceRec). length (corners_of (option_map changed_face o)))
      (at_table None (face_at old) n.faces k.0 low_name
      ∙ ap (option_and_then (λ (s : Slot). option_map (face_rec old s.0) (face_in old s.0))) named
      ∙ ap (option_map (face_rec old f.0)) live.1)
      ∙ ap (λ (cs : List CornerRec). length cs) (sym is) ∙ length-map (loops_in new f.0) (corner_rec old)
      ∙ length-map (round_of new f.0) (λ (r : Round). r.0)

  pub loses_corners : LosesCorners old new n k change lost
  unfolding changed_face
  loses_corners =
      let r = nearly.records in
      let z = nearly.sizes in
      let h = nearly.cycles in
      let vert_names = ap (λ (p : NamedCells VertCell). p.names) t.verts in
      let verts = table_same None (vert_at old) (vert_at new) n.verts
      (λ j lt. sym (vert_same new old extends r.named.verts j
      (sym (ap (λ (xs : List (Option Slot)). at xs j) vert_names)))) in
      let edges = table_same None (edge_at old) (edge_at new) n.edges
      (λ j lt. sym (edge_same new old extends r.linked r.named.edges j
      (sym (ap (λ (xs : List (Option Slot)). at xs j) t.edge_names)))) in
      let faces = table_updated (face_at old) (face_at new) n.faces k.0 changed_face low_name here besides in
      let layers : layers_in new ≡ layers_in old = ap (λ (v : Layers). let q : KindLayers = record {
        verts = v.verts.layers;
        edges = v.edges.layers;
        corners = v.loops.layers;
        faces = v.faces.layers;
      } in q) t.values in
      let long = length_table (face_at old) n.faces in
      let none : Option FaceRec = None in
      let was = get_or (table (face_at old) n.faces) k.0 none in
      let corners = λ (o : Option FaceRec). length (corners_of o) in
      let set = sum_by-set corners (table (face_at old) n.faces) k.0 (option_map changed_face was) none
      (let lt = low_name in omega arith) in
      let had = face_corners old n k.0 f w.records.named.faces named low_name in
      let has = left in
      let sum = w.corners in
      let total = ap corner_sum faces in
      let less : n.corners - lost ≡ corner_sum (table (face_at new) n.faces) = omega arith in
      let spare = t.spare in
      let size = t.long in
      let loops = w.sizes.loops in
      let live = loops.live in
      let small = loops.small in
      let few = z.corner_limit in
      let spare_verts = ap (λ (p : NamedCells VertCell). spare_count p.cells) t.verts in
      let reach_verts = ap (λ (p : NamedCells VertCell). length p.names) t.verts in
      let spare_edges = t.edges.spare in
      let reach_edges = ap (λ (xs : List (Option Slot)). length xs) t.edge_names in
      let spare_faces = t.faces.spare in
      let reach_faces = ap (λ (xs : List (Option Slot)). length xs) t.face_names in
      record {
        whole = record {
          nearly = record {
            records = record {
              linked = r.linked;
              named = r.named;
              below = record {
                verts = r.below.verts;
                edges = r.below.edges;
                faces = r.below.faces;
              };
            };
            cycles = h;
            values = nearly.values;
            sizes = record {
              vert_limit = z.vert_limit;
              edge_limit = z.edge_limit;
              face_limit = z.face_limit;
              corner_limit = omega arith;
              vert_reach = z.vert_reach;
              edge_reach = z.edge_reach;
              face_reach = z.face_reach;
              verts = z.verts;
              edges = z.edges;
              faces = z.faces;
              loops = record { live = omega arith; small = omega arith };
            };
          };
          others = λ j x ne e. elim (cases_lt j n.faces) [
            | inl lt ↦ read_some old w.records.named.faces w.some j x (sym (besides j lt ne) ∙ e)
            | inr ge ↦
                let past = ap (option_and_then (λ (s : Slot). option_map (face_rec new s.0) (face_in new s.0)))
                (r.below.faces j ge) in
                absurd (let no : None ≡ Some x = sym past ∙ e in cc)
          ];
          corners = less;
        };
        read = λ lists. λ j. record {
          verts = verts j;
          edges = edges j;
          faces = faces j;
          layers = layers j;
          materials = lists.materials;
          libraries = lists.libraries;
        };
        disks = table_same [] (disk_at old) (disk_at new) n.verts (λ j lt.
            sym (disk_same new old extends h.cycles j (sym (ap (λ (xs : List (Option Slot)). at xs j) vert_names))
            (λ s e. sym (t.disks s.0))));
        room = record { verts = omega arith; edges = omega arith; corners = omega arith; faces = omega arith };
      }

-- ---- one corner, and all

-- a loop at a position is the face's
pub placed : (st : Stored) (f l : Slot) (i : ℕ) → slice_get (loops_in st f.0) i ≡ Some l
    → HasMember (round_of st f.0) (record { 0 = l })
placed st f l i e =
    let t = mapped_from (λ (r : Round). r.0) (round_of st f.0) l (listed (loops_in st f.0) i l e) in
    let P = λ (s : Slot). HasMember (round_of st f.0) (record { 0 = s }) in
    subst P t.is t.member

module _ (old new : Stored) (n : Counters) (w : IsWhole old n) (k : FaceName) (f : Slot)
    (named : at old.faces.names k.0 ≡ Some f) where
  -- the corner at a position is gone
  pub takes_corner : (l : Slot) (i : ℕ) → slice_get (loops_in old f.0) i ≡ Some l → TakesLoop old new f l
      → LosesCorners old new n k (λ (cs : List CornerRec). remove cs i) 1
  takes_corner l i place t =
      let h = w.cycles.cycles in
      let m = placed old f l i place in
      let o = loop_of old f l h w.records.linked m in
      let nearly = nearly_left old new f l o.low t o.edge o.of_edge n (record {
        records = w.records;
        cycles = w.cycles;
        values = w.values;
        sizes = w.sizes;
      }) in
      let less = ap (map (λ (r : Round). r.0)) t.own ∙ without_placed (round_of old f.0) i l place (in_once old h f.0)
      in
      let one = one_less old new f l o.low t h m in
      loses_corners old new n w k f named (loses_more old old new f l (loses_none old f.0) h m o.low t) nearly
      (λ (cs : List CornerRec). remove cs i)
      (ap (map (corner_rec old)) less ∙ map_removed (corner_rec old) (loops_in old f.0) i) 1 (sym one)

  -- the face keeps another one, so the rule holds whole
  pub keeps_corner : (l : Slot) (i : ℕ) → slice_get (loops_in old f.0) i ≡ Some l → TakesLoop old new f l
      → 2 ≤ length (loops_in old f.0) → IsWhole new (corners_less n 1)
  keeps_corner l i place t more =
      let lost = takes_corner l i place t in
      let h = w.cycles.cycles in
      let m = placed old f l i place in
      let o = loop_of old f l h w.records.linked m in
      let one = one_less old new f l o.low t h m in
      let many = length-map (round_of old f.0) (λ (r : Round). r.0) in
      record {
        records = lost.whole.nearly.records;
        cycles = lost.whole.nearly.cycles;
        values = lost.whole.nearly.values;
        sizes = lost.whole.nearly.sizes;
        some = λ g there none. elim (cases_eq g f.0) [
          | inl q ↦
              let zero = ap (λ (rs : List Round). length rs) (ap (λ (j : ℕ). round_of new j) (sym q) ∙ none) in
              absurd (omega arith)
          | inr ne ↦ w.some g (sym (ap (λ (x : Option StoredFace). is_some x) (t.elements.faces g)) ∙ there)
              (sym (t.others g ne) ∙ none)
        ];
        corners = lost.whole.corners;
      }

  -- all corners are gone
  pub empties_face : LosesLoops old new f.0 → IsNearlyWhole new n → round_of new f.0 ≡ []
      → LosesCorners old new n k (λ (cs : List CornerRec). []) (length (round_of old f.0))
  empties_face t nearly empty =
      loses_corners old new n w k f named t nearly (λ (cs : List CornerRec). [])
      (ap (λ (rs : List Round). map (corner_rec old) (map (λ (r : Round). r.0) rs)) empty) (length (round_of old f.0))
      (let zero = ap (λ (rs : List Round). length rs) empty in omega arith)
