-- A corner is put last in a face.
use Rattle.std.proofs.Common.{◌≡◌, ◌≢◌, ◌<◌, ◌+◌, ◌^◌, ℕ, List, [], ◌∷◌, ◌++◌, Option, Some, None, length, map, take, get_or, refl, sym, ap, ◌∙◌, subst, arith}
use Rattle.std.specs.List.{slice_get}
use Rattle.std.specs.Option.{option_map, option_map_or, option_and_then}
use Rattle.std.proofs.lemmas.List.{length-append, map-append, append_assoc, append-nil}
use Rattle.std.proofs.lemmas.List.Sums.{sum_by-set}
use Rattle.cust_data.specs.Layers.{LayerTable, total, zeros, with_row}
use Rattle.raw_pool.specs.declared.pool.Slot.{Slot}
use Rattle.raw_pool.specs.Slots.{IsLive, spare_count}
use Rattle.link_ring.specs.Members.{HasMember}
use Rattle.link_ring.specs.Mapped.{mapped_from}
use Rattle.mesh_store.specs.Slots.{at}
use Rattle.mesh_store.specs.Naming.{NamedCells}
use Rattle.mesh_store.specs.Stored.{Stored}
use Rattle.mesh_store.specs.Parts.{change_table}
use Rattle.mesh_store.specs.declared.cells.Round.{Round}
use Rattle.mesh_store.specs.declared.cells.LoopCell.{LoopCell}
use Rattle.mesh_store.specs.declared.cells.VertCell.{VertCell}
use Rattle.mesh_store.specs.declared.layers.Part.TheVariants.{Loop}
use Rattle.mesh_cycles.specs.Cycles.{round_of}
use Rattle.mesh_cycles.specs.Found.{loops_in}
use Rattle.mesh_model.specs.Complex.{Complex, KindLayers, corner_sum, corners_of}
use Rattle.mesh_model.specs.Kernel.{with_corners_by, with_corner_vals, changed_at}
use Rattle.mesh_model.specs.declared.names.VertName.{VertName}
use Rattle.mesh_model.specs.declared.names.EdgeName.{EdgeName}
use Rattle.mesh_model.specs.declared.names.FaceName.{FaceName}
use Rattle.mesh_model.specs.declared.records.CornerRec.{CornerRec}
use Rattle.mesh_model.specs.declared.records.FaceRec.{FaceRec}
use Rattle.mesh_model.specs.declared.records.Counters.{Counters}
use Rattle.mesh_records.specs.AtSlots.{StoredLoop, StoredFace, face_in}
use Rattle.mesh_records.specs.Corners.{corners_more, of_corners, IsWholeBut, AppendsCorner, AppendsCorners}
use Rattle.mesh_records.specs.Puts.{PutsLoop, PutsCorner}
use Rattle.mesh_records.specs.Room.{UsesAtMost, room_in}
use Rattle.mesh_records.specs.ReadOff.{NameLists, table, vert_name, edge_name, vert_at, edge_at, face_at, loop_rec, corner_rec, no_corner, face_rec, disk_at, read_off}
use Rattle.mesh_records.specs.Whole.{IsWhole}
use Rattle.mesh_records.proofs.ByName.{vert_named, edge_named}
use Rattle.mesh_records.proofs.CornerChanges.{corners_agree, corners_stay, corners_twice, changed_last}
use Rattle.mesh_records.proofs.CornersLost.{loops_updated}
use Rattle.mesh_records.proofs.Edges.{names_apart, name_below}
use Rattle.mesh_records.proofs.Elements.{vert_is_at, edge_is_at, face_is_at, name_live}
use Rattle.mesh_records.proofs.Faces.{read_some}
use Rattle.mesh_records.proofs.Kills.{face_corners}
use Rattle.mesh_records.proofs.Listed.{listed}
use Rattle.mesh_records.proofs.Options.{holds_by, told_twice, there}
use Rattle.mesh_records.proofs.PutLoops.{put_extends, here, nearly_put}
use Rattle.mesh_records.proofs.Reading.{vert_name_same, edge_name_same, vert_same, edge_same, face_same, disk_same, corners_more as corners_grown}
use Rattle.mesh_records.proofs.RowsWritten.{writes_corner}
use Rattle.mesh_records.proofs.Tables.{at_table, length_table, table_same, table_updated}

module _ (old new : Stored) (n : Counters) (k : FaceName) (f v e l : Slot) (w : IsWholeBut k old n)
    (named : at old.faces.names k.0 ≡ Some f) (low : n.corners < 2 ^ 24) (a : VertName) (d : EdgeName)
    (at_v : at old.verts.names a.0 ≡ Some v) (at_e : at old.edges.names d.0 ≡ Some e)
    (p : PutsLoop old new f v e l) where
  -- the corner, whose values are 0
  abbrev pub bare_corner : CornerRec
  bare_corner = record { vert = a; edge = d; vals = zeros (total old.values.loops.layers) }

  -- with the corner behind
  longer : FaceRec → FaceRec
  longer r = record r { corners = r.corners ++ bare_corner ∷ [] }

  low_name : k.0 < n.faces
  low_name = name_below old.faces.names n.faces k.0 f w.nearly.records.below.faces named

  corner_told : corner_rec new l ≡ bare_corner
  corner_told =
      let r = w.nearly.records in
      let x = put_extends old new f v e l p in
      let v_at = vert_is_at old v.0 (name_live r.named.verts a.0 v at_v) in
      let e_at = edge_is_at old e.0 (name_live r.named.edges d.0 e at_e) in
      let told = p.elements.loops l.0 ∙ here old new f v e l p w.nearly.values.rows.loops in
      let vert : vert_name new v.0 ≡ a = vert_name_same old new x v.0 v_at
      ∙ (λ i. record { 0 = vert_named old n r a.0 v at_v i }) in
      let edge : edge_name new e.0 ≡ d = edge_name_same old new x e.0 e_at
      ∙ (λ i. record { 0 = edge_named old n r d.0 e at_e i }) in
      ap (λ (o : Option StoredLoop). option_map_or (loop_rec new) o no_corner) told
      ∙ (λ i. record { vert = vert i; edge = edge i; vals = zeros (total old.values.loops.layers) })

  corners_put : map (corner_rec new) (loops_in new f.0) ≡ map (corner_rec old) (loops_in old f.0) ++ bare_corner ∷ []
  corners_put =
      let x = put_extends old new f v e l p in
      corners_grown old new x w.nearly.records.linked w.nearly.cycles.cycles f.0 (record { 0 = l }) p.own
      ∙ ap (λ (c : CornerRec). map (corner_rec old) (loops_in old f.0) ++ c ∷ []) corner_told

  face_here : face_at new k.0 ≡ option_map longer (face_at old k.0)
  unfolding longer
  face_here =
      let corners = corners_put in
      ap (option_and_then (λ (s : Slot). option_map (face_rec new s.0) (face_in new s.0)))
      (p.elements.face_names k.0 ∙ named)
      ∙ ap (option_map (face_rec new f.0)) (p.elements.faces f.0)
      ∙ (λ j. option_map (λ (y : StoredFace). let q : FaceRec = record { corners = corners j; vals = y.vals } in q)
      (face_in old f.0))
      ∙ sym (told_twice (face_rec old f.0) longer (face_in old f.0))
      ∙ ap (option_map longer)
      (sym (ap (option_and_then (λ (s : Slot). option_map (face_rec old s.0) (face_in old s.0))) named))

  face_beside : (j : ℕ) → j < n.faces → j ≢ k.0 → face_at new j ≡ face_at old j
  face_beside j lt ne =
      let r = w.nearly.records in
      face_same old new (put_extends old new f v e l p) r.linked w.nearly.cycles.cycles r.named.faces j
      (p.elements.face_names j) (λ s is. p.others s.0 (names_apart r.named.faces j k.0 s f is named ne))

  pub appends_bare : AppendsCorner old new n k bare_corner
  unfolding longer
  appends_bare =
      let r = w.nearly.records in
      let h = w.nearly.cycles.cycles in
      let x = put_extends old new f v e l p in
      let same = p.elements in
      let v_at = vert_is_at old v.0 (name_live r.named.verts a.0 v at_v) in
      let e_at = edge_is_at old e.0 (name_live r.named.edges d.0 e at_e) in
      let f_at = face_is_at old f.0 (name_live r.named.faces k.0 f named) in
      let nearly = nearly_put old new f v e l p n w.nearly low v_at e_at f_at in
      let verts = table_same None (vert_at old) (vert_at new) n.verts
      (λ j lt. vert_same old new x r.named.verts j (same.vert_names j)) in
      let edges = table_same None (edge_at old) (edge_at new) n.edges
      (λ j lt. edge_same old new x r.linked r.named.edges j (same.edge_names j)) in
      let faces = table_updated (face_at old) (face_at new) n.faces k.0 longer low_name face_here face_beside in
      let layers = same.layers in
      let long = length_table (face_at old) n.faces in
      let none : Option FaceRec = None in
      let was = get_or (table (face_at old) n.faces) k.0 none in
      let count = λ (o : Option FaceRec). length (corners_of o) in
      let set = sum_by-set count (table (face_at old) n.faces) k.0 (option_map longer was) none
      (let lt = low_name in omega arith) in
      let live = there (face_in old f.0) f_at in
      let at_k : was ≡ Some (face_rec old f.0 live.0) = at_table None (face_at old) n.faces k.0 low_name
      ∙ ap (option_and_then (λ (s : Slot). option_map (face_rec old s.0) (face_in old s.0))) named
      ∙ ap (option_map (face_rec old f.0)) live.1 in
      let more : length (corners_of (option_map longer was)) ≡ length (corners_of was) + 1 =
      ap (λ (o : Option FaceRec). length (corners_of (option_map longer o))) at_k
      ∙ length-append (map (corner_rec old) (loops_in old f.0)) (bare_corner ∷ [])
      ∙ ap (λ (o : Option FaceRec). length (corners_of o) + 1) (sym at_k) in
      let sum = w.corners in
      let total = ap corner_sum faces in
      let q = p.spare in
      let spare_verts = ap (λ (c : NamedCells VertCell). spare_count c.cells) p.verts in
      let reach_verts = ap (λ (c : NamedCells VertCell). length c.names) p.verts in
      let spare_edges = p.edges.spare in
      let reach_edges = ap (λ (xs : List (Option Slot)). length xs) p.edge_names in
      let spare_faces = p.faces.spare in
      let reach_faces = ap (λ (xs : List (Option Slot)). length xs) p.face_names in
      record {
        whole = record {
          records = nearly.records;
          cycles = nearly.cycles;
          values = nearly.values;
          sizes = nearly.sizes;
          some = loops_updated old new n.faces k.0 nearly.records.named.faces nearly.records.below.faces face_beside
              w.others
              (λ y is none'.
              let told = sym at_face ∙ is in
              by_end (map (corner_rec old) (loops_in old f.0))
              (ap (λ (o : Option FaceRec). corners_of o) told ∙ none'));
          corners = (let a' = more in omega arith);
        };
        read = λ lists. λ j. record {
          verts = verts j;
          edges = edges j;
          faces = faces j;
          layers = layers j;
          materials = lists.materials;
          libraries = lists.libraries;
        };
        disks = table_same [] (disk_at old) (disk_at new) n.verts
            (λ j lt. disk_same old new x h j (same.vert_names j) (λ s is. p.disks s.0));
        vert_names = same.vert_names;
        edge_names = same.edge_names;
        face_names = same.face_names;
        layers = layers;
        spare = p.spare;
        room = record { verts = omega arith; edges = omega arith; corners = omega arith; faces = omega arith };
      }
    where
      at_face : face_at new k.0 ≡ Some (record {
        corners = map (corner_rec old) (loops_in old f.0) ++ bare_corner ∷ [];
        vals = (there (face_in old f.0) (face_is_at old f.0
            (name_live w.nearly.records.named.faces k.0 f named))).0.vals;
      })
      at_face =
          let c = there (face_in old f.0) (face_is_at old f.0 (name_live w.nearly.records.named.faces k.0 f named)) in
          face_here
          ∙ ap (option_map longer)
          (ap (option_and_then (λ (s : Slot). option_map (face_rec old s.0) (face_in old s.0))) named
          ∙ ap (option_map (face_rec old f.0)) c.1)

      by_end : (cs : List CornerRec) → cs ++ bare_corner ∷ [] ≡ [] → ⊥
      by_end [] e' = cc
      by_end (c ∷ cs) e' = cc

-- ---- with its values

module _ (old mid : Stored) (n : Counters) (k : FaceName) (f v e l : Slot) (w : IsWholeBut k old n)
    (named : at old.faces.names k.0 ≡ Some f) (low : n.corners < 2 ^ 24) (c : CornerRec)
    (at_v : at old.verts.names c.vert.0 ≡ Some v) (at_e : at old.edges.names c.edge.0 ≡ Some e)
    (p : PutsLoop old mid f v e l) (wide : length c.vals ≡ total old.values.loops.layers) where
  -- the corner with values 0
  abbrev zero : CornerRec
  zero = record { vert = c.vert; edge = c.edge; vals = zeros (total old.values.loops.layers) }

  -- a corner with the values
  abbrev revalued : CornerRec → CornerRec
  revalued x = record x { vals = c.vals }

  -- the values of the last corner are written
  filled : (lists : NameLists)
      → with_corner_vals (with_corners_by (read_off old n lists) k (λ (ks : List CornerRec). ks ++ zero ∷ [])) k
      (length (round_of old f.0)) c.vals
      ≡ with_corners_by (read_off old n lists) k (λ (ks : List CornerRec). ks ++ c ∷ [])
  filled lists =
      let whole = read_off old n lists in
      let i = length (round_of old f.0) in
      corners_twice whole k (λ (ks : List CornerRec). ks ++ zero ∷ [])
      (λ (ks : List CornerRec). changed_at ks i revalued)
      ∙ corners_agree whole k (λ (ks : List CornerRec). changed_at (ks ++ zero ∷ []) i revalued)
      (λ (ks : List CornerRec). ks ++ c ∷ [])
      (λ r told.
      let low_k = name_below old.faces.names n.faces k.0 f w.nearly.records.below.faces named in
      let long : length r.corners ≡ i =
      ap (λ (o : Option FaceRec). length (corners_of o)) (sym told)
      ∙ face_corners old n k.0 f w.nearly.records.named.faces named low_k in
      ap (λ (j : ℕ). changed_at (r.corners ++ zero ∷ []) j revalued) (sym long)
      ∙ changed_last r.corners zero revalued)

  pub appends_corner : (new : Stored) → new ≡ change_table Loop (λ (t : LayerTable). with_row t l.0 c.vals) mid
      → AppendsCorner old new n k c
  appends_corner new is =
      let b = appends_bare old mid n k f v e l w named low c.vert c.edge at_v at_e p in
      let made = change_table Loop (λ (t : LayerTable). with_row t l.0 c.vals) mid in
      let mid_named = b.face_names k.0 ∙ named in
      let place = last_loop (round_of old f.0) in
      let at_place = ap (λ (ls : List Slot). slice_get ls (length (round_of old f.0))) loops_put ∙ place in
      let live = member_live (listed (loops_in mid f.0) (length (round_of old f.0)) l at_place) in
      let layers = ap (λ (ls : KindLayers). total ls.corners) b.layers in
      let y = writes_corner mid (corners_more n 1) b.whole c.vals k f mid_named (length (round_of old f.0)) l at_place
      live (wide ∙ sym layers) in
      let b_room = b.room in
      let y_room = y.room in
      let room_verts = b_room.verts in
      let room_edges = b_room.edges in
      let room_corners = b_room.corners in
      let room_faces = b_room.faces in
      let more_verts = y_room.verts in
      let more_edges = y_room.edges in
      let more_corners = y_room.corners in
      let more_faces = y_room.faces in
      let P = λ (t : Stored). AppendsCorner old t n k c in
      subst P (sym is) (record {
        whole = y.whole;
        read = λ lists. y.read lists
            ∙ ap (λ (x : Complex). with_corner_vals x k (length (round_of old f.0)) c.vals) (b.read lists)
            ∙ filled lists;
        disks = y.disks ∙ b.disks;
        vert_names = b.vert_names;
        edge_names = b.edge_names;
        face_names = b.face_names;
        layers = b.layers;
        spare = b.spare;
        room = record { verts = omega arith; edges = omega arith; corners = omega arith; faces = omega arith };
      })
    where
      loops_put : loops_in mid f.0 ≡ loops_in old f.0 ++ l ∷ []
      loops_put = ap (map (λ (r : Round). r.0)) p.own
          ∙ map-append (λ (r : Round). r.0) (round_of old f.0) (record { 0 = l } ∷ [])

      last_loop : (rs : List Round) → slice_get (map (λ (r : Round). r.0) rs ++ l ∷ []) (length rs) ≡ Some l
      last_loop [] = refl
      last_loop (r ∷ rs) = last_loop rs

      member_live : HasMember (loops_in mid f.0) l → IsLive mid.loops l.0
      member_live m =
          let t = mapped_from (λ (r : Round). r.0) (round_of mid f.0) l m in
          let P = λ (s : Slot). IsLive mid.loops s.0 in
          subst P t.is (holds_by (λ (x : LoopCell). x.face.0) (at mid.loops t.of.0.0) f.0
          (p.cycles.round_faces f.0 t.of t.member))

-- a whole mesh is whole but for a face
pub whole_but : (st : Stored) (n : Counters) (k : FaceName) → IsWhole st n → IsWholeBut k st n
whole_but st n k w = record {
  nearly = record { records = w.records; cycles = w.cycles; values = w.values; sizes = w.sizes };
  others = λ j r ne is. read_some st w.records.named.faces w.some j r is;
  corners = w.corners;
}

-- ---- corner by corner

-- no corner yet
pub appends_none : (st : Stored) (n : Counters) (k : FaceName) → IsWholeBut k st n → AppendsCorners st st n k [] 0
appends_none st n k w = record {
  whole =
      let P = λ (x : Counters). IsWholeBut k st x in
      let count = λ (j : ℕ). let x : Counters = record n { corners = j } in x in
      let same : n.corners ≡ n.corners + 0 = omega arith in
      subst P (ap count same) w;
  read = λ lists. sym (corners_agree (read_off st n lists) k (λ (ks : List CornerRec). ks ++ [])
      (λ (ks : List CornerRec). ks) (λ r e. append-nil r.corners) ∙ corners_stay (read_off st n lists) k);
  disks = refl;
  vert_names = λ j. refl;
  edge_names = λ j. refl;
  face_names = λ j. refl;
  layers = refl;
  spare = omega arith;
  room = record { verts = omega arith; edges = omega arith; corners = omega arith; faces = omega arith };
}

-- one more
pub appends_one : (old mid new : Stored) (n : Counters) (k : FaceName) (f v e l : Slot) (cs : List CornerRec) (i : ℕ)
    (c : CornerRec) → take (i + 1) cs ≡ take i cs ++ c ∷ [] → AppendsCorners old mid n k (take i cs) i
    → at old.faces.names k.0 ≡ Some f → n.corners + i < 2 ^ 24 → at mid.verts.names c.vert.0 ≡ Some v
    → at mid.edges.names c.edge.0 ≡ Some e → length c.vals ≡ total old.values.loops.layers
    → PutsCorner mid new f v e c.vals l → AppendsCorners old new n k (take (i + 1) cs) (i + 1)
appends_one old mid new n k f v e l cs i c more s named few at_v at_e wide p =
    let m = corners_more n i in
    let layers = ap (λ (ls : KindLayers). total ls.corners) s.layers in
    let b = appends_corner mid p.bare m k f v e l s.whole (s.face_names k.0 ∙ named) few c at_v at_e p.puts
    (wide ∙ sym layers) new p.writes in
    let a_spare = s.spare in
    let b_spare = b.spare in
    let a_room = s.room in
    let b_room = b.room in
    let room_verts = a_room.verts in
    let room_edges = a_room.edges in
    let room_corners = a_room.corners in
    let room_faces = a_room.faces in
    let more_verts = b_room.verts in
    let more_edges = b_room.edges in
    let more_corners = b_room.corners in
    let more_faces = b_room.faces in
    let sum : n.corners + i + 1 ≡ n.corners + (i + 1) = omega arith in
    let count = λ (j : ℕ). let x : Counters = record n { corners = j } in x in
    let next : corners_more m 1 ≡ corners_more n (i + 1) = ap count sum in
    let P = λ (ks : List CornerRec). AppendsCorners old new n k ks (i + 1) in
    let W = λ (x : Counters). IsWholeBut k new x in
    let R = λ (x : Counters). UsesAtMost (of_corners (i + 1)) (room_in old n) (room_in new x) in
    subst P (sym more) (record {
      whole = subst W next (whole_but new (corners_more m 1) k b.whole);
      read = λ lists.
          ap (λ (x : Counters). read_off new x lists) (sym next) ∙ b.read lists
          ∙ ap (λ (x : Complex). with_corners_by x k (λ (ks : List CornerRec). ks ++ c ∷ [])) (s.read lists)
          ∙ corners_twice (read_off old n lists) k (λ (ks : List CornerRec). ks ++ take i cs)
          (λ (ks : List CornerRec). ks ++ c ∷ [])
          ∙ corners_agree (read_off old n lists) k (λ (ks : List CornerRec). (ks ++ take i cs) ++ c ∷ [])
          (λ (ks : List CornerRec). ks ++ (take i cs ++ c ∷ []))
          (λ r is. append_assoc r.corners (take i cs) (c ∷ []));
      disks = b.disks ∙ s.disks;
      vert_names = λ j. b.vert_names j ∙ s.vert_names j;
      edge_names = λ j. b.edge_names j ∙ s.edge_names j;
      face_names = λ j. b.face_names j ∙ s.face_names j;
      layers = b.layers ∙ s.layers;
      spare = omega arith;
      room = subst R next (record {
        verts = omega arith;
        edges = omega arith;
        corners = omega arith;
        faces = omega arith;
      });
    })
