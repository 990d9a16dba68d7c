-- The first corner of a face is put behind the others, along another edge.
use Rattle.std.proofs.Common.{◌≡◌, ◌≤◌, ◌+◌, ◌-◌, ℕ, ℤ, suc, zero, true, is_some, List, [], ◌∷◌, ◌++◌, Option, Some, None, length, map, refl, sym, ap, ◌∙◌, subst, arith}
use Rattle.std.specs.List.{slice_get, remove}
use Rattle.std.specs.Option.{option_map, option_map_or, option_and_then}
use Rattle.std.proofs.lemmas.List.{length-map}
use Rattle.std.proofs.lemmas.Option.{same_Some}
use Rattle.cust_data.specs.Layers.{row_of, total}
use Rattle.cust_data.proofs.Tables.{length-row_of}
use Rattle.raw_pool.specs.declared.pool.Slot.{Slot}
use Rattle.mesh_store.specs.Naming.{NamedCells}
use Rattle.mesh_store.specs.Slots.{at}
use Rattle.mesh_store.specs.Stored.{Stored}
use Rattle.mesh_store.specs.declared.cells.LoopCell.{LoopCell}
use Rattle.mesh_store.specs.declared.cells.Round.{Round}
use Rattle.mesh_store.specs.declared.cells.VertCell.{VertCell}
use Rattle.mesh_store.specs.declared.layers.Layers.{Layers}
use Rattle.mesh_store.proofs.Places.{below}
use Rattle.mesh_cycles.specs.Cycles.{round_of}
use Rattle.mesh_cycles.specs.Found.{loops_in}
use Rattle.mesh_model.specs.Complex.{Complex, corners_of}
use Rattle.mesh_model.specs.Kernel.{with_corners_by}
use Rattle.mesh_model.specs.declared.names.EdgeName.{EdgeName}
use Rattle.mesh_model.specs.declared.names.FaceName.{FaceName}
use Rattle.mesh_model.specs.declared.records.CornerRec.{CornerRec}
use Rattle.mesh_model.specs.declared.records.Counters.{Counters}
use Rattle.mesh_model.specs.declared.records.FaceRec.{FaceRec}
use Rattle.mesh_records.specs.AtSlots.{StoredLoop, vert_in, loop_in, face_in, IsAt}
use Rattle.mesh_records.specs.Changes.{along_edge, shifted_once}
use Rattle.mesh_records.specs.Puts.{PutsCorner}
use Rattle.mesh_records.specs.ReadOff.{vert_name, corner_rec, face_rec, face_at, loop_rec, no_corner, read_off}
use Rattle.mesh_records.specs.Rewrites.{Rewrites}
use Rattle.mesh_records.specs.Takes.{TakesLoop}
use Rattle.mesh_records.specs.Whole.{IsWhole}
use Rattle.mesh_records.proofs.Appended.{appends_corner}
use Rattle.mesh_records.proofs.ByName.{faces_all, vert_leads, edge_leads}
use Rattle.mesh_records.proofs.CornerChanges.{corners_twice, corners_agree, corners_stay}
use Rattle.mesh_records.proofs.CornersLost.{placed, takes_corner}
use Rattle.mesh_records.proofs.Elements.{name_live, face_is_at}
use Rattle.mesh_records.proofs.Kills.{corners_there}
use Rattle.mesh_records.proofs.Options.{has_key, there}
use Rattle.mesh_records.proofs.Reversals.{last_edge, last_is}

module _ (old mid new : Stored) (n : Counters) (w : IsWhole old n) (k : FaceName) (f l v along l2 : Slot)
    (named : at old.faces.names k.0 ≡ Some f) (place : slice_get (loops_in old f.0) 0 ≡ Some l)
    (t : TakesLoop old mid f l) (cell : LoopCell) (is : at old.loops l.0 ≡ Some cell) (v_is : cell.vert ≡ v)
    (edge : EdgeName) (at_edge : at old.edges.names edge.0 ≡ Some along) (row : List ℤ)
    (row_is : row ≡ row_of old.values.loops l.0) (p : PutsCorner mid new f v along row l2) where
  -- what is told of the loop
  abbrev told_loop : StoredLoop
  told_loop = record { vert = cell.vert; edge = cell.edge; face = cell.face; vals = row_of old.values.loops l.0 }

  loop_told : loop_in old l.0 ≡ Some told_loop
  loop_told = ap (option_map (λ (c : LoopCell). let x : StoredLoop =
      record { vert = c.vert; edge = c.edge; face = c.face; vals = row_of old.values.loops l.0 } in x)) is

  -- the corner along the other edge
  abbrev moved : CornerRec
  moved = record { vert = vert_name old v.0; edge = edge; vals = row }

  corner_moved : moved ≡ along_edge edge (corner_rec old l)
  corner_moved =
      let told = ap (λ (o : Option StoredLoop). option_map_or (loop_rec old) o no_corner) loop_told in
      (λ i. record { vert = vert_name old (sym v_is i).0; edge = edge; vals = row_is i })
      ∙ ap (along_edge edge) (sym told)

  -- the face has a corner
  first_loop : (ls : List Slot) → slice_get ls 0 ≡ Some l → 1 ≤ length ls
  first_loop [] e = absurd (let no : None ≡ Some l = e in cc)
  first_loop (x ∷ ls) e = omega arith

  shifted_list : (ls : List Slot) → slice_get ls 0 ≡ Some l
      → remove (map (corner_rec old) ls) 0 ++ moved ∷ [] ≡ shifted_once edge (map (corner_rec old) ls)
  shifted_list [] e = absurd (let no : None ≡ Some l = e in cc)
  shifted_list (x ∷ ls) e =
      let same : x ≡ l = same_Some x l e in
      ap (λ (c : CornerRec). map (corner_rec old) ls ++ c ∷ []) (corner_moved
      ∙ ap (λ (s : Slot). along_edge edge (corner_rec old s)) (sym same))

  -- the corners that are read
  corners_read : (r : FaceRec) → face_at old k.0 ≡ Some r → r.corners ≡ map (corner_rec old) (loops_in old f.0)
  corners_read r e =
      let live = there (face_in old f.0) (face_is_at old f.0 (name_live w.records.named.faces k.0 f named)) in
      let here : Some (face_rec old f.0 live.0) ≡ Some r =
      sym (ap (option_and_then (λ (s : Slot). option_map (face_rec old s.0) (face_in old s.0))) named
      ∙ ap (option_map (face_rec old f.0)) live.1) ∙ e in
      ap (λ (x : FaceRec). x.corners) (sym (same_Some _ _ here))

  pub shifts_corner : Rewrites old new n (λ (c : Complex). with_corners_by c k (shifted_once edge))
  shifts_corner =
      let r = w.records in
      let lost = takes_corner old mid n w k f named l 0 place t in
      let long = first_loop (loops_in old f.0) place in
      let many = length-map (round_of old f.0) (λ (x : Round). x.0) in
      let all = corners_there old n k.0 f w named in
      let limit = w.sizes.corner_limit in
      let faces = ap (λ (xs : List (Option Slot)). at xs k.0) t.face_names ∙ named in
      let at_v = ap (λ (x : NamedCells VertCell). at x.names (vert_name old v.0).0) t.verts
      ∙ vert_leads old n r v (subst (λ (s : Slot). IsAt (vert_in old) s.0) v_is (r.linked.vert l.0 told_loop loop_told)) in
      let at_e = ap (λ (xs : List (Option Slot)). at xs edge.0) t.edge_names ∙ at_edge in
      let low = below old.loops l.0 cell is in
      let rows = w.values.rows.loops in
      let wide = ap (λ (x : List ℤ). length x) row_is
      ∙ length-row_of old.values.loops l.0 w.values.loops (omega arith)
      ∙ sym (ap (λ (x : Layers). total x.loops.layers) t.values) in
      let put = appends_corner mid p.bare (record n { corners = n.corners - 1 }) k f v along l2 lost.whole faces
      (omega arith) moved at_v at_e p.puts wide new p.writes in
      let back : n.corners - 1 + 1 ≡ n.corners = omega arith in
      let count = λ (j : ℕ). let x : Counters = record n { corners = j } in x in
      let W = λ (x : Counters). IsWhole new x in
      let behind = λ (ks : List CornerRec). ks ++ moved ∷ [] in
      let first = λ (ks : List CornerRec). remove ks 0 in
      let a = lost.room in
      let b = put.room in
      let a1 = a.verts in
      let a2 = a.edges in
      let a4 = a.faces in
      let b1 = b.verts in
      let b2 = b.edges in
      let b4 = b.faces in
      let taken = t.spare in
      let made = put.spare in
      record {
        whole = subst W (ap count back) put.whole;
        read = λ lists.
            let whole = read_off old n lists in
            put.read lists ∙ ap (λ (x : Complex). with_corners_by x k behind) (lost.read lists)
            ∙ corners_twice whole k first behind
            ∙ corners_agree whole k (λ (ks : List CornerRec). behind (first ks)) (shifted_once edge) (λ q told.
            let corners = corners_read q (sym (faces_all old n r k.0) ∙ told) in
            ap (λ (ks : List CornerRec). behind (first ks)) corners ∙ shifted_list (loops_in old f.0) place
            ∙ ap (shifted_once edge) (sym corners));
        disks = put.disks ∙ lost.disks;
        room = record { verts = omega arith; edges = omega arith; corners = omega arith; faces = omega arith };
      }

-- the edge of the first corner
pub first_edge : (st : Stored) (n : Counters) (w : IsWhole st n) (k : FaceName) (f l : Slot)
    (named : at st.faces.names k.0 ≡ Some f) → slice_get (loops_in st f.0) 0 ≡ Some l
    → option_map (λ (c : CornerRec). c.edge) (slice_get (corners_of (face_at st k.0)) 0) ≡ Some (corner_rec st l).edge
first_edge st n w k f l named place =
    let live = there (face_in st f.0) (face_is_at st f.0 (name_live w.records.named.faces k.0 f named)) in
    ap (λ (o : Option FaceRec). option_map (λ (c : CornerRec). c.edge) (slice_get (corners_of o) 0))
    (ap (option_and_then (λ (s : Slot). option_map (face_rec st s.0) (face_in st s.0))) named
    ∙ ap (option_map (face_rec st f.0)) live.1)
    ∙ by_list (loops_in st f.0) place
  where
    by_list : (ls : List Slot) → slice_get ls 0 ≡ Some l
        → option_map (λ (c : CornerRec). c.edge) (slice_get (map (corner_rec st) ls) 0) ≡ Some (corner_rec st l).edge
    by_list [] q = absurd (let no : None ≡ Some l = q in cc)
    by_list (x ∷ ls) q = ap (λ (s : Slot). Some (corner_rec st s).edge) (same_Some x l q)

-- a loop of a face, and its edge's name leads to the edge
pub loop_at_place : (st : Stored) (n : Counters) → IsWhole st n → (f l : Slot) (i : ℕ)
    → slice_get (loops_in st f.0) i ≡ Some l → (c : LoopCell) × (at st.loops l.0 ≡ Some c)
loop_at_place st n w f l i place =
    let m = placed st f l i place in
    let k = has_key (λ (x : LoopCell). x.face.0) (at st.loops l.0) f.0
    (w.cycles.cycles.round_faces f.0 (record { 0 = l }) m) in
    (k.cell, k.is)

pub corner_edge_there : (st : Stored) (n : Counters) → IsWhole st n → (f l : Slot) (i : ℕ)
    → slice_get (loops_in st f.0) i ≡ Some l → is_some (at st.edges.names (corner_rec st l).edge.0) ≡ true
corner_edge_there st n w f l i place =
    let k = loop_at_place st n w f l i place in
    let tell = λ (x : LoopCell). let y : StoredLoop =
    record { vert = x.vert; edge = x.edge; face = x.face; vals = row_of st.values.loops l.0 } in y in
    let told = ap (option_map tell) k.1 in
    let corner = ap (λ (o : Option StoredLoop). option_map_or (loop_rec st) o no_corner) told in
    let leads = edge_leads st n w.records k.0.edge (w.records.linked.edge l.0 (tell k.0) told) in
    ap (λ (c : CornerRec). is_some (at st.edges.names c.edge.0)) corner
    ∙ ap (λ (o : Option Slot). is_some o) leads

-- two changes in place, one after the other
pub rewrites_then : {old mid new : Stored} {n : Counters} (g h : Complex → Complex) → Rewrites old mid n g
    → Rewrites mid new n h → Rewrites old new n (λ (c : Complex). h (g c))
rewrites_then g h a b =
    let x = a.room in
    let y = b.room in
    let x1 = x.verts in
    let x2 = x.edges in
    let x3 = x.corners in
    let x4 = x.faces in
    let y1 = y.verts in
    let y2 = y.edges in
    let y3 = y.corners in
    let y4 = y.faces in
    record {
      whole = b.whole;
      read = λ lists. b.read lists ∙ ap h (a.read lists);
      disks = b.disks ∙ a.disks;
      room = record { verts = omega arith; edges = omega arith; corners = omega arith; faces = omega arith };
    }

-- the corners of a face changed twice
pub corners_then : {old mid new : Stored} {n : Counters} (w : IsWhole old n) (k : FaceName)
    (g h both : List CornerRec → List CornerRec)
    → Rewrites old mid n (λ (c : Complex). with_corners_by c k g)
    → Rewrites mid new n (λ (c : Complex). with_corners_by c k h)
    → h (g (corners_of (face_at old k.0))) ≡ both (corners_of (face_at old k.0))
    → Rewrites old new n (λ (c : Complex). with_corners_by c k both)
corners_then {old} {mid} {new} {n} w k g h both a b same =
    let r = rewrites_then (λ (c : Complex). with_corners_by c k g) (λ (c : Complex). with_corners_by c k h) a b in
    record {
      whole = r.whole;
      read = λ lists.
          let whole = read_off old n lists in
          r.read lists ∙ corners_twice whole k g h
          ∙ corners_agree whole k (λ (ks : List CornerRec). h (g ks)) both (λ q told.
          let corners = ap (λ (o : Option FaceRec). corners_of o) (sym (faces_all old n w.records k.0) ∙ told) in
          ap (λ (ks : List CornerRec). h (g ks)) (sym corners) ∙ same ∙ ap both corners);
      disks = r.disks;
      room = r.room;
    }

-- a change of corners that changes none
pub rewrites_none : (st : Stored) (n : Counters) → IsWhole st n → (k : FaceName)
    (change : List CornerRec → List CornerRec) → ((cs : List CornerRec) → change cs ≡ cs)
    → Rewrites st st n (λ (c : Complex). with_corners_by c k change)
rewrites_none st n w k change none = record {
  whole = w;
  read = λ lists.
      let whole = read_off st n lists in
      sym (corners_agree whole k change (λ (cs : List CornerRec). cs) (λ r is. none r.corners) ∙ corners_stay whole k);
  disks = refl;
  room = record { verts = omega arith; edges = omega arith; corners = omega arith; faces = omega arith };
}

-- the edge of a face's last corner
pub last_corner_edge : (st : Stored) (n : Counters) → IsWhole st n → (k : FaceName) (f l : Slot) (i : ℕ) (e : EdgeName)
    → at st.faces.names k.0 ≡ Some f → slice_get (loops_in st f.0) i ≡ Some l
    → i + 1 ≡ length (corners_of (face_at st k.0)) → e ≡ (corner_rec st l).edge
    → last_edge e (corners_of (face_at st k.0)) ≡ e
last_corner_edge st n w k f l i e named place last is =
    let live = there (face_in st f.0) (face_is_at st f.0 (name_live w.records.named.faces k.0 f named)) in
    let corners = ap (λ (o : Option FaceRec). corners_of o)
    (ap (option_and_then (λ (s : Slot). option_map (face_rec st s.0) (face_in st s.0))) named
    ∙ ap (option_map (face_rec st f.0)) live.1) in
    last_is e (corners_of (face_at st k.0)) i (corner_rec st l) last
    (ap (λ (ks : List CornerRec). slice_get ks i) corners ∙ by_list (loops_in st f.0) i place) ∙ sym is
  where
    by_list : (ls : List Slot) (j : ℕ) → slice_get ls j ≡ Some l
        → slice_get (map (corner_rec st) ls) j ≡ Some (corner_rec st l)
    by_list [] j q = absurd (let no : None ≡ Some l = q in cc)
    by_list (x ∷ ls) zero q = ap (λ (s : Slot). Some (corner_rec st s)) (same_Some x l q)
    by_list (x ∷ ls) (suc j) q = by_list ls j q
