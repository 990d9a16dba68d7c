-- A mesh is filled with the elements of a complex.
use Rattle.std.proofs.Common.{eqb, ◌≡◌, ◌<◌, ◌≤◌, ◌+◌, ◌-◌, ◌^◌, ◌++◌, ℕ, ℤ, zero, suc, Bool, true, false, is_some, cond, List, [], ◌∷◌, Option, Some, None, length, drop, refl, sym, ap, ◌∙◌, subst, arith}
use Rattle.std.specs.Prelude.{Ok, Err, IsOk, OnOk}
use Rattle.std.specs.declared.result.Result.{Result}
use Rattle.std.proofs.lemmas.Bool.{false≢true}
use Rattle.std.proofs.lemmas.List.Sums.{sum_by-cons, count_by-le-length}
use Rattle.std.specs.List.{slice_get}
use Rattle.std.specs.Option.{option_map}
use Rattle.std.proofs.lemmas.Option.{slice_get_within}
use Rattle.mesh_model.specs.Kernel.{with_vert_like, with_edge_like, with_face_like, with_vert_vals, with_edge_vals, with_face_vals, with_corner_vals, with_corners_by, changed_at}
use Rattle.mesh_model.specs.Valid.{IsLinked, IsCornerLinked, IsValid}
use Rattle.mesh_model.specs.declared.limits.TheConstants.{MAX_VERTS, MAX_EDGES, MAX_FACES}
use Rattle.mesh_model.specs.declared.names.VertName.{VertName}
use Rattle.mesh_model.specs.declared.names.EdgeName.{EdgeName}
use Rattle.mesh_model.specs.declared.names.FaceName.{FaceName}
use Rattle.mesh_model.specs.declared.records.Point.{Point}
use Rattle.mesh_model.specs.declared.records.VertRec.{VertRec}
use Rattle.mesh_model.specs.declared.records.EdgeRec.{EdgeRec}
use Rattle.mesh_model.specs.declared.records.CornerRec.{CornerRec}
use Rattle.mesh_model.proofs.Copies.{pair, corner-at}
use Rattle.mesh_model.proofs.Tables.{stands, at-update}
use Rattle.mesh_records.specs.Corners.{of_corners}
use Rattle.mesh_records.specs.Loading.{with_vert_name, with_edge_name, with_face_name, verts_to, edges_to, faces_to, corners_to, with_first_corners}
use Rattle.mesh_records.proofs.ReadBack.{corner_there}
use Rattle.mesh_core.proofs.Loaded.{long_front, all_verts, all_edges, vert_passed, vert_loaded, edge_passed, edge_loaded, few_faces, few_corners, face_passed, face_begun, part_there, linked_along, corner_more, all_corners, corner_within, some_same}
use Rattle.raw_pool.specs.Slots.{spare_count}
use Rattle.mesh_store.specs.Parts.{cleared}
use Rattle.mesh_store.specs.Stored.{Stored}
use Rattle.mesh_model.specs.Table.{at, live}
use Rattle.mesh_model.specs.Complex.{Complex, corners_of, corner_sum}
use Rattle.mesh_model.specs.declared.records.FaceRec.{FaceRec}
use Rattle.mesh_records.specs.Places.{KeepsPlaces, CanTake, CanBecome}
use Rattle.mesh_records.specs.ReadOff.{layers_in, vert_at, edge_at, face_at}
use Rattle.mesh_records.specs.Room.{Amounts, Covers, none_of_all, of_verts, of_edges, of_face}
use Rattle.mesh_records.proofs.Cleared.{vacant_spare, spare_short, keeps_cleared}
use Rattle.mesh_records.proofs.Places.{takes_still, keeps_same, keeps_then, none_more}
use Rattle.mesh_records.proofs.Tables.{length_table}
use Rattle.mesh_core.specs.Filling.{IsFilling, HasVertsTo, HasEdgesTo, HasFacesTo, HasCornersTo}
use Rattle.mesh_core.specs.Seen.{Seen, now, room, notes_of_a_copy}

-- ---- results

-- what holds of a good answer holds where the answer is good
pub on_ok_at : {T E P : Type 0} (r : Result T E) → IsOk r → OnOk r P → P
on_ok_at (Ok x) h p = p
on_ok_at (Err e) h p = absurd (false≢true h)

-- ---- how many are still to come

pub live_next : {X : Type 0} (xs : List (Option X)) (n : ℕ) → n < length xs
    → live (drop n xs) ≡ cond (is_some (at xs n)) 1 0 + live (drop (n + 1) xs)
live_next [] n h = absurd (omega arith)
live_next {X} (x ∷ xs) zero h = sum_by-cons (λ (o : Option X). cond (is_some o) 1 0) x xs
live_next {X} (x ∷ xs) (suc n) h =
    let more : suc (n + 1) ≡ suc n + 1 = omega arith in
    let P = λ (j : ℕ). live (drop n xs) ≡ cond (is_some (at xs n)) 1 0 + live (drop j (x ∷ xs)) in
    subst P more (live_next xs n (omega arith))

pub live_here : {X : Type 0} (xs : List (Option X)) (n : ℕ) → n < length xs → is_some (at xs n) ≡ true
    → live (drop (n + 1) xs) + 1 ≤ live (drop n xs)
live_here xs n h is =
    let next = live_next xs n h in
    let one : cond {A = ℕ} (is_some (at xs n)) 1 0 ≡ 1 = ap (λ (b : Bool). cond {A = ℕ} b 1 0) is in
    omega arith

pub live_passed : {X : Type 0} (xs : List (Option X)) (n : ℕ) → n < length xs
    → live (drop (n + 1) xs) ≤ live (drop n xs)
live_passed xs n h = let next = live_next xs n h in omega arith

pub corners_next : (xs : List (Option FaceRec)) (n : ℕ) → n < length xs
    → corner_sum (drop n xs) ≡ length (corners_of (at xs n)) + corner_sum (drop (n + 1) xs)
corners_next [] n h = absurd (omega arith)
corners_next (x ∷ xs) zero h = sum_by-cons (λ (o : Option FaceRec). length (corners_of o)) x xs
corners_next (x ∷ xs) (suc n) h =
    let more : suc (n + 1) ≡ suc n + 1 = omega arith in
    let P = λ (j : ℕ). corner_sum (drop n xs) ≡ length (corners_of (at xs n)) + corner_sum (drop j (x ∷ xs)) in
    subst P more (corners_next xs n (omega arith))

-- ---- one step

module _ (used : Amounts) (old new : Seen) (c was is : Complex) (v e k f v' e' k' f' : ℕ) where
  pub fills : IsFilling old c was v e k f → now new ≡ is → is.layers ≡ c.layers → is.materials ≡ c.materials
      → is.libraries ≡ c.libraries → KeepsPlaces used old.stored new.stored → v' + used.verts ≤ v
      → e' + used.edges ≤ e → k' + used.corners ≤ k → f' + used.faces ≤ f → IsFilling new c is v' e' k' f'
  fills h same layers materials libraries keeps lv le lk lf =
      let hv = h.verts in
      let he = h.edges in
      let hk = h.corners in
      let hf = h.faces in
      let kv = keeps.verts.spare in
      let ke = keeps.edges.spare in
      let kk = keeps.loops.spare in
      let kf = keeps.faces.spare in
      let all : layers_in new.stored ≡ c.layers = ap (λ (x : Complex). x.layers) same ∙ layers in
      record {
        now = same;
        becomes = record {
          takes = takes_still used old.stored new.stored c keeps (all ∙ sym h.becomes.takes.layers) h.becomes.takes;
          materials = ap (λ (x : Complex). x.materials) same ∙ materials;
          libraries = ap (λ (x : Complex). x.libraries) same ∙ libraries;
        };
        verts = omega arith;
        edges = omega arith;
        corners = omega arith;
        faces = omega arith;
      }

-- ---- there is room

module _ (m : Seen) (c so_far : Complex) (v e k f : ℕ) (h : IsFilling m c so_far v e k f) where
  pub vert_room : 1 ≤ v → length so_far.verts < length c.verts → Covers (room m) (of_verts 1)
  vert_room some low =
      let hv = h.verts in
      let reach = h.becomes.takes.vert_reach in
      let long = length_table (vert_at m.stored) m.next.verts in
      let same = ap (λ (x : Complex). length x.verts) h.now in
      record { verts = omega arith; edges = omega arith; corners = omega arith; faces = omega arith }

  pub edge_room : 1 ≤ e → length so_far.edges < length c.edges → Covers (room m) (of_edges 1)
  edge_room some low =
      let he = h.edges in
      let reach = h.becomes.takes.edge_reach in
      let long = length_table (edge_at m.stored) m.next.edges in
      let same = ap (λ (x : Complex). length x.edges) h.now in
      record { verts = omega arith; edges = omega arith; corners = omega arith; faces = omega arith }

  pub face_room : 1 ≤ k → 1 ≤ f → length so_far.faces < length c.faces → Covers (room m) (of_face 1)
  face_room corner some low =
      let hk = h.corners in
      let hf = h.faces in
      let reach = h.becomes.takes.face_reach in
      let long = length_table (face_at m.stored) m.next.faces in
      let same = ap (λ (x : Complex). length x.faces) h.now in
      record { verts = omega arith; edges = omega arith; corners = omega arith; faces = omega arith }

  -- the directories reach the next names
  pub vert_name_fits : length so_far.verts < length c.verts → length so_far.verts < length m.stored.verts.names
  vert_name_fits low = let reach = h.becomes.takes.vert_reach in omega arith

  pub edge_name_fits : length so_far.edges < length c.edges → length so_far.edges < length m.stored.edges.names
  edge_name_fits low = let reach = h.becomes.takes.edge_reach in omega arith

  pub face_name_fits : length so_far.faces < length c.faces → length so_far.faces < length m.stored.faces.names
  face_name_fits low = let reach = h.becomes.takes.face_reach in omega arith

-- ---- at the beginning

-- in a mesh that was cleared there are places for all
pub fills_first : (m : Seen) (st : Stored) (c so_far : Complex) → m.stored ≡ cleared st → CanBecome st m.lists c
    → now m ≡ so_far → IsFilling m c so_far (live c.verts) (live c.edges) (corner_sum c.faces) (live c.faces)
fills_first m st c so_far is b same =
    let t = b.takes in
    let keeps = keeps_cleared st in
    let F = λ (s : Stored). CanTake s c in
    let tv = t.verts in
    let te = t.edges in
    let tc = t.corners in
    let tf = t.faces in
    let sv = ap (λ (s : Stored). spare_count s.verts.cells) is ∙ vacant_spare _ (length st.verts.cells) in
    let se = ap (λ (s : Stored). spare_count s.edges.cells) is ∙ vacant_spare _ (length st.edges.cells) in
    let sl = ap (λ (s : Stored). spare_count s.loops) is ∙ vacant_spare _ (length st.loops) in
    let sf = ap (λ (s : Stored). spare_count s.faces.cells) is ∙ vacant_spare _ (length st.faces.cells) in
    record {
      now = same;
      becomes = record {
        takes = subst F (sym is) (takes_still none_of_all st (cleared st) c keeps refl t);
        materials = b.materials;
        libraries = b.libraries;
      };
      verts = omega arith;
      edges = omega arith;
      corners = omega arith;
      faces = omega arith;
    }

-- ---- one kind is done

pub verts_done : (m : Seen) (c : Complex) (v : ℕ) → length c.verts ≤ v → HasVertsTo m c v → HasEdgesTo m c 0
verts_done m c v le h = record {
  now = h.now ∙ all_verts c v le;
  becomes = h.becomes;
  verts = omega arith;
  edges = h.edges;
  corners = h.corners;
  faces = h.faces;
}

pub edges_done : (m : Seen) (c : Complex) (e : ℕ) → length c.edges ≤ e → HasEdgesTo m c e → HasFacesTo m c 0
edges_done m c e le h = record {
  now = h.now ∙ all_edges c e le;
  becomes = h.becomes;
  verts = omega arith;
  edges = omega arith;
  corners = h.corners;
  faces = h.faces;
}

-- ---- notes

-- one record of each kind can always be noted
pub record CanNote (notes : Amounts) : Type 0 where
  pub verts : 2 ≤ notes.verts
  pub edges : 2 ≤ notes.edges
  pub corners : 8192 ≤ notes.corners
  pub faces : 4 ≤ notes.faces

pub can_note : (notes : Amounts) → notes ≡ notes_of_a_copy → CanNote notes
can_note notes e =
    let v = ap (λ (n : Amounts). n.verts) e in
    let d = ap (λ (n : Amounts). n.edges) e in
    let k = ap (λ (n : Amounts). n.corners) e in
    let f = ap (λ (n : Amounts). n.faces) e in
    record { verts = omega arith; edges = omega arith; corners = omega arith; faces = omega arith }

-- ---- a vertex

module _ (old : Seen) (d : Complex) (v : ℕ) (h : HasVertsTo old d v) (low : v < length d.verts) where
  front : length (verts_to d v).verts ≡ v
  front = long_front d.verts v (omega arith)

  pub vert_limit : length (now old).verts < MAX_VERTS
  vert_limit =
      let limit = h.becomes.takes.vert_limit in
      let same = ap (λ (x : Complex). length x.verts) h.now in
      omega (arith, front)

  pub vert_reach : length (now old).verts < length old.stored.verts.names
  vert_reach =
      let reach = h.becomes.takes.vert_reach in
      let same = ap (λ (x : Complex). length x.verts) h.now in
      omega (arith, front)

  pub vert_covers : is_some (at d.verts v) ≡ true → Covers (room old) (of_verts 1)
  vert_covers there =
      let some = live_here d.verts v low there in
      vert_room old d (verts_to d v) (live (drop v d.verts)) (live d.edges) (corner_sum d.faces)
      (live d.faces) h (omega arith) (omega (arith, front))

  -- a name is passed over
  pub vert_skipped : (new : Seen) → is_some (at d.verts v) ≡ false → now new ≡ with_vert_name (now old) None
      → new.stored ≡ old.stored → HasVertsTo new d (v + 1)
  vert_skipped new none skipped same =
      let passed = live_passed d.verts v low in
      fills none_of_all old new d (verts_to d v) (verts_to d (v + 1)) (live (drop v d.verts)) (live d.edges) (corner_sum d.faces) (live d.faces)
      (live (drop (v + 1) d.verts)) (live d.edges) (corner_sum d.faces) (live d.faces) h
      (skipped ∙ vert_passed d v low (now old) h.now none) refl refl refl (keeps_same old.stored new.stored same)
      (omega arith) (omega arith) (omega arith) (omega arith)

  -- a vertex is made, and its values are written
  pub vert_filled : (mid new : Seen) (p : Point) (vals : List ℤ) → is_some (at d.verts v) ≡ true
      → now mid ≡ with_vert_like (now old) p None → now new ≡ with_vert_vals (now mid) (record { 0 = v }) vals
      → option_map (λ (r : VertRec). r.point) (at d.verts v) ≡ Some p
      → option_map (λ (r : VertRec). r.vals) (at d.verts v) ≡ Some vals
      → KeepsPlaces (of_verts 1) old.stored mid.stored → KeepsPlaces none_of_all mid.stored new.stored
      → HasVertsTo new d (v + 1)
  vert_filled mid new p vals there made valued point row first second =
      let here = live_here d.verts v low there in
      fills (of_verts 1) old new d (verts_to d v) (verts_to d (v + 1)) (live (drop v d.verts)) (live d.edges) (corner_sum d.faces) (live d.faces)
      (live (drop (v + 1) d.verts)) (live d.edges) (corner_sum d.faces) (live d.faces) h
      (valued ∙ vert_loaded d v low (now old) (now mid) p vals h.now made point row) refl refl refl
      (keeps_then (of_verts 1) none_of_all (of_verts 1) old.stored mid.stored new.stored (none_more (of_verts 1)) first
      second)
      (omega arith) (omega arith) (omega arith) (omega arith)

-- ---- an edge

module _ (old : Seen) (d : Complex) (e : ℕ) (h : HasEdgesTo old d e) (low : e < length d.edges) where
  front_edges : length (edges_to d e).edges ≡ e
  front_edges = long_front d.edges e (omega arith)

  pub edge_limit : length (now old).edges < MAX_EDGES
  edge_limit =
      let limit = h.becomes.takes.edge_limit in
      let same = ap (λ (x : Complex). length x.edges) h.now in
      omega (arith, front_edges)

  pub edge_reach : length (now old).edges < length old.stored.edges.names
  edge_reach =
      let reach = h.becomes.takes.edge_reach in
      let same = ap (λ (x : Complex). length x.edges) h.now in
      omega (arith, front_edges)

  pub edge_covers : is_some (at d.edges e) ≡ true → Covers (room old) (of_edges 1)
  edge_covers there =
      let some = live_here d.edges e low there in
      edge_room old d (edges_to d e) 0 (live (drop e d.edges)) (corner_sum d.faces) (live d.faces) h (omega arith) (omega (arith, front_edges))

  pub edge_skipped : (new : Seen) → is_some (at d.edges e) ≡ false → now new ≡ with_edge_name (now old) None
      → new.stored ≡ old.stored → HasEdgesTo new d (e + 1)
  edge_skipped new none skipped same =
      let passed = live_passed d.edges e low in
      fills none_of_all old new d (edges_to d e) (edges_to d (e + 1)) 0 (live (drop e d.edges)) (corner_sum d.faces) (live d.faces) 0
      (live (drop (e + 1) d.edges)) (corner_sum d.faces) (live d.faces) h
      (skipped ∙ edge_passed d e low (now old) h.now none) refl refl refl (keeps_same old.stored new.stored same)
      (omega arith) (omega arith) (omega arith) (omega arith)

  pub edge_filled : (mid new : Seen) (a b : VertName) (vals : List ℤ) → is_some (at d.edges e) ≡ true
      → now mid ≡ with_edge_like (now old) a b None → now new ≡ with_edge_vals (now mid) (record { 0 = e }) vals
      → option_map (λ (r : EdgeRec). r.a ∷ r.b ∷ []) (at d.edges e) ≡ Some (a ∷ b ∷ [])
      → option_map (λ (r : EdgeRec). r.vals) (at d.edges e) ≡ Some vals
      → KeepsPlaces (of_edges 1) old.stored mid.stored → KeepsPlaces none_of_all mid.stored new.stored
      → HasEdgesTo new d (e + 1)
  edge_filled mid new a b vals there made valued ends row first second =
      let here = live_here d.edges e low there in
      fills (of_edges 1) old new d (edges_to d e) (edges_to d (e + 1)) 0 (live (drop e d.edges)) (corner_sum d.faces) (live d.faces) 0
      (live (drop (e + 1) d.edges)) (corner_sum d.faces) (live d.faces) h
      (valued ∙ edge_loaded d e low (now old) (now mid) a b vals h.now made ends row) refl refl refl
      (keeps_then (of_edges 1) none_of_all (of_edges 1) old.stored mid.stored new.stored (none_more (of_edges 1)) first
      second)
      (omega arith) (omega arith) (omega arith) (omega arith)

-- ---- a face

module _ (old : Seen) (d : Complex) (f : ℕ) (h : HasFacesTo old d f) (low : f < length d.faces) where
  front_faces : length (faces_to d f).faces ≡ f
  front_faces = long_front d.faces f (omega arith)

  pub face_limit : length (now old).faces < MAX_FACES
  face_limit =
      let limit = h.becomes.takes.face_limit in
      let same = ap (λ (x : Complex). length x.faces) h.now in
      omega (arith, front_faces)

  pub face_reach : length (now old).faces < length old.stored.faces.names
  face_reach =
      let reach = h.becomes.takes.face_reach in
      let same = ap (λ (x : Complex). length x.faces) h.now in
      omega (arith, front_faces)

  pub face_few : 1 ≤ length (corners_of (at d.faces f)) → corner_sum (now old).faces + 1 ≤ 2 ^ 24
  face_few some =
      let few = few_faces d f low in
      let limit = h.becomes.takes.corner_limit in
      let same = ap (λ (x : Complex). corner_sum x.faces) h.now in
      omega arith

  pub face_covers : is_some (at d.faces f) ≡ true → 1 ≤ length (corners_of (at d.faces f))
      → Covers (room old) (of_face 1)
  face_covers there some =
      let here = live_here d.faces f low there in
      let next = corners_next d.faces f low in
      face_room old d (faces_to d f) 0 0 (corner_sum (drop f d.faces)) (live (drop f d.faces)) h (omega arith) (omega arith) (omega (arith, front_faces))

  pub face_skipped : (new : Seen) → is_some (at d.faces f) ≡ false → now new ≡ with_face_name (now old) None
      → new.stored ≡ old.stored → HasFacesTo new d (f + 1)
  face_skipped new none skipped same =
      let passed = live_passed d.faces f low in
      let next = corners_next d.faces f low in
      fills none_of_all old new d (faces_to d f) (faces_to d (f + 1)) 0 0 (corner_sum (drop f d.faces)) (live (drop f d.faces)) 0 0
      (corner_sum (drop (f + 1) d.faces)) (live (drop (f + 1) d.faces)) h
      (skipped ∙ face_passed d f low (now old) h.now none) refl refl refl (keeps_same old.stored new.stored same)
      (omega arith) (omega arith) (omega arith) (omega arith)

  -- it begins with its first corner and has its values
  pub face_begins : (made valued new : Seen) (r : FaceRec) → at d.faces f ≡ Some r → (k : CornerRec)
      (polygon : List (VertName × EdgeName)) (vals row : List ℤ) → slice_get r.corners 0 ≡ Some k
      → polygon ≡ pair k ∷ [] → vals ≡ k.vals → row ≡ r.vals
      → now made ≡ with_face_like (now old) polygon None
      → now valued ≡ with_corner_vals (now made) (record { 0 = f }) 0 vals
      → now new ≡ with_face_vals (now valued) (record { 0 = f }) row
      → KeepsPlaces (of_face 1) old.stored made.stored → KeepsPlaces none_of_all made.stored valued.stored
      → KeepsPlaces none_of_all valued.stored new.stored → HasCornersTo new d f 1
  face_begins made valued new r is k polygon vals row here one first own like with_values written a b c =
      let there = live_here d.faces f low (ap (λ (o : Option FaceRec). is_some o) is) in
      let next = corners_next d.faces f low in
      let count = ap (λ (o : Option FaceRec). length (corners_of o)) is in
      let some = slice_get_within r.corners 0 k here in
      fills (of_face 1) old new d (faces_to d f) (corners_to d f 1) 0 0 (corner_sum (drop f d.faces)) (live (drop f d.faces)) 0 0
      (corner_sum (drop f d.faces) - 1) (live (drop (f + 1) d.faces)) h
      (written ∙ face_begun d f low r is (now old) (now made) (now valued) k polygon vals row h.now here one first own
      like with_values)
      refl refl refl
      (keeps_then (of_face 1) none_of_all (of_face 1) old.stored valued.stored new.stored (none_more (of_face 1))
      (keeps_then (of_face 1) none_of_all (of_face 1) old.stored made.stored valued.stored (none_more (of_face 1)) a b)
      c)
      (omega arith) (omega arith) (omega arith) (omega arith)

-- the row of its only corner is written
one_written : (b : Bool) (o : Option FaceRec) (vals : List ℤ) → length (corners_of o) ≡ 1
    → length (corners_of (cond b (option_map (λ (r : FaceRec). let q : FaceRec = record r {
      corners = changed_at r.corners 0 (λ (k : CornerRec). let x : CornerRec = record k { vals = vals } in x);
    } in q) o) o)) ≡ 1
one_written false o vals h = h
one_written true None vals h = h
one_written true (Some r) vals h = by_corners r.corners h
  where
    by_corners : (ks : List CornerRec) → length ks ≡ 1
        → length (changed_at ks 0 (λ (k : CornerRec). let x : CornerRec = record k { vals = vals } in x)) ≡ 1
    by_corners [] e = absurd (omega arith)
    by_corners (k ∷ []) e = refl
    by_corners (k ∷ l ∷ ks) e = absurd (omega arith)

pub one_corner_still : (c : Complex) (f : FaceName) (vals : List ℤ) → length (corners_of (at c.faces f.0)) ≡ 1
    → length (corners_of (at (with_corner_vals c f 0 vals).faces f.0)) ≡ 1
one_corner_still c f vals h =
    let change = λ (r : FaceRec). let q : FaceRec = record r {
      corners = changed_at r.corners 0 (λ (k : CornerRec). let x : CornerRec = record k { vals = vals } in x);
    } in q in
    ap (λ (o : Option FaceRec). length (corners_of o)) (at-update c.faces f.0 f.0 change)
    ∙ one_written (eqb f.0 f.0) (at c.faces f.0) vals h

-- ---- its further corners

module _ (old : Seen) (d : Complex) (f i : ℕ) (h : HasCornersTo old d f i) (low : f < length d.faces) where
  pub corner_face_there : is_some (at d.faces f) ≡ true → is_some (at (now old).faces f) ≡ true
  corner_face_there there =
      let it = stands (at d.faces f) there in
      let P = λ (x : Complex). is_some (at x.faces f) ≡ true in
      subst P (sym h.now) (ap (λ (o : Option FaceRec). is_some o) (part_there d f low i
      ∙ ap (option_map (with_first_corners i)) it.1))

  pub corner_few : i < length (corners_of (at d.faces f)) → corner_sum (now old).faces < 2 ^ 24
  corner_few within =
      let few = few_corners d f low i (omega arith) in
      let same = ap (λ (x : Complex). corner_sum x.faces) h.now in
      let limit = h.becomes.takes.corner_limit in
      omega arith

  pub corner_room : i < length (corners_of (at d.faces f)) → 1 ≤ (room old).corners
  corner_room within =
      let next = corners_next d.faces f low in
      let spare = h.corners in
      omega arith

  pub corner_is_linked : (k : CornerRec) → IsCornerLinked d k → IsCornerLinked (now old) k
  corner_is_linked k linked = linked_along d (now old) k (ap (λ (x : Complex). x.verts) h.now)
      (ap (λ (x : Complex). x.edges) h.now) (ap (λ (x : Complex). x.layers) h.now) linked

  pub corner_filled : (new : Seen) (k : CornerRec) → slice_get (corners_of (at d.faces f)) i ≡ Some k
      → now new ≡ with_corners_by (now old) (record { 0 = f }) (λ (ks : List CornerRec). ks ++ k ∷ [])
      → KeepsPlaces (of_corners 1) old.stored new.stored → HasCornersTo new d f (i + 1)
  corner_filled new k here put keeps =
      let within = slice_get_within (corners_of (at d.faces f)) i k here in
      let it = stands (at d.faces f) (corner_there d f i within) in
      let next = corners_next d.faces f low in
      let same = ap (λ (o : Option FaceRec). slice_get (corners_of o) i) (sym it.1) ∙ here in
      fills (of_corners 1) old new d (corners_to d f i) (corners_to d f (i + 1)) 0 0 (corner_sum (drop f d.faces) - i) (live (drop (f + 1) d.faces)) 0 0
      (corner_sum (drop f d.faces) - (i + 1)) (live (drop (f + 1) d.faces)) h
      (put
      ∙ ap (λ (x : Complex). with_corners_by x (record { 0 = f }) (λ (ks : List CornerRec). ks ++ k ∷ [])) h.now
      ∙ corner_more d f low it.0 it.1 i k same)
      refl refl refl keeps (omega arith) (omega arith) (omega arith) (omega arith)

  -- all corners are there
  pub corners_done : i ≡ length (corners_of (at d.faces f)) → HasFacesTo old d (f + 1)
  corners_done all =
      let next = corners_next d.faces f low in
      let spare = h.corners in
      record {
        now = h.now ∙ all_corners d f low i (omega arith);
        becomes = h.becomes;
        verts = omega arith;
        edges = omega arith;
        corners = omega arith;
        faces = h.faces;
      }

-- a corner of a face as it is told: its vertex and edge, and its row of values
pub record IsCornerTold (d : Complex) (f i : ℕ) (side : VertName × EdgeName) (row : List ℤ) : Type 0 where
  pub corner : CornerRec
  pub here : slice_get (corners_of (at d.faces f)) i ≡ Some corner
  pub is : record { vert = side.0; edge = side.1; vals = row } ≡ corner
  pub pair_is : side ≡ pair corner
  pub row_is : row ≡ corner.vals
  pub linked : IsCornerLinked d corner

pub corner_told : (d : Complex) (f i : ℕ) → IsLinked d → i < length (corners_of (at d.faces f))
    → (side : VertName × EdgeName) (row : List ℤ)
    → option_map (λ (k : CornerRec). (k.vert, k.edge)) (slice_get (corners_of (at d.faces f)) i) ≡ Some side
    → option_map (λ (k : CornerRec). k.vals) (slice_get (corners_of (at d.faces f)) i) ≡ Some row
    → IsCornerTold d f i side row
corner_told d f i linked within side row told_side told_row =
    let k = corner-at (corners_of (at d.faces f)) i within in
    let one : pair k.0 ≡ side = some_same (pair k.0) side
    (sym (ap (option_map (λ (x : CornerRec). (x.vert, x.edge))) k.1) ∙ told_side) in
    let two : k.0.vals ≡ row = some_same k.0.vals row
    (sym (ap (option_map (λ (x : CornerRec). x.vals)) k.1) ∙ told_row) in
    record {
      corner = k.0;
      here = k.1;
      is = λ j. record { vert = (sym one j).0; edge = (sym one j).1; vals = sym two j };
      pair_is = sym one;
      row_is = sym two;
      linked = corner_within d f linked i k.0 k.1;
    }

-- ---- room that was made

-- a mesh with the layers and the lists of names of a valid complex, and with room for its names and its corners
pub becomes_reserved : (m : Seen) (d : Complex) → IsValid d
    → Covers (room m) (record {
      verts = length d.verts;
      edges = length d.edges;
      corners = corner_sum d.faces;
      faces = length d.faces;
    }) → layers_in m.stored ≡ d.layers → m.lists.materials ≡ d.materials → m.lists.libraries ≡ d.libraries
    → CanBecome m.stored m.lists d
becomes_reserved m d valid covers layers materials libraries =
    let cv = covers.verts in
    let ce = covers.edges in
    let ck = covers.corners in
    let cf = covers.faces in
    let sv = spare_short m.stored.verts.cells in
    let se = spare_short m.stored.edges.cells in
    let sk = spare_short m.stored.loops in
    let sf = spare_short m.stored.faces.cells in
    let lv = count_by-le-length (λ (o : Option VertRec). is_some o) d.verts in
    let le = count_by-le-length (λ (o : Option EdgeRec). is_some o) d.edges in
    let lf = count_by-le-length (λ (o : Option FaceRec). is_some o) d.faces in
    let limits = valid.limits in
    let mv = limits.verts in
    let me = limits.edges in
    let mf = limits.faces in
    let mk = limits.corners in
    record {
      takes = record {
        layers = layers;
        verts = omega arith;
        edges = omega arith;
        corners = omega arith;
        faces = omega arith;
        vert_reach = omega arith;
        edge_reach = omega arith;
        face_reach = omega arith;
        vert_limit = mv;
        edge_limit = me;
        face_limit = mf;
        corner_limit = omega arith;
      };
      materials = materials;
      libraries = libraries;
    }
