-- The loops of a face are put in another order.
use Rattle.std.proofs.Common.{◌≡◌, ◌≢◌, ◌<◌, ℕ, is_some, List, [], ◌∷◌, Option, Some, None, length, map, refl, sym, ap, ◌∙◌, subst, inl, inr, arith}
use Rattle.std.specs.Option.{option_map, option_and_then}
use Rattle.std.proofs.lemmas.Bool.{cases_eq}
use Rattle.std.proofs.lemmas.Option.{same_Some}
use Rattle.cust_data.specs.Layers.{IsTable}
use Rattle.raw_pool.specs.declared.pool.Slot.{Slot}
use Rattle.link_ring.specs.Members.{HasMember}
use Rattle.link_ring.specs.Mapped.{mapped_from}
use Rattle.link_ring.proofs.Members.{member_of}
use Rattle.mesh_store.specs.Slots.{at}
use Rattle.mesh_store.specs.Stored.{Stored}
use Rattle.mesh_store.specs.declared.cells.LoopCell.{LoopCell}
use Rattle.mesh_store.specs.declared.cells.Round.{Round}
use Rattle.mesh_store.specs.declared.layers.Layers.{Layers}
use Rattle.mesh_cycles.specs.Owners.{len_of}
use Rattle.mesh_cycles.specs.Cycles.{HaveCycles, round_of}
use Rattle.mesh_cycles.specs.Edits.{bare, EditsRound}
use Rattle.mesh_cycles.specs.Found.{loops_in}
use Rattle.mesh_cycles.proofs.Besides.{bare_pools, round_lens}
use Rattle.mesh_cycles.proofs.Completeness.{whole_same}
use Rattle.mesh_model.specs.Complex.{Complex, corner_sum}
use Rattle.mesh_model.specs.Kernel.{with_corners_by}
use Rattle.mesh_model.specs.declared.names.FaceName.{FaceName}
use Rattle.mesh_model.specs.declared.records.CornerRec.{CornerRec}
use Rattle.mesh_model.specs.declared.records.FaceRec.{FaceRec}
use Rattle.mesh_model.specs.declared.records.Counters.{Counters}
use Rattle.mesh_records.specs.AtSlots.{StoredFace, face_in}
use Rattle.mesh_records.specs.Corners.{KeepsNames}
use Rattle.mesh_records.specs.Frames.{SameElements}
use Rattle.mesh_records.specs.ReadOff.{table, vert_at, edge_at, face_at, corner_rec, face_rec}
use Rattle.mesh_records.specs.Whole.{HaveValues, AreSizes, IsWhole}
use Rattle.mesh_records.proofs.Added.{few_same}
use Rattle.mesh_records.proofs.Edges.{names_apart, name_below}
use Rattle.mesh_records.proofs.Elements.{name_live, loop_is_at, face_is_at, same_bare, same_extend}
use Rattle.mesh_records.proofs.Frames.{darts_same, ends_same, edges_of_same, faces_of_same, records_stay, disks_stay}
use Rattle.mesh_records.proofs.Joins.{vert_size, edge_size}
use Rattle.mesh_records.proofs.LoopJoins.{face_size, loop_size}
use Rattle.mesh_records.proofs.Options.{holds_by, map_members, told_twice}
use Rattle.mesh_records.proofs.Reading.{vert_same, edge_same, corner_same, face_same}
use Rattle.mesh_records.specs.Rewrites.{Rewrites}
use Rattle.mesh_records.proofs.RowsWritten.{sum_kept}
use Rattle.mesh_records.proofs.Tables.{length_table, table_same, table_updated}

-- ---- where everything but cycles stays

module _ (old new : Stored) (e : bare new ≡ bare old) where
  pub values_bare : HaveValues old → HaveValues new
  values_bare v =
      let same : new.values ≡ old.values = ap (λ (t : Stored). t.values) e in
      let verts = vert_size old new e in
      let edges = edge_size old new e in
      let loops = loop_size old new e in
      let faces = face_size old new e in
      let long_verts = verts.long in
      let long_edges = edges.long in
      let long_loops = loops.long in
      let long_faces = faces.long in
      let rows_verts = ap (λ (x : Layers). length x.verts.rows) same in
      let rows_edges = ap (λ (x : Layers). length x.edges.rows) same in
      let rows_loops = ap (λ (x : Layers). length x.loops.rows) same in
      let rows_faces = ap (λ (x : Layers). length x.faces.rows) same in
      let V = λ (x : Layers). IsTable x.verts in
      let E = λ (x : Layers). IsTable x.edges in
      let L = λ (x : Layers). IsTable x.loops in
      let F = λ (x : Layers). IsTable x.faces in
      record {
        verts = subst V (sym same) v.verts;
        edges = subst E (sym same) v.edges;
        loops = subst L (sym same) v.loops;
        faces = subst F (sym same) v.faces;
        rows = record {
          verts = (let was = v.rows.verts in omega arith);
          edges = (let was = v.rows.edges in omega arith);
          loops = (let was = v.rows.loops in omega arith);
          faces = (let was = v.rows.faces in omega arith);
          few = (let was = v.rows.few in omega arith);
        };
      }

  pub sizes_bare : (n : Counters) → AreSizes old n → AreSizes new n
  sizes_bare n z =
      let pools = bare_pools old new e in
      let verts = ap (λ (xs : List (Option Slot)). length xs) pools.vert_names in
      let edges = ap (λ (xs : List (Option Slot)). length xs) pools.edge_names in
      let faces = ap (λ (xs : List (Option Slot)). length xs) pools.face_names in
      let reach_verts = z.vert_reach in
      let reach_edges = z.edge_reach in
      let reach_faces = z.face_reach in
      record {
        vert_limit = z.vert_limit;
        edge_limit = z.edge_limit;
        face_limit = z.face_limit;
        corner_limit = z.corner_limit;
        vert_reach = omega arith;
        edge_reach = omega arith;
        face_reach = omega arith;
        verts = few_same n.verts (vert_size old new e) z.verts;
        edges = few_same n.edges (edge_size old new e) z.edges;
        faces = few_same n.faces (face_size old new e) z.faces;
        loops = few_same n.corners (loop_size old new e) z.loops;
      }

  pub keeps_bare : KeepsNames old new
  keeps_bare =
      let pools = bare_pools old new e in
      record {
        vert_names = λ j. ap (λ (xs : List (Option Slot)). at xs j) pools.vert_names;
        edge_names = λ j. ap (λ (xs : List (Option Slot)). at xs j) pools.edge_names;
        face_names = λ j. ap (λ (xs : List (Option Slot)). at xs j) pools.face_names;
        values = ap (λ (t : Stored). t.values) e;
      }

-- ---- the loops of one face

module _ (old new : Stored) (n : Counters) (w : IsWhole old n) (k : FaceName) (f : Slot)
    (named : at old.faces.names k.0 ≡ Some f) (touched ys : List Round) (a : EditsRound old new f.0 touched ys)
    (all : (r : Round) → HasMember (round_of old f.0) r → HasMember ys r)
    (many : length ys ≡ length (round_of old f.0)) where
  same : SameElements old new
  same = same_bare old new a.stays

  cycles_ordered : HaveCycles new
  cycles_ordered =
      let h = w.cycles in
      let k = same in
      record {
        cycles = a.cycles;
        complete = record {
          disks = whole_same old new (darts_same old new k) (ends_same old new k) a.disks h.complete.disks;
          radials = λ l e is.
              member_of _ (h.complete.radials l e (sym (edges_of_same old new k l) ∙ is)) (sym (a.radials e));
          rounds = λ l g is.
              let was = h.complete.rounds l g (sym (faces_of_same old new k l) ∙ is) in
              elim (cases_eq g f.0) [
                | inl q ↦
                    let P = λ (x : ℕ). HasMember (round_of new x) (record { 0 = l }) in
                    let Q = λ (x : ℕ). HasMember (round_of old x) (record { 0 = l }) in
                    subst P (sym q) (member_of _ (all _ (subst Q q was)) (sym a.own))
                | inr ne ↦ member_of _ was (sym (a.others g ne))
              ];
        };
        counted = λ g m is. elim (cases_eq g f.0) [
          | inl q ↦ (let P = λ (x : ℕ). len_of new x ≡ Some (length (round_of new x)) in
              same_Some _ _ (sym is ∙ subst P (sym q) a.len))
          | inr ne ↦ h.counted g m (sym (round_lens old new f.0 a.rest g ne) ∙ is)
              ∙ ap (λ (ls : List Round). length ls) (sym (a.others g ne))
        ];
      }

  low_name : k.0 < n.faces
  low_name = name_below old.faces.names n.faces k.0 f w.records.below.faces named

  besides : (j : ℕ) → j < n.faces → j ≢ k.0 → face_at new j ≡ face_at old j
  besides j lt ne =
      let r = w.records in
      face_same old new (same_extend same) r.linked w.cycles.cycles r.named.faces j (same.face_names j)
      (λ s e. a.others s.0 (names_apart r.named.faces j k.0 s f e named ne))

  -- so the corners of the face are changed, and as many
  pub reorders : (change : List CornerRec → List CornerRec) → ((cs : List CornerRec) → length (change cs) ≡ length cs)
      → map (corner_rec old) (map (λ (r : Round). r.0) ys) ≡ change (map (corner_rec old) (loops_in old f.0))
      → Rewrites old new n (λ (c : Complex). with_corners_by c k change)
  reorders change count is =
      let r = w.records in
      let h = w.cycles.cycles in
      let x = same_extend same in
      let turn = λ (q : FaceRec). let y : FaceRec = record q { corners = change q.corners } in y in
      let corners : map (corner_rec new) (loops_in new f.0) ≡ change (map (corner_rec old) (loops_in old f.0)) =
      ap (λ (ls : List Round). map (corner_rec new) (map (λ (y : Round). y.0) ls)) a.own
      ∙ map_members (corner_rec new) (corner_rec old) (map (λ (y : Round). y.0) ys) (λ l m.
      let t = mapped_from (λ (y : Round). y.0) ys l m in
      let P = λ (s : Slot). corner_rec new s ≡ corner_rec old s in
      subst P t.is (corner_same old new x r.linked t.of.0 (loop_is_at old t.of.0.0
      (holds_by (λ (c : LoopCell). c.face.0) (at old.loops t.of.0.0) f.0
      (sym (faces_of_same old new same t.of.0)
      ∙ a.cycles.round_faces f.0 t.of (member_of _ t.member (sym a.own)))))))
      ∙ is in
      let here : face_at new k.0 ≡ option_map turn (face_at old k.0) =
      ap (option_and_then (λ (s : Slot). option_map (face_rec new s.0) (face_in new s.0)))
      (same.face_names k.0 ∙ named)
      ∙ ap (option_map (face_rec new f.0)) (same.faces f.0)
      ∙ (λ j. option_map (λ (y : StoredFace). let q : FaceRec = record { corners = corners j; vals = y.vals } in q)
      (face_in old f.0))
      ∙ sym (told_twice (face_rec old f.0) turn (face_in old f.0))
      ∙ ap (option_map turn)
      (sym (ap (option_and_then (λ (s : Slot). option_map (face_rec old s.0) (face_in old s.0))) named)) in
      let verts = table_same None (vert_at old) (vert_at new) n.verts
      (λ j lt. vert_same old new x r.named.verts j (same.vert_names j)) in
      let edges = table_same None (edge_at old) (edge_at new) n.edges
      (λ j lt. edge_same old new x r.linked r.named.edges j (same.edge_names j)) in
      let faces = table_updated (face_at old) (face_at new) n.faces k.0 turn low_name here besides in
      let long = length_table (face_at old) n.faces in
      let sum = ap corner_sum faces ∙ sum_kept (table (face_at old) n.faces) k.0 turn (λ q. count q.corners)
      (let lt = low_name in omega arith) in
      let layers = same.layers in
      let now = records_stay old new same n r in
      let pools = bare_pools old new a.stays in
      let spare_verts = pools.verts.spare in
      let spare_edges = pools.edges.spare in
      let spare_loops = pools.loops.spare in
      let spare_faces = pools.faces.spare in
      let reach_verts = ap (λ (xs : List (Option Slot)). length xs) pools.vert_names in
      let reach_edges = ap (λ (xs : List (Option Slot)). length xs) pools.edge_names in
      let reach_faces = ap (λ (xs : List (Option Slot)). length xs) pools.face_names in
      record {
        whole = record {
          records = now;
          cycles = cycles_ordered;
          values = values_bare old new a.stays w.values;
          sizes = sizes_bare old new a.stays n w.sizes;
          some = λ g there none. elim (cases_eq g f.0) [
            | inl q ↦ by_own g q none
            | inr ne ↦ w.some g (sym (ap (λ (o : Option StoredFace). is_some o) (same.faces g)) ∙ there)
                (sym (a.others g ne) ∙ none)
          ];
          corners = w.corners ∙ sym sum;
        };
        read = λ lists. λ j. record {
          verts = verts j;
          edges = edges j;
          faces = faces j;
          layers = layers j;
          materials = lists.materials;
          libraries = lists.libraries;
        };
        disks = disks_stay old new same n h a.disks;
        room = record { verts = omega arith; edges = omega arith; corners = omega arith; faces = omega arith };
      }
    where
      no_length : {A : Type 0} (xs : List A) → length xs ≡ 0 → xs ≡ []
      no_length [] e = refl
      no_length (x ∷ xs) e = absurd (omega arith)

      -- the face has a loop still
      by_own : (g : ℕ) → g ≡ f.0 → round_of new g ≡ [] → ⊥
      by_own g q none =
          let live = face_is_at old f.0 (name_live w.records.named.faces k.0 f named) in
          let empty = ap (λ (j : ℕ). round_of new j) (sym q) ∙ none in
          let zero = ap (λ (ls : List Round). length ls) (sym a.own ∙ empty) in
          w.some f.0 live (no_length (round_of old f.0) (sym many ∙ zero))
