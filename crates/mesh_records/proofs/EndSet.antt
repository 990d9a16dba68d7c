-- What a mesh stands for where an end of an edge is moved.
use Rattle.std.proofs.Common.{◌≡◌, ◌≢◌, ◌<◌, ◌==◌, ◌&&◌, ℕ, suc, zero, Bool, true, false, not, is_some, List, [], ◌∷◌, ◌++◌, Option, Some, None, length, map, filter, cond, refl, sym, ap, ◌∙◌, subst, inl, inr, arith}
use Rattle.std.specs.Prelude.{slice_set, slice_index_or}
use Rattle.std.specs.Option.{option_map, option_map_or, option_and_then}
use Rattle.std.proofs.lemmas.Bool.{cases_eq, eq-eqb, eqb-true, false_from_ne_true}
use Rattle.std.proofs.lemmas.List.{get_or-set_same, get_or-set_other, map-append}
use Rattle.std.proofs.lemmas.Option.{same_Some}
use Rattle.cust_data.specs.Layers.{IsTable, row_of}
use Rattle.raw_pool.specs.declared.pool.Slot.{Slot}
use Rattle.raw_pool.specs.Slots.{spare_count}
use Rattle.link_ring.specs.Members.{HasMember}
use Rattle.mesh_store.specs.Limits.{is_dart}
use Rattle.mesh_store.specs.Naming.{NamedCells}
use Rattle.mesh_store.specs.Slots.{at}
use Rattle.mesh_store.specs.Stored.{Stored, no_slot}
use Rattle.mesh_store.specs.declared.cells.Dart.{Dart}
use Rattle.mesh_store.specs.declared.cells.Round.{Round}
use Rattle.mesh_store.specs.declared.cells.EdgeCell.{EdgeCell}
use Rattle.mesh_store.specs.declared.cells.FaceCell.{FaceCell}
use Rattle.mesh_store.specs.declared.cells.LoopCell.{LoopCell}
use Rattle.mesh_store.specs.declared.layers.Layers.{Layers}
use Rattle.mesh_cycles.specs.Owners.{end_on}
use Rattle.mesh_cycles.specs.Cycles.{disk_of}
use Rattle.mesh_cycles.specs.Found.{edges_around}
use Rattle.mesh_cycles.specs.Lists.{same_dart}
use Rattle.mesh_cycles.proofs.Cells.{changed_here, changed_elsewhere}
use Rattle.mesh_cycles.proofs.Elements.{told_set}
use Rattle.mesh_cycles.proofs.RingLists.{member_key}
use Rattle.mesh_model.specs.Complex.{KindLayers, corner_sum}
use Rattle.mesh_model.specs.Kernel.{with_side}
use Rattle.mesh_model.specs.declared.names.VertName.{VertName}
use Rattle.mesh_model.specs.declared.names.EdgeName.{EdgeName}
use Rattle.mesh_model.specs.declared.records.EdgeRec.{EdgeRec}
use Rattle.mesh_model.specs.declared.records.CornerRec.{CornerRec}
use Rattle.mesh_model.specs.declared.records.FaceRec.{FaceRec}
use Rattle.mesh_model.specs.declared.records.Counters.{Counters}
use Rattle.mesh_records.specs.AtSlots.{StoredVert, StoredEdge, StoredLoop, StoredFace, vert_in, edge_in, face_in, end_of, IsAt}
use Rattle.mesh_records.specs.Changes.{with_last}
use Rattle.mesh_records.specs.MovesEnd.{with_end_at, with_moved, end_name, MovesEnd, SetsEnd}
use Rattle.mesh_records.specs.Puts.{dart_on}
use Rattle.mesh_records.specs.ReadOff.{table, vert_name, edge_name, edge_rec, no_corner, vert_at, edge_at, face_at, vert_rec, names_around, disk_at, layers_in}
use Rattle.mesh_records.specs.Whole.{AreRecords, IsWhole}
use Rattle.mesh_records.proofs.Added.{few_same, size_along}
use Rattle.mesh_records.proofs.ByName.{vert_named, edge_named, vert_leads}
use Rattle.mesh_records.proofs.Drops.{edge_by_name}
use Rattle.mesh_records.proofs.Edges.{names_apart, name_below}
use Rattle.mesh_records.proofs.Elements.{vert_is_at, name_live}
use Rattle.mesh_records.proofs.Filters.{filter_mapped}
use Rattle.mesh_records.proofs.Frames.{named_stay, records_stay}
use Rattle.mesh_records.proofs.Options.{led, led_or}
use Rattle.mesh_records.proofs.Revalued.{told_or}
use Rattle.mesh_records.proofs.Tables.{at_table, table_same, table_updated, table_set_two}

module _ (old new : Stored) (n : Counters) (w : IsWhole old n) (k : EdgeName) (s : Slot) (a : ℕ) (from : Slot)
    (v : VertName) (to : Slot) (side : ℕ) (low : side < 2) (named : at old.edges.names k.0 ≡ Some s)
    (at_from : at old.verts.names a ≡ Some from) (at_to : at old.verts.names v.0 ≡ Some to) (apart : a ≢ v.0)
    (c : EdgeCell) (is : at old.edges.cells s.0 ≡ Some c) (long : length c.ends ≡ 2)
    (ends_at : end_on side c ≡ from.0) (t : MovesEnd old new s side from.0 to) where
  mid : Stored
  mid = with_end_at old s side to

  -- an edge with the end replaced
  replaced : EdgeCell → EdgeCell
  replaced x = record x { ends = slice_set x.ends side to }

  -- what is told of an edge of the store
  tell : ℕ → EdgeCell → StoredEdge
  tell j x = record { number = x.number; ends = x.ends; vals = row_of old.values.edges j }

  -- what is told besides the end stays
  told_mid : {Z : Type 0} (g : Option EdgeCell → Z) → ((x : EdgeCell) → g (Some (replaced x)) ≡ g (Some x)) → (j : ℕ)
      → g (at mid.edges.cells j) ≡ g (at old.edges.cells j)
  unfolding mid replaced
  told_mid g same j = told_set g old.edges.cells s.0 (option_map replaced (at old.edges.cells s.0))
      (by_cell (at old.edges.cells s.0)) j
    where
      by_cell : (o : Option EdgeCell) → g (option_map replaced o) ≡ g o
      by_cell None = refl
      by_cell (Some x) = same x

  -- the edge, and the others
  edge_moved : edge_in mid s.0 ≡ Some (tell s.0 (replaced c))
  unfolding mid replaced tell
  edge_moved = ap (option_map (tell s.0)) (changed_here replaced old.edges.cells s.0 ∙ ap (option_map replaced) is)

  edge_beside : (j : ℕ) → j ≢ s.0 → edge_in mid j ≡ edge_in old j
  unfolding mid replaced tell
  edge_beside j ne = ap (option_map (tell j)) (changed_elsewhere replaced old.edges.cells s.0 j ne)

  -- ---- names

  vert_same : (j : ℕ) → vert_name new j ≡ vert_name old j
  unfolding mid
  vert_same j = ap (λ (o : Option StoredVert). let x : VertName =
      record { 0 = option_map_or (λ (y : StoredVert). y.number) o 0 } in x) (t.elements.verts j)

  edge_same : (j : ℕ) → edge_name new j ≡ edge_name old j
  unfolding mid replaced tell
  edge_same j =
      let number = λ (y : StoredEdge). y.number in
      let own = λ (y : EdgeCell). y.number in
      let named_by = λ (i : ℕ). let x : EdgeName = record { 0 = i } in x in
      ap (λ (o : Option StoredEdge). named_by (option_map_or number o 0)) (t.elements.edges j)
      ∙ ap named_by (told_or (tell j) number 0 (at mid.edges.cells j)
      ∙ told_mid (λ (o : Option EdgeCell). option_map_or own o 0) (λ x. refl) j
      ∙ sym (told_or (tell j) number 0 (at old.edges.cells j)))

  -- ---- records

  vert_told : (j : ℕ) → vert_at new j ≡ vert_at old j
  unfolding mid
  vert_told j =
      let verts = t.elements.verts in
      let names = t.elements.vert_names j in
      λ i. option_and_then (λ (x : Slot). option_map vert_rec (verts x.0 i)) (names i)

  edge_renamed : (o : Option StoredEdge) → option_map (edge_rec new) o ≡ option_map (edge_rec old) o
  edge_renamed o =
      let name = vert_same in
      λ i. option_map (λ (e : StoredEdge). let r : EdgeRec =
      record { a = name (end_of 0 e) i; b = name (end_of 1 e) i; vals = e.vals } in r) o

  edge_names_same : (j : ℕ) → at new.edges.names j ≡ at old.edges.names j
  edge_names_same j = ap (λ (xs : List (Option Slot)). at xs j) t.edge_names

  edge_told : (j : ℕ) → j < n.edges → j ≢ k.0 → edge_at new j ≡ edge_at old j
  unfolding mid
  edge_told j lt ne =
      led (λ (x : Slot). option_map (edge_rec new) (edge_in new x.0))
      (λ (x : Slot). option_map (edge_rec old) (edge_in old x.0)) (at old.edges.names j) (at new.edges.names j)
      (edge_names_same j)
      (λ x e. edge_renamed (edge_in new x.0) ∙ ap (option_map (edge_rec old)) (t.elements.edges x.0
      ∙ edge_beside x.0 (names_apart w.records.named.edges j k.0 x s e named ne)))

  -- the record of the edge with its end replaced
  side_set : edge_rec old (tell s.0 (replaced c)) ≡ with_side side v (edge_rec old (tell s.0 c))
  unfolding replaced tell
  side_set = by_side side low
    where
      name : vert_name old to.0 ≡ v
      name = λ i. record { 0 = vert_named old n w.records v.0 to at_to i }

      by_side : (j : ℕ) → j < 2
          → edge_rec old (record {
            number = c.number;
            ends = slice_set c.ends j to;
            vals = row_of old.values.edges s.0;
          })
          ≡ with_side j v (edge_rec old (record {
            number = c.number;
            ends = c.ends;
            vals = row_of old.values.edges s.0;
          }))
      by_side zero lt =
          let here = ap (λ (x : Slot). vert_name old x.0) (get_or-set_same c.ends 0 to no_slot (omega arith)) ∙ name in
          let there = ap (λ (x : Slot). vert_name old x.0) (get_or-set_other c.ends 0 1 to no_slot (omega arith)) in
          λ i. record { a = here i; b = there i; vals = row_of old.values.edges s.0 }
      by_side (suc zero) lt =
          let here = ap (λ (x : Slot). vert_name old x.0) (get_or-set_same c.ends 1 to no_slot (omega arith)) ∙ name in
          let there = ap (λ (x : Slot). vert_name old x.0) (get_or-set_other c.ends 1 0 to no_slot (omega arith)) in
          λ i. record { a = there i; b = here i; vals = row_of old.values.edges s.0 }
      by_side (suc (suc j)) lt = absurd (omega arith)

  edge_here : edge_at new k.0 ≡ option_map (with_side side v) (edge_at old k.0)
  unfolding mid tell
  edge_here =
      let record_of = ap (λ (o : Option EdgeCell). option_map (edge_rec old) (option_map (tell s.0) o)) is in
      ap (option_and_then (λ (x : Slot). option_map (edge_rec new) (edge_in new x.0))) (edge_names_same k.0 ∙ named)
      ∙ edge_renamed (edge_in new s.0)
      ∙ ap (option_map (edge_rec old)) (t.elements.edges s.0 ∙ edge_moved)
      ∙ ap (λ (r : EdgeRec). Some r) side_set
      ∙ sym (ap (option_map (with_side side v)) record_of)
      ∙ sym (ap (λ (o : Option Slot). option_map (with_side side v)
      (option_and_then (λ (x : Slot). option_map (edge_rec old) (edge_in old x.0)) o)) named)

  face_told : (j : ℕ) → face_at new j ≡ face_at old j
  unfolding mid
  face_told j =
      let vert = vert_same in
      let edge = edge_same in
      let loops = t.elements.loops in
      let faces = t.elements.faces in
      let rounds = t.rounds in
      let names = t.elements.face_names j in
      λ i. option_and_then (λ (x : Slot). option_map (λ (f : StoredFace). let r : FaceRec = record {
        corners = map (λ (l : Slot). option_map_or (λ (y : StoredLoop). let q : CornerRec =
            record { vert = vert y.vert.0 i; edge = edge y.edge.0 i; vals = y.vals } in q) (loops l.0 i) no_corner)
            (map (λ (y : Round). y.0) (rounds x.0 i));
        vals = f.vals;
      } in r) (faces x.0 i)) (names i)

  -- ---- disk lists

  -- the names of some darts' edges
  names_of : List Dart → List EdgeName
  names_of ds = map (λ (e : Slot). edge_name old e.0) (map (λ (d : Dart). d.edge) ds)

  around_new : (x : Slot) → names_around new x ≡ names_of (disk_of new x.0)
  unfolding names_of
  around_new x =
      let edge = edge_same in
      λ i. map (λ (e : Slot). edge e.0 i) (map (λ (d : Dart). d.edge) (disk_of new x.0))

  disk_by : (j : ℕ) (x : Slot) → at old.verts.names j ≡ Some x → disk_at new j ≡ names_of (disk_of new x.0)
  disk_by j x e =
      ap (λ (o : Option Slot). option_map_or (names_around new) o [])
      (ap (λ (xs : List (Option Slot)). at xs j) t.vert_names ∙ e)
      ∙ around_new x

  disk_told : (j : ℕ) → j < n.verts → j ≢ a → j ≢ v.0 → disk_at new j ≡ disk_at old j
  unfolding names_of
  disk_told j lt na nv =
      led_or (names_around new) (names_around old) [] (at old.verts.names j) (at new.verts.names j)
      (ap (λ (xs : List (Option Slot)). at xs j) t.vert_names)
      (λ x e. around_new x ∙ ap names_of (t.others x.0 (names_apart w.records.named.verts j a x from e at_from na)
      (names_apart w.records.named.verts j v.0 x to e at_to nv)))

  -- a dart of the edge around the vertex where it ended is the one that is gone
  one_dart : (d : Dart) → HasMember (disk_of old from.0) d → same_dart d (dart_on s side) ≡ (d.edge.0 == s.0)
  one_dart d m = elim (cases_eq d.edge.0 s.0) [
    | inl q ↦
        let lt = (is_dart old d (member_key d (w.cycles.cycles.disks from.0) m)).1 in
        let P = λ (j : ℕ). option_map (end_on d.side) (at old.edges.cells j) ≡ Some from.0 in
        let here : Some (end_on d.side c) ≡ Some from.0 =
        sym (ap (option_map (end_on d.side)) is) ∙ subst P q (w.cycles.cycles.disk_ends from.0 d m) in
        let sides = side_of d.side lt (same_Some _ _ here ∙ sym ends_at) in
        (λ i. (d.edge.0 == s.0) && (sides i == side))
        ∙ ap (λ (b : Bool). (d.edge.0 == s.0) && b) (eq-eqb side side refl)
        ∙ and_true (d.edge.0 == s.0)
    | inr ne ↦
        let no = false_from_ne_true (d.edge.0 == s.0) (λ e. ne (eqb-true d.edge.0 s.0 e)) in
        ap (λ (b : Bool). b && (d.side == side)) no ∙ sym no
  ]
    where
      and_true : (b : Bool) → (b && true) ≡ b
      and_true true = refl
      and_true false = refl

      -- the ends differ, so an end at one vertex has one side
      side_of : (j : ℕ) → j < 2 → end_on j c ≡ end_on side c → j ≡ side
      side_of j lt e = by_sides j side lt low e
        where
          by_sides : (x y : ℕ) → x < 2 → y < 2 → end_on x c ≡ end_on y c → x ≡ y
          by_sides zero zero p q r = refl
          by_sides (suc zero) (suc zero) p q r = refl
          by_sides zero (suc zero) p q r = absurd (w.cycles.cycles.differ s.0 c is r)
          by_sides (suc zero) zero p q r = absurd (w.cycles.cycles.differ s.0 c is (sym r))
          by_sides (suc (suc x)) y p q r = absurd (omega arith)
          by_sides x (suc (suc y)) p q r = absurd (omega arith)

  disk_left : disk_at new a ≡ filter (λ (x : EdgeName). not (x.0 == k.0)) (disk_at old a)
  unfolding names_of
  disk_left =
      let name = λ (e : Slot). edge_name old e.0 in
      let edge = λ (d : Dart). d.edge in
      let other = λ (e : Slot). not (e.0 == s.0) in
      let keeps = λ (x : EdgeName). not (x.0 == k.0) in
      disk_by a from at_from
      ∙ ap names_of t.left
      ∙ ap (map name) (sym (filter_mapped edge (λ (d : Dart). not (same_dart d (dart_on s side))) other
      (disk_of old from.0) (λ d m. ap not (sym (one_dart d m)))))
      ∙ sym (filter_mapped name other keeps (edges_around old from.0)
      (λ x m. edge_by_name old n k s w named from.0 x m))
      ∙ sym (ap (λ (o : Option Slot). filter keeps (option_map_or (names_around old) o [])) at_from)

  disk_own : disk_at new v.0 ≡ disk_at old v.0 ++ k ∷ []
  unfolding names_of
  disk_own =
      let name = λ (e : Slot). edge_name old e.0 in
      let edge = λ (d : Dart). d.edge in
      let last : edge_name old s.0 ≡ k = λ i. record { 0 = edge_named old n w.records k.0 s named i } in
      disk_by v.0 to at_to ∙ ap names_of t.own
      ∙ ap (map name) (map-append edge (disk_of old to.0) (dart_on s side ∷ []))
      ∙ map-append name (map edge (disk_of old to.0)) (s ∷ [])
      ∙ ap (λ (x : EdgeName). names_around old to ++ x ∷ []) last
      ∙ sym (ap (λ (o : Option Slot). option_map_or (names_around old) o [] ++ k ∷ []) at_to)

  disks_moved : table (disk_at new) n.verts ≡ with_moved (table (disk_at old) n.verts) k a v.0
  disks_moved =
      let lists = table (disk_at old) n.verts in
      let low_a = name_below old.verts.names n.verts a from w.records.below.verts at_from in
      let low_v = name_below old.verts.names n.verts v.0 to w.records.below.verts at_to in
      let keeps = λ (x : EdgeName). not (x.0 == k.0) in
      let left = filter keeps (slice_index_or lists a []) in
      let no : a == v.0 ≡ false = false_from_ne_true (a == v.0) (λ e. apart (eqb-true a v.0 e)) in
      let own = slice_index_or (slice_set lists a left) v.0 [] ++ k ∷ [] in
      let at_v = get_or-set_other lists a v.0 left [] (λ e. apart (sym e)) ∙ at_table [] (disk_at old) n.verts v.0 low_v
      in
      table_set_two [] (disk_at old) (disk_at new) n.verts a v.0 left own low_a low_v apart
      (disk_left ∙ ap (filter keeps) (sym (at_table [] (disk_at old) n.verts a low_a)))
      (disk_own ∙ ap (λ (xs : List EdgeName). xs ++ k ∷ []) (sym at_v)) disk_told
      ∙ sym (ap (λ (b : Bool). cond b lists (slice_set (slice_set lists a left) v.0 own)) no)

  -- ---- the rule

  records_mid : AreRecords mid n
  unfolding mid replaced tell
  records_mid =
      let r = w.records in
      let h = r.linked in
      let V = λ (x : ℕ). IsAt (vert_in old) x in
      let was = ap (option_map (tell s.0)) is in
      let first = h.a s.0 (tell s.0 c) was in
      let second = h.b s.0 (tell s.0 c) was in
      record {
        linked = record {
          a = λ j x e. elim (cases_eq j s.0) [
            | inl q ↦ (let P = λ (i : ℕ). edge_in mid i ≡ Some x in
                subst V (ap (end_of 0) (same_Some _ _ (sym edge_moved ∙ subst P q e))) (end_at 0 first))
            | inr ne ↦ h.a j x (sym (edge_beside j ne) ∙ e)
          ];
          b = λ j x e. elim (cases_eq j s.0) [
            | inl q ↦ (let P = λ (i : ℕ). edge_in mid i ≡ Some x in
                subst V (ap (end_of 1) (same_Some _ _ (sym edge_moved ∙ subst P q e))) (end_at 1 second))
            | inr ne ↦ h.b j x (sym (edge_beside j ne) ∙ e)
          ];
          vert = h.vert;
          edge = λ j x e. told_mid (λ (o : Option EdgeCell). is_some (option_map (tell x.edge.0) o)) (λ y. refl)
              x.edge.0
              ∙ h.edge j x e;
          face = h.face;
        };
        named = record {
          verts = r.named.verts;
          edges = named_stay (λ (y : EdgeCell). y.number) old.edges.cells mid.edges.cells old.edges.names
              old.edges.names (told_mid (option_map (λ (y : EdgeCell). y.number)) (λ y. refl)) (λ j. refl)
              r.named.edges;
          faces = r.named.faces;
        };
        below = record { verts = r.below.verts; edges = r.below.edges; faces = r.below.faces };
      }
    where
      live_to : IsAt (vert_in old) to.0
      live_to = vert_is_at old to.0 (name_live w.records.named.verts v.0 to at_to)

      -- an end after is the vertex, or an end as before
      end_at : (j : ℕ) → IsAt (vert_in old) (end_on j c)
          → IsAt (vert_in old) (slice_index_or (slice_set c.ends side to) j no_slot).0
      end_at j is_old = elim (cases_eq j side) [
        | inl q ↦
            let P = λ (x : ℕ). IsAt (vert_in old) (slice_index_or (slice_set c.ends side to) x no_slot).0 in
            let Q = λ (x : Slot). IsAt (vert_in old) x.0 in
            subst P (sym q) (subst Q (sym (get_or-set_same c.ends side to no_slot (omega arith))) live_to)
        | inr ne ↦
            let Q = λ (x : Slot). IsAt (vert_in old) x.0 in
            subst Q (sym (get_or-set_other c.ends side j to no_slot ne)) is_old
      ]

  faces_still : (f : ℕ) → face_in new f ≡ face_in old f
  unfolding mid
  faces_still f = t.elements.faces f

  pub sets_end : SetsEnd old new n k side a v
  unfolding mid
  sets_end =
      let r = w.records in
      let z = w.sizes in
      let values = t.values in
      let verts = table_same None (vert_at old) (vert_at new) n.verts (λ j lt. vert_told j) in
      let edges = table_updated (edge_at old) (edge_at new) n.edges k.0 (with_side side v)
      (name_below old.edges.names n.edges k.0 s r.below.edges named) edge_here edge_told in
      let faces = table_same None (face_at old) (face_at new) n.faces (λ j lt. face_told j) in
      let layers : layers_in new ≡ layers_in old = ap (λ (y : Layers). let q : KindLayers = record {
        verts = y.verts.layers;
        edges = y.edges.layers;
        corners = y.loops.layers;
        faces = y.faces.layers;
      } in q) values in
      let long_verts = t.verts.long in
      let long_edges = t.edges.long in
      let long_loops = ap (λ (xs : List (Option LoopCell)). length xs) t.loops in
      let long_faces = ap (λ (p : NamedCells FaceCell). length p.cells) t.faces in
      let spare_verts = t.verts.spare in
      let spare_edges = t.edges.spare in
      let spare_loops = ap (λ (xs : List (Option LoopCell)). spare_count xs) t.loops in
      let spare_faces = ap (λ (p : NamedCells FaceCell). spare_count p.cells) t.faces in
      let rows_verts = ap (λ (x : Layers). length x.verts.rows) values in
      let rows_edges = ap (λ (x : Layers). length x.edges.rows) values in
      let rows_loops = ap (λ (x : Layers). length x.loops.rows) values in
      let rows_faces = ap (λ (x : Layers). length x.faces.rows) values in
      let names_verts = ap (λ (xs : List (Option Slot)). length xs) t.vert_names in
      let names_edges = ap (λ (xs : List (Option Slot)). length xs) t.edge_names in
      let names_faces = ap (λ (p : NamedCells FaceCell). length p.names) t.faces in
      let reach_verts = z.vert_reach in
      let reach_edges = z.edge_reach in
      let reach_faces = z.face_reach in
      let V = λ (x : Layers). IsTable x.verts in
      let E = λ (x : Layers). IsTable x.edges in
      let L = λ (x : Layers). IsTable x.loops in
      let F = λ (x : Layers). IsTable x.faces in
      record {
        whole = record {
          records = records_stay mid new t.elements n records_mid;
          cycles = t.cycles;
          values = record {
            verts = subst V (sym values) w.values.verts;
            edges = subst E (sym values) w.values.edges;
            loops = subst L (sym values) w.values.loops;
            faces = subst F (sym values) w.values.faces;
            rows = record {
              verts = (let was = w.values.rows.verts in omega arith);
              edges = (let was = w.values.rows.edges in omega arith);
              loops = (let was = w.values.rows.loops in omega arith);
              faces = (let was = w.values.rows.faces in omega arith);
              few = (let was = w.values.rows.few in omega arith);
            };
          };
          sizes = record {
            vert_limit = z.vert_limit;
            edge_limit = z.edge_limit;
            face_limit = z.face_limit;
            corner_limit = z.corner_limit;
            vert_reach = omega arith;
            edge_reach = omega arith;
            face_reach = omega arith;
            verts = few_same n.verts t.verts z.verts;
            edges = few_same n.edges t.edges z.edges;
            faces = few_same n.faces (size_along (ap (λ (p : NamedCells FaceCell). p.cells) t.faces)) z.faces;
            loops = few_same n.corners (size_along t.loops) z.loops;
          };
          some = λ f there none. w.some f (sym (ap (λ (o : Option StoredFace). is_some o) (faces_still f)) ∙ there)
              (sym (t.rounds f) ∙ none);
          corners = w.corners ∙ ap corner_sum (sym faces);
        };
        read = λ lists. λ i. record {
          verts = verts i;
          edges = edges i;
          faces = faces i;
          layers = layers i;
          materials = lists.materials;
          libraries = lists.libraries;
        };
        disks = disks_moved;
        room = record { verts = omega arith; edges = omega arith; corners = omega arith; faces = omega arith };
      }

-- ---- the ends by name

module _ (st : Stored) (n : Counters) (w : IsWhole st n) (k : EdgeName) (s : Slot)
    (named : at st.edges.names k.0 ≡ Some s) (c : EdgeCell) (is : at st.edges.cells s.0 ≡ Some c) where
  -- what is told of the edge
  abbrev told_edge : StoredEdge
  told_edge = record { number = c.number; ends = c.ends; vals = row_of st.values.edges s.0 }

  record_told : edge_at st k.0 ≡ Some (edge_rec st told_edge)
  record_told =
      let tell = λ (x : EdgeCell). let y : StoredEdge =
      record { number = x.number; ends = x.ends; vals = row_of st.values.edges s.0 } in y in
      ap (option_and_then (λ (x : Slot). option_map (edge_rec st) (edge_in st x.0))) named
      ∙ ap (λ (o : Option EdgeCell). option_map (edge_rec st) (option_map tell o)) is

  -- the name of an end
  pub end_named : (side : ℕ) → side < 2 → end_name side (edge_at st k.0) ≡ (vert_name st (end_on side c)).0
  end_named zero h = ap (end_name 0) record_told
  end_named (suc zero) h = ap (end_name 1) record_told
  end_named (suc (suc side)) h = absurd (omega arith)

  -- an end is a live vertex, to which its name leads
  pub end_leads : (side : ℕ) → side < 2 → (x : Slot) → end_on side c ≡ x.0
      → at st.verts.names (end_name side (edge_at st k.0)) ≡ Some x
  end_leads side h x e =
      let tell = λ (y : EdgeCell). let z : StoredEdge =
      record { number = y.number; ends = y.ends; vals = row_of st.values.edges s.0 } in z in
      let linked = w.records.linked in
      let told = ap (option_map tell) is in
      let live = by_side side h (linked.a s.0 told_edge told) (linked.b s.0 told_edge told) in
      let V = λ (j : ℕ). IsAt (vert_in st) j in
      ap (λ (j : ℕ). at st.verts.names j) (end_named side h ∙ ap (λ (j : ℕ). (vert_name st j).0) e)
      ∙ vert_leads st n w.records x (subst V e live)
    where
      by_side : (j : ℕ) → j < 2 → IsAt (vert_in st) (end_on 0 c) → IsAt (vert_in st) (end_on 1 c)
          → IsAt (vert_in st) (end_on j c)
      by_side zero lt p q = p
      by_side (suc zero) lt p q = q
      by_side (suc (suc j)) lt p q = absurd (omega arith)

  -- an end that is there already
  pub sets_none : (side : ℕ) → side < 2 → (v : VertName) → end_name side (edge_at st k.0) ≡ v.0
      → SetsEnd st st n k side (end_name side (edge_at st k.0)) v
  sets_none side h v e =
      let low = name_below st.edges.names n.edges k.0 s w.records.below.edges named in
      let a = end_name side (edge_at st k.0) in
      let same = by_side side h (ap (λ (j : ℕ). let x : VertName = record { 0 = j } in x) (sym (end_named side h) ∙ e))
      in
      let edges = table_updated (edge_at st) (edge_at st) n.edges k.0 (with_side side v) low
      (record_told ∙ ap (λ (r : EdgeRec). Some r) (sym same) ∙ sym (ap (option_map (with_side side v)) record_told))
      (λ j lt ne. refl) in
      let lists = table (disk_at st) n.verts in
      record {
        whole = w;
        read = λ names. λ i. record {
          verts = table (vert_at st) n.verts;
          edges = edges i;
          faces = table (face_at st) n.faces;
          layers = layers_in st;
          materials = names.materials;
          libraries = names.libraries;
        };
        disks = sym (ap (λ (b : Bool). cond b lists (with_last (slice_set lists a (filter
            (λ (x : EdgeName). not (x.0 == k.0)) (slice_index_or lists a []))) v.0 k)) (eq-eqb a v.0 e));
        room = record { verts = omega arith; edges = omega arith; corners = omega arith; faces = omega arith };
      }
    where
      by_side : (j : ℕ) → j < 2 → vert_name st (end_on j c) ≡ v
          → with_side j v (edge_rec st told_edge) ≡ edge_rec st told_edge
      by_side zero lt q = λ i. record {
        a = sym q i;
        b = vert_name st (end_on 1 c);
        vals = row_of st.values.edges s.0;
      }
      by_side (suc zero) lt q = λ i. record {
        a = vert_name st (end_on 0 c);
        b = sym q i;
        vals = row_of st.values.edges s.0;
      }
      by_side (suc (suc j)) lt q = absurd (omega arith)
