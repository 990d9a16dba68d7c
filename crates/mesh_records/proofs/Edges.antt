-- An edge is added.
use Rattle.std.proofs.Common.{◌≡◌, ◌≢◌, ◌+◌, ◌<◌, ◌++◌, ◌≤◌, ℕ, ℤ, true, is_some, List, [], ◌∷◌, Option, Some, None, length, sym, ap, ◌∙◌, subst, inl, inr, arith}
use Rattle.std.specs.Option.{option_map, option_map_or, option_and_then}
use Rattle.std.proofs.lemmas.Bool.{cases_eq, cases_lt}
use Rattle.std.proofs.lemmas.List.{length-set}
use Rattle.std.proofs.lemmas.Option.{same_Some}
use Rattle.cust_data.specs.Layers.{IsTable}
use Rattle.raw_pool.specs.declared.pool.Slot.{Slot}
use Rattle.raw_pool.specs.Slots.{IsLive, spare_count}
use Rattle.link_ring.proofs.Members.{member_of}
use Rattle.mesh_store.specs.Slots.{at}
use Rattle.mesh_store.specs.Naming.{NamedCells, AreNamed}
use Rattle.mesh_store.specs.Stored.{Stored, new_edge}
use Rattle.mesh_store.specs.declared.cells.EdgeCell.{EdgeCell}
use Rattle.mesh_store.specs.declared.cells.LoopCell.{LoopCell}
use Rattle.mesh_store.specs.declared.cells.FaceCell.{FaceCell}
use Rattle.mesh_store.specs.declared.layers.Layers.{Layers}
use Rattle.mesh_store.proofs.Places.{written, unwritten, below}
use Rattle.mesh_store.proofs.Directory.{added_directory}
use Rattle.mesh_cycles.specs.Cycles.{disk_of}
use Rattle.mesh_cycles.proofs.Cells.{live_cell}
use Rattle.mesh_cycles.proofs.Completeness.{counted_same}
use Rattle.mesh_model.specs.Complex.{corner_sum}
use Rattle.mesh_model.specs.Making.{with_edge}
use Rattle.mesh_model.specs.declared.limits.TheConstants.{MAX_EDGES}
use Rattle.mesh_model.specs.declared.names.EdgeName.{EdgeName}
use Rattle.mesh_model.specs.declared.records.EdgeRec.{EdgeRec}
use Rattle.mesh_model.specs.declared.records.Counters.{Counters}
use Rattle.mesh_records.specs.ReadOff.{NameLists}
use Rattle.mesh_records.specs.AtSlots.{StoredVert, StoredEdge, StoredFace, vert_in, edge_in, end_of}
use Rattle.mesh_records.specs.ReadOff.{table, vert_at, edge_at, face_at, vert_name, edge_name, edge_rec, names_around, disk_at, read_off, layers_in}
use Rattle.mesh_records.specs.Room.{room_in, UsesAtMost, of_edges}
use Rattle.mesh_records.specs.Changes.{with_last}
use Rattle.mesh_records.specs.Frames.{Extends}
use Rattle.mesh_records.specs.Puts.{dart_on, row_like, with_edge_at, PutsEdge}
use Rattle.mesh_records.specs.Whole.{AreRecords, AreLinked, HaveValues, IsWhole}
use Rattle.mesh_records.proofs.Options.{still_at}
use Rattle.mesh_records.proofs.Elements.{name_live, vert_is_at, vert_number}
use Rattle.mesh_records.proofs.Tables.{table_same, table_more, with_two}
use Rattle.mesh_records.proofs.ByName.{told_number}
use Rattle.mesh_records.proofs.Values.{table_written, like_long}
use Rattle.mesh_records.proofs.Added.{told_before, told_beside, told_here, few_more, few_same, size_along}
use Rattle.mesh_records.proofs.Reading.{vert_same, edge_same, face_same, disk_same, around_more}
use Rattle.mesh_records.proofs.Frames.{records_stay, edges_of_same, faces_of_same}

-- one name more
abbrev pub edge_more : Counters → Counters
edge_more n = record n { edges = n.edges + 1 }

-- the record of an edge from one name to another, with an example's row
abbrev pub edge_put : Stored → ℕ → ℕ → Option Slot → EdgeRec
edge_put st a b like = record { a = record { 0 = a }; b = record { 0 = b }; vals = row_like st.values.edges like }

-- two names lead to two slots
pub names_apart : {X : Type 0} {number : X → ℕ} {cells : List (Option X)} {names : List (Option Slot)}
    → AreNamed number cells names → (j k : ℕ) (s t : Slot) → at names j ≡ Some s → at names k ≡ Some t → j ≢ k
    → s.0 ≢ t.0
names_apart {X} {number} {cells} n j k s t p q differ e =
    differ (same_Some _ _ (sym (n.live j s p) ∙ ap (λ (i : ℕ). option_map number (at cells i)) e ∙ n.live k t q))

-- a name that leads somewhere is below the next one
pub name_below : (names : List (Option Slot)) (n k : ℕ) (t : Slot) → ((j : ℕ) → n ≤ j → at names j ≡ None)
    → at names k ≡ Some t → k < n
name_below names n k t none e = elim (cases_lt k n) [
  | inl lt ↦ lt
  | inr ge ↦ (let q : None ≡ Some t = sym (none k ge) ∙ e in cc)
]

-- the rule holds, and the edge has the next name and is last around both ends
pub record AddsAnEdge (old new : Stored) (n : Counters) (a b : ℕ) (like : Option Slot) : Type 0 where
  pub whole : IsWhole new (edge_more n)
  pub read : (lists : NameLists) → read_off new (edge_more n) lists
      ≡ with_edge (read_off old n lists) (edge_put old a b like)
  pub disks : table (disk_at new) n.verts
      ≡ with_last (with_last (table (disk_at old) n.verts) a (record { 0 = n.edges })) b (record { 0 = n.edges })
  pub room : UsesAtMost (of_edges 1) (room_in old n) (room_in new (edge_more n))

-- what is told of an edge
tell : EdgeCell → List ℤ → StoredEdge
tell c r = record { number = c.number; ends = c.ends; vals = r }

module _ (old new : Stored) (n : Counters) (a b : ℕ) (from to s : Slot) (like : Option Slot) (w : IsWhole old n)
    (low : n.edges < MAX_EDGES) (reach : n.edges < length old.edges.names)
    (at_from : at old.verts.names a ≡ Some from) (at_to : at old.verts.names b ≡ Some to) (differ : a ≢ b)
    (p : PutsEdge old new n.edges from to like s) where
  -- the store with the edge alone
  grows : Extends old (with_edge_at old n.edges from to s like)
  unfolding tell
  grows = record {
    verts = λ k x e. e;
    edges = told_before tell old.edges.cells old.values.edges s.0 (new_edge n.edges (from ∷ to ∷ []) s)
        (row_like old.values.edges like) p.vacant;
    loops = λ k x e. e;
    faces = λ k x e. e;
  }

  extends : Extends old new
  extends = record {
    verts = λ k x e. p.elements.verts k ∙ e;
    edges = λ k x e. p.elements.edges k ∙ grows.edges k x e;
    loops = λ k x e. p.elements.loops k ∙ e;
    faces = λ k x e. p.elements.faces k ∙ e;
  }

  has_row : s.0 < length old.values.edges.rows
  has_row = let rows = w.values.rows.edges in let there = p.low in omega arith

  -- the new edge
  here : edge_in (with_edge_at old n.edges from to s like) s.0
      ≡ Some (record { number = n.edges; ends = from ∷ to ∷ []; vals = row_like old.values.edges like })
  unfolding tell
  here = told_here tell old.edges.cells old.values.edges s.0 (new_edge n.edges (from ∷ to ∷ []) s)
      (row_like old.values.edges like) p.low has_row

  -- another edge was there before
  beside : (t : ℕ) → t ≢ s.0 → edge_in (with_edge_at old n.edges from to s like) t ≡ edge_in old t
  unfolding tell
  beside t ne = told_beside tell old.edges.cells old.values.edges s.0 (new_edge n.edges (from ∷ to ∷ []) s)
      (row_like old.values.edges like) t ne

  from_at : is_some (vert_in old from.0) ≡ true
  from_at = vert_is_at old from.0 (name_live w.records.named.verts a from at_from)

  to_at : is_some (vert_in old to.0) ≡ true
  to_at = vert_is_at old to.0 (name_live w.records.named.verts b to at_to)

  linked_made : AreLinked (with_edge_at old n.edges from to s like)
  linked_made =
      let l = w.records.linked in
      let V = λ (v : ℕ). is_some (vert_in old v) ≡ true in
      record {
        a = λ t e is. elim (cases_eq t s.0) [
          | inl q ↦ subst V (ap (end_of 0) (same_Some _ e (sym here
              ∙ ap (edge_in (with_edge_at old n.edges from to s like)) (sym q) ∙ is))) from_at
          | inr ne ↦ l.a t e (sym (beside t ne) ∙ is)
        ];
        b = λ t e is. elim (cases_eq t s.0) [
          | inl q ↦ subst V (ap (end_of 1) (same_Some _ e (sym here
              ∙ ap (edge_in (with_edge_at old n.edges from to s like)) (sym q) ∙ is))) to_at
          | inr ne ↦ l.b t e (sym (beside t ne) ∙ is)
        ];
        vert = l.vert;
        edge = λ t e is. still_at e.edge.0 grows.edges (l.edge t e is);
        face = l.face;
      }

  records_made : AreRecords (with_edge_at old n.edges from to s like) (edge_more n)
  records_made =
      let r = w.records in
      record {
        linked = linked_made;
        named = record {
          verts = r.named.verts;
          edges = added_directory (λ (c : EdgeCell). c.number) old.edges.cells old.edges.names r.named.edges s
              (new_edge n.edges (from ∷ to ∷ []) s) p.vacant p.low (r.below.edges n.edges (omega arith)) reach;
          faces = r.named.faces;
        };
        below = record {
          verts = r.below.verts;
          edges = λ k le. unwritten old.edges.names n.edges k (Some s) (omega arith) ∙ r.below.edges k (omega arith);
          faces = r.below.faces;
        };
      }

  -- ---- what is read

  edge_name_stays : (k : ℕ) → k < n.edges → at new.edges.names k ≡ at old.edges.names k
  edge_name_stays k lt = p.elements.edge_names k ∙ unwritten old.edges.names n.edges k (Some s) (omega arith)

  new_name : at new.edges.names n.edges ≡ Some s
  new_name = p.elements.edge_names n.edges ∙ written old.edges.names n.edges (Some s) reach

  vert_named : (k : ℕ) (t : Slot) → at old.verts.names k ≡ Some t → vert_name new t.0 ≡ record { 0 = k }
  vert_named k t e =
      let number = told_number (λ (v : StoredVert). v.number) (vert_in new t.0) k
      (ap (option_map (λ (v : StoredVert). v.number)) (p.elements.verts t.0) ∙ vert_number old t.0
      ∙ w.records.named.verts.live k t e) in
      λ i. record { 0 = number i }

  new_edge_name : edge_name new s.0 ≡ record { 0 = n.edges }
  new_edge_name = ap (λ (o : Option StoredEdge). record { 0 = option_map_or (λ (e : StoredEdge). e.number) o 0 })
      (p.elements.edges s.0 ∙ here)

  edge_there : edge_at new n.edges ≡ Some (edge_put old a b like)
  edge_there =
      let va = vert_named a from at_from in
      let vb = vert_named b to at_to in
      let told : StoredEdge = record { number = n.edges; ends = from ∷ to ∷ []; vals = row_like old.values.edges like }
      in
      let rec : edge_rec new told ≡ edge_put old a b like =
      λ i. record { a = va i; b = vb i; vals = row_like old.values.edges like } in
      ap (option_and_then (λ (t : Slot). option_map (edge_rec new) (edge_in new t.0))) new_name
      ∙ ap (option_map (edge_rec new)) (p.elements.edges s.0 ∙ here)
      ∙ ap (λ (r : EdgeRec). Some r) rec

  -- the list of an end has the new edge last
  around_end : (k : ℕ) (t : Slot) (side : ℕ) → at old.verts.names k ≡ Some t
      → disk_of new t.0 ≡ disk_of old t.0 ++ dart_on s side ∷ []
      → disk_at new k ≡ disk_at old k ++ record { 0 = n.edges } ∷ []
  around_end k t side e more =
      ap (λ (o : Option Slot). option_map_or (names_around new) o []) (p.elements.vert_names k ∙ e)
      ∙ around_more old new extends w.cycles.cycles t (dart_on s side) more
      ∙ ap (λ (x : EdgeName). names_around old t ++ x ∷ []) new_edge_name
      ∙ ap (λ (o : Option Slot). option_map_or (names_around old) o [] ++ record { 0 = n.edges } ∷ []) (sym e)

  -- ---- the rule

  values_put : IsTable (with_edge_at old n.edges from to s like).values.edges → HaveValues new
  values_put table =
      let v = w.values in
      let rows = length-set old.values.edges.rows s.0 (row_like old.values.edges like) in
      record {
        verts = (let P = λ (x : Layers). IsTable x.verts in subst P (sym p.values) v.verts);
        edges = (let P = λ (x : Layers). IsTable x.edges in subst P (sym p.values) table);
        loops = (let P = λ (x : Layers). IsTable x.loops in subst P (sym p.values) v.loops);
        faces = (let P = λ (x : Layers). IsTable x.faces in subst P (sym p.values) v.faces);
        rows = record {
          verts = (let long = ap (λ (x : Layers). length x.verts.rows) p.values in let size = p.verts.long in let was =
              v.rows.verts in omega arith);
          edges = (let long = ap (λ (x : Layers). length x.edges.rows) p.values in let size = p.long in let was =
              v.rows.edges in omega arith);
          loops = (let long = ap (λ (x : Layers). length x.loops.rows) p.values in let size =
              ap (λ (xs : List (Option LoopCell)). length xs) p.loops in let was = v.rows.loops in omega arith);
          faces = (let long = ap (λ (x : Layers). length x.faces.rows) p.values in let size =
              ap (λ (x : NamedCells FaceCell). length x.cells) p.faces in let was = v.rows.faces in omega arith);
          few = (let size = ap (λ (xs : List (Option LoopCell)). length xs) p.loops in let was =
              v.rows.few in omega arith);
        };
      }

  pub adds_an_edge : ((t : Slot) → like ≡ Some t → IsLive old.edges.cells t.0) → AddsAnEdge old new n a b like
  adds_an_edge like_live =
      let h = w.cycles.cycles in
      let r = w.records in
      let z = w.sizes in
      let x = extends in
      let same = p.elements in
      let wide = like_long old.values.edges like w.values.edges
      (λ t e. let c = live_cell old.edges.cells t.0 (like_live t e) in let k =
      below old.edges.cells t.0 c.0 c.1 in let rows = w.values.rows.edges in omega arith) in
      let verts = table_same None (vert_at old) (vert_at new) n.verts
      (λ k lt. vert_same old new x r.named.verts k (same.vert_names k)) in
      let edges = table_more None (edge_at old) (edge_at new) n.edges (Some (edge_put old a b like))
      (λ k lt. edge_same old new x r.linked r.named.edges k (edge_name_stays k lt)) edge_there in
      let faces = table_same None (face_at old) (face_at new) n.faces
      (λ k lt. face_same old new x r.linked h r.named.faces k (same.face_names k) (λ t e. p.rounds t.0)) in
      let layers : layers_in new ≡ layers_in old = same.layers in
      let spare = p.spare in
      let long = p.edge_reach in
      let vert_long = p.vert_reach in
      let face_long = ap (λ (y : NamedCells FaceCell). length y.names) p.faces in
      let vert_spare = p.verts.spare in
      let face_spare = ap (λ (y : NamedCells FaceCell). spare_count y.cells) p.faces in
      let loop_spare = ap (λ (y : List (Option LoopCell)). spare_count y) p.loops in
      let vr = z.vert_reach in
      let fr = z.face_reach in
      record {
        whole = record {
          records = records_stay (with_edge_at old n.edges from to s like) new same (edge_more n) records_made;
          cycles = record {
            cycles = p.cycles;
            complete = record {
              disks = p.complete w.cycles.complete.disks;
              radials = λ l e is. member_of _ (w.cycles.complete.radials l e
                  (sym (edges_of_same (with_edge_at old n.edges from to s like) new same l) ∙ is)) (sym (p.radials e));
              rounds = λ l f is. member_of _ (w.cycles.complete.rounds l f
                  (sym (faces_of_same (with_edge_at old n.edges from to s like) new same l) ∙ is)) (sym (p.rounds f));
            };
            counted = counted_same old new p.lens p.rounds w.cycles.counted;
          };
          values = values_put (table_written old.values.edges s.0 (row_like old.values.edges like) wide w.values.edges);
          some = λ f is e. w.some f (sym (ap (λ (o : Option StoredFace). is_some o) (same.faces f)) ∙ is)
              (sym (p.rounds f) ∙ e);
          corners = w.corners ∙ ap corner_sum (sym faces);
          sizes = record {
            vert_limit = z.vert_limit;
            edge_limit = omega arith;
            face_limit = z.face_limit;
            corner_limit = z.corner_limit;
            vert_reach = omega arith;
            edge_reach = omega arith;
            face_reach = omega arith;
            verts = few_same n.verts p.verts z.verts;
            edges = few_more p.long p.spare z.edges;
            faces = few_same n.faces (size_along (ap (λ (y : NamedCells FaceCell). y.cells) p.faces)) z.faces;
            loops = few_same n.corners (size_along p.loops) z.loops;
          };
        };
        read = λ lists. λ i. record {
          verts = verts i;
          edges = edges i;
          faces = faces i;
          layers = layers i;
          materials = lists.materials;
          libraries = lists.libraries;
        };
        disks = with_two (disk_at old) (disk_at new) n.verts a b (record { 0 = n.edges })
            (name_below old.verts.names n.verts a from r.below.verts at_from)
            (name_below old.verts.names n.verts b to r.below.verts at_to) differ
            (around_end a from 0 at_from p.around_from) (around_end b to 1 at_to p.around_to)
            (λ j lt na nb. disk_same old new x h j (same.vert_names j)
            (λ t e. p.others t.0 (names_apart r.named.verts j a t from e at_from na)
            (names_apart r.named.verts j b t to e at_to nb)));
        room = record { verts = omega arith; edges = omega arith; corners = omega arith; faces = omega arith };
      }
