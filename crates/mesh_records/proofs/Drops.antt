-- An edge without faces is dropped.
use Rattle.std.proofs.Common.{◌≡◌, ◌≢◌, ◌<◌, ◌==◌, ℕ, zero, suc, not, is_some, List, [], ◌∷◌, Option, Some, None, length, map, refl, sym, ap, ◌∙◌, subst, inl, inr, arith}
use Rattle.std.specs.Prelude.{slice_set}
use Rattle.std.specs.List.{filter}
use Rattle.std.specs.Option.{option_map, option_map_or, option_and_then}
use Rattle.std.proofs.lemmas.Bool.{cases_eq, eqb-true, eq-eqb, false_from_ne_true}
use Rattle.cust_data.specs.Layers.{IsTable, row_of}
use Rattle.raw_pool.specs.declared.pool.Slot.{Slot}
use Rattle.raw_pool.specs.Slots.{spare_count}
use Rattle.link_ring.specs.Members.{HasMember}
use Rattle.link_ring.proofs.Members.{member_of}
use Rattle.mesh_store.specs.Slots.{at}
use Rattle.mesh_store.specs.Naming.{NamedCells, AreNamed, number_in}
use Rattle.mesh_store.specs.Stored.{Stored}
use Rattle.mesh_store.specs.declared.cells.Dart.{Dart}
use Rattle.mesh_store.specs.declared.cells.Radial.{Radial}
use Rattle.mesh_store.specs.declared.cells.EdgeCell.{EdgeCell}
use Rattle.mesh_store.specs.declared.cells.LoopCell.{LoopCell}
use Rattle.mesh_store.specs.declared.cells.FaceCell.{FaceCell}
use Rattle.mesh_store.specs.declared.layers.Layers.{Layers}
use Rattle.mesh_store.proofs.Places.{below, written, unwritten}
use Rattle.mesh_store.proofs.Directory.{removed_directory}
use Rattle.mesh_cycles.specs.Cycles.{disk_of, radial_of}
use Rattle.mesh_cycles.specs.Found.{edges_around}
use Rattle.mesh_cycles.proofs.Around.{edge_live}
use Rattle.mesh_cycles.proofs.Completeness.{counted_same}
use Rattle.mesh_model.specs.Complex.{corner_sum}
use Rattle.mesh_model.specs.declared.names.EdgeName.{EdgeName}
use Rattle.mesh_model.specs.declared.records.Counters.{Counters}
use Rattle.mesh_records.specs.ReadOff.{NameLists}
use Rattle.mesh_records.specs.AtSlots.{StoredEdge, StoredLoop, StoredFace, edge_in, loop_in, IsAt}
use Rattle.mesh_records.specs.ReadOff.{table, vert_at, edge_at, face_at, edge_name, edge_rec, names_around, disk_at, read_off, layers_in}
use Rattle.mesh_records.specs.Room.{UsesAtMost, none_of_all, room_in}
use Rattle.mesh_records.specs.Changes.{only_without_edge, without_name}
use Rattle.mesh_records.specs.Frames.{Extends}
use Rattle.mesh_records.specs.TakesEdge.{TakesEdge, is_beside, without_edge_at}
use Rattle.mesh_records.specs.Whole.{AreRecords, HaveValues, IsWhole}
use Rattle.mesh_records.proofs.Options.{has_key}
use Rattle.mesh_records.proofs.Elements.{edge_is_at, edge_of_in}
use Rattle.mesh_records.proofs.Tables.{table_same, table_set}
use Rattle.mesh_records.proofs.ByName.{edge_leads, edge_named}
use Rattle.mesh_records.proofs.Reading.{vert_same, edge_same, face_same, names_same}
use Rattle.mesh_records.proofs.Edges.{name_below}
use Rattle.mesh_records.proofs.Added.{few_same, size_along}
use Rattle.mesh_records.proofs.Filters.{filter_mapped, map_after}
use Rattle.mesh_records.proofs.Frames.{records_stay, edges_of_same, faces_of_same}
use Rattle.mesh_records.proofs.Loses.{told_was}

-- the rule holds without the edge, and no room is gone
pub record DropsAnEdge (old new : Stored) (n : Counters) (k : EdgeName) : Type 0 where
  pub whole : IsWhole new n
  pub read : (lists : NameLists) → read_off new n lists ≡ only_without_edge (read_off old n lists) k
  pub disks : table (disk_at new) n.verts ≡ without_name k (table (disk_at old) n.verts)
  pub room : UsesAtMost none_of_all (room_in old n) (room_in new n)

-- what stood nowhere stands nowhere when one is taken away
pub none_set : {X : Type 0} (xs : List (Option X)) (i j : ℕ) → at xs j ≡ None → at (slice_set xs i None) j ≡ None
none_set [] i j e = e
none_set (x ∷ xs) zero zero e = refl
none_set (x ∷ xs) zero (suc j) e = e
none_set (x ∷ xs) (suc i) zero e = e
none_set (x ∷ xs) (suc i) (suc j) e = none_set xs i j e

module _ (old : Stored) (n : Counters) (k : EdgeName) (s : Slot) (w : IsWhole old n)
    (at_edge : at old.edges.names k.0 ≡ Some s) where
  -- an edge around a vertex is the one at a slot where its name is
  pub edge_by_name : (v : ℕ) (x : Slot) → HasMember (edges_around old v) x
      → not ((edge_name old x.0).0 == k.0) ≡ not (x.0 == s.0)
  edge_by_name v x m = ap not (elim (cases_eq x.0 s.0) [
    | inl q ↦ eq-eqb (edge_name old x.0).0 k.0 (ap (λ (i : ℕ). (edge_name old i).0) q
        ∙ edge_named old n w.records k.0 s at_edge) ∙ sym (eq-eqb x.0 s.0 q)
    | inr ne ↦ false_from_ne_true ((edge_name old x.0).0 == k.0) (λ e.
        let leads = edge_leads old n w.records x (edge_is_at old x.0 (edge_live old w.cycles.cycles v x m)) in
        let both : Some x ≡ Some s = sym leads ∙ ap (λ (i : ℕ). at old.edges.names i)
        (eqb-true (edge_name old x.0).0 k.0 e) ∙ at_edge in
        ne (ap (λ (o : Option Slot). elim o [ None ↦ x.0 | Some y ↦ y.0 ]) both))
        ∙ sym (false_from_ne_true (x.0 == s.0) (λ e. ne (eqb-true x.0 s.0 e)))
  ])

module _ (old new : Stored) (n : Counters) (k : EdgeName) (s : Slot) (w : IsWhole old n)
    (at_edge : at old.edges.names k.0 ≡ Some s) (empty : radial_of old s.0 ≡ []) (t : TakesEdge old new s) where
  low : s.0 < length old.edges.cells
  low = let c = has_key (λ (c : EdgeCell). c.number) (at old.edges.cells s.0) k.0
      (w.records.named.edges.live k.0 s at_edge) in below old.edges.cells s.0 c.cell c.is

  num : number_in (λ (c : EdgeCell). c.number) (at old.edges.cells s.0) ≡ k.0
  num = let c = has_key (λ (c : EdgeCell). c.number) (at old.edges.cells s.0) k.0
      (w.records.named.edges.live k.0 s at_edge) in ap (number_in (λ (c : EdgeCell). c.number)) c.is ∙ c.same

  was : (j : ℕ) (x : StoredEdge) → edge_in (without_edge_at old s) j ≡ Some x → edge_in old j ≡ Some x
  was = told_was (λ (j : ℕ) (c : EdgeCell). let y : StoredEdge =
      record { number = c.number; ends = c.ends; vals = row_of old.values.edges j } in y) old.edges.cells s.0 low

  extends : Extends new old
  extends = record {
    verts = λ j x e. sym (t.elements.verts j) ∙ e;
    edges = λ j x e. was j x (sym (t.elements.edges j) ∙ e);
    loops = λ j x e. sym (t.elements.loops j) ∙ e;
    faces = λ j x e. sym (t.elements.faces j) ∙ e;
  }

  -- no loop is along the edge
  off_edge : (j : ℕ) (x : StoredLoop) → loop_in old j ≡ Some x → x.edge.0 ≢ s.0
  off_edge j x e q =
      let member = w.cycles.complete.radials (record { 0 = j }) s.0
      (sym (edge_of_in old (record { 0 = j })) ∙ ap (option_map (λ (y : StoredLoop). y.edge.0)) e
      ∙ ap (λ (i : ℕ). Some i) q) in
      let P = λ (ls : List Radial). HasMember ls (record { 0 = record { 0 = j } }) in
      subst P empty member

  still : (j : ℕ) → j ≢ s.0 → IsAt (edge_in old) j → IsAt (edge_in (without_edge_at old s)) j
  still j ne is =
      let tell = λ (c : EdgeCell). let y : StoredEdge =
      record { number = c.number; ends = c.ends; vals = row_of old.values.edges j } in y in
      ap (λ (o : Option EdgeCell). is_some (option_map tell o)) (unwritten old.edges.cells s.0 j None ne) ∙ is

  records_made : AreRecords (without_edge_at old s) n
  records_made =
      let r = w.records in
      let c = has_key (λ (c : EdgeCell). c.number) (at old.edges.cells s.0) k.0 (r.named.edges.live k.0 s at_edge) in
      let D = λ (j : ℕ). AreNamed (λ (c : EdgeCell). c.number) (slice_set old.edges.cells s.0 None)
      (slice_set old.edges.names j None) in
      record {
        linked = record {
          a = λ j x e. r.linked.a j x (was j x e);
          b = λ j x e. r.linked.b j x (was j x e);
          vert = r.linked.vert;
          edge = λ j x e. still x.edge.0 (off_edge j x e) (r.linked.edge j x e);
          face = r.linked.face;
        };
        named = record {
          verts = r.named.verts;
          edges = subst D (sym (ap (number_in (λ (c : EdgeCell). c.number)) c.is))
              (removed_directory (λ (c : EdgeCell). c.number) old.edges.cells old.edges.names r.named.edges s.0 c.cell
              c.is);
          faces = r.named.faces;
        };
        below = record {
          verts = r.below.verts;
          edges = λ j le. none_set old.edges.names (number_in (λ (c : EdgeCell). c.number) (at old.edges.cells s.0)) j
              (r.below.edges j le);
          faces = r.below.faces;
        };
      }

  names_less : (j : ℕ) → at new.edges.names j
      ≡ (let none : Option Slot = None in at (slice_set old.edges.names k.0 none) j)
  names_less j = let none : Option Slot =
      None in t.elements.edge_names j ∙ ap (λ (i : ℕ). at (slice_set old.edges.names i none) j) num

  around_less : (v : Slot) → names_around new v ≡ filter (λ (x : EdgeName). not (x.0 == k.0)) (names_around old v)
  around_less v =
      let name = λ (e : Slot). edge_name old e.0 in
      let edge = λ (d : Dart). d.edge in
      let other = λ (e : Slot). not (e.0 == s.0) in
      let keeps = λ (x : EdgeName). not (x.0 == k.0) in
      sym (names_same new old extends t.cycles v.0)
      ∙ ap (λ (ds : List Dart). map name (map edge ds)) (t.disks v.0)
      ∙ ap (map name) (sym (filter_mapped edge (is_beside s) other (disk_of old v.0) (λ d m. refl)))
      ∙ sym (filter_mapped name other keeps (edges_around old v.0) (λ x m. edge_by_name old n k s w at_edge v.0 x m))

  disk_less : (j : ℕ) → disk_at new j ≡ filter (λ (x : EdgeName). not (x.0 == k.0)) (disk_at old j)
  disk_less j = ap (λ (o : Option Slot). option_map_or (names_around new) o []) (t.elements.vert_names j)
      ∙ by_name (at old.verts.names j)
    where
      by_name : (o : Option Slot) → option_map_or (names_around new) o []
          ≡ filter (λ (x : EdgeName). not (x.0 == k.0)) (option_map_or (names_around old) o [])
      by_name None = refl
      by_name (Some v) = around_less v

  values_left : HaveValues new
  values_left =
      let v = w.values in
      record {
        verts = (let P = λ (x : Layers). IsTable x.verts in subst P (sym t.values) v.verts);
        edges = (let P = λ (x : Layers). IsTable x.edges in subst P (sym t.values) v.edges);
        loops = (let P = λ (x : Layers). IsTable x.loops in subst P (sym t.values) v.loops);
        faces = (let P = λ (x : Layers). IsTable x.faces in subst P (sym t.values) v.faces);
        rows = record {
          verts = (let long = ap (λ (x : Layers). length x.verts.rows) t.values in let size = t.verts.long in let a =
              v.rows.verts in omega arith);
          edges = (let long = ap (λ (x : Layers). length x.edges.rows) t.values in let size = t.long in let a =
              v.rows.edges in omega arith);
          loops = (let long = ap (λ (x : Layers). length x.loops.rows) t.values in let size =
              ap (λ (xs : List (Option LoopCell)). length xs) t.loops in let a = v.rows.loops in omega arith);
          faces = (let long = ap (λ (x : Layers). length x.faces.rows) t.values in let size =
              ap (λ (x : NamedCells FaceCell). length x.cells) t.faces in let a = v.rows.faces in omega arith);
          few = (let size = ap (λ (xs : List (Option LoopCell)). length xs) t.loops in let a =
              v.rows.few in omega arith);
        };
      }

  pub drops_an_edge : DropsAnEdge old new n k
  drops_an_edge =
      let no_name : Option Slot = None in
      let z = w.sizes in
      let made = without_edge_at old s in
      let q = records_stay made new t.elements n records_made in
      let x = extends in
      let edge_low = name_below old.edges.names n.edges k.0 s w.records.below.edges at_edge in
      let gone : at new.edges.names k.0 ≡ None =
      names_less k.0 ∙ written old.edges.names k.0 no_name (below old.edges.names k.0 s at_edge) in
      let none_there : edge_at new k.0 ≡ None =
      ap (option_and_then (λ (i : Slot). option_map (edge_rec new) (edge_in new i.0))) gone in
      let verts = table_same None (vert_at old) (vert_at new) n.verts
      (λ j lt. sym (vert_same new old x q.named.verts j (sym (t.elements.vert_names j)))) in
      let edges = table_set None (edge_at old) (edge_at new) n.edges k.0 None edge_low none_there
      (λ j lt ne. sym (edge_same new old x q.linked q.named.edges j
      (sym (names_less j ∙ unwritten old.edges.names k.0 j no_name ne)))) in
      let faces = table_same None (face_at old) (face_at new) n.faces
      (λ j lt. sym (face_same new old x q.linked t.cycles q.named.faces j (sym (t.elements.face_names j))
      (λ i e. sym (t.rounds i.0)))) in
      let layers : layers_in new ≡ layers_in old = t.elements.layers in
      let vert_long = t.vert_reach in
      let edge_long = t.edge_reach in
      let face_long = ap (λ (p : NamedCells FaceCell). length p.names) t.faces in
      let vert_spare = t.verts.spare in
      let edge_spare = t.spare in
      let face_spare = ap (λ (p : NamedCells FaceCell). spare_count p.cells) t.faces in
      let loop_spare = ap (λ (xs : List (Option LoopCell)). spare_count xs) t.loops in
      let vr = z.vert_reach in
      let er = z.edge_reach in
      let fr = z.face_reach in
      record {
        whole = record {
          records = q;
          cycles = record {
            cycles = t.cycles;
            complete = record {
              disks = t.complete;
              radials = λ l e is. member_of _ (w.cycles.complete.radials l e
                  (sym (edges_of_same made new t.elements l) ∙ is)) (sym (t.radials e));
              rounds = λ l f is. member_of _ (w.cycles.complete.rounds l f
                  (sym (faces_of_same made new t.elements l) ∙ is)) (sym (t.rounds f));
            };
            counted = counted_same old new t.lens t.rounds w.cycles.counted;
          };
          values = values_left;
          sizes = record {
            vert_limit = z.vert_limit;
            edge_limit = z.edge_limit;
            face_limit = z.face_limit;
            corner_limit = z.corner_limit;
            vert_reach = omega arith;
            edge_reach = omega arith;
            face_reach = omega arith;
            verts = few_same n.verts t.verts z.verts;
            edges = (let a = t.long in let c = z.edges.live in let d =
                z.edges.small in record { live = omega arith; small = omega arith });
            faces = few_same n.faces (size_along (ap (λ (p : NamedCells FaceCell). p.cells) t.faces)) z.faces;
            loops = few_same n.corners (size_along t.loops) z.loops;
          };
          some = λ f is e. w.some f (sym (ap (λ (o : Option StoredFace). is_some o) (t.elements.faces f)) ∙ is)
              (sym (t.rounds f) ∙ e);
          corners = w.corners ∙ ap corner_sum (sym faces);
        };
        read = λ lists. λ i. record {
          verts = verts i;
          edges = edges i;
          faces = faces i;
          layers = layers i;
          materials = lists.materials;
          libraries = lists.libraries;
        };
        disks = table_same [] (λ j. filter (λ (y : EdgeName). not (y.0 == k.0)) (disk_at old j)) (disk_at new) n.verts
            (λ j lt. disk_less j) ∙ sym (map_after (filter (λ (y : EdgeName). not (y.0 == k.0))) (disk_at old) _);
        room = record { verts = omega arith; edges = omega arith; corners = omega arith; faces = omega arith };
      }
