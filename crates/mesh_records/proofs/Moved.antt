-- A vertex is moved to a point.
use Rattle.std.proofs.Common.{◌≡◌, ◌≢◌, ◌<◌, ℕ, ℤ, List, [], Option, Some, None, map, refl, sym, ap, ◌∙◌, subst, arith}
use Rattle.std.specs.Option.{option_map, option_map_or, option_and_then}
use Rattle.std.proofs.lemmas.List.{length-set}
use Rattle.cust_data.specs.Layers.{row_of}
use Rattle.raw_pool.specs.declared.pool.Slot.{Slot}
use Rattle.raw_pool.specs.Slots.{holds}
use Rattle.mesh_store.specs.Slots.{at}
use Rattle.mesh_store.specs.Stored.{Stored, change_vert, with_point}
use Rattle.mesh_store.specs.declared.cells.Dart.{Dart}
use Rattle.mesh_store.specs.declared.cells.VertCell.{VertCell}
use Rattle.mesh_cycles.specs.Found.{loops_in}
use Rattle.mesh_cycles.proofs.Cells.{changed_here, changed_elsewhere}
use Rattle.mesh_cycles.proofs.Elements.{point_written, told_set}
use Rattle.mesh_model.specs.Complex.{Complex, corner_sum}
use Rattle.mesh_model.specs.Kernel.{with_point as with_point_at}
use Rattle.mesh_model.specs.declared.names.VertName.{VertName}
use Rattle.mesh_model.specs.declared.records.VertRec.{VertRec}
use Rattle.mesh_model.specs.declared.records.EdgeRec.{EdgeRec}
use Rattle.mesh_model.specs.declared.records.CornerRec.{CornerRec}
use Rattle.mesh_model.specs.declared.records.FaceRec.{FaceRec}
use Rattle.mesh_model.specs.declared.records.Counters.{Counters}
use Rattle.mesh_records.specs.AtSlots.{StoredVert, StoredEdge, StoredLoop, StoredFace, vert_in, edge_in, loop_in, face_in, end_of, IsAt}
use Rattle.mesh_records.specs.ReadOff.{vert_name, edge_name, vert_rec, vert_at, edge_at, face_at, names_around, disk_at, no_corner, point_of, layers_in}
use Rattle.mesh_records.specs.Whole.{AreLinked, IsWhole}
use Rattle.mesh_records.proofs.Edges.{names_apart, name_below}
use Rattle.mesh_records.proofs.Elements.{vert_live, vert_is_at}
use Rattle.mesh_records.proofs.Frames.{named_stay, cycles_stay}
use Rattle.mesh_records.proofs.Listed.{spare_changed}
use Rattle.mesh_records.proofs.Options.{led, led_or, told_twice}
use Rattle.mesh_records.specs.Rewrites.{Rewrites}
use Rattle.mesh_records.proofs.Revalued.{told_changed, told_or}
use Rattle.mesh_records.proofs.Tables.{table_same, table_updated}

module _ (old : Stored) (n : Counters) (w : IsWhole old n) (k : VertName) (s : Slot)
    (named : at old.verts.names k.0 ≡ Some s) (to : List ℤ) where
  made : Stored
  made = change_vert (with_point to) old s.0

  -- what is told besides the point stays
  told_beside_point : {Z : Type 0} (g : Option VertCell → Z)
      → ((c : VertCell) → g (Some (with_point to c)) ≡ g (Some c))
      → (j : ℕ) → g (at made.verts.cells j) ≡ g (at old.verts.cells j)
  unfolding made
  told_beside_point g same j = told_set g old.verts.cells s.0 (option_map (with_point to) (at old.verts.cells s.0))
      (by_cell (at old.verts.cells s.0)) j
    where
      by_cell : (o : Option VertCell) → g (option_map (with_point to) o) ≡ g o
      by_cell None = refl
      by_cell (Some c) = same c

  still_live : (j : ℕ) → IsAt (vert_in old) j → IsAt (vert_in made) j
  still_live j is = vert_is_at made j (told_beside_point (λ (o : Option VertCell). holds o) (λ c. refl) j
      ∙ vert_live old j is)

  name_still : (j : ℕ) → vert_name made j ≡ vert_name old j
  unfolding made
  name_still j =
      let number = λ (x : StoredVert). x.number in
      let tell = λ (c : VertCell). let x : StoredVert =
      record { number = c.number; point = c.point; vals = row_of old.values.verts j } in x in
      let same = told_or tell number 0 (at made.verts.cells j)
      ∙ told_beside_point (λ (o : Option VertCell). option_map_or (λ (c : VertCell). c.number) o 0) (λ c. refl) j
      ∙ sym (told_or tell number 0 (at old.verts.cells j)) in
      λ i. record { 0 = same i }

  linked_still : AreLinked old → AreLinked made
  unfolding made
  linked_still h = record {
    a = λ j e is. still_live (end_of 0 e) (h.a j e is);
    b = λ j e is. still_live (end_of 1 e) (h.b j e is);
    vert = λ j l is. still_live l.vert.0 (h.vert j l is);
    edge = h.edge;
    face = h.face;
  }

  vert_told : (j : ℕ) → j < n.verts → j ≢ k.0 → vert_at made j ≡ vert_at old j
  unfolding made
  vert_told j lt ne =
      led (λ (x : Slot). option_map vert_rec (vert_in made x.0)) (λ (x : Slot). option_map vert_rec (vert_in old x.0))
      (at old.verts.names j) (at old.verts.names j) refl
      (λ x e.
      let tell = λ (c : VertCell). let y : StoredVert =
      record { number = c.number; point = c.point; vals = row_of old.values.verts x.0 } in y in
      ap (λ (o : Option VertCell). option_map vert_rec (option_map tell o))
      (changed_elsewhere (with_point to) old.verts.cells s.0 x.0
      (names_apart w.records.named.verts j k.0 x s e named ne)))

  vert_moved : vert_at made k.0
      ≡ option_map (λ (r : VertRec). let q : VertRec = record r { point = point_of to } in q) (vert_at old k.0)
  unfolding made
  vert_moved =
      let change = λ (r : VertRec). let q : VertRec = record r { point = point_of to } in q in
      let tell = λ (c : VertCell). let y : StoredVert =
      record { number = c.number; point = c.point; vals = row_of old.values.verts s.0 } in y in
      let told = λ (c : VertCell). tell (with_point to c) in
      ap (option_and_then (λ (x : Slot). option_map vert_rec (vert_in made x.0))) named
      ∙ ap (λ (o : Option VertCell). option_map vert_rec (option_map tell o))
      (changed_here (with_point to) old.verts.cells s.0)
      ∙ ap (option_map vert_rec) (told_twice (with_point to) tell (at old.verts.cells s.0))
      ∙ told_changed tell told vert_rec change (λ c. refl) (at old.verts.cells s.0)
      ∙ ap (option_map change)
      (sym (ap (option_and_then (λ (x : Slot). option_map vert_rec (vert_in old x.0))) named))

  edge_told : (j : ℕ) → edge_at made j ≡ edge_at old j
  unfolding made
  edge_told j =
      let name = name_still in
      λ i. option_and_then (λ (x : Slot). option_map (λ (e : StoredEdge). let r : EdgeRec =
      record { a = name (end_of 0 e) i; b = name (end_of 1 e) i; vals = e.vals } in r) (edge_in old x.0))
      (at old.edges.names j)

  face_told : (j : ℕ) → face_at made j ≡ face_at old j
  unfolding made
  face_told j =
      let name = name_still in
      λ i. option_and_then (λ (x : Slot). option_map (λ (f : StoredFace). let r : FaceRec = record {
        corners = map (λ (l : Slot). option_map_or (λ (c : StoredLoop). let q : CornerRec =
            record { vert = name c.vert.0 i; edge = edge_name old c.edge.0; vals = c.vals } in q) (loop_in old l.0)
            no_corner) (loops_in old x.0);
        vals = f.vals;
      } in r) (face_in old x.0)) (at old.faces.names j)

  pub moves_vert : (new : Stored) → new ≡ change_vert (with_point to) old s.0
      → Rewrites old new n (λ (c : Complex). with_point_at c k (point_of to))
  unfolding made
  moves_vert new is =
      let r = w.records in
      let z = w.sizes in
      let v = w.values in
      let change = λ (q : VertRec). let y : VertRec = record q { point = point_of to } in y in
      let same = point_written old made s w.cycles.cycles to refl in
      let long = length-set old.verts.cells s.0 (option_map (with_point to) (at old.verts.cells s.0)) in
      let spare = spare_changed (with_point to) old.verts.cells s.0 in
      let few = z.verts in
      let live = few.live in
      let small = few.small in
      let verts = table_updated (vert_at old) (vert_at made) n.verts k.0 change
      (name_below old.verts.names n.verts k.0 s r.below.verts named) vert_moved vert_told in
      let edges = table_same None (edge_at old) (edge_at made) n.edges (λ j lt. edge_told j) in
      let faces = table_same None (face_at old) (face_at made) n.faces (λ j lt. face_told j) in
      let P = λ (t : Stored). Rewrites old t n (λ (c : Complex). with_point_at c k (point_of to)) in
      subst P (sym is) (record {
        whole = record {
          records = record {
            linked = linked_still r.linked;
            named = record {
              verts = named_stay (λ (c : VertCell). c.number) old.verts.cells made.verts.cells old.verts.names
                  old.verts.names (told_beside_point (option_map (λ (c : VertCell). c.number)) (λ c. refl))
                  (λ j. refl) r.named.verts;
              edges = r.named.edges;
              faces = r.named.faces;
            };
            below = record { verts = r.below.verts; edges = r.below.edges; faces = r.below.faces };
          };
          cycles = cycles_stay old made (record {
            darts = λ d. refl;
            ends = λ d. refl;
            edges = λ l. refl;
            faces = λ l. refl;
            lens = λ f. refl;
          }) same w.cycles;
          values = record {
            verts = v.verts;
            edges = v.edges;
            loops = v.loops;
            faces = v.faces;
            rows = record {
              verts = (let a = v.rows.verts in omega arith);
              edges = v.rows.edges;
              loops = v.rows.loops;
              faces = v.rows.faces;
              few = v.rows.few;
            };
          };
          sizes = record {
            vert_limit = z.vert_limit;
            edge_limit = z.edge_limit;
            face_limit = z.face_limit;
            corner_limit = z.corner_limit;
            vert_reach = z.vert_reach;
            edge_reach = z.edge_reach;
            face_reach = z.face_reach;
            verts = record { live = omega arith; small = omega arith };
            edges = z.edges;
            faces = z.faces;
            loops = z.loops;
          };
          some = λ f there e. w.some f there (sym (same.rounds f) ∙ e);
          corners = w.corners ∙ ap corner_sum (sym faces);
        };
        read = λ lists. λ i. record {
          verts = verts i;
          edges = edges i;
          faces = faces i;
          layers = layers_in old;
          materials = lists.materials;
          libraries = lists.libraries;
        };
        disks = table_same [] (disk_at old) (disk_at made) n.verts (λ j lt.
            led_or (names_around made) (names_around old) [] (at old.verts.names j) (at old.verts.names j) refl
            (λ x e. ap (λ (ds : List Dart). map (λ (y : Slot). edge_name old y.0) (map (λ (d : Dart). d.edge) ds))
            (same.disks x.0)));
        room = record { verts = omega arith; edges = omega arith; corners = omega arith; faces = omega arith };
      })
