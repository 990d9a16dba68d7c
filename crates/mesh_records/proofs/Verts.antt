-- A vertex is added.
use Rattle.std.proofs.Common.{◌≡◌, ◌+◌, ◌<◌, ◌++◌, ℕ, ℤ, List, [], ◌∷◌, Option, Some, None, length, map, refl, sym, ap, ◌∙◌, subst, arith}
use Rattle.std.specs.Prelude.{slice_set}
use Rattle.std.specs.Option.{option_map, option_map_or, option_and_then}
use Rattle.std.proofs.lemmas.List.{length-set}
use Rattle.raw_pool.specs.declared.pool.Slot.{Slot}
use Rattle.raw_pool.specs.Slots.{IsLive, spare_count}
use Rattle.mesh_store.specs.Slots.{at}
use Rattle.mesh_store.specs.Stored.{Stored, new_vert}
use Rattle.mesh_store.specs.declared.cells.Dart.{Dart}
use Rattle.mesh_store.specs.declared.cells.VertCell.{VertCell}
use Rattle.mesh_store.proofs.Places.{written, unwritten, below}
use Rattle.mesh_store.proofs.Directory.{added_directory}
use Rattle.mesh_cycles.specs.Adds.{AddsVert, SameCycles}
use Rattle.mesh_cycles.proofs.Cells.{live_cell}
use Rattle.mesh_cycles.proofs.Elements.{vert_added}
use Rattle.mesh_model.specs.Complex.{corner_sum}
use Rattle.mesh_model.specs.Making.{with_vert}
use Rattle.mesh_model.specs.declared.limits.TheConstants.{MAX_VERTS}
use Rattle.mesh_model.specs.declared.records.VertRec.{VertRec}
use Rattle.mesh_model.specs.declared.records.Counters.{Counters}
use Rattle.mesh_records.specs.ReadOff.{NameLists}
use Rattle.mesh_records.specs.AtSlots.{StoredVert, vert_in}
use Rattle.mesh_records.specs.ReadOff.{table, vert_at, edge_at, face_at, edge_name, names_around, disk_at, read_off, layers_in, vert_rec, point_of}
use Rattle.mesh_records.specs.Room.{room_in, UsesAtMost, of_verts}
use Rattle.mesh_records.specs.Frames.{Extends}
use Rattle.mesh_records.specs.Puts.{row_like, with_vert_at, PutsVert}
use Rattle.mesh_records.specs.Whole.{IsWhole}
use Rattle.mesh_records.proofs.Options.{still_at}
use Rattle.mesh_records.proofs.Tables.{table_same, table_more}
use Rattle.mesh_records.proofs.Values.{table_written, like_long}
use Rattle.mesh_records.proofs.Added.{told_before, told_here, few_added}
use Rattle.mesh_records.proofs.Reading.{vert_same, edge_same, face_same, disk_same}
use Rattle.mesh_records.proofs.Frames.{SameOwners, cycles_stay, cycles_beside_values}

-- one name more
abbrev pub vert_more : Counters → Counters
vert_more n = record n { verts = n.verts + 1 }

-- the record of a vertex at a point, with an example's row
abbrev pub vert_put : Stored → List ℤ → Option Slot → VertRec
vert_put st p like = record { point = point_of p; vals = row_like st.values.verts like }

-- the rule holds, and the vertex has the next name
pub record AddsAVert (old new : Stored) (n : Counters) (p : List ℤ) (like : Option Slot) : Type 0 where
  pub whole : IsWhole new (vert_more n)
  pub read : (lists : NameLists) → read_off new (vert_more n) lists
      ≡ with_vert (read_off old n lists) (vert_put old p like)
  pub disks : table (disk_at new) (n.verts + 1) ≡ table (disk_at old) n.verts ++ [] ∷ []
  pub room : UsesAtMost (of_verts 1) (room_in old n) (room_in new (vert_more n))

-- what is told of a vertex
tell : VertCell → List ℤ → StoredVert
tell c r = record { number = c.number; point = c.point; vals = r }

module _ (old : Stored) (n : Counters) (s : Slot) (p : List ℤ) (like : Option Slot) (w : IsWhole old n)
    (low : n.verts < MAX_VERTS) (reach : n.verts < length old.verts.names)
    (there : s.0 < length old.verts.cells) (vacant : at old.verts.cells s.0 ≡ None) where
  extends : Extends old (with_vert_at old n.verts p s like)
  unfolding tell
  extends = record {
    verts = told_before tell old.verts.cells old.values.verts s.0 (new_vert n.verts p) (row_like old.values.verts like)
        vacant;
    edges = λ k x e. e;
    loops = λ k x e. e;
    faces = λ k x e. e;
  }

  has_row : s.0 < length old.values.verts.rows
  has_row = let rows = w.values.rows.verts in omega arith

  vert_there : vert_at (with_vert_at old n.verts p s like) n.verts ≡ Some (vert_put old p like)
  unfolding tell
  vert_there =
      let made = with_vert_at old n.verts p s like in
      ap (option_and_then (λ (t : Slot). option_map vert_rec (vert_in made t.0)))
      (written old.verts.names n.verts (Some s) reach)
      ∙ ap (option_map vert_rec) (told_here tell old.verts.cells old.values.verts s.0 (new_vert n.verts p)
      (row_like old.values.verts like) there has_row)

  name_stays : (k : ℕ) → k < n.verts → at (slice_set old.verts.names n.verts (Some s)) k ≡ at old.verts.names k
  name_stays k lt = unwritten old.verts.names n.verts k (Some s) (omega arith)

  -- the store without the new row
  bare_store : Stored
  bare_store = record old {
    verts = record {
      cells = slice_set old.verts.cells s.0 (Some (new_vert n.verts p));
      names = slice_set old.verts.names n.verts (Some s);
    };
  }

  bare_added : AddsVert old bare_store s (new_vert n.verts p)
  unfolding bare_store
  bare_added = vert_added old bare_store s w.cycles.cycles n.verts p (slice_set old.verts.names n.verts (Some s))
      (there, vacant) refl

  same_cycles : SameCycles old (with_vert_at old n.verts p s like)
  unfolding bare_store
  same_cycles =
      let a = bare_added in
      record {
        cycles = cycles_beside_values bare_store (with_vert_at old n.verts p s like).values a.same.cycles;
        disks = a.same.disks;
        radials = a.same.radials;
        rounds = a.same.rounds;
      }

  no_edges : disk_at (with_vert_at old n.verts p s like) n.verts ≡ []
  unfolding bare_store
  no_edges =
      let made = with_vert_at old n.verts p s like in
      ap (λ (o : Option Slot). option_map_or (names_around made) o []) (written old.verts.names n.verts (Some s) reach)
      ∙ ap (λ (ds : List Dart). map (λ (e : Slot). edge_name made e.0) (map (λ (d : Dart). d.edge) ds)) bare_added.empty

  pub adds_a_vert : (new : Stored) → ((t : Slot) → like ≡ Some t → IsLive old.verts.cells t.0)
      → PutsVert old new n.verts p like s → AddsAVert old new n p like
  adds_a_vert new like_live put =
      let made = with_vert_at old n.verts p s like in
      let x = extends in
      let h = w.cycles.cycles in
      let r = w.records in
      let z = w.sizes in
      let v = w.values in
      let same = same_cycles in
      let owners : SameOwners old made = record {
        darts = λ d. refl;
        ends = λ d. refl;
        edges = λ l. refl;
        faces = λ l. refl;
        lens = λ f. refl;
      } in
      let none : NameLists = record { materials = []; libraries = [] } in
      let verts = table_more None (vert_at old) (vert_at made) n.verts (Some (vert_put old p like))
      (λ k lt. vert_same old made x r.named.verts k (name_stays k lt)) vert_there in
      let edges = table_same None (edge_at old) (edge_at made) n.edges
      (λ k lt. edge_same old made x r.linked r.named.edges k refl) in
      let faces = table_same None (face_at old) (face_at made) n.faces
      (λ k lt. face_same old made x r.linked h r.named.faces k refl (λ t e. same.rounds t.0)) in
      let spare : spare_count made.verts.cells + 1 ≡ spare_count old.verts.cells =
      ap (λ (t : Stored). spare_count t.verts.cells + 1) (sym put.puts) ∙ put.spare in
      let wide = like_long old.values.verts like v.verts (λ t e. let c =
      live_cell old.verts.cells t.0 (like_live t e) in let b = below old.verts.cells t.0 c.0 c.1 in let rows =
      v.rows.verts in omega arith) in
      let names = length-set old.verts.names n.verts (Some s) in
      let cells = length-set old.verts.cells s.0 (Some (new_vert n.verts p)) in
      let rows = length-set old.values.verts.rows s.0 (row_like old.values.verts like) in
      let P = λ (t : Stored). AddsAVert old t n p like in
      subst P (sym put.puts) (record {
        whole = record {
          records = record {
            linked = record {
              a = λ t e is. still_at _ x.verts (r.linked.a t e is);
              b = λ t e is. still_at _ x.verts (r.linked.b t e is);
              vert = λ t l is. still_at _ x.verts (r.linked.vert t l is);
              edge = r.linked.edge;
              face = r.linked.face;
            };
            named = record {
              verts = added_directory (λ (c : VertCell). c.number) old.verts.cells old.verts.names r.named.verts s
                  (new_vert n.verts p) vacant there (r.below.verts n.verts (omega arith)) reach;
              edges = r.named.edges;
              faces = r.named.faces;
            };
            below = record {
              verts = λ k le. unwritten old.verts.names n.verts k (Some s) (omega arith)
                  ∙ r.below.verts k (omega arith);
              edges = r.below.edges;
              faces = r.below.faces;
            };
          };
          cycles = cycles_stay old made owners same w.cycles;
          values = record {
            verts = table_written old.values.verts s.0 (row_like old.values.verts like) wide v.verts;
            edges = v.edges;
            loops = v.loops;
            faces = v.faces;
            rows = record {
              verts = (let b = v.rows.verts in omega arith);
              edges = v.rows.edges;
              loops = v.rows.loops;
              faces = v.rows.faces;
              few = v.rows.few;
            };
          };
          some = λ f is e. w.some f is (sym (same.rounds f) ∙ e);
          corners = w.corners ∙ ap corner_sum (sym faces);
          sizes = record {
            vert_limit = omega arith;
            edge_limit = z.edge_limit;
            face_limit = z.face_limit;
            corner_limit = z.corner_limit;
            vert_reach = omega arith;
            edge_reach = z.edge_reach;
            face_reach = z.face_reach;
            verts = few_added old.verts.cells s.0 (new_vert n.verts p) n.verts z.verts spare;
            edges = z.edges;
            faces = z.faces;
            loops = z.loops;
          };
        };
        read = λ lists. λ i. record {
          verts = verts i;
          edges = edges i;
          faces = faces i;
          layers = layers_in old;
          materials = lists.materials;
          libraries = lists.libraries;
        };
        disks = table_more [] (disk_at old) (disk_at made) n.verts []
            (λ k lt. disk_same old made x h k (name_stays k lt) (λ t e. same.disks t.0)) no_edges;
        room = record { verts = omega arith; edges = omega arith; corners = omega arith; faces = omega arith };
      })
