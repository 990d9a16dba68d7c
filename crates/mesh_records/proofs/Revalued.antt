-- Values change and nothing else: what is read besides them is as before, and the rule of a mesh stays.
use Rattle.std.proofs.Common.{◌≡◌, ℕ, ℤ, List, [], Option, Some, None, map, refl, sym, ap, ◌∙◌, subst, arith}
use Rattle.std.specs.Option.{option_map, option_map_or}
use Rattle.cust_data.specs.Layers.{row_of}
use Rattle.raw_pool.specs.declared.pool.Slot.{Slot}
use Rattle.link_ring.specs.Members.{HasMember}
use Rattle.mesh_store.specs.Slots.{at}
use Rattle.mesh_store.specs.Stored.{Stored}
use Rattle.mesh_store.specs.declared.cells.VertCell.{VertCell}
use Rattle.mesh_store.specs.declared.cells.EdgeCell.{EdgeCell}
use Rattle.mesh_store.specs.declared.cells.LoopCell.{LoopCell}
use Rattle.mesh_store.specs.declared.cells.FaceCell.{FaceCell}
use Rattle.mesh_store.specs.declared.layers.Layers.{Layers}
use Rattle.mesh_cycles.specs.Found.{edges_around, loops_in}
use Rattle.mesh_model.specs.Complex.{Complex, corner_sum}
use Rattle.mesh_model.specs.declared.records.EdgeRec.{EdgeRec}
use Rattle.mesh_model.specs.declared.records.CornerRec.{CornerRec}
use Rattle.mesh_model.specs.declared.records.FaceRec.{FaceRec}
use Rattle.mesh_model.specs.declared.records.Counters.{Counters}
use Rattle.mesh_records.specs.AtSlots.{StoredVert, StoredEdge, StoredLoop, StoredFace, vert_in, edge_in, loop_in, face_in, end_of, IsAt}
use Rattle.mesh_records.specs.ReadOff.{NameLists, table, vert_name, edge_name, vert_rec, edge_rec, loop_rec, corner_rec, no_corner, face_rec, vert_at, edge_at, face_at, disk_at, read_off, layers_in}
use Rattle.mesh_records.specs.Rewrites.{Rewrites}
use Rattle.mesh_records.specs.Whole.{AreLinked, HaveValues, IsWhole}
use Rattle.mesh_records.proofs.Options.{has_key, led, map_members}
use Rattle.mesh_records.proofs.Elements.{vert_live, edge_live, face_live, vert_is_at, edge_is_at, face_is_at}
use Rattle.mesh_records.proofs.Tables.{table_same}
use Rattle.mesh_records.proofs.Frames.{cycles_beside_values}

-- the store with other values
abbrev pub with_values : Stored → Layers → Stored
with_values st v = record st { values = v }

-- values fit a store: the layers are its own, and each place has a row
pub record AreValuesFor (st : Stored) (v : Layers) : Type 0 where
  pub layers : layers_in (with_values st v) ≡ layers_in st
  pub values : HaveValues (with_values st v)

-- what is told of what is told, or else
pub told_or : {X Y Z : Type 0} (f : X → Y) (g : Y → Z) (d : Z) (o : Option X)
    → option_map_or g (option_map f o) d ≡ option_map_or (λ (x : X). g (f x)) o d
told_or f g d None = refl
told_or f g d (Some x) = refl

-- two ways to tell of a thing, where one is the other changed
pub told_changed : {X Y Z : Type 0} (f f' : X → Y) (g : Y → Z) (change : Z → Z)
    → ((x : X) → g (f' x) ≡ change (g (f x))) → (o : Option X)
    → option_map g (option_map f' o) ≡ option_map change (option_map g (option_map f o))
told_changed f f' g change same None = refl
told_changed {X} {Y} {Z} f f' g change same (Some x) = ap (λ (z : Z). Some z) (same x)

-- what is told of a vertex with a row
abbrev pub vert_with : List ℤ → VertCell → StoredVert
vert_with row c = record { number = c.number; point = c.point; vals = row }

-- what is told of an edge with a row
abbrev pub edge_with : List ℤ → EdgeCell → StoredEdge
edge_with row c = record { number = c.number; ends = c.ends; vals = row }

-- what is told of a loop with a row
abbrev pub loop_with : List ℤ → LoopCell → StoredLoop
loop_with row c = record { vert = c.vert; edge = c.edge; face = c.face; vals = row }

-- what is told of a face with a row
abbrev pub face_with : List ℤ → FaceCell → StoredFace
face_with row c = record { number = c.number; vals = row }

module _ (st : Stored) (v : Layers) where
  -- ---- names

  pub vert_name_still : (s : ℕ) → vert_name (with_values st v) s ≡ vert_name st s
  vert_name_still s =
      let number = λ (x : StoredVert). x.number in
      let same = told_or (vert_with (row_of v.verts s)) number 0 (at st.verts.cells s)
      ∙ sym (told_or (vert_with (row_of st.values.verts s)) number 0 (at st.verts.cells s)) in
      λ i. record { 0 = same i }

  pub edge_name_still : (s : ℕ) → edge_name (with_values st v) s ≡ edge_name st s
  edge_name_still s =
      let number = λ (x : StoredEdge). x.number in
      let same = told_or (edge_with (row_of v.edges s)) number 0 (at st.edges.cells s)
      ∙ sym (told_or (edge_with (row_of st.values.edges s)) number 0 (at st.edges.cells s)) in
      λ i. record { 0 = same i }

  -- ---- records

  pub vert_still : (k : ℕ) → ((s : Slot) → at st.verts.names k ≡ Some s
      → row_of v.verts s.0 ≡ row_of st.values.verts s.0)
      → vert_at (with_values st v) k ≡ vert_at st k
  vert_still k rows =
      led (λ s. option_map vert_rec (vert_in (with_values st v) s.0)) (λ s. option_map vert_rec (vert_in st s.0))
      (at st.verts.names k) (at st.verts.names k) refl
      (λ s e. ap (λ (r : List ℤ). option_map vert_rec (option_map (vert_with r) (at st.verts.cells s.0))) (rows s e))

  -- an edge's record by its names
  pub edge_renamed : (o : Option StoredEdge)
      → option_map (edge_rec (with_values st v)) o ≡ option_map (edge_rec st) o
  edge_renamed o =
      let name = vert_name_still in
      λ i. option_map (λ (e : StoredEdge). let r : EdgeRec =
      record { a = name (end_of 0 e) i; b = name (end_of 1 e) i; vals = e.vals } in r) o

  pub edge_still : (k : ℕ) → ((s : Slot) → at st.edges.names k ≡ Some s
      → row_of v.edges s.0 ≡ row_of st.values.edges s.0)
      → edge_at (with_values st v) k ≡ edge_at st k
  edge_still k rows =
      led (λ s. option_map (edge_rec (with_values st v)) (edge_in (with_values st v) s.0))
      (λ s. option_map (edge_rec st) (edge_in st s.0)) (at st.edges.names k) (at st.edges.names k) refl
      (λ s e. edge_renamed (edge_in (with_values st v) s.0)
      ∙ ap (λ (r : List ℤ). option_map (edge_rec st) (option_map (edge_with r) (at st.edges.cells s.0))) (rows s e))

  -- a corner's record by its names
  pub corner_renamed : (o : Option StoredLoop)
      → option_map_or (loop_rec (with_values st v)) o no_corner ≡ option_map_or (loop_rec st) o no_corner
  corner_renamed o =
      let vert = vert_name_still in
      let edge = edge_name_still in
      λ i. option_map_or (λ (l : StoredLoop). let r : CornerRec =
      record { vert = vert l.vert.0 i; edge = edge l.edge.0 i; vals = l.vals } in r) o no_corner

  pub corner_still : (l : Slot) → row_of v.loops l.0 ≡ row_of st.values.loops l.0
      → corner_rec (with_values st v) l ≡ corner_rec st l
  corner_still l row = corner_renamed (loop_in (with_values st v) l.0)
      ∙ ap (λ (r : List ℤ). option_map_or (loop_rec st) (option_map (loop_with r) (at st.loops l.0)) no_corner) row

  pub corners_still : (f : ℕ)
      → ((l : Slot) → HasMember (loops_in st f) l → row_of v.loops l.0 ≡ row_of st.values.loops l.0)
      → map (corner_rec (with_values st v)) (loops_in st f) ≡ map (corner_rec st) (loops_in st f)
  corners_still f rows = map_members (corner_rec (with_values st v)) (corner_rec st) (loops_in st f)
      (λ l m. corner_still l (rows l m))

  pub face_still : (k : ℕ) → ((s : Slot) → at st.faces.names k ≡ Some s
      → row_of v.faces s.0 ≡ row_of st.values.faces s.0)
      → ((s l : Slot) → at st.faces.names k ≡ Some s → HasMember (loops_in st s.0) l
      → row_of v.loops l.0 ≡ row_of st.values.loops l.0)
      → face_at (with_values st v) k ≡ face_at st k
  face_still k rows corner_rows =
      led (λ s. option_map (face_rec (with_values st v) s.0) (face_in (with_values st v) s.0))
      (λ s. option_map (face_rec st s.0) (face_in st s.0)) (at st.faces.names k) (at st.faces.names k) refl
      (λ s e. (let corners = corners_still s.0 (λ l m. corner_rows s l e m) in
      λ i. option_map (λ (f : StoredFace). let r : FaceRec = record { corners = corners i; vals = f.vals } in r)
      (face_in (with_values st v) s.0))
      ∙ ap (λ (r : List ℤ). option_map (face_rec st s.0) (option_map (face_with r) (at st.faces.cells s.0))) (rows s e))

  pub disk_still : (k : ℕ) → disk_at (with_values st v) k ≡ disk_at st k
  disk_still k =
      let name = edge_name_still in
      λ i. option_map_or (λ (s : Slot). map (λ (e : Slot). name e.0 i) (edges_around st s.0)) (at st.verts.names k) []

  -- ---- the rule

  linked_still : AreLinked st → AreLinked (with_values st v)
  linked_still h =
      let V = λ (x : ℕ). IsAt (vert_in (with_values st v)) x in
      let E = λ (x : ℕ). IsAt (edge_in (with_values st v)) x in
      let F = λ (x : ℕ). IsAt (face_in (with_values st v)) x in
      record {
        a = λ s e is.
            let k = has_key (edge_with (row_of v.edges s)) (at st.edges.cells s) e is in
            let was = h.a s (edge_with (row_of st.values.edges s) k.cell)
            (ap (option_map (edge_with (row_of st.values.edges s))) k.is) in
            subst V (ap (end_of 0) k.same) (vert_is_at (with_values st v) _ (vert_live st _ was));
        b = λ s e is.
            let k = has_key (edge_with (row_of v.edges s)) (at st.edges.cells s) e is in
            let was = h.b s (edge_with (row_of st.values.edges s) k.cell)
            (ap (option_map (edge_with (row_of st.values.edges s))) k.is) in
            subst V (ap (end_of 1) k.same) (vert_is_at (with_values st v) _ (vert_live st _ was));
        vert = λ s l is.
            let k = has_key (loop_with (row_of v.loops s)) (at st.loops s) l is in
            let was = h.vert s (loop_with (row_of st.values.loops s) k.cell)
            (ap (option_map (loop_with (row_of st.values.loops s))) k.is) in
            subst V (ap (λ (x : StoredLoop). x.vert.0) k.same) (vert_is_at (with_values st v) _ (vert_live st _ was));
        edge = λ s l is.
            let k = has_key (loop_with (row_of v.loops s)) (at st.loops s) l is in
            let was = h.edge s (loop_with (row_of st.values.loops s) k.cell)
            (ap (option_map (loop_with (row_of st.values.loops s))) k.is) in
            subst E (ap (λ (x : StoredLoop). x.edge.0) k.same) (edge_is_at (with_values st v) _ (edge_live st _ was));
        face = λ s l is.
            let k = has_key (loop_with (row_of v.loops s)) (at st.loops s) l is in
            let was = h.face s (loop_with (row_of st.values.loops s) k.cell)
            (ap (option_map (loop_with (row_of st.values.loops s))) k.is) in
            subst F (ap (λ (x : StoredLoop). x.face.0) k.same) (face_is_at (with_values st v) _ (face_live st _ was));
      }

  -- the rule stays where the corners that are read are as many
  pub whole_still : (n : Counters) → HaveValues (with_values st v) → IsWhole st n
      → corner_sum (table (face_at (with_values st v)) n.faces) ≡ corner_sum (table (face_at st) n.faces)
      → IsWhole (with_values st v) n
  whole_still n values w sum =
      let r = w.records in
      let z = w.sizes in
      let h = w.cycles in
      record {
        records = record {
          linked = linked_still r.linked;
          named = record { verts = r.named.verts; edges = r.named.edges; faces = r.named.faces };
          below = record { verts = r.below.verts; edges = r.below.edges; faces = r.below.faces };
        };
        cycles = record {
          cycles = cycles_beside_values st v h.cycles;
          complete = record {
            disks = h.complete.disks;
            radials = h.complete.radials;
            rounds = h.complete.rounds;
          };
          counted = h.counted;
        };
        values = values;
        sizes = record {
          vert_limit = z.vert_limit;
          edge_limit = z.edge_limit;
          face_limit = z.face_limit;
          corner_limit = z.corner_limit;
          vert_reach = z.vert_reach;
          edge_reach = z.edge_reach;
          face_reach = z.face_reach;
          verts = z.verts;
          edges = z.edges;
          faces = z.faces;
          loops = z.loops;
        };
        some = λ f is. w.some f (face_is_at st f (face_live (with_values st v) f is));
        corners = w.corners ∙ sym sum;
      }

  -- so is what is read of cycles, and the room
  pub rewrites_with : (n : Counters) (change : Complex → Complex) → HaveValues (with_values st v) → IsWhole st n
      → corner_sum (table (face_at (with_values st v)) n.faces) ≡ corner_sum (table (face_at st) n.faces)
      → ((lists : NameLists) → read_off (with_values st v) n lists ≡ change (read_off st n lists))
      → Rewrites st (with_values st v) n change
  rewrites_with n change values w sum read = record {
    whole = whole_still n values w sum;
    read = read;
    disks = table_same [] (disk_at st) (disk_at (with_values st v)) n.verts (λ k lt. disk_still k);
    room = record { verts = omega arith; edges = omega arith; corners = omega arith; faces = omega arith };
  }

  -- the same where the layers are as before
  pub rewrites_values : (n : Counters) (change : Complex → Complex) → AreValuesFor st v → IsWhole st n
      → corner_sum (table (face_at (with_values st v)) n.faces) ≡ corner_sum (table (face_at st) n.faces)
      → ((lists : NameLists) → read_off (with_values st v) n lists ≡ change (read_off st n lists))
      → Rewrites st (with_values st v) n change
  rewrites_values n change fit w sum read = rewrites_with n change fit.values w sum read
