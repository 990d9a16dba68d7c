-- The rule of a mesh stays where the elements and the cycles stay.
use Rattle.std.proofs.Common.{◌≡◌, ◌≤◌, ◌+◌, ◌^◌, ◌&&◌, ℕ, ℤ, Bool, is_some, nat_lt, List, [], ◌∷◌, Option, None, length, refl, sym, ap, ◌∙◌, inl, inr, arith, length-append}
use Rattle.std.specs.Option.{option_map}
use Rattle.std.proofs.lemmas.Bool.{cases_lt}
use Rattle.std.proofs.lemmas.List.{length-replicate}
use Rattle.raw_pool.specs.declared.pool.Slot.{Slot}
use Rattle.raw_pool.specs.Slots.{spare_count, GrowsFor}
use Rattle.raw_pool.proofs.Growing.{spare_push}
use Rattle.link_ring.proofs.Members.{member_of}
use Rattle.mesh_store.specs.Slots.{at, WidensTo}
use Rattle.mesh_store.specs.Naming.{AreNamed}
use Rattle.mesh_store.specs.Stored.{Stored, dart_links}
use Rattle.mesh_store.specs.Parts.{HasRows}
use Rattle.mesh_store.specs.Room.{WidensStore, HasRoom}
use Rattle.mesh_store.specs.declared.layers.Layers.{Layers}
use Rattle.mesh_store.specs.declared.cells.Dart.{Dart}
use Rattle.mesh_store.specs.declared.cells.VertCell.{VertCell}
use Rattle.mesh_store.specs.declared.cells.EdgeCell.{EdgeCell}
use Rattle.mesh_store.specs.declared.cells.LoopCell.{LoopCell}
use Rattle.mesh_store.specs.declared.cells.FaceCell.{FaceCell}
use Rattle.mesh_store.proofs.Growth.{at_longer}
use Rattle.mesh_cycles.specs.Owners.{dart_end, edge_of, face_of, len_of}
use Rattle.mesh_cycles.specs.Cycles.{AreCycles, HaveCycles, disk_of, round_of}
use Rattle.mesh_cycles.specs.Adds.{SameCycles}
use Rattle.mesh_cycles.proofs.Elements.{room_made, at_grown}
use Rattle.mesh_cycles.proofs.Completeness.{whole_same, counted_same}
use Rattle.mesh_model.specs.Complex.{Complex, corner_sum}
use Rattle.mesh_model.specs.declared.records.Counters.{Counters}
use Rattle.mesh_records.specs.ReadOff.{NameLists}
use Rattle.mesh_records.specs.Room.{Amounts}
use Rattle.mesh_records.specs.AtSlots.{StoredVert, StoredEdge, StoredLoop, StoredFace, end_of}
use Rattle.mesh_records.specs.ReadOff.{table, vert_at, edge_at, face_at, disk_at, read_off, layers_in}
use Rattle.mesh_records.specs.Room.{Covers, room_in, UsesAtMost}
use Rattle.mesh_records.specs.Frames.{SameElements, StaysWhole}
use Rattle.mesh_records.specs.Whole.{AreLinked, AreDirectories, AreRecords, AreSizes, IsFew, HaveLoops, IsWhole}
use Rattle.mesh_records.proofs.Options.{has_key, some_told, still_at}
use Rattle.mesh_records.proofs.Elements.{vert_number, edge_number, face_number, dart_end_in, edge_of_in, face_of_in, same_extend}
use Rattle.mesh_records.proofs.Tables.{table_same}
use Rattle.mesh_records.proofs.Values.{told_widened, table_widened, layers_widened}
use Rattle.mesh_records.proofs.Reading.{vert_same, edge_same, face_same, disk_same}

-- ---- directories

-- a directory leads as before
pub named_stay : {X : Type 0} (number : X → ℕ) (cells more : List (Option X)) (names more_names : List (Option Slot))
    → ((s : ℕ) → option_map number (at more s) ≡ option_map number (at cells s))
    → ((k : ℕ) → at more_names k ≡ at names k) → AreNamed number cells names → AreNamed number more more_names
named_stay {X} number cells more names more_names keys same n = record {
  named = λ s x e.
      let was = has_key number (at cells s) (number x) (sym (keys s) ∙ ap (option_map number) e) in
      same (number x) ∙ ap (λ (m : ℕ). at names m) (sym was.same) ∙ n.named s was.cell was.is;
  live = λ k s e. keys s.0 ∙ n.live k s (sym (same k) ∙ e);
}

-- ---- cycles

-- what the cycles go by: which darts are there and where they end, the edges and faces of loops, and lengths
pub record SameOwners (old new : Stored) : Type 0 where
  pub darts : (d : Dart) → (dart_links new).has d ≡ (dart_links old).has d
  pub ends : (d : Dart) → dart_end new d ≡ dart_end old d
  pub edges : (l : Slot) → edge_of new l ≡ edge_of old l
  pub faces : (l : Slot) → face_of new l ≡ face_of old l
  pub lens : (f : ℕ) → len_of new f ≡ len_of old f

-- cycles that have their members have all that belongs to them
pub cycles_stay : (old new : Stored) → SameOwners old new → SameCycles old new → HaveCycles old → HaveCycles new
cycles_stay old new o s h = record {
  cycles = s.cycles;
  complete = record {
    disks = whole_same old new o.darts o.ends s.disks h.complete.disks;
    radials = λ l e is. member_of _ (h.complete.radials l e (sym (o.edges l) ∙ is)) (sym (s.radials e));
    rounds = λ l f is. member_of _ (h.complete.rounds l f (sym (o.faces l) ∙ is)) (sym (s.rounds f));
  };
  counted = counted_same old new o.lens s.rounds h.counted;
}

-- values are no part of a cycle
pub cycles_beside_values : (st : Stored) (values : Layers) → AreCycles st → AreCycles (record st { values = values })
cycles_beside_values st values h = record {
  disks = h.disks;
  radials = h.radials;
  rounds = h.rounds;
  disk_ends = h.disk_ends;
  radial_edges = h.radial_edges;
  round_faces = h.round_faces;
  differ = h.differ;
}

-- ---- the same elements

module _ (old new : Stored) (k : SameElements old new) where
  pub darts_same : (d : Dart) → (dart_links new).has d ≡ (dart_links old).has d
  darts_same d =
      let was = some_told (λ (c : EdgeCell). c.number) (at old.edges.cells d.edge.0) in
      let is = some_told (λ (c : EdgeCell). c.number) (at new.edges.cells d.edge.0) in
      let number = λ (o : Option StoredEdge). is_some (option_map (λ (e : StoredEdge). e.number) o) in
      ap (λ (b : Bool). b && nat_lt d.side 2)
      (sym is ∙ ap (λ (o : Option ℕ). is_some o) (sym (edge_number new d.edge.0)) ∙ ap number (k.edges d.edge.0)
      ∙ ap (λ (o : Option ℕ). is_some o) (edge_number old d.edge.0) ∙ was)

  pub ends_same : (d : Dart) → dart_end new d ≡ dart_end old d
  ends_same d = sym (dart_end_in new d) ∙ ap (option_map (end_of d.side)) (k.edges d.edge.0) ∙ dart_end_in old d

  pub edges_of_same : (l : Slot) → edge_of new l ≡ edge_of old l
  edges_of_same l = sym (edge_of_in new l) ∙ ap (option_map (λ (m : StoredLoop). m.edge.0)) (k.loops l.0)
      ∙ edge_of_in old l

  pub faces_of_same : (l : Slot) → face_of new l ≡ face_of old l
  faces_of_same l = sym (face_of_in new l) ∙ ap (option_map (λ (m : StoredLoop). m.face.0)) (k.loops l.0)
      ∙ face_of_in old l

  -- so the cycles have the same owners
  pub owners_stay : ((f : ℕ) → len_of new f ≡ len_of old f) → SameOwners old new
  owners_stay lens = record {
    darts = darts_same;
    ends = ends_same;
    edges = edges_of_same;
    faces = faces_of_same;
    lens = lens;
  }

  pub some_stay : SameCycles old new → HaveLoops old → HaveLoops new
  some_stay s h f is e = h f (sym (ap (λ (o : Option StoredFace). is_some o) (k.faces f)) ∙ is) (sym (s.rounds f) ∙ e)

  pub linked_stay : AreLinked old → AreLinked new
  linked_stay l =
      let x = same_extend k in
      record {
        a = λ s e is. still_at (end_of 0 e) x.verts (l.a s e (sym (k.edges s) ∙ is));
        b = λ s e is. still_at (end_of 1 e) x.verts (l.b s e (sym (k.edges s) ∙ is));
        vert = λ s m is. still_at m.vert.0 x.verts (l.vert s m (sym (k.loops s) ∙ is));
        edge = λ s m is. still_at m.edge.0 x.edges (l.edge s m (sym (k.loops s) ∙ is));
        face = λ s m is. still_at m.face.0 x.faces (l.face s m (sym (k.loops s) ∙ is));
      }

  named_all : AreDirectories old → AreDirectories new
  named_all d = record {
    verts = named_stay (λ (c : VertCell). c.number) old.verts.cells new.verts.cells old.verts.names new.verts.names
        (λ s. sym (vert_number new s) ∙ ap (option_map (λ (v : StoredVert). v.number)) (k.verts s) ∙ vert_number old s)
        k.vert_names d.verts;
    edges = named_stay (λ (c : EdgeCell). c.number) old.edges.cells new.edges.cells old.edges.names new.edges.names
        (λ s. sym (edge_number new s) ∙ ap (option_map (λ (v : StoredEdge). v.number)) (k.edges s) ∙ edge_number old s)
        k.edge_names d.edges;
    faces = named_stay (λ (c : FaceCell). c.number) old.faces.cells new.faces.cells old.faces.names new.faces.names
        (λ s. sym (face_number new s) ∙ ap (option_map (λ (v : StoredFace). v.number)) (k.faces s) ∙ face_number old s)
        k.face_names d.faces;
  }

  pub records_stay : (n : Counters) → AreRecords old n → AreRecords new n
  records_stay n r = record {
    linked = linked_stay r.linked;
    named = named_all r.named;
    below = record {
      verts = λ j le. k.vert_names j ∙ r.below.verts j le;
      edges = λ j le. k.edge_names j ∙ r.below.edges j le;
      faces = λ j le. k.face_names j ∙ r.below.faces j le;
    };
  }

  -- ---- what is read

  pub read_stays : (n : Counters) → AreRecords old n → AreCycles old → ((f : ℕ) → round_of new f ≡ round_of old f)
      → (lists : NameLists) → read_off new n lists ≡ read_off old n lists
  read_stays n r h rounds lists =
      let x = same_extend k in
      let verts = table_same None (vert_at old) (vert_at new) n.verts
      (λ j lt. vert_same old new x r.named.verts j (k.vert_names j)) in
      let edges = table_same None (edge_at old) (edge_at new) n.edges
      (λ j lt. edge_same old new x r.linked r.named.edges j (k.edge_names j)) in
      let faces = table_same None (face_at old) (face_at new) n.faces
      (λ j lt. face_same old new x r.linked h r.named.faces j (k.face_names j) (λ s e. rounds s.0)) in
      let layers = k.layers in
      λ i. record {
        verts = verts i;
        edges = edges i;
        faces = faces i;
        layers = layers i;
        materials = lists.materials;
        libraries = lists.libraries;
      }

  pub disks_stay : (n : Counters) → AreCycles old → ((v : ℕ) → disk_of new v ≡ disk_of old v)
      → table (disk_at new) n.verts ≡ table (disk_at old) n.verts
  disks_stay n h disks = table_same [] (disk_at old) (disk_at new) n.verts
      (λ j lt. disk_same old new (same_extend k) h j (k.vert_names j) (λ s e. disks s.0))

-- ---- room is made

-- vacant places at the end are spare
spare_grown : {X : Type 0} {old new : List (Option X)} {n most : ℕ} (g : GrowsFor old new n most)
    → spare_count new ≡ spare_count old + g.more
spare_grown {X} {old} g = ap (λ (xs : List (Option X)). spare_count xs) g.same ∙ spare_push old g.more

few_grown : {X : Type 0} (old new : List (Option X)) (given n chunk : ℕ) → given ≤ 2 ^ 24 → n ≤ 2 ^ 24 → chunk ≡ 1024
    → IsFew old given → GrowsFor old new n chunk → (n ≤ spare_count old → new ≡ old) → IsFew new given
few_grown {X} old new given n chunk g m size few grows same =
    let long : length new ≡ length old + grows.more = ap length grows.same ∙ simp (length-append, length-replicate) in
    let spare = spare_grown grows in
    let live = few.live in
    let small = few.small in
    record {
      live = omega arith;
      small = elim (cases_lt (spare_count old) n) [
        | inl lt ↦ (let more = grows.few lt in omega arith)
        | inr ge ↦ (let equal : length new ≡ length old =
            ap (λ (xs : List (Option X)). length xs) (same ge) in omega arith)
      ];
    }

-- names lead as before
at_widened : {old new : List (Option Slot)} {bound : ℕ} → WidensTo old new bound → (k : ℕ) → at new k ≡ at old k
at_widened {old} w k = ap (λ (xs : List (Option Slot)). at xs k) w.same ∙ at_longer old w.more k

-- and the reach grows
reach_grown : {old new : List (Option Slot)} {bound : ℕ} → WidensTo old new bound → length old ≤ length new
reach_grown {old} {new} w = let long : length new ≡ length old + w.more =
    ap length w.same ∙ simp (length-append, length-replicate) in omega arith

-- what room covers there is room for
pub has_room : (st : Stored) (n : Counters) (a : Amounts) → AreSizes st n → Covers (room_in st n) a
    → HasRoom st a.verts a.edges a.corners a.faces ((n.verts + a.verts) ∷ (n.edges + a.edges) ∷ (n.faces + a.faces)
    ∷ [])
has_room st n a z c =
    let v = c.verts in
    let e = c.edges in
    let l = c.corners in
    let f = c.faces in
    let vr = z.vert_reach in
    let er = z.edge_reach in
    let fr = z.face_reach in
    record {
      verts = omega arith;
      edges = omega arith;
      corners = omega arith;
      faces = omega arith;
      vert_names = omega arith;
      edge_names = omega arith;
      face_names = omega arith;
    }

-- nothing that is asked for is too much
pub record AreModest (a b c d : ℕ) : Type 0 where
  pub verts : a ≤ 2 ^ 24
  pub edges : b ≤ 2 ^ 24
  pub corners : c ≤ 2 ^ 24
  pub faces : d ≤ 2 ^ 24

module _ (old new : Stored) (n : Counters) (a b c d : ℕ) (reach : List ℕ) (w : IsWhole old n)
    (g : WidensStore old new a b c d 1024 reach) where
  widened_same : SameElements old new
  widened_same =
      let rows = w.values.rows in
      let verts = layers_widened g.vert_rows in
      let edges = layers_widened g.edge_rows in
      let loops = layers_widened g.loop_rows in
      let faces = layers_widened g.face_rows in
      let layers : layers_in new ≡ layers_in old =
      λ i. record { verts = verts i; edges = edges i; corners = loops i; faces = faces i } in
      record {
        verts = told_widened (λ (k : VertCell) (r : List ℤ). let v : StoredVert =
            record { number = k.number; point = k.point; vals = r } in v)
            old.verts.cells new.verts.cells old.values.verts new.values.verts _ g.vert_rows
            (at_grown g.verts.cells.grows) rows.verts;
        edges = told_widened (λ (k : EdgeCell) (r : List ℤ). let v : StoredEdge =
            record { number = k.number; ends = k.ends; vals = r } in v)
            old.edges.cells new.edges.cells old.values.edges new.values.edges _ g.edge_rows
            (at_grown g.edges.cells.grows) rows.edges;
        loops = told_widened (λ (k : LoopCell) (r : List ℤ). let v : StoredLoop =
            record { vert = k.vert; edge = k.edge; face = k.face; vals = r } in v)
            old.loops new.loops old.values.loops new.values.loops _ g.loop_rows (at_grown g.loops.grows) rows.loops;
        faces = told_widened (λ (k : FaceCell) (r : List ℤ). let v : StoredFace =
            record { number = k.number; vals = r } in v)
            old.faces.cells new.faces.cells old.values.faces new.values.faces _ g.face_rows
            (at_grown g.faces.cells.grows) rows.faces;
        vert_names = at_widened g.verts.names;
        edge_names = at_widened g.edges.names;
        face_names = at_widened g.faces.names;
        layers = layers;
      }

  widened_room : UsesAtMost (record { verts = 0; edges = 0; corners = 0; faces = 0 }) (room_in old n) (room_in new n)
  widened_room =
      let v = spare_grown g.verts.cells.grows in
      let e = spare_grown g.edges.cells.grows in
      let l = spare_grown g.loops.grows in
      let f = spare_grown g.faces.cells.grows in
      let vr = reach_grown g.verts.names in
      let er = reach_grown g.edges.names in
      let fr = reach_grown g.faces.names in
      record { verts = omega arith; edges = omega arith; corners = omega arith; faces = omega arith }

  widened_sizes : AreModest a b c d → AreSizes new n
  widened_sizes m =
      let z = w.sizes in
      let vl = z.vert_limit in
      let el = z.edge_limit in
      let fl = z.face_limit in
      let vr = z.vert_reach in
      let er = z.edge_reach in
      let fr = z.face_reach in
      let vg = reach_grown g.verts.names in
      let eg = reach_grown g.edges.names in
      let fg = reach_grown g.faces.names in
      record {
        vert_limit = vl;
        edge_limit = el;
        face_limit = fl;
        corner_limit = z.corner_limit;
        vert_reach = omega arith;
        edge_reach = omega arith;
        face_reach = omega arith;
        verts = few_grown old.verts.cells new.verts.cells n.verts a 1024 (omega arith) m.verts refl z.verts
            g.verts.cells.grows g.verts.cells.enough;
        edges = few_grown old.edges.cells new.edges.cells n.edges b 1024 (omega arith) m.edges refl z.edges
            g.edges.cells.grows g.edges.cells.enough;
        faces = few_grown old.faces.cells new.faces.cells n.faces d 1024 (omega arith) m.faces refl z.faces
            g.faces.cells.grows g.faces.cells.enough;
        loops = few_grown old.loops new.loops n.corners c 1024 z.corner_limit m.corners refl z.loops g.loops.grows
            g.loops.enough;
      }

  pub widened : AreModest a b c d → HasRows new → StaysWhole old new n
  widened m rows =
      let k = widened_same in
      let same = room_made old new a b c d 1024 reach w.cycles.cycles g in
      let lens = λ (f : ℕ). ap (option_map (λ (x : FaceCell). x.len)) (at_grown g.faces.cells.grows f) in
      let read = read_stays old new k n w.records w.cycles.cycles same.rounds in
      let none : NameLists = record { materials = []; libraries = [] } in
      let v = w.values in
      record {
        whole = record {
          records = records_stay old new k n w.records;
          cycles = cycles_stay old new (owners_stay old new k lens) same w.cycles;
          values = record {
            verts = table_widened g.vert_rows v.verts;
            edges = table_widened g.edge_rows v.edges;
            loops = table_widened g.loop_rows v.loops;
            faces = table_widened g.face_rows v.faces;
            rows = rows;
          };
          sizes = widened_sizes m;
          some = some_stay old new k same w.some;
          corners = w.corners ∙ ap (λ (x : Complex). corner_sum x.faces) (sym (read none));
        };
        same = k;
        read = read;
        disks = disks_stay old new k n w.cycles.cycles same.disks;
        room = widened_room;
      }
