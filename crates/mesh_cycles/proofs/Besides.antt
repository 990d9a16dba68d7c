-- What stays beside a cycle that an edit changes: the live places, their room and names, and the owners of darts and
-- loops.
--
-- A lemma on an edit takes its clause `rest` as it stands there.
use Rattle.std.proofs.Common.{◌≡◌, ◌≢◌, ◌+◌, ◌≤◌, ◌&&◌, ℕ, nat_lt, is_some, List, [], ◌∷◌, Option, Some, None, map, length, refl, sym, ap, ◌∙◌, subst}
use Rattle.std.specs.Option.{option_map}
use Rattle.raw_pool.specs.declared.pool.Slot.{Slot}
use Rattle.raw_pool.specs.Slots.{holds, spare_count, IsLive}
use Rattle.mesh_store.specs.Slots.{at, changed}
use Rattle.mesh_store.specs.Stored.{Stored, dart_links, with_first_edge, with_first_loop, without_disk, without_radial, without_round}
use Rattle.mesh_store.specs.Room.{HasRoom}
use Rattle.mesh_store.specs.declared.cells.Dart.{Dart}
use Rattle.mesh_store.specs.declared.cells.VertCell.{VertCell}
use Rattle.mesh_store.specs.declared.cells.EdgeCell.{EdgeCell}
use Rattle.mesh_store.specs.declared.cells.LoopCell.{LoopCell}
use Rattle.mesh_store.specs.declared.cells.FaceCell.{FaceCell}
use Rattle.mesh_cycles.specs.Owners.{end_on, dart_end, edge_of, face_of, len_of}
use Rattle.mesh_cycles.specs.Edits.{bare_vert, bare_edge, bare_loop, bare_face, bare, beside_disk, beside_radial, beside_round}
use Rattle.mesh_cycles.proofs.Cells.{told, covered, changed_beside, changed_elsewhere}

-- ---- one pool

-- the same places are live, and as many are vacant
pub record SamePool {X : Type 0} (old new : List (Option X)) : Type 0 where
  pub live : (s : ℕ) → holds (at new s) ≡ holds (at old s)
  pub spare : spare_count new ≡ spare_count old

-- a change of each cell leaves the vacant places
spare_map : {X Y : Type 0} (f : X → Y) (xs : List (Option X)) → spare_count (map (option_map f) xs) ≡ spare_count xs
spare_map f [] = refl
spare_map f (None ∷ xs) = ap (λ (n : ℕ). n + 1) (spare_map f xs)
spare_map f (Some x ∷ xs) = spare_map f xs

-- pools are the same where f makes them one
pool_beside : {X : Type 0} (f : X → X) {old new : List (Option X)} → map (option_map f) new ≡ map (option_map f) old
    → SamePool old new
pool_beside {X} f {old} {new} e = record {
  live = told f (λ (o : Option X). holds o) (λ x. refl) old new e;
  spare = sym (spare_map f new) ∙ ap (λ (xs : List (Option X)). spare_count xs) e ∙ spare_map f old;
}

-- equal pools
pool_along : {X : Type 0} {old new : List (Option X)} → new ≡ old → SamePool old new
pool_along {X} e = record {
  live = λ s. ap (λ (xs : List (Option X)). holds (at xs s)) e;
  spare = ap (λ (xs : List (Option X)). spare_count xs) e;
}

-- where a change of one place makes two lists one, f makes them one that covers the change
one_beside : {X : Type 0} (g f : X → X) → ((x : X) → f (g x) ≡ f x) → (old new : List (Option X)) (s : ℕ)
    → changed g new s ≡ changed g old s → map (option_map f) new ≡ map (option_map f) old
one_beside {X} g f covers old new s e =
    sym (changed_beside g f covers new s) ∙ ap (λ (xs : List (Option X)). map (option_map f) xs) e
    ∙ changed_beside g f covers old s

-- what f makes one, g makes one that covers f
covered_by : {X : Type 0} (f g : X → X) → ((x : X) → g (f x) ≡ g x) → (old new : List (Option X))
    → map (option_map f) new ≡ map (option_map f) old → map (option_map g) new ≡ map (option_map g) old
covered_by {X} f g covers old new e = sym (fused new) ∙ ap (λ (xs : List (Option X)). map (option_map g) xs) e
    ∙ fused old
  where
    fused : (xs : List (Option X)) → map (option_map g) (map (option_map f) xs) ≡ map (option_map g) xs
    fused [] = refl
    fused (x ∷ xs) = λ i. covered f g covers x i ∷ fused xs i

-- ---- a store

-- the same places are live and as many are vacant, and each name leads where it led
pub record SamePools (old new : Stored) : Type 0 where
  pub verts : SamePool old.verts.cells new.verts.cells
  pub edges : SamePool old.edges.cells new.edges.cells
  pub loops : SamePool old.loops new.loops
  pub faces : SamePool old.faces.cells new.faces.cells
  pub vert_names : new.verts.names ≡ old.verts.names
  pub edge_names : new.edges.names ≡ old.edges.names
  pub face_names : new.faces.names ≡ old.faces.names

-- what is live stays live
pub still_live : {X : Type 0} {old new : List (Option X)} (s : ℕ) → SamePool old new → IsLive old s → IsLive new s
still_live s p live = p.live s ∙ live

-- room stays
pub still_room : {old new : Stored} {verts edges corners faces : ℕ} {reach : List ℕ} → SamePools old new
    → HasRoom old verts edges corners faces reach → HasRoom new verts edges corners faces reach
still_room {old} {new} {verts} {edges} {corners} {faces} {reach} p r =
    let V = λ (n : ℕ). verts ≤ n in
    let E = λ (n : ℕ). edges ≤ n in
    let C = λ (n : ℕ). corners ≤ n in
    let F = λ (n : ℕ). faces ≤ n in
    let N = λ (k : ℕ). λ (xs : List (Option Slot)). k ≤ length xs in
    record {
      verts = subst V (sym p.verts.spare) r.verts;
      edges = subst E (sym p.edges.spare) r.edges;
      corners = subst C (sym p.loops.spare) r.corners;
      faces = subst F (sym p.faces.spare) r.faces;
      vert_names = subst (N _) (sym p.vert_names) r.vert_names;
      edge_names = subst (N _) (sym p.edge_names) r.edge_names;
      face_names = subst (N _) (sym p.face_names) r.face_names;
    }

-- ---- beside a disk cycle

module _ (old new : Stored) (v : ℕ) (rest : beside_disk new v ≡ beside_disk old v) where
  pub disk_verts : map (option_map (with_first_edge None)) new.verts.cells
      ≡ map (option_map (with_first_edge None)) old.verts.cells
  disk_verts = one_beside (with_first_edge None) (with_first_edge None) (λ c. refl) old.verts.cells new.verts.cells v
      (ap (λ (t : Stored). t.verts.cells) rest)

  pub disk_edges : map (option_map without_disk) new.edges.cells ≡ map (option_map without_disk) old.edges.cells
  disk_edges = ap (λ (t : Stored). t.edges.cells) rest

  pub disk_pools : SamePools old new
  disk_pools = record {
    verts = pool_beside (with_first_edge None) disk_verts;
    edges = pool_beside without_disk disk_edges;
    loops = pool_along (ap (λ (t : Stored). t.loops) rest);
    faces = pool_along (ap (λ (t : Stored). t.faces.cells) rest);
    vert_names = ap (λ (t : Stored). t.verts.names) rest;
    edge_names = ap (λ (t : Stored). t.edges.names) rest;
    face_names = ap (λ (t : Stored). t.faces.names) rest;
  }

  -- darts are there as before
  pub disk_darts : (d : Dart) → (dart_links new).has d ≡ (dart_links old).has d
  disk_darts d = told without_disk (λ (o : Option EdgeCell). is_some o && nat_lt d.side 2) (λ c. refl) old.edges.cells
      new.edges.cells disk_edges d.edge.0

  -- and end where they did
  pub disk_ends : (d : Dart) → dart_end new d ≡ dart_end old d
  disk_ends d = told without_disk (option_map (end_on d.side)) (λ c. refl) old.edges.cells new.edges.cells disk_edges
      d.edge.0

  -- faces are as long
  pub disk_lens : (f : ℕ) → len_of new f ≡ len_of old f
  disk_lens f = ap (λ (t : Stored). len_of t f) rest

  -- so is everything but cycles
  pub disk_bare : bare new ≡ bare old
  disk_bare =
      let edges = covered_by without_disk bare_edge (λ c. refl) old.edges.cells new.edges.cells disk_edges in
      λ i. record {
        verts = record { cells = disk_verts i; names = (rest i).verts.names };
        edges = record { cells = edges i; names = (rest i).edges.names };
        loops = map (option_map bare_loop) (rest i).loops;
        faces = record { cells = map (option_map bare_face) (rest i).faces.cells; names = (rest i).faces.names };
        values = (rest i).values;
      }

-- ---- beside a radial cycle

module _ (old new : Stored) (e : ℕ) (rest : beside_radial new e ≡ beside_radial old e) where
  pub radial_loops : map (option_map without_radial) new.loops ≡ map (option_map without_radial) old.loops
  radial_loops = ap (λ (t : Stored). t.loops) rest

  pub radial_edges : map (option_map (with_first_loop None)) new.edges.cells
      ≡ map (option_map (with_first_loop None)) old.edges.cells
  radial_edges = one_beside (with_first_loop None) (with_first_loop None) (λ c. refl) old.edges.cells new.edges.cells e
      (ap (λ (t : Stored). t.edges.cells) rest)

  pub radial_pools : SamePools old new
  radial_pools = record {
    verts = pool_along (ap (λ (t : Stored). t.verts.cells) rest);
    edges = pool_beside (with_first_loop None) radial_edges;
    loops = pool_beside without_radial radial_loops;
    faces = pool_along (ap (λ (t : Stored). t.faces.cells) rest);
    vert_names = ap (λ (t : Stored). t.verts.names) rest;
    edge_names = ap (λ (t : Stored). t.edges.names) rest;
    face_names = ap (λ (t : Stored). t.faces.names) rest;
  }

  -- loops name the same edges
  pub radial_edge_of : (l : Slot) → edge_of new l ≡ edge_of old l
  radial_edge_of l = told without_radial (option_map (λ (c : LoopCell). c.edge.0)) (λ c. refl) old.loops new.loops
      radial_loops l.0

  -- and the same faces
  pub radial_face_of : (l : Slot) → face_of new l ≡ face_of old l
  radial_face_of l = told without_radial (option_map (λ (c : LoopCell). c.face.0)) (λ c. refl) old.loops new.loops
      radial_loops l.0

  -- faces are as long
  pub radial_lens : (f : ℕ) → len_of new f ≡ len_of old f
  radial_lens f = ap (λ (t : Stored). len_of t f) rest

  -- so is everything but cycles
  pub radial_bare : bare new ≡ bare old
  radial_bare =
      let edges = covered_by (with_first_loop None) bare_edge (λ c. refl) old.edges.cells new.edges.cells radial_edges
      in
      let loops = covered_by without_radial bare_loop (λ c. refl) old.loops new.loops radial_loops in
      λ i. record {
        verts = record { cells = map (option_map bare_vert) (rest i).verts.cells; names = (rest i).verts.names };
        edges = record { cells = edges i; names = (rest i).edges.names };
        loops = loops i;
        faces = record { cells = map (option_map bare_face) (rest i).faces.cells; names = (rest i).faces.names };
        values = (rest i).values;
      }

-- ---- beside a loop cycle

module _ (old new : Stored) (f : ℕ) (rest : beside_round new f ≡ beside_round old f) where
  pub round_loops : map (option_map without_round) new.loops ≡ map (option_map without_round) old.loops
  round_loops = ap (λ (t : Stored). t.loops) rest

  pub round_faces : map (option_map bare_face) new.faces.cells ≡ map (option_map bare_face) old.faces.cells
  round_faces = one_beside bare_face bare_face (λ c. refl) old.faces.cells new.faces.cells f
      (ap (λ (t : Stored). t.faces.cells) rest)

  pub round_pools : SamePools old new
  round_pools = record {
    verts = pool_along (ap (λ (t : Stored). t.verts.cells) rest);
    edges = pool_along (ap (λ (t : Stored). t.edges.cells) rest);
    loops = pool_beside without_round round_loops;
    faces = pool_beside bare_face round_faces;
    vert_names = ap (λ (t : Stored). t.verts.names) rest;
    edge_names = ap (λ (t : Stored). t.edges.names) rest;
    face_names = ap (λ (t : Stored). t.faces.names) rest;
  }

  -- loops name the same faces
  pub round_face_of : (l : Slot) → face_of new l ≡ face_of old l
  round_face_of l = told without_round (option_map (λ (c : LoopCell). c.face.0)) (λ c. refl) old.loops new.loops
      round_loops l.0

  -- every other face is as long
  pub round_lens : (g : ℕ) → g ≢ f → len_of new g ≡ len_of old g
  round_lens g ne =
      let other = λ (t : Stored). changed_elsewhere bare_face t.faces.cells f g ne in
      ap (option_map (λ (c : FaceCell). c.len)) (sym (other new) ∙ ap (λ (t : Stored). at t.faces.cells g) rest
      ∙ other old)

  -- so is everything but cycles
  pub round_bare : bare new ≡ bare old
  round_bare =
      let loops = covered_by without_round bare_loop (λ c. refl) old.loops new.loops round_loops in
      λ i. record {
        verts = record { cells = map (option_map bare_vert) (rest i).verts.cells; names = (rest i).verts.names };
        edges = record { cells = map (option_map bare_edge) (rest i).edges.cells; names = (rest i).edges.names };
        loops = loops i;
        faces = record { cells = round_faces i; names = (rest i).faces.names };
        values = (rest i).values;
      }

-- ---- what a bare store tells

module _ (old new : Stored) (e : bare new ≡ bare old) where
  -- of each vertex all but its first edge
  pub bare_vert_told : {Z : Type 0} (g : Option VertCell → Z) → ((c : VertCell) → g (Some c) ≡ g (Some (bare_vert c)))
      → (s : ℕ) → g (at new.verts.cells s) ≡ g (at old.verts.cells s)
  bare_vert_told g same s = told bare_vert g same old.verts.cells new.verts.cells (ap (λ (t : Stored). t.verts.cells) e)
      s

  -- of each edge all but its disk links and its first loop
  pub bare_edge_told : {Z : Type 0} (g : Option EdgeCell → Z) → ((c : EdgeCell) → g (Some c) ≡ g (Some (bare_edge c)))
      → (s : ℕ) → g (at new.edges.cells s) ≡ g (at old.edges.cells s)
  bare_edge_told g same s = told bare_edge g same old.edges.cells new.edges.cells (ap (λ (t : Stored). t.edges.cells) e)
      s

  -- of each loop its vertex, its edge and its face
  pub bare_loop_told : {Z : Type 0} (g : Option LoopCell → Z) → ((c : LoopCell) → g (Some c) ≡ g (Some (bare_loop c)))
      → (s : ℕ) → g (at new.loops s) ≡ g (at old.loops s)
  bare_loop_told g same s = told bare_loop g same old.loops new.loops (ap (λ (t : Stored). t.loops) e) s

  -- of each face its number
  pub bare_face_told : {Z : Type 0} (g : Option FaceCell → Z) → ((c : FaceCell) → g (Some c) ≡ g (Some (bare_face c)))
      → (s : ℕ) → g (at new.faces.cells s) ≡ g (at old.faces.cells s)
  bare_face_told g same s = told bare_face g same old.faces.cells new.faces.cells (ap (λ (t : Stored). t.faces.cells) e)
      s

  -- the live places, their number and the names
  pub bare_pools : SamePools old new
  bare_pools = record {
    verts = pool_beside bare_vert (ap (λ (t : Stored). t.verts.cells) e);
    edges = pool_beside bare_edge (ap (λ (t : Stored). t.edges.cells) e);
    loops = pool_beside bare_loop (ap (λ (t : Stored). t.loops) e);
    faces = pool_beside bare_face (ap (λ (t : Stored). t.faces.cells) e);
    vert_names = ap (λ (t : Stored). t.verts.names) e;
    edge_names = ap (λ (t : Stored). t.edges.names) e;
    face_names = ap (λ (t : Stored). t.faces.names) e;
  }
