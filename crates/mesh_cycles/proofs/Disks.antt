-- A disk cycle changes.
use Rattle.std.proofs.Common.{◌≡◌, ◌≢◌, ◌<◌, ℕ, zero, suc, List, [], ◌∷◌, ◌++◌, Option, Some, None, map, refl, sym, ap, ◌∙◌, subst, inl, arith}
use Rattle.std.specs.Option.{option_map, option_map_or, option_and_then}
use Rattle.std.proofs.lemmas.Bool.{eq-eqb, ne_eqb}
use Rattle.std.proofs.lemmas.Option.{same_Some}
use Rattle.raw_pool.specs.declared.pool.Slot.{Slot}
use Rattle.raw_pool.specs.Slots.{IsLive}
use Rattle.link_ring.specs.Members.{HasMember}
use Rattle.link_ring.specs.Ring.{LinkMap, ReadsAs, first_of}
use Rattle.link_ring.specs.Changes.{SameOutside}
use Rattle.link_ring.specs.Limits.{key_of}
use Rattle.link_ring.proofs.Reading.{reads_at, reads_along}
use Rattle.mesh_store.specs.Limits.{is_dart, darts_limited}
use Rattle.mesh_store.specs.Slots.{at, changed}
use Rattle.mesh_store.specs.Stored.{Stored, dart_links, with_first_edge, change_vert, without_disk, beside_darts}
use Rattle.mesh_store.specs.declared.cells.Dart.{Dart}
use Rattle.mesh_store.specs.declared.cells.Radial.{Radial}
use Rattle.mesh_store.specs.declared.cells.Round.{Round}
use Rattle.mesh_store.specs.declared.cells.VertCell.{VertCell}
use Rattle.mesh_store.specs.declared.cells.EdgeCell.{EdgeCell}
use Rattle.mesh_cycles.specs.Owners.{end_on, side_at, dart_at, dart_end, first_dart, first_radial}
use Rattle.mesh_cycles.specs.Lists.{same_dart, same_radial, same_round, without}
use Rattle.mesh_cycles.specs.Cycles.{AreCycles, disk_of, IsInNoDisk, EndsDiffer}
use Rattle.mesh_cycles.specs.Edits.{beside_disk, EditsDisk}
use Rattle.mesh_cycles.proofs.CycleKinds.{Kind, Holds, Changes, cycle_at, own_cycle, other_cycles, still_holds, in_none, near_more, last_more}
use Rattle.mesh_cycles.proofs.RingLists.{parted}
use Rattle.mesh_cycles.proofs.Besides.{disk_bare}
use Rattle.mesh_cycles.proofs.Cells.{told, changed_over, live_cell, changed_here, changed_elsewhere}
use Rattle.mesh_cycles.proofs.Frames.{differ_along, disk_kind, radial_kind, round_kind, disks_hold, radials_hold, rounds_hold, are_cycles, dart_test}

-- ---- the first dart

-- a dart that ends at the vertex is the one that its edge has there
dart_back : (st : Stored) (v : ℕ) (d : Dart) → EndsDiffer st.edges.cells → dart_end st d ≡ Some v → d.side < 2
    → dart_at st v d.edge ≡ d
dart_back st v d differ e low = λ i. record {
  edge = d.edge;
  side = side_back (at st.edges.cells d.edge.0) (λ c p. differ d.edge.0 c p) e i;
}
  where
    side_of : (c : EdgeCell) (s : ℕ) → s < 2 → end_on 0 c ≢ end_on 1 c → end_on s c ≡ v → side_at v c ≡ s
    side_of c zero l n p = rw (eq-eqb (end_on 0 c) v p) refl
    side_of c (suc zero) l n p = rw (ne_eqb (end_on 0 c) v (λ q. n (q ∙ sym p))) refl
    side_of c (suc (suc s)) l n p = absurd (omega arith)

    side_back : (o : Option EdgeCell) → ((c : EdgeCell) → o ≡ Some c → end_on 0 c ≢ end_on 1 c)
        → option_map (end_on d.side) o ≡ Some v → option_map_or (side_at v) o 0 ≡ d.side
    side_back None n p = absurd (let q : None ≡ Some v = p in cc)
    side_back (Some c) n p = side_of c d.side low (n c refl) (same_Some _ _ p)

-- so the edge of a first dart gives the dart back
firsts_back : (f : Slot → Dart) (xs : List Dart) → ((d : Dart) → HasMember xs d → f d.edge ≡ d)
    → option_map f (option_map (λ (d : Dart). d.edge) (first_of xs)) ≡ first_of xs
firsts_back f [] h = refl
firsts_back f (x ∷ xs) h = ap (λ (d : Dart). Some d) (h x (inl refl))

-- ---- a write

-- the first edge of a dart that may be None
abbrev edge_in : Option Dart → Option Slot
edge_in head = option_map (λ (d : Dart). d.edge) head

-- first only disk links were written, and then the first edge of a vertex, by its first dart
pub record WritesDisk (old mid new : Stored) (v : ℕ) (head : Option Dart) : Type 0 where
  pub rest : beside_darts mid ≡ beside_darts old
  pub write : new ≡ change_vert (with_first_edge (edge_in head)) mid v

-- ---- what stays

module _ {old mid new : Stored} {v : ℕ} {head : Option Dart} (w : WritesDisk old mid new v head) where
  -- the edges agree beside their disk links
  edges_beside : map (option_map without_disk) new.edges.cells ≡ map (option_map without_disk) old.edges.cells
  edges_beside = ap (λ (t : Stored). map (option_map without_disk) t.edges.cells) w.write
      ∙ ap (λ (t : Stored). t.edges.cells) w.rest

  -- one vertex has another first edge
  verts_now : new.verts.cells ≡ changed (with_first_edge (edge_in head)) old.verts.cells v
  verts_now = ap (λ (t : Stored). t.verts.cells) w.write
      ∙ ap (λ (t : Stored). changed (with_first_edge (edge_in head)) t.verts.cells v) w.rest

  loops_same : new.loops ≡ old.loops
  loops_same = ap (λ (t : Stored). t.loops) w.write ∙ ap (λ (t : Stored). t.loops) w.rest

  faces_same : new.faces.cells ≡ old.faces.cells
  faces_same = ap (λ (t : Stored). t.faces.cells) w.write ∙ ap (λ (t : Stored). t.faces.cells) w.rest

  -- all but the disk links and that first edge
  disk_beside : beside_disk new v ≡ beside_disk old v
  disk_beside =
      ap (λ (t : Stored). beside_disk t v) w.write
      ∙ ap (λ (cs : List (Option VertCell)). beside_darts (record mid
      { verts = record { cells = cs; names = mid.verts.names } }))
      (changed_over (with_first_edge (edge_in head)) (with_first_edge None) (λ c. refl) mid.verts.cells v)
      ∙ ap (λ (t : Stored). change_vert (with_first_edge None) t v) w.rest

  -- the radial cycles
  radials_stay : radial_kind new ≡ radial_kind old
  radials_stay =
      let firsts : (e : ℕ) → first_radial new e ≡ first_radial old e =
      λ e. told without_disk (option_and_then (λ (c : EdgeCell). option_map (λ (l : Slot). record { 0 = l })
      c.first_loop)) (λ c. refl) old.edges.cells new.edges.cells edges_beside e in
      λ i. record (radial_kind (record old { loops = loops_same i })) { first = λ e. firsts e i }

  -- the loop cycles
  rounds_stay : round_kind new ≡ round_kind old
  rounds_stay = λ i. round_kind (record old {
    loops = loops_same i;
    faces = record { cells = faces_same i; names = old.faces.names };
  })

  -- the ends of edges
  ends_stay : (d : Dart) → dart_end new d ≡ dart_end old d
  ends_stay d = told without_disk (option_map (end_on d.side)) (λ c. refl) old.edges.cells new.edges.cells edges_beside
      d.edge.0

  -- the dart of an edge at a vertex
  darts_stay : (p : ℕ) (e : Slot) → dart_at new p e ≡ dart_at old p e
  darts_stay p e =
      let sides : option_map_or (side_at p) (at new.edges.cells e.0) 0
      ≡ option_map_or (side_at p) (at old.edges.cells e.0) 0 =
      told without_disk (λ (o : Option EdgeCell). option_map_or (side_at p) o 0) (λ c. refl) old.edges.cells
      new.edges.cells edges_beside e.0 in
      λ i. record { edge = e; side = sides i }

  -- the first dart of every other vertex
  other_firsts : (p : ℕ) → p ≢ v → first_dart new p ≡ first_dart old p
  other_firsts p ne =
      let cells : at new.verts.cells p ≡ at old.verts.cells p =
      ap (λ (cs : List (Option VertCell)). at cs p) verts_now
      ∙ changed_elsewhere (with_first_edge (edge_in head)) old.verts.cells v p ne in
      λ i. option_and_then (λ (c : VertCell). option_map (λ (e : Slot). darts_stay p e i) c.first_edge) (cells i)

  -- the two ends of an edge differ
  differ_still : EndsDiffer old.edges.cells → EndsDiffer new.edges.cells
  differ_still = differ_along old.edges.cells new.edges.cells
      (λ s e. ends_stay (record { edge = record { 0 = e }; side = s }))

  -- ---- what changes

  -- the vertex's first dart is the one that its first edge was taken from
  own_first : (now : List Dart) → IsLive old.verts.cells v → EndsDiffer old.edges.cells
      → ReadsAs (dart_links mid) head now
      → ((d : Dart) → HasMember now d → dart_end old d ≡ Some v) → first_dart new v ≡ head
  own_first now live differ r ends =
      let cell = live_cell old.verts.cells v live in
      let there : at new.verts.cells v ≡ Some (with_first_edge (edge_in head) cell.0) =
      ap (λ (cs : List (Option VertCell)). at cs v) verts_now
      ∙ changed_here (with_first_edge (edge_in head)) old.verts.cells v
      ∙ ap (option_map (with_first_edge (edge_in head))) cell.1 in
      ap (option_and_then (λ (c : VertCell). option_map (dart_at new v) c.first_edge)) there
      ∙ ap (λ (o : Option Dart). option_map (dart_at new v) (edge_in o)) r.start
      ∙ firsts_back (dart_at new v) now (λ d m.
      dart_back new v d (differ_still differ) (ends_stay d ∙ ends d m) (side_low now d r m))
      ∙ sym r.start
    where
      side_low : (xs : List Dart) (d : Dart) → ReadsAs (dart_links mid) head xs → HasMember xs d → d.side < 2
      side_low [] d r m = absurd m
      side_low (x ∷ xs) d r m = (is_dart mid d (key_of (dart_links mid) (x ∷ xs) d r.ring.keys m)).1

  -- the disk cycle of the vertex reads as the list `now`
  disk_changes : (touched now : List Dart) → IsLive old.verts.cells v → EndsDiffer old.edges.cells
      → ReadsAs (dart_links mid) head now → SameOutside (dart_links old) (dart_links mid) touched
      → ((d : Dart) → HasMember touched d → dart_end old d ≡ Some v)
      → ((d : Dart) → HasMember now d → dart_end old d ≡ Some v)
      → Changes (disk_kind old) (disk_kind new) v touched now
  disk_changes touched now live differ r outside near ends =
      let links : dart_links new ≡ dart_links mid = ap dart_links w.write in
      let P = λ (m : LinkMap Dart). ReadsAs m head now in
      let Q = λ (m : LinkMap Dart). SameOutside (dart_links old) m touched in
      record {
        reads = reads_at (subst P (sym links) r) (sym (own_first now live differ r ends));
        firsts = other_firsts;
        owners = ends_stay;
        outside = subst Q (sym links) outside;
        near = near;
        members = ends;
        limited = darts_limited new;
      }

  -- what follows of all cycles
  disk_edited : {touched now : List Dart} → AreCycles old → Changes (disk_kind old) (disk_kind new) v touched now
      → EditsDisk old new v touched now
  disk_edited h c =
      let disks = disks_hold old h in
      record {
        own = own_cycle same_dart dart_test c;
        links = c.outside;
        others = other_cycles same_dart dart_test disks c;
        radials = λ e. ap (λ (k : Kind Radial). cycle_at same_radial k e) radials_stay;
        rounds = λ f. ap (λ (k : Kind Round). cycle_at same_round k f) rounds_stay;
        rest = disk_beside;
        stays = disk_bare old new v disk_beside;
        cycles = are_cycles new (still_holds same_dart dart_test disks c)
            (subst (Holds same_radial) (sym radials_stay) (radials_hold old h))
            (subst (Holds same_round) (sym rounds_stay) (rounds_hold old h)) (differ_still h.differ);
      }

-- ---- the two calls, which take what the call of `members` ensures as it stands there

-- a dart is put last
pub disk_added : (old mid new : Stored) (v : ℕ) (d : Dart) {first head : Option Dart} → AreCycles old
    → IsLive old.verts.cells v → dart_end old d ≡ Some v
    → first ≡ first_dart old v → (reads : (xs : List Dart) → ReadsAs (dart_links old) first xs
    → ReadsAs (dart_links mid) head (xs ++ d ∷ []))
    → (others : (xs : List Dart) → ReadsAs (dart_links old) first xs
    → SameOutside (dart_links old) (dart_links mid) (d ∷ xs))
    → WritesDisk old mid new v head → EditsDisk old new v (d ∷ disk_of old v) (disk_of old v ++ d ∷ [])
disk_added old mid new v d h live end is reads others w =
    let disks = disks_hold old h in let r = reads_at (h.disks v) (sym is) in
    disk_edited w h (disk_changes w (d ∷ disk_of old v) (disk_of old v ++ d ∷ []) live h.differ
    (reads (disk_of old v) r) (others (disk_of old v) r)
    (near_more same_dart (disk_kind old) v d disks end) (last_more same_dart (disk_kind old) v d disks end))

-- a dart is taken out
pub disk_removed : (old mid new : Stored) (v : ℕ) (d : Dart) {first head : Option Dart} → AreCycles old
    → IsLive old.verts.cells v → HasMember (disk_of old v) d
    → first ≡ first_dart old v → (reads : (xs ys : List Dart) → ReadsAs (dart_links old) first (xs ++ d ∷ ys)
    → ReadsAs (dart_links mid) head (xs ++ ys))
    → (others : (xs : List Dart) → ReadsAs (dart_links old) first xs → SameOutside (dart_links old) (dart_links mid) xs)
    → WritesDisk old mid new v head → EditsDisk old new v (disk_of old v) (without same_dart d (disk_of old v))
    × IsInNoDisk new d
disk_removed old mid new v d h live member is reads others w =
    let disks = disks_hold old h in let r = reads_at (h.disks v) (sym is) in let s =
    parted same_dart dart_test d (h.disks v) member in
    let c = disk_changes w (disk_of old v) (s.before ++ s.after) live h.differ
    (reads s.before s.after (reads_along r s.whole)) (others (disk_of old v) r)
    (disks.owned v) (λ j m. disks.owned v j (s.within j m)) in
    let P = EditsDisk old new v (disk_of old v) in
    (subst P (sym s.less) (disk_edited w h c), in_none same_dart dart_test disks c d (h.disk_ends v d member) s.out)
