-- A radial cycle changes.
use Rattle.std.proofs.Common.{◌≡◌, ◌*◌, ◌&&◌, ℕ, nat_lt, is_some, List, [], ◌∷◌, ◌++◌, Option, Some, None, map, refl, sym, ap, ◌∙◌, subst}
use Rattle.std.specs.Option.{option_map, option_map_or, option_and_then}
use Rattle.raw_pool.specs.declared.pool.Slot.{Slot}
use Rattle.raw_pool.specs.Slots.{IsLive}
use Rattle.link_ring.specs.Members.{HasMember}
use Rattle.link_ring.specs.Ring.{LinkMap, ReadsAs}
use Rattle.link_ring.specs.Changes.{SameOutside}
use Rattle.link_ring.proofs.Reading.{reads_at, reads_along}
use Rattle.mesh_store.specs.Limits.{radials_limited}
use Rattle.mesh_store.specs.Slots.{at, changed}
use Rattle.mesh_store.specs.Stored.{Stored, radial_links, with_first_loop, change_edge, without_radial, beside_radials, dart_next, dart_prev}
use Rattle.mesh_store.specs.declared.cells.Dart.{Dart}
use Rattle.mesh_store.specs.declared.cells.Radial.{Radial}
use Rattle.mesh_store.specs.declared.cells.Round.{Round}
use Rattle.mesh_store.specs.declared.cells.VertCell.{VertCell}
use Rattle.mesh_store.specs.declared.cells.EdgeCell.{EdgeCell}
use Rattle.mesh_store.specs.declared.cells.LoopCell.{LoopCell}
use Rattle.mesh_cycles.specs.Owners.{end_on, side_at, edge_of, first_dart, first_radial}
use Rattle.mesh_cycles.specs.Lists.{same_dart, same_radial, same_round, without}
use Rattle.mesh_cycles.specs.Cycles.{AreCycles, radial_of, IsInNoRadial}
use Rattle.mesh_cycles.specs.Edits.{beside_radial, EditsRadial}
use Rattle.mesh_cycles.proofs.RingLists.{parted}
use Rattle.mesh_cycles.proofs.CycleKinds.{Kind, Holds, Changes, cycle_at, own_cycle, other_cycles, still_holds, in_none, near_more, last_more}
use Rattle.mesh_cycles.proofs.Besides.{radial_bare}
use Rattle.mesh_cycles.proofs.Cells.{told, as_long, changed_beside, changed_over, live_cell, changed_here, changed_elsewhere, led_back}
use Rattle.mesh_cycles.proofs.Frames.{differ_along, disk_kind, radial_kind, round_kind, disks_hold, radials_hold, rounds_hold, are_cycles, radial_test}

-- the loop by its place in a radial cycle
abbrev as_radial : Slot → Radial
as_radial l = record { 0 = l }

-- the slot of a first loop that may be None
abbrev slot_in : Option Radial → Option Slot
slot_in head = option_map (λ (l : Radial). l.0) head

-- ---- a write

-- first only radial links were written, and then the first loop of an edge
pub record WritesRadial (old mid new : Stored) (e : ℕ) (head : Option Radial) : Type 0 where
  pub rest : beside_radials mid ≡ beside_radials old
  pub write : new ≡ change_edge (with_first_loop (slot_in head)) mid e

module _ {old mid new : Stored} {e : ℕ} {head : Option Radial} (w : WritesRadial old mid new e head) where
  -- ---- what stays

  -- the loops agree beside their radial links
  loops_beside : map (option_map without_radial) new.loops ≡ map (option_map without_radial) old.loops
  loops_beside = ap (λ (t : Stored). map (option_map without_radial) t.loops) w.write
      ∙ ap (λ (t : Stored). t.loops) w.rest

  -- one edge has another first loop
  edges_now : new.edges.cells ≡ changed (with_first_loop (slot_in head)) old.edges.cells e
  edges_now = ap (λ (t : Stored). t.edges.cells) w.write
      ∙ ap (λ (t : Stored). changed (with_first_loop (slot_in head)) t.edges.cells e) w.rest

  -- so the edges agree beside their first loops
  edges_beside : map (option_map (with_first_loop None)) new.edges.cells
      ≡ map (option_map (with_first_loop None)) old.edges.cells
  edges_beside =
      ap (λ (cs : List (Option EdgeCell)). map (option_map (with_first_loop None)) cs) edges_now
      ∙ changed_beside (with_first_loop (slot_in head)) (with_first_loop None) (λ c. refl) old.edges.cells e

  verts_same : new.verts.cells ≡ old.verts.cells
  verts_same = ap (λ (t : Stored). t.verts.cells) w.write ∙ ap (λ (t : Stored). t.verts.cells) w.rest

  faces_same : new.faces.cells ≡ old.faces.cells
  faces_same = ap (λ (t : Stored). t.faces.cells) w.write ∙ ap (λ (t : Stored). t.faces.cells) w.rest

  -- all but the radial links and that first loop
  radial_beside : beside_radial new e ≡ beside_radial old e
  radial_beside =
      ap (λ (t : Stored). beside_radial t e) w.write
      ∙ ap (λ (cs : List (Option EdgeCell)). beside_radials
      (record mid { edges = record { cells = cs; names = mid.edges.names } }))
      (changed_over (with_first_loop (slot_in head)) (with_first_loop None) (λ c. refl) mid.edges.cells e)
      ∙ ap (λ (t : Stored). change_edge (with_first_loop None) t e) w.rest

  -- what g tells of an edge beside its first loop
  edge_told : {Z : Type 0} (g : Option EdgeCell → Z) → ((c : EdgeCell) → g (Some c) ≡ g (Some (with_first_loop None c)))
      → (s : ℕ) → g (at new.edges.cells s) ≡ g (at old.edges.cells s)
  edge_told g same s = told (with_first_loop None) g same old.edges.cells new.edges.cells edges_beside s

  -- what g tells of a loop beside its radial links
  loop_told : {Z : Type 0} (g : Option LoopCell → Z) → ((c : LoopCell) → g (Some c) ≡ g (Some (without_radial c)))
      → (s : ℕ) → g (at new.loops s) ≡ g (at old.loops s)
  loop_told g same s = told without_radial g same old.loops new.loops loops_beside s

  -- the first darts
  firsts_stay : (v : ℕ) → first_dart new v ≡ first_dart old v
  firsts_stay v =
      let sides : (s : Slot) → option_map_or (side_at v) (at new.edges.cells s.0) 0
      ≡ option_map_or (side_at v) (at old.edges.cells s.0) 0 =
      λ s. edge_told (λ (o : Option EdgeCell). option_map_or (side_at v) o 0) (λ c. refl) s.0 in
      λ i. option_and_then (λ (c : VertCell). option_map (λ (s : Slot). record { edge = s; side = sides s i })
      c.first_edge) (at (verts_same i) v)

  -- the disk cycles
  disks_stay : disk_kind new ≡ disk_kind old
  disks_stay =
      let has = λ (d : Dart). edge_told (λ (o : Option EdgeCell). is_some o && nat_lt d.side 2) (λ c. refl) d.edge.0 in
      let next = λ (d : Dart). edge_told (dart_next d) (λ c. refl) d.edge.0 in
      let prev = λ (d : Dart). edge_told (dart_prev d) (λ c. refl) d.edge.0 in
      let owner = λ (d : Dart). edge_told (option_map (end_on d.side)) (λ c. refl) d.edge.0 in
      let long = as_long (with_first_loop None) old.edges.cells new.edges.cells edges_beside in
      λ i. record {
        links = record { has = λ d. has d i; next = λ d. next d i; prev = λ d. prev d i };
        limit = 2 * long i;
        first = λ v. firsts_stay v i;
        owner = λ d. owner d i;
      }

  -- the loop cycles
  rounds_stay : round_kind new ≡ round_kind old
  rounds_stay =
      let has = λ (l : Round). loop_told (λ (o : Option LoopCell). is_some o) (λ c. refl) l.0.0 in
      let next = λ (l : Round). loop_told (λ (o : Option LoopCell). option_map_or (λ (c : LoopCell). c.round_next) o l)
      (λ c. refl) l.0.0 in
      let prev = λ (l : Round). loop_told (λ (o : Option LoopCell). option_map_or (λ (c : LoopCell). c.round_prev) o l)
      (λ c. refl) l.0.0 in
      let owner = λ (l : Round). loop_told (option_map (λ (c : LoopCell). c.face.0)) (λ c. refl) l.0.0 in
      let long = as_long without_radial old.loops new.loops loops_beside in
      λ i. record (round_kind (record old { faces = record { cells = faces_same i; names = old.faces.names } })) {
        links = record { has = λ l. has l i; next = λ l. next l i; prev = λ l. prev l i };
        limit = long i;
        owner = λ l. owner l i;
      }

  -- ---- what changes

  -- the radial cycle of the edge reads as the list `now`
  radial_changes : (touched now : List Radial) → IsLive old.edges.cells e → ReadsAs (radial_links mid) head now
      → SameOutside (radial_links old) (radial_links mid) touched
      → ((l : Radial) → HasMember touched l → edge_of old l.0 ≡ Some e)
      → ((l : Radial) → HasMember now l → edge_of old l.0 ≡ Some e)
      → Changes (radial_kind old) (radial_kind new) e touched now
  radial_changes touched now live r outside near ends =
      let links : radial_links new ≡ radial_links mid = ap radial_links w.write in
      let P = λ (m : LinkMap Radial). ReadsAs m head now in
      let Q = λ (m : LinkMap Radial). SameOutside (radial_links old) m touched in
      let firsts = option_and_then (λ (c : EdgeCell). option_map as_radial c.first_loop) in
      let cell = live_cell old.edges.cells e live in
      let own : first_radial new e ≡ head =
      ap (λ (cs : List (Option EdgeCell)). firsts (at cs e)) edges_now
      ∙ ap firsts (changed_here (with_first_loop (slot_in head)) old.edges.cells e
      ∙ ap (option_map (with_first_loop (slot_in head))) cell.1)
      ∙ led_back as_radial (λ (l : Radial). l.0) (λ l. refl) head in
      record {
        reads = reads_at (subst P (sym links) r) (sym own);
        firsts = λ p ne. ap (λ (cs : List (Option EdgeCell)). firsts (at cs p)) edges_now
            ∙ ap firsts (changed_elsewhere (with_first_loop (slot_in head)) old.edges.cells e p ne);
        owners = λ l. loop_told (option_map (λ (c : LoopCell). c.edge.0)) (λ c. refl) l.0.0;
        outside = subst Q (sym links) outside;
        near = near;
        members = ends;
        limited = radials_limited new;
      }

  -- what follows of all cycles
  radial_edited : {touched now : List Radial} → AreCycles old
      → Changes (radial_kind old) (radial_kind new) e touched now → EditsRadial old new e touched now
  radial_edited h c =
      let radials = radials_hold old h in
      record {
        own = own_cycle same_radial radial_test c;
        links = c.outside;
        disks = λ v. ap (λ (k : Kind Dart). cycle_at same_dart k v) disks_stay;
        others = other_cycles same_radial radial_test radials c;
        rounds = λ f. ap (λ (k : Kind Round). cycle_at same_round k f) rounds_stay;
        rest = radial_beside;
        stays = radial_bare old new e radial_beside;
        cycles = are_cycles new (subst (Holds same_dart) (sym disks_stay) (disks_hold old h))
            (still_holds same_radial radial_test radials c)
            (subst (Holds same_round) (sym rounds_stay) (rounds_hold old h))
            (differ_along old.edges.cells new.edges.cells (λ s p. edge_told (option_map (end_on s)) (λ c. refl) p)
            h.differ);
      }

-- ---- the two calls, which take what the call of `members` ensures as it stands there

-- a loop is put last
pub radial_added : (old mid new : Stored) (e : ℕ) (l : Radial) {first head : Option Radial} → AreCycles old
    → IsLive old.edges.cells e → edge_of old l.0 ≡ Some e
    → first ≡ first_radial old e → (reads : (xs : List Radial) → ReadsAs (radial_links old) first xs
    → ReadsAs (radial_links mid) head (xs ++ l ∷ []))
    → (others : (xs : List Radial) → ReadsAs (radial_links old) first xs
    → SameOutside (radial_links old) (radial_links mid) (l ∷ xs))
    → WritesRadial old mid new e head → EditsRadial old new e (l ∷ radial_of old e) (radial_of old e ++ l ∷ [])
radial_added old mid new e l h live names is reads others w =
    let radials = radials_hold old h in let r = reads_at (h.radials e) (sym is) in
    radial_edited w h (radial_changes w (l ∷ radial_of old e) (radial_of old e ++ l ∷ []) live
    (reads (radial_of old e) r) (others (radial_of old e) r)
    (near_more same_radial (radial_kind old) e l radials names)
    (last_more same_radial (radial_kind old) e l radials names))

-- a loop is taken out
pub radial_removed : (old mid new : Stored) (e : ℕ) (l : Radial) {first head : Option Radial} → AreCycles old
    → IsLive old.edges.cells e → HasMember (radial_of old e) l
    → first ≡ first_radial old e → (reads : (xs ys : List Radial) → ReadsAs (radial_links old) first (xs ++ l ∷ ys)
    → ReadsAs (radial_links mid) head (xs ++ ys))
    → (others : (xs : List Radial) → ReadsAs (radial_links old) first xs
    → SameOutside (radial_links old) (radial_links mid) xs)
    → WritesRadial old mid new e head → EditsRadial old new e (radial_of old e)
    (without same_radial l (radial_of old e)) × IsInNoRadial new l.0
radial_removed old mid new e l h live member is reads others w =
    let radials = radials_hold old h in let r = reads_at (h.radials e) (sym is) in let s =
    parted same_radial radial_test l (h.radials e) member in
    let c = radial_changes w (radial_of old e) (s.before ++ s.after) live
    (reads s.before s.after (reads_along r s.whole)) (others (radial_of old e) r)
    (radials.owned e) (λ j m. radials.owned e j (s.within j m)) in
    let P = EditsRadial old new e (radial_of old e) in (
      subst P (sym s.less) (radial_edited w h c),
      in_none same_radial radial_test radials c l (h.radial_edges e l member) s.out,
    )
