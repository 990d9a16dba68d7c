-- A store changes, and no cycle does: each begins with the same member, and the cells that it goes through stay.
use Rattle.std.proofs.Common.{◌≡◌, ◌&&◌, ℕ, Bool, nat_lt, is_some, List, [], Option, Some, None, refl, sym, ap, ◌∙◌, inl}
use Rattle.std.specs.Option.{option_map, option_map_or, option_and_then}
use Rattle.raw_pool.specs.declared.pool.Slot.{Slot}
use Rattle.link_ring.specs.Members.{HasMember}
use Rattle.link_ring.specs.Ring.{LinkMap, ReadsAs}
use Rattle.link_ring.proofs.Members.{member_of}
use Rattle.link_ring.proofs.Paths.{IsIdentityTest, IsLimit}
use Rattle.link_ring.proofs.Reading.{first_begins, reads_at, reads_along}
use Rattle.link_ring.proofs.Rings.{SameOn, ring_same}
use Rattle.mesh_store.specs.Limits.{darts_limited, radials_limited, rounds_limited}
use Rattle.mesh_store.specs.Slots.{at}
use Rattle.mesh_store.specs.Stored.{Stored, dart_next, dart_prev, no_slot, without_radial, without_round}
use Rattle.mesh_store.specs.declared.cells.Dart.{Dart}
use Rattle.mesh_store.specs.declared.cells.Radial.{Radial}
use Rattle.mesh_store.specs.declared.cells.Round.{Round}
use Rattle.mesh_store.specs.declared.cells.VertCell.{VertCell}
use Rattle.mesh_store.specs.declared.cells.EdgeCell.{EdgeCell}
use Rattle.mesh_store.specs.declared.cells.LoopCell.{LoopCell}
use Rattle.mesh_cycles.specs.Owners.{end_on, side_at, dart_at, first_dart, first_radial, first_round}
use Rattle.mesh_cycles.specs.Lists.{same_dart, same_radial, same_round}
use Rattle.mesh_cycles.specs.Cycles.{AreCycles, disk_of, radial_of, round_of, EndsDiffer}
use Rattle.mesh_cycles.specs.Adds.{SameCycles}
use Rattle.mesh_cycles.proofs.RingLists.{list_read}
use Rattle.mesh_cycles.proofs.CycleKinds.{Kind, Holds, cycle_at}
use Rattle.mesh_cycles.proofs.Cells.{kept}
use Rattle.mesh_cycles.proofs.Frames.{dart_test, radial_test, round_test, disk_kind, radial_kind, round_kind, disks_hold, radials_hold, rounds_hold, are_cycles}

-- ---- one kind of cycles

-- each cycle begins with the same member, and the links and the owner of each member stay
pub record Keeps {K : Type 0} (same : K → K → Bool) (old new : Kind K) : Type 0 where
  pub firsts : (o : ℕ) → new.first o ≡ old.first o
  pub links : (o : ℕ) → SameOn old.links new.links (cycle_at same old o)
  pub owners : (o : ℕ) (k : K) → HasMember (cycle_at same old o) k → new.owner k ≡ old.owner k
  pub limited : IsLimit new.links new.limit

module _ {K : Type 0} (same : K → K → Bool) (t : IsIdentityTest same) where
  -- so each reads as before
  kept_reads : {old new : Kind K} → Holds same old → Keeps same old new → (o : ℕ)
      → ReadsAs new.links (new.first o) (cycle_at same old o)
  kept_reads {old} {new} h k o = record {
    ring = ring_same (cycle_at same old o) (k.links o) (h.reads o).ring;
    start = k.firsts o ∙ (h.reads o).start;
  }

  -- has the same members
  kept_cycles : {old new : Kind K} → Holds same old → Keeps same old new → (o : ℕ)
      → cycle_at same new o ≡ cycle_at same old o
  kept_cycles {old} {new} h k o = list_read same t new.links new.limit (new.first o) (cycle_at same old o)
      (kept_reads h k o) k.limited

  -- and holds
  kept_holds : {old new : Kind K} → Holds same old → Keeps same old new → Holds same new
  kept_holds {old} {new} h k = record {
    reads = λ o. reads_along (kept_reads h k o) (sym (kept_cycles h k o));
    owned = λ o j m. let a = member_of j m (kept_cycles h k o) in k.owners o j a ∙ h.owned o j a;
  }

-- a cycle that begins with k has the member k
pub first_member : {K : Type 0} {m : LinkMap K} {first : Option K} {zs : List K} (k : K) → ReadsAs m first zs
    → first ≡ Some k → HasMember zs k
first_member k r e = let s = first_begins (reads_at r e) in member_of k (inl refl) (sym s.1)

-- an empty cycle has no first member
pub empty_first : {K : Type 0} {m : LinkMap K} {first : Option K} {zs : List K} → ReadsAs m first zs → zs ≡ []
    → first ≡ None
empty_first r e = (reads_along r e).start

-- ---- what stays where every cell that a cycle goes through stays

-- the vertex's first edge
abbrev pub first_edge_in : Option VertCell → Option Slot
first_edge_in = option_and_then (λ (c : VertCell). c.first_edge)

-- what a radial cycle goes by: the loop without its vertex, its face and its links around the face
abbrev pub radial_part : LoopCell → LoopCell
radial_part c = record (without_round c) { vert = no_slot; face = no_slot }

-- what a loop cycle goes by: the loop without its vertex, its edge and its links around the edge
abbrev pub round_part : LoopCell → LoopCell
round_part c = record (without_radial c) { vert = no_slot; edge = no_slot }

-- what g tells of a part is what it tells of the whole
told_of_part : {X Z : Type 0} (f : X → X) (g : Option X → Z) → ((x : X) → g (Some x) ≡ g (Some (f x)))
    → (o p : Option X) → option_map f o ≡ option_map f p → g o ≡ g p
told_of_part f g same o p e = kept f g same o ∙ ap g e ∙ sym (kept f g same p)

-- each cycle begins with the same member, what it goes by stays at each member, and the two ends of an edge differ
pub record Stays (old new : Stored) : Type 0 where
  pub first_edges : (v : ℕ) → first_edge_in (at new.verts.cells v) ≡ first_edge_in (at old.verts.cells v)
  pub first_loops : (e : ℕ) → first_radial new e ≡ first_radial old e
  pub face_loops : (f : ℕ) → first_round new f ≡ first_round old f
  pub darts : (v : ℕ) (d : Dart) → HasMember (disk_of old v) d
      → at new.edges.cells d.edge.0 ≡ at old.edges.cells d.edge.0
  pub radials : (e : ℕ) (l : Radial) → HasMember (radial_of old e) l
      → option_map radial_part (at new.loops l.0.0) ≡ option_map radial_part (at old.loops l.0.0)
  pub rounds : (f : ℕ) (l : Round) → HasMember (round_of old f) l
      → option_map round_part (at new.loops l.0.0) ≡ option_map round_part (at old.loops l.0.0)
  pub differ : EndsDiffer new.edges.cells

-- a vertex's first dart is the one that its first edge has there
pub first_by : (st : Stored) (v : ℕ) → first_dart st v ≡ option_map (dart_at st v) (first_edge_in (at st.verts.cells v))
first_by st v = by_cell (at st.verts.cells v)
  where
    by_cell : (o : Option VertCell) → option_and_then (λ (c : VertCell). option_map (dart_at st v) c.first_edge) o
        ≡ option_map (dart_at st v) (first_edge_in o)
    by_cell None = refl
    by_cell (Some c) = refl

-- where each kind of cycles keeps its members, no cycle changes
pub same_by : (old new : Stored) → AreCycles old → Keeps same_dart (disk_kind old) (disk_kind new)
    → Keeps same_radial (radial_kind old) (radial_kind new) → Keeps same_round (round_kind old) (round_kind new)
    → EndsDiffer new.edges.cells → SameCycles old new
same_by old new h d l r e = record {
  cycles = are_cycles new (kept_holds same_dart dart_test (disks_hold old h) d)
      (kept_holds same_radial radial_test (radials_hold old h) l)
      (kept_holds same_round round_test (rounds_hold old h) r) e;
  disks = kept_cycles same_dart dart_test (disks_hold old h) d;
  radials = kept_cycles same_radial radial_test (radials_hold old h) l;
  rounds = kept_cycles same_round round_test (rounds_hold old h) r;
}

module _ (old new : Stored) (h : AreCycles old) (w : Stays old new) where
  -- an edge that stays has the same dart at the vertex
  darts_agree : (v : ℕ) (o : Option Slot) → ((e : Slot) → o ≡ Some e → at new.edges.cells e.0 ≡ at old.edges.cells e.0)
      → option_map (dart_at new v) o ≡ option_map (dart_at old v) o
  darts_agree v None same = refl
  darts_agree v (Some e) same = (let is =
      same e refl in λ i. Some (record { edge = e; side = option_map_or (side_at v) (is i) 0 }))

  first_darts : (v : ℕ) → first_dart new v ≡ first_dart old v
  first_darts v =
      first_by new v ∙ ap (option_map (dart_at new v)) (w.first_edges v)
      ∙ darts_agree v (first_edge_in (at old.verts.cells v))
      (λ e is. w.darts v (dart_at old v e) (first_member (dart_at old v e) (h.disks v)
      (first_by old v ∙ ap (option_map (dart_at old v)) is)))
      ∙ sym (first_by old v)

  disks_keep : Keeps same_dart (disk_kind old) (disk_kind new)
  disks_keep = record {
    firsts = first_darts;
    links = λ v. record {
      has = λ d m. ap (λ (o : Option EdgeCell). is_some o && nat_lt d.side 2) (w.darts v d m);
      next = λ d m. ap (dart_next d) (w.darts v d m);
      prev = λ d m. ap (dart_prev d) (w.darts v d m);
    };
    owners = λ v d m. ap (option_map (end_on d.side)) (w.darts v d m);
    limited = darts_limited new;
  }

  -- what g tells of a member of a radial cycle
  radial_told : {Z : Type 0} (g : Option LoopCell → Z) → ((c : LoopCell) → g (Some c) ≡ g (Some (radial_part c)))
      → (e : ℕ) (l : Radial) → HasMember (radial_of old e) l → g (at new.loops l.0.0) ≡ g (at old.loops l.0.0)
  radial_told g same e l m = told_of_part radial_part g same (at new.loops l.0.0) (at old.loops l.0.0) (w.radials e l m)

  radials_keep : Keeps same_radial (radial_kind old) (radial_kind new)
  radials_keep = record {
    firsts = w.first_loops;
    links = λ e. record {
      has = λ l m. radial_told (λ (o : Option LoopCell). is_some o) (λ c. refl) e l m;
      next = λ l m. radial_told (λ (o : Option LoopCell). option_map_or (λ (c : LoopCell). c.radial_next) o l)
          (λ c. refl) e l m;
      prev = λ l m. radial_told (λ (o : Option LoopCell). option_map_or (λ (c : LoopCell). c.radial_prev) o l)
          (λ c. refl) e l m;
    };
    owners = λ e l m. radial_told (option_map (λ (c : LoopCell). c.edge.0)) (λ c. refl) e l m;
    limited = radials_limited new;
  }

  -- and of one of a loop cycle
  round_told : {Z : Type 0} (g : Option LoopCell → Z) → ((c : LoopCell) → g (Some c) ≡ g (Some (round_part c)))
      → (f : ℕ) (l : Round) → HasMember (round_of old f) l → g (at new.loops l.0.0) ≡ g (at old.loops l.0.0)
  round_told g same f l m = told_of_part round_part g same (at new.loops l.0.0) (at old.loops l.0.0) (w.rounds f l m)

  rounds_keep : Keeps same_round (round_kind old) (round_kind new)
  rounds_keep = record {
    firsts = w.face_loops;
    links = λ f. record {
      has = λ l m. round_told (λ (o : Option LoopCell). is_some o) (λ c. refl) f l m;
      next = λ l m. round_told (λ (o : Option LoopCell). option_map_or (λ (c : LoopCell). c.round_next) o l) (λ c. refl)
          f l m;
      prev = λ l m. round_told (λ (o : Option LoopCell). option_map_or (λ (c : LoopCell). c.round_prev) o l) (λ c. refl)
          f l m;
    };
    owners = λ f l m. round_told (option_map (λ (c : LoopCell). c.face.0)) (λ c. refl) f l m;
    limited = rounds_limited new;
  }

  pub same_cycles : SameCycles old new
  same_cycles = same_by old new h disks_keep radials_keep rounds_keep w.differ
