-- Edges and loops around a vertex, an edge or a face are live, and none comes twice.
use Rattle.std.proofs.Common.{◌≡◌, ℕ, zero, suc, ◌<◌, true, is_some, [], ◌∷◌, Option, Some, None, refl, sym, ap, subst, arith}
use Rattle.std.specs.List.{filter}
use Rattle.std.specs.Option.{option_map}
use Rattle.raw_pool.specs.declared.pool.Slot.{Slot}
use Rattle.raw_pool.specs.Slots.{IsLive}
use Rattle.link_ring.specs.Members.{HasMember, AllDistinct}
use Rattle.link_ring.specs.Mapped.{mapped_from, distinct_map}
use Rattle.mesh_store.specs.Slots.{at}
use Rattle.mesh_store.specs.Stored.{Stored, radial_links, round_links}
use Rattle.mesh_store.specs.Limits.{is_dart, equal_darts}
use Rattle.mesh_store.specs.declared.cells.Dart.{Dart}
use Rattle.mesh_store.specs.declared.cells.Radial.{Radial}
use Rattle.mesh_store.specs.declared.cells.Round.{Round}
use Rattle.mesh_store.specs.declared.cells.EdgeCell.{EdgeCell}
use Rattle.mesh_cycles.specs.Owners.{end_on, edge_of, face_of}
use Rattle.mesh_cycles.specs.Cycles.{AreCycles, disk_of, radial_of, round_of}
use Rattle.mesh_cycles.specs.Found.{edges_around, loops_along, loops_in, loops_around, stands_at}
use Rattle.mesh_cycles.proofs.RingLists.{reads_distinct, member_key}
use Rattle.mesh_cycles.proofs.Mapped.{filtered_from, distinct_filter, joined_from, distinct_flat_map}

-- what is there is live
live_some : {X : Type 0} (o : Option X) → is_some o ≡ true → IsLive (o ∷ []) 0
live_some None h = cc
live_some (Some x) h = refl

-- slots are equal where their numbers are
pub same_slot : (a b : Slot) → a.0 ≡ b.0 → a ≡ b
same_slot a b e = λ i. record { 0 = e i }

module _ (st : Stored) (cycles : AreCycles st) where
  -- ---- around a vertex

  -- the edge of a dart around a vertex is live
  pub dart_live : (v : ℕ) (d : Dart) → HasMember (disk_of st v) d → IsLive st.edges.cells d.edge.0
  dart_live v d h = live_some (at st.edges.cells d.edge.0) (is_dart st d (member_key d (cycles.disks v) h)).0

  -- an edge around a vertex is live
  pub edge_live : (v : ℕ) (e : Slot) → HasMember (edges_around st v) e → IsLive st.edges.cells e.0
  edge_live v e h =
      let t = mapped_from (λ (d : Dart). d.edge) (disk_of st v) e h in
      let P = λ (s : Slot). IsLive st.edges.cells s.0 in
      subst P t.is (dart_live v t.of t.member)

  -- an edge ends at a vertex on one side only
  one_side : (e : ℕ) (o : Option EdgeCell) → at st.edges.cells e ≡ o → (v i j : ℕ) → i < 2 → j < 2
      → option_map (end_on i) o ≡ Some v → option_map (end_on j) o ≡ Some v → i ≡ j
  one_side e None was v i j p q a b = absurd (cc)
  one_side e (Some c) was v zero zero p q a b = refl
  one_side e (Some c) was v zero (suc zero) p q a b = absurd (cycles.differ e c was (cc))
  one_side e (Some c) was v (suc zero) zero p q a b = absurd (cycles.differ e c was (cc))
  one_side e (Some c) was v (suc zero) (suc zero) p q a b = refl
  one_side e (Some c) was v (suc (suc i)) j p q a b = absurd (omega arith)
  one_side e (Some c) was v i (suc (suc j)) p q a b = absurd (omega arith)

  -- darts of one edge around one vertex are one
  one_dart : (v : ℕ) (a b : Dart) → HasMember (disk_of st v) a → HasMember (disk_of st v) b → a.edge ≡ b.edge → a ≡ b
  one_dart v a b p q e =
      let slot : a.edge.0 ≡ b.edge.0 = ap (λ (s : Slot). s.0) e in
      let P = λ (s : ℕ). option_map (end_on b.side) (at st.edges.cells s) ≡ Some v in
      equal_darts a b slot
      (one_side a.edge.0 (at st.edges.cells a.edge.0) refl v a.side b.side
      (is_dart st a (member_key a (cycles.disks v) p)).1
      (is_dart st b (member_key b (cycles.disks v) q)).1 (cycles.disk_ends v a p)
      (subst P (sym slot) (cycles.disk_ends v b q)))

  -- no edge comes twice around a vertex
  pub edges_once : (v : ℕ) → AllDistinct (edges_around st v)
  edges_once v = distinct_map (λ (d : Dart). d.edge) (disk_of st v) (one_dart v) (reads_distinct (cycles.disks v))

  -- ---- along an edge

  -- a loop along an edge is in its radial cycle
  pub along_radial : (e : ℕ) (l : Slot) → HasMember (loops_along st e) l → HasMember (radial_of st e) (record { 0 = l })
  along_radial e l h =
      let t = mapped_from (λ (r : Radial). r.0) (radial_of st e) l h in
      let P = λ (s : Slot). HasMember (radial_of st e) (record { 0 = s }) in
      subst P t.is t.member

  -- a loop along an edge is live
  pub along_live : (e : ℕ) (l : Slot) → HasMember (loops_along st e) l → IsLive st.loops l.0
  along_live e l h = live_some (at st.loops l.0) (member_key {m = radial_links st} (record { 0 = l }) (cycles.radials e)
      (along_radial e l h))

  -- a loop along an edge names it
  pub along_names : (e : ℕ) (l : Slot) → HasMember (loops_along st e) l → edge_of st l ≡ Some e
  along_names e l h = cycles.radial_edges e (record { 0 = l }) (along_radial e l h)

  -- no loop comes twice along an edge
  pub along_once : (e : ℕ) → AllDistinct (loops_along st e)
  along_once e = distinct_map (λ (r : Radial). r.0) (radial_of st e) (λ a b p q s. λ i. record { 0 = s i })
      (reads_distinct (cycles.radials e))

  -- ---- in a face

  -- a loop of a face is in its loop cycle
  pub in_round : (f : ℕ) (l : Slot) → HasMember (loops_in st f) l → HasMember (round_of st f) (record { 0 = l })
  in_round f l h =
      let t = mapped_from (λ (r : Round). r.0) (round_of st f) l h in
      let P = λ (s : Slot). HasMember (round_of st f) (record { 0 = s }) in
      subst P t.is t.member

  -- a loop of a face is live
  pub in_live : (f : ℕ) (l : Slot) → HasMember (loops_in st f) l → IsLive st.loops l.0
  in_live f l h = live_some (at st.loops l.0) (member_key {m = round_links st} (record { 0 = l }) (cycles.rounds f)
      (in_round f l h))

  -- a loop of a face names it
  pub in_names : (f : ℕ) (l : Slot) → HasMember (loops_in st f) l → face_of st l ≡ Some f
  in_names f l h = cycles.round_faces f (record { 0 = l }) (in_round f l h)

  -- no loop comes twice in a face
  pub in_once : (f : ℕ) → AllDistinct (loops_in st f)
  in_once f = distinct_map (λ (r : Round). r.0) (round_of st f) (λ a b p q s. λ i. record { 0 = s i })
      (reads_distinct (cycles.rounds f))

  -- ---- loops at a vertex

  -- a loop at a vertex is along an edge around it
  pub around_along : (v : ℕ) (l : Slot) → HasMember (loops_around st v) l
      → (e : Slot) × HasMember (edges_around st v) e × HasMember (loops_along st e.0) l × (stands_at st v l ≡ true)
  around_along v l h =
      let t = joined_from (λ (e : Slot). filter (stands_at st v) (loops_along st e.0)) (edges_around st v) l h in
      let p = filtered_from (stands_at st v) (loops_along st t.of.0) l t.part in
      (t.of, t.member, p.0, p.1)

  -- a loop at a vertex is live
  pub around_live : (v : ℕ) (l : Slot) → HasMember (loops_around st v) l → IsLive st.loops l.0
  around_live v l h = let t = around_along v l h in along_live t.0.0 l t.2

  -- no loop comes twice around a vertex
  pub loops_once : (v : ℕ) → AllDistinct (loops_around st v)
  loops_once v =
      distinct_flat_map (λ (e : Slot). filter (stands_at st v) (loops_along st e.0)) (edges_around st v)
      (λ e p. distinct_filter (stands_at st v) (loops_along st e.0) (along_once e.0))
      (λ a b l p q x y.
      let s = along_names a.0 l (filtered_from (stands_at st v) (loops_along st a.0) l x).0 in
      let t = along_names b.0 l (filtered_from (stands_at st v) (loops_along st b.0) l y).0 in
      same_slot a b (cc))
      (edges_once v)
