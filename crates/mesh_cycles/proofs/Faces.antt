-- The faces of loops, each with one of them, and which loops there are around a vertex.
use Rattle.std.proofs.Common.{◌≡◌, ℕ, zero, suc, ◌<◌, ◌==◌, ◌||◌, Bool, true, false, List, Option, Some, None, refl, sym, ap, ◌∙◌, subst, inl, inr, arith, eq-eqb}
use Rattle.std.specs.List.{filter, find}
use Rattle.std.specs.Option.{option_map, option_map_or, option_or, option_and_then}
use Rattle.std.proofs.lemmas.Bool.{false≢true, and_from, and_parts, or_left, or_right, or_cases, eqb-true}
use Rattle.raw_pool.specs.declared.pool.Slot.{Slot}
use Rattle.raw_pool.specs.Slots.{holds, IsLive}
use Rattle.link_ring.specs.Members.{HasMember, AllDistinct}
use Rattle.link_ring.specs.Mapped.{mapped_from, mapped_to, distinct_map}
use Rattle.link_ring.proofs.Members.{member_along}
use Rattle.mesh_store.specs.Slots.{at}
use Rattle.mesh_store.specs.Stored.{Stored, dart_links, no_slot}
use Rattle.mesh_store.specs.Limits.{is_dart}
use Rattle.mesh_store.specs.declared.cells.Dart.{Dart}
use Rattle.mesh_store.specs.declared.cells.Radial.{Radial}
use Rattle.mesh_store.specs.declared.cells.EdgeCell.{EdgeCell}
use Rattle.mesh_store.specs.declared.cells.LoopCell.{LoopCell}
use Rattle.mesh_cycles.specs.Owners.{end_on}
use Rattle.mesh_cycles.specs.Cycles.{AreCycles, AreComplete, disk_of, radial_of}
use Rattle.mesh_cycles.specs.Found.{edges_around, loops_along, loops_in, loops_around, stands_at, ends_at, is_corner_at, face_at, leader, leads, faces_led, IsAlone}
use Rattle.mesh_cycles.specs.Around.{AreCornersAt}
use Rattle.mesh_cycles.specs.Faces.{AreFacesOf}
use Rattle.mesh_cycles.proofs.Mapped.{filtered_from, filtered_to, distinct_filter, joined_to, found_passes, finds_one}
use Rattle.mesh_cycles.proofs.RingLists.{member_key}
use Rattle.mesh_cycles.proofs.Around.{same_slot, along_names, in_names, around_along}
use Rattle.mesh_cycles.proofs.Leaders.{itself, is_found, face_is, leads_by}

-- ---- no face comes twice

-- the face of a loop that leads is live, and the loop is its leader
leads_parts : (st : Stored) (test : Slot → Bool) (ls : List Slot) (l : Slot) → leads st test ls l ≡ true
    → IsLive st.faces.cells (face_at st l).0 × (leader st test ls (face_at st l) ≡ Some l)
leads_parts st test ls l h =
    let o = leader st test ls (face_at st l) in
    let t = and_parts (holds (at st.faces.cells (face_at st l).0)) (option_map_or (λ (k : Slot). k.0 == l.0) o false) h
    in
    (t.0, is_found o l t.1)

-- each of the loops with which faces come is that of its face
pub faces_once : (st : Stored) (test : Slot → Bool) (ls : List Slot) → AllDistinct ls
    → AllDistinct (faces_led st test ls ls)
faces_once st test ls d =
    distinct_map (face_at st) (filter (leads st test ls) ls)
    (λ a b p q e.
    let s = (leads_parts st test ls a (filtered_from (leads st test ls) ls a p).1).1 in
    let t = (leads_parts st test ls b (filtered_from (leads st test ls) ls b q).1).1 in
    let same = ap (leader st test ls) e in
    (cc))
    (distinct_filter (leads st test ls) ls d)

-- ---- no face is left out

-- the face that is named
face_named : (o : Option LoopCell) (f : Slot) → option_map (λ (c : LoopCell). c.face.0) o ≡ Some f.0
    → option_map_or (λ (c : LoopCell). c.face) o no_slot ≡ f
face_named None f e = absurd (cc)
face_named (Some c) f e = same_slot c.face f (cc)

-- a loop of a list that a search for another loop finds is that loop
among_own : (own : Option Slot) (ls : List Slot) (k : Slot)
    → option_and_then (λ (k : Slot). find (λ (l : Slot). l.0 == k.0) ls) own ≡ Some k → (own ≡ Some k) × HasMember ls k
among_own None ls k e = absurd (cc)
among_own (Some j) ls k e =
    let t = found_passes (λ (l : Slot). l.0 == j.0) ls k e in
    (ap Some (sym (same_slot k j (eqb-true k.0 j.0 t.1))), t.0)

-- the loop with which a face comes is one of the face's
leader_of : (st : Stored) → AreCycles st → (test : Slot → Bool) (ls : List Slot) (f l : Slot) → HasMember ls l
    → face_at st l ≡ f
    → (k : Slot) × (leader st test ls f ≡ Some k) × HasMember ls k × (face_at st k ≡ f)
leader_of st cycles test ls f l h is = by_own (option_and_then (λ (k : Slot). find (λ (l : Slot). l.0 == k.0) ls)
    (find test (loops_in st f.0))) refl
  where
    by_own : (o : Option Slot) → option_and_then (λ (k : Slot). find (λ (l : Slot). l.0 == k.0) ls)
        (find test (loops_in st f.0)) ≡ o
        → (k : Slot) × (option_or o (find (λ (l : Slot). (face_at st l).0 == f.0) ls) ≡ Some k) × HasMember ls k
        × (face_at st k ≡ f)
    by_own (Some k) e =
        let t = among_own (find test (loops_in st f.0)) ls k e in (
          k,
          refl,
          t.1,
          face_named (at st.loops k.0) f (in_names st cycles f.0 k
              (found_passes test (loops_in st f.0) k t.0).0),
        )
    by_own None e =
        let t = finds_one (λ (l : Slot). (face_at st l).0 == f.0) ls l h
        (eq-eqb (face_at st l).0 f.0 (ap (λ (s : Slot). s.0) is)) in
        let p = found_passes (λ (l : Slot). (face_at st l).0 == f.0) ls t.0 t.1 in
        (t.0, t.1, p.0, same_slot (face_at st t.0) f (eqb-true (face_at st t.0).0 f.0 p.1))

-- a face comes with the only loop that names it
pub leads_alone : (st : Stored) → AreCycles st → (test : Slot → Bool) (ls : List Slot) (f l : Slot) → HasMember ls l
    → option_map (λ (c : LoopCell). c.face) (at st.loops l.0) ≡ Some f
    → IsLive st.faces.cells f.0 → IsAlone st ls f l → leads st test ls l ≡ true
leads_alone st cycles test ls f l h is live alone =
    let t = leader_of st cycles test ls f l h (face_is (at st.loops l.0) f is) in
    leads_by st test ls l f (find test (loops_in st f.0)) is live refl
    ∙ ap (λ (o : Option Slot). option_map_or (λ (k : Slot). k.0 == l.0) o false) (t.1 ∙ ap Some (alone t.0 t.2 t.3))
    ∙ itself l

-- the faces that come are exactly the live ones of the loops
pub faces_all : (st : Stored) → AreCycles st → (test : Slot → Bool) (ls : List Slot)
    → AreFacesOf st ls (faces_led st test ls ls)
faces_all st cycles test ls f = (from, to)
  where
    from : HasMember (faces_led st test ls ls) f
        → IsLive st.faces.cells f.0 × ((l : Slot) × HasMember ls l × (face_at st l ≡ f))
    from h =
        let t = mapped_from (face_at st) (filter (leads st test ls) ls) f h in
        let p = filtered_from (leads st test ls) ls t.of t.member in
        let P = λ (g : Slot). IsLive st.faces.cells g.0 in
        (subst P t.is (leads_parts st test ls t.of p.1).0, (t.of, p.0, t.is))

    to : IsLive st.faces.cells f.0 × ((l : Slot) × HasMember ls l × (face_at st l ≡ f))
        → HasMember (faces_led st test ls ls) f
    to (live, w) =
        let t = leader_of st cycles test ls f w.0 w.1 w.2 in
        let k = t.0 in
        let found : leader st test ls (face_at st k) ≡ Some k = ap (leader st test ls) t.3 ∙ t.1 in
        let its : option_map_or (λ (j : Slot). j.0 == k.0) (leader st test ls (face_at st k)) false ≡ true =
        ap (λ (o : Option Slot). option_map_or (λ (j : Slot). j.0 == k.0) o false) found ∙ itself k in
        let P = λ (g : Slot). IsLive st.faces.cells g.0 in
        let leads_its : leads st test ls k ≡ true =
        and_from (holds (at st.faces.cells (face_at st k).0))
        (option_map_or (λ (j : Slot). j.0 == k.0) (leader st test ls (face_at st k)) false) (subst P (sym t.3) live)
        its in
        member_along (faces_led st test ls ls) (mapped_to (face_at st) (filter (leads st test ls) ls) k
        (filtered_to (leads st test ls) ls k t.2 leads_its)) t.3

-- ---- the loops around a vertex

-- an edge ends where one of its darts does
ends_by : (o : Option EdgeCell) (v i : ℕ) → i < 2 → option_map (end_on i) o ≡ Some v
    → option_map_or (λ (c : EdgeCell). (end_on 0 c == v) || (end_on 1 c == v)) o false ≡ true
ends_by None v i p e = absurd (cc)
ends_by (Some c) v zero p e = or_left (end_on 0 c == v) (end_on 1 c == v) (eq-eqb (end_on 0 c) v (cc))
ends_by (Some c) v (suc zero) p e = or_right (end_on 0 c == v) (end_on 1 c == v) (eq-eqb (end_on 1 c) v (cc))
ends_by (Some c) v (suc (suc i)) p e = absurd (omega arith)

-- an edge around a vertex ends there
around_ends : (st : Stored) → AreCycles st → (v : ℕ) (e : Slot) → HasMember (edges_around st v) e
    → ends_at st v e ≡ true
around_ends st cycles v e h =
    let t = mapped_from (λ (d : Dart). d.edge) (disk_of st v) e h in
    let d = t.of in
    let P = λ (s : Slot). ends_at st v s ≡ true in
    subst P t.is
    (ends_by (at st.edges.cells d.edge.0) v d.side (is_dart st d
    (member_key {m = dart_links st} d (cycles.disks v) t.member)).1 (cycles.disk_ends v d t.member))

-- the edge of a loop passes a test
edge_passes : (test : Slot → Bool) (o : Option LoopCell) (e : Slot)
    → option_map (λ (c : LoopCell). c.edge.0) o ≡ Some e.0 → test e ≡ true
    → option_map_or (λ (c : LoopCell). test c.edge) o false ≡ true
edge_passes test None e h t = absurd (cc)
edge_passes test (Some c) e h t =
    let same : c.edge ≡ e = same_slot c.edge e (cc) in
    ap test same ∙ t

-- a loop around a vertex stands there, and its edge ends there
around_corner : (st : Stored) → AreCycles st → (v : ℕ) (l : Slot) → HasMember (loops_around st v) l
    → is_corner_at st v l ≡ true
around_corner st cycles v l h =
    let t = around_along st cycles v l h in
    and_from (stands_at st v l) (option_map_or (λ (c : LoopCell). ends_at st v c.edge) (at st.loops l.0) false) t.3
    (edge_passes (ends_at st v) (at st.loops l.0) t.0 (along_names st cycles t.0.0 l t.2)
    (around_ends st cycles v t.0 t.1))

-- an edge that ends at a vertex is around it
ends_around : (st : Stored) → AreComplete st → (v : ℕ) (e : Slot) (o : Option EdgeCell) → at st.edges.cells e.0 ≡ o
    → option_map_or (λ (c : EdgeCell). (end_on 0 c == v) || (end_on 1 c == v)) o false ≡ true
    → HasMember (edges_around st v) e
ends_around st complete v e None was h = absurd (false≢true h)
ends_around st complete v e (Some c) was h = elim (or_cases (end_on 0 c == v) (end_on 1 c == v) h) [
  | inl p ↦
      let d : Dart = record { edge = e; side = 0 } in
      mapped_to (λ (d : Dart). d.edge) (disk_of st v) d (complete.disks v d (rw was refl)
      (rw was (ap Some (eqb-true (end_on 0 c) v p))))
  | inr p ↦
      let d : Dart = record { edge = e; side = 1 } in
      mapped_to (λ (d : Dart). d.edge) (disk_of st v) d (complete.disks v d (rw was refl)
      (rw was (ap Some (eqb-true (end_on 1 c) v p))))
]

-- the edge of a loop whose edge passes a test
record EdgeThat (test : Slot → Bool) (o : Option LoopCell) : Type 0 where
  edge : Slot
  named : option_map (λ (c : LoopCell). c.edge.0) o ≡ Some edge.0
  passes : test edge ≡ true

-- it is there
edge_that : (test : Slot → Bool) (o : Option LoopCell) → option_map_or (λ (c : LoopCell). test c.edge) o false ≡ true
    → EdgeThat test o
edge_that test None h = absurd (false≢true h)
edge_that test (Some c) h = record { edge = c.edge; named = refl; passes = h }

-- a loop that stands at a vertex where its edge ends is around it
corner_around : (st : Stored) → AreComplete st → (v : ℕ) (l : Slot) → is_corner_at st v l ≡ true
    → HasMember (loops_around st v) l
corner_around st complete v l h =
    let t = and_parts (stands_at st v l) (option_map_or (λ (c : LoopCell). ends_at st v c.edge) (at st.loops l.0) false)
    h in
    let e = edge_that (ends_at st v) (at st.loops l.0) t.1 in
    joined_to (λ (e : Slot). filter (stands_at st v) (loops_along st e.0)) (edges_around st v) e.edge l
    (ends_around st complete v e.edge (at st.edges.cells e.edge.0) refl e.passes)
    (filtered_to (stands_at st v) (loops_along st e.edge.0) l
    (mapped_to (λ (r : Radial). r.0) (radial_of st e.edge.0) (record { 0 = l }) (complete.radials l e.edge.0 e.named))
    t.0)

-- so these are the loops around it
pub all_corners : (st : Stored) → AreCycles st → (v : ℕ) → AreComplete st → AreCornersAt st v
all_corners st cycles v complete = λ l. (around_corner st cycles v l, corner_around st complete v l)
