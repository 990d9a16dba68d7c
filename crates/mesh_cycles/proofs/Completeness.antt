-- Nothing that belongs to a cycle is left out, and lengths are right: through edits, and as elements come.
use Rattle.std.proofs.Common.{◌≡◌, ◌≢◌, ◌<◌, ◌&&◌, ℕ, ℤ, zero, suc, IsTrue, is_some, nat_lt, true, List, [], ◌∷◌, ◌++◌, Option, Some, None, length, refl, sym, ap, ◌∙◌, subst, inl, inr, arith}
use Rattle.std.specs.Prelude.{slice_set}
use Rattle.std.specs.Option.{option_map}
use Rattle.std.proofs.lemmas.Bool.{cases_eq}
use Rattle.std.proofs.lemmas.Option.{same_Some}
use Rattle.raw_pool.specs.declared.pool.Slot.{Slot}
use Rattle.raw_pool.specs.Slots.{IsLive}
use Rattle.link_ring.specs.Members.{HasMember}
use Rattle.link_ring.specs.Ring.{LinkMap, ReadsAs}
use Rattle.link_ring.proofs.Members.{member_of, member_one, member_left, member_right, member_cases}
use Rattle.link_ring.proofs.Reading.{first_begins, last_before_first, reads_at}
use Rattle.link_ring.proofs.Rings.{next_member, ring_along}
use Rattle.mesh_store.specs.Limits.{is_dart}
use Rattle.mesh_store.specs.Slots.{at}
use Rattle.mesh_store.specs.Stored.{Stored, dart_links, round_links, new_vert}
use Rattle.mesh_store.specs.declared.cells.Dart.{Dart}
use Rattle.mesh_store.specs.declared.cells.EdgeCell.{EdgeCell}
use Rattle.mesh_store.specs.declared.cells.FaceCell.{FaceCell}
use Rattle.mesh_store.specs.declared.cells.Round.{Round}
use Rattle.mesh_store.proofs.Places.{unwritten}
use Rattle.mesh_cycles.specs.Owners.{end_on, dart_end, len_of, first_round}
use Rattle.mesh_cycles.specs.Cycles.{AreCycles, AreWhole, AreWholeBut, AreCounted, IsCounted, IsInNoDisk, disk_of, round_of}
use Rattle.mesh_cycles.specs.Edits.{EditsDisk, SameDisks, SameDisksBut, SameRounds, SameRoundsBut}
use Rattle.mesh_cycles.specs.Adds.{AddsEdge}
use Rattle.mesh_cycles.proofs.Besides.{disk_darts, disk_ends}
use Rattle.mesh_cycles.proofs.Cells.{live_cell}
use Rattle.mesh_cycles.proofs.Elements.{vert_added}

-- ---- lengths

-- lengths stay right where each face is as long and has the same loops
pub counted_same : (old new : Stored) → ((f : ℕ) → len_of new f ≡ len_of old f) → SameRounds old new → AreCounted old
    → AreCounted new
counted_same old new lens rounds c f n is = c f n (sym (lens f) ∙ is) ∙ ap length (sym (rounds f))

-- they are right but for one face's
abbrev pub AreCountedBut : ℕ → Stored → Type 0
AreCountedBut f st = (g n : ℕ) → g ≢ f → len_of st g ≡ Some n → n ≡ length (round_of st g)

-- where that one is put right, and the others are as before, all are right
pub counted_but : (old new : Stored) (f : ℕ) → ((g : ℕ) → g ≢ f → len_of new g ≡ len_of old g) → SameRoundsBut f old new
    → IsCounted new f → AreCountedBut f old → AreCounted new
counted_but old new f lens rounds here c g n is = elim (cases_eq g f) [
  | inl e ↦ (let P = IsCounted new in same_Some _ _ (sym is ∙ subst P (sym e) here))
  | inr ne ↦ c g n ne (sym (lens g ne) ∙ is) ∙ ap length (sym (rounds g ne))
]

-- the length of a live face is the number of its loops
pub live_len : (st : Stored) (f : ℕ) → AreCounted st → IsLive st.faces.cells f → IsCounted st f
live_len st f c live =
    let cell = live_cell st.faces.cells f live in
    let is : len_of st f ≡ Some cell.0.len = ap (option_map (λ (x : FaceCell). x.len)) cell.1 in
    is ∙ ap (λ (n : ℕ). Some n) (c f cell.0.len is)

-- a dart that ends somewhere is there
pub dart_there : (st : Stored) (d : Dart) (v : ℕ) → dart_end st d ≡ Some v → nat_lt d.side 2 ≡ true
    → IsTrue ((dart_links st).has d)
dart_there st d v e low = by_cell (at st.edges.cells d.edge.0) e
  where
    by_cell : (o : Option EdgeCell) → option_map (end_on d.side) o ≡ Some v → IsTrue (is_some o && nat_lt d.side 2)
    by_cell None p = absurd (let q : None ≡ Some v = p in cc)
    by_cell (Some c) p = low

-- the one before the first of a cycle is in it
last_in : {K : Type 0} {m : LinkMap K} {first last : K} {zs : List K} → ReadsAs m (Some first) zs → last ≡ m.prev first
    → HasMember zs last
last_in {last = last} r e = let s = last_before_first r e in member_of last
    (member_right s.front (last ∷ []) last (inl refl)) (sym s.whole)

-- so is the one after the first
pub second_in : {K : Type 0} {m : LinkMap K} {first second : K} {zs : List K} → ReadsAs m (Some first) zs
    → second ≡ m.next first → HasMember zs second
second_in {K} {m} {first} {second} {zs} r e =
    let s = first_begins r in
    let P = HasMember (first ∷ s.0) in
    member_of second (subst P (sym e) (next_member s.0 (ring_along m zs (first ∷ s.0) s.1 r.ring))) (sym s.1)

-- the one before the first of a face is in its cycle
pub last_round : (st : Stored) (f : ℕ) (first last : Round) → AreCycles st → Some first ≡ first_round st f
    → last ≡ (round_links st).prev first → HasMember (round_of st f) last
last_round st f first last h is e = last_in (reads_at (h.rounds f) (sym is)) e

-- ---- a disk cycle grows

module _ (old new : Stored) (o : ℕ) (x : Dart) (own : disk_of new o ≡ disk_of old o ++ x ∷ [])
    (others : SameDisksBut o old new) where
  -- members stay
  pub grown_member : (v : ℕ) (d : Dart) → HasMember (disk_of old v) d → HasMember (disk_of new v) d
  grown_member v d m = elim (cases_eq v o) [
    | inl e ↦ (
        let P = λ (k : ℕ). HasMember (disk_of old k) d in
        let Q = λ (k : ℕ). HasMember (disk_of new k) d in
        subst Q (sym e) (member_of d (member_left (disk_of old o) (x ∷ []) d (subst P e m)) (sym own)))
    | inr ne ↦ member_of d m (sym (others v ne))
  ]

  -- the last is one
  pub grown_last : HasMember (disk_of new o) x
  grown_last = member_of x (member_right (disk_of old o) (x ∷ []) x (inl refl)) (sym own)

  -- another that was in no cycle is in none
  pub grown_apart : (d : Dart) → IsInNoDisk old d → (x ≡ d → ⊥) → IsInNoDisk new d
  grown_apart d apart ne v m = elim (cases_eq v o) [
    | inl e ↦ (
        let Q = λ (k : ℕ). HasMember (disk_of new k) d in
        elim (member_cases (disk_of old o) (x ∷ []) d (member_of d (subst Q e m) own))
        [ inl a ↦ apart o a | inr b ↦ ne (member_one b) ])
    | inr n ↦ apart v (member_of d m (others v n))
  ]

-- ---- whole disk cycles

-- darts, their ends and the disk cycles stay
pub whole_same : (old new : Stored) → ((d : Dart) → (dart_links new).has d ≡ (dart_links old).has d)
    → ((d : Dart) → dart_end new d ≡ dart_end old d) → SameDisks old new → AreWhole old → AreWhole new
whole_same old new has ends disks w v d live is =
    member_of d (w v d (sym (has d) ∙ live) (sym (ends d) ∙ is)) (sym (disks v))

-- a vertex is added
pub whole_vert : (old new : Stored) (s : Slot) (name : ℕ) (point : List ℤ) → AreCycles old
    → (s.0 < length old.verts.cells) × (at old.verts.cells s.0 ≡ None)
    → new ≡ record old {
      verts = record {
        cells = slice_set old.verts.cells s.0 (Some (new_vert name point));
        names = slice_set old.verts.names name (Some s);
      };
    } → AreWhole old → AreWhole new
whole_vert old new s name point h vacant adds =
    whole_same old new (λ d. ap (λ (t : Stored). (dart_links t).has d) adds)
    (λ d. ap (λ (t : Stored). dart_end t d) adds)
    (vert_added old new s h name point (slice_set old.verts.names name (Some s)) vacant adds).same.disks

-- a new edge is in no disk cycle yet
pub whole_edge : (old new : Stored) (s : Slot) (c : EdgeCell) → AddsEdge old new s c
    → new.edges.cells ≡ slice_set old.edges.cells s.0 (Some c) → AreWhole old → AreWholeBut s.0 new
whole_edge old new s c a adds w v d ne live is =
    let cell : at new.edges.cells d.edge.0 ≡ at old.edges.cells d.edge.0 =
    ap (λ (xs : List (Option EdgeCell)). at xs d.edge.0) adds
    ∙ unwritten old.edges.cells s.0 d.edge.0 (Some c) ne in
    let has = ap (λ (o : Option EdgeCell). is_some o && nat_lt d.side 2) cell in
    let ends = ap (option_map (end_on d.side)) cell in
    member_of d (w v d (sym has ∙ live) (sym ends ∙ is)) (sym (a.same.disks v))

-- a dart of an edge
abbrev pub dart_on : Slot → ℕ → Dart
dart_on edge side = record { edge = edge; side = side }

-- both darts of an edge are put around its ends
module _ (old mid new : Stored) (from to : ℕ) (edge : Slot)
    (p : EditsDisk old mid from (dart_on edge 0 ∷ disk_of old from) (disk_of old from ++ dart_on edge 0 ∷ []))
    (q : EditsDisk mid new to (dart_on edge 1 ∷ disk_of mid to) (disk_of mid to ++ dart_on edge 1 ∷ []))
    (start : dart_end old (dart_on edge 0) ≡ Some from) (end : dart_end old (dart_on edge 1) ≡ Some to)
    (w : AreWholeBut edge.0 old) where
  -- what was around a vertex after the first is there after the second
  second_member : (v : ℕ) (d : Dart) → HasMember (disk_of mid v) d → HasMember (disk_of new v) d
  second_member = grown_member mid new to (dart_on edge 1) q.own q.others

  -- the edge's own darts
  own_dart : (v : ℕ) (d : Dart) (side : ℕ) → d.edge.0 ≡ edge.0 → d.side ≡ side → side < 2 → dart_end old d ≡ Some v
      → HasMember (disk_of new v) d
  own_dart v d zero e s low is =
      let same : d ≡ dart_on edge 0 = λ i. record { edge = record { 0 = e i }; side = s i } in
      let at_v : v ≡ from = same_Some _ _ (sym is ∙ ap (dart_end old) same ∙ start) in
      let P = λ (k : ℕ). HasMember (disk_of mid k) d in
      let Q = λ (x : Dart). HasMember (disk_of mid from) x in
      second_member v d (subst P (sym at_v) (subst Q (sym same)
      (grown_last old mid from (dart_on edge 0) p.own p.others)))
  own_dart v d (suc zero) e s low is =
      let same : d ≡ dart_on edge 1 = λ i. record { edge = record { 0 = e i }; side = s i } in
      let at_v : v ≡ to = same_Some _ _ (sym is ∙ ap (dart_end old) same ∙ end) in
      let P = λ (k : ℕ). HasMember (disk_of new k) d in
      let Q = λ (x : Dart). HasMember (disk_of new to) x in
      subst P (sym at_v) (subst Q (sym same) (grown_last mid new to (dart_on edge 1) q.own q.others))
  own_dart v d (suc (suc side)) e s low is = absurd (omega arith)

  pub whole_put : AreWhole new
  whole_put v d live is =
      let live_old : IsTrue ((dart_links old).has d) =
      sym (disk_darts mid new to q.rest d ∙ disk_darts old mid from p.rest d) ∙ live in
      let is_old : dart_end old d ≡ Some v = sym (disk_ends mid new to q.rest d ∙ disk_ends old mid from p.rest d)
      ∙ is in
      elim (cases_eq d.edge.0 edge.0) [
        | inl e ↦ own_dart v d d.side e refl (is_dart old d live_old).1 is_old
        | inr ne ↦ second_member v d (grown_member old mid from (dart_on edge 0) p.own p.others v d
            (w v d ne live_old is_old))
      ]
