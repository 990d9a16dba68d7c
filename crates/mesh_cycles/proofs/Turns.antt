-- Another loop of a face becomes its first.
use Rattle.std.proofs.Common.{◌≡◌, ◌++◌, ℕ, List, [], ◌∷◌, Option, Some, length, refl, sym, ap, ◌∙◌, subst, arith, length-append}
use Rattle.std.specs.Option.{option_map, option_and_then}
use Rattle.raw_pool.specs.declared.pool.Slot.{Slot}
use Rattle.raw_pool.specs.Slots.{IsLive}
use Rattle.link_ring.specs.Members.{HasMember}
use Rattle.link_ring.proofs.Members.{member_of, member_flip}
use Rattle.link_ring.proofs.Reading.{reads_along}
use Rattle.link_ring.proofs.Rings.{turned}
use Rattle.mesh_store.specs.Limits.{rounds_limited}
use Rattle.link_ring.specs.Changes.{SameOutside}
use Rattle.mesh_store.specs.Slots.{at, changed}
use Rattle.mesh_store.specs.Stored.{Stored, round_links, with_face_loop, change_face, beside_rounds}
use Rattle.mesh_store.specs.declared.cells.Round.{Round}
use Rattle.mesh_store.specs.declared.cells.FaceCell.{FaceCell}
use Rattle.mesh_cycles.specs.Owners.{len_of, first_round}
use Rattle.mesh_cycles.specs.Lists.{same_round, from_member, before_member, turned_to}
use Rattle.mesh_cycles.specs.Cycles.{AreCycles, round_of, IsCounted}
use Rattle.mesh_cycles.specs.Edits.{SameDisks, SameRadials, SameRoundsBut, EditsRound, bare_face, beside_round}
use Rattle.mesh_cycles.proofs.Cells.{live_cell, covered, changed_over, changed_here, changed_elsewhere}
use Rattle.mesh_cycles.proofs.RingLists.{parted, reads_distinct, from_split, before_split}
use Rattle.mesh_cycles.proofs.Besides.{round_bare}
use Rattle.mesh_cycles.proofs.CycleKinds.{Changes, own_cycle, other_cycles, still_holds}
use Rattle.mesh_cycles.proofs.Frames.{round_test, round_kind, rounds_hold, are_cycles}

-- a face's cycle has the members `now`, and all others have those that they had
pub record TurnsRound (old new : Stored) (f : ℕ) (now : List Round) : Type 0 where
  pub own : round_of new f ≡ now
  pub others : SameRoundsBut f old new
  pub disks : SameDisks old new
  pub radials : SameRadials old new
  pub cycles : AreCycles new

module _ (old new : Stored) (h : AreCycles old) (f l : Slot) (xs ys : List Round)
    (is : round_of old f.0 ≡ xs ++ record { 0 = l } ∷ ys) (live : IsLive old.faces.cells f.0) where
  key : Round
  key = record { 0 = l }

  made : Stored
  made = change_face (with_face_loop (Some l)) old f.0

  changes : Changes (round_kind old) (round_kind made) f.0 [] (key ∷ ys ++ xs)
  unfolding key made
  changes =
      let c = live_cell old.faces.cells f.0 live in
      let first = option_and_then (λ (x : FaceCell). option_map (λ (s : Slot). let r : Round = record { 0 = s } in r)
      x.first_loop) in
      let begins : first_round made f.0 ≡ Some key =
      ap first (changed_here (with_face_loop (Some l)) old.faces.cells f.0
      ∙ ap (option_map (with_face_loop (Some l))) c.1) in
      record {
        reads = record { ring = turned _ xs (key ∷ ys) (reads_along (h.rounds f.0) is).ring; start = begins };
        firsts = λ p ne. ap first (changed_elsewhere (with_face_loop (Some l)) old.faces.cells f.0 p ne);
        owners = λ k. refl;
        outside = record { has = λ k. refl; next = λ k n. refl; prev = λ k n. refl };
        near = λ k m. absurd m;
        members = λ k m. h.round_faces f.0 k (member_of k (member_flip (key ∷ ys) xs k m) (sym is));
        limited = rounds_limited made;
      }

  pub first_turned : new ≡ change_face (with_face_loop (Some l)) old f.0
      → TurnsRound old new f.0 (record { 0 = l } ∷ ys ++ xs)
  unfolding key made
  first_turned e =
      let P = λ (t : Stored). TurnsRound old t f.0 (key ∷ ys ++ xs) in
      let holds = rounds_hold old h in
      subst P (sym e) (record {
        own = own_cycle same_round round_test changes;
        others = other_cycles same_round round_test holds changes;
        disks = λ v. refl;
        radials = λ d. refl;
        cycles = are_cycles made (record { reads = h.disks; owned = h.disk_ends })
            (record { reads = h.radials; owned = h.radial_edges }) (still_holds same_round round_test holds changes)
            h.differ;
      })

-- ---- the calls

-- the stored length stays where first loops are written
len_stays : (cells : List (Option FaceCell)) (f l : Slot)
    → option_map (λ (c : FaceCell). c.len) (at (changed (with_face_loop (Some l)) cells f.0) f.0)
    ≡ option_map (λ (c : FaceCell). c.len) (at cells f.0)
len_stays cells f l = ap (option_map (λ (c : FaceCell). c.len)) (changed_here (with_face_loop (Some l)) cells f.0)
    ∙ covered (with_face_loop (Some l)) (λ (c : FaceCell). c.len) (λ c. refl) (at cells f.0)

-- another loop comes first
pub loop_turned : (old new : Stored) (f l : Slot) → AreCycles old → IsLive old.faces.cells f.0
    → HasMember (round_of old f.0) (record { 0 = l }) → IsCounted old f.0
    → new ≡ change_face (with_face_loop (Some l)) old f.0
    → EditsRound old new f.0 [] (turned_to same_round (record { 0 = l }) (round_of old f.0))
loop_turned old new f l h live member counted e =
    let key : Round = record { 0 = l } in
    let s = parted same_round round_test key (h.rounds f.0) member in
    let r = reads_along (h.rounds f.0) s.whole in
    let t = first_turned old new h f l s.before s.after s.whole live e in
    let from = ap (from_member same_round key) s.whole
    ∙ from_split same_round round_test s.before key s.after (reads_distinct r) in
    let before = ap (before_member same_round key) s.whole
    ∙ before_split same_round round_test s.before key s.after (reads_distinct r) in
    let turned : turned_to same_round key (round_of old f.0) ≡ key ∷ s.after ++ s.before = λ i. from i ++ before i in
    let long : length (round_of old f.0) ≡ length (round_of new f.0) =
    ap (λ (ls : List Round). length ls) s.whole
    ∙ (let p = length-append s.before (key ∷ s.after) in let q =
    length-append s.after s.before in let e' : length (s.before ++ key ∷ s.after)
    ≡ length (key ∷ s.after ++ s.before) = omega arith in e')
    ∙ ap (λ (ls : List Round). length ls) (sym t.own) in
    let rest : beside_round new f.0 ≡ beside_round old f.0 =
    ap (λ (u : Stored). beside_round u f.0) e
    ∙ ap (λ (cs : List (Option FaceCell)). beside_rounds (record old
    { faces = record { cells = cs; names = old.faces.names } }))
    (changed_over (with_face_loop (Some l)) bare_face (λ c. refl) old.faces.cells f.0) in
    record {
      own = t.own ∙ sym turned;
      len = ap (λ (u : Stored). len_of u f.0) e ∙ len_stays old.faces.cells f l ∙ counted ∙ ap (λ (n : ℕ). Some n) long;
      links = (let P = λ (u : Stored). SameOutside (round_links old) (round_links u) [] in subst P (sym e)
          (record { has = λ k. refl; next = λ k n. refl; prev = λ k n. refl }));
      disks = t.disks;
      radials = t.radials;
      others = t.others;
      rest = rest;
      stays = round_bare old new f.0 rest;
      cycles = t.cycles;
    }
