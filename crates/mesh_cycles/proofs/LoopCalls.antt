-- The calls on loop cycles.
--
-- A lemma on a call takes what the calls in its body ensure as it stands there.
use Rattle.std.proofs.Common.{◌≡◌, ◌≤◌, ◌+◌, ◌-◌, ℕ, IsTrue, is_some, List, [], ◌∷◌, ◌++◌, Option, Some, None, length, refl, sym, ap, ◌∙◌, subst, arith, length-append}
use Rattle.std.specs.Option.{option_map}
use Rattle.std.proofs.lemmas.Option.{same_Some}
use Rattle.raw_pool.specs.declared.pool.Slot.{Slot}
use Rattle.raw_pool.specs.Slots.{IsLive}
use Rattle.link_ring.specs.Members.{HasMember}
use Rattle.link_ring.specs.Ring.{IsRing, ReadsAs}
use Rattle.link_ring.specs.Changes.{SameOutside}
use Rattle.link_ring.proofs.Members.{member_one}
use Rattle.link_ring.proofs.Reading.{reads_at, reads_along, put_in_middle, put_others}
use Rattle.mesh_store.specs.Limits.{rounds_limited}
use Rattle.mesh_store.specs.Slots.{at}
use Rattle.mesh_store.specs.Stored.{Stored, round_links, with_face_len}
use Rattle.mesh_store.specs.declared.cells.Round.{Round}
use Rattle.mesh_store.specs.declared.cells.LoopCell.{LoopCell}
use Rattle.mesh_store.specs.declared.cells.FaceCell.{FaceCell}
use Rattle.mesh_cycles.specs.Owners.{face_of, len_of, first_round}
use Rattle.mesh_cycles.specs.Lists.{ring_list, same_round, without, with_behind}
use Rattle.mesh_cycles.specs.Cycles.{AreCycles, round_of, IsInNoRound, IsCounted}
use Rattle.mesh_cycles.specs.Edits.{EditsRound}
use Rattle.mesh_cycles.proofs.RingLists.{reads_distinct, reads_keys, parted, length_behind}
use Rattle.mesh_cycles.proofs.CycleKinds.{in_none, near_more, last_more, behind_more}
use Rattle.mesh_cycles.proofs.Cells.{live_cell, led_back}
use Rattle.mesh_cycles.proofs.Frames.{round_kind, rounds_hold, round_test}
use Rattle.mesh_cycles.proofs.Rounds.{WritesRound, as_round, face_loop_in, with_loop_and_len, round_changes, round_edited}

-- ---- the first loop that was written, or stays

-- the slot of a first loop that may be None
abbrev pub slot_in : Option Round → Option Slot
slot_in head = option_map (λ (l : Round). l.0) head

-- the first loop is the one that was written
first_written : (cells : List (Option FaceCell)) (f : ℕ) (head : Option Round) (len : ℕ) → IsLive cells f
    → face_loop_in (option_map (with_loop_and_len (slot_in head) len) (at cells f)) ≡ head
first_written cells f head len live =
    ap (λ (o : Option FaceCell). face_loop_in (option_map (with_loop_and_len (slot_in head) len) o))
    (live_cell cells f live).1 ∙ led_back as_round (λ (l : Round). l.0) (λ l. refl) head

-- a length leaves the first loop
first_left : (o : Option FaceCell) (len : ℕ) → face_loop_in (option_map (with_face_len len) o) ≡ face_loop_in o
first_left None len = refl
first_left (Some c) len = refl

-- ---- the face of a loop that is in a cycle

-- the loop is in the cycle of the face that it names
pub record IsInOwn (st : Stored) (l : Slot) (f : ℕ) : Type 0 where
  pub member : HasMember (round_of st f) (record { 0 = l })
  pub face : face_of st l ≡ Some f

-- the face of a loop, as a slot
pub names_face : (o : Option LoopCell) (face : Slot) → option_map (λ (c : LoopCell). c.face) o ≡ Some face
    → option_map (λ (c : LoopCell). c.face.0) o ≡ Some face.0
names_face None face p = absurd (let q : None ≡ Some face = p in cc)
names_face (Some c) face p = ap (λ (s : Slot). Some s.0) (same_Some _ _ p)

-- it is so of a loop that is in a cycle
pub named_face : (st : Stored) (l face : Slot) → AreCycles st → (f : ℕ) × HasMember (round_of st f) (record { 0 = l })
    → option_map (λ (c : LoopCell). c.face) (at st.loops l.0) ≡ Some face → IsInOwn st l face.0
named_face st l face h m e =
    let is : m.0 ≡ face.0 = same_Some _ _ (sym (h.round_faces m.0 (record { 0 = l }) m.1)
    ∙ names_face (at st.loops l.0) face e) in
    let P = IsInOwn st l in
    subst P is (record { member = m.1; face = h.round_faces m.0 (record { 0 = l }) m.1 })

-- a face with a loop is live
pub face_live : (st : Stored) (f : ℕ) (l : Round) → HasMember (round_of st f) l → IsLive st.faces.cells f
face_live st f l m = by_cell (at st.faces.cells f) m
  where
    by_cell : (o : Option FaceCell) → HasMember (ring_list same_round (round_links st) (length st.loops)
        (face_loop_in o)) l → IsLive (o ∷ []) 0
    by_cell None a = absurd a
    by_cell (Some c) a = refl

-- a cycle has no more members than there are loops
pub round_short : (st : Stored) (f : ℕ) → AreCycles st → length (round_of st f) ≤ length st.loops
round_short st f h = let r = h.rounds f in rounds_limited st (round_of st f) (reads_distinct r) (reads_keys r)

-- nor has it with one more loop of the face
pub one_more : (st : Stored) (f : ℕ) (l : Slot) → AreCycles st → IsInNoRound st l → face_of st l ≡ Some f
    → length (round_of st f) + 1 ≤ length st.loops
one_more st f l h out names =
    let r = h.rounds f in
    let few = rounds_limited st (record { 0 = l } ∷ round_of st f) (out f, reads_distinct r)
    (live_key (at st.loops l.0) names, reads_keys r) in
    omega arith
  where
    live_key : (o : Option LoopCell) → option_map (λ (c : LoopCell). c.face.0) o ≡ Some f → IsTrue (is_some o)
    live_key None a = absurd (let q : None ≡ Some f = a in cc)
    live_key (Some c) a = refl

-- ---- the calls

-- a loop is the only one
pub loop_made : (old mid new : Stored) (f : ℕ) (l : Round) → AreCycles old → IsLive old.faces.cells f
    → face_of old l.0 ≡ Some f
    → (ring : IsRing (round_links mid) (l ∷ [])) → (others : SameOutside (round_links old) (round_links mid) (l ∷ []))
    → WritesRound old mid new f (with_loop_and_len (Some l.0) 1) → EditsRound old new f (l ∷ []) (l ∷ [])
loop_made old mid new f l h live names ring others w =
    let P = λ (k : Round). face_of old k.0 ≡ Some f in
    let only : (j : Round) → HasMember (l ∷ []) j → face_of old j.0 ≡ Some f = λ j m. subst P (member_one m) names in
    let cell = live_cell old.faces.cells f live in
    round_edited w cell.0.len 1 h
    (round_changes w (Some l) (l ∷ []) (l ∷ []) (first_written old.faces.cells f (Some l) 1 live)
    (record { ring = ring; start = refl }) others only only)
    (ap (option_map (λ (c : FaceCell). c.len)) cell.1) (λ c. refl) refl

-- a loop is put last
pub loop_appended : (old mid new : Stored) (f : ℕ) (l : Round) (len : ℕ) {first head : Option Round} → AreCycles old
    → IsLive old.faces.cells f → face_of old l.0 ≡ Some f
    → IsCounted old f → len_of old f ≡ Some len → first ≡ first_round old f
    → (reads : (xs : List Round) → ReadsAs (round_links old) first xs → ReadsAs (round_links mid) head (xs ++ l ∷ []))
    → (others : (xs : List Round) → ReadsAs (round_links old) first xs
    → SameOutside (round_links old) (round_links mid) (l ∷ xs))
    → WritesRound old mid new f (with_loop_and_len (slot_in head) (len + 1))
    → EditsRound old new f (l ∷ round_of old f) (round_of old f ++ l ∷ [])
loop_appended old mid new f l len {first} {head} h live names counted counts is reads others w =
    let rounds = rounds_hold old h in let r = reads_at (h.rounds f) (sym is) in
    let c = round_changes w head (l ∷ round_of old f) (round_of old f ++ l ∷ [])
    (first_written old.faces.cells f head (len + 1) live) (reads (round_of old f) r) (others (round_of old f) r)
    (near_more same_round (round_kind old) f l rounds names) (last_more same_round (round_kind old) f l rounds names) in
    let was : len ≡ length (round_of old f) = same_Some _ _ (sym counts ∙ counted) in
    let more = length-append (round_of old f) (l ∷ []) in
    round_edited w len (len + 1) h c counts (λ c. refl) (omega arith)

-- a loop is put behind another
pub loop_inserted : (old mid new : Stored) (after l : Round) (face : Slot) (len : ℕ) → AreCycles old
    → (f : ℕ) × HasMember (round_of old f) after → ((f : ℕ) → face_of old after.0 ≡ Some f → IsCounted old f)
    → face_of old l.0 ≡ face_of old after.0
    → option_map (λ (c : LoopCell). c.face) (at old.loops after.0.0) ≡ Some face → len_of old face.0 ≡ Some len
    → (ring : (xs : List Round) → IsRing (round_links old) (after ∷ xs) → IsRing (round_links mid) (after ∷ l ∷ xs))
    → (others : (xs : List Round) → IsRing (round_links old) (after ∷ xs)
    → SameOutside (round_links old) (round_links mid) (l ∷ after ∷ xs))
    → WritesRound old mid new face.0 (with_face_len (len + 1))
    → (f : ℕ) → face_of old after.0 ≡ Some f
    → EditsRound old new f (l ∷ round_of old f) (with_behind same_round after l (round_of old f))
loop_inserted old mid new after l face len h m counted same names counts ring others w f e =
    let a = named_face old after.0 face h m names in
    let rounds = rounds_hold old h in let s = parted same_round round_test after (h.rounds face.0) a.member in
    let r = reads_along (h.rounds face.0) s.whole in
    let owner : face_of old l.0 ≡ Some face.0 = same ∙ a.face in
    let P = λ (ls : List Round). SameOutside (round_links old) (round_links mid) (l ∷ ls) in
    let Q = EditsRound old new face.0 (l ∷ round_of old face.0) in
    let R = λ (g : ℕ). EditsRound old new g (l ∷ round_of old g) (with_behind same_round after l (round_of old g)) in
    let c = round_changes w (first_round old face.0) (l ∷ round_of old face.0) (s.before ++ after ∷ l ∷ s.after)
    (first_left (at old.faces.cells face.0) (len + 1))
    (put_in_middle (round_links mid) s.before after l s.after r ring)
    (subst P (sym s.whole) (put_others s.before after l s.after r others))
    (near_more same_round (round_kind old) face.0 l rounds owner)
    (behind_more same_round (round_kind old) face.0 l rounds owner s.before after s.after s.whole) in
    let was : len ≡ length (round_of old face.0) = same_Some _ _ (sym counts ∙ counted face.0 a.face) in
    let whole : length (round_of old face.0) ≡ length (s.before ++ after ∷ s.after) =
    ap (λ (ls : List Round). length ls) s.whole in
    let more = length_behind s.before after l s.after in
    subst R (same_Some _ _ (sym a.face ∙ e)) (subst Q (sym (s.more l))
    (round_edited w len (len + 1) h c counts (λ c. refl) (omega arith)))

-- a loop is taken out
pub loop_removed : (old mid new : Stored) (f : ℕ) (l : Round) (len : ℕ) {first head : Option Round} → AreCycles old
    → IsLive old.faces.cells f → HasMember (round_of old f) l
    → IsCounted old f → len_of old f ≡ Some len → first ≡ first_round old f
    → (reads : (xs ys : List Round) → ReadsAs (round_links old) first (xs ++ l ∷ ys)
    → ReadsAs (round_links mid) head (xs ++ ys))
    → (others : (xs : List Round) → ReadsAs (round_links old) first xs
    → SameOutside (round_links old) (round_links mid) xs)
    → WritesRound old mid new f (with_loop_and_len (slot_in head) (len - 1))
    → EditsRound old new f (round_of old f) (without same_round l (round_of old f)) × IsInNoRound new l.0
loop_removed old mid new f l len {first} {head} h live member counted counts is reads others w =
    let rounds = rounds_hold old h in let r = reads_at (h.rounds f) (sym is) in let s =
    parted same_round round_test l (h.rounds f) member in
    let c = round_changes w head (round_of old f) (s.before ++ s.after)
    (first_written old.faces.cells f head (len - 1) live) (reads s.before s.after (reads_along r s.whole))
    (others (round_of old f) r)
    (rounds.owned f) (λ j m. rounds.owned f j (s.within j m)) in
    let was : len ≡ length (round_of old f) = same_Some _ _ (sym counts ∙ counted) in
    let less = s.count in
    let P = EditsRound old new f (round_of old f) in (
      subst P (sym s.less) (round_edited w len (len - 1) h c counts (λ c. refl) (omega arith)),
      in_none same_round round_test rounds c l (h.round_faces f l member) s.out,
    )
