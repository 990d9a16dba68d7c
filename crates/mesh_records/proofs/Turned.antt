-- Another corner of a face becomes the first one.
use Rattle.std.proofs.Common.{◌≡◌, ◌==◌, ℕ, suc, zero, Bool, true, false, List, [], ◌∷◌, ◌++◌, Option, Some, None, length, map, take, drop, cond, refl, sym, ap, ◌∙◌, subst, inl, inr, arith}
use Rattle.std.specs.List.{slice_get}
use Rattle.std.proofs.lemmas.Bool.{eq-eqb, eqb-true, false_from_ne_true, false≢true}
use Rattle.std.proofs.lemmas.List.{length-append, map-append}
use Rattle.std.proofs.lemmas.Option.{same_Some}
use Rattle.raw_pool.specs.declared.pool.Slot.{Slot}
use Rattle.link_ring.specs.Members.{HasMember, AllDistinct}
use Rattle.link_ring.proofs.Members.{member_of, member_left, member_right, member_cases}
use Rattle.mesh_store.specs.Slots.{at}
use Rattle.mesh_store.specs.Stored.{Stored}
use Rattle.mesh_store.specs.declared.cells.Round.{Round}
use Rattle.mesh_cycles.specs.Cycles.{round_of}
use Rattle.mesh_cycles.specs.Edits.{EditsRound}
use Rattle.mesh_cycles.specs.Found.{loops_in}
use Rattle.mesh_cycles.specs.Lists.{same_round, from_member, before_member, turned_to}
use Rattle.mesh_cycles.proofs.Around.{in_once}
use Rattle.mesh_model.specs.Complex.{Complex, corners_of}
use Rattle.mesh_model.specs.Kernel.{with_corners_by}
use Rattle.mesh_model.specs.declared.names.FaceName.{FaceName}
use Rattle.mesh_model.specs.declared.records.CornerRec.{CornerRec}
use Rattle.mesh_model.specs.declared.records.FaceRec.{FaceRec}
use Rattle.mesh_model.specs.declared.records.Counters.{Counters}
use Rattle.mesh_records.specs.Changes.{turned}
use Rattle.mesh_records.specs.ReadOff.{corner_rec, face_at, read_off}
use Rattle.mesh_records.specs.Whole.{IsWhole}
use Rattle.mesh_records.proofs.ByName.{faces_all}
use Rattle.mesh_records.proofs.CornerChanges.{corners_agree, corners_stay, turned_none, turned_long, map_turned}
use Rattle.mesh_records.proofs.Listed.{listed}
use Rattle.mesh_records.proofs.Reordered.{reorders}
use Rattle.mesh_records.specs.Rewrites.{Rewrites}

module _ (l : Slot) where
  -- a choice by a test that is known
  chosen : {X : Type 0} (b : Bool) (x y : X) → b ≡ true → cond b x y ≡ x
  chosen true x y e = refl
  chosen false x y e = absurd (false≢true e)

  other : {X : Type 0} (b : Bool) (x y : X) → b ≡ false → cond b x y ≡ y
  other true x y e = absurd (false≢true (sym e))
  other false x y e = refl

  -- the two parts of a list make it up
  parts : (rs : List Round) → before_member same_round (record { 0 = l }) rs
      ++ from_member same_round (record { 0 = l }) rs ≡ rs
  parts [] = refl
  parts (r ∷ rs) = by_test (r.0.0 == l.0) (parts rs)
    where
      by_test : (b : Bool) → before_member same_round (record { 0 = l }) rs
          ++ from_member same_round (record { 0 = l }) rs ≡ rs
          → cond b [] (r ∷ before_member same_round (record { 0 = l }) rs)
          ++ cond b (r ∷ rs) (from_member same_round (record { 0 = l }) rs) ≡ r ∷ rs
      by_test true e = refl
      by_test false e = ap (λ (xs : List Round). r ∷ xs) e

  -- the list from a loop on is that from the loop's position on
  from_placed : (rs : List Round) (i : ℕ) → slice_get (map (λ (r : Round). r.0) rs) i ≡ Some l
      → AllDistinct (map (λ (r : Round). r.0) rs)
      → map (λ (r : Round). r.0) (from_member same_round (record { 0 = l }) rs)
      ≡ drop i (map (λ (r : Round). r.0) rs)
  from_placed [] i e d = absurd (let no : None ≡ Some l = e in cc)
  from_placed (r ∷ rs) zero e d =
      ap (map (λ (x : Round). x.0))
      (chosen (r.0.0 == l.0) (r ∷ rs) (from_member same_round (record { 0 = l }) rs)
      (eq-eqb r.0.0 l.0 (ap (λ (s : Slot). s.0) (same_Some r.0 l e))))
  from_placed (r ∷ rs) (suc i) e d =
      let P = HasMember (map (λ (x : Round). x.0) rs) in
      let m = listed (map (λ (x : Round). x.0) rs) i l e in
      ap (map (λ (x : Round). x.0))
      (other (r.0.0 == l.0) (r ∷ rs) (from_member same_round (record { 0 = l }) rs)
      (false_from_ne_true (r.0.0 == l.0)
      (λ q. d.0 (subst P (let n = eqb-true r.0.0 l.0 q in λ j. record { 0 = sym n j }) m))))
      ∙ from_placed rs i e d.1

  -- and that up to the loop is that before its position
  before_placed : (rs : List Round) (i : ℕ) → slice_get (map (λ (r : Round). r.0) rs) i ≡ Some l
      → AllDistinct (map (λ (r : Round). r.0) rs)
      → map (λ (r : Round). r.0) (before_member same_round (record { 0 = l }) rs)
      ≡ take i (map (λ (r : Round). r.0) rs)
  before_placed [] i e d = absurd (let no : None ≡ Some l = e in cc)
  before_placed (r ∷ rs) zero e d =
      ap (map (λ (x : Round). x.0))
      (chosen (r.0.0 == l.0) [] (r ∷ before_member same_round (record { 0 = l }) rs)
      (eq-eqb r.0.0 l.0 (ap (λ (s : Slot). s.0) (same_Some r.0 l e))))
  before_placed (r ∷ rs) (suc i) e d =
      let P = HasMember (map (λ (x : Round). x.0) rs) in
      let m = listed (map (λ (x : Round). x.0) rs) i l e in
      ap (map (λ (x : Round). x.0))
      (other (r.0.0 == l.0) [] (r ∷ before_member same_round (record { 0 = l }) rs)
      (false_from_ne_true (r.0.0 == l.0)
      (λ q. d.0 (subst P (let n = eqb-true r.0.0 l.0 q in λ j. record { 0 = sym n j }) m))))
      ∙ ap (λ (xs : List Slot). r.0 ∷ xs) (before_placed rs i e d.1)

module _ (old new : Stored) (n : Counters) (w : IsWhole old n) (k : FaceName) (f l : Slot) (i : ℕ)
    (named : at old.faces.names k.0 ≡ Some f) (place : slice_get (loops_in old f.0) i ≡ Some l)
    (a : EditsRound old new f.0 [] (turned_to same_round (record { 0 = l }) (round_of old f.0))) where
  pub turns_corners : Rewrites old new n (λ (c : Complex). with_corners_by c k (turned i))
  turns_corners =
      let rs = round_of old f.0 in
      let once = in_once old w.cycles.cycles f.0 in
      let before = before_member same_round (record { 0 = l }) rs in
      let from = from_member same_round (record { 0 = l }) rs in
      let whole = parts l rs in
      let sum = length-append from before in
      let back = length-append before from in
      let both = ap (λ (xs : List Round). length xs) whole in
      let first = from_placed l rs i place once in
      let last = before_placed l rs i place once in
      let slots : map (λ (r : Round). r.0) (turned_to same_round (record { 0 = l }) rs) ≡ turned i (loops_in old f.0) =
      map-append (λ (r : Round). r.0) from before ∙ (λ j. first j ++ last j) in
      reorders old new n w k f named [] (turned_to same_round (record { 0 = l }) rs) a
      (λ r m. elim (member_cases before from r (member_of r m (sym whole))) [
        | inl x ↦ member_right from before r x
        | inr y ↦ member_left from before r y
      ])
      (omega arith) (turned i) (λ cs. turned_long cs i)
      (ap (map (corner_rec old)) slots ∙ map_turned (corner_rec old) (loops_in old f.0) i)

-- a face that is turned past its last corner stays
pub turns_none : (st : Stored) (n : Counters) (w : IsWhole st n) (k : FaceName) (i : ℕ)
    → i ≡ length (corners_of (face_at st k.0)) → Rewrites st st n (λ (c : Complex). with_corners_by c k (turned i))
turns_none st n w k i all = record {
  whole = w;
  read = λ lists.
      let whole = read_off st n lists in
      sym (corners_agree whole k (turned i) (λ (cs : List CornerRec). cs) (λ r is.
      let told = ap (λ (o : Option FaceRec). length (corners_of o)) (sym (faces_all st n w.records k.0) ∙ is) in
      ap (λ (j : ℕ). turned j r.corners) (all ∙ told) ∙ turned_none r.corners) ∙ corners_stay whole k);
  disks = refl;
  room = record { verts = omega arith; edges = omega arith; corners = omega arith; faces = omega arith };
}
