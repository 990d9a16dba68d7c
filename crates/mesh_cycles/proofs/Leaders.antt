-- With which of its loops a face comes.
use Rattle.std.proofs.Common.{◌≡◌, ℕ, zero, suc, ◌<◌, ◌==◌, ◌&&◌, Bool, true, false, cond, List, [], ◌∷◌, ◌++◌, length, get_or, Option, Some, None, refl, sym, ap, ◌∙◌, subst, inl, inr, arith, eq-eqb}
use Rattle.std.specs.Bool.{then_some}
use Rattle.std.specs.List.{find}
use Rattle.std.specs.Option.{option_map, option_map_or, option_or, option_and_then, option_eq}
use Rattle.std.specs.Iterator.{Yields, AlwaysYields}
use Rattle.std.proofs.lemmas.Bool.{false≢true, eqb-true}
use Rattle.std.proofs.lemmas.Iterator.{YieldsList}
use Rattle.std.proofs.lemmas.Iterator.Consumers.{YieldsList-turn, YieldsList-end}
use Rattle.std.proofs.lemmas.List.{map-id}
use Rattle.std.proofs.lemmas.List.Folds.{find-append}
use Rattle.raw_pool.specs.declared.pool.Slot.{Slot}
use Rattle.raw_pool.specs.Slots.{holds, IsLive}
use Rattle.link_ring.specs.Members.{HasMember}
use Rattle.link_ring.proofs.Members.{member_along}
use Rattle.mesh_store.specs.Slots.{at}
use Rattle.mesh_store.specs.Stored.{Stored, no_slot}
use Rattle.mesh_store.specs.declared.cells.LoopCell.{LoopCell}
use Rattle.mesh_cycles.specs.Found.{loops_in, face_at, own_or_first, leads}
use Rattle.mesh_cycles.proofs.Mapped.{found_passes, finds_one}
use Rattle.mesh_cycles.proofs.Around.{same_slot}

-- ---- a slot that is looked for

-- a slot is itself
pub itself : (l : Slot) → (l.0 == l.0) ≡ true
itself l = eq-eqb l.0 l.0 refl

-- a slot is found in a list that has it
finds_slot : (ls : List Slot) (l : Slot) → HasMember ls l → find (λ (k : Slot). k.0 == l.0) ls ≡ Some l
finds_slot ls l h =
    let t = finds_one (λ (k : Slot). k.0 == l.0) ls l h (itself l) in
    t.1 ∙ ap Some (same_slot t.0 l (eqb-true t.0.0 l.0 (found_passes (λ (k : Slot). k.0 == l.0) ls t.0 t.1).1))

-- what is found is l
pub is_found : (o : Option Slot) (l : Slot) → option_map_or (λ (k : Slot). k.0 == l.0) o false ≡ true → o ≡ Some l
is_found None l e = absurd (false≢true e)
is_found (Some k) l e = ap Some (same_slot k l (eqb-true k.0 l.0 e))

-- a slot that may be missing is compared with one
pub compared : (o : Option Slot) (l : Slot)
    → option_eq (λ (a b : Slot). a.0 == b.0) o (Some l) ≡ option_map_or (λ (k : Slot). k.0 == l.0) o false
compared None l = refl
compared (Some k) l = refl

-- ---- the loop with which a face comes

-- a loop of the face is taken where the list has it
pub takes_own : (st : Stored) (own : Option Slot) (ls : List Slot) (f l : Slot) → HasMember ls l → own ≡ Some l
    → own_or_first st own ls f ≡ Some l
takes_own st own ls f l h is =
    ap (λ (o : Option Slot). own_or_first st o ls f) is
    ∙ ap (λ (o : Option Slot). option_or o (find (λ (k : Slot). (face_at st k).0 == f.0) ls)) (finds_slot ls l h)

-- the face of a loop
pub face_is : (o : Option LoopCell) (f : Slot) → option_map (λ (c : LoopCell). c.face) o ≡ Some f
    → option_map_or (λ (c : LoopCell). c.face) o no_slot ≡ f
face_is None f e = absurd (cc)
face_is (Some c) f e = cc

-- what has to be known of a loop, and of the first of its face's own cycle that passes the test
pub leads_by : (st : Stored) (test : Slot → Bool) (ls : List Slot) (l f : Slot) (own : Option Slot)
    → option_map (λ (c : LoopCell). c.face) (at st.loops l.0) ≡ Some f
    → IsLive st.faces.cells f.0 → own ≡ find test (loops_in st f.0)
    → leads st test ls l ≡ option_map_or (λ (k : Slot). k.0 == l.0) (own_or_first st own ls f) false
leads_by st test ls l f own is live found =
    let comes = λ (g : Slot). option_map_or (λ (k : Slot). k.0 == l.0)
    (own_or_first st (find test (loops_in st g.0)) ls g) false in
    ap (λ (g : Slot). holds (at st.faces.cells g.0) && comes g) (face_is (at st.loops l.0) f is)
    ∙ ap (λ (b : Bool). b && comes f) live
    ∙ ap (λ (o : Option Slot). option_map_or (λ (k : Slot). k.0 == l.0) (own_or_first st o ls f) false) (sym found)

-- a face comes with its own loop where the list has it
pub leads_own : (st : Stored) (test : Slot → Bool) (ls : List Slot) (l f : Slot) (own : Option Slot)
    → option_map (λ (c : LoopCell). c.face) (at st.loops l.0) ≡ Some f
    → IsLive st.faces.cells f.0 → own ≡ find test (loops_in st f.0) → HasMember ls l → own ≡ Some l
    → leads st test ls l ≡ true
leads_own st test ls l f own is live found h e =
    leads_by st test ls l f own is live found
    ∙ ap (λ (o : Option Slot). option_map_or (λ (k : Slot). k.0 == l.0) o false) (takes_own st own ls f l h e)
    ∙ itself l

-- ---- a walk along loops

-- what is at a place is a member
member_at : {A : Type 0} (xs : List A) (n : ℕ) (d : A) → n < length xs → HasMember xs (get_or xs n d)
member_at [] n d p = absurd (omega arith)
member_at (x ∷ xs) zero d p = inl refl
member_at (x ∷ xs) (suc n) d p = inr (member_at xs n d (omega arith))

-- a walk begins with what gives a list
pub began : {S : Type 0} (steps : S → Option Slot → S → Type 0) (all : List Slot) (s t : S) → s ≡ t
    → AlwaysYields steps (λ l. l) t all → YieldsList steps (λ l. l) s all
began {S} steps all s t e a = let P = λ (x : S). AlwaysYields steps (λ (l : Slot). l) x all in record
    { runs = subst P (sym e) a }

-- the next loop of it is in the list
pub next_walked : {S : Type 0} {steps : S → Option Slot → S → Type 0} {s : S} {all : List Slot}
    → YieldsList steps (λ l. l) s all
    → (xs : List Slot) (t u : S) (l : Slot) → Yields steps s xs t → steps t (Some l) u → HasMember all l
next_walked {all = all} w xs t u l y n = let at =
    YieldsList-turn w xs t y (Some l) u l refl n in member_along all (member_at all (length xs) l at.0) (sym at.1)

-- the loop that is looked for was not passed, and of the passed ones the first that names the face is known
pub record ArePassed (st : Stored) (own : Option Slot) (ls : List Slot) (f : Slot) (first : Option Slot) : Type 0 where
  pub apart : option_and_then (λ (k : Slot). find (λ (l : Slot). l.0 == k.0) ls) own ≡ None
  pub named : first ≡ find (λ (l : Slot). (face_at st l).0 == f.0) ls

-- it is not the loop looked for
not_own : (own : Option Slot) (ls : List Slot) (l : Slot)
    → option_and_then (λ (k : Slot). find (λ (j : Slot). j.0 == k.0) ls) own ≡ None → (own ≡ Some l → ⊥)
    → option_and_then (λ (k : Slot). find (λ (j : Slot). j.0 == k.0) (ls ++ l ∷ [])) own ≡ None
not_own None ls l e n = refl
not_own (Some k) ls l e n =
    find-append (λ (j : Slot). j.0 == k.0) ls (l ∷ [])
    ∙ ap (λ (o : Option Slot). option_or o (find (λ (j : Slot). j.0 == k.0) (l ∷ []))) e
    ∙ fails (l.0 == k.0) refl
  where
    fails : (b : Bool) → (l.0 == k.0) ≡ b → cond b (Some l) None ≡ None
    fails true is = absurd (n (ap Some (sym (same_slot l k (eqb-true l.0 k.0 is)))))
    fails false is = refl

-- two ways to say a choice
then_cond : (b : Bool) (l : Slot) → then_some b l ≡ cond b (Some l) None
then_cond true l = refl
then_cond false l = refl

-- one more is passed, of this face
pub passed_more : (st : Stored) (own : Option Slot) (ls : List Slot) (f : Slot) (first next : Option Slot)
    (l face : Slot) → ArePassed st own ls f first → (own ≡ Some l → ⊥)
    → option_map (λ (c : LoopCell). c.face) (at st.loops l.0) ≡ Some face
    → next ≡ option_or first (then_some (face.0 == f.0) l) → ArePassed st own (ls ++ l ∷ []) f next
passed_more st own ls f first next l face p n is e = record {
  apart = not_own own ls l p.apart n;
  named =
      e
      ∙ ap (λ (g : Slot). option_or first (then_some (g.0 == f.0) l)) (sym (face_is (at st.loops l.0) face is))
      ∙ ap (option_or first) (then_cond ((face_at st l).0 == f.0) l)
      ∙ ap (λ (o : Option Slot). option_or o (find (λ (k : Slot). (face_at st k).0 == f.0) (l ∷ []))) p.named
      ∙ sym (find-append (λ (k : Slot). (face_at st k).0 == f.0) ls (l ∷ []));
}

-- at the end the list was given
pub yielded_all : {S : Type 0} {steps : S → Option Slot → S → Type 0} {s : S} {all : List Slot}
    → YieldsList steps (λ l. l) s all → (xs : List Slot) (t u : S) → Yields steps s xs t → steps t None u → xs ≡ all
yielded_all w xs t u y n = sym (map-id xs) ∙ (YieldsList-end w xs t y None u refl n).0

-- all are passed
pub passed_all : {S : Type 0} {steps : S → Option Slot → S → Type 0} {s : S} {all : List Slot}
    → YieldsList steps (λ l. l) s all → (xs : List Slot) (t u : S) → Yields steps s xs t → steps t None u
    → (st : Stored) (own : Option Slot) (f : Slot) (first : Option Slot) → ArePassed st own xs f first
    → first ≡ own_or_first st own all f
passed_all w xs t u y n st own f first p =
    p.named
    ∙ sym (ap (λ (o : Option Slot). option_or o (find (λ (l : Slot). (face_at st l).0 == f.0) xs)) p.apart)
    ∙ ap (λ (ls : List Slot). own_or_first st own ls f) (yielded_all w xs t u y n)
