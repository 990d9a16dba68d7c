-- The places of loops are the corners that pass a test, where these are the loops whose corners pass it; so are their
-- faces.
use Rattle.std.proofs.Common.{◌≡◌, ◌+◌, ◌<◌, ◌==◌, ℕ, zero, suc, Bool, true, false, cond, List, [], ◌∷◌, Option, Some, None, length, map, get_or, refl, sym, ap, ◌∙◌, subst, inl, inr, arith}
use Rattle.std.specs.List.{filter, enumerate_from}
use Rattle.std.specs.Option.{option_map, option_map_or, option_and_then}
use Rattle.std.proofs.Math.ListN.{get_or-map}
use Rattle.std.proofs.lemmas.Bool.{cases_eq, cases_lt, eqb-true, eq-eqb, false_from_ne_true}
use Rattle.std.proofs.lemmas.List.{length-map, get_or_past}
use Rattle.raw_pool.specs.declared.pool.Slot.{Slot}
use Rattle.link_ring.specs.Members.{HasMember, AllDistinct}
use Rattle.link_ring.specs.Mapped.{mapped_from, mapped_to, distinct_map}
use Rattle.mesh_store.specs.Slots.{at}
use Rattle.mesh_store.specs.Stored.{Stored, no_slot}
use Rattle.mesh_store.specs.declared.cells.Round.{Round}
use Rattle.mesh_cycles.specs.Owners.{face_of}
use Rattle.mesh_cycles.specs.Cycles.{round_of}
use Rattle.mesh_cycles.specs.Found.{AllLive, loops_in}
use Rattle.mesh_cycles.proofs.Around.{in_once, in_names, in_live, same_slot}
use Rattle.mesh_cycles.proofs.Mapped.{filtered_from, filtered_to, joined_from, joined_to}
use Rattle.mesh_model.specs.Complex.{corners_of}
use Rattle.mesh_model.specs.Incidence.{corners_in, corners_where}
use Rattle.mesh_model.specs.declared.names.FaceName.{FaceName}
use Rattle.mesh_model.specs.declared.records.Counters.{Counters}
use Rattle.mesh_model.specs.declared.records.CornerRec.{CornerRec}
use Rattle.mesh_model.specs.declared.records.FaceRec.{FaceRec}
use Rattle.mesh_records.specs.ReadOff.{NameLists}
use Rattle.mesh_records.specs.AtSlots.{StoredLoop, loop_in, face_in, IsAt}
use Rattle.mesh_records.specs.ReadOff.{table, corner_rec, face_rec, face_at, read_off}
use Rattle.mesh_records.specs.StandsFor.{ListsOnce, place_in, place_of, face_name}
use Rattle.mesh_records.specs.Whole.{IsWhole}
use Rattle.mesh_records.proofs.Options.{has_key, there}
use Rattle.mesh_records.proofs.Elements.{face_of_in, loop_is_at}
use Rattle.mesh_records.proofs.ByName.{led_to, faces_all, face_leads, face_named}
use Rattle.mesh_records.proofs.Listing.{enumerated_from, enumerated_to}

-- ---- places in a list

-- a member stands at its place
pub record Placed (xs : List Slot) (l : Slot) : Type 0 where
  pub low : place_in xs l < length xs
  pub here : get_or xs (place_in xs l) l ≡ l

pub placed : (xs : List Slot) (l : Slot) → HasMember xs l → Placed xs l
placed [] l h = absurd h
placed (x ∷ xs) l h = elim (cases_eq x.0 l.0) [
  | inl e ↦ (
      let P = λ (b : Bool). (cond b 0 (place_in xs l + 1) < length xs + 1)
      × (get_or (x ∷ xs) (cond b 0 (place_in xs l + 1)) l ≡ l) in
      let t = subst P (sym (eq-eqb x.0 l.0 e)) (omega arith, same_slot x l e) in
      let long : length xs + 1 ≡ length (x ∷ xs) = omega arith in
      record { low = (let a = t.0 in omega arith); here = t.1 })
  | inr ne ↦ (
      let r = placed xs l (elim h [ inl e ↦ absurd (ne (ap (λ (k : Slot). k.0) e)) | inr m ↦ m ]) in
      let P = λ (b : Bool). (cond b 0 (place_in xs l + 1) < length xs + 1)
      × (get_or (x ∷ xs) (cond b 0 (place_in xs l + 1)) l ≡ l) in
      let one : place_in xs l + 1 ≡ suc (place_in xs l) = omega arith in
      let low = r.low in
      let t = subst P (sym (false_from_ne_true (x.0 == l.0) (λ e. ne (eqb-true x.0 l.0 e))))
      (omega arith, ap (λ (k : ℕ). get_or (x ∷ xs) k l) one ∙ r.here) in
      record { low = (let a = t.0 in omega arith); here = t.1 })
]

-- what stands at a place is a member
pub member_at : (xs : List Slot) (j : ℕ) (d : Slot) → j < length xs → HasMember xs (get_or xs j d)
member_at [] j d h = absurd (omega arith)
member_at (x ∷ xs) zero d h = inl refl
member_at (x ∷ xs) (suc j) d h = inr (member_at xs j d (omega arith))

-- and has that place, where no member stands twice
pub place_at : (xs : List Slot) (j : ℕ) (d : Slot) → AllDistinct xs → j < length xs → place_in xs (get_or xs j d) ≡ j
place_at [] j d a h = absurd (omega arith)
place_at (x ∷ xs) zero d a h = ap (λ (b : Bool). cond b 0 (place_in xs x + 1)) (eq-eqb x.0 x.0 refl)
place_at (x ∷ xs) (suc j) d a h =
    let y = get_or xs j d in
    let ne : (x.0 == y.0) ≡ false = false_from_ne_true (x.0 == y.0)
    (λ e. let P = HasMember xs in a.0 (subst P (sym (same_slot x y (eqb-true x.0 y.0 e)))
    (member_at xs j d (omega arith)))) in
    let r = place_at xs j d a.1 (omega arith) in
    ap (λ (b : Bool). cond b 0 (place_in xs y + 1)) ne ∙ ap (λ (k : ℕ). k + 1) r ∙ (omega arith)

-- a face that has a corner at a position is there
has_corners : (o : Option FaceRec) (j : ℕ) → j < length (corners_of o) → (f : FaceRec) × (o ≡ Some f)
has_corners None j h = absurd (omega arith)
has_corners (Some f) j h = (f, refl)

-- what stands in a table is below its length
low_in : {X : Type 0} (xs : List (Option X)) (k : ℕ) (x : X) → get_or xs k None ≡ Some x → k < length xs
low_in xs k x is = elim (cases_lt k (length xs)) [
  | inl lt ↦ lt
  | inr ge ↦ (let q : None ≡ Some x = sym (get_or_past xs k None ge) ∙ is in cc)
]

-- what stands within a list doesn't depend on what would stand past it
get_same : (xs : List Slot) (j : ℕ) (a b : Slot) → j < length xs → get_or xs j a ≡ get_or xs j b
get_same [] j a b h = absurd (omega arith)
get_same (x ∷ xs) zero a b h = refl
get_same (x ∷ xs) (suc j) a b h = get_same xs j a b (omega arith)

module _ (st : Stored) (n : Counters) (lists : NameLists) (w : IsWhole st n) (test : CornerRec → Bool) (ls : List Slot)
    (unique : AllDistinct ls) (live : AllLive st.loops ls)
    (to : (l : Slot) → HasMember ls l → test (corner_rec st l) ≡ true)
    (from : (l : Slot) → IsAt (loop_in st) l.0 → test (corner_rec st l) ≡ true → HasMember ls l) where
  -- a loop by the face that it names, and its position there
  place_by : (l : Slot) (c : StoredLoop) → loop_in st l.0 ≡ Some c
      → place_of st l ≡ (face_name st c.face.0, place_in (loops_in st c.face.0) l)
  place_by l c e =
      let owner = λ (o : Option StoredLoop). option_map_or (λ (y : StoredLoop). y.face.0) o 0 in
      ap (λ (o : Option StoredLoop). (face_name st (owner o), place_in (loops_in st (owner o)) l)) e

  in_face : (l : Slot) (c : StoredLoop) → loop_in st l.0 ≡ Some c → HasMember (loops_in st c.face.0) l
  in_face l c e =
      let of_face : face_of st l ≡ Some c.face.0 =
      sym (face_of_in st l) ∙ ap (option_map (λ (y : StoredLoop). y.face.0)) e in
      mapped_to (λ (r : Round). r.0) (round_of st c.face.0) (record { 0 = l })
      (w.cycles.complete.rounds l c.face.0 of_face)

  forward : (x : FaceName × ℕ) → HasMember (map (place_of st) ls) x
      → HasMember (corners_where test (read_off st n lists)) x
  forward x h =
      let faces = table (face_at st) n.faces in
      let t = mapped_from (place_of st) ls x h in
      let l = t.of in
      let c = there (loop_in st l.0) (loop_is_at st l.0 (live l t.member)) in
      let f = c.0.face in
      let at_face = w.records.linked.face l.0 c.0 c.1 in
      let y = there (face_in st f.0) at_face in
      let i = (face_name st f.0).0 in
      let here : get_or faces i None ≡ Some (face_rec st f.0 y.0) =
      faces_all st n w.records i
      ∙ ap (option_and_then (λ (z : Slot). option_map (face_rec st z.0) (face_in st z.0)))
      (face_leads st n w.records f at_face)
      ∙ ap (option_map (face_rec st f.0)) y.1 in
      let p = placed (loops_in st f.0) l (in_face l c.0 c.1) in
      let j = place_in (loops_in st f.0) l in
      let corners = map (corner_rec st) (loops_in st f.0) in
      let long = length-map (loops_in st f.0) (corner_rec st) in
      let at_j : get_or corners j (corner_rec st l) ≡ corner_rec st l =
      get_or-map (corner_rec st) (loops_in st f.0) j l ∙ ap (corner_rec st) p.here in
      let passed : test (get_or corners j (corner_rec st l)) ≡ true = ap test at_j ∙ to l t.member in
      let low_j : j < length corners = (let a = p.low in omega arith) in
      let name = λ (z : ℕ × CornerRec). let q : FaceName × ℕ = (record { 0 = i }, z.0) in q in
      let inner = mapped_to name (filter (λ (z : ℕ × CornerRec). test z.1) (enumerate_from 0 corners))
      (j, get_or corners j (corner_rec st l))
      (filtered_to (λ (z : ℕ × CornerRec). test z.1) (enumerate_from 0 corners) (j, get_or corners j (corner_rec st l))
      (enumerated_to (corner_rec st l) 0 corners j j low_j (omega arith)) passed) in
      let place : FaceName × ℕ = (record { 0 = i }, j) in
      let G = λ (o : Option FaceRec). HasMember (corners_in test (i, o)) place in
      let joined = joined_to (corners_in test) (enumerate_from 0 faces) (i, get_or faces i None) place
      (enumerated_to None 0 faces i i (low_in faces i (face_rec st f.0 y.0) here) (omega arith))
      (subst G (sym here) inner) in
      let P = HasMember (corners_where test (read_off st n lists)) in
      subst P (sym (place_by l c.0 c.1) ∙ t.is) joined

  -- a corner of a face that is there
  found : (i j : ℕ) (f : Slot) → at st.faces.names i ≡ Some f → j < length (loops_in st f.0)
      → test (corner_rec st (get_or (loops_in st f.0) j no_slot)) ≡ true
      → HasMember (map (place_of st) ls) (let p : FaceName × ℕ = (record { 0 = i }, j) in p)
  found i j f leads low passed =
      let l = get_or (loops_in st f.0) j no_slot in
      let m = member_at (loops_in st f.0) j no_slot low in
      let c = has_key (λ (y : StoredLoop). y.face.0) (loop_in st l.0) f.0
      (face_of_in st l ∙ in_names st w.cycles.cycles f.0 l m) in
      let number = face_named st n w.records i f leads in
      let place_j = place_at (loops_in st f.0) j no_slot (in_once st w.cycles.cycles f.0) low in
      let P = HasMember (map (place_of st) ls) in
      subst P (place_by l c.cell c.is ∙ (λ z. (face_name st (c.same z), place_in (loops_in st (c.same z)) l))
      ∙ (λ z. (record { 0 = number z }, place_j z)))
      (mapped_to (place_of st) ls l (from l (loop_is_at st l.0 (in_live st w.cycles.cycles f.0 l m)) passed))

  backward : (x : FaceName × ℕ) → HasMember (corners_where test (read_off st n lists)) x
      → HasMember (map (place_of st) ls) x
  backward x h =
      let faces = table (face_at st) n.faces in
      let t = joined_from (corners_in test) (enumerate_from 0 faces) x h in
      let p = enumerated_from None 0 faces t.of t.member in
      let name = λ (z : ℕ × CornerRec). let q : FaceName × ℕ = (record { 0 = t.of.0 }, z.0) in q in
      let m = mapped_from name (filter (λ (c : ℕ × CornerRec). test c.1) (enumerate_from 0 (corners_of t.of.1))) x
      t.part in
      let q = filtered_from (λ (c : ℕ × CornerRec). test c.1) (enumerate_from 0 (corners_of t.of.1)) m.of m.member in
      let r = enumerated_from (corner_rec st no_slot) 0 (corners_of t.of.1) m.of q.0 in
      let o = has_corners t.of.1 r.place r.low in
      let d = led_to (λ (z : Slot). face_in st z.0) (λ (z : Slot). face_rec st z.0) (at st.faces.names p.place) o.0
      (sym (faces_all st n w.records p.place) ∙ sym p.value ∙ o.1) in
      let f = d.slot in
      let long = length-map (loops_in st f.0) (corner_rec st) in
      let C = λ (cs : List CornerRec). (r.place < length cs)
      × (test (get_or cs r.place (corner_rec st no_slot)) ≡ true) in
      let got : C (map (corner_rec st) (loops_in st f.0)) =
      subst C (ap corners_of o.1 ∙ ap (λ (z : FaceRec). z.corners) (sym d.same))
      (r.low, ap test (sym r.value) ∙ q.1) in
      let low : r.place < length (loops_in st f.0) = (let a = got.0 in omega arith) in
      let i : p.place ≡ t.of.0 = (let a = p.number in omega arith) in
      let j : r.place ≡ m.of.0 = (let a = r.number in omega arith) in
      let P = HasMember (map (place_of st) ls) in
      let same : (let z : FaceName × ℕ = (record { 0 = p.place }, r.place) in z) ≡ name m.of =
      λ z. (record { 0 = i z }, j z) in
      subst P (same ∙ m.is) (found p.place r.place f d.leads low
      (ap test (sym (get_or-map (corner_rec st) (loops_in st f.0) r.place no_slot)) ∙ got.1))

  once : AllDistinct (map (place_of st) ls)
  once =
      distinct_map (place_of st) ls
      (λ a b p q e.
      let x = there (loop_in st a.0) (loop_is_at st a.0 (live a p)) in
      let y = there (loop_in st b.0) (loop_is_at st b.0 (live b q)) in
      let fx = x.0.face in
      let fy = y.0.face in
      let both = sym (place_by a x.0 x.1) ∙ e ∙ place_by b y.0 y.1 in
      let u = face_leads st n w.records fx (w.records.linked.face a.0 x.0 x.1) in
      let v = face_leads st n w.records fy (w.records.linked.face b.0 y.0 y.1) in
      let slots : Some fx ≡ Some fy = sym u ∙ ap (λ (z : FaceName × ℕ). at st.faces.names z.0.0) both ∙ v in
      let faces : fx.0 ≡ fy.0 = ap (λ (o : Option Slot). elim o [ None ↦ fx.0 | Some z ↦ z.0 ]) slots in
      let pa = placed (loops_in st fx.0) a (in_face a x.0 x.1) in
      let pb = placed (loops_in st fy.0) b (in_face b y.0 y.1) in
      let places = ap (λ (z : FaceName × ℕ). z.1) both in
      sym pa.here ∙ get_same (loops_in st fx.0) (place_in (loops_in st fx.0) a) a b pa.low
      ∙ (λ z. get_or (loops_in st (faces z)) (places z) b) ∙ pb.here)
      unique

  pub corners_list : ListsOnce (map (place_of st) ls) (corners_where test (read_off st n lists))
  corners_list = record { once = once; same = λ x. (forward x, backward x) }
