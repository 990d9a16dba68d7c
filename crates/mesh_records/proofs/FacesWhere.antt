-- The faces of loops are those with a corner that passes a test, where the loops are the corners that pass it.
use Rattle.std.proofs.Common.{◌≡◌, ◌<◌, ℕ, Bool, true, List, Option, Some, None, length, map, get_or, sym, ap, ◌∙◌, subst, inl, inr, arith}
use Rattle.std.specs.List.{list_any, filter, enumerate_from}
use Rattle.std.specs.Option.{option_map, option_map_or}
use Rattle.std.proofs.lemmas.Bool.{false≢true, cases_lt}
use Rattle.std.proofs.lemmas.List.{get_or_past}
use Rattle.std.proofs.lemmas.List.Folds.{list_any_at}
use Rattle.std.proofs.lemmas.Option.{same_Some}
use Rattle.cust_data.specs.Layers.{row_of}
use Rattle.raw_pool.specs.declared.pool.Slot.{Slot}
use Rattle.raw_pool.specs.Slots.{IsLive}
use Rattle.link_ring.specs.Members.{HasMember, AllDistinct}
use Rattle.link_ring.specs.Mapped.{mapped_from, mapped_to, distinct_map}
use Rattle.mesh_store.specs.Slots.{at}
use Rattle.mesh_store.specs.Stored.{Stored, no_slot}
use Rattle.mesh_store.specs.declared.cells.LoopCell.{LoopCell}
use Rattle.mesh_cycles.specs.Found.{AllLive, face_at as face_slot}
use Rattle.mesh_cycles.specs.Faces.{AreFacesOf}
use Rattle.mesh_cycles.proofs.Cells.{live_cell}
use Rattle.mesh_cycles.proofs.Mapped.{filtered_from, filtered_to, joined_from, joined_to}
use Rattle.mesh_model.specs.Table.{at as record_at}
use Rattle.mesh_model.specs.Complex.{Complex, corners_of}
use Rattle.mesh_model.specs.Incidence.{corners_in, corners_where}
use Rattle.mesh_model.specs.declared.names.FaceName.{FaceName}
use Rattle.mesh_model.specs.declared.records.Counters.{Counters}
use Rattle.mesh_model.specs.declared.records.CornerRec.{CornerRec}
use Rattle.mesh_model.specs.declared.records.FaceRec.{FaceRec}
use Rattle.mesh_records.specs.ReadOff.{NameLists}
use Rattle.mesh_records.specs.AtSlots.{StoredLoop}
use Rattle.mesh_records.specs.ReadOff.{no_corner, read_off}
use Rattle.mesh_records.specs.StandsFor.{ListsOnce, place_of, face_name, owner_of}
use Rattle.mesh_records.specs.Order.{faces_where}
use Rattle.mesh_records.specs.Whole.{IsWhole}
use Rattle.mesh_records.proofs.Along.{any_at}
use Rattle.mesh_records.proofs.ByName.{face_leads}
use Rattle.mesh_records.proofs.Elements.{face_is_at}
use Rattle.mesh_records.proofs.Listing.{enumerated_from, enumerated_to, numbered_from, numbered_to}
use Rattle.mesh_records.proofs.Owners.{loop_face}

-- they are live
pub faces_live : (st : Stored) (ls all : List Slot) → AreFacesOf st ls all → (fs : List Slot) → fs ≡ all
    → AllLive st.faces.cells fs
faces_live st ls all are fs same f m = let P = λ (xs : List Slot). HasMember xs f in ((are f).0 (subst P same m)).0

-- a face that has a corner is below the length of its table
any_below : (test : CornerRec → Bool) (faces : List (Option FaceRec)) (k : ℕ)
    → list_any test (corners_of (record_at faces k)) ≡ true → k < length faces
any_below test faces k h = elim (cases_lt k (length faces)) [
  | inl lt ↦ lt
  | inr ge ↦ absurd (false≢true (ap (λ (o : Option FaceRec). list_any test (corners_of o))
      (sym (get_or_past faces k None ge)) ∙ h))
]

module _ (c : Complex) (test : CornerRec → Bool) where
  -- the face of a corner that passes has one
  corner_passes : (x : FaceName × ℕ) → HasMember (corners_where test c) x
      → list_any test (corners_of (record_at c.faces x.0.0)) ≡ true
  corner_passes x h =
      let t = joined_from (corners_in test) (enumerate_from 0 c.faces) x h in
      let p = enumerated_from None 0 c.faces t.of t.member in
      let name = λ (z : ℕ × CornerRec). let y : FaceName × ℕ = (record { 0 = t.of.0 }, z.0) in y in
      let m = mapped_from name (filter (λ (z : ℕ × CornerRec). test z.1) (enumerate_from 0 (corners_of t.of.1))) x
      t.part in
      let q = filtered_from (λ (z : ℕ × CornerRec). test z.1) (enumerate_from 0 (corners_of t.of.1)) m.of m.member in
      let r = enumerated_from no_corner 0 (corners_of t.of.1) m.of q.0 in
      let any = list_any_at test (corners_of t.of.1) r.place no_corner r.low (ap test (sym r.value) ∙ q.1) in
      let place : p.place ≡ t.of.0 = (let a = p.number in omega arith) in
      let there : record_at c.faces x.0.0 ≡ t.of.1 =
      ap (λ (z : FaceName × ℕ). record_at c.faces z.0.0) (sym m.is)
      ∙ ap (λ (k : ℕ). record_at c.faces k) (sym place) ∙ sym p.value in
      ap (λ (o : Option FaceRec). list_any test (corners_of o)) there ∙ any

  -- and a face that has one has such a corner
  passing_corner : (k : ℕ) → k < length c.faces → list_any test (corners_of (record_at c.faces k)) ≡ true
      → (j : ℕ) × HasMember (corners_where test c) (record { 0 = k }, j)
  passing_corner k low h =
      let corners = corners_of (record_at c.faces k) in
      let a = any_at test corners no_corner h in
      let name = λ (z : ℕ × CornerRec). let y : FaceName × ℕ = (record { 0 = k }, z.0) in y in
      let corner : ℕ × CornerRec = (a.place, get_or corners a.place no_corner) in
      let inner = mapped_to name (filter (λ (z : ℕ × CornerRec). test z.1) (enumerate_from 0 corners)) corner
      (filtered_to (λ (z : ℕ × CornerRec). test z.1) (enumerate_from 0 corners) corner
      (enumerated_to no_corner 0 corners a.place a.place a.low (omega arith)) a.passed) in (
        a.place,
        joined_to (corners_in test) (enumerate_from 0 c.faces) (k, record_at c.faces k)
            (record { 0 = k }, a.place) (enumerated_to None 0 c.faces k k low (omega arith)) inner,
      )

-- the slot of the face of a live loop, by its cell
record FaceOf (st : Stored) (l : Slot) : Type 0 where
  face : Slot
  told : option_map (λ (c : LoopCell). c.face) (at st.loops l.0) ≡ Some face
  slot : face_slot st l ≡ face
  owner : owner_of st l ≡ face.0

face_of_loop : (st : Stored) (l : Slot) → IsLive st.loops l.0 → FaceOf st l
face_of_loop st l live =
    let c = live_cell st.loops l.0 live in
    let tell = λ (x : LoopCell). let y : StoredLoop =
    record { vert = x.vert; edge = x.edge; face = x.face; vals = row_of st.values.loops l.0 } in y in
    record {
      face = c.0.face;
      told = ap (option_map (λ (x : LoopCell). x.face)) c.1;
      slot = ap (λ (o : Option LoopCell). option_map_or (λ (x : LoopCell). x.face) o no_slot) c.1;
      owner = ap (λ (o : Option LoopCell). option_map_or (λ (y : StoredLoop). y.face.0) (option_map tell o) 0) c.1;
    }

module _ (st : Stored) (n : Counters) (lists : NameLists) (w : IsWhole st n) (test : CornerRec → Bool)
    (ls fs : List Slot) (live : AllLive st.loops ls)
    (corners : ListsOnce (map (place_of st) ls) (corners_where test (read_off st n lists))) (once : AllDistinct fs)
    (all : AreFacesOf st ls fs) where
  name : Slot → FaceName
  name f = face_name st f.0

  number : ℕ → FaceName
  number k = record { 0 = k }

  faces : List (Option FaceRec)
  faces = (read_off st n lists).faces

  passing : Option FaceRec → Bool
  passing o = list_any test (corners_of o)

  forward : (x : FaceName) → HasMember (map name fs) x → HasMember (faces_where test (read_off st n lists)) x
  unfolding name number faces passing
  forward x h =
      let t = mapped_from name fs x h in
      let a = (all t.of).0 t.member in
      let l = a.1.0 in
      let f = face_of_loop st l (live l a.1.1) in
      let uses = corner_passes (read_off st n lists) test (place_of st l)
      ((corners.same (place_of st l)).0 (mapped_to (place_of st) ls l a.1.1)) in
      let slot : owner_of st l ≡ t.of.0 = f.owner ∙ ap (λ (z : Slot). z.0) (sym f.slot ∙ a.1.2) in
      let k : (face_name st (owner_of st l)).0 ≡ x.0 =
      ap (λ (z : ℕ). (face_name st z).0) slot ∙ ap (λ (z : FaceName). z.0) t.is in
      let P = λ (z : ℕ). passing (record_at faces z) ≡ true in
      let passed = subst P k uses in
      numbered_to None number passing faces x.0 (any_below test faces x.0 passed) passed

  backward : (x : FaceName) → HasMember (faces_where test (read_off st n lists)) x → HasMember (map name fs) x
  unfolding name number faces passing
  backward x h =
      let q = numbered_from None number passing faces x h in
      let c = passing_corner (read_off st n lists) test q.number q.low q.passed in
      let m = (corners.same (number q.number, c.0)).1 c.1 in
      let t = mapped_from (place_of st) ls (number q.number, c.0) m in
      let f = face_of_loop st t.of (live t.of t.member) in
      let there = loop_face st w.records.linked t.of f.face f.told in
      let member = (all f.face).1 (there, (t.of, t.member, f.slot)) in
      let same : name f.face ≡ x = ap (λ (z : ℕ). face_name st z) (sym f.owner) ∙ ap (λ (z : FaceName × ℕ). z.0) t.is
      ∙ q.named in
      let P = λ (z : FaceName). HasMember (map name fs) z in
      subst P same (mapped_to name fs f.face member)

  distinct : AllDistinct (map name fs)
  unfolding name
  distinct =
      distinct_map name fs
      (λ a b p q same.
      let u = face_leads st n w.records a (face_is_at st a.0 ((all a).0 p).0) in
      let v = face_leads st n w.records b (face_is_at st b.0 ((all b).0 q).0) in
      same_Some a b (sym u ∙ ap (λ (z : FaceName). at st.faces.names z.0) same ∙ v))
      once

  pub faces_list : ListsOnce (map (λ (f : Slot). face_name st f.0) fs) (faces_where test (read_off st n lists))
  unfolding name
  faces_list = record { once = distinct; same = λ x. (forward x, backward x) }
