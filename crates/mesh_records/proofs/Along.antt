-- Which faces use an edge: those with a loop along it.
use Rattle.std.proofs.Common.{◌≡◌, ◌<◌, ℕ, suc, Bool, true, not, List, [], ◌∷◌, Option, Some, None, length, map, get_or, refl, sym, ap, ◌∙◌, subst, inl, inr, arith}
use Rattle.std.specs.List.{list_any, filter, enumerate_from}
use Rattle.std.specs.Option.{option_map, option_map_or, option_and_then}
use Rattle.std.proofs.lemmas.Bool.{false≢true, or_cases, cases_lt, false_from_ne_true}
use Rattle.std.proofs.lemmas.List.{get_or_past}
use Rattle.std.proofs.lemmas.List.Folds.{list_any_at}
use Rattle.cust_data.specs.Layers.{row_of}
use Rattle.raw_pool.specs.declared.pool.Slot.{Slot}
use Rattle.link_ring.specs.Members.{HasMember}
use Rattle.link_ring.specs.Mapped.{mapped_from, mapped_to}
use Rattle.mesh_store.specs.Slots.{at}
use Rattle.mesh_store.specs.Stored.{Stored, radial_links}
use Rattle.mesh_store.specs.declared.cells.Radial.{Radial}
use Rattle.mesh_store.specs.declared.cells.EdgeCell.{EdgeCell}
use Rattle.mesh_store.specs.declared.cells.LoopCell.{LoopCell}
use Rattle.mesh_store.specs.declared.cells.FaceCell.{FaceCell}
use Rattle.mesh_cycles.specs.Owners.{first_radial}
use Rattle.mesh_cycles.specs.Lists.{ring_list, same_radial}
use Rattle.mesh_cycles.specs.Cycles.{radial_of, loop_limit}
use Rattle.mesh_cycles.specs.Found.{loops_along}
use Rattle.mesh_cycles.proofs.Mapped.{filtered_from, filtered_to, joined_from, joined_to}
use Rattle.mesh_cycles.proofs.Stays.{first_member}
use Rattle.mesh_model.proofs.Copies.{uses-corners}
use Rattle.mesh_model.specs.Table.{passes}
use Rattle.mesh_model.specs.Complex.{Complex, corners_of}
use Rattle.mesh_model.specs.Incidence.{is_along, uses_edge, corners_in, corners_at_edge, is_loose}
use Rattle.mesh_model.specs.declared.names.EdgeName.{EdgeName}
use Rattle.mesh_model.specs.declared.names.FaceName.{FaceName}
use Rattle.mesh_model.specs.declared.records.Counters.{Counters}
use Rattle.mesh_model.specs.declared.records.CornerRec.{CornerRec}
use Rattle.mesh_records.specs.ReadOff.{NameLists}
use Rattle.mesh_records.specs.AtSlots.{StoredLoop, StoredFace, face_in}
use Rattle.mesh_records.specs.ReadOff.{no_corner, read_off}
use Rattle.mesh_records.specs.StandsFor.{place_of, face_name, owner_of}
use Rattle.mesh_records.specs.Whole.{IsWhole}
use Rattle.mesh_records.proofs.Options.{has_key}
use Rattle.mesh_records.proofs.AlongEdge.{along_lists}
use Rattle.mesh_records.proofs.ByName.{told_number}
use Rattle.mesh_records.proofs.Elements.{face_number}
use Rattle.mesh_records.proofs.Listing.{enumerated_from, enumerated_to}

-- a member of a list that passes a test, by its place
pub record AnyAt {X : Type 0} (test : X → Bool) (xs : List X) (d : X) : Type 0 where
  pub place : ℕ
  pub low : place < length xs
  pub passed : test (get_or xs place d) ≡ true

pub any_at : {X : Type 0} (test : X → Bool) (xs : List X) (d : X) → list_any test xs ≡ true → AnyAt test xs d
any_at test [] d h = absurd (false≢true h)
any_at test (x ∷ xs) d h = elim (or_cases (test x) (list_any test xs) h) [
  | inl e ↦ record { place = 0; low = omega arith; passed = e }
  | inr e ↦ (let t = any_at test xs d e in let l =
      t.low in record { place = suc t.place; low = omega arith; passed = t.passed })
]

-- ---- in a complex

-- the face of a corner along an edge uses it
pub corner_uses : (c : Complex) (e : EdgeName) (x : FaceName × ℕ) → HasMember (corners_at_edge c e) x
    → passes (uses_edge e) (at c.faces x.0.0) ≡ true
corner_uses c e x h =
    let t = joined_from (corners_in (is_along e)) (enumerate_from 0 c.faces) x h in
    let p = enumerated_from None 0 c.faces t.of t.member in
    let name = λ (z : ℕ × CornerRec). let y : FaceName × ℕ = (record { 0 = t.of.0 }, z.0) in y in
    let m = mapped_from name (filter (λ (z : ℕ × CornerRec). is_along e z.1) (enumerate_from 0 (corners_of t.of.1))) x
    t.part in
    let q = filtered_from (λ (z : ℕ × CornerRec). is_along e z.1) (enumerate_from 0 (corners_of t.of.1)) m.of m.member
    in
    let r = enumerated_from no_corner 0 (corners_of t.of.1) m.of q.0 in
    let any = list_any_at (is_along e) (corners_of t.of.1) r.place no_corner r.low (ap (is_along e) (sym r.value) ∙ q.1)
    in
    let place : p.place ≡ t.of.0 = (let a = p.number in omega arith) in
    let there : at c.faces x.0.0 ≡ t.of.1 =
    ap (λ (z : FaceName × ℕ). at c.faces z.0.0) (sym m.is) ∙ ap (λ (k : ℕ). at c.faces k) (sym place)
    ∙ sym p.value in
    ap (passes (uses_edge e)) there ∙ uses-corners e t.of.1 ∙ any

-- and a face that uses an edge has a corner along it
pub uses_corner : (c : Complex) (e : EdgeName) (k : ℕ) → k < length c.faces → passes (uses_edge e) (at c.faces k) ≡ true
    → (j : ℕ) × HasMember (corners_at_edge c e) (record { 0 = k }, j)
uses_corner c e k low h =
    let corners = corners_of (at c.faces k) in
    let a = any_at (is_along e) corners no_corner (sym (uses-corners e (at c.faces k)) ∙ h) in
    let name = λ (z : ℕ × CornerRec). let y : FaceName × ℕ = (record { 0 = k }, z.0) in y in
    let corner : ℕ × CornerRec = (a.place, get_or corners a.place no_corner) in
    let inner = mapped_to name (filter (λ (z : ℕ × CornerRec). is_along e z.1) (enumerate_from 0 corners)) corner
    (filtered_to (λ (z : ℕ × CornerRec). is_along e z.1) (enumerate_from 0 corners) corner
    (enumerated_to no_corner 0 corners a.place a.place a.low (omega arith)) a.passed) in (
      a.place,
      joined_to (corners_in (is_along e)) (enumerate_from 0 c.faces) (k, at c.faces k)
          (record { 0 = k }, a.place) (enumerated_to None 0 c.faces k k low (omega arith)) inner,
    )

-- ---- in a store

-- the face that a loop names
owner_is : (st : Stored) (l : Slot) (x : LoopCell) → at st.loops l.0 ≡ Some x → owner_of st l ≡ x.face.0
owner_is st l x q =
    let tell = λ (y : LoopCell). let z : StoredLoop =
    record { vert = y.vert; edge = y.edge; face = y.face; vals = row_of st.values.loops l.0 } in z in
    ap (λ (o : Option LoopCell). option_map_or (λ (y : StoredLoop). y.face.0) (option_map tell o) 0) q

module _ (st : Stored) (n : Counters) (lists : NameLists) (w : IsWhole st n) (e : EdgeName) (s : Slot)
    (named : at st.edges.names e.0 ≡ Some s) where
  -- the face of a loop along the edge uses it
  loop_uses : (l : Slot) → HasMember (loops_along st s.0) l
      → passes (uses_edge e) (at (read_off st n lists).faces (face_name st (owner_of st l)).0) ≡ true
  loop_uses l m = corner_uses (read_off st n lists) e (place_of st l)
      (((along_lists st n lists w e.0 s named).same (place_of st l)).0
      (mapped_to (place_of st) (loops_along st s.0) l m))

  pub first_uses : (l f : Slot) (k : ℕ) → option_map (λ (c : EdgeCell). c.first_loop) (at st.edges.cells s.0)
      ≡ Some (Some l) → option_map (λ (c : LoopCell). c.face) (at st.loops l.0) ≡ Some f
      → option_map (λ (c : FaceCell). c.number) (at st.faces.cells f.0) ≡ Some k
      → passes (uses_edge e) (at (read_off st n lists).faces k) ≡ true
  first_uses l f k first face number =
      let radial = λ (y : Slot). let z : Radial = record { 0 = y } in z in
      let c = has_key (λ (x : EdgeCell). x.first_loop) (at st.edges.cells s.0) (Some l) first in
      let begins : first_radial st s.0 ≡ Some (radial l) =
      ap (option_and_then (λ (x : EdgeCell). option_map radial x.first_loop)) c.is
      ∙ ap (option_map radial) c.same in
      let member = mapped_to (λ (r : Radial). r.0) (radial_of st s.0) (radial l)
      (first_member (radial l) (w.cycles.cycles.radials s.0) begins) in
      let x = has_key (λ (y : LoopCell). y.face) (at st.loops l.0) f face in
      let owner : owner_of st l ≡ f.0 = owner_is st l x.cell x.is ∙ ap (λ (y : Slot). y.0) x.same in
      let name : (face_name st (owner_of st l)).0 ≡ k =
      ap (λ (j : ℕ). (face_name st j).0) owner
      ∙ told_number (λ (y : StoredFace). y.number) (face_in st f.0) k (face_number st f.0 ∙ number) in
      ap (λ (j : ℕ). passes (uses_edge e) (at (read_off st n lists).faces j)) (sym name) ∙ loop_uses l member

  -- where no loop is along the edge, no face uses it
  empty_loose : radial_of st s.0 ≡ [] → is_loose (read_off st n lists) e ≡ true
  empty_loose empty =
      let faces = (read_off st n lists).faces in
      ap not (false_from_ne_true (list_any (passes (uses_edge e)) faces) (λ h.
      let a = any_at (passes (uses_edge e)) faces None h in
      let c = uses_corner (read_off st n lists) e a.place a.low a.passed in
      let m = ((along_lists st n lists w e.0 s named).same (record { 0 = a.place }, c.0)).1 c.1 in
      let P = λ (ls : List Radial). HasMember (map (place_of st) (map (λ (r : Radial). r.0) ls))
      (record { 0 = a.place }, c.0) in
      subst P empty m))

  pub none_uses : option_map (λ (c : EdgeCell). c.first_loop) (at st.edges.cells s.0) ≡ Some None
      → is_loose (read_off st n lists) e ≡ true
  none_uses first =
      let radial = λ (y : Slot). let z : Radial = record { 0 = y } in z in
      let c = has_key (λ (x : EdgeCell). x.first_loop) (at st.edges.cells s.0) None first in
      let begins : first_radial st s.0 ≡ None =
      ap (option_and_then (λ (x : EdgeCell). option_map radial x.first_loop)) c.is
      ∙ ap (option_map radial) c.same in
      empty_loose (ap (ring_list same_radial (radial_links st) (loop_limit st)) begins)

  -- where no face uses the edge, no loop is along it
  pub loose_empty : is_loose (read_off st n lists) e ≡ true → radial_of st s.0 ≡ []
  loose_empty loose = by_list (radial_of st s.0) refl
    where
      by_list : (rs : List Radial) → radial_of st s.0 ≡ rs → radial_of st s.0 ≡ []
      by_list [] q = q
      by_list (r ∷ rs) q =
          let faces = (read_off st n lists).faces in
          let P = λ (ls : List Radial). HasMember (map (λ (x : Radial). x.0) ls) r.0 in
          let member : HasMember (loops_along st s.0) r.0 = subst P (sym q) (inl refl) in
          let uses = loop_uses r.0 member in
          let k = (face_name st (owner_of st r.0)).0 in
          let low : k < length faces = elim (cases_lt k (length faces)) [
            | inl lt ↦ lt
            | inr ge ↦ absurd (false≢true (ap (passes (uses_edge e)) (sym (get_or_past faces k None ge)) ∙ uses))
          ] in
          absurd (false≢true (ap not (sym (list_any_at (passes (uses_edge e)) faces k None low uses)) ∙ loose))
