-- The live elements are no more than the places.
use Rattle.std.proofs.Common.{◌≡◌, ◌<◌, ◌≤◌, ◌+◌, ◌++◌, ℕ, suc, zero, true, is_some, cond, List, [], ◌∷◌, Option, Some, None, length, refl, sym, ap, ◌∙◌, subst, inl, inr, arith, length-append}
use Rattle.std.specs.List.{flat_map}
use Rattle.std.specs.Option.{option_map, option_map_or}
use Rattle.std.proofs.lemmas.Bool.{false≢true}
use Rattle.std.proofs.lemmas.Option.{same_Some}
use Rattle.std.proofs.lemmas.List.Concat.{flat_map-cons}
use Rattle.std.proofs.lemmas.List.Sums.{sum_by-cons}
use Rattle.raw_pool.specs.declared.pool.Slot.{Slot}
use Rattle.link_ring.specs.Members.{HasMember, AllDistinct}
use Rattle.link_ring.specs.Limits.{keys_limited}
use Rattle.mesh_store.specs.Slots.{at}
use Rattle.mesh_store.specs.Naming.{AreNamed}
use Rattle.mesh_store.specs.Stored.{Stored}
use Rattle.mesh_store.proofs.Places.{below}
use Rattle.mesh_cycles.specs.Found.{loops_in}
use Rattle.mesh_cycles.proofs.Around.{in_once, in_live, in_names}
use Rattle.mesh_cycles.proofs.Cells.{live_cell}
use Rattle.mesh_cycles.proofs.Mapped.{PartOf, joined_from, distinct_flat_map}
use Rattle.mesh_model.specs.Table.{live}
use Rattle.mesh_model.specs.Complex.{corners_of, corner_sum}
use Rattle.mesh_model.specs.declared.records.FaceRec.{FaceRec}
use Rattle.mesh_model.specs.declared.records.Counters.{Counters}
use Rattle.mesh_records.specs.Places.{CanTake, CanBecome}
use Rattle.mesh_records.specs.ReadOff.{NameLists, table, vert_at, edge_at, face_at, read_off}
use Rattle.mesh_records.specs.Whole.{IsWhole}
use Rattle.mesh_records.proofs.ByName.{faces_all}
use Rattle.mesh_records.proofs.Options.{there}
use Rattle.mesh_records.proofs.ReadBack.{loops_count}
use Rattle.mesh_records.proofs.Stands.{stands_for}
use Rattle.mesh_records.proofs.Tables.{length_table}

-- ---- the names at which something stands

standing : {X : Type 0} → ℕ → List (Option X) → List ℕ
standing a [] = []
standing a (None ∷ xs) = standing (a + 1) xs
standing a (Some x ∷ xs) = a ∷ standing (a + 1) xs

count_standing : {X : Type 0} (xs : List (Option X)) (a : ℕ) → length (standing a xs) ≡ live xs
unfolding standing
count_standing [] a = refl
count_standing {X} (None ∷ xs) a =
    let more = count_standing xs (a + 1) in
    let sum = sum_by-cons (λ (o : Option X). cond (is_some o) 1 0) None xs in
    omega arith
count_standing {X} (Some x ∷ xs) a =
    let more = count_standing xs (a + 1) in
    let sum = sum_by-cons (λ (o : Option X). cond (is_some o) 1 0) (Some x) xs in
    omega arith

-- a name that is listed
record IsListed {X : Type 0} (a : ℕ) (xs : List (Option X)) (j : ℕ) : Type 0 where
  place : ℕ
  name : a + place ≡ j
  there : is_some (at xs place) ≡ true

listed : {X : Type 0} (xs : List (Option X)) (a j : ℕ) → HasMember (standing a xs) j → IsListed a xs j
unfolding standing
listed [] a j h = absurd h
listed (None ∷ xs) a j h =
    let l = listed xs (a + 1) j h in
    let name = l.name in
    record { place = suc l.place; name = omega arith; there = l.there }
listed (Some x ∷ xs) a j h = elim h [
  | inl e ↦ record { place = 0; name = (let q : a + 0 ≡ a = omega arith in q ∙ e); there = refl }
  | inr r ↦
      let l = listed xs (a + 1) j r in
      let name = l.name in
      record { place = suc l.place; name = omega arith; there = l.there }
]

listed_once : {X : Type 0} (xs : List (Option X)) (a : ℕ) → AllDistinct (standing a xs)
unfolding standing
listed_once [] a = tt
listed_once (None ∷ xs) a = listed_once xs (a + 1)
listed_once (Some x ∷ xs) a = (
  λ h. let l = listed xs (a + 1) a h in let name = l.name in absurd (omega arith),
  listed_once xs (a + 1),
)

-- ---- elements with names

slot_at : List (Option Slot) → ℕ → ℕ
slot_at names k = option_map_or (λ (s : Slot). s.0) (at names k) 0

module _ {X Y : Type 0} (number : X → ℕ) (cells : List (Option X)) (names : List (Option Slot))
    (named : AreNamed number cells names) (xs : List (Option Y))
    (leads : (k : ℕ) → is_some (at xs k) ≡ true → is_some (at names k) ≡ true) where
  named_there : (k : ℕ) → HasMember (standing 0 xs) k → (s : Slot) × (at names k ≡ Some s)
  named_there k h =
      let l = listed xs 0 k h in
      let name = l.name in
      let same : l.place ≡ k = omega arith in
      let P = λ (j : ℕ). is_some (at xs j) ≡ true in
      there (at names k) (leads k (subst P same l.there))

  -- no two names lead to one slot
  slots_apart : (a b : ℕ) → HasMember (standing 0 xs) a → HasMember (standing 0 xs) b
      → slot_at names a ≡ slot_at names b → a ≡ b
  unfolding slot_at
  slots_apart a b p q same =
      let s = named_there a p in
      let t = named_there b q in
      let from = ap (λ (o : Option Slot). option_map_or (λ (x : Slot). x.0) o 0) s.1 in
      let to = ap (λ (o : Option Slot). option_map_or (λ (x : Slot). x.0) o 0) t.1 in
      let slots : s.0.0 ≡ t.0.0 = sym from ∙ same ∙ to in
      same_Some a b (sym (named.live a s.0 s.1) ∙ ap (λ (k : ℕ). option_map number (at cells k)) slots
      ∙ named.live b t.0 t.1)

  slot_below : (k : ℕ) → HasMember (standing 0 xs) k → slot_at names k < length cells
  unfolding slot_at
  slot_below k h =
      let s = named_there k h in
      let from = ap (λ (o : Option Slot). option_map_or (λ (x : Slot). x.0) o 0) s.1 in
      let P = λ (j : ℕ). j < length cells in
      subst P (sym from) (by_cell s.0.0 (at cells s.0.0) refl (named.live k s.0 s.1))
    where
      by_cell : (t : ℕ) (o : Option X) → at cells t ≡ o → option_map number o ≡ Some k → t < length cells
      by_cell t None is e = absurd (let q : None ≡ Some k = e in cc)
      by_cell t (Some x) is e = below cells t x is

  -- there are places for all
  pub live_fits : live xs ≤ length cells
  live_fits =
      let few = keys_limited (slot_at names) (length cells) (standing 0 xs) (listed_once xs 0) slots_apart slot_below in
      let same = count_standing xs 0 in
      omega arith

-- ---- loops

-- the corners of faces are as many as their loops
sum_joined : (xs : List (Option FaceRec)) (a : ℕ) (loops : ℕ → List Slot)
    → ((k : ℕ) → is_some (at xs k) ≡ true → length (corners_of (at xs k)) ≡ length (loops (a + k)))
    → corner_sum xs ≡ length (flat_map loops (standing a xs))
unfolding standing
sum_joined [] a loops h = refl
sum_joined (None ∷ xs) a loops h =
    let more = sum_joined xs (a + 1) loops (λ k is. let q : (a + 1) + k ≡ a + suc k = omega arith in
    h (suc k) is ∙ ap (λ (j : ℕ). length (loops j)) (sym q)) in
    let sum = sum_by-cons (λ (f : Option FaceRec). length (corners_of f)) None xs in
    omega arith
sum_joined (Some x ∷ xs) a loops h =
    let more = sum_joined xs (a + 1) loops (λ k is. let q : (a + 1) + k ≡ a + suc k = omega arith in
    h (suc k) is ∙ ap (λ (j : ℕ). length (loops j)) (sym q)) in
    let first : length x.corners ≡ length (loops a) =
    (let q : a + 0 ≡ a = omega arith in h 0 refl ∙ ap (λ (j : ℕ). length (loops j)) q) in
    let sum = sum_by-cons (λ (f : Option FaceRec). length (corners_of f)) (Some x) xs in
    let parts = ap (λ (ls : List Slot). length ls) (flat_map-cons loops a (standing (a + 1) xs))
    ∙ length-append (loops a) (flat_map loops (standing (a + 1) xs)) in
    omega arith

module _ (st : Stored) (n : Counters) (lists : NameLists) (w : IsWhole st n) where
  faces_lead : (k : ℕ) → is_some (at (table (face_at st) n.faces) k) ≡ true → is_some (at st.faces.names k) ≡ true
  faces_lead k h = (stands_for st n lists w).faces.same k ∙ h

  loops_of : ℕ → List Slot
  loops_of k = loops_in st (slot_at st.faces.names k)

  -- the slot of the face of a listed name, and its loops
  record FaceSlot (k : ℕ) : Type 0 where
    slot : Slot
    named : at st.faces.names k ≡ Some slot
    loops : loops_of k ≡ loops_in st slot.0

  face_slot : (k : ℕ) → HasMember (standing 0 (table (face_at st) n.faces)) k → FaceSlot k
  unfolding loops_of slot_at
  face_slot k h =
      let s = named_there (λ c. c.number) st.faces.cells st.faces.names w.records.named.faces
      (table (face_at st) n.faces) faces_lead k h in
      record {
        slot = s.0;
        named = s.1;
        loops = ap (λ (o : Option Slot). loops_in st (option_map_or (λ (x : Slot). x.0) o 0)) s.1;
      }

  loop_count : (k : ℕ) → is_some (at (table (face_at st) n.faces) k) ≡ true
      → length (corners_of (at (table (face_at st) n.faces) k)) ≡ length (loops_of k)
  unfolding loops_of slot_at
  loop_count k h =
      let s = there (at st.faces.names k) (faces_lead k h) in
      sym (loops_count st n lists w k s.0 s.1)
      ∙ sym (ap (λ (o : Option Slot). length (loops_in st (option_map_or (λ (x : Slot). x.0) o 0))) s.1)

  faces_once : AllDistinct (flat_map loops_of (standing 0 (table (face_at st) n.faces)))
  faces_once = distinct_flat_map loops_of (standing 0 (table (face_at st) n.faces))
      (λ k h. let s = face_slot k h in
      let D = λ (ls : List Slot). AllDistinct ls in
      subst D (sym s.loops) (in_once st w.cycles.cycles s.slot.0))
      (λ a b l p q x y.
      let s = face_slot a p in
      let t = face_slot b q in
      let M = λ (ls : List Slot). HasMember ls l in
      let from = in_names st w.cycles.cycles s.slot.0 l (subst M s.loops x) in
      let to = in_names st w.cycles.cycles t.slot.0 l (subst M t.loops y) in
      let slots : s.slot.0 ≡ t.slot.0 = same_Some s.slot.0 t.slot.0 (sym from ∙ to) in
      same_Some a b (sym (w.records.named.faces.live a s.slot s.named)
      ∙ ap (λ (k : ℕ). option_map (λ c. c.number) (at st.faces.cells k)) slots
      ∙ w.records.named.faces.live b t.slot t.named))
      (listed_once (table (face_at st) n.faces) 0)

  loop_below : (l : Slot) → HasMember (flat_map loops_of (standing 0 (table (face_at st) n.faces))) l
      → l.0 < length st.loops
  loop_below l h =
      let j : PartOf loops_of (standing 0 (table (face_at st) n.faces)) l =
      joined_from loops_of (standing 0 (table (face_at st) n.faces)) l h in
      let s = face_slot j.of j.member in
      let M = λ (ls : List Slot). HasMember ls l in
      let c = live_cell st.loops l.0 (in_live st w.cycles.cycles s.slot.0 l (subst M s.loops j.part)) in
      below st.loops l.0 c.0 c.1

  -- each kind has places for what stands
  pub verts_fit : live (table (vert_at st) n.verts) ≤ length st.verts.cells
  verts_fit = live_fits (λ c. c.number) st.verts.cells st.verts.names w.records.named.verts
      (table (vert_at st) n.verts) (λ k h. (stands_for st n lists w).verts.same k ∙ h)

  pub edges_fit : live (table (edge_at st) n.edges) ≤ length st.edges.cells
  edges_fit = live_fits (λ c. c.number) st.edges.cells st.edges.names w.records.named.edges
      (table (edge_at st) n.edges) (λ k h. (stands_for st n lists w).edges.same k ∙ h)

  pub faces_fit : live (table (face_at st) n.faces) ≤ length st.faces.cells
  faces_fit = live_fits (λ c. c.number) st.faces.cells st.faces.names w.records.named.faces
      (table (face_at st) n.faces) faces_lead

  pub corners_fit : corner_sum (table (face_at st) n.faces) ≤ length st.loops
  corners_fit =
      let count = λ (k : ℕ) (is : is_some (at (table (face_at st) n.faces) k) ≡ true).
      let same : k ≡ 0 + k = omega arith in loop_count k is ∙ ap (λ (j : ℕ). length (loops_of j)) same in
      let sum = sum_joined (table (face_at st) n.faces) 0 loops_of count in
      let few = keys_limited (λ (l : Slot). l.0) (length st.loops)
      (flat_map loops_of (standing 0 (table (face_at st) n.faces))) faces_once
      (λ a b p q e. λ i. record { 0 = e i }) loop_below in
      omega arith

  -- the store of a mesh can take what is read off it
  pub becomes_own : CanBecome st lists (read_off st n lists)
  becomes_own =
      let z = w.sizes in
      let v = length_table (vert_at st) n.verts in
      let e = length_table (edge_at st) n.edges in
      let f = length_table (face_at st) n.faces in
      let vr = z.vert_reach in
      let er = z.edge_reach in
      let fr = z.face_reach in
      let vl = z.vert_limit in
      let el = z.edge_limit in
      let fl = z.face_limit in
      let cl = z.corner_limit in
      let sum = w.corners in
      record {
        takes = record {
          layers = refl;
          verts = verts_fit;
          edges = edges_fit;
          corners = corners_fit;
          faces = faces_fit;
          vert_reach = omega arith;
          edge_reach = omega arith;
          face_reach = omega arith;
          vert_limit = omega arith;
          edge_limit = omega arith;
          face_limit = omega arith;
          corner_limit = omega arith;
        };
        materials = refl;
        libraries = refl;
      }
