-- Places in faces.
use Rattle.std.proofs.Common.{◌≡◌, ◌≢◌, ◌+◌, ◌-◌, ◌<◌, ◌≤◌, ◌==◌, ℕ, suc, Bool, cond, List, [], ◌∷◌, Some, Option, refl, sym, ap, ◌∙◌, subst, arith}
use Rattle.std.specs.Option.{option_map, option_map_or}
use Rattle.std.proofs.lemmas.Bool.{eqb-true, eq-eqb, false_from_ne_true}
use Rattle.cust_data.specs.Layers.{row_of}
use Rattle.raw_pool.specs.declared.pool.Slot.{Slot}
use Rattle.mesh_store.specs.Slots.{at}
use Rattle.mesh_store.specs.Stored.{Stored}
use Rattle.mesh_store.specs.declared.cells.LoopCell.{LoopCell}
use Rattle.mesh_store.specs.declared.cells.FaceCell.{FaceCell}
use Rattle.mesh_cycles.specs.Found.{loops_in}
use Rattle.mesh_model.specs.declared.names.FaceName.{FaceName}
use Rattle.mesh_records.specs.AtSlots.{StoredLoop, StoredFace, face_in}
use Rattle.mesh_records.specs.StandsFor.{place_in, place_of, owner_of, face_name}
use Rattle.mesh_core.specs.Left.{places_from}
use Rattle.mesh_records.proofs.Options.{has_key}
use Rattle.mesh_records.proofs.Elements.{face_number}
use Rattle.mesh_records.proofs.ByName.{told_number}

-- a slot that comes first is at the first place
pub place_here : (xs rest : List Slot) (k l : Slot) → xs ≡ k ∷ rest → k.0 ≡ l.0 → place_in xs l ≡ 0
place_here xs rest k l e same =
    let P = λ (b : Bool). cond b 0 (place_in rest l + 1) ≡ 0 in
    ap (λ (ys : List Slot). place_in ys l) e ∙ subst P (sym (eq-eqb k.0 l.0 same)) refl

-- and else one place further than in what follows
pub place_ahead : (xs rest : List Slot) (k l : Slot) → xs ≡ k ∷ rest → k.0 ≢ l.0 → place_in xs l ≡ place_in rest l + 1
place_ahead xs rest k l e other =
    let P = λ (b : Bool). cond b 0 (place_in rest l + 1) ≡ place_in rest l + 1 in
    ap (λ (ys : List Slot). place_in ys l) e
    ∙ subst P (sym (false_from_ne_true (k.0 == l.0) (λ q. other (eqb-true k.0 l.0 q)))) refl

-- the face of a loop by name, and the loop's place there
pub place_is : (st : Stored) (l f : Slot) (n i : ℕ) → option_map (λ (c : LoopCell). c.face) (at st.loops l.0) ≡ Some f
    → option_map (λ (c : FaceCell). c.number) (at st.faces.cells f.0) ≡ Some n
    → i ≡ place_in (loops_in st f.0) l → (let x : FaceName × ℕ = (record { 0 = n }, i) in x) ≡ place_of st l
place_is st l f n i e q p =
    let c = has_key (λ (c : LoopCell). c.face) (at st.loops l.0) f e in
    let tell = λ (x : LoopCell). let y : StoredLoop =
    record { vert = x.vert; edge = x.edge; face = x.face; vals = row_of st.values.loops l.0 } in y in
    let owner : owner_of st l ≡ f.0 = ap (λ (o : Option LoopCell). option_map_or (λ (k : StoredLoop). k.face.0)
    (option_map tell o) 0) c.is ∙ ap (λ (s : Slot). s.0) c.same in
    let number : (face_name st f.0).0 ≡ n =
    told_number (λ (x : StoredFace). x.number) (face_in st f.0) n (face_number st f.0 ∙ q) in
    let name : n ≡ (face_name st (owner_of st l)).0 = sym number ∙ ap (λ (s : ℕ). (face_name st s).0) (sym owner) in
    let place : i ≡ place_in (loops_in st (owner_of st l)) l =
    p ∙ ap (λ (s : ℕ). place_in (loops_in st s) l) (sym owner) in
    λ z. (record { 0 = name z }, place z)

-- past the last place there is none
pub none_from : (f : FaceName) (i n : ℕ) → n ≤ i → places_from f i (n - i) ≡ []
none_from f i n h = let q : n - i ≡ 0 = omega arith in ap (places_from f i) q

-- and before it the next one follows
pub next_from : (f : FaceName) (i n : ℕ) → i < n
    → places_from f i (n - i) ≡ (f, i) ∷ places_from f (i + 1) (n - (i + 1))
next_from f i n h = let q : n - i ≡ suc (n - (i + 1)) = omega arith in ap (places_from f i) q
