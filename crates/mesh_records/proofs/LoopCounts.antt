-- How many loops the face of a name has.
use Rattle.std.proofs.Common.{◌≡◌, ◌≢◌, ◌<◌, ℕ, true, is_some, List, [], ◌∷◌, Option, Some, None, length, get_or, refl, sym, ap, ◌∙◌, arith}
use Rattle.std.specs.Option.{option_map, option_and_then}
use Rattle.std.proofs.lemmas.Bool.{false≢true}
use Rattle.std.proofs.lemmas.List.{length-map, get_or-set_same}
use Rattle.std.proofs.lemmas.Option.{same_Some}
use Rattle.raw_pool.specs.declared.pool.Slot.{Slot}
use Rattle.mesh_store.specs.Slots.{at}
use Rattle.mesh_store.specs.Naming.{AreNamed}
use Rattle.mesh_store.specs.Stored.{Stored}
use Rattle.mesh_store.specs.declared.cells.FaceCell.{FaceCell}
use Rattle.mesh_store.specs.declared.cells.Round.{Round}
use Rattle.mesh_cycles.specs.Cycles.{round_of}
use Rattle.mesh_cycles.specs.Found.{loops_in}
use Rattle.mesh_cycles.proofs.Completeness.{live_len}
use Rattle.mesh_model.specs.Table.{at as record_at}
use Rattle.mesh_model.specs.Complex.{Complex, corners_of}
use Rattle.mesh_model.specs.Kernel.{with_corners_by}
use Rattle.mesh_model.specs.declared.names.FaceName.{FaceName}
use Rattle.mesh_model.specs.declared.records.CornerRec.{CornerRec}
use Rattle.mesh_model.specs.declared.records.FaceRec.{FaceRec}
use Rattle.mesh_model.specs.declared.records.Counters.{Counters}
use Rattle.mesh_records.specs.AtSlots.{face_in}
use Rattle.mesh_records.specs.Frames.{StaysWhole}
use Rattle.mesh_records.specs.ReadOff.{NameLists, table, face_at, face_rec, read_off}
use Rattle.mesh_records.specs.Whole.{AreRecords, IsNearlyWhole, IsWhole}
use Rattle.mesh_records.proofs.ByName.{faces_all}
use Rattle.mesh_records.proofs.Edges.{name_below}
use Rattle.mesh_records.proofs.Elements.{name_live, face_is_at}
use Rattle.mesh_records.proofs.Kills.{loops_of_name}
use Rattle.mesh_records.proofs.Options.{there as there_in}
use Rattle.mesh_records.proofs.Tables.{at_table, length_table}

module _ (st : Stored) (n : Counters) (w : IsWhole st n) (k : ℕ) (f : Slot) (named : at st.faces.names k ≡ Some f) where
  -- as many as it has corners
  pub loops_many : length (corners_of (face_at st k)) ≡ length (loops_in st f.0)
  loops_many = ap (λ (o : Option FaceRec). length (corners_of o)) (sym (faces_all st n w.records k))
      ∙ loops_of_name st n w k f named

  -- and as its length says
  pub len_loops : (len : ℕ) → option_map (λ (c : FaceCell). c.len) (at st.faces.cells f.0) ≡ Some len
      → len ≡ length (loops_in st f.0)
  len_loops len is =
      same_Some _ _ (sym is ∙ live_len st f.0 w.cycles.counted (name_live w.records.named.faces k f named))
      ∙ sym (length-map (round_of st f.0) (λ (r : Round). r.0))

-- the corners of a face that is changed
pub corners_by : (old new : Stored) (n m : Counters) → AreRecords old n → AreRecords new m → (k : FaceName)
    (change : List CornerRec → List CornerRec)
    → ((lists : NameLists) → read_off new m lists ≡ with_corners_by (read_off old n lists) k change)
    → is_some (at old.faces.names k.0) ≡ true
    → corners_of (face_at new k.0) ≡ change (corners_of (face_at old k.0))
corners_by old new n m w u k change read there =
    let none : NameLists = record { materials = []; libraries = [] } in
    let turn = λ (r : FaceRec). let q : FaceRec = record r { corners = change r.corners } in q in
    let s = some_slot (at old.faces.names k.0) there in
    let low = name_below old.faces.names n.faces k.0 s.0 w.below.faces s.1 in
    let long = length_table (face_at old) n.faces in
    let absent : Option FaceRec = None in
    let live = face_there old n w.named.faces k.0 s.0 s.1 in
    ap (λ (o : Option FaceRec). corners_of o) (sym (faces_all new m u k.0))
    ∙ ap (λ (c : Complex). corners_of (record_at c.faces k.0)) (read none)
    ∙ ap (λ (o : Option FaceRec). corners_of o)
    (get_or-set_same (table (face_at old) n.faces) k.0
    (option_map turn (get_or (table (face_at old) n.faces) k.0 absent)) absent (omega arith)
    ∙ ap (option_map turn) (at_table None (face_at old) n.faces k.0 low ∙ live.1))
    ∙ ap (λ (o : Option FaceRec). change (corners_of o)) (sym live.1)
  where
    some_slot : (o : Option Slot) → is_some o ≡ true → (s : Slot) × (o ≡ Some s)
    some_slot None e = absurd (false≢true e)
    some_slot (Some s) e = (s, refl)

    face_there : (st : Stored) (n : Counters) → AreNamed (λ (c : FaceCell). c.number) st.faces.cells st.faces.names
        → (j : ℕ) (s : Slot) → at st.faces.names j ≡ Some s → (r : FaceRec) × (face_at st j ≡ Some r)
    face_there st n named j s e =
        let c = there_in (face_in st s.0) (face_is_at st s.0 (name_live named j s e)) in (
          face_rec st s.0 c.0,
          ap (option_and_then (λ (x : Slot). option_map (face_rec st x.0) (face_in st x.0))) e
              ∙ ap (option_map (face_rec st s.0)) c.1,
        )

-- the length that was read before room was made
pub kept_count : (old new : Stored) (n : Counters) → IsWhole old n → StaysWhole old new n → (k : ℕ) (f : Slot)
    → at old.faces.names k ≡ Some f → (len : ℕ)
    → option_map (λ (c : FaceCell). c.len) (at old.faces.cells f.0) ≡ Some len → len ≡ length (round_of new f.0)
kept_count old new n w s k f named len is =
    let none : NameLists = record { materials = []; libraries = [] } in
    let own = len_loops old n w k f named len is in
    let was = loops_of_name old n w k f named in
    let now = loops_of_name new n s.whole k f (s.same.face_names k ∙ named) in
    let same = ap (λ (c : Complex). length (corners_of (record_at c.faces k))) (s.read none) in
    let many = length-map (round_of new f.0) (λ (r : Round). r.0) in
    omega arith

-- a face of a complex that a store is read as has as many corners as its length says
pub many_now : (st : Stored) (n : Counters) → IsWhole st n → (k : ℕ) (f : Slot) → at st.faces.names k ≡ Some f
    → (len : ℕ) → option_map (λ (c : FaceCell). c.len) (at st.faces.cells f.0) ≡ Some len → {lists : NameLists}
    → (x : Complex) → read_off st n lists ≡ x → length (corners_of (record_at x.faces k)) ≡ len
many_now st n w k f named len is x read =
    ap (λ (c : Complex). length (corners_of (record_at c.faces k))) (sym read)
    ∙ loops_of_name st n w k f named ∙ sym (len_loops st n w k f named len is)

-- the rule but for the loop of each face
pub nearly_of : {st : Stored} {n : Counters} → IsWhole st n → IsNearlyWhole st n
nearly_of w = record { records = w.records; cycles = w.cycles; values = w.values; sizes = w.sizes }

-- the face of a name has a loop
pub some_loops : (st : Stored) (n : Counters) → IsWhole st n → (k : ℕ) (f : Slot) → at st.faces.names k ≡ Some f
    → 0 < length (loops_in st f.0)
some_loops st n w k f named =
    let many = length-map (round_of st f.0) (λ (r : Round). r.0) in
    let some = some_list (round_of st f.0) (w.some f.0 (face_is_at st f.0 (name_live w.records.named.faces k f named)))
    in
    omega arith
  where
    some_list : (rs : List Round) → rs ≢ [] → 0 < length rs
    some_list [] ne = absurd (ne refl)
    some_list (r ∷ rs) ne = omega arith
