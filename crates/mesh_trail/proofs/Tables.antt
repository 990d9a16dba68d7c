-- A row more in a table.
use Rattle.std.proofs.Common.{◌≡◌, ℕ, ◌+◌, ◌<◌, ◌≤◌, Bool, List, drop, ◌++◌, ℤ, length, refl, sym, ap, ◌∙◌, arith, Option, Some, None}
use Rattle.std.specs.Prelude.{slice_get}
use Rattle.std.specs.FinMap.{get, insert}
use Rattle.std.proofs.lemmas.Option.{none-some, same_Some}
use Rattle.mesh_model.specs.ChangeSetNotes.{Notes, with_first_note, trimmed_notes}
use Rattle.mesh_trail.specs.Noted.{map_notes}
use Rattle.mesh_trail.specs.Kept.{kept_row, row_at, AreWithin, IsTrimmed}
use Rattle.mesh_trail.specs.declared.table.Kept.{Kept}
use Rattle.mesh_trail.proofs.CornerRows.{get_taken, get_dropped}
use Rattle.mesh_trail.proofs.MapNotes.{read_by, get-map_notes, map_notes-twice, map_notes-insert, first_at_none, none-map_notes, note_inserted, part_kept, part_new}

-- a kept record whose row was put at the end
pub rows_noted : {B : Type 0} (width : ℕ) (values row : List ℤ) (notes : Notes (Kept B)) (name : ℕ) (k : Kept B)
    → AreWithin width (length values) notes → get (map_notes (kept_row width values) notes) name ≡ None
    → length row ≡ width → k.row ≡ length values
    → map_notes (kept_row width (values ++ row)) (with_first_note notes name (Some k))
    ≡ insert (map_notes (kept_row width values) notes) name (Some (k.body, row))
rows_noted {B = B} width values row notes name k within none wide place =
    ap (λ (m : Notes (Kept B)). map_notes (kept_row width (values ++ row)) m)
    (first_at_none notes name (Some k) (none-map_notes (kept_row width values) notes name none))
    ∙ map_notes-insert (kept_row width values) (kept_row width (values ++ row)) notes name (Some k)
    (λ q a at_q. ap (λ (vs : List ℤ). (a.body, vs)) (part_kept a.row width values row (within q a at_q)))
    ∙ ap (λ (vs : List ℤ). insert (map_notes (kept_row width values) notes) name (Some (k.body, vs)))
    (part_new k.row width values row place (sym wide))

pub rows_within : {B : Type 0} (width count more : ℕ) (notes : Notes (Kept B)) (name : ℕ) (k : Kept B)
    → AreWithin width count notes → get notes name ≡ None → k.row ≡ count → more ≡ count + width
    → AreWithin width more (with_first_note notes name (Some k))
rows_within {B = B} width count more notes name k within none place is q a at_q =
    note_inserted {P = λ (a : Kept B). a.row + width ≤ more} notes name (Some k)
    (λ a new. let row : k.row ≡ a.row = ap (λ (x : Kept B). x.row) (same_Some k a new) in omega arith)
    (λ q a old. let le = within q a old in omega arith) q a
    (sym (ap (λ (m : Notes (Kept B)). get m q) (first_at_none notes name (Some k) none)) ∙ at_q)

pub absent_noted : {B : Type 0} (width : ℕ) (values : List ℤ) (notes : Notes (Kept B)) (name : ℕ)
    → get (map_notes (kept_row width values) notes) name ≡ None
    → map_notes (kept_row width values) (with_first_note notes name None)
    ≡ insert (map_notes (kept_row width values) notes) name None
absent_noted {B = B} width values notes name none =
    ap (λ (m : Notes (Kept B)). map_notes (kept_row width values) m)
    (first_at_none notes name None (none-map_notes (kept_row width values) notes name none))
    ∙ map_notes-insert (kept_row width values) (kept_row width values) notes name None (λ q a at_q. refl)

pub absent_within : {B : Type 0} (width count : ℕ) (notes : Notes (Kept B)) (name : ℕ) → AreWithin width count notes
    → get notes name ≡ None → AreWithin width count (with_first_note notes name None)
absent_within {B = B} width count notes name within none q a at_q =
    note_inserted {P = λ (a : Kept B). a.row + width ≤ count} notes name None (λ a new. absurd (none-some a new)) within
    q a (sym (ap (λ (m : Notes (Kept B)). get m q) (first_at_none notes name None none)) ∙ at_q)

-- ---- TRIMMED TABLES

-- a trimmed map gives trimmed notes of the table
pub trim_names : {B R : Type 0} (of : B × List ℤ → R) (width : ℕ) (values : List ℤ) (same : R → R → Bool)
    (now : List (Option R)) (old new : Notes (Kept B)) → IsTrimmed (λ k. of (kept_row width values k)) same now old new
    → map_notes of (map_notes (kept_row width values) new)
    ≡ trimmed_notes same (map_notes of (map_notes (kept_row width values) old)) now
trim_names {R = R} of width values same now old new trimmed =
    map_notes-twice (kept_row width values) of new ∙ trimmed.notes
    ∙ ap (λ (m : Notes R). trimmed_notes same m now) (sym (map_notes-twice (kept_row width values) of old))

pub trim_within : {B R : Type 0} (read : Kept B → R) (width count : ℕ) (same : R → R → Bool) (now : List (Option R))
    (old new : Notes (Kept B)) → IsTrimmed read same now old new → AreWithin width count old → AreWithin width count new
trim_within read width count same now old new trimmed within q k at_q = within q k (trimmed.left q k at_q)

left_in : {A B : Type 0} (f : A → B) (b : B) (o p : Option (Option A))
    → ((a : A) → o ≡ Some (Some a) → p ≡ Some (Some a)) → read_by f o ≡ Some (Some b) → read_by f p ≡ Some (Some b)
left_in f b None p left is = absurd (none-some (Some b) is)
left_in f b (Some None) p left is = absurd (none-some b (same_Some None (Some b) is))
left_in {A = A} f b (Some (Some a)) p left is = ap (λ (x : Option (Option A)). read_by f x) (left a refl) ∙ is

pub trim_left : {A B : Type 0} (f : A → B) (old new : Notes A)
    → ((q : ℕ) (a : A) → get new q ≡ Some (Some a) → get old q ≡ Some (Some a)) → (q : ℕ) (b : B)
    → get (map_notes f new) q ≡ Some (Some b) → get (map_notes f old) q ≡ Some (Some b)
trim_left f old new left q b at_q = get-map_notes f old q
    ∙ left_in f b (get new q) (get old q) (left q) (sym (get-map_notes f new q) ∙ at_q)

-- a part of the numbers of a row
pub row_value : {B : Type 0} (width : ℕ) (values : List ℤ) (k : Kept B) (i : ℕ) (o : Option ℤ) → i < width
    → slice_get values (k.row + i) ≡ o → slice_get (row_at width values k.row) i ≡ o
row_value width values k i o less is = get_taken width i (drop k.row values) less
    ∙ get_dropped k.row (k.row + i) i values refl ∙ is
