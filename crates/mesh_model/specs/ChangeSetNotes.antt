-- What is noted of one kind of element: for each noted name the record that it had, or None where it wasn't there.
use Rattle.std.specs.Prelude.{◌≡◌, ◌≤◌, ℕ, Bool, if◌then◌else◌, is_some, max, List, [], ◌∷◌, map, length}
use Rattle.std.specs.declared.option.Option.{Option}
use Rattle.std.specs.declared.option.Option.TheVariants.{None, Some}
use Rattle.std.specs.List.{range_with_len, flat_map}
use Rattle.std.specs.Ordering.{nat_cmp}
use Rattle.std.specs.FinMap.{FinMap, get, insert, entries, from_entries, retain_keys}
use Rattle.mesh_model.specs.Table.{at, table_of}

-- the noted names
abbrev pub Notes : Type 0 → Type 0
Notes R = FinMap nat_cmp (Option R)

-- what stands at a name once its note is put back
abbrev pub put_back : {R : Type 0} → Option (Option R) → Option R → Option R
put_back None now = now
put_back (Some was) now = was

-- the table that has the earlier next name, and in which each note is put back
abbrev pub led_back : {R : Type 0} → ℕ → Notes R → List (Option R) → List (Option R)
led_back next notes now = table_of (λ n. put_back (get notes n) (at now n)) next

-- the note of a name, if its records differ or it stands in one table only
abbrev pub note_between : {R : Type 0} → (R → R → Bool) → Option R → Option R → Option (Option R)
note_between same None None = None
note_between same None (Some y) = Some None
note_between same (Some x) None = Some (Some x)
note_between same (Some x) (Some y) = if same x y then None else Some (Some x)

-- a name with its note, if there is one
abbrev pub entry_at : {X : Type 0} → ℕ → Option X → List (ℕ × X)
entry_at n None = []
entry_at n (Some x) = (n, x) ∷ []

-- the map of what a function gives at each name below a count
abbrev pub map_of : {X : Type 0} → (ℕ → Option X) → ℕ → FinMap nat_cmp X
map_of f count = from_entries (flat_map (λ n. entry_at n (f n)) (range_with_len 0 count))

-- the notes that lead from a later table back to an earlier one
abbrev pub notes_between : {R : Type 0} → (R → R → Bool) → List (Option R) → List (Option R) → Notes R
notes_between same before after =
    map_of (λ n. note_between same (at before n) (at after n)) (max (length before) (length after))

-- a map with all these entries put in, the first one last
abbrev pub put_all : {X : Type 0} → List (ℕ × X) → FinMap nat_cmp X → FinMap nat_cmp X
put_all [] m = m
put_all (e ∷ es) m = insert (put_all es m) e.0 e.1

-- the notes of both, the older one at a name that both have
abbrev pub joined_notes : {R : Type 0} → Notes R → Notes R → Notes R
joined_notes older newer = put_all (entries older) newer

-- the same names, each with what stands there now
abbrev pub opposite_notes : {R : Type 0} → Notes R → List (Option R) → Notes R
opposite_notes notes now = from_entries (map (λ e. (e.0, at now e.0)) (entries notes))

-- a note, if it differs from what stands now
abbrev pub note_if_changed : {R : Type 0} → (R → R → Bool) → Option R → Option (Option R) → Option (Option R)
note_if_changed same now None = None
note_if_changed same now (Some was) = note_between same was now

-- the notes that differ from what stands now
abbrev pub trimmed_notes : {R : Type 0} → (R → R → Bool) → Notes R → List (Option R) → Notes R
trimmed_notes same notes now = retain_keys notes (λ n. is_some (note_if_changed same (at now n) (get notes n)))

-- a note more, where the name has none
abbrev pub with_first_note : {R : Type 0} → Notes R → ℕ → Option R → Notes R
with_first_note notes name was = if is_some (get notes name) then notes else insert notes name was

-- what stands at or past the earlier next name is noted as not there
abbrev pub IsWhole : {R : Type 0} → ℕ → Notes R → List (Option R) → Type 0
IsWhole next notes now = (n : ℕ) → next ≤ n → put_back (get notes n) (at now n) ≡ None
