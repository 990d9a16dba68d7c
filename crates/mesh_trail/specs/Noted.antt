-- What is seen of the notes of one kind.
use Rattle.std.specs.Prelude.{ℕ, Bool, true, false, refl, map}
use Rattle.std.specs.declared.option.Option.{Option}
use Rattle.std.specs.declared.option.Option.TheVariants.{None, Some}
use Rattle.std.specs.Coded.{Coded, code_by, coded×, coded_ℕ, coded_option}
use Rattle.std.specs.FinMap.{code, get, entries, from_entries}
use Rattle.std.specs.Option.{option_map}
use Rattle.mesh_model.specs.ChangeSetNotes.{Notes}

-- the notes, and how many more are made without memory
pub record Noted (R : Type 0) : Type 0 where
  pub names : Notes R
  pub room : ℕ

abbrev pub notes_code : {R : Type 0} → Coded R → Coded (Notes R)
notes_code r = code coded_ℕ (coded_option r)

abbrev pub noted_code : {R : Type 0} → Coded R → Coded (Noted R)
noted_code {R} r =
    code_by (Notes R × ℕ) (coded× (notes_code r) coded_ℕ) (λ n. (n.names, n.room))
    (λ p. record { names = p.0; room = p.1 }) (λ _. refl)

-- the same names, each record read in another form
abbrev pub map_notes : {A B : Type 0} → (A → B) → Notes A → Notes B
map_notes f notes = from_entries (map (λ e. (e.0, option_map f e.1)) (entries notes))

-- whether a note is that nothing stood there
abbrev pub is_absent : {R : Type 0} → Option (Option R) → Bool
is_absent None = false
is_absent (Some None) = true
is_absent (Some (Some r)) = false

-- the record of a note, if there is one
abbrev pub record_in : {R : Type 0} → Option (Option R) → Option R
record_in None = None
record_in (Some was) = was

-- the record that a name had, if it has a note with one
abbrev pub noted : {R : Type 0} → Notes R → ℕ → Option R
noted notes name = record_in (get notes name)
