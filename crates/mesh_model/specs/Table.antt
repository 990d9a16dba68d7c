-- A table of names: what stands at each name from 0 on, or None. Its length is the next name.
use Rattle.std.specs.Prelude.{◌≡◌, ℕ, ◌+◌, Bool, true, false, List, map, drop, is_some, slice_index_or, slice_set}
use Rattle.std.specs.Prelude.{if◌then◌else◌}
use Rattle.std.specs.declared.option.Option.{Option}
use Rattle.std.specs.declared.option.Option.TheVariants.{None, Some}
use Rattle.std.specs.List.{position, count_by, enumerate_from, range_with_len}
use Rattle.std.specs.Option.{option_map}

-- what stands at a name, and None past the end
abbrev pub at : {X : Type 0} → List (Option X) → ℕ → Option X
at table name = slice_index_or table name None

-- something stands at a name
abbrev pub IsThere : {X : Type 0} → List (Option X) → ℕ → Type 0
IsThere table name = is_some (at table name) ≡ true

-- each record that stands in a table has a property
abbrev pub Each : {X : Type 0} → (X → Type 0) → List (Option X) → Type 0
Each {X} P table = (name : ℕ) (x : X) → at table name ≡ Some x → P x

-- something stands, and passes a test
abbrev pub passes : {X : Type 0} → (X → Bool) → Option X → Bool
passes test None = false
passes test (Some x) = test x

-- nothing stands, or what stands passes a test
abbrev pub allows : {X : Type 0} → (X → Bool) → Option X → Bool
allows test None = true
allows test (Some x) = test x

-- what stands, if it passes a test
abbrev pub only_if : {X : Type 0} → (X → Bool) → Option X → Option X
only_if test None = None
only_if test (Some x) = if test x then Some x else None

-- the table of what a function gives at each name below a count
abbrev pub table_of : {X : Type 0} → (ℕ → Option X) → ℕ → List (Option X)
table_of f count = map f (range_with_len 0 count)

-- the records that pass a test; the others are taken away, and the next name stays
abbrev pub kept : {X : Type 0} → (X → Bool) → List (Option X) → List (Option X)
kept test table = map (only_if test) table

-- the records whose names pass a test; the others are taken away, and the next name stays
abbrev pub kept_names : {X : Type 0} → (ℕ → Bool) → List (Option X) → List (Option X)
kept_names test table = map (λ e. only_if (λ _. test e.0) e.1) (enumerate_from 0 table)

-- the record at a name taken away; the name stays given
abbrev pub erase : {X : Type 0} → List (Option X) → ℕ → List (Option X)
erase table name = slice_set table name None

-- the record at a name changed, if one stands there
abbrev pub update : {X : Type 0} → List (Option X) → ℕ → (X → X) → List (Option X)
update table name change = slice_set table name (option_map change (at table name))

-- each record changed
abbrev pub changed : {X : Type 0} → (X → X) → List (Option X) → List (Option X)
changed change table = map (option_map change) table

-- the records whose names pass a test changed
abbrev pub changed_names : {X : Type 0} → (ℕ → Bool) → (X → X) → List (Option X) → List (Option X)
changed_names test change table = map (λ e. if test e.0 then option_map change e.1 else e.1) (enumerate_from 0 table)

-- the least name from a number on at which something stands
abbrev pub least_from : {X : Type 0} → List (Option X) → ℕ → Option ℕ
least_from table name = option_map (λ k. name + k) (position is_some (drop name table))

-- how many stand
abbrev pub live : {X : Type 0} → List (Option X) → ℕ
live table = count_by is_some table
