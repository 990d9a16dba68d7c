-- Files: bytes under names, in order. Of one name's entries the first counts.
use Rattle.std.specs.Prelude.{ℕ, nat_eq, Bool, List, [], ◌∷◌, ◌++◌, slice_set}
use Rattle.std.specs.Option.{option_map, unwrap_or}
use Rattle.std.specs.List.{find, position}
use Rattle.std.specs.declared.option.Option.{Option}
use Rattle.std.specs.declared.option.Option.TheVariants.{None, Some}
use lib.Pointwise.{pointwise}
use Rattle.worlds.specs.declared.entry.Entry.{Entry}

-- files, in the order in which they were made
abbrev pub Files : Type 0
Files = List Entry

-- whether a file has this name
abbrev pub is_named : List ℕ → Entry → Bool
is_named name file = pointwise nat_eq name file.name

-- the bytes that the files have under a name
abbrev pub entry_of : List ℕ → Files → Option (List ℕ)
entry_of name files = option_map (λ (file : Entry). file.bytes) (find (is_named name) files)

-- the bytes under a name, and no bytes where the name isn't there
abbrev pub bytes_of : List ℕ → Files → List ℕ
bytes_of name files = unwrap_or (entry_of name files) []

-- the files with one more, at a place or else at the end
abbrev pub put_at : Files → Entry → Option ℕ → Files
put_at files file None = files ++ file ∷ []
put_at files file (Some i) = slice_set files i file

-- the files with these bytes under a name
abbrev pub put : List ℕ → List ℕ → Files → Files
put name bytes files = put_at files (record { name = name; bytes = bytes }) (position (is_named name) files)

-- the files with a change of the bytes under a name, if there are any
abbrev pub put_after : List ℕ → List ℕ → Option (List ℕ) → Files → Files
put_after name bytes None files = files
put_after name bytes (Some had) files = put name (had ++ bytes) files

-- the files with more bytes under a name that is there
abbrev pub append_to : List ℕ → List ℕ → Files → Files
append_to name bytes files = put_after name bytes (entry_of name files) files
