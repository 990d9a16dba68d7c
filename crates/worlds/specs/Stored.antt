-- What a world in memory keeps.
use Rattle.std.specs.Prelude.{ℕ, ◌-◌, ◌^◌, List, [], ◌∷◌, ◌++◌}
use Rattle.std.specs.declared.option.Option.{Option}
use Rattle.std.specs.declared.option.Option.TheVariants.{None, Some}
use Rattle.worlds.specs.Files.{Files, append_to}
use Rattle.worlds.specs.Told.{Told}
use Rattle.worlds.specs.declared.start.Start.{Start}
use Rattle.worlds.specs.declared.start.Purpose.{Purpose}

-- files, what is left of the one being read, what was made, begun, printed and asked for, and how
-- many bytes a call handles at most
pub record Stored : Type 0 where
  pub files : Files
  pub rest : List ℕ
  pub made : Files
  pub begun : Option (List ℕ)
  pub printed : List ℕ
  pub started : List Start
  pub piece : ℕ

-- no files, nothing done yet, and pieces of any length
abbrev pub nothing_stored : Stored
nothing_stored = record {
  files = [];
  rest = [];
  made = [];
  begun = None;
  printed = [];
  started = [];
  piece = 2 ^ 64 - 1;
}

-- all of it is told, with two counts
abbrev pub told_of : Stored → ℕ → ℕ → Told
told_of s in_faults out_faults = record {
  files = Some s.files;
  rest = Some s.rest;
  made = Some s.made;
  begun = s.begun;
  printed = Some s.printed;
  started = s.started;
  in_faults = in_faults;
  out_faults = out_faults;
}

-- the same, and a file was asked for
abbrev pub also_asked : Stored → List ℕ → Purpose → Stored
also_asked s name purpose = record s { started = s.started ++ record { name = name; purpose = purpose } ∷ [] }

-- the files with more bytes in the begun one, if any
abbrev pub append_begun : Option (List ℕ) → List ℕ → Files → Files
append_begun None bytes files = files
append_begun (Some name) bytes files = append_to name bytes files
