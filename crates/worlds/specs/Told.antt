-- What a world tells.
use Rattle.std.specs.Prelude.{ℕ, List, [], ◌∷◌, ◌++◌}
use Rattle.std.specs.Option.{option_map, option_and_then}
use Rattle.std.specs.declared.option.Option.{Option}
use Rattle.std.specs.declared.option.Option.TheVariants.{None, Some}
use Rattle.worlds.specs.Files.{Files, entry_of, put}
use Rattle.worlds.specs.declared.start.Start.{Start}
use Rattle.worlds.specs.declared.start.Purpose.{Purpose}

-- the files, what is left of the one being read, what was made, begun, printed and asked for, and two counts of faults;
-- of an
-- optional part a world may tell nothing, which is None, but of begun None says that no file is begun
pub record Told : Type 0 where
  pub files : Option Files
  pub rest : Option (List ℕ)
  pub made : Option Files
  pub begun : Option (List ℕ)
  pub printed : Option (List ℕ)
  pub started : List Start
  pub in_faults : ℕ
  pub out_faults : ℕ

-- the same, and a file was asked for
abbrev pub with_start : Told → List ℕ → Purpose → Told
with_start t name purpose = record t { started = t.started ++ record { name = name; purpose = purpose } ∷ [] }

-- the files with these bytes under the begun name
abbrev pub put_begun : Option (List ℕ) → List ℕ → Option Files → Option Files
put_begun None bytes files = files
put_begun (Some name) bytes files = option_map (put name bytes) files

-- the bytes of the begun file
abbrev pub wrote_of : Told → Option (List ℕ)
wrote_of t = option_and_then (λ name. option_and_then (entry_of name) t.made) t.begun

-- all that is told, without the begun file's bytes and the count of faults of output
abbrev pub rest_of : Told → Told
rest_of t = record t { made = put_begun t.begun [] t.made; out_faults = 0 }

-- of no file nothing is left to read, and of one that isn't told nothing is told
abbrev pub left_of_none : {X : Type 0} → Option X → Option (List ℕ)
left_of_none None = Some []
left_of_none (Some x) = None
