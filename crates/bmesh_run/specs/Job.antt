-- The files that the words of a command line name.
use Rattle.std.specs.Prelude.{ℕ, Bool, nat_eq, if◌then◌else◌, codes, List, [], ◌∷◌, ◌++◌}
use Rattle.std.specs.List.{starts_with}
use Rattle.std.specs.declared.option.Option.{Option}
use Rattle.std.specs.declared.option.Option.TheVariants.{None, Some}
use Rattle.text_words.specs.Text.{is_text}
use Rattle.worlds.specs.declared.start.Start.{Start}
use Rattle.worlds.specs.declared.start.Purpose.TheVariants.{Reading, Writing}
pub use Rattle.command_line.specs.Job.{Job, job_of}

-- a model of this name is made from a number, and no file is read for it
abbrev pub is_grid : List ℕ → Bool
is_grid name = starts_with nat_eq name (codes "@grid:")

-- a script of this name is the program's own
abbrev pub is_tour : List ℕ → Bool
is_tour name = is_text (codes "@tour") name

-- the file that is read for a model
abbrev pub model_starts : List ℕ → List Start
model_starts name = if is_grid name then [] else record { name = name; purpose = Reading } ∷ []

-- the file that is read for a script
abbrev pub script_starts : List ℕ → List Start
script_starts name = if is_tour name then [] else record { name = name; purpose = Reading } ∷ []

-- the file that is written
abbrev pub out_starts : List ℕ → List Start
out_starts name = record { name = name; purpose = Writing } ∷ []

-- all files of a command line, in the order in which they are asked for
abbrev pub starts_of : Option Job → List Start
starts_of None = []
starts_of (Some job) = model_starts job.model ++ (script_starts job.script ++ out_starts job.out)

-- the name of the file to write, and no name where the words are not accepted
abbrev pub out_of : Option Job → List ℕ
out_of None = []
out_of (Some job) = job.out
