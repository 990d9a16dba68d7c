-- What clap finds in words that it takes.
use Rattle.std.specs.Prelude.{◌≡◌, ℕ, pos, true, codes, List, Some, is_some, option_map}
use Rattle.clap.specs.Lexer.{without_minus}
use Rattle.clap.specs.Words.{IsSignedIn, Text, first_of, first_value, matches_of, one_text}
use Rattle.clap.specs.declared.error.kind.ErrorKind.{ErrorKind}
use Rattle.clap.specs.declared.error.kind.ErrorKind.TheVariants.{OutOfMemory}
use Rattle.clap.specs.declared.parser.matches.Found.{Found}
use Rattle.command_line.specs.Job.{command, number}
use Rattle.command_line.specs.declared.job.JobFault.{JobFault}
use Rattle.command_line.specs.declared.job.JobFault.TheVariants.{Refused, NoMemory}

-- memory ran out, or the words are refused
abbrev pub fault_of_kind : ErrorKind → JobFault
fault_of_kind OutOfMemory = NoMemory
fault_of_kind _ = Refused

-- the names and the number that clap found
abbrev pub IsFound : Text → Text → Text → ℕ → Found → Type 0
IsFound model script out scale found =
    (first_value found (codes "MODEL") ≡ Some model)
    × (first_value found (codes "SCRIPT") ≡ Some script)
    × (first_value found (codes "OUT") ≡ Some out)
    × (option_map number (one_text found (codes "scale")) ≡ Some scale)

-- each of the three names is there, and a number from 0 to 6
abbrev pub HasAll : Found → Type 0
HasAll found =
    (is_some (first_value found (codes "MODEL")) ≡ true)
    × (is_some (first_value found (codes "SCRIPT")) ≡ true)
    × (is_some (first_value found (codes "OUT")) ≡ true)
    × ((text : Text) × (one_text found (codes "scale") ≡ Some (without_minus text)) × IsSignedIn (pos 0) (pos 6) text)

-- these are the words that clap finds for the names
abbrev pub IsThere : Text → Text → Text → List Text → Type 0
IsThere model script out words =
    (first_of (codes "MODEL") (matches_of command words) ≡ Some model)
    × (first_of (codes "SCRIPT") (matches_of command words) ≡ Some script)
    × (first_of (codes "OUT") (matches_of command words) ≡ Some out)
