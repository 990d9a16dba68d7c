-- The words of the command line, by clap's own definition of the command.
use Rattle.std.specs.Prelude.{ℕ, pos, Bool, true, if◌then◌else◌, codes, List, [], ◌∷◌, Option, Some, None, unwrap_or}
use Rattle.std.specs.Option.{option_map_or}
use Rattle.std.specs.Str.Parse.{digits_value, without_leading_plus}
use Rattle.clap.specs.Walk.{is_empty}
use Rattle.clap.specs.Words.{App, Rule, Text, fault_of, first_of, matches_of, new_app, new_rule, one_of, with_rule}
use Rattle.clap.specs.declared.builder.action.ArgAction.TheVariants.{Set}
use Rattle.clap.specs.declared.builder.value_parser.ValueParser.TheVariants as parser

-- the names of the model, of the script and of the file to write, and how many decimal places the grid has
pub record Job : Type 0 where
  pub model : Text
  pub script : Text
  pub out : Text
  pub scale : ℕ

-- a name that must be given, by its place
abbrev pub name : Text → Rule
name id = record (new_rule id) { required = true; action = Some Set }

-- `--scale` with a number from 0 to 6, which is 6 where it isn't given
abbrev pub scale : Rule
scale = record (new_rule (codes "scale")) {
  long = Some (codes "scale");
  action = Some Set;
  parser = Some (parser.Signed (pos 0) (pos 6));
  defaults = codes "6" ∷ [];
}

-- the program's name alone, which is not among the words
abbrev pub bare : App
bare = let app = new_app (codes "bmesh") in record app { top = record app.top { no_binary_name = true } }

-- MODEL SCRIPT OUT [--scale N]
abbrev pub command : App
command =
    let names = with_rule (with_rule (with_rule bare (name (codes "MODEL"))) (name (codes "SCRIPT"))) (name (codes "OUT")) in
    with_rule names scale

-- clap finds no fault in the words
abbrev pub is_taken : List Text → Bool
is_taken words = is_empty (fault_of command words)

-- the word that clap finds for a name
abbrev pub word_of : Text → List Text → Text
word_of id words = unwrap_or (first_of id (matches_of command words)) []

-- the number that a text spells, which may have a plus before it
abbrev pub number : Text → ℕ
number text = digits_value 10 (without_leading_plus text)

-- the number that clap finds for `--scale`
abbrev pub scale_of : List Text → ℕ
scale_of words = option_map_or number (one_of (codes "scale") (matches_of command words)) 6

-- what the words give, where clap takes them
unfoldable pub job_of : List Text → Option Job
job_of words = if is_taken words then Some (record {
  model = word_of (codes "MODEL") words;
  script = word_of (codes "SCRIPT") words;
  out = word_of (codes "OUT") words;
  scale = scale_of words;
}) else None
