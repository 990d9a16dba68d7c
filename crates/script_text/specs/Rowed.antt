-- The words of a row, each a key and its value.
use Rattle.std.specs.Prelude.{ℕ, if◌then◌else◌, List, Option, Some, None, Result, Ok, Err}
use Rattle.script_text.specs.declared.arguments.Form.{Form}
use Rattle.script_text.specs.declared.arguments.Place.{Place}
use Rattle.script_text.specs.declared.arguments.Arguments.{Arguments}
use Rattle.script_text.specs.declared.table.Row.{Row}
use Rattle.script_text.specs.declared.fault.ScriptWhy.{ScriptWhy}
use Rattle.script_text.specs.declared.fault.ScriptWhy.TheVariants.{UnknownWord, TwiceGiven}
use Rattle.script_text.specs.Arguments.{nothing, given, with}
use Rattle.text_words.specs.Outcome.{◌>>=◌, steps, ok_or}
use Rattle.script_text.specs.Table.{row_key}
use Rattle.text_words.specs.Text.{cut}
use Rattle.script_text.specs.Values.{value_of}

-- a value at a place that has none
abbrev pub put : Place → Form → List ℕ → Arguments → Result Arguments ScriptWhy
put place form value a = if given place a then Err TwiceGiven else (do
  x ← value_of form value
  Ok (with place x a))

abbrev pub put_at : Place × Form → List ℕ → Arguments → Result Arguments ScriptWhy
put_at (place, form) value a = put place form value a

-- a key and its value
abbrev pub pair : Row → List ℕ → List ℕ → Arguments → Result Arguments ScriptWhy
pair row key value a = do
  place ← ok_or (row_key row key) UnknownWord
  put_at place value a

-- a word that is cut at its first `=`
abbrev pub argument_cut : Row → Option (List ℕ × List ℕ) → Arguments → Result Arguments ScriptWhy
argument_cut row None a = Err UnknownWord
argument_cut row (Some (key, value)) a = pair row key value a

-- a word `KEY=VALUE`
abbrev pub argument : Row → List ℕ → Arguments → Result Arguments ScriptWhy
argument row word a = argument_cut row (cut 61 word) a

-- such words from left to right
abbrev pub arguments_of : Row → List (List ℕ) → Result Arguments ScriptWhy
arguments_of row ws = steps (argument row) nothing ws
