-- What a text is as a script.
use Rattle.std.specs.Prelude.{ℕ, ◌+◌, nat_le, if◌then◌else◌, List, [], ◌∷◌, length, Result, Ok, Err}
use Rattle.text_words.specs.Text.{lines}
use Rattle.script_text.specs.declared.script.Script.{Script}
use Rattle.script_text.specs.declared.fault.ScriptWhy.{ScriptWhy}
use Rattle.script_text.specs.declared.fault.ScriptWhy.TheVariants.{TooLarge}
use Rattle.script_text.specs.declared.fault.ScriptRefusal.{ScriptRefusal}
use Rattle.script_text.specs.declared.fault.ScriptFault.{ScriptFault}
use Rattle.script_text.specs.declared.fault.ScriptFault.TheVariants.{Refused, NoMemory}
use Rattle.text_words.specs.declared.outcome.Stop.{Stop}
use Rattle.text_words.specs.declared.outcome.Stop.TheVariants as stop
use Rattle.script_text.specs.Lines.{line}

-- nothing read yet
abbrev pub empty : Script
empty = record { layers = []; commands = [] }

-- the fault of a line, with its number, or what follows
abbrev pub at_line : ℕ → Result Script ScriptWhy → (Script → Result Script ScriptRefusal) → Result Script ScriptRefusal
at_line number (Err why) rest = Err (record { line = number; why = why })
at_line number (Ok s) rest = rest s

-- the lines after the first k, one after another, to the first fault
abbrev pub script_of_lines : ℕ → Script → List (List ℕ) → Result Script ScriptRefusal
script_of_lines k s [] = Ok s
script_of_lines k s (l ∷ ls) = at_line (k + 1) (line (k + 1) l s) (λ t. script_of_lines (k + 1) t ls)

-- a text of at most 1,048,576 bytes
abbrev pub script_of : List ℕ → Result Script ScriptRefusal
script_of text =
    if nat_le (length text) 1048576 then script_of_lines 0 empty (lines text)
    else Err (record { line = 0; why = TooLarge })

-- the fault of a line, with its number
abbrev pub stopped : ℕ → Stop ScriptWhy → ScriptFault
stopped number (stop.Fault why) = Refused (record { line = number; why = why })
stopped number stop.NoMemory = NoMemory
