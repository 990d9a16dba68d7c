-- Lines: what each adds to the script before it, or its fault.
use Rattle.std.specs.Prelude.{ℕ, ◌==◌, ◌&&◌, ◌||◌, Bool, not, nat_le, if◌then◌else◌, codes, List, [], ◌∷◌, Option, Some}
use Rattle.std.specs.Prelude.{None, Result, Ok, Err}
use Rattle.std.specs.List.{list_all}
use Rattle.text_words.specs.Text.{is_text, words}
use Rattle.script_text.specs.declared.script.Script.{Script}
use Rattle.script_text.specs.declared.fault.ScriptWhy.{ScriptWhy}
use Rattle.script_text.specs.declared.fault.ScriptWhy.TheVariants.{NotText}
use Rattle.text_words.specs.Text.{cut}
use Rattle.script_text.specs.Commands.{command}
use Rattle.script_text.specs.Layers.{layer}

-- a line that doesn't bind
abbrev pub plain : ℕ → List ℕ → List (List ℕ) → Script → Result Script ScriptWhy
plain number w ws s = if is_text (codes "layer") w then layer ws s else command number None (w ∷ ws) s

-- the words of a line: it binds exactly where the second is `=`
abbrev pub statement : ℕ → List (List ℕ) → Script → Result Script ScriptWhy
statement number [] s = Ok s
statement number (w ∷ []) s = plain number w [] s
statement number (w ∷ x ∷ ws) s =
    if is_text (codes "=") x then command number (Some w) ws s else plain number w (x ∷ ws) s

-- a tab, a carriage return and 32 to 126
abbrev pub is_text_byte : ℕ → Bool
is_text_byte b = (b == 9) || ((b == 13) || (nat_le 32 b && nat_le b 126))

abbrev uncommented_by : List ℕ → Option (List ℕ × List ℕ) → List ℕ
uncommented_by line None = line
uncommented_by line (Some (before, after)) = before

-- a line up to its first `#`
abbrev pub uncommented : List ℕ → List ℕ
uncommented line = uncommented_by line (cut 35 line)

-- a line
abbrev pub line : ℕ → List ℕ → Script → Result Script ScriptWhy
line number text s =
    if not (list_all is_text_byte text) then Err NotText else statement number (words (uncommented text)) s
