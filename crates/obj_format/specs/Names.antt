-- Names: the rest of a line.
use Rattle.std.specs.Prelude.{ℕ, List}
use Rattle.text_words.specs.Trims.{is_of, trimmed, skipped}
use Rattle.text_words.specs.declared.trims.ByteClass.TheVariants.{Blank, NoBlank, BlankOrBackslash}

-- what stands after the first word, without blanks at the start, and without blanks and backslashes at the end
abbrev pub name_in : List ℕ → List ℕ
name_in text = trimmed (is_of BlankOrBackslash) (skipped (is_of Blank)
    (skipped (is_of NoBlank) (skipped (is_of Blank) text)))
