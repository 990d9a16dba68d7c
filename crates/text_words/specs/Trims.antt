-- Texts without what stands at their ends.
use Rattle.std.specs.Prelude.{ℕ, ◌==◌, ◌||◌, Bool, not, if◌then◌else◌, List, [], ◌∷◌}
use Rattle.text_words.specs.Text.{is_blank}
use Rattle.text_words.specs.declared.trims.ByteClass.{ByteClass}
use Rattle.text_words.specs.declared.trims.ByteClass.TheVariants.{CarriageReturn, Blank, NoBlank, BlankOrBackslash}

-- a byte is of a class
abbrev pub is_of : ByteClass → ℕ → Bool
is_of CarriageReturn b = b == 13
is_of Blank b = is_blank b
is_of NoBlank b = not (is_blank b)
is_of BlankOrBackslash b = is_blank b || (b == 92)

-- a byte before a text that is trimmed
abbrev pub kept : (ℕ → Bool) → ℕ → List ℕ → List ℕ
kept p b [] = if p b then [] else b ∷ []
kept p b (c ∷ cs) = b ∷ c ∷ cs

-- without the last bytes, as far as they are of a kind
abbrev pub trimmed : (ℕ → Bool) → List ℕ → List ℕ
trimmed p [] = []
trimmed p (b ∷ bs) = kept p b (trimmed p bs)

-- without the first bytes, as far as they are of a kind
abbrev pub skipped : (ℕ → Bool) → List ℕ → List ℕ
skipped p [] = []
skipped p (b ∷ bs) = if p b then skipped p bs else b ∷ bs
