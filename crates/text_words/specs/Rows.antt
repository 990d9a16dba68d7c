-- What the definitions give on small texts.
use Rattle.std.specs.Prelude.{◌≡◌, pos, neg_ℤ, [], ◌∷◌, codes}
use Rattle.std.specs.declared.option.Option.TheVariants.{None, Some}
use Rattle.text_words.specs.Text.{lines, words, natural, integer}

-- the lines of no text, of one without line feed, of one that ends in a line feed, of two and an empty one between
abbrev pub LineRows : Type 0
LineRows =
    (lines [] ≡ [] ∷ [])
    × (lines (codes "ab") ≡ codes "ab" ∷ [])
    × (lines (97 ∷ 10 ∷ []) ≡ codes "a" ∷ [] ∷ [])
    × (lines (97 ∷ 10 ∷ 10 ∷ 98 ∷ []) ≡ codes "a" ∷ [] ∷ codes "b" ∷ [])

-- the words of no line, of blanks alone, of a line with spaces, a tab and a carriage return
abbrev pub WordRows : Type 0
WordRows =
    (words [] ≡ [])
    × (words (32 ∷ 9 ∷ 13 ∷ []) ≡ [])
    × (words (codes " v  1 -20") ≡ codes "v" ∷ codes "1" ∷ codes "-20" ∷ [])
    × (words (102 ∷ 9 ∷ 49 ∷ 13 ∷ []) ≡ codes "f" ∷ codes "1" ∷ [])

-- zero, leading zeros, as many digits as may be, one more, no digit, a sign, a letter
abbrev pub NaturalRows : Type 0
NaturalRows =
    (natural 3 (codes "0") ≡ Some 0)
    × (natural 3 (codes "007") ≡ Some 7)
    × (natural 3 (codes "907") ≡ Some 907)
    × (natural 3 (codes "1234") ≡ None)
    × (natural 3 [] ≡ None)
    × (natural 3 (codes "+1") ≡ None)
    × (natural 3 (codes "1a") ≡ None)

-- with and without a minus, zero with a minus, a minus alone, two, a plus, a digit too many
abbrev pub IntegerRows : Type 0
IntegerRows =
    (integer 3 (codes "125") ≡ Some (pos 125))
    × (integer 3 (codes "-125") ≡ Some (neg_ℤ (pos 125)))
    × (integer 3 (codes "-0") ≡ Some (pos 0))
    × (integer 3 (codes "-") ≡ None)
    × (integer 3 (codes "--1") ≡ None)
    × (integer 3 (codes "+1") ≡ None)
    × (integer 3 (codes "-1250") ≡ None)
    × (integer 3 [] ≡ None)
