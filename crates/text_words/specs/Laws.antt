-- Laws of the definitions.
use Rattle.std.specs.Prelude.{◌≡◌, ℕ, ℤ, pos, neg_ℤ, ◌^◌, ◌<◌, ◌≤◌, ◌<ℤ◌, List}
use Rattle.std.specs.Fmt.{decimal, signed_decimal}
use Rattle.std.specs.List.{join_with_byte}
use Rattle.std.specs.declared.option.Option.TheVariants.{Some}
use Rattle.text_words.specs.Text.{parts_of, natural, integer}

-- the parts of a text, joined by the separator, give the text back
abbrev pub PartsJoin : Type 0
PartsJoin = (separator : ℕ) (text : List ℕ) → join_with_byte separator (parts_of separator text) ≡ text

-- a number that is printed is read again
abbrev pub NaturalsReturn : Type 0
NaturalsReturn = (most n : ℕ) → 0 < most → most ≤ 18 → n < 10 ^ most → natural most (decimal n) ≡ Some n

-- a signed number that is printed is read again
abbrev pub IntegersReturn : Type 0
IntegersReturn = (most : ℕ) (z : ℤ) → 0 < most → most ≤ 18 → neg_ℤ (pos (10 ^ most)) <ℤ z → z <ℤ pos (10 ^ most)
    → integer most (signed_decimal z) ≡ Some z
