-- Lines, words and numbers of a text.
use Rattle.std.specs.Prelude.{ℕ, ℤ, pos, neg_ℤ, ◌+◌, ◌-◌, ◌*◌, ◌^◌, ◌==◌, ◌&&◌, ◌||◌, Bool, not, nat_eq, nat_lt, nat_le, min, if◌then◌else◌, List, [], ◌∷◌, length, take, drop, position}
use Rattle.std.specs.List.{slice_split, filter, list_all}
use Rattle.std.specs.Option.{option_map}
use Rattle.std.specs.declared.option.Option.{Option}
use Rattle.std.specs.declared.option.Option.TheVariants.{None, Some}
use lib.Pointwise.{pointwise}

-- the parts of a text between the bytes that are a separator
abbrev pub parts_of : ℕ → List ℕ → List (List ℕ)
parts_of separator text = slice_split (λ b. b == separator) text

-- the bytes before the first separator and those behind it, or None where there is none
abbrev pub cut : ℕ → List ℕ → Option (List ℕ × List ℕ)
cut separator text = option_map (λ k. (take k text, drop (k + 1) text)) (position (λ b. b == separator) text)

-- the lines of a text: its parts between line feeds
abbrev pub lines : List ℕ → List (List ℕ)
lines text = parts_of 10 text

-- a blank is a space, a tab or a carriage return
abbrev pub is_blank : ℕ → Bool
is_blank b = (b == 32) || (b == 9) || (b == 13)

-- a word isn't empty
abbrev pub is_word : List ℕ → Bool
is_word part = not (length part == 0)

-- the words of a line: the parts between blanks that aren't empty
abbrev pub words : List ℕ → List (List ℕ)
words line = filter is_word (slice_split is_blank line)

-- a digit is one of the bytes from 0 to 9
abbrev pub is_digit : ℕ → Bool
is_digit b = nat_le 48 b && nat_le b 57

-- one or more digits and nothing else
abbrev pub is_numeral : List ℕ → Bool
is_numeral ds = nat_lt 0 (length ds) && list_all is_digit ds

-- 1 to so many digits and nothing else
abbrev pub are_digits : ℕ → List ℕ → Bool
are_digits most ds = nat_le (length ds) most && is_numeral ds

-- the number that digits spell: each digit times the power of ten of its place
abbrev pub value : List ℕ → ℕ
value [] = 0
value (d ∷ ds) = (d - 48) * 10 ^ length ds + value ds

-- the number that 1 to so many digits spell, or None for any other text
abbrev pub natural : ℕ → List ℕ → Option ℕ
natural most ds = if are_digits most ds then Some (value ds) else None

-- the number that digits spell, or the greatest that is wanted where it is greater, or None for any other text
abbrev pub capped : ℕ → List ℕ → Option ℕ
capped most ds = if is_numeral ds then Some (min most (value ds)) else None

-- the number that digits spell, where it is at most so great, or None for any other text
abbrev pub up_to : ℕ → List ℕ → Option ℕ
up_to most ds = if not (is_numeral ds) then None else (if nat_le (value ds) most then Some (value ds) else None)

-- the number that an optional minus and 1 to so many digits spell, or None for any other word
abbrev pub integer : ℕ → List ℕ → Option ℤ
integer most [] = None
integer most (b ∷ ds) = if b == 45 then option_map (λ n. neg_ℤ (pos n)) (natural most ds) else option_map pos
    (natural most (b ∷ ds))

-- a word is a given text
abbrev pub is_text : List ℕ → List ℕ → Bool
is_text text word = pointwise nat_eq word text
