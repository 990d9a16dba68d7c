-- The lines of a text: physical lines, joined where one ends with a backslash.
use Rattle.std.specs.Prelude.{ℕ, ◌+◌, ◌-◌, ◌==◌, ◌&&◌, Bool, false, not, nat_lt, slice_index_or, if◌then◌else◌}
use Rattle.std.specs.Prelude.{List, [], ◌∷◌, ◌++◌, length, take, Option, Some, None}
use Rattle.text_words.specs.Text.{lines}
use Rattle.text_words.specs.Trims.{is_of, trimmed, skipped}
use Rattle.text_words.specs.declared.trims.ByteClass.TheVariants.{CarriageReturn, Blank}
use Rattle.obj_format.specs.declared.lines.Line.{Line}

-- a text begins with `#`
abbrev pub is_hash_first : List ℕ → Bool
is_hash_first [] = false
is_hash_first (b ∷ bs) = b == 35

-- the first byte that is no blank is `#`
abbrev pub begins_comment : List ℕ → Bool
begins_comment text = is_hash_first (skipped (is_of Blank) text)

-- the last byte is a backslash
abbrev pub ends_in_backslash : List ℕ → Bool
ends_in_backslash text = nat_lt 0 (length text) && (slice_index_or text (length text - 1) 0 == 92)

-- a line that is joined with what follows; a comment never is
abbrev pub is_open : Line → Bool
is_open line = not line.comment && ends_in_backslash line.text

-- without its backslash
abbrev pub shut : Line → Line
shut line = record line { text = take (length line.text - 1) line.text }

-- a physical line by itself, or joined to what stands before it, with a space between
abbrev pub onto : ℕ → Option Line → List ℕ → Line
onto number None text = record { number = number; comment = begins_comment text; text = text }
onto number (Some line) text = record { number = line.number; comment = false; text = line.text ++ 32 ∷ text }

-- a line that ends here, or goes on
abbrev pub ended : Line → (Option Line → List Line) → List Line
ended line rest = if is_open line then rest (Some (shut line)) else line ∷ rest None

-- a physical line without carriage returns at its end
abbrev pub bare : List ℕ → List ℕ
bare text = trimmed (is_of CarriageReturn) text

-- the lines of the physical lines after the first k, the first of them joined to what was begun, if anything was
abbrev pub joined_from : ℕ → Option Line → List (List ℕ) → List Line
joined_from k None [] = []
joined_from k (Some line) [] = line ∷ []
joined_from k begun (l ∷ ls) = ended (onto (k + 1) begun (bare l)) (λ next. joined_from (k + 1) next ls)

-- the lines of a text
abbrev pub joined : List ℕ → List Line
joined text = joined_from 0 None (lines text)
