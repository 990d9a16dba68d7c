-- Lines of words that are written: their bytes, and their words.
use Rattle.std.proofs.Common.{◌≡◌, ◌<◌, ◌≤◌, ◌-◌, ◌∙◌, ◌==◌, ◌&&◌, ◌||◌, ℕ, suc, true, false, not, nat_le, nat_lt, Bool}
use Rattle.std.proofs.Common.{cond, List, [], ◌∷◌, ◌++◌, length, get_or, refl, sym, ap, arith}
use Rattle.std.specs.List.{All, list_all, list_any, filter}
use Rattle.std.proofs.lemmas.Bool.{and_parts, or_parts, or_from, not-true, leb-true, ne_eqb, and_from}
use Rattle.std.proofs.lemmas.List.{append_assoc, append-nil}
use Rattle.std.proofs.lemmas.List.Folds.{list_all-append}
use Rattle.std.proofs.lemmas.List.Splits.{slice_split_at, slice_split_none}
use Rattle.mesh_model.proofs.Lists.{list_all-All}
use Rattle.text_words.specs.Text.{is_blank, is_word, words}
use Rattle.text_words.specs.Trims.{is_of, kept, trimmed, skipped}
use Rattle.text_words.specs.declared.trims.ByteClass.TheVariants.{CarriageReturn, Blank, BlankOrBackslash}
use Rattle.obj_format.specs.Lines.{is_hash_first, begins_comment, ends_in_backslash, bare}
use Rattle.obj_reader.specs.Statements.{is_zero_byte}
use Rattle.obj_text.specs.Returned.{is_name_byte}

-- ---- THE LAST BYTE

-- the last byte is neither a blank nor a backslash
abbrev pub EndsOff : List ℕ → Type 0
EndsOff [] = ⊥
EndsOff (b ∷ []) = is_of BlankOrBackslash b ≡ false
EndsOff (b ∷ c ∷ cs) = EndsOff (c ∷ cs)

third_false : (a b c d : Bool) → ((a || b || c) || d) ≡ false → c ≡ false
third_false true b c d h = cc
third_false false true c d h = cc
third_false false false true d h = cc
third_false false false false d h = refl

no_return : (b : ℕ) → is_of BlankOrBackslash b ≡ false → (b == 13) ≡ false
no_return b h = third_false (b == 32) (b == 9) (b == 13) (b == 92) h

pub bare_same : (w : List ℕ) → EndsOff w → bare w ≡ w
bare_same [] h = absurd h
bare_same (b ∷ []) h = ap (λ (t : Bool). cond t [] (b ∷ [])) (no_return b h)
bare_same (b ∷ c ∷ cs) h = ap (kept (is_of CarriageReturn) b) (bare_same (c ∷ cs) h)

last_byte : (w : List ℕ) → EndsOff w → (get_or w (length w - 1) 0 == 92) ≡ false
last_byte [] h = absurd h
last_byte (b ∷ []) h = (or_parts (is_blank b) (b == 92) h).1
last_byte (b ∷ c ∷ cs) h =
    let here : length (b ∷ c ∷ cs) - 1 ≡ suc (length cs) = omega arith in
    let before : length (c ∷ cs) - 1 ≡ length cs = omega arith in
    ap (λ (k : ℕ). get_or (b ∷ c ∷ cs) k 0 == 92) here
    ∙ sym (ap (λ (k : ℕ). get_or (c ∷ cs) k 0 == 92) before)
    ∙ last_byte (c ∷ cs) h

and_no : (a : Bool) → (a && false) ≡ false
and_no true = refl
and_no false = refl

pub no_slash : (w : List ℕ) → EndsOff w → ends_in_backslash w ≡ false
no_slash w h = ap (λ (b : Bool). nat_lt 0 (length w) && b) (last_byte w h) ∙ and_no (nat_lt 0 (length w))

pub ends_cons : (x : ℕ) (w : List ℕ) → EndsOff w → EndsOff (x ∷ w)
ends_cons x [] h = absurd h
ends_cons x (c ∷ cs) h = h

pub ends_append : (xs w : List ℕ) → EndsOff w → EndsOff (xs ++ w)
ends_append [] w h = h
ends_append (x ∷ xs) w h = ends_cons x (xs ++ w) (ends_append xs w h)

kept_one : (t : Bool) (b : ℕ) → cond t [] (b ∷ []) ≡ b ∷ [] → t ≡ false
kept_one true b h = cc
kept_one false b h = refl

kept_two : (t : Bool) (b c : ℕ) (cs : List ℕ) → cond t [] (b ∷ []) ≡ b ∷ c ∷ cs → ⊥
kept_two true b c cs h = cc
kept_two false b c cs h = cc

kept_more : (p : ℕ → Bool) (b c : ℕ) (cs t : List ℕ) → kept p b t ≡ b ∷ c ∷ cs → t ≡ c ∷ cs
kept_more p b c cs [] h = absurd (kept_two (p b) b c cs h)
kept_more p b c cs (d ∷ ds) h = cc

-- what isn't trimmed at its end
pub ends_trimmed : (w : List ℕ) → 0 < length w → trimmed (is_of BlankOrBackslash) w ≡ w → EndsOff w
ends_trimmed [] some h = absurd (omega arith)
ends_trimmed (b ∷ []) some h = kept_one (is_of BlankOrBackslash b) b h
ends_trimmed (b ∷ c ∷ cs) some h =
    ends_trimmed (c ∷ cs) (omega arith)
    (kept_more (is_of BlankOrBackslash) b c cs (trimmed (is_of BlankOrBackslash) (c ∷ cs)) h)

-- ---- BYTES OF A NAME

pub no_zero : (w : List ℕ) → list_all is_name_byte w ≡ true → list_any is_zero_byte w ≡ false
no_zero [] h = refl
no_zero (b ∷ bs) h =
    let both = and_parts (is_name_byte b) (list_all is_name_byte bs) h in
    or_from (b == 0) (list_any is_zero_byte bs)
    (not-true (b == 0) (and_parts (not (b == 10)) (not (b == 0)) both.0).1) (no_zero bs both.1)

pub no_feed : (w : List ℕ) → list_all is_name_byte w ≡ true → All (λ (b : ℕ). (b == 10) ≡ false) w
no_feed w h = λ k d less.
    let at = list_all-All is_name_byte w h k d less in
    not-true (get_or w k d == 10) (and_parts (not (get_or w k d == 10)) (not (get_or w k d == 0)) at).0

-- ---- PLAIN WORDS

-- a byte of the words that are written: 45 or more, and no backslash
abbrev pub is_plain : ℕ → Bool
is_plain b = nat_le 45 b && not (b == 92)

-- a word of plain bytes
pub record IsPlain (w : List ℕ) : Type 0 where
  pub bytes : list_all is_plain w ≡ true
  pub some : 0 < length w

abbrev pub ArePlain : List (List ℕ) → Type 0
ArePlain [] = Unit {0}
ArePlain (w ∷ ws) = IsPlain w × ArePlain ws

plain_above : (b k : ℕ) → is_plain b ≡ true → k < 45 → (b == k) ≡ false
plain_above b k plain below =
    let least : 45 ≤ b = leb-true 45 b (and_parts (nat_le 45 b) (not (b == 92)) plain).0 in
    ne_eqb b k (λ e. absurd (omega (arith, e)))

pub plain_blank : (b : ℕ) → is_plain b ≡ true → is_blank b ≡ false
plain_blank b plain =
    or_from ((b == 32) || (b == 9)) (b == 13)
    (or_from (b == 32) (b == 9) (plain_above b 32 plain (omega arith)) (plain_above b 9 plain (omega arith)))
    (plain_above b 13 plain (omega arith))

plain_name : (b : ℕ) → is_plain b ≡ true → is_name_byte b ≡ true
plain_name b plain =
    and_from (not (b == 10)) (not (b == 0)) (ap not (plain_above b 10 plain (omega arith)))
    (ap not (plain_above b 0 plain (omega arith)))

pub plain_names : (w : List ℕ) → list_all is_plain w ≡ true → list_all is_name_byte w ≡ true
plain_names [] h = refl
plain_names (b ∷ bs) h =
    let both = and_parts (is_plain b) (list_all is_plain bs) h in
    and_from (is_name_byte b) (list_all is_name_byte bs) (plain_name b both.0) (plain_names bs both.1)

plain_ends : (w : List ℕ) → list_all is_plain w ≡ true → 0 < length w → EndsOff w
plain_ends [] h some = absurd (omega arith)
plain_ends (b ∷ []) h some =
    let plain = (and_parts (is_plain b) true h).0 in
    or_from (is_blank b) (b == 92) (plain_blank b plain)
    (not-true (b == 92) (and_parts (nat_le 45 b) (not (b == 92)) plain).1)
plain_ends (b ∷ c ∷ cs) h some =
    plain_ends (c ∷ cs) (and_parts (is_plain b) (list_all is_plain (c ∷ cs)) h).1 (omega arith)

-- no word begins a comment
pub plain_hash : (w : List ℕ) → IsPlain w → is_hash_first w ≡ false
plain_hash [] h = refl
plain_hash (b ∷ bs) h = plain_above b 35 (and_parts (is_plain b) (list_all is_plain bs) h.bytes).0 (omega arith)

-- ---- A LINE OF PLAIN WORDS

-- each word after a space
abbrev pub spaced : List (List ℕ) → List ℕ
spaced [] = []
spaced (w ∷ ws) = 32 ∷ (w ++ spaced ws)

-- and a line feed behind them
abbrev pub tail : List (List ℕ) → List ℕ
tail [] = 10 ∷ []
tail (w ∷ ws) = 32 ∷ (w ++ tail ws)

pub tail_is : (ws : List (List ℕ)) → tail ws ≡ spaced ws ++ 10 ∷ []
tail_is [] = refl
tail_is (w ∷ ws) = ap (λ (t : List ℕ). 32 ∷ (w ++ t)) (tail_is ws)
    ∙ ap (λ (t : List ℕ). 32 ∷ t) (sym (append_assoc w (spaced ws) (10 ∷ [])))

no_blanks : (w : List ℕ) → list_all is_plain w ≡ true → All (λ (b : ℕ). is_blank b ≡ false) w
no_blanks w h = λ k d less. plain_blank (get_or w k d) (list_all-All is_plain w h k d less)

some_word : (w : List ℕ) → 0 < length w → is_word w ≡ true
some_word [] some = absurd (omega arith)
some_word (b ∷ bs) some = ap not (ne_eqb (length (b ∷ bs)) 0 (λ e. absurd (omega (arith, e))))

-- the words of a line whose first word is plain
pub words_first : (w rest : List ℕ) → IsPlain w → words (w ++ 32 ∷ rest) ≡ w ∷ words rest
words_first w rest h =
    ap (filter is_word) (slice_split_at is_blank w 32 rest (no_blanks w h.bytes) refl)
    ∙ ap (λ (b : Bool). cond b (w ∷ words rest) (words rest)) (some_word w h.some)

words_one : (w : List ℕ) → IsPlain w → words w ≡ w ∷ []
words_one w h =
    ap (filter is_word) (slice_split_none is_blank w (no_blanks w h.bytes))
    ∙ ap (λ (b : Bool). cond b (w ∷ []) []) (some_word w h.some)

pub words_spaced : (w : List ℕ) (ws : List (List ℕ)) → IsPlain w → ArePlain ws → words (w ++ spaced ws) ≡ w ∷ ws
words_spaced w [] h hs = ap words (append-nil w) ∙ words_one w h
words_spaced w (x ∷ xs) h hs = words_first w (x ++ spaced xs) h ∙ ap (λ (t : List (List ℕ)). w ∷ t) (words_spaced x xs hs.0 hs.1)

names_append : (xs ys : List ℕ) → list_all is_name_byte xs ≡ true → list_all is_name_byte ys ≡ true
    → list_all is_name_byte (xs ++ ys) ≡ true
names_append xs ys one two =
    list_all-append is_name_byte xs ys ∙ and_from (list_all is_name_byte xs) (list_all is_name_byte ys) one two

spaced_bytes : (w : List ℕ) (ws : List (List ℕ)) → IsPlain w → ArePlain ws → list_all is_name_byte (w ++ spaced ws) ≡ true
spaced_bytes w [] h hs = names_append w [] (plain_names w h.bytes) refl
spaced_bytes w (x ∷ xs) h hs = names_append w (32 ∷ (x ++ spaced xs)) (plain_names w h.bytes) (spaced_bytes x xs hs.0 hs.1)

spaced_ends : (w : List ℕ) (ws : List (List ℕ)) → IsPlain w → ArePlain ws → EndsOff (w ++ spaced ws)
spaced_ends w [] h hs = rw (append-nil w) (plain_ends w h.bytes h.some)
spaced_ends w (x ∷ xs) h hs =
    ends_append w (32 ∷ (x ++ spaced xs)) (ends_cons 32 (x ++ spaced xs) (spaced_ends x xs hs.0 hs.1))

-- a line that is read as it is
pub record IsLine (w : List ℕ) : Type 0 where
  pub begins : begins_comment w ≡ false
  pub bytes : list_all is_name_byte w ≡ true
  pub ends : EndsOff w

-- a line that begins with a plain word is no comment
pub plain_begins : (w rest : List ℕ) → IsPlain w → begins_comment (w ++ rest) ≡ false
plain_begins [] rest h = let none : 0 < 0 = h.some in absurd (omega arith)
plain_begins (b ∷ bs) rest h =
    let plain = (and_parts (is_plain b) (list_all is_plain bs) h.bytes).0 in
    ap (λ (t : Bool). is_hash_first (cond t (skipped (is_of Blank) (bs ++ rest)) (b ∷ (bs ++ rest)))) (plain_blank b plain)
    ∙ plain_above b 35 plain (omega arith)

pub words_line : (w : List ℕ) (ws : List (List ℕ)) → IsPlain w → ArePlain ws → IsLine (w ++ spaced ws)
words_line w ws h hs = record {
  begins = plain_begins w (spaced ws) h;
  bytes = spaced_bytes w ws h hs;
  ends = spaced_ends w ws h hs;
}
