-- A text that is read on from what was read before it.
use Rattle.std.proofs.Common.{◌≡◌, ◌≤◌, ◌+◌, ◌∙◌, ◌==◌, ℕ, false, Bool, cond, List, [], ◌∷◌, ◌++◌, length}
use Rattle.std.proofs.Common.{refl, sym, ap, Some, None, Result, Ok, Err}
use Rattle.std.proofs.lemmas.Bool.{le-ltb}
use Rattle.std.proofs.lemmas.List.{append_assoc, append-nil}
use Rattle.std.proofs.lemmas.List.Splits.{slice_split_at}
use Rattle.text_words.specs.Text.{lines, words}
use Rattle.text_words.specs.Outcome.{◌>>=◌, steps}
use Rattle.mesh_model.specs.Complex.{Complex}
use Rattle.obj_format.specs.declared.obj_fault.ObjWhy.{ObjWhy}
use Rattle.obj_format.specs.declared.obj_fault.ObjWhy.TheVariants.{NotText, TooLarge}
use Rattle.obj_format.specs.declared.obj_fault.ObjRefusal.{ObjRefusal}
use Rattle.obj_format.specs.declared.lines.Line.{Line}
use Rattle.obj_format.specs.Lines.{begins_comment, shut, joined}
use Rattle.obj_reader.specs.declared.parts.Parts.{Parts}
use Rattle.obj_reader.specs.declared.physical.Progress.{Progress}
use Rattle.obj_reader.specs.Statements.{statement, line_adds}
use Rattle.obj_reader.specs.Obj.{nothing, numbered, line_read, model_of, read_text}
use Rattle.obj_reader.specs.Progress.{start, read_up_to, taken, step, end_of}
use Rattle.obj_reader.proofs.ProgressLemmas.{steps_read}
use Rattle.obj_text.proofs.PlainLemmas.{bare_same, no_slash, no_zero, no_feed, IsLine, IsPlain, ArePlain, spaced, tail}
use Rattle.obj_text.proofs.PlainLemmas.{tail_is, words_line, words_spaced}

-- between two lines
abbrev pub between : ℕ → Parts → Progress
between n s = record { number = n; begun = None; parts = s }

-- a text takes what was read to what is read then, whatever its first line's number is and whatever follows
abbrev pub Runs : ℕ → List ℕ → Parts → Parts → Type 0
Runs scale t s u = (n : ℕ) (rest : List ℕ) → (m : ℕ)
    × (steps (step scale) (between n s) (lines (t ++ rest)) ≡ steps (step scale) (between m u) (lines rest))

pub runs_none : (scale : ℕ) (s : Parts) → Runs scale [] s s
runs_none scale s = λ n rest. (n, refl)

pub runs_then : (scale : ℕ) (t u : List ℕ) (a b c : Parts) → Runs scale t a b → Runs scale u b c → Runs scale (t ++ u) a c
runs_then scale t u a b c first second = λ n rest.
    let one = first n (u ++ rest) in
    let two = second one.0 rest in
    (two.0, ap (λ (x : List ℕ). steps (step scale) (between n a) (lines x)) (append_assoc t u rest) ∙ one.1 ∙ two.1)

-- a line by itself
line_adds_it : (scale : ℕ) (w : List ℕ) (s u : Parts) → IsLine w → statement scale (words w) w s ≡ Ok u
    → line_adds scale false w s ≡ Ok u
line_adds_it scale w s u h told =
    let made : Result Parts ObjWhy = statement scale (words w) w s in
    ap (λ (b : Bool). cond b (Err NotText) made) (no_zero w h.bytes) ∙ told

step_line : (scale n : ℕ) (w : List ℕ) (s u : Parts) → IsLine w → statement scale (words w) w s ≡ Ok u
    → step scale w (between n s) ≡ Ok (between (n + 1) u)
step_line scale n w s u h told =
    let line : Line = record { number = n + 1; comment = false; text = w } in
    let begun : Result Progress ObjRefusal = Ok (record { number = n + 1; begun = Some (shut line); parts = s }) in
    ap (λ (t : List ℕ). taken scale (n + 1) (record { number = n + 1; comment = begins_comment t; text = t }) s)
    (bare_same w h.ends)
    ∙ ap (λ (c : Bool). taken scale (n + 1) (record { number = n + 1; comment = c; text = w }) s) h.begins
    ∙ ap (λ (b : Bool). cond b begun (line_read scale line s >>= read_up_to (n + 1))) (no_slash w h.ends)
    ∙ ap (λ (r : Result Parts ObjWhy). numbered (n + 1) r >>= read_up_to (n + 1)) (line_adds_it scale w s u h told)

pub runs_line : (scale : ℕ) (w : List ℕ) (s u : Parts) → IsLine w → statement scale (words w) w s ≡ Ok u
    → Runs scale (w ++ 10 ∷ []) s u
runs_line scale w s u h told = λ n rest.
    let cut : lines ((w ++ 10 ∷ []) ++ rest) ≡ w ∷ lines rest =
    ap lines (append_assoc w (10 ∷ []) rest) ∙ slice_split_at (λ (b : ℕ). b == 10) w 10 rest (no_feed w h.bytes) refl in (
      n + 1,
      ap (steps (step scale) (between n s)) cut
          ∙ ap (λ (r : Result Progress ObjRefusal). r >>= (λ p. steps (step scale) p (lines rest))) (step_line scale n w s u h told),
    )

-- a line of plain words
pub runs_words : (scale : ℕ) (w : List ℕ) (ws : List (List ℕ)) (s u : Parts) → IsPlain w → ArePlain ws
    → statement scale (w ∷ ws) (w ++ spaced ws) s ≡ Ok u → Runs scale (w ++ tail ws) s u
runs_words scale w ws s u h hs told =
    let same : w ++ tail ws ≡ (w ++ spaced ws) ++ 10 ∷ [] =
    ap (λ (t : List ℕ). w ++ t) (tail_is ws) ∙ sym (append_assoc w (spaced ws) (10 ∷ [])) in
    let said : statement scale (words (w ++ spaced ws)) (w ++ spaced ws) s ≡ Ok u =
    ap (λ (x : List (List ℕ)). statement scale x (w ++ spaced ws) s) (words_spaced w ws h hs) ∙ told in
    rw same (runs_line scale (w ++ spaced ws) s u (words_line w ws h hs) said)

-- the end of the text
ended : (scale m : ℕ) (u : Parts) → (steps (step scale) (between m u) (lines []) >>= end_of scale) ≡ Ok u
ended scale m u = refl

pub runs_read : (scale : ℕ) (t : List ℕ) (u : Parts) → Runs scale t nothing u → length t ≤ 268435456
    → read_text scale t ≡ Ok u.draft
runs_read scale t u runs short =
    let it = runs 0 [] in
    let whole : steps (step scale) start (lines t) ≡ steps (step scale) (between it.0 u) (lines []) =
    ap (λ (x : List ℕ). steps (step scale) start (lines x)) (sym (append-nil t)) ∙ it.1 in
    let all : steps (line_read scale) nothing (joined t) ≡ Ok u =
    steps_read scale t ∙ ap (λ (r : Result Progress ObjRefusal). r >>= end_of scale) whole ∙ ended scale it.0 u in
    let model : Result Complex ObjRefusal = model_of (steps (line_read scale) nothing (joined t)) in
    ap (λ (b : Bool). cond b (Err (record { line = 0; why = TooLarge })) model) (le-ltb 268435456 (length t) short)
    ∙ ap model_of all
