-- Plain words on their way through clap's walk over the words.
use Rattle.std.proofs.Common.{◌≡◌, ◌∙◌, ◌+◌, ◌++◌, ◌==◌, ℕ, ap, ap₂, refl, sym, codes, pos, Bool, true, false, not, List, [], ◌∷◌, Option, Some, None, is_some, unwrap_or}
use Rattle.std.specs.Prelude.{fold, if◌then◌else◌}
use Rattle.std.specs.Option.{option_map_or}
use Rattle.clap.specs.Kinds.{Kinds, or_else, value_kinds}
use Rattle.clap.specs.Faults.{check_fault, defaults_fault, entered_fault, settle_fault, step_fault, turn_fault, use_fault, walk_fault}
use Rattle.clap.specs.Simple.{entered}
use Rattle.clap.specs.ValueTests.{accepts}
use Rattle.clap.specs.Walk.{Held, Walk, after_step, arg_by_id, finished, idle, is_empty, nothing_held, option, reacted, settled, value, walked}
use Rattle.clap.specs.Words.{Row, Rule, Shape, Text, built, first_of, one_of}
use Rattle.clap.specs.declared.builder.value_parser.ValueParser.TheVariants as parser
use Rattle.clap.specs.declared.error.kind.ErrorKind.TheVariants.{ValueValidation}
use Rattle.clap.proofs.OnLiterals.{clap_on_literals}
use Rattle.command_line.specs.Job.{Job, command, job_of, number, scale}
use Rattle.command_line.specs.Plain.{is_plain}

-- the command as it is built
abbrev pub top : Shape
top = (built command).top

-- a walk that waits for a name
abbrev pub at : Held → ℕ → Walk
at h p = record { held = h; waiting = idle; position = p; is_trailing = false; stopped = None }

-- a walk that waits for the number of `--scale`
abbrev pub asking : Held → ℕ → Walk
asking h p = record { held = h; waiting = option (codes "scale"); position = p; is_trailing = false; stopped = None }

-- a word takes the walk on, with no fault
pub record Passes (w : Walk) (word : Text) (next : Walk) : Type 0 where
  pub to : walked top.rules [] w word ≡ next
  pub free : turn_fault top [] w word ≡ []

-- words do, one after the other
pub PassesAll : Walk → List Text → Walk → Type 0
PassesAll w [] next = w ≡ next
PassesAll w (t ∷ ts) next = (m : Walk) × Passes w t m × PassesAll m ts next

-- no words are left
pub no_more : (w : Walk) → PassesAll w [] w
unfolding PassesAll
no_more w = refl

-- a word, and then others
pub and_then : (next : Walk) (ts : List Text) {w m : Walk} {t : Text} → Passes w t m → PassesAll m ts next
    → PassesAll w (t ∷ ts) next
unfolding PassesAll
and_then next ts {m = m} first more = (m, first, more)

all_walked : (w next : Walk) (ts : List Text) → PassesAll w ts next → fold (walked top.rules []) w ts ≡ next
unfolding PassesAll
all_walked w next [] h = h
all_walked w next (t ∷ ts) h = ap (λ (v : Walk). fold (walked top.rules []) v ts) h.1.to ∙ all_walked h.0 next ts h.2

all_free : (w next : Walk) (ts : List Text) → PassesAll w ts next → walk_fault top [] w ts ≡ []
unfolding walk_fault PassesAll
all_free w next [] h = refl
all_free w next (t ∷ ts) h =
    ap₂ or_else h.1.free (ap (λ (v : Walk). walk_fault top [] v ts) h.1.to ∙ all_free h.0 next ts h.2)

-- what is left to find fault with after the words
abbrev pub finish : Walk → Kinds
finish w = or_else (entered_fault (built command) w.stopped)
    (or_else (settle_fault top.rules top.args_override_self w.held)
    (or_else (defaults_fault (settled top.rules w.held).rows top.rules)
    (check_fault top (finished top.rules w.held) (is_some (entered (built command) w.stopped)))))

-- the job of what was found
abbrev pub job_in : Kinds → List Row → Option Job
job_in kinds rows = if is_empty kinds then Some (record {
  model = unwrap_or (first_of (codes "MODEL") rows) [];
  script = unwrap_or (first_of (codes "SCRIPT") rows) [];
  out = unwrap_or (first_of (codes "OUT") rows) [];
  scale = option_map_or number (one_of (codes "scale") rows) 6;
}) else None

-- the job of words that pass
pub job_after : (words : List Text) (end : Walk) → PassesAll (at nothing_held 1) words end
    → job_of words ≡ job_in (finish end) (finished top.rules end.held)
unfolding job_of
job_after words end h =
    let walk_is = all_walked (at nothing_held 1) end words h in
    let free = all_free (at nothing_held 1) end words h in
    ap₂ job_in (ap₂ or_else free (ap finish walk_is)) (ap (λ (w : Walk). finished top.rules w.held) walk_is)

-- what a name's word leaves held
abbrev pub held : ℕ → Text → Held → Held
held p word h = (after_step top.rules word (at h p) h value).held

not_true : (b : Bool) → not b ≡ true → b ≡ false
not_true true e = sym e
not_true false e = refl

head_walked : (h : Held) (p x : ℕ) (xs : List ℕ) → (x == 45) ≡ false
    → walked top.rules [] (at h p) (x ∷ xs) ≡ after_step top.rules (x ∷ xs) (at h p) h value
unfolding walked
head_walked h p x xs e = simp e

head_free : (h : Held) (p x : ℕ) (xs : List ℕ) → (x == 45) ≡ false
    → turn_fault top [] (at h p) (x ∷ xs) ≡ step_fault top p h value
head_free h p x xs e = simp e

-- a plain word is a name
pub name_passes : (h : Held) (p : ℕ) (word : Text) → is_plain word ≡ true
    → after_step top.rules word (at h p) h value ≡ at (held p word h) (p + 1) → step_fault top p h value ≡ []
    → Passes (at h p) word (at (held p word h) (p + 1))
name_passes h p [] plain to free = cc
name_passes h p (x ∷ xs) plain to free =
    let e = not_true (x == 45) plain in
    record { to = head_walked h p x xs e ∙ to; free = head_free h p x xs e ∙ free }

-- what is held once the option is met
abbrev pub asked : List Text → Held → Held
asked values h = record (settled top.rules h) { pending = Some (codes "scale", values) }

-- the option asks for its number
pub option_passes : (h : Held) (p : ℕ) → settle_fault top.rules top.args_override_self h ≡ []
    → Passes (at h p) (codes "--scale") (asking (asked [] h) p)
unfolding walked clap_on_literals
option_passes h p free = record { to = refl; free = ap (λ (k : Kinds). or_else k []) free }

-- a walk that waits for the number takes a plain word for it
number_walked : (h : Held) (p x : ℕ) (xs : List ℕ) → (x == 45) ≡ false
    → walked top.rules [] (asking (asked [] h) p) (x ∷ xs) ≡ at (asked ((x ∷ xs) ∷ []) h) p
unfolding walked
number_walked h p x xs e = simp e

number_free : (h : Held) (p x : ℕ) (xs : List ℕ) → (x == 45) ≡ false
    → turn_fault top [] (asking (asked [] h) p) (x ∷ xs) ≡ []
number_free h p x xs e = simp e

pub number_passes : (h : Held) (p : ℕ) (word : Text) → is_plain word ≡ true
    → Passes (asking (asked [] h) p) word (at (asked (word ∷ []) h) p)
number_passes h p [] plain = cc
number_passes h p (x ∷ xs) plain =
    let e = not_true (x == 45) plain in
    record { to = number_walked h p x xs e; free = number_free h p x xs e }

-- a number that the parser takes has no fault
pub value_free : (v : Text) → accepts false (parser.Signed (pos 0) (pos 6)) v ≡ true
    → or_else (value_kinds false (parser.Signed (pos 0) (pos 6)) v) [] ≡ []
value_free v ok = ap (λ (b : Bool). or_else (if b then [] else ValueValidation ∷ []) []) ok

-- the option as it is built
abbrev pub option_rule : Rule
option_rule = unwrap_or (arg_by_id top.rules (codes "scale")) scale

-- what is held once the option is met with its number in the same word
abbrev pub given : Text → Held → Held
given v h = reacted top.rules option_rule (v ∷ []) h

-- the option with its number in one word
pub both_pass : (h : Held) (p : ℕ) (v : Text) → settle_fault top.rules top.args_override_self h ≡ []
    → use_fault top.args_override_self option_rule (v ∷ []) (settled top.rules h).rows ≡ []
    → Passes (at h p) (codes "--scale=" ++ v) (at (given v h) p)
unfolding walked clap_on_literals
both_pass h p v settle fits =
    record { to = refl; free = ap₂ (λ (a b : Kinds). or_else (or_else a b) []) settle fits }
