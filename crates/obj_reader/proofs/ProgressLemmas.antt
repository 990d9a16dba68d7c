-- A text is what its physical lines make, one after another.
use Rattle.std.proofs.Common.{◌≡◌, ◌+◌, ◌∙◌, ℕ, true, false, Bool, cond, List, [], ◌∷◌, refl}
use Rattle.std.proofs.Common.{ap, Option, Some, None, Result, Ok, Err}
use Rattle.text_words.specs.Text.{lines}
use Rattle.text_words.specs.Outcome.{◌>>=◌, StopsAs, Gives, steps}
use Rattle.text_words.proofs.OutcomeLemmas.{stops_on, stops_same}
use Rattle.text_words.specs.declared.outcome.Stop.{Stop}
use Rattle.text_words.specs.declared.outcome.Stop.TheVariants.{Fault, NoMemory}
use Rattle.obj_format.specs.declared.obj_fault.ObjWhy.{ObjWhy}
use Rattle.obj_format.specs.declared.obj_fault.ObjRefusal.{ObjRefusal}
use Rattle.obj_format.specs.declared.lines.Line.{Line}
use Rattle.obj_reader.specs.declared.parts.Parts.{Parts}
use Rattle.obj_reader.specs.declared.physical.Progress.{Progress}
use Rattle.obj_format.specs.Lines.{is_open, shut, onto, ended, bare, joined_from, joined}
use Rattle.obj_reader.specs.Obj.{nothing, numbered, line_read, model_of}
use Rattle.obj_reader.specs.Progress.{start, read_up_to, step, end_of, stop_at}

-- what stops a line stops the text at it
pub stops_at : {A : Type 0} (e : Stop ObjWhy) (n : ℕ) (r : Result A ObjWhy) → StopsAs e r
    → StopsAs (stop_at n e) (numbered n r)
stops_at NoMemory n r h = tt
stops_at (Fault w) n r h = ap (numbered n) h

-- the first of the physical lines that are left
begin : (k : ℕ) (begun : Option Line) (l : List ℕ) (ls : List (List ℕ))
    → joined_from k begun (l ∷ ls) ≡ ended (onto (k + 1) begun (bare l)) (λ next. joined_from (k + 1) next ls)
begin k None l ls = refl
begin k (Some b) l ls = refl

abbrev at_number : ℕ → Option Line → Parts → Progress
at_number k begun s = record { number = k; begun = begun; parts = s }

-- what the rest makes, whatever is begun and read
abbrev Rest : ℕ → ℕ → List (List ℕ) → Type 0
Rest scale k ls = (next : Option Line) (t : Parts)
    → steps (line_read scale) t (joined_from k next ls) ≡ (steps (step scale) (at_number k next t) ls >>= end_of scale)

whole : (scale k : ℕ) (r : Result Parts ObjRefusal) (ls : List (List ℕ)) → Rest scale k ls
    → (r >>= (λ t. steps (line_read scale) t (joined_from k None ls)))
    ≡ (((r >>= read_up_to k) >>= (λ q. steps (step scale) q ls)) >>= end_of scale)
whole scale k (Err why) ls rest = refl
whole scale k (Ok t) ls rest = rest None t

either_way : (b : Bool) (scale k : ℕ) (line : Line) (s : Parts) (ls : List (List ℕ)) → Rest scale k ls
    → steps (line_read scale) s (cond b (joined_from k (Some (shut line)) ls) (line ∷ joined_from k None ls))
    ≡ ((cond b (Ok (at_number k (Some (shut line)) s)) (line_read scale line s >>= read_up_to k) >>=
    (λ q. steps (step scale) q ls)) >>= end_of scale)
either_way true scale k line s ls rest = rest (Some (shut line)) s
either_way false scale k line s ls rest = whole scale k (line_read scale line s) ls rest

one_left : (r : Result Parts ObjRefusal) → (r >>= (λ t. Ok t)) ≡ r
one_left (Ok t) = refl
one_left (Err w) = refl

steps_read_from : (scale k : ℕ) (ls : List (List ℕ)) → Rest scale k ls
steps_read_from scale k [] None t = refl
steps_read_from scale k [] (Some line) t = one_left (line_read scale line t)
steps_read_from scale k (l ∷ ls) next t =
    let line = onto (k + 1) next (bare l) in
    ap (steps (line_read scale) t) (begin k next l ls)
    ∙ either_way (is_open line) scale (k + 1) line t ls (steps_read_from scale (k + 1) ls)

pub steps_read : (scale : ℕ) (text : List ℕ)
    → steps (line_read scale) nothing (joined text) ≡ (steps (step scale) start (lines text) >>= end_of scale)
steps_read scale text = steps_read_from scale 0 (lines text) None nothing

-- the complex after all physical lines
pub read_done : (scale : ℕ) (text : List ℕ) (p : Progress) → steps (step scale) start (lines text) ≡ Ok p
    → model_of (steps (line_read scale) nothing (joined text)) ≡ model_of (end_of scale p)
read_done scale text p done =
    ap model_of (steps_read scale text ∙ ap (λ (r : Result Progress ObjRefusal). r >>= end_of scale) done)

-- what stops one of the physical lines stops the text
pub read_stopped : (e : Stop ObjRefusal) (scale : ℕ) (text : List ℕ)
    → StopsAs e (steps (step scale) start (lines text))
    → StopsAs e (model_of (steps (line_read scale) nothing (joined text)))
read_stopped e scale text stop =
    let all = steps (step scale) start (lines text) in
    stops_same e (model_of (all >>= end_of scale)) (model_of (steps (line_read scale) nothing (joined text)))
    (ap model_of (steps_read scale text))
    (stops_on e (all >>= end_of scale) (λ s. Ok s.draft) (stops_on e all (end_of scale) stop))

-- an equal outcome
pub gives_same : {A W : Type 0} (r : Result A (Stop W)) (want other : Result A W) → want ≡ other → Gives r other
    → Gives r want
gives_same (Ok x) want other same h = same ∙ h
gives_same (Err e) want other same h = stops_same e other want same h
