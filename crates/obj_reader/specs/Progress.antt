-- A text read by its physical lines, one after another.
use Rattle.std.specs.Prelude.{◌≡◌, ℕ, ◌+◌, if◌then◌else◌, List, Option, Some, None, Result, Ok}
use Rattle.text_words.specs.Text.{lines}
use Rattle.text_words.specs.Outcome.{◌>>=◌, steps}
use Rattle.text_words.specs.declared.outcome.Stop.{Stop}
use Rattle.text_words.specs.declared.outcome.Stop.TheVariants.{Fault, NoMemory}
use Rattle.obj_format.specs.declared.obj_fault.ObjWhy.{ObjWhy}
use Rattle.obj_format.specs.declared.obj_fault.ObjRefusal.{ObjRefusal}
use Rattle.obj_format.specs.declared.lines.Line.{Line}
use Rattle.obj_reader.specs.declared.parts.Parts.{Parts}
use Rattle.obj_reader.specs.declared.physical.Progress.{Progress}
use Rattle.obj_format.specs.Lines.{is_open, shut, onto, bare, joined}
use Rattle.obj_reader.specs.Obj.{nothing, line_read}

-- nothing read yet
abbrev pub start : Progress
start = record { number = 0; begun = None; parts = nothing }

-- the progress after a line that was read
abbrev pub read_up_to : ℕ → Parts → Result Progress ObjRefusal
read_up_to number s = Ok (record { number = number; begun = None; parts = s })

-- a line that goes on is begun, any other is read
abbrev pub taken : ℕ → ℕ → Line → Parts → Result Progress ObjRefusal
taken scale number line s = if is_open line then Ok (record { number = number; begun = Some (shut line); parts = s })
    else (line_read scale line s >>= read_up_to number)

-- one physical line more
abbrev pub step : ℕ → List ℕ → Progress → Result Progress ObjRefusal
step scale text p = taken scale (p.number + 1) (onto (p.number + 1) p.begun (bare text)) p.parts

-- the line that is begun is read at the end of the text
abbrev pub end_of_begun : ℕ → Option Line → Parts → Result Parts ObjRefusal
end_of_begun scale None s = Ok s
end_of_begun scale (Some line) s = line_read scale line s

-- at the end of the text
abbrev pub end_of : ℕ → Progress → Result Parts ObjRefusal
end_of scale p = end_of_begun scale p.begun p.parts

-- what stops a line stops the text, with the number of the line
abbrev pub stop_at : ℕ → Stop ObjWhy → Stop ObjRefusal
stop_at number (Fault why) = Fault (record { line = number; why = why })
stop_at number NoMemory = NoMemory

-- a text is what its physical lines make, one after another
abbrev pub StepsRead : Type 0
StepsRead = (scale : ℕ) (text : List ℕ)
    → steps (line_read scale) nothing (joined text) ≡ (steps (step scale) start (lines text) >>= end_of scale)
