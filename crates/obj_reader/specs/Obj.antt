-- A Wavefront OBJ text as a complex.
use Rattle.std.specs.Prelude.{ℕ, pos, nat_lt, if◌then◌else◌, List, [], length, Result, Ok, Err}
use Rattle.text_words.specs.Outcome.{◌>>=◌, steps}
use Rattle.mesh_model.specs.Complex.{Complex, new_model}
use Rattle.obj_format.specs.declared.obj_fault.ObjWhy.{ObjWhy}
use Rattle.obj_format.specs.declared.obj_fault.ObjWhy.TheVariants.{TooLarge}
use Rattle.obj_format.specs.declared.obj_fault.ObjRefusal.{ObjRefusal}
use Rattle.obj_format.specs.declared.lines.Line.{Line}
use Rattle.obj_reader.specs.declared.parts.Parts.{Parts}
use Rattle.obj_format.specs.Lines.{joined}
use Rattle.obj_reader.specs.Statements.{line_adds}

-- nothing read yet
abbrev pub nothing : Parts
nothing = record { draft = new_model; textures = []; normals = 0; material = pos 0; smooth = pos 0 }

-- a fault with the number of its line
abbrev pub numbered : {A : Type 0} → ℕ → Result A ObjWhy → Result A ObjRefusal
numbered number (Ok a) = Ok a
numbered number (Err why) = Err (record { line = number; why = why })

-- a line after what was read before it, or its fault
abbrev pub line_read : ℕ → Line → Parts → Result Parts ObjRefusal
line_read scale l s = numbered l.number (line_adds scale l.comment l.text s)

-- the complex of what was read
abbrev pub model_of : Result Parts ObjRefusal → Result Complex ObjRefusal
model_of r = r >>= (λ s. Ok s.draft)

-- what a text reads as: its lines one after another to the first fault; one of more than 268,435,456 bytes is refused
-- as a whole
abbrev pub read_text : ℕ → List ℕ → Result Complex ObjRefusal
read_text scale text =
    if nat_lt 268435456 (length text) then Err (record { line = 0; why = TooLarge })
    else model_of (steps (line_read scale) nothing (joined text))
