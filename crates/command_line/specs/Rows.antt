-- Command lines, worked out.
use Rattle.std.specs.Prelude.{◌≡◌, ℕ, codes, List, [], ◌∷◌, Option, Some, None}
use Rattle.clap.specs.Words.{Text}
use Rattle.command_line.specs.Job.{Job, job_of}

-- a job of these names
abbrev pub named : Text → Text → Text → ℕ → Option Job
named model script out scale = Some (record { model = model; script = script; out = out; scale = scale })

-- the three names m, s and o, with other words after them
abbrev pub mso : List Text → List Text
mso more = codes "m" ∷ codes "s" ∷ codes "o" ∷ more

-- and the job of these names
abbrev pub at_scale : ℕ → Option Job
at_scale scale = named (codes "m") (codes "s") (codes "o") scale

-- without the option the scale is 6; the option stands anywhere, as one word or two
abbrev pub ScaleAnywhere : Type 0
ScaleAnywhere = (job_of (mso []) ≡ at_scale 6)
    × (job_of (codes "--scale" ∷ codes "3" ∷ mso []) ≡ at_scale 3)
    × (job_of (codes "m" ∷ codes "--scale" ∷ codes "0" ∷ codes "s" ∷ codes "o" ∷ []) ≡ at_scale 0)
    × (job_of (mso (codes "--scale" ∷ codes "6" ∷ [])) ≡ at_scale 6)
    × (job_of (codes "m" ∷ codes "s" ∷ codes "--scale=2" ∷ codes "o" ∷ []) ≡ at_scale 2)

-- an empty word and a lone dash are names
abbrev pub NamesRead : Type 0
NamesRead = (job_of ([] ∷ codes "-" ∷ codes "o" ∷ []) ≡ named [] (codes "-") (codes "o") 6)
    × (job_of (codes "-" ∷ [] ∷ [] ∷ codes "--scale" ∷ codes "1" ∷ []) ≡ named (codes "-") [] [] 1)

-- after `--` each word is a name
abbrev pub OptionsEnded : Type 0
OptionsEnded = (job_of (codes "m" ∷ codes "--" ∷ codes "-s" ∷ codes "--scale" ∷ [])
    ≡ named (codes "m") (codes "-s") (codes "--scale") 6)
    × (job_of (codes "--scale=4" ∷ codes "--" ∷ codes "--" ∷ codes "s" ∷ codes "o" ∷ [])
    ≡ named (codes "--") (codes "s") (codes "o") 4)
    × (job_of (mso (codes "--" ∷ codes "--scale" ∷ codes "1" ∷ [])) ≡ None)

-- the number is read by its value: zeros and a plus may stand before it
abbrev pub NumbersRead : Type 0
NumbersRead = (job_of (mso (codes "--scale" ∷ codes "05" ∷ [])) ≡ at_scale 5)
    × (job_of (mso (codes "--scale=+5" ∷ [])) ≡ at_scale 5)
    × (job_of (mso (codes "--scale=-0" ∷ [])) ≡ at_scale 0)

-- it is a whole number from 0 to 6, and is there
abbrev pub NumbersRefused : Type 0
NumbersRefused = (job_of (mso (codes "--scale" ∷ codes "7" ∷ [])) ≡ None)
    × (job_of (mso (codes "--scale" ∷ codes "x" ∷ [])) ≡ None)
    × (job_of (mso (codes "--scale" ∷ [] ∷ [])) ≡ None)
    × (job_of (mso (codes "--scale" ∷ codes "-1" ∷ [])) ≡ None)
    × (job_of (mso (codes "--scale=" ∷ [])) ≡ None)
    × (job_of (mso (codes "--scale=1.0" ∷ [])) ≡ None)
    × (job_of (mso (codes "--scale" ∷ [])) ≡ None)

-- no other word begins with a dash
abbrev pub DashesRefused : Type 0
DashesRefused = (job_of (codes "m" ∷ codes "s" ∷ codes "-o" ∷ []) ≡ None)
    × (job_of (mso (codes "-s" ∷ codes "1" ∷ [])) ≡ None)
    × (job_of (mso (codes "--scales" ∷ codes "1" ∷ [])) ≡ None)
    × (job_of (mso (codes "--scal=1" ∷ [])) ≡ None)
    × (job_of (mso (codes "--help" ∷ [])) ≡ None)
    × (job_of (codes "-h" ∷ []) ≡ None)

-- there are three names, and the option comes once at most
abbrev pub CountsRefused : Type 0
CountsRefused = (job_of [] ≡ None)
    × (job_of (codes "m" ∷ codes "s" ∷ []) ≡ None)
    × (job_of (mso (codes "x" ∷ [])) ≡ None)
    × (job_of (mso (codes "--scale" ∷ codes "1" ∷ codes "--scale" ∷ codes "1" ∷ [])) ≡ None)
    × (job_of (codes "--scale=1" ∷ mso (codes "--scale=2" ∷ [])) ≡ None)
