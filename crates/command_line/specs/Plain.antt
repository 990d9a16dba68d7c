-- Plain command lines: three words, and the option anywhere.
use Rattle.std.specs.Prelude.{◌≡◌, ◌≤◌, ◌⊎◌, ℕ, ◌==◌, ◌+◌, Bool, true, false, not, codes, List, [], ◌∷◌, ◌++◌, Some, take, drop}
use Rattle.clap.specs.Words.{Text}
use Rattle.command_line.specs.Job.{Job, job_of}

-- a word that isn't empty and doesn't begin with a dash
abbrev pub is_plain : Text → Bool
is_plain [] = false
is_plain (b ∷ bs) = not (b == 45)

-- the three names in order
abbrev pub names : Job → List Text
names job = job.model ∷ job.script ∷ job.out ∷ []

-- the option and a digit, as two words
abbrev pub two_words : ℕ → List Text
two_words n = codes "--scale" ∷ ((48 + n) ∷ []) ∷ []

-- the option and a digit, as one word
abbrev pub one_word : ℕ → List Text
one_word n = (codes "--scale=" ++ (48 + n) ∷ []) ∷ []

-- words with others put in after the first so many
abbrev pub put_in : ℕ → List Text → List Text → List Text
put_in place others words = take place words ++ (others ++ drop place words)

-- three plain names without the option, and the scale is 6
abbrev pub SpellsNames : Job → List Text → Type 0
SpellsNames job words = (words ≡ names job) × (job.scale ≡ 6)

-- the option and a digit from 0 to 6 before, between or behind the three names
abbrev pub SpellsScale : Job → List Text → Type 0
SpellsScale job words = (place : ℕ) × (place ≤ 3) × (job.scale ≤ 6)
    × ((words ≡ put_in place (two_words job.scale) (names job))
    ⊎ (words ≡ put_in place (one_word job.scale) (names job)))

-- the words spell a job plainly
pub record Spells (job : Job) (words : List Text) : Type 0 where
  pub model : is_plain job.model ≡ true
  pub script : is_plain job.script ≡ true
  pub out : is_plain job.out ≡ true
  pub spelled : SpellsNames job words ⊎ SpellsScale job words

-- such words are taken, and give the job
abbrev pub PlainWordsRead : Type 0
PlainWordsRead = (job : Job) (words : List Text) → Spells job words → job_of words ≡ Some job
