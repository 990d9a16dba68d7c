-- Indices and corners.
use Rattle.std.specs.Prelude.{ℕ, ◌-◌, ◌<◌, ◌==◌, IfSome, if◌then◌else◌, List, [], ◌∷◌, length, Option, Some, None}
use Rattle.std.specs.Prelude.{option_and_then}
use Rattle.text_words.specs.Text.{cut, up_to}
use Rattle.obj_format.specs.declared.indices.Counts.{Counts}
use Rattle.obj_format.specs.declared.indices.Corner.{Corner}

infixl 10 ◌>>=◌
-- what follows, if there is a value
abbrev ◌>>=◌ : {A B : Type 0} → Option A → (A → Option B) → Option B
o >>= f = option_and_then f o

-- the place of an item, counted from 1
abbrev pub fore : ℕ → Option ℕ
fore n = if n == 0 then None else Some (n - 1)

-- the place of an item so far back
abbrev pub back : ℕ → ℕ → Option ℕ
back count n = if n == 0 then None else Some (count - n)

-- the place, from 0, of an item among as many as were read
abbrev pub index : ℕ → List ℕ → Option ℕ
index count [] = None
index count (b ∷ ds) = if b == 45 then up_to count ds >>= back count else up_to count (b ∷ ds) >>= fore

-- `a`
abbrev pub corner_one : Counts → List ℕ → Option Corner
corner_one n a = do
  vert ← index n.verts a
  Some (record { vert = vert; texture = None })

-- `a/b`
abbrev pub corner_two : Counts → List ℕ → List ℕ → Option Corner
corner_two n a b = do
  vert ← index n.verts a
  texture ← index n.textures b
  Some (record { vert = vert; texture = Some texture })

-- `a/b/c` or `a//c`
abbrev pub corner_three : Counts → List ℕ → List ℕ → List ℕ → Option Corner
corner_three n a b c = do
  normal ← index n.normals c
  if length b == 0 then corner_one n a else corner_two n a b

-- with or without a second `/`
abbrev pub rest_cut : Counts → List ℕ → List ℕ → Option (List ℕ × List ℕ) → Option Corner
rest_cut n a rest None = corner_two n a rest
rest_cut n a rest (Some (b, c)) = corner_three n a b c

-- after the first `/`
abbrev pub corner_rest : Counts → List ℕ → List ℕ → Option Corner
corner_rest n a rest = rest_cut n a rest (cut 47 rest)

-- with or without a `/`
abbrev pub corner_cut : Counts → List ℕ → Option (List ℕ × List ℕ) → Option Corner
corner_cut n word None = corner_one n word
corner_cut n word (Some (a, rest)) = corner_rest n a rest

-- the corner of a word
abbrev pub corner : Counts → List ℕ → Option Corner
corner n word = corner_cut n word (cut 47 word)

-- the vertex and the texture item of a corner were read
pub record IsRead (n : Counts) (k : Corner) : Type 0 where
  pub vert : k.vert < n.verts
  pub texture : IfSome k.texture (λ t. t < n.textures)
