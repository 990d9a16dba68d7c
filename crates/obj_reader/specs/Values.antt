-- What the words of a line spell.
use Rattle.std.specs.Prelude.{ℕ, ℤ, pos, ◌==◌, ◌&&◌, ◌||◌, Bool, false, true, not, nat_lt, if◌then◌else◌, codes}
use Rattle.std.specs.Prelude.{List, [], ◌∷◌, map, length, Option, Some, None, Result, Ok, Err}
use Rattle.std.specs.List.{list_all}
use Rattle.text_words.specs.Each.{each}
use Rattle.text_words.specs.Text.{is_text, up_to}
use Rattle.text_words.specs.Outcome.{◌>>=◌, ok_or}
use Rattle.mesh_model.specs.Valid.{are_distinct}
use Rattle.mesh_model.specs.declared.limits.TheConstants.{MIN_SIDES, MAX_SIDES}
use Rattle.mesh_model.specs.declared.names.VertName.{VertName}
use Rattle.mesh_model.specs.declared.records.Point.{Point}
use Rattle.obj_format.specs.declared.obj_fault.ObjWhy.{ObjWhy}
use Rattle.obj_format.specs.declared.obj_fault.ObjWhy.TheVariants.{BadNumber, BadIndex, TooShort, TooLong, Repeated}
use Rattle.obj_format.specs.declared.indices.Counts.{Counts}
use Rattle.obj_format.specs.declared.indices.Corner.{Corner}
use Rattle.obj_format.specs.declared.texture.Uv.{Uv}
use Rattle.obj_format.specs.Lines.{is_hash_first}
use Rattle.obj_format.specs.Indices.{corner}
use Rattle.obj_format.specs.Numbers.{number, is_numeral}

-- the words before the first that begins with `#`
abbrev pub uncommented : List (List ℕ) → List (List ℕ)
uncommented [] = []
uncommented (w ∷ ws) = if is_hash_first w then [] else w ∷ uncommented ws

-- three numbers at a scale, and up to four more
abbrev pub point_of : ℕ → List (List ℕ) → Result Point ObjWhy
point_of scale (x ∷ y ∷ z ∷ more) = if nat_lt 4 (length more) then Err BadNumber else (do
  a ← number scale x
  b ← number scale y
  c ← number scale z
  if list_all is_numeral more then Ok (record { x = a; y = b; z = c }) else Err BadNumber)
point_of scale _ = Err BadNumber

-- the second number, 0 where there is none
abbrev pub second : List (List ℕ) → Result ℤ ObjWhy
second [] = Ok (pos 0)
second (v ∷ ws) = number 6 v

-- the words after the first have the form of numbers
abbrev pub third : List (List ℕ) → Bool
third [] = true
third (v ∷ ws) = list_all is_numeral ws

-- one to three numbers, in millionths whatever the scale is
abbrev pub texture_of : List (List ℕ) → Result Uv ObjWhy
texture_of [] = Err BadNumber
texture_of (x ∷ more) = if nat_lt 2 (length more) then Err BadNumber else (do
  u ← number 6 x
  v ← second more
  if third more then Ok (record { u = u; v = v }) else Err BadNumber)

-- exactly three numbers
abbrev pub is_normal : List (List ℕ) → Bool
is_normal ws = (length ws == 3) && list_all is_numeral ws

-- `off`, `on` or plain digits
abbrev pub smooth_word : List ℕ → Option ℕ
smooth_word word = if is_text (codes "off") word then Some 0 else if is_text (codes "on") word then Some 1 else up_to
    1000000000 word

-- exactly one word
abbrev pub smooth_of : List (List ℕ) → Option ℕ
smooth_of (word ∷ []) = smooth_word word
smooth_of _ = None

-- the vertex of a corner
abbrev pub vert_of : Corner → VertName
vert_of k = record { 0 = k.vert }

-- a vertex stands twice in a row
abbrev pub stutters : List Corner → Bool
stutters [] = false
stutters (k ∷ []) = false
stutters (j ∷ k ∷ ks) = (j.vert == k.vert) || stutters (k ∷ ks)

-- the corners of words, the words from left to right
abbrev pub corners_of : Counts → List (List ℕ) → Result (List Corner) ObjWhy
corners_of n ws = ok_or (each (corner n) ws) BadIndex

-- those of a face
abbrev pub ring_of : Counts → List (List ℕ) → Result (List Corner) ObjWhy
ring_of n ws = do
  ks ← corners_of n ws
  if nat_lt (length ks) MIN_SIDES then Err TooShort else if nat_lt MAX_SIDES (length ks) then Err TooLong else if not
      (are_distinct (map vert_of ks)) then Err Repeated else Ok ks

-- those of a chain of edges
abbrev pub wire_of : Counts → List (List ℕ) → Result (List Corner) ObjWhy
wire_of n ws = do
  ks ← corners_of n ws
  if nat_lt (length ks) 2 then Err TooShort else if stutters ks then Err Repeated else Ok ks

-- those of a line of points
abbrev pub dots_of : Counts → List (List ℕ) → Result (List Corner) ObjWhy
dots_of n ws = do
  ks ← corners_of n ws
  if length ks == 0 then Err TooShort else Ok ks
