-- Small texts, read and written by hand.
use Rattle.std.specs.Prelude.{◌≡◌, ℕ, ℤ, pos, neg_ℤ, true, false, List, [], ◌∷◌, ◌++◌, codes, map, length, Option, Some}
use Rattle.std.specs.Prelude.{None, Result, Ok, Err}
use Rattle.std.specs.Option.{option_map}
use Rattle.mesh_model.specs.Complex.{Complex, new_model, counters_of}
use Rattle.mesh_model.specs.Deleting.{without_verts}
use Rattle.mesh_model.specs.Making.{edge_between}
use Rattle.mesh_model.specs.Models.{vert, square, model}
use Rattle.mesh_model.specs.declared.records.VertRec.{VertRec}
use Rattle.mesh_model.specs.declared.records.FaceRec.{FaceRec}
use Rattle.mesh_model.specs.declared.records.CornerRec.{CornerRec}
use Rattle.text_words.specs.Outcome.{◌>>=◌}
use Rattle.obj_format.specs.Lines.{joined}
use Rattle.obj_format.specs.Numbers.{number}
use Rattle.obj_format.specs.Indices.{index, corner}
use Rattle.obj_format.specs.Names.{name_in}
use Rattle.obj_reader.specs.Obj.{read_text}
use Rattle.obj_writer.specs.Written.{grid_number}
use Rattle.obj_writer.specs.Whole.{text}
use Rattle.obj_format.specs.declared.obj_fault.ObjRefusal.{ObjRefusal}
use Rattle.obj_format.specs.declared.obj_fault.ObjWhy.{ObjWhy}
use Rattle.obj_format.specs.declared.obj_fault.ObjWhy.TheVariants.{BadNumber, OffGrid, OutOfGrid, BadIndex, TooShort}
use Rattle.obj_format.specs.declared.obj_fault.ObjWhy.TheVariants.{Repeated, UnknownWord, FreeForm, NotText}
use Rattle.obj_format.specs.declared.indices.Counts.{Counts}
use Rattle.obj_format.specs.declared.lines.Line.{Line}
use Rattle.obj_format.specs.declared.indices.Corner.{Corner}

-- a vertex at three coordinates, without values
abbrev pub point : ℤ → ℤ → ℤ → VertRec
point x y z = record { point = record { x = x; y = y; z = z }; vals = [] }

-- three points, and four lines with them, as a text
abbrev pub after_three : List ℕ → List ℕ
after_three line = codes "v 0 0 0\nv 4 0 0\nv 4 4 0\n" ++ line

-- a line is refused
abbrev pub refused : ℕ → ObjWhy → Result Complex ObjRefusal
refused line why = Err (record { line = line; why = why })

-- ---- LINES

-- a line by itself
abbrev pub line : ℕ → List ℕ → Line
line number text = record { number = number; comment = false; text = text }

-- two lines joined; carriage returns at a line's end go before its backslash is seen; a backslash at the end of the
-- text
abbrev pub LinesJoined : Type 0
LinesJoined =
    (joined (codes "v 1\\\n2\nf") ≡ line 1 (codes "v 1 2") ∷ line 3 (codes "f") ∷ [])
    × (joined (102 ∷ 92 ∷ 13 ∷ 13 ∷ 10 ∷ codes "1") ≡ line 1 (codes "f 1") ∷ [])
    × (joined (102 ∷ 92 ∷ 13 ∷ []) ≡ line 1 (codes "f") ∷ [])

-- a comment that ends in a backslash isn't joined; a joined line that begins with `#` is no comment
abbrev pub CommentsStand : Type 0
CommentsStand =
    (joined (codes " #\\\nf") ≡ record { number = 1; comment = true; text = codes " #\\" } ∷ line 2 (codes "f") ∷ [])
    × (joined (codes "\\\n# f") ≡ line 1 (codes " # f") ∷ [])

-- ---- NUMBERS

-- a sign, a point at either end, zeros past the scale, leading zeros
abbrev pub NumbersRead : Type 0
NumbersRead =
    (number 1 (codes "+1.5") ≡ Ok (pos 15))
    × (number 1 (codes "-.5") ≡ Ok (neg_ℤ (pos 5)))
    × (number 1 (codes "2.") ≡ Ok (pos 20))
    × (number 1 (codes "-0.00") ≡ Ok (pos 0))
    × (number 0 (codes "007.000") ≡ Ok (pos 7))
    × (number 6 (codes "1000") ≡ Ok (pos 1000000000))

-- no digit, a sign alone, two points, an exponent, two signs
abbrev pub NumbersMalformed : Type 0
NumbersMalformed =
    (number 1 (codes ".") ≡ Err BadNumber)
    × (number 1 (codes "-") ≡ Err BadNumber)
    × (number 1 (codes "1.2.3") ≡ Err BadNumber)
    × (number 1 (codes "1e3") ≡ Err BadNumber)
    × (number 1 (codes "+-1") ≡ Err BadNumber)

-- a digit past the scale comes before a number past the range
abbrev pub NumbersOffGrid : Type 0
NumbersOffGrid =
    (number 1 (codes "1.05") ≡ Err OffGrid)
    × (number 6 (codes "9999.0000001") ≡ Err OffGrid)
    × (number 6 (codes "1000.000001") ≡ Err OutOfGrid)
    × (number 0 (codes "-1000000001") ≡ Err OutOfGrid)

-- ---- INDICES

-- from the first and from the last of three; leading zeros are digits
abbrev pub IndicesRead : Type 0
IndicesRead =
    (index 3 (codes "1") ≡ Some 0) × (index 3 (codes "003") ≡ Some 2) × (index 3 (codes "-1") ≡ Some 2)
    × (index 3 (codes "-3") ≡ Some 0)

-- 0 with and without a minus, past the last, further back than the first, a plus, no digit
abbrev pub IndicesBad : Type 0
IndicesBad =
    (index 3 (codes "0") ≡ None) × (index 3 (codes "-0") ≡ None) × (index 3 (codes "4") ≡ None)
    × (index 3 (codes "-4") ≡ None)
    × (index 3 (codes "+1") ≡ None) × (index 3 (codes "-") ≡ None) × (index 3 [] ≡ None)

-- three vertices, two texture items and one normal
abbrev pub few : Counts
few = record { verts = 3; textures = 2; normals = 1 }

-- a corner at a vertex, with or without a texture item
abbrev pub at : ℕ → Option ℕ → Option Corner
at vert texture = Some (record { vert = vert; texture = texture })

-- the four forms
abbrev pub CornersRead : Type 0
CornersRead =
    (corner few (codes "3") ≡ at 2 None) × (corner few (codes "3/-1") ≡ at 2 (Some 1))
    × (corner few (codes "1//1") ≡ at 0 None)
    × (corner few (codes "1/2/1") ≡ at 0 (Some 1))

-- a part missing, four parts, an item that wasn't read
abbrev pub CornersBad : Type 0
CornersBad =
    (corner few (codes "1/") ≡ None) × (corner few (codes "1//") ≡ None) × (corner few (codes "/1") ≡ None)
    × (corner few (codes "1/2/") ≡ None)
    × (corner few (codes "1/2/1/1") ≡ None) × (corner few (codes "1/3") ≡ None) × (corner few (codes "1//2") ≡ None)

-- ---- NAMES

-- the rest of the line with its inner blanks, `#` included, without backslashes at the end
abbrev pub NamesRead : Type 0
NamesRead =
    (name_in (codes " usemtl  a  #b \\ ") ≡ codes "a  #b") × (name_in (codes "usemtl") ≡ [])
    × (name_in (codes "usemtl \\") ≡ [])

-- ---- MODELS

-- the square: four points, four edges, one face
abbrev pub SquareRead : Type 0
SquareRead = (read_text 0 (codes "v 0 0 0\nv 4 0 0\nv 4 4 0\nv 0 4 0\nf 1 2 3 4\n") ≡ Ok square)
    × (counters_of square ≡ record { verts = 4; edges = 4; faces = 1; corners = 4 })

-- a text without lines, and one that ends without a line feed, with colours and a comment
abbrev pub ShortRead : Type 0
ShortRead =
    (read_text 0 [] ≡ Ok new_model)
    × (read_text 1 (codes "v 1 -.2 3 1 0 .5 7 # c")
    ≡ Ok (record new_model { verts = Some (point (pos 10) (neg_ℤ (pos 2)) (pos 30)) ∷ [] }))

-- words that are skipped, and a smoothing group and a material that no face has
abbrev pub SkippedRead : Type 0
SkippedRead = read_text 0 (codes "o cube\ng a b\ns off\nusemtl red\nusemtl\nmtllib a.mtl\nmtllib a.mtl\nvn 0 0 1\n")
    ≡ Ok (record new_model { materials = codes "red" ∷ []; libraries = codes "a.mtl" ∷ [] })

-- a chain that comes back the same way makes one edge, and its ends aren't joined
abbrev pub ChainRead : Type 0
ChainRead = read_text 0 (codes "v 0 0 0\nv 4 0 0\nl 1 2 1")
    ≡ Ok (edge_between (model (point (pos 0) (pos 0) (pos 0) ∷ point (pos 4) (pos 0) (pos 0) ∷ []) []) (vert 0)
    (vert 1)).0

-- tabs and carriage returns between words
abbrev pub BlanksRead : Type 0
BlanksRead = read_text 0 (9 ∷ 118 ∷ 13 ∷ 48 ∷ 9 ∷ 48 ∷ 32 ∷ 48 ∷ 13 ∷ 10 ∷ [])
    ≡ Ok (record new_model { verts = Some (point (pos 0) (pos 0) (pos 0)) ∷ [] })

-- the numbers of a face: those of each of its corners, and its own
abbrev pub numbers_of : FaceRec → List (List ℤ) × List ℤ
numbers_of f = (map (λ (k : CornerRec). k.vals) f.corners, f.vals)

-- the numbers of the faces that a text makes
abbrev pub numbers_read : List ℕ → Result (List (Option (List (List ℤ) × List ℤ))) ObjRefusal
numbers_read text = read_text 0 text >>= (λ c. Ok (map (option_map numbers_of) c.faces))

-- two numbers
abbrev pub two : ℕ → ℕ → List ℤ
two a b = pos a ∷ pos b ∷ []

-- corners take the texture item of their index, or 0 0 where they have none; a place of one number has a second 0
abbrev pub TexturesRead : Type 0
TexturesRead =
    numbers_read (after_three (codes "vt 0.25 .5 7\nvt 1\nvn 0 0 1\nf 1/1 2/-1/1 3//1\n"))
    ≡ Ok (Some (two 250000 500000 ∷ two 1000000 0 ∷ two 0 0 ∷ [], two 0 0) ∷ [])

-- faces have the material and the smoothing group that were last set; `usemtl` without a name sets no material
abbrev pub FacesSet : Type 0
FacesSet =
    let set = λ (a b : ℕ). (let n : List (List ℤ) × List ℤ = (two 0 0 ∷ two 0 0 ∷ two 0 0 ∷ [], two a b) in Some n) in
    numbers_read (after_three (codes "f 1 2 3\nusemtl red\ns 3\nf 1 2 3\nusemtl\ns on\nf 1 2 3\n"
    ++ codes "usemtl blue\ns off\nf 1 2 3\nusemtl red\nf 1 2 3"))
    ≡ Ok (set 0 0 ∷ set 1 3 ∷ set 0 1 ∷ set 2 0 ∷ set 1 0 ∷ [])

-- the corners of chains and of points in all four forms: a chain of three edges
abbrev pub FormsRead : Type 0
FormsRead =
    (read_text 0 (after_three (codes "vt 0\nvn 0 0 1\nl 1 2/1 3//1 1/1/1\np 1 2/1 3//1 -1/-1/-1\n")) >>=
    (λ c. Ok (length c.edges))) ≡ Ok 3

-- ---- FAULTS

-- words from left to right, their count before them; a comment takes words away
abbrev pub NumberFaults : Type 0
NumberFaults =
    (read_text 0 (codes "v 1 x .5") ≡ refused 1 BadNumber)
    × (read_text 0 (codes "v 1 .5 x") ≡ refused 1 OffGrid)
    × (read_text 0 (codes "v .5 2") ≡ refused 1 BadNumber)
    × (read_text 0 (codes "v 1 2 # 3") ≡ refused 1 BadNumber)
    × (read_text 0 (codes "v 1 2 3 4 5 6 7 8") ≡ refused 1 BadNumber)
    × (read_text 0 (codes "v 1 2 3 x") ≡ refused 1 BadNumber)
    × (read_text 0 (codes "vn 0 0") ≡ refused 1 BadNumber)
    × (read_text 0 (codes "vt") ≡ refused 1 BadNumber)
    × (read_text 0 (codes "vt 0 0.0000001") ≡ refused 1 OffGrid)
    × (read_text 0 (codes "s") ≡ refused 1 BadNumber)
    × (read_text 0 (codes "s 1 2") ≡ refused 1 BadNumber)
    × (read_text 0 (codes "s 1000000001") ≡ refused 1 BadNumber)

-- a byte 0 in a comment, an unknown word, a word of free-form geometry, a joined line that begins with `#`
abbrev pub WordFaults : Type 0
WordFaults =
    (read_text 0 (35 ∷ 0 ∷ []) ≡ refused 1 NotText)
    × (read_text 0 (codes "w 1" ++ 0 ∷ []) ≡ refused 1 NotText)
    × (read_text 0 (codes "\n\nw 1") ≡ refused 3 UnknownWord)
    × (read_text 0 (codes "g\ncurv 1") ≡ refused 2 FreeForm)
    × (read_text 0 (codes "\\\n#") ≡ refused 1 UnknownWord)

-- an index before the number of corners, that before a vertex that stands twice; the number of a joined line
abbrev pub CornerFaults : Type 0
CornerFaults =
    (read_text 0 (after_three (codes "f 1 0")) ≡ refused 4 BadIndex)
    × (read_text 0 (after_three (codes "f 1 1")) ≡ refused 4 TooShort)
    × (read_text 0 (after_three (codes "f 1 2 1")) ≡ refused 4 Repeated)
    × (read_text 0 (after_three (codes "f 1 2 4\nv 0 0 0")) ≡ refused 4 BadIndex)
    × (read_text 0 (after_three (codes "f 1 2 \\\n4\nw")) ≡ refused 4 BadIndex)
    × (read_text 0 (after_three (codes "l 1")) ≡ refused 4 TooShort)
    × (read_text 0 (after_three (codes "l 1 -3")) ≡ refused 4 Repeated)
    × (read_text 0 (after_three (codes "p # 1")) ≡ refused 4 TooShort)
    × (read_text 0 (after_three (codes "p 1 4")) ≡ refused 4 BadIndex)

-- ---- WRITING

-- the square without its first vertex has three vertices and two loose edges
abbrev pub CutSquareWritten : Type 0
CutSquareWritten = text 0 (without_verts square (vert 0 ∷ [])) ≡ codes "v 4 0 0\nv 4 4 0\nv 0 4 0\nl 1 2\nl 2 3\n"

-- the square as it is written
abbrev pub SquareWritten : Type 0
SquareWritten = text 0 square ≡ codes "v 0 0 0\nv 4 0 0\nv 4 4 0\nv 0 4 0\nf 1 2 3 4\n"

-- numbers at scale 3 and at scale 0
abbrev pub NumbersWritten : Type 0
NumbersWritten = (grid_number 3 (neg_ℤ (pos 1)) ≡ codes "-0.001") × (grid_number 3 (pos 1500) ≡ codes "1.500")
    × (grid_number 3 (pos 0) ≡ codes "0.000") × (grid_number 0 (neg_ℤ (pos 25)) ≡ codes "-25")
