-- The Wavefront OBJ text of a complex with its libraries, places in the texture, materials and smoothing groups.
use Rattle.std.specs.Prelude.{◌≡◌, ℕ, zero, suc, ℤ, ◌+◌, pos, Bool, not, ◌&&◌, if◌then◌else◌, List, [], ◌∷◌, ◌++◌, map}
use Rattle.std.specs.Prelude.{take, codes, slice_index_or}
use Rattle.std.specs.Fmt.{decimal}
use Rattle.std.specs.Ordering.{int_eq}
use Rattle.std.specs.List.{filter, flat_map, list_all, position, zip}
use Rattle.std.specs.Option.{option_map, option_map_or}
use Rattle.std.specs.declared.option.Option.{Option}
use Rattle.std.specs.declared.option.Option.TheVariants.{None, Some}
use Rattle.mesh_model.specs.Complex.{Complex, corners_of, fixed_layers, uv_layer, material_layer, smooth_layer}
use Rattle.mesh_model.specs.Values.{same_layer, offset, number_in}
use Rattle.mesh_model.specs.declared.records.CornerRec.{CornerRec}
use Rattle.mesh_model.specs.declared.records.FaceRec.{FaceRec}
use Rattle.obj_format.specs.declared.texture.Uv.{Uv}
use Rattle.obj_writer.specs.Written.{grid_number, index, vert_lines, loose_lines}

-- ---- PLACES IN THE TEXTURE

-- 0 0
abbrev pub origin : Uv
origin = record { u = pos 0; v = pos 0 }

-- the place that two numbers of a row tell
abbrev pub place_in : ℕ → List ℤ → Uv
place_in n row = record { u = slice_index_or row n (pos 0); v = slice_index_or row (n + 1) (pos 0) }

-- where a corner lies in the texture
abbrev pub uv_of : Complex → CornerRec → Uv
uv_of c k = option_map_or (λ n. place_in (offset c.layers.corners n) k.vals)
    (position (same_layer uv_layer) c.layers.corners) origin

-- two places agree
abbrev pub same_uv : Uv → Uv → Bool
same_uv p q = int_eq p.u q.u && int_eq p.v q.v

-- the places of all corners, by rising name of their faces and then in order
abbrev pub all_places : Complex → List Uv
all_places c = map (uv_of c) (flat_map corners_of c.faces)

-- each place once, in order of first use
abbrev pub distinct : List Uv → List Uv
distinct [] = []
distinct (p ∷ ps) = p ∷ filter (λ q. not (same_uv p q)) (distinct ps)

-- the distinct places of all corners
abbrev pub places : Complex → List Uv
places c = distinct (all_places c)

-- some place isn't 0 0
abbrev pub has_places : List Uv → Bool
has_places uvs = not (list_all (same_uv origin) uvs)

-- a line `vt U V` for a place, in millionths
abbrev pub place_line : Uv → List ℕ
place_line uv = codes "vt " ++ (grid_number 6 uv.u ++ (codes " " ++ (grid_number 6 uv.v ++ codes "\n")))

-- the lines of places, if one of them isn't 0 0
abbrev pub place_lines : List Uv → List ℕ
place_lines uvs = if has_places uvs then flat_map place_line uvs else []

-- ---- FACES

-- the number of a place among places from 1, if their lines are written
abbrev pub place_number : List Uv → Uv → Option ℕ
place_number uvs uv = if has_places uvs then option_map (λ n. n + 1) (position (same_uv uv) uvs) else None

-- a corner as a word, after a space: the index of its vertex, and the number of its place
abbrev pub corner_text : ℕ → Option ℕ → List ℕ
corner_text a None = codes " " ++ decimal a
corner_text a (Some t) = codes " " ++ (decimal a ++ (codes "/" ++ decimal t))

-- the word of a corner of a complex
abbrev pub corner_word : Complex → CornerRec → List ℕ
corner_word c k = corner_text (index c k.vert.0) (place_number (places c) (uv_of c k))

-- a line `f A B C ..` or `f A/T B/U C/V ..` for a face
abbrev pub face_line : Complex → FaceRec → List ℕ
face_line c f = codes "f" ++ (flat_map (corner_word c) f.corners ++ codes "\n")

-- the material and the smoothing group of a face, 0 for none
abbrev pub numbers_of : Complex → FaceRec → ℤ × ℤ
numbers_of c f = (
  option_map_or (λ n. n) (number_in c.layers.faces material_layer f.vals) (pos 0),
  option_map_or (λ n. n) (number_in c.layers.faces smooth_layer f.vals) (pos 0),
)

-- a line of a word and a name
abbrev pub name_line : List ℕ → List ℕ → List ℕ
name_line word name = word ++ (codes " " ++ (name ++ codes "\n"))

-- the line that sets a material
abbrev pub material_line : List (List ℕ) → ℤ → List ℕ
material_line names (pos zero) = codes "usemtl\n"
material_line names (pos (suc n)) = name_line (codes "usemtl") (slice_index_or names n [])
material_line names _ = []

-- the line that sets a material, unless it is that of the face before
abbrev pub material_set : List (List ℕ) → ℤ → ℤ → List ℕ
material_set names before now = if int_eq before now then [] else material_line names now

-- the line that sets a smoothing group, unless it is that of the face before
abbrev pub smooth_set : ℤ → ℤ → List ℕ
smooth_set before now = if int_eq before now then [] else codes "s " ++ (grid_number 0 now ++ codes "\n")

-- what differs from the face before is set
abbrev pub set_lines : List (List ℕ) → ℤ × ℤ → ℤ × ℤ → List ℕ
set_lines names before now = material_set names before.0 now.0 ++ smooth_set before.1 now.1

-- the faces that are there, by rising name
abbrev pub live_faces : List (Option FaceRec) → List FaceRec
live_faces faces = flat_map in_list faces
  where
    in_list : Option FaceRec → List FaceRec
    in_list None = []
    in_list (Some f) = f ∷ []

-- the lines of a face after one with these numbers
abbrev pub face_text : Complex → (ℤ × ℤ) × FaceRec → List ℕ
face_text c f = set_lines c.materials f.0 (numbers_of c f.1) ++ face_line c f.1

-- each face with the numbers of the face before; before the first there is neither a material nor a smoothing group
abbrev pub with_before : Complex → List FaceRec → List ((ℤ × ℤ) × FaceRec)
with_before c fs = zip ((pos 0, pos 0) ∷ map (numbers_of c) fs) fs

-- the lines of the faces
abbrev pub face_texts : Complex → List ℕ
face_texts c = flat_map (face_text c) (with_before c (live_faces c.faces))

-- the lines of what stands at a face's name, after a face with these numbers
abbrev pub entry_text : Complex → ℤ × ℤ → Option FaceRec → List ℕ
entry_text c before None = []
entry_text c before (Some f) = face_text c (before, f)

-- the numbers of the last face then
abbrev pub entry_numbers : Complex → ℤ × ℤ → Option FaceRec → ℤ × ℤ
entry_numbers c before None = before
entry_numbers c before (Some f) = numbers_of c f

-- ---- THE TEXT

-- the lines of the libraries
abbrev pub library_lines : Complex → List ℕ
library_lines c = flat_map (name_line (codes "mtllib")) c.libraries

-- its libraries, vertices, places, loose edges and faces
abbrev pub text : ℕ → Complex → List ℕ
text scale c = library_lines c ++ (vert_lines scale c ++ (place_lines (places c) ++ (loose_lines c ++ face_texts c)))
