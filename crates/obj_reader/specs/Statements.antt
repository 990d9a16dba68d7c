-- What a line adds to what was read before it.
use Rattle.std.specs.Prelude.{ℕ, ℤ, pos, ◌+◌, ◌==◌, ◌&&◌, Bool, not, nat_le, if◌then◌else◌, List, [], ◌∷◌}
use Rattle.std.specs.Prelude.{◌++◌, map, drop, length, Option, Some, None, Result, Ok, Err, slice_index_or}
use Rattle.std.specs.List.{list_any, zip}
use Rattle.text_words.specs.Text.{words}
use Rattle.text_words.specs.Outcome.{◌>>=◌, ok_or}
use Rattle.mesh_model.specs.Complex.{Complex, corner_sum}
use Rattle.mesh_model.specs.Making.{with_vert, vert_at_point, edges_along, with_face_told}
use Rattle.mesh_model.specs.Draft.{with_name}
use Rattle.mesh_model.specs.declared.draft.DraftCorner.{DraftCorner}
use Rattle.mesh_model.specs.declared.limits.TheConstants.{MAX_VERTS, MAX_EDGES, MAX_FACES, MAX_CORNERS}
use Rattle.obj_format.specs.declared.obj_fault.ObjWhy.{ObjWhy}
use Rattle.obj_format.specs.declared.obj_fault.ObjWhy.TheVariants.{NotText, UnknownWord, BadNumber, TooMany}
use Rattle.obj_format.specs.declared.obj_fault.ObjWhy.TheVariants as why
use Rattle.obj_format.specs.declared.indices.Counts.{Counts}
use Rattle.obj_format.specs.declared.indices.Corner.{Corner}
use Rattle.obj_reader.specs.declared.parts.Parts.{Parts}
use Rattle.obj_reader.specs.declared.parts.TheConstants.{MAX_TEXTURES}
use Rattle.obj_format.specs.declared.table.Word.{Word}
use Rattle.obj_format.specs.declared.table.Word.TheVariants.{Vertex, Texture, Normal, Ring, Wire, Points, Smooth}
use Rattle.obj_format.specs.declared.table.Word.TheVariants.{Material, Library, Skipped, FreeForm}
use Rattle.obj_format.specs.declared.texture.Uv.{Uv}
use Rattle.obj_format.specs.Names.{name_in}
use Rattle.obj_format.specs.Table.{word_of}
use Rattle.obj_reader.specs.Values.{uncommented, point_of, texture_of, is_normal, smooth_of, vert_of, ring_of, wire_of}
use Rattle.obj_reader.specs.Values.{dots_of}

-- how many items of each kind were read
abbrev pub counts : Parts → Counts
counts s = record { verts = length s.draft.verts; textures = length s.textures; normals = s.normals }

-- the next names and the live corners of a complex are within the limits
abbrev pub fits : Complex → Bool
fits c = nat_le (length c.verts) MAX_VERTS && (nat_le (length c.edges) MAX_EDGES &&
    (nat_le (length c.faces) MAX_FACES && nat_le (corner_sum c.faces) MAX_CORNERS))

-- the complex that a line would make, unless it would pass a limit
abbrev pub limited : Complex → Parts → Result Parts ObjWhy
limited c s = if fits c then Ok (record s { draft = c }) else Err TooMany

-- `v`: a vertex more
abbrev pub with_point : ℕ → List (List ℕ) → Parts → Result Parts ObjWhy
with_point scale ws s = do
  p ← point_of scale ws
  limited (with_vert s.draft (vert_at_point s.draft p)) s

-- `vt`: a texture item more
abbrev pub with_texture : List (List ℕ) → Parts → Result Parts ObjWhy
with_texture ws s = do
  uv ← texture_of ws
  if nat_le MAX_TEXTURES (length s.textures) then Err TooMany else Ok (record s { textures = s.textures ++ uv ∷ [] })

-- `vn`: the line is counted
abbrev pub with_normal : List (List ℕ) → Parts → Result Parts ObjWhy
with_normal ws s = if not (is_normal ws) then Err BadNumber else Ok (record s { normals = s.normals + 1 })

-- where a corner lies in the texture: at its texture item, or at 0 0
abbrev pub uv_at : List Uv → Option ℕ → List ℤ
uv_at textures None = pos 0 ∷ pos 0 ∷ []
uv_at textures (Some t) = let uv = slice_index_or textures t (record { u = pos 0; v = pos 0 }) in uv.u ∷ uv.v ∷ []

-- a corner as the complex is told of it
abbrev pub told : List Uv → Corner → DraftCorner
told textures k = record { vert = vert_of k; uv = uv_at textures k.texture }

-- `f`: a face more, with the material and the smoothing group that were last set
abbrev pub with_ring : List (List ℕ) → Parts → Result Parts ObjWhy
with_ring ws s = do
  ks ← ring_of (counts s) ws
  limited (with_face_told s.draft (map (told s.textures) ks) s.material s.smooth) s

-- `l`: an edge between each two neighbours, made if there is none
abbrev pub with_wire : List (List ℕ) → Parts → Result Parts ObjWhy
with_wire ws s = do
  ks ← wire_of (counts s) ws
  limited (edges_along s.draft (let vs = map vert_of ks in zip vs (drop 1 vs))).0 s

-- `p`: the indices are tried, and dropped
abbrev pub with_dots : List (List ℕ) → Parts → Result Parts ObjWhy
with_dots ws s = do
  ks ← dots_of (counts s) ws
  Ok s

-- `s`: the smoothing group of the faces that follow
abbrev pub with_smooth : List (List ℕ) → Parts → Result Parts ObjWhy
with_smooth ws s = do
  n ← ok_or (smooth_of ws) BadNumber
  Ok (record s { smooth = pos n })

-- `usemtl`: the material of the faces that follow. No name is no material; the others are numbered from 1 in order of
-- first use
abbrev pub with_material : List ℕ → Parts → Parts
with_material name s =
    if length name == 0 then record s { material = pos 0 }
    else (let named = with_name s.draft.materials name in record s
    { draft = record s.draft { materials = named.0 }; material = pos (named.1 + 1) })

-- `mtllib`: each library once, in order of first use
abbrev pub with_library : List ℕ → Parts → Parts
with_library name s = if length name == 0 then s else record s
    { draft = record s.draft { libraries = (with_name s.draft.libraries name).0 } }

-- what a line says after its first word
abbrev pub said : ℕ → Word → List (List ℕ) → List ℕ → Parts → Result Parts ObjWhy
said scale Vertex ws text s = with_point scale (uncommented ws) s
said scale Texture ws text s = with_texture (uncommented ws) s
said scale Normal ws text s = with_normal (uncommented ws) s
said scale Ring ws text s = with_ring (uncommented ws) s
said scale Wire ws text s = with_wire (uncommented ws) s
said scale Points ws text s = with_dots (uncommented ws) s
said scale Smooth ws text s = with_smooth (uncommented ws) s
said scale Material ws text s = Ok (with_material (name_in text) s)
said scale Library ws text s = Ok (with_library (name_in text) s)
said scale Skipped ws text s = Ok s
said scale FreeForm ws text s = Err why.FreeForm

-- the words of a line
abbrev pub statement : ℕ → List (List ℕ) → List ℕ → Parts → Result Parts ObjWhy
statement scale [] text s = Ok s
statement scale (w ∷ ws) text s = do
  word ← ok_or (word_of w) UnknownWord
  said scale word ws text s

-- the byte 0
abbrev pub is_zero_byte : ℕ → Bool
is_zero_byte b = b == 0

-- a line, which may be a comment; a byte 0 is tried first, in comments too
abbrev pub line_adds : ℕ → Bool → List ℕ → Parts → Result Parts ObjWhy
line_adds scale comment text s = if list_any is_zero_byte text then Err NotText else if comment then Ok s else statement
    scale (words text) text s
