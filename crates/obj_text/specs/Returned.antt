-- What a text keeps of a complex: vertices and faces by their ranks, edges by the ranks of their ends.
use Rattle.std.specs.Prelude.{◌≡◌, ℕ, suc, ℤ, pos, ◌≤◌, ◌<◌, ◌==◌, ◌&&◌, ◌||◌, Bool, true, not, List, [], ◌∷◌}
use Rattle.std.specs.Prelude.{length, map, take, slice_get, Result, Ok}
use Rattle.std.specs.List.{All, flat_map, list_all, list_any}
use Rattle.std.specs.declared.option.Option.{Option}
use Rattle.std.specs.declared.option.Option.TheVariants.{None, Some}
use Rattle.text_words.specs.Trims.{is_of, trimmed, skipped}
use Rattle.text_words.specs.declared.trims.ByteClass.TheVariants.{Blank, BlankOrBackslash}
use Rattle.cust_data.specs.Layers.{same_name}
use Rattle.mesh_model.specs.Table.{passes, live}
use Rattle.mesh_model.specs.Complex.{Complex}
use Rattle.mesh_model.specs.Valid.{IsSound}
use Rattle.mesh_model.specs.declared.records.Point.{Point}
use Rattle.mesh_model.specs.declared.records.VertRec.{VertRec}
use Rattle.mesh_model.specs.declared.records.EdgeRec.{EdgeRec}
use Rattle.mesh_model.specs.declared.records.CornerRec.{CornerRec}
use Rattle.mesh_model.specs.declared.records.FaceRec.{FaceRec}
use Rattle.obj_format.specs.declared.obj_fault.ObjRefusal.{ObjRefusal}
use Rattle.obj_format.specs.declared.texture.Uv.{Uv}
use Rattle.obj_format.specs.Fixed.{BeginsFixed}
use Rattle.obj_reader.specs.Obj.{read_text}
use Rattle.obj_writer.specs.Whole.{text, uv_of, numbers_of, live_faces}

-- the rank of a vertex: its place among the vertices that are there, by rising name, from 0
abbrev pub rank : Complex → ℕ → ℕ
rank c v = live (take v c.verts)

-- the point of what stands at a vertex's name
abbrev pub point_in : Option VertRec → List Point
point_in None = []
point_in (Some r) = r.point ∷ []

-- the points of the vertices that are there, by rising name
abbrev pub points : Complex → List Point
points c = flat_map point_in c.verts

-- a corner: the rank of its vertex, and where it lies in the texture
abbrev pub corner_shown : Complex → CornerRec → ℕ × Uv
corner_shown c k = (rank c k.vert.0, uv_of c k)

-- the name of a material by its number, from 1; 0 is none
abbrev pub material_name : List (List ℕ) → ℤ → Option (List ℕ)
material_name names (pos (suc n)) = slice_get names n
material_name names _ = None

-- a face as a text shows it
pub record Shown : Type 0 where
  pub corners : List (ℕ × Uv)
  pub material : Option (List ℕ)
  pub smooth : ℤ

-- a face: its corners from the first, the name of its material, and its smoothing group
abbrev pub face_shown : Complex → FaceRec → Shown
face_shown c f =
    let numbers = numbers_of c f in
    record {
      corners = map (corner_shown c) f.corners;
      material = material_name c.materials numbers.0;
      smooth = numbers.1;
    }

-- the faces that are there, by rising name
abbrev pub faces_shown : Complex → List Shown
faces_shown c = map (face_shown c) (live_faces c.faces)

-- the ends of an edge are the vertices of two ranks, in either order
abbrev pub joins_ranks : Complex → ℕ → ℕ → EdgeRec → Bool
joins_ranks c i j e =
    let a = rank c e.a.0 in
    let b = rank c e.b.0 in
    ((a == i) && (b == j)) || ((a == j) && (b == i))

-- an edge joins the vertices of two ranks
abbrev pub has_edge : Complex → ℕ → ℕ → Bool
has_edge c i j = list_any (passes (joins_ranks c i j)) c.edges

-- a complex is another one with its vertices and faces renamed by rank: the names are the ranks, and points, faces, the
-- pairs of vertices that an edge joins, and the libraries are the same
pub record IsRenamed (c d : Complex) : Type 0 where
  pub verts : live d.verts ≡ length d.verts
  pub faces_there : live d.faces ≡ length d.faces
  pub points : points d ≡ points c
  pub faces : faces_shown d ≡ faces_shown c
  pub edges : (i j : ℕ) → has_edge d i j ≡ has_edge c i j
  pub libraries : d.libraries ≡ c.libraries

-- a byte that a name may have: any but a line feed and 0
abbrev pub is_name_byte : ℕ → Bool
is_name_byte b = not (b == 10) && not (b == 0)

-- a name that a line can give: it isn't empty, begins with no blank, and ends neither with a blank nor a backslash
pub record IsName (name : List ℕ) : Type 0 where
  pub some : 0 < length name
  pub bytes : list_all is_name_byte name ≡ true
  pub begins : skipped (is_of Blank) name ≡ name
  pub ends : trimmed (is_of BlankOrBackslash) name ≡ name

-- no name stands twice
abbrev pub are_distinct : List (List ℕ) → Bool
are_distinct [] = true
are_distinct (name ∷ names) = not (list_any (same_name name) names) && are_distinct names

-- what is read of a text is a complex with its vertices and faces renamed
abbrev pub Returns : Complex → Result Complex ObjRefusal → Type 0
Returns c read = (d : Complex) × (read ≡ Ok d) × IsRenamed c d

-- what is written of a complex is read again
abbrev pub ReadWritten : Type 0
ReadWritten = (scale : ℕ) (c : Complex) → scale ≤ 6 → IsSound c → BeginsFixed c → All IsName c.materials
    → All IsName c.libraries → are_distinct c.libraries ≡ true → length (text scale c) ≤ 268435456
    → Returns c (read_text scale (text scale c))

-- the names that a text gives are names that a line can give, and no library stands twice
abbrev pub NamesGiven : Type 0
NamesGiven = (scale : ℕ) (given : List ℕ) (c : Complex) → read_text scale given ≡ Ok c
    → All IsName c.materials × (All IsName c.libraries × (are_distinct c.libraries ≡ true))
