-- What holds of what was read.
use Rattle.std.specs.Prelude.{◌≡◌, ◌≢◌, ℕ, ℤ, ◌+◌, ◌<◌, ◌≤◌, ◌&&◌, Bool, false, nat_lt, nat_le, IsTrue, List, map, drop}
use Rattle.std.specs.Prelude.{length}
use Rattle.std.specs.declared.option.Option.{Option}
use Rattle.std.specs.List.{All, list_all, zip}
use Rattle.mesh_model.specs.Table.{IsThere}
use Rattle.mesh_model.specs.Complex.{Complex, corner_sum}
use Rattle.mesh_model.specs.Incidence.{sides}
use Rattle.mesh_model.specs.Making.{with_face_told}
use Rattle.mesh_model.specs.declared.draft.DraftCorner.{DraftCorner}
use Rattle.mesh_model.specs.declared.limits.TheConstants.{MAX_EDGES, MAX_FACES, MAX_CORNERS, MIN_SIDES, MAX_SIDES}
use Rattle.mesh_model.specs.declared.names.VertName.{VertName}
use Rattle.mesh_model.specs.declared.records.VertRec.{VertRec}
use Rattle.mesh_model.specs.Valid.{is_in_range, is_material, is_smooth, are_distinct, IsSound}
use Rattle.obj_format.specs.declared.indices.Corner.{Corner}
use Rattle.obj_reader.specs.declared.parts.Parts.{Parts}
use Rattle.obj_reader.specs.declared.parts.TheConstants.{MAX_TEXTURES}
use Rattle.obj_format.specs.declared.texture.Uv.{Uv}
use Rattle.obj_reader.specs.Values.{vert_of, stutters}

-- both numbers of a place in the texture are in range
abbrev pub IsPlace : Uv → Type 0
IsPlace uv = IsTrue (is_in_range uv.u && is_in_range uv.v)

-- the two vertices of a side are there, and they differ
abbrev pub IsSide : List (Option VertRec) → VertName × VertName → Type 0
IsSide verts s = IsThere verts s.0.0 × (IsThere verts s.1.0 × (s.0.0 ≢ s.1.0))

-- the sides of a polygon as it is told
abbrev pub told_sides : List DraftCorner → List (VertName × VertName)
told_sides ks = sides (map (λ (k : DraftCorner). k.vert) ks)

-- the sides of a chain: each vertex with the next
abbrev pub chain_sides : List Corner → List (VertName × VertName)
chain_sides ks = let vs = map vert_of ks in zip vs (drop 1 vs)

-- the limits on faces and corners leave room for a face of so many corners
abbrev pub has_corner_room : Complex → ℕ → Bool
has_corner_room c n = nat_lt (length c.faces) MAX_FACES && nat_le (corner_sum c.faces + n) MAX_CORNERS

-- there is room for a face on corners as they are told
pub record FaceRoom (c : Complex) (ks : List DraftCorner) : Type 0 where
  pub faces : length c.faces < MAX_FACES
  pub edges : (material smooth : ℤ) → length (with_face_told c ks material smooth).edges ≤ MAX_EDGES
  pub corners : corner_sum c.faces + length ks ≤ MAX_CORNERS

-- a complex is as another one, but for its edges
abbrev pub OnlyEdges : Complex → Complex → Type 0
OnlyEdges old new = new ≡ record old { edges = new.edges }

-- a complex is ready for a face on corners: it has the room, and the face is the same as before
pub record IsReady (old new : Complex) (ks : List DraftCorner) : Type 0 where
  pub room : FaceRoom new ks
  pub same : (material smooth : ℤ) → with_face_told new ks material smooth ≡ with_face_told old ks material smooth
  pub kept : OnlyEdges old new
  pub sound : IsSound new

-- a face can stand on corners as they are told
pub record IsPolygonTold (c : Complex) (ks : List DraftCorner) : Type 0 where
  pub least : MIN_SIDES ≤ length ks
  pub most : length ks ≤ MAX_SIDES
  pub distinct : IsTrue (are_distinct (map (λ (k : DraftCorner). k.vert) ks))
  pub there : All (λ (k : DraftCorner). IsThere c.verts k.vert.0) ks
  pub uv : All (λ (k : DraftCorner). IsTrue (list_all is_in_range k.uv)) ks

-- corners are as many as a face has, at distinct vertices
pub record IsRing (ks : List Corner) : Type 0 where
  pub least : MIN_SIDES ≤ length ks
  pub most : length ks ≤ MAX_SIDES
  pub distinct : IsTrue (are_distinct (map vert_of ks))

-- corners are two or more, and no vertex stands twice in a row
pub record IsChain (ks : List Corner) : Type 0 where
  pub least : 2 ≤ length ks
  pub moves : stutters ks ≡ false

-- after so many lines: the complex is sound, and a face may have the material, the smoothing group and the places that
-- were read
pub record AreParts (n : ℕ) (s : Parts) : Type 0 where
  pub sound : IsSound s.draft
  pub live : (v : ℕ) → v < length s.draft.verts → IsThere s.draft.verts v
  pub textures : length s.textures ≤ MAX_TEXTURES
  pub places : All IsPlace s.textures
  pub normals : s.normals ≤ n
  pub materials : length s.draft.materials ≤ n
  pub material : IsTrue (is_material s.draft s.material)
  pub smooth : IsTrue (is_smooth s.smooth)
  pub smooth_in_range : IsTrue (is_in_range s.smooth)
