-- Texts and lines that are refused because they are too long, or would pass a limit.
use Rattle.std.specs.Prelude.{◌≡◌, ℕ, ◌+◌, ◌<◌, ◌≤◌, List, [], ◌∷◌, length, drop, map, codes, Ok, Err}
use Rattle.std.specs.List.{repeat, zip}
use Rattle.mesh_model.specs.Complex.{corner_sum}
use Rattle.mesh_model.specs.Making.{edges_along}
use Rattle.mesh_model.specs.declared.limits.TheConstants.{MAX_VERTS, MAX_EDGES, MAX_FACES, MAX_CORNERS}
use Rattle.mesh_model.specs.declared.records.Point.{Point}
use Rattle.obj_format.specs.declared.obj_fault.ObjWhy.TheVariants.{TooLong, TooMany, TooLarge}
use Rattle.obj_format.specs.declared.indices.Corner.{Corner}
use Rattle.obj_reader.specs.declared.parts.Parts.{Parts}
use Rattle.obj_reader.specs.declared.parts.TheConstants.{MAX_TEXTURES}
use Rattle.obj_format.specs.declared.texture.Uv.{Uv}
use Rattle.obj_reader.specs.Obj.{read_text}
use Rattle.obj_text.specs.Rows.{few}
use Rattle.obj_reader.specs.Statements.{counts, with_point, with_texture, with_ring, with_wire}
use Rattle.obj_reader.specs.Values.{point_of, texture_of, ring_of, wire_of, vert_of}

-- a text of more than 268,435,456 bytes, whatever stands in it
abbrev pub LargeRefused : Type 0
LargeRefused = (scale : ℕ) (text : List ℕ) → 268435456 < length text
    → read_text scale text ≡ Err (record { line = 0; why = TooLarge })

-- a face of 4,097 corners, though they are all at one vertex
abbrev pub LongRefused : Type 0
LongRefused = ring_of few (repeat 4097 (codes "1" ∷ [])) ≡ Err TooLong

-- a vertex more than there may be
abbrev pub VertsRefused : Type 0
VertsRefused = (scale : ℕ) (ws : List (List ℕ)) (s : Parts) (p : Point) → point_of scale ws ≡ Ok p
    → MAX_VERTS ≤ length s.draft.verts → with_point scale ws s ≡ Err TooMany

-- a texture item more than there may be
abbrev pub TexturesRefused : Type 0
TexturesRefused = (ws : List (List ℕ)) (s : Parts) (uv : Uv) → texture_of ws ≡ Ok uv → MAX_TEXTURES ≤ length s.textures
    → with_texture ws s ≡ Err TooMany

-- a face more than there may be
abbrev pub FacesRefused : Type 0
FacesRefused = (ws : List (List ℕ)) (s : Parts) (ks : List Corner) → ring_of (counts s) ws ≡ Ok ks
    → MAX_FACES ≤ length s.draft.faces → with_ring ws s ≡ Err TooMany

-- a face with more corners than there may be
abbrev pub CornersRefused : Type 0
CornersRefused = (ws : List (List ℕ)) (s : Parts) (ks : List Corner) → ring_of (counts s) ws ≡ Ok ks
    → MAX_CORNERS < corner_sum s.draft.faces + length ks → with_ring ws s ≡ Err TooMany

-- a chain with more edges than there may be, those that are there counted once
abbrev pub EdgesRefused : Type 0
EdgesRefused = (ws : List (List ℕ)) (s : Parts) (ks : List Corner) → wire_of (counts s) ws ≡ Ok ks
    → MAX_EDGES < length (edges_along s.draft (let vs = map vert_of ks in zip vs (drop 1 vs))).0.edges
    → with_wire ws s ≡ Err TooMany
