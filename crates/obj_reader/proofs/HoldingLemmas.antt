-- Lemmas on what holds of what was read.
use Rattle.std.proofs.Common.{◌≡◌, ◌<◌, ◌≤◌, ◌+◌, ◌&&◌, ℕ, ℤ, Option, Some, None, is_some, List, [], ◌∷◌, ◌++◌}
use Rattle.std.proofs.Common.{length, ap, arith, IsTrue}
use Rattle.std.proofs.lemmas.Bool.{and_from}
use Rattle.std.proofs.lemmas.List.{length_push}
use Rattle.std.proofs.lemmas.List.Elements.{All-push}
use Rattle.std.proofs.Math.Seq.{get_or-append_seam}
use borrow.Author.Count.{below_more}
use Rattle.mesh_model.specs.Complex.{Complex}
use Rattle.mesh_model.proofs.Tables.{there-Extends, Extends-append}
use Rattle.mesh_model.specs.declared.records.VertRec.{VertRec}
use Rattle.mesh_model.specs.Valid.{is_smooth, is_in_range, is_on_grid, IsValid, IsSimple, IsSound}
use Rattle.mesh_model.specs.Table.{IsThere}
use Rattle.obj_reader.specs.Holding.{IsPlace, AreParts}
use Rattle.obj_reader.specs.declared.parts.Parts.{Parts}
use Rattle.obj_reader.specs.declared.parts.TheConstants.{MAX_TEXTURES}
use Rattle.obj_format.specs.declared.texture.Uv.{Uv}

-- a line that adds nothing
pub parts_more : (n : ℕ) (s : Parts) → AreParts n s → AreParts (n + 1) s
parts_more n s h = record {
  sound = h.sound;
  live = h.live;
  textures = h.textures;
  places = h.places;
  normals = omega (arith, h.normals);
  materials = omega (arith, h.materials);
  material = h.material;
  smooth = h.smooth;
  smooth_in_range = h.smooth_in_range;
}

-- fewer lines
pub parts_within : (n m : ℕ) (s : Parts) → n ≤ m → AreParts n s → AreParts m s
parts_within n m s less h = record {
  sound = h.sound;
  live = h.live;
  textures = h.textures;
  places = h.places;
  normals = omega (arith, h.normals);
  materials = omega (arith, h.materials);
  material = h.material;
  smooth = h.smooth;
  smooth_in_range = h.smooth_in_range;
}

-- another complex with no fewer materials, whose vertices are all there
pub parts_with_draft : (n : ℕ) (s : Parts) (c : Complex) → IsSound c → c.materials ≡ s.draft.materials
    → ((v : ℕ) → v < length c.verts → IsThere c.verts v) → AreParts n s → AreParts (n + 1) (record s { draft = c })
parts_with_draft n s c sound same live h = record {
  sound = sound;
  live = live;
  textures = h.textures;
  places = h.places;
  normals = omega (arith, h.normals);
  materials = rw same (omega (arith, h.materials));
  material = rw same h.material;
  smooth = h.smooth;
  smooth_in_range = h.smooth_in_range;
}

-- a texture item more
pub parts_with_texture : (n : ℕ) (s : Parts) (uv : Uv) → length s.textures < MAX_TEXTURES → IsPlace uv → AreParts n s
    → AreParts (n + 1) (record s { textures = s.textures ++ uv ∷ [] })
parts_with_texture n s uv room place h = record {
  sound = h.sound;
  live = h.live;
  textures = omega (arith, length_push s.textures uv);
  places = All-push IsPlace s.textures uv h.places place;
  normals = omega (arith, h.normals);
  materials = omega (arith, h.materials);
  material = h.material;
  smooth = h.smooth;
  smooth_in_range = h.smooth_in_range;
}

-- a normal more
pub parts_with_normal : (n : ℕ) (s : Parts) → AreParts n s → AreParts (n + 1) (record s { normals = s.normals + 1 })
parts_with_normal n s h = record {
  sound = h.sound;
  live = h.live;
  textures = h.textures;
  places = h.places;
  normals = omega (arith, h.normals);
  materials = omega (arith, h.materials);
  material = h.material;
  smooth = h.smooth;
  smooth_in_range = h.smooth_in_range;
}

-- another smoothing group
pub parts_with_smooth : (n : ℕ) (s : Parts) (k : ℤ) → IsTrue (is_smooth k) → IsTrue (is_in_range k) → AreParts n s
    → AreParts (n + 1) (record s { smooth = k })
parts_with_smooth n s k smooth range h = record {
  sound = h.sound;
  live = h.live;
  textures = h.textures;
  places = h.places;
  normals = omega (arith, h.normals);
  materials = omega (arith, h.materials);
  material = h.material;
  smooth = smooth;
  smooth_in_range = range;
}

-- all vertices are there, with one more
pub live_push : (verts : List (Option VertRec)) (r : VertRec) → ((v : ℕ) → v < length verts → IsThere verts v) → (v : ℕ)
    → v < length (verts ++ Some r ∷ []) → IsThere (verts ++ Some r ∷ []) v
live_push verts r live v less =
    let P : ℕ → Type 0 = λ n. IsThere (verts ++ Some r ∷ []) n in
    let old : (n : ℕ) → n < length verts → P n =
    λ n below. there-Extends verts (verts ++ Some r ∷ []) (Extends-append verts (Some r ∷ [])) n (live n below) in
    let here : P (length verts) = ap is_some (get_or-append_seam verts (Some r) [] None) in
    below_more P (length verts) old here v (omega (arith, length_push verts (Some r)))

-- a complex is sound
pub sound_of : (c : Complex) → IsValid c → IsSimple c → IsSound c
sound_of c valid simple = record { valid = valid; simple = simple }

-- a point is on the grid
pub on_grid : (x y z : ℤ) → IsTrue (is_in_range x) → IsTrue (is_in_range y) → IsTrue (is_in_range z)
    → IsTrue (is_on_grid (record { x = x; y = y; z = z }))
on_grid x y z a b c = and_from (is_in_range x) (is_in_range y && is_in_range z) a
    (and_from (is_in_range y) (is_in_range z) b c)
