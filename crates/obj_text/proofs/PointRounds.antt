-- Lines of vertices and of places are read again.
use Rattle.std.proofs.Common.{◌≡◌, ◌<◌, ◌≤◌, ◌+◌, ◌∙◌, ◌&&◌, ℕ, suc, ℤ, true, nat_le, Bool, cond, List, [], ◌∷◌, ◌++◌}
use Rattle.std.proofs.Common.{length, map, refl, ap, arith, Option, Some, None, Result, Ok, Err}
use Rattle.std.specs.Prelude.{codes, unsigned_abs}
use Rattle.std.specs.List.{flat_map}
use Rattle.std.proofs.lemmas.Bool.{and_parts, le-leb, lt-leb}
use Rattle.std.proofs.lemmas.List.{append-nil, append_assoc, length_push}
use Rattle.text_words.specs.Outcome.{◌>>=◌}
use Rattle.mesh_model.specs.Complex.{new_model}
use Rattle.mesh_model.specs.Table.{Each}
use Rattle.mesh_model.specs.Valid.{is_in_range, is_on_grid, IsVertValid}
use Rattle.mesh_model.specs.declared.limits.TheConstants.{MAX_VERTS}
use Rattle.mesh_model.specs.declared.records.Point.{Point}
use Rattle.mesh_model.specs.declared.records.VertRec.{VertRec}
use Rattle.obj_format.specs.declared.obj_fault.ObjWhy.{ObjWhy}
use Rattle.obj_format.specs.declared.obj_fault.ObjWhy.TheVariants.{TooMany}
use Rattle.obj_format.specs.declared.texture.Uv.{Uv}
use Rattle.obj_format.specs.Numbers.{number}
use Rattle.obj_reader.specs.declared.parts.Parts.{Parts}
use Rattle.obj_reader.specs.declared.parts.TheConstants.{MAX_TEXTURES}
use Rattle.obj_reader.specs.Statements.{statement, limited, with_point, with_texture}
use Rattle.obj_reader.specs.Values.{uncommented, point_of, texture_of}
use Rattle.obj_reader.specs.Obj.{nothing}
use Rattle.obj_writer.specs.Written.{grid_number, vert_line, vert_entry}
use Rattle.obj_writer.specs.Whole.{place_line}
use Rattle.obj_text.specs.Returned.{point_in}
use Rattle.obj_text.proofs.PlainLemmas.{ArePlain, spaced, plain_hash}
use Rattle.obj_text.proofs.RunLemmas.{Runs, runs_none, runs_then, runs_words}
use Rattle.obj_text.proofs.NumberRounds.{numbers_return}
use Rattle.obj_text.proofs.WordRounds.{grid_plain, in_range_small}

-- words that are written are no comments
pub uncommented_plain : (ws : List (List ℕ)) → ArePlain ws → uncommented ws ≡ ws
uncommented_plain [] h = refl
uncommented_plain (w ∷ ws) h =
    ap (λ (b : Bool). cond b [] (w ∷ uncommented ws)) (plain_hash w h.0)
    ∙ ap (λ (t : List (List ℕ)). w ∷ t) (uncommented_plain ws h.1)

-- ---- POINTS

-- the words of a point
abbrev point_words : ℕ → Point → List (List ℕ)
point_words scale p = grid_number scale p.x ∷ grid_number scale p.y ∷ grid_number scale p.z ∷ []

pub record OnGrid (p : Point) : Type 0 where
  pub x : unsigned_abs p.x ≤ 1000000000
  pub y : unsigned_abs p.y ≤ 1000000000
  pub z : unsigned_abs p.z ≤ 1000000000

pub on_grid_of : (p : Point) → is_on_grid p ≡ true → OnGrid p
on_grid_of p h =
    let first = and_parts (is_in_range p.x) (is_in_range p.y && is_in_range p.z) h in
    let rest = and_parts (is_in_range p.y) (is_in_range p.z) first.1 in
    record {
      x = in_range_small p.x first.0;
      y = in_range_small p.y rest.0;
      z = in_range_small p.z rest.1;
    }

point_plain : (scale : ℕ) (p : Point) → scale ≤ 6 → OnGrid p → ArePlain (point_words scale p)
point_plain scale p few h =
    (grid_plain scale p.x few h.x, (grid_plain scale p.y few h.y, (grid_plain scale p.z few h.z, tt)))

point_written : (scale : ℕ) (p : Point) → scale ≤ 6 → OnGrid p → point_of scale (point_words scale p) ≡ Ok p
point_written scale p few h =
    let y : Result ℤ ObjWhy = number scale (grid_number scale p.y) in
    let z : Result ℤ ObjWhy = number scale (grid_number scale p.z) in
    ap (λ (r : Result ℤ ObjWhy). r >>= (λ a. y >>= (λ b. z >>= (λ c.
    let q : Point = record { x = a; y = b; z = c } in Ok q)))) (numbers_return scale p.x few h.x)
    ∙ ap (λ (r : Result ℤ ObjWhy). r >>= (λ b. z >>= (λ c.
    let q : Point = record { x = p.x; y = b; z = c } in Ok q))) (numbers_return scale p.y few h.y)
    ∙ ap (λ (r : Result ℤ ObjWhy). r >>= (λ c.
    let q : Point = record { x = p.x; y = p.y; z = c } in Ok q)) (numbers_return scale p.z few h.z)

-- ---- VERTICES

-- a vertex as it is read
abbrev pub vert_read : Point → Option VertRec
vert_read p = let r : VertRec = record { point = p; vals = [] } in Some r

-- libraries and vertices
abbrev pub at_verts : List (List ℕ) → List (Option VertRec) → Parts
at_verts libraries verts = record nothing { draft = record new_model { libraries = libraries; verts = verts } }

-- so many vertices fit
verts_fit : (libraries : List (List ℕ)) (done : List (Option VertRec)) (p : Point) → length done < MAX_VERTS
    → limited (record new_model { libraries = libraries; verts = done ++ vert_read p ∷ [] }) (at_verts libraries done)
    ≡ Ok (at_verts libraries (done ++ vert_read p ∷ []))
verts_fit libraries done p room =
    let next : Parts = at_verts libraries (done ++ vert_read p ∷ []) in
    ap (λ (b : Bool). cond (b && true) (Ok next) (Err TooMany))
    (le-leb (length (done ++ vert_read p ∷ [])) MAX_VERTS (omega (arith, length_push done (vert_read p))))

point_said : (scale : ℕ) (libraries : List (List ℕ)) (done : List (Option VertRec)) (p : Point) → scale ≤ 6 → OnGrid p
    → length done < MAX_VERTS
    → statement scale (codes "v" ∷ point_words scale p) (codes "v" ++ spaced (point_words scale p)) (at_verts libraries done)
    ≡ Ok (at_verts libraries (done ++ vert_read p ∷ []))
point_said scale libraries done p few grid room =
    let s : Parts = at_verts libraries done in
    ap (λ (ws : List (List ℕ)). with_point scale ws s) (uncommented_plain (point_words scale p) (point_plain scale p few grid))
    ∙ ap (λ (r : Result Point ObjWhy). r >>= (λ q.
    limited (record new_model { libraries = libraries; verts = done ++ vert_read q ∷ [] }) s))
    (point_written scale p few grid)
    ∙ verts_fit libraries done p room

runs_vert : (scale : ℕ) (libraries : List (List ℕ)) (done : List (Option VertRec)) (p : Point) → scale ≤ 6 → OnGrid p
    → length done < MAX_VERTS
    → Runs scale (vert_line scale p) (at_verts libraries done) (at_verts libraries (done ++ vert_read p ∷ []))
runs_vert scale libraries done p few grid room =
    runs_words scale (codes "v") (point_words scale p) (at_verts libraries done)
    (at_verts libraries (done ++ vert_read p ∷ [])) (record { bytes = refl; some = omega arith })
    (point_plain scale p few grid) (point_said scale libraries done p few grid room)

abbrev pub AreOnGrid : List (Option VertRec) → Type 0
AreOnGrid [] = Unit {0}
AreOnGrid (None ∷ rs) = AreOnGrid rs
AreOnGrid (Some r ∷ rs) = OnGrid r.point × AreOnGrid rs

pub all_on_grid : (table : List (Option VertRec)) → Each IsVertValid table → AreOnGrid table
all_on_grid [] each = tt
all_on_grid (None ∷ rs) each = all_on_grid rs (λ n r there. each (suc n) r there)
all_on_grid (Some r ∷ rs) each = (on_grid_of r.point (each 0 r refl).point, all_on_grid rs (λ n x there. each (suc n) x there))

-- the vertices as they are read
abbrev pub verts_read : List (Option VertRec) → List (Option VertRec)
verts_read table = map vert_read (flat_map point_in table)

-- the lines of vertices
pub runs_verts : (scale : ℕ) (libraries : List (List ℕ)) (done table : List (Option VertRec)) → scale ≤ 6
    → AreOnGrid table → length done + length table ≤ MAX_VERTS
    → Runs scale (flat_map (vert_entry scale) table) (at_verts libraries done)
    (at_verts libraries (done ++ verts_read table))
runs_verts scale libraries done [] few grid room =
    rw (append-nil done) (runs_none scale (at_verts libraries done))
runs_verts scale libraries done (None ∷ rs) few grid room =
    runs_verts scale libraries done rs few grid (omega arith)
runs_verts scale libraries done (Some r ∷ rs) few grid room =
    let next : List (Option VertRec) = done ++ vert_read r.point ∷ [] in
    let rest = runs_verts scale libraries next rs few grid.1 (omega (arith, length_push done (vert_read r.point))) in
    let whole : next ++ verts_read rs ≡ done ++ vert_read r.point ∷ verts_read rs =
    append_assoc done (vert_read r.point ∷ []) (verts_read rs) in
    runs_then scale (vert_line scale r.point) (flat_map (vert_entry scale) rs) (at_verts libraries done)
    (at_verts libraries next) (at_verts libraries (done ++ vert_read r.point ∷ verts_read rs))
    (runs_vert scale libraries done r.point few grid.0 (omega arith)) (rw whole at rest)

-- ---- PLACES

abbrev place_words : Uv → List (List ℕ)
place_words uv = grid_number 6 uv.u ∷ grid_number 6 uv.v ∷ []

pub record IsSmall (uv : Uv) : Type 0 where
  pub u : unsigned_abs uv.u ≤ 1000000000
  pub v : unsigned_abs uv.v ≤ 1000000000

abbrev pub AreSmall : List Uv → Type 0
AreSmall [] = Unit {0}
AreSmall (uv ∷ uvs) = IsSmall uv × AreSmall uvs

place_plain : (uv : Uv) → IsSmall uv → ArePlain (place_words uv)
place_plain uv h = (grid_plain 6 uv.u (omega arith) h.u, (grid_plain 6 uv.v (omega arith) h.v, tt))

place_written : (uv : Uv) → IsSmall uv → texture_of (place_words uv) ≡ Ok uv
place_written uv h =
    let v : Result ℤ ObjWhy = number 6 (grid_number 6 uv.v) in
    ap (λ (r : Result ℤ ObjWhy). r >>= (λ a. v >>= (λ b. let q : Uv = record { u = a; v = b } in Ok q)))
    (numbers_return 6 uv.u (omega arith) h.u)
    ∙ ap (λ (r : Result ℤ ObjWhy). r >>= (λ b. let q : Uv = record { u = uv.u; v = b } in Ok q))
    (numbers_return 6 uv.v (omega arith) h.v)

-- what was read with these places
abbrev pub with_places : Parts → List Uv → Parts
with_places s uvs = record s { textures = uvs }

place_said : (scale : ℕ) (s : Parts) (done : List Uv) (uv : Uv) → IsSmall uv → length done < MAX_TEXTURES
    → statement scale (codes "vt" ∷ place_words uv) (codes "vt" ++ spaced (place_words uv)) (with_places s done)
    ≡ Ok (with_places s (done ++ uv ∷ []))
place_said scale s done uv small room =
    let t : Parts = with_places s done in
    let full : Bool = nat_le MAX_TEXTURES (length done) in
    ap (λ (ws : List (List ℕ)). with_texture ws t) (uncommented_plain (place_words uv) (place_plain uv small))
    ∙ ap (λ (r : Result Uv ObjWhy). r >>= (λ q. cond full (Err TooMany) (Ok (with_places s (done ++ q ∷ [])))))
    (place_written uv small)
    ∙ ap (λ (b : Bool). cond b (Err TooMany) (Ok (with_places s (done ++ uv ∷ [])))) (lt-leb MAX_TEXTURES (length done) room)

-- the lines of places
pub runs_places : (scale : ℕ) (s : Parts) (done uvs : List Uv) → AreSmall uvs
    → length done + length uvs ≤ MAX_TEXTURES
    → Runs scale (flat_map place_line uvs) (with_places s done) (with_places s (done ++ uvs))
runs_places scale s done [] small room = rw (append-nil done) (runs_none scale (with_places s done))
runs_places scale s done (uv ∷ uvs) small room =
    let next : List Uv = done ++ uv ∷ [] in
    let rest = runs_places scale s next uvs small.1 (omega (arith, length_push done uv)) in
    let whole : next ++ uvs ≡ done ++ uv ∷ uvs = append_assoc done (uv ∷ []) uvs in
    let line : Runs scale (place_line uv) (with_places s done) (with_places s next) =
    runs_words scale (codes "vt") (place_words uv) (with_places s done) (with_places s next)
    (record { bytes = refl; some = omega arith }) (place_plain uv small.0)
    (place_said scale s done uv small.0 (omega arith)) in
    runs_then scale (place_line uv) (flat_map place_line uvs) (with_places s done) (with_places s next)
    (with_places s (done ++ uv ∷ uvs)) line (rw whole at rest)
