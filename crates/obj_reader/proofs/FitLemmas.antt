-- Lemmas on the limits.
use Rattle.std.proofs.Common.{◌≡◌, ◌<◌, ◌≤◌, ◌+◌, ◌∙◌, ◌&&◌, ℕ, Bool, true, false, cond, length, nat_le, nat_lt, refl}
use Rattle.std.proofs.Common.{sym, ap, arith, inl, inr, Result, Ok, Err, List, ℤ, Some}
use Rattle.std.proofs.lemmas.Bool.{le-leb, lt-leb, ltb-false, leb-false, and_cases}
use Rattle.std.proofs.lemmas.List.{length_push}
use Rattle.mesh_model.specs.Complex.{Complex, corner_sum}
use Rattle.mesh_model.specs.Making.{with_vert, with_face_told}
use Rattle.mesh_model.proofs.CornerSums.{corner_sum-push}
use Rattle.mesh_model.proofs.MadePolygons.{length-turned_corners}
use Rattle.mesh_model.proofs.WithPolygons.{polygon_face, with_face_told-in, length-corners_in}
use Rattle.mesh_model.specs.Draft.{turned}
use Rattle.mesh_model.specs.declared.draft.DraftCorner.{DraftCorner}
use Rattle.mesh_model.specs.Valid.{IsWithinLimits, IsSound}
use Rattle.mesh_model.specs.declared.limits.TheConstants.{MAX_VERTS, MAX_EDGES, MAX_FACES, MAX_CORNERS}
use Rattle.mesh_model.specs.declared.records.VertRec.{VertRec}
use Rattle.obj_format.specs.declared.obj_fault.ObjWhy.{ObjWhy}
use Rattle.obj_format.specs.declared.obj_fault.ObjWhy.TheVariants.{TooMany}
use Rattle.obj_reader.specs.declared.parts.Parts.{Parts}
use Rattle.obj_reader.specs.Holding.{FaceRoom, has_corner_room}
use Rattle.obj_reader.specs.Statements.{fits, limited}

all_four : (a b c d : Bool) → a ≡ true → b ≡ true → c ≡ true → d ≡ true → (a && (b && (c && d))) ≡ true
all_four true true true true p q r s = refl
all_four false b c d p q r s = cc
all_four true false c d p q r s = cc
all_four true true false d p q r s = cc
all_four true true true false p q r s = cc

-- a complex that is within the limits fits
pub within_fits : (c : Complex) → IsWithinLimits c → fits c ≡ true
within_fits c h =
    all_four (nat_le (length c.verts) MAX_VERTS) (nat_le (length c.edges) MAX_EDGES) (nat_le (length c.faces) MAX_FACES)
    (nat_le (corner_sum c.faces) MAX_CORNERS)
    (le-leb (length c.verts) MAX_VERTS h.verts) (le-leb (length c.edges) MAX_EDGES h.edges)
    (le-leb (length c.faces) MAX_FACES h.faces) (le-leb (corner_sum c.faces) MAX_CORNERS h.corners)

-- one vertex more
pub vert_fits : (c : Complex) (r : VertRec) → IsSound c → length c.verts < MAX_VERTS → fits (with_vert c r) ≡ true
vert_fits c r sound room = within_fits (with_vert c r) (record {
  verts = omega (arith, length_push c.verts (Some r));
  edges = sound.valid.limits.edges;
  faces = sound.valid.limits.faces;
  corners = sound.valid.limits.corners;
})

-- one vertex too many
pub vert_full : (c : Complex) (r : VertRec) → MAX_VERTS ≤ length c.verts → fits (with_vert c r) ≡ false
vert_full c r full =
    ap (λ b. b && (nat_le (length c.edges) MAX_EDGES && (nat_le (length c.faces) MAX_FACES && nat_le
    (corner_sum c.faces) MAX_CORNERS)))
    (lt-leb (length (with_vert c r).verts) MAX_VERTS (omega (arith, length_push c.verts (Some r))))

-- ---- A FACE MORE

sum-face : (c : Complex) (ks : List DraftCorner) (material smooth : ℤ)
    → corner_sum (with_face_told c ks material smooth).faces ≡ corner_sum c.faces + length ks
sum-face c ks material smooth =
    ap (λ (d : Complex). corner_sum d.faces) (with_face_told-in c ks material smooth)
    ∙ corner_sum-push c.faces (polygon_face c ks material smooth)
    ∙ ap (λ (n : ℕ). corner_sum c.faces + n) (length-corners_in c.layers.edges c.layers.corners c.edges (turned ks)
    ∙ length-turned_corners ks)

faces-face : (c : Complex) (ks : List DraftCorner) (material smooth : ℤ)
    → length (with_face_told c ks material smooth).faces ≡ length c.faces + 1
faces-face c ks material smooth = ap (λ (d : Complex). length d.faces) (with_face_told-in c ks material smooth)
    ∙ length_push c.faces (Some (polygon_face c ks material smooth))

verts-face : (c : Complex) (ks : List DraftCorner) (material smooth : ℤ)
    → (with_face_told c ks material smooth).verts ≡ c.verts
verts-face c ks material smooth = ap (λ (d : Complex). d.verts) (with_face_told-in c ks material smooth)

pub face_fits : (c : Complex) (ks : List DraftCorner) (material smooth : ℤ) → IsSound c → FaceRoom c ks
    → fits (with_face_told c ks material smooth) ≡ true
face_fits c ks material smooth sound room = within_fits (with_face_told c ks material smooth) (record {
  verts = rw (verts-face c ks material smooth) sound.valid.limits.verts;
  edges = room.edges material smooth;
  faces = omega (arith, faces-face c ks material smooth, room.faces);
  corners = omega (arith, sum-face c ks material smooth, room.corners);
})

third_false : (a b c d : Bool) → c ≡ false → (a && (b && (c && d))) ≡ false
third_false true true false d h = refl
third_false true false false d h = refl
third_false false b false d h = refl
third_false a b true d h = cc

second_false : (a b c d : Bool) → b ≡ false → (a && (b && (c && d))) ≡ false
second_false true false c d h = refl
second_false false false c d h = refl
second_false a true c d h = cc

fourth_false : (a b c d : Bool) → d ≡ false → (a && (b && (c && d))) ≡ false
fourth_false true true true false h = refl
fourth_false true true false false h = refl
fourth_false true false c false h = refl
fourth_false false b c false h = refl
fourth_false a b c true h = cc

-- too many edges, faces or corners
pub edges_over : (c : Complex) → MAX_EDGES < length c.edges → fits c ≡ false
edges_over c over = second_false (nat_le (length c.verts) MAX_VERTS) (nat_le (length c.edges) MAX_EDGES)
    (nat_le (length c.faces) MAX_FACES) (nat_le (corner_sum c.faces) MAX_CORNERS)
    (lt-leb (length c.edges) MAX_EDGES over)

faces_over : (c : Complex) → MAX_FACES < length c.faces → fits c ≡ false
faces_over c over = third_false (nat_le (length c.verts) MAX_VERTS) (nat_le (length c.edges) MAX_EDGES)
    (nat_le (length c.faces) MAX_FACES) (nat_le (corner_sum c.faces) MAX_CORNERS)
    (lt-leb (length c.faces) MAX_FACES over)

corners_over : (c : Complex) → MAX_CORNERS < corner_sum c.faces → fits c ≡ false
corners_over c over = fourth_false (nat_le (length c.verts) MAX_VERTS) (nat_le (length c.edges) MAX_EDGES)
    (nat_le (length c.faces) MAX_FACES) (nat_le (corner_sum c.faces) MAX_CORNERS)
    (lt-leb (corner_sum c.faces) MAX_CORNERS over)

pub faces_full : (c : Complex) (ks : List DraftCorner) (material smooth : ℤ) → MAX_FACES ≤ length c.faces
    → fits (with_face_told c ks material smooth) ≡ false
faces_full c ks material smooth full = faces_over (with_face_told c ks material smooth)
    (omega (arith, faces-face c ks material smooth))

pub corners_full : (c : Complex) (ks : List DraftCorner) (material smooth : ℤ)
    → MAX_CORNERS < corner_sum c.faces + length ks → fits (with_face_told c ks material smooth) ≡ false
corners_full c ks material smooth full =
    corners_over (with_face_told c ks material smooth) (omega (arith, sum-face c ks material smooth))

-- no room for the face or its corners
pub corners_left : (c : Complex) (ks : List DraftCorner) (material smooth : ℤ) → has_corner_room c (length ks) ≡ false
    → fits (with_face_told c ks material smooth) ≡ false
corners_left c ks material smooth none =
    elim (and_cases (nat_lt (length c.faces) MAX_FACES) (nat_le (corner_sum c.faces + length ks) MAX_CORNERS) none) [
      | inl e ↦ faces_full c ks material smooth (ltb-false (length c.faces) MAX_FACES e)
      | inr e ↦ corners_full c ks material smooth (leb-false (corner_sum c.faces + length ks) MAX_CORNERS e)
    ]

-- ---- WITHIN THE LIMITS OR OVER

-- a complex over a limit is refused
pub limited_over : (c : Complex) (s : Parts) → fits c ≡ false → limited c s ≡ Err TooMany
limited_over c s over = ap (λ (b : Bool). cond b (Ok (let t : Parts = record s { draft = c } in t)) (Err TooMany)) over

-- a complex within the limits is taken
pub limited_within : (c d : Complex) (s : Parts) → d ≡ c → fits c ≡ true → limited c s ≡ Ok (record s { draft = d })
limited_within c d s made within =
    ap (λ (b : Bool). cond b (Ok (let t : Parts = record s { draft = c } in t)) (Err TooMany)) within
    ∙ ap (λ (x : Complex). let t : Parts = record s { draft = x } in (let r : Result Parts ObjWhy = Ok t in r))
    (sym made)
