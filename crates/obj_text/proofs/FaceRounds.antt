-- Lines of faces are read again.
use Rattle.std.proofs.Common.{◌≡◌, ◌<◌, ◌+◌, ◌∙◌, ◌==◌, ℕ, suc, ℤ, true, false, not, nat_lt}
use Rattle.std.proofs.Common.{Bool, cond, List, [], ◌∷◌, ◌++◌, length, map, take, drop, refl, sym, subst, ap, ap₂, arith, Option, Some}
use Rattle.std.proofs.Common.{None, Result, Ok, Err, inl, inr, ◌^◌}
use Rattle.std.specs.Prelude.{codes}
use Rattle.std.specs.List.{All, flat_map, list_all, position, zip}
use Rattle.std.specs.Option.{option_map}
use Rattle.std.proofs.lemmas.Bool.{ne_eqb, or_from, and_parts, and_from, le-ltb, not-true, or_parts, eq-eqb, true≢false}
use Rattle.std.proofs.lemmas.List.{length-map, map-append, append-nil, append_assoc, length_push}
use Rattle.text_words.specs.Outcome.{◌>>=◌, ok_or}
use Rattle.text_words.specs.Each.{each, with_first}
use Rattle.mesh_model.specs.Table.{at, IsThere, live, passes}
use Rattle.mesh_model.specs.Complex.{Complex, verts_of}
use Rattle.mesh_model.specs.Incidence.{joins, sides}
use Rattle.mesh_model.specs.Elements.{is_among}
use Rattle.mesh_model.specs.Making.{edge_between, edges_along, corner_of, corners_told, with_face, with_face_told}
use Rattle.mesh_model.specs.Valid.{IsValid, IsPolygon, is_material, are_distinct, is_along_side}
use Rattle.mesh_model.specs.declared.draft.DraftCorner.{DraftCorner}
use Rattle.mesh_model.specs.declared.limits.TheConstants.{MIN_SIDES, MAX_SIDES}
use Rattle.mesh_model.specs.declared.names.VertName.{VertName}
use Rattle.mesh_model.specs.declared.names.EdgeName.{EdgeName}
use Rattle.mesh_model.specs.declared.records.EdgeRec.{EdgeRec}
use Rattle.mesh_model.specs.declared.records.CornerRec.{CornerRec}
use Rattle.mesh_model.specs.declared.records.FaceRec.{FaceRec}
use Rattle.mesh_model.proofs.Polygons.{length-sides}
use Rattle.obj_format.specs.declared.obj_fault.ObjWhy.{ObjWhy}
use Rattle.obj_format.specs.declared.obj_fault.ObjWhy.TheVariants.{BadIndex, TooShort, TooLong, Repeated}
use Rattle.obj_format.specs.declared.indices.Corner.{Corner}
use Rattle.obj_format.specs.declared.indices.Counts.{Counts}
use Rattle.obj_format.specs.declared.texture.Uv.{Uv}
use Rattle.obj_format.specs.Indices.{corner}
use Rattle.obj_reader.specs.Statements.{counts, fits, statement, uv_at, told, with_ring}
use Rattle.obj_reader.specs.Values.{vert_of, ring_of}
use Rattle.obj_reader.proofs.FitLemmas.{limited_within}
use Rattle.obj_reader.proofs.ToldLemmas.{ring_told}
use Rattle.obj_writer.specs.Whole.{same_uv, uv_of, places, has_places, corner_text, corner_word, face_line}
use Rattle.obj_writer.specs.Whole.{numbers_of, material_set, smooth_set, set_lines, face_text}
use Rattle.obj_text.specs.Returned.{IsName, rank, joins_ranks, corner_shown}
use Rattle.obj_text.proofs.PlainLemmas.{ArePlain, spaced, tail}
use Rattle.obj_text.proofs.RunLemmas.{Runs, runs_words}
use Rattle.obj_text.proofs.WordRounds.{word_text, next_of, IsBelow, text_word, word_plain, corner_written}
use Rattle.obj_text.proofs.PointRounds.{uncommented_plain}
use Rattle.obj_text.proofs.RankLemmas.{length_read, rank_below, rank_differ}
use Rattle.obj_text.proofs.EdgeTraces.{Side, IsAt, Traces, AreSides, along_traced, pair_cases, pair_same, pair_turned}
use Rattle.obj_text.proofs.StandLemmas.{Now, parts, Stands, Goes, IsRead, corner_read, read_push, corner_total, total_push}
use Rattle.obj_text.proofs.StandLemmas.{goes_none, goes_then}
use Rattle.obj_text.proofs.SetRounds.{IsGroup, goes_material, goes_smooth}
use Rattle.obj_text.proofs.SideRounds.{along_covered, along_keeps, along, along_is, AreFew, stands_fits, verts_few}

-- ---- CORNERS

-- the places that are written
abbrev pub uvs_written : Complex → List Uv
uvs_written c = cond (has_places (places c)) (places c) []

-- where a corner's place stands among them, if any is written
abbrev pub place_of : Complex → Uv → Option ℕ
place_of c uv = cond (has_places (places c)) (position (same_uv uv) (places c)) None

number_next : (o : Option ℕ) → option_map (λ (n : ℕ). n + 1) o ≡ next_of o
number_next None = refl
number_next (Some n) = refl

number_is : (b : Bool) (o : Option ℕ) → cond b (option_map (λ (n : ℕ). n + 1) o) None ≡ next_of (cond b o None)
number_is true o = number_next o
number_is false o = refl

-- a corner's word without the space before it
abbrev pub word_of_corner : Complex → CornerRec → List ℕ
word_of_corner c k = word_text (rank c k.vert.0 + 1) (next_of (place_of c (uv_of c k)))

corner_word_is : (c : Complex) (k : CornerRec) → corner_word c k ≡ 32 ∷ word_of_corner c k
corner_word_is c k =
    ap (corner_text (rank c k.vert.0 + 1))
    (number_is (has_places (places c)) (position (same_uv (uv_of c k)) (places c)))
    ∙ text_word (rank c k.vert.0 + 1) (next_of (place_of c (uv_of c k)))

words_are : (c : Complex) (ks : List CornerRec) → flat_map (corner_word c) ks ++ codes "\n" ≡ tail (map (word_of_corner c) ks)
words_are c [] = refl
words_are c (k ∷ ks) =
    append_assoc (corner_word c k) (flat_map (corner_word c) ks) (codes "\n")
    ∙ ap₂ (λ (x y : List ℕ). x ++ y) (corner_word_is c k) (words_are c ks)

-- a corner as it is read
abbrev pub corner_given : Complex → CornerRec → Corner
corner_given c k = record { vert = rank c k.vert.0; texture = place_of c (uv_of c k) }

-- a corner that can be written: its vertex is there, and so is its place where places are written
pub record IsCornerGood (c : Complex) (k : CornerRec) : Type 0 where
  pub vert : IsThere c.verts k.vert.0
  pub place : IsBelow (length (uvs_written c)) (place_of c (uv_of c k))
  pub uv : uv_at (uvs_written c) (place_of c (uv_of c k)) ≡ (uv_of c k).u ∷ (uv_of c k).v ∷ []

abbrev pub AreCornersGood : Complex → List CornerRec → Type 0
AreCornersGood c [] = Unit {0}
AreCornersGood c (k ∷ ks) = IsCornerGood c k × AreCornersGood c ks

words_plain : (c : Complex) (ks : List CornerRec) → live c.verts < 2 ^ 63 → length (uvs_written c) < 2 ^ 63
    → AreCornersGood c ks → ArePlain (map (word_of_corner c) ks)
words_plain c [] few small good = tt
words_plain c (k ∷ ks) few small good =
    let below = rank_below c.verts k.vert.0 good.0.vert in (
      word_plain (rank c k.vert.0) (length (uvs_written c)) (place_of c (uv_of c k)) (omega arith) small good.0.place,
      words_plain c ks few small good.1,
    )

each_given : (c : Complex) (n : Counts) (ks : List CornerRec) → n.verts ≡ live c.verts → n.textures ≡ length (uvs_written c)
    → live c.verts < 2 ^ 63 → length (uvs_written c) < 2 ^ 63 → AreCornersGood c ks
    → each (corner n) (map (word_of_corner c) ks) ≡ Some (map (corner_given c) ks)
each_given c n [] verts textures few small good = refl
each_given c n (k ∷ ks) verts textures few small good =
    let below = rank_below c.verts k.vert.0 good.0.vert in
    let place : IsBelow n.textures (place_of c (uv_of c k)) = rw textures good.0.place in
    ap (λ (o : Option Corner). with_first o (each (corner n) (map (word_of_corner c) ks)))
    (corner_written n (rank c k.vert.0) (place_of c (uv_of c k)) (omega arith) (omega arith) (omega arith) place)
    ∙ ap (with_first (Some (corner_given c k))) (each_given c n ks verts textures few small good.1)

-- ---- DISTINCT VERTICES

-- the name of a vertex as it is read
abbrev pub name_read : Complex → VertName → VertName
name_read c v = record { 0 = rank c v.0 }

abbrev AreThere : Complex → List VertName → Type 0
AreThere c [] = Unit {0}
AreThere c (v ∷ vs) = IsThere c.verts v.0 × AreThere c vs

still_apart : (c : Complex) (vs : List VertName) (v : VertName) → IsThere c.verts v.0 → AreThere c vs
    → is_among vs v ≡ false → is_among (map (name_read c) vs) (name_read c v) ≡ false
still_apart c [] v here there apart = refl
still_apart c (w ∷ ws) v here there apart =
    let both = or_parts (w.0 == v.0) (is_among ws v) apart in
    or_from (rank c w.0 == rank c v.0) (is_among (map (name_read c) ws) (name_read c v))
    (ne_eqb (rank c w.0) (rank c v.0) (rank_differ c w.0 v.0 there.0 here
    (λ e. true≢false (sym (eq-eqb w.0 v.0 e) ∙ both.0))))
    (still_apart c ws v here there.1 both.1)

pub still_distinct : (c : Complex) (vs : List VertName) → AreThere c vs → are_distinct vs ≡ true
    → are_distinct (map (name_read c) vs) ≡ true
still_distinct c [] there h = refl
still_distinct c (v ∷ vs) there h =
    let both = and_parts (not (is_among vs v)) (are_distinct vs) h in
    and_from (not (is_among (map (name_read c) vs) (name_read c v))) (are_distinct (map (name_read c) vs))
    (ap not (still_apart c vs v there.0 there.1 (not-true (is_among vs v) both.0)))
    (still_distinct c vs there.1 both.1)

there_of : (c : Complex) (ks : List CornerRec) → AreCornersGood c ks → AreThere c (verts_of ks)
there_of c [] good = tt
there_of c (k ∷ ks) good = (good.0.vert, there_of c ks good.1)

given_verts : (c : Complex) (ks : List CornerRec) → map vert_of (map (corner_given c) ks) ≡ map (name_read c) (verts_of ks)
given_verts c [] = refl
given_verts c (k ∷ ks) = ap (λ (vs : List VertName). name_read c k.vert ∷ vs) (given_verts c ks)

-- ---- SIDES

abbrev pub side_read : Complex → Side → Side
side_read c s = (name_read c s.0, name_read c s.1)

zip_read : (c : Complex) (vs ws : List VertName) → zip (map (name_read c) vs) (map (name_read c) ws)
    ≡ map (side_read c) (zip vs ws)
zip_read c [] ws = refl
zip_read c (v ∷ vs) [] = refl
zip_read c (v ∷ vs) (w ∷ ws) = ap (λ (ss : List Side). side_read c (v, w) ∷ ss) (zip_read c vs ws)

turned_read : (c : Complex) (vs : List VertName) → drop 1 (map (name_read c) vs) ++ take 1 (map (name_read c) vs)
    ≡ map (name_read c) (drop 1 vs ++ take 1 vs)
turned_read c [] = refl
turned_read c (v ∷ vs) = sym (map-append (name_read c) vs (v ∷ []))

pub sides_read : (c : Complex) (vs : List VertName) → sides (map (name_read c) vs) ≡ map (side_read c) (sides vs)
sides_read c vs =
    ap (zip (map (name_read c) vs)) (turned_read c vs) ∙ zip_read c vs (drop 1 vs ++ take 1 vs)

-- an edge that joins two vertices joins their ranks
pub ranks_join : (c : Complex) (v w : VertName) (e : EdgeRec) → joins v w e ≡ true
    → joins_ranks c (rank c v.0) (rank c w.0) e ≡ true
ranks_join c v w e h =
    elim (pair_cases e.a.0 e.b.0 v.0 w.0 h) [
      | inl p ↦ pair_same (rank c e.a.0) (rank c e.b.0) (rank c v.0) (rank c w.0) (ap (rank c) p.0) (ap (rank c) p.1)
      | inr p ↦ pair_turned (rank c e.a.0) (rank c e.b.0) (rank c v.0) (rank c w.0) (ap (rank c) p.0) (ap (rank c) p.1)
    ]

-- an edge along a side
along_side : (c : Complex) (n : ℕ) (o : Option EdgeRec) (s : Side) → at c.edges n ≡ o → passes (joins s.0 s.1) o ≡ true
    → IsAt c (rank c s.0.0) (rank c s.1.0) n
along_side c n None s there h = absurd (true≢false (sym h))
along_side c n (Some e) s there h = record { edge = e; there = there; joins = ranks_join c s.0 s.1 e h }

pub zipped_sides : (c : Complex) (ks : List CornerRec) (ss : List Side) → length ks ≡ length ss
    → list_all (is_along_side c.edges) (zip ks ss) ≡ true → AreSides c (map (side_read c) ss)
zipped_sides c [] [] long h = tt
zipped_sides c [] (s ∷ ss) long h = absurd (omega arith)
zipped_sides c (k ∷ ks) [] long h = absurd (omega arith)
zipped_sides c (k ∷ ks) (s ∷ ss) long h =
    let both = and_parts (is_along_side c.edges (k, s)) (list_all (is_along_side c.edges) (zip ks ss)) h in (
      (k.edge.0, along_side c k.edge.0 (at c.edges k.edge.0) s refl both.0),
      zipped_sides c ks ss (omega arith) both.1,
    )

-- ---- A POLYGON

ring_given : (c : Complex) (w : Now) (ks : List CornerRec) → IsValid c → length (uvs_written c) < 2 ^ 63
    → AreCornersGood c ks → IsPolygon c.edges ks
    → ring_of (counts (parts c (uvs_written c) w)) (map (word_of_corner c) ks) ≡ Ok (map (corner_given c) ks)
ring_given c w ks valid small good polygon =
    let n = counts (parts c (uvs_written c) w) in
    let js = map (corner_given c) ks in
    let long : length js ≡ length ks = length-map ks (corner_given c) in
    let last : Result (List Corner) ObjWhy = cond (not (are_distinct (map vert_of js))) (Err Repeated) (Ok js) in
    let apart : are_distinct (map vert_of js) ≡ true =
    ap are_distinct (given_verts c ks) ∙ still_distinct c (verts_of ks) (there_of c ks good) polygon.distinct in
    ap (λ (o : Option (List Corner)). ok_or o BadIndex >>= (λ xs. cond (nat_lt (length xs) MIN_SIDES) (Err TooShort)
    (cond (nat_lt MAX_SIDES (length xs)) (Err TooLong) (cond (not (are_distinct (map vert_of xs))) (Err Repeated) (Ok xs)))))
    (each_given c n ks (length_read c.verts) refl (verts_few c valid) small good)
    ∙ ap (λ (b : Bool). cond b (Err TooShort) (cond (nat_lt MAX_SIDES (length js)) (Err TooLong) last))
    (le-ltb (length js) MIN_SIDES (omega (arith, long, polygon.least)))
    ∙ ap (λ (b : Bool). cond b (Err TooLong) last) (le-ltb MAX_SIDES (length js) (omega (arith, long, polygon.most)))
    ∙ ap (λ (b : Bool). cond (not b) (Err Repeated) (Ok js)) apart

-- a corner as the complex is told of it
abbrev pub corner_told : Complex → CornerRec → DraftCorner
corner_told c k = record { vert = name_read c k.vert; uv = (uv_of c k).u ∷ (uv_of c k).v ∷ [] }

told_are : (c : Complex) (ks : List CornerRec) → AreCornersGood c ks
    → map (told (uvs_written c)) (map (corner_given c) ks) ≡ map (corner_told c) ks
told_are c [] good = refl
told_are c (k ∷ ks) good =
    ap₂ (λ (uv : List ℤ) (ds : List DraftCorner). let d : DraftCorner = record { vert = name_read c k.vert; uv = uv } in d ∷ ds)
    good.0.uv (told_are c ks good.1)

-- the corners with their values
abbrev pub corners_with : Complex → Now → List CornerRec → List (VertName × List ℤ)
corners_with c w ks = corners_told (parts c (uvs_written c) w).draft (map (corner_told c) ks)

names_with : (c : Complex) (w : Now) (ks : List CornerRec)
    → map (λ (k : VertName × List ℤ). k.0) (corners_with c w ks) ≡ map (name_read c) (verts_of ks)
names_with c w [] = refl
names_with c w (k ∷ ks) = ap (λ (vs : List VertName). name_read c k.vert ∷ vs) (names_with c w ks)

-- the sides of a face, as they are read
abbrev pub face_sides : Complex → List CornerRec → List Side
face_sides c ks = map (side_read c) (sides (verts_of ks))

abbrev sides_with : Complex → Now → List CornerRec → List Side
sides_with c w ks = sides (map (λ (k : VertName × List ℤ). k.0) (corners_with c w ks))

sides_same : (c : Complex) (w : Now) (ks : List CornerRec) → sides_with c w ks ≡ face_sides c ks
sides_same c w ks = ap sides (names_with c w ks) ∙ sides_read c (verts_of ks)

length_along : (d : Complex) (ss : List Side) → length (edges_along d ss).1 ≡ length ss
length_along d [] = refl
length_along d (s ∷ ss) = ap suc (length_along (edge_between d s.0 s.1).0 ss)

zipped_read : (c : Complex) (w : Now) (ks : List CornerRec) (es : List EdgeName) → length es ≡ length ks
    → map corner_read (map corner_of (zip (corners_with c w ks) es)) ≡ map (corner_shown c) ks
zipped_read c w [] es long = refl
zipped_read c w (k ∷ ks) [] long = absurd (omega arith)
zipped_read c w (k ∷ ks) (e ∷ es) long =
    ap (λ (xs : List (ℕ × Uv)). corner_shown c k ∷ xs) (zipped_read c w ks es (omega arith))

-- the face that is made
abbrev pub face_made : Complex → Now → List CornerRec → FaceRec
face_made c w ks =
    let made = edges_along (parts c (uvs_written c) w).draft (sides_with c w ks) in
    record { corners = map corner_of (zip (corners_with c w ks) made.1); vals = w.material ∷ w.smooth ∷ [] }

-- what stands after it
abbrev pub with_made : Complex → Now → List CornerRec → List ℕ → Now
with_made c w ks names =
    record (along c (uvs_written c) w (sides_with c w ks) names) { faces = w.faces ++ Some (face_made c w ks) ∷ [] }

made_is : (c : Complex) (w : Now) (ks : List CornerRec) (names : List ℕ)
    → with_face_told (parts c (uvs_written c) w).draft (map (corner_told c) ks) w.material w.smooth
    ≡ (parts c (uvs_written c) (with_made c w ks names)).draft
made_is c w ks names =
    ap (λ (d : Complex). with_face d (face_made c w ks)) (along_is c (uvs_written c) w (sides_with c w ks) names)

pub record IsFaceGood (c : Complex) (f : FaceRec) : Type 0 where
  pub corners : AreCornersGood c f.corners
  pub polygon : IsPolygon c.edges f.corners
  pub material : is_material c (numbers_of c f).0 ≡ true
  pub smooth : IsGroup (numbers_of c f).1

made_read : (c : Complex) (w : Now) (f : FaceRec) (fs : List FaceRec) → Stands c fs (numbers_of c f) w
    → IsRead c w.materials (face_made c w f.corners) f
made_read c w f fs h =
    let ss = sides_with c w f.corners in
    let vert : CornerRec → VertName = λ k. k.vert in
    let long : length (edges_along (parts c (uvs_written c) w).draft ss).1 ≡ length f.corners =
    length_along (parts c (uvs_written c) w).draft ss
    ∙ ap (λ (xs : List Side). length xs) (ap sides (names_with c w f.corners))
    ∙ length-sides (map (name_read c) (verts_of f.corners))
    ∙ length-map (verts_of f.corners) (name_read c) ∙ length-map f.corners vert in
    record {
      number = w.material;
      vals = ap (λ (g : ℤ). w.material ∷ g ∷ []) h.smooth;
      named = h.material;
      corners = zipped_read c w f.corners (edges_along (parts c (uvs_written c) w).draft ss).1 long;
    }

ring_said : (scale : ℕ) (c : Complex) (w : Now) (f : FaceRec) (fs : List FaceRec) (names : List ℕ) → IsValid c
    → length (uvs_written c) < 2 ^ 63 → AreFew (fs ++ f ∷ []) → IsFaceGood c f → Stands c fs (numbers_of c f) w
    → Traces c (with_made c w f.corners names).edges names
    → statement scale (codes "f" ∷ map (word_of_corner c) f.corners)
    (codes "f" ++ spaced (map (word_of_corner c) f.corners)) (parts c (uvs_written c) w)
    ≡ Ok (parts c (uvs_written c) (with_made c w f.corners names))
ring_said scale c w f fs names valid small few good h traces =
    let uvs = uvs_written c in
    let s = parts c uvs w in
    let ws = map (word_of_corner c) f.corners in
    let next = with_made c w f.corners names in
    let made = made_is c w f.corners names in
    let faces = read_push c w.materials w.faces fs (face_made c w f.corners) f h.faces (made_read c w f fs h) in
    ap (λ (xs : List (List ℕ)). with_ring xs s)
    (uncommented_plain ws (words_plain c f.corners (verts_few c valid) small good.corners))
    ∙ ring_told ws s (map (corner_given c) f.corners) (map (corner_told c) f.corners)
    (ring_given c w f.corners valid small good.corners good.polygon) (sym (told_are c f.corners good.corners))
    ∙ limited_within (with_face_told s.draft (map (corner_told c) f.corners) w.material w.smooth)
    (parts c uvs next).draft s (sym made)
    (ap fits made ∙ stands_fits c uvs (fs ++ f ∷ []) next valid few faces traces)

-- the sides of a face are edges of the complex
pub good_sides : (c : Complex) (f : FaceRec) → IsFaceGood c f → AreSides c (face_sides c f.corners)
good_sides c f good =
    let vert : CornerRec → VertName = λ k. k.vert in
    let long : length f.corners ≡ length (sides (verts_of f.corners)) =
    sym (length-sides (verts_of f.corners) ∙ length-map f.corners vert) in
    zipped_sides c f.corners (sides (verts_of f.corners)) long good.polygon.closed

-- the line of a face
pub line_goes : (scale : ℕ) (c : Complex) (w : Now) (f : FaceRec) (fs : List FaceRec) → IsValid c
    → length (uvs_written c) < 2 ^ 63 → AreFew (fs ++ f ∷ []) → IsFaceGood c f → Stands c fs (numbers_of c f) w
    → Goes scale c (uvs_written c) (face_line c f) w (fs ++ f ∷ []) (numbers_of c f) (face_sides c f.corners)
line_goes scale c w f fs valid small few good h =
    let uvs = uvs_written c in
    let ss = sides_with c w f.corners in
    let ws = map (word_of_corner c) f.corners in
    let same = sides_same c w f.corners in
    let are : AreSides c ss = rw same (good_sides c f good) in
    let traced = along_traced c (parts c uvs w).draft w.names ss are h.traces in
    let next = with_made c w f.corners traced.0 in
    let line : face_line c f ≡ codes "f" ++ tail ws = ap (λ (t : List ℕ). codes "f" ++ t) (words_are c f.corners) in
    let runs = runs_words scale (codes "f") ws (parts c uvs w) (parts c uvs next)
    (record { bytes = refl; some = omega arith }) (words_plain c f.corners (verts_few c valid) small good.corners)
    (ring_said scale c w f fs traced.0 valid small few good h traced.1) in
    record {
      next = next;
      runs = subst (λ (t : List ℕ). Runs scale t (parts c uvs w) (parts c uvs next)) (sym line) runs;
      stands =
          record {
            traces = traced.1;
            faces = read_push c w.materials w.faces fs (face_made c w f.corners) f h.faces (made_read c w f fs h);
            material = h.material;
            smooth = h.smooth;
          };
      keeps = λ x y covered. along_keeps (parts c uvs w).draft ss x y covered;
      covers = rw (sym same) (along_covered (parts c uvs w).draft ss);
    }

-- ---- FACES

abbrev pub last_of : Complex → ℤ × ℤ → List FaceRec → ℤ × ℤ
last_of c before [] = before
last_of c before (f ∷ fs) = last_of c (numbers_of c f) fs

abbrev pub all_sides : Complex → List FaceRec → List Side
all_sides c [] = []
all_sides c (f ∷ fs) = face_sides c f.corners ++ all_sides c fs

abbrev pub AreFacesGood : Complex → List FaceRec → Type 0
AreFacesGood c [] = Unit {0}
AreFacesGood c (f ∷ fs) = IsFaceGood c f × AreFacesGood c fs

-- the lines of a face, after one with these numbers
face_goes : (scale : ℕ) (c : Complex) (w : Now) (f : FaceRec) (fs : List FaceRec) (before : ℤ × ℤ) → IsValid c
    → All IsName c.materials → length (uvs_written c) < 2 ^ 63 → AreFew (fs ++ f ∷ []) → IsFaceGood c f
    → Stands c fs before w
    → Goes scale c (uvs_written c) (face_text c (before, f)) w (fs ++ f ∷ []) (numbers_of c f) (face_sides c f.corners)
face_goes scale c w f fs before valid names small few good h =
    let uvs = uvs_written c in
    let now = numbers_of c f in
    let one = goes_material scale c uvs w fs before now.0 names good.material h in
    let two = goes_smooth scale c uvs one.next fs (now.0, before.1) now.1 good.smooth one.stands in
    let set = goes_then scale c uvs (material_set c.materials before.0 now.0) (smooth_set before.1 now.1) w fs fs
    (now.0, before.1) now [] [] one two in
    let line = line_goes scale c set.next f fs valid small few good set.stands in
    goes_then scale c uvs (set_lines c.materials before now) (face_line c f) w fs (fs ++ f ∷ []) now now []
    (face_sides c f.corners) set line

few_before : (fs rs : List FaceRec) (f : FaceRec) → AreFew (fs ++ f ∷ rs) → AreFew (fs ++ f ∷ [])
few_before fs rs f few = record {
  faces = omega (arith, few.faces, length_push fs f, long fs (f ∷ rs));
  corners = omega (arith, few.corners, total_push fs f, total fs (f ∷ rs));
}
  where
    long : (fs rs : List FaceRec) → length (fs ++ rs) ≡ length fs + length rs
    long [] rs = omega arith
    long (e ∷ fs) rs = omega (arith, long fs rs)

    total : (fs rs : List FaceRec) → corner_total (fs ++ rs) ≡ corner_total fs + corner_total rs
    total [] rs = omega arith
    total (e ∷ fs) rs = omega (arith, total fs rs)

pub faces_go : (scale : ℕ) (c : Complex) (w : Now) (fs rs : List FaceRec) (before : ℤ × ℤ) → IsValid c
    → All IsName c.materials → length (uvs_written c) < 2 ^ 63 → AreFew (fs ++ rs) → AreFacesGood c rs
    → Stands c fs before w
    → Goes scale c (uvs_written c) (flat_map (face_text c) (zip (before ∷ map (numbers_of c) rs) rs)) w (fs ++ rs)
    (last_of c before rs) (all_sides c rs)
faces_go scale c w fs [] before valid names small few good h =
    rw (append-nil fs) (goes_none scale c (uvs_written c) w fs before h)
faces_go scale c w fs (f ∷ rs) before valid names small few good h =
    let uvs = uvs_written c in
    let whole : (fs ++ f ∷ []) ++ rs ≡ fs ++ f ∷ rs = append_assoc fs (f ∷ []) rs in
    let now = numbers_of c f in
    let one = face_goes scale c w f fs before valid names small (few_before fs rs f few) good.0 h in
    let rest = faces_go scale c one.next (fs ++ f ∷ []) rs now valid names small (rw whole few) good.1 one.stands in
    goes_then scale c uvs (face_text c (before, f)) (flat_map (face_text c) (zip (now ∷ map (numbers_of c) rs) rs)) w
    (fs ++ f ∷ []) (fs ++ f ∷ rs) now (last_of c now rs) (face_sides c f.corners) (all_sides c rs) one (rw whole at rest)
