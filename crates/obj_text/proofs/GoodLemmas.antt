-- A valid complex can be written and read again.
use Rattle.std.proofs.Common.{◌≡◌, ◌<◌, ◌≤◌, ◌+◌, ◌∙◌, ℕ, zero, suc, ℤ, pos, negsuc, int_le, true, false}
use Rattle.std.proofs.Common.{not, Bool, cond, List, [], ◌∷◌, ◌++◌, length, map, get_or, refl, sym, ap, ap₂, arith, Option}
use Rattle.std.proofs.Common.{Some, None}
use Rattle.std.specs.List.{All, filter, flat_map, list_all, list_any, position, position_or_len}
use Rattle.std.specs.Option.{option_map_or}
use Rattle.std.specs.Ordering.{int_eq}
use Rattle.std.proofs.lemmas.Bool.{and_parts, and_from, or_left, or_right}
use Rattle.std.proofs.lemmas.Bool.Decides.{Decides-int_eq}
use Rattle.std.proofs.lemmas.Int.{ints}
use Rattle.std.proofs.lemmas.List.{length-map}
use Rattle.std.proofs.lemmas.List.Sums.{sum_by-cons}
use Rattle.std.proofs.lemmas.List.Quantifiers.{position-Some}
use Rattle.std.proofs.lemmas.List.Folds.{list_any-append}
use Rattle.std.proofs.lemmas.List.Elements.{All-head, All-tail}
use Rattle.mesh_model.specs.Table.{at, IsThere, allows}
use Rattle.mesh_model.specs.Complex.{Complex, corners_of, corner_sum, material_layer, smooth_layer}
use Rattle.mesh_model.specs.Values.{number_in}
use Rattle.mesh_model.specs.Valid.{IsValid, IsCornerValid, is_in_range, is_material, is_smooth}
use Rattle.mesh_model.specs.declared.limits.TheConstants.{MAX_CORNERS}
use Rattle.mesh_model.specs.declared.records.CornerRec.{CornerRec}
use Rattle.mesh_model.specs.declared.records.FaceRec.{FaceRec}
use Rattle.mesh_model.proofs.Lists.{list_all-All}
use Rattle.mesh_model.proofs.MixedValues.{int_le-true, le-int_le}
use Rattle.obj_format.specs.declared.texture.Uv.{Uv}
use Rattle.obj_format.specs.Fixed.{BeginsFixed}
use Rattle.obj_reader.specs.Statements.{uv_at}
use Rattle.obj_reader.proofs.IndexedLemmas.{some_place}
use Rattle.obj_writer.specs.Whole.{origin, same_uv, uv_of, all_places, distinct, places, has_places, numbers_of, live_faces}
use Rattle.obj_writer.proofs.PlaceLemmas.{uv_fixed, any_distinct}
use Rattle.obj_writer.proofs.FaceTextLemmas.{numbers_fixed}
use Rattle.obj_text.proofs.WordRounds.{IsBelow, in_range_small}
use Rattle.obj_text.proofs.PointRounds.{IsSmall, AreSmall}
use Rattle.obj_text.proofs.StandLemmas.{corner_total}
use Rattle.obj_text.proofs.SetRounds.{IsGroup}
use Rattle.obj_text.proofs.SideRounds.{AreFew}
use Rattle.obj_text.proofs.FaceRounds.{uvs_written, place_of, IsCornerGood, AreCornersGood, IsFaceGood, AreFacesGood}

-- ---- PLACES

uv_same : (p q : Uv) → same_uv p q ≡ true → p ≡ q
uv_same p q h =
    let both = and_parts (int_eq p.u q.u) (int_eq p.v q.v) h in
    ap₂ (λ (u v : ℤ). let r : Uv = record { u = u; v = v } in r) ((Decides-int_eq p.u q.u).0 both.0)
    ((Decides-int_eq p.v q.v).0 both.1)

pub uv_itself : (p : Uv) → same_uv p p ≡ true
uv_itself p = and_from (int_eq p.u p.u) (int_eq p.v p.v) ((Decides-int_eq p.u p.u).1 refl) ((Decides-int_eq p.v p.v).1 refl)

-- a place that is found among those that are written
pub record IsFound (c : Complex) (uv : Uv) : Type 0 where
  pub place : IsBelow (length (uvs_written c)) (place_of c uv)
  pub told : uv_at (uvs_written c) (place_of c uv) ≡ uv.u ∷ uv.v ∷ []

abbrev written_of : Bool → List Uv → List Uv
written_of told uvs = cond told uvs []

abbrev found_in : Bool → List Uv → Uv → Option ℕ
found_in told uvs uv = cond told (position (same_uv uv) uvs) None

abbrev IsFoundIn : Bool → List Uv → Uv → Type 0
IsFoundIn told uvs uv = IsBelow (length (written_of told uvs)) (found_in told uvs uv)
    × (uv_at (written_of told uvs) (found_in told uvs uv) ≡ uv.u ∷ uv.v ∷ [])

found_at : (uvs : List Uv) (uv : Uv) (o : Option ℕ) → position (same_uv uv) uvs ≡ o → list_any (same_uv uv) uvs ≡ true
    → IsBelow (length uvs) o × (uv_at uvs o ≡ uv.u ∷ uv.v ∷ [])
found_at uvs uv None is some = let clash : Some (position_or_len (same_uv uv) uvs) ≡ None = sym (some_place (same_uv uv) uvs some) ∙ is in
    absurd (cc)
found_at uvs uv (Some t) is some =
    let it = position-Some (same_uv uv) uvs t origin is in
    let same : uv ≡ get_or uvs t origin = uv_same uv (get_or uvs t origin) it.1 in
    (it.0, ap (λ (p : Uv). p.u ∷ p.v ∷ []) (sym same))

found_either : (told : Bool) (uvs : List Uv) (uv : Uv) → has_places uvs ≡ told → list_any (same_uv uv) uvs ≡ true
    → IsFoundIn told uvs uv
found_either true uvs uv is some = found_at uvs uv (position (same_uv uv) uvs) refl some
found_either false uvs uv is some =
    let found = some_place (same_uv uv) uvs some in
    let it = position-Some (same_uv uv) uvs (position_or_len (same_uv uv) uvs) origin found in
    let t = position_or_len (same_uv uv) uvs in
    let all : list_all (same_uv origin) uvs ≡ true = all_origin (list_all (same_uv origin) uvs) is in
    let one : origin ≡ get_or uvs t origin = uv_same origin (get_or uvs t origin)
    (list_all-All (same_uv origin) uvs all t origin it.0) in
    let two : uv ≡ get_or uvs t origin = uv_same uv (get_or uvs t origin) it.1 in
    (tt, ap (λ (p : Uv). p.u ∷ p.v ∷ []) (one ∙ sym two))
  where
    all_origin : (b : Bool) → not b ≡ false → b ≡ true
    all_origin true h = refl
    all_origin false h = cc

place_found : (c : Complex) (uv : Uv) → list_any (same_uv uv) (places c) ≡ true → IsFound c uv
place_found c uv some =
    let it = found_either (has_places (places c)) (places c) uv refl some in
    record { place = it.0; told = it.1 }

-- a corner's place is among all places
among_map : (c : Complex) (ks : List CornerRec) (i : ℕ) (d : CornerRec) → i < length ks
    → list_any (same_uv (uv_of c (get_or ks i d))) (map (uv_of c) ks) ≡ true
among_map c [] i d here = absurd (omega arith)
among_map c (k ∷ ks) zero d here =
    or_left (same_uv (uv_of c k) (uv_of c k)) (list_any (same_uv (uv_of c k)) (map (uv_of c) ks)) (uv_itself (uv_of c k))
among_map c (k ∷ ks) (suc i) d here =
    let uv = uv_of c (get_or ks i d) in
    or_right (same_uv uv (uv_of c k)) (list_any (same_uv uv) (map (uv_of c) ks)) (among_map c ks i d (omega arith))

map_append : (c : Complex) (ks js : List CornerRec) → map (uv_of c) (ks ++ js) ≡ map (uv_of c) ks ++ map (uv_of c) js
map_append c [] js = refl
map_append c (k ∷ ks) js = ap (λ (t : List Uv). uv_of c k ∷ t) (map_append c ks js)

among_all : (c : Complex) (uv : Uv) (table : List (Option FaceRec)) (n : ℕ) (f : FaceRec) → at table n ≡ Some f
    → list_any (same_uv uv) (map (uv_of c) f.corners) ≡ true
    → list_any (same_uv uv) (map (uv_of c) (flat_map corners_of table)) ≡ true
among_all c uv [] n f there some = absurd (cc)
among_all c uv (o ∷ os) zero f there some =
    let first : map (uv_of c) (corners_of o) ≡ map (uv_of c) f.corners = ap (λ (x : Option FaceRec). map (uv_of c) (corners_of x)) there in
    ap (list_any (same_uv uv)) (map_append c (corners_of o) (flat_map corners_of os))
    ∙ list_any-append (same_uv uv) (map (uv_of c) (corners_of o)) (map (uv_of c) (flat_map corners_of os))
    ∙ or_left (list_any (same_uv uv) (map (uv_of c) (corners_of o)))
    (list_any (same_uv uv) (map (uv_of c) (flat_map corners_of os))) (ap (list_any (same_uv uv)) first ∙ some)
among_all c uv (o ∷ os) (suc n) f there some =
    ap (list_any (same_uv uv)) (map_append c (corners_of o) (flat_map corners_of os))
    ∙ list_any-append (same_uv uv) (map (uv_of c) (corners_of o)) (map (uv_of c) (flat_map corners_of os))
    ∙ or_right (list_any (same_uv uv) (map (uv_of c) (corners_of o)))
    (list_any (same_uv uv) (map (uv_of c) (flat_map corners_of os))) (among_all c uv os n f there some)

-- ---- CORNERS

corner_good : (c : Complex) (n : ℕ) (f : FaceRec) (i : ℕ) (d : CornerRec) → at c.faces n ≡ Some f → i < length f.corners
    → IsThere c.verts (get_or f.corners i d).vert.0 → IsCornerGood c (get_or f.corners i d)
corner_good c n f i d there here vert =
    let uv = uv_of c (get_or f.corners i d) in
    let some : list_any (same_uv uv) (places c) ≡ true =
    any_distinct uv (all_places c) ∙ among_all c uv c.faces n f there (among_map c f.corners i d here) in
    let found = place_found c uv some in
    record { vert = vert; place = found.place; uv = found.told }

corners_from : (c : Complex) (n : ℕ) (f : FaceRec) (ks : List CornerRec) → ((i : ℕ) (d : CornerRec) → i < length ks
    → IsCornerGood c (get_or ks i d)) → AreCornersGood c ks
corners_from c n f [] each = tt
corners_from c n f (k ∷ ks) each =
    (each 0 k (omega arith), corners_from c n f ks (λ i d less. each (suc i) d (omega arith)))

-- ---- FACES

allowed_or : (test : ℤ → Bool) (o : Option ℤ) → allows test o ≡ true → test (pos 0) ≡ true
    → test (option_map_or (λ (n : ℤ). n) o (pos 0)) ≡ true
allowed_or test None h none = none
allowed_or test (Some n) h none = h

no_material : (c : Complex) → is_material c (pos 0) ≡ true
no_material c =
    and_from (int_le (pos 0) (pos 0)) (int_le (pos 0) (pos (length c.materials)))
    (le-int_le (pos 0) (pos 0) (omega (arith, ints))) (le-int_le (pos 0) (pos (length c.materials)) (omega (arith, ints)))

zero_in_range : is_in_range (pos 0) ≡ true
zero_in_range = refl

number_range : (row : List ℤ) (i : ℕ) → list_all is_in_range row ≡ true → is_in_range (get_or row i (pos 0)) ≡ true
number_range [] i h = zero_in_range
number_range (n ∷ ns) zero h = (and_parts (is_in_range n) (list_all is_in_range ns) h).0
number_range (n ∷ ns) (suc i) h = number_range ns i (and_parts (is_in_range n) (list_all is_in_range ns) h).1

group_of : (g : ℤ) → is_smooth g ≡ true → is_in_range g ≡ true → IsGroup g
group_of (pos n) smooth range = (n, refl, in_range_small (pos n) range)
group_of (negsuc n) smooth range = let least = int_le-true (pos 0) (negsuc n) smooth in absurd (omega (arith, ints, least))

face_good : (c : Complex) (n : ℕ) (f : FaceRec) → IsValid c → BeginsFixed c → at c.faces n ≡ Some f → IsFaceGood c f
face_good c n f valid fixed there =
    let is = valid.faces n f there in
    let linked = valid.linked.faces n f there in
    let second : (numbers_of c f).1 ≡ get_or f.vals 1 (pos 0) = ap (λ (p : ℤ × ℤ). p.1) (numbers_fixed c f fixed) in
    let range : is_in_range (numbers_of c f).1 ≡ true = ap is_in_range second ∙ number_range f.vals 1 is.vals in
    record {
      corners = corners_from c n f f.corners
          (λ i d less. corner_good c n f i d there less (linked.corners i d less).vert);
      polygon = is.polygon;
      material = allowed_or (is_material c) (number_in c.layers.faces material_layer f.vals) is.material (no_material c);
      smooth = group_of (numbers_of c f).1
          (allowed_or is_smooth (number_in c.layers.faces smooth_layer f.vals) is.smooth refl) range;
    }

goods : (c : Complex) (table : List (Option FaceRec)) → ((n : ℕ) (f : FaceRec) → at table n ≡ Some f → IsFaceGood c f)
    → AreFacesGood c (live_faces table)
goods c [] each = tt
goods c (None ∷ os) each = goods c os (λ n f there. each (suc n) f there)
goods c (Some f ∷ os) each = (each 0 f refl, goods c os (λ n g there. each (suc n) g there))

pub faces_good : (c : Complex) → IsValid c → BeginsFixed c → AreFacesGood c (live_faces c.faces)
faces_good c valid fixed = goods c c.faces (λ n f there. face_good c n f valid fixed there)

live_length : (table : List (Option FaceRec)) → length (live_faces table) ≤ length table
live_length [] = omega arith
live_length (None ∷ os) = omega (arith, live_length os)
live_length (Some f ∷ os) = omega (arith, live_length os)

sum_cons : (o : Option FaceRec) (os : List (Option FaceRec)) → corner_sum (o ∷ os) ≡ length (corners_of o) + corner_sum os
sum_cons o os = sum_by-cons (λ (x : Option FaceRec). length (corners_of x)) o os

live_corners : (table : List (Option FaceRec)) → corner_total (live_faces table) ≡ corner_sum table
live_corners [] = refl
live_corners (None ∷ os) =
    let one : corner_sum (None ∷ os) ≡ 0 + corner_sum os = sum_cons None os in
    omega (arith, live_corners os, one)
live_corners (Some f ∷ os) = omega (arith, live_corners os, sum_cons (Some f) os)

pub faces_few : (c : Complex) → IsValid c → AreFew (live_faces c.faces)
faces_few c valid = record {
  faces = omega (arith, live_length c.faces, valid.limits.faces);
  corners = omega (arith, live_corners c.faces, valid.limits.corners);
}

-- ---- PLACES ARE SMALL AND FEW

uv_small : (c : Complex) (k : CornerRec) → BeginsFixed c → IsCornerValid k → IsSmall (uv_of c k)
uv_small c k fixed is =
    rw (uv_fixed c k fixed) (record {
      u = in_range_small (get_or k.vals 0 (pos 0)) (number_range k.vals 0 is.vals);
      v = in_range_small (get_or k.vals 1 (pos 0)) (number_range k.vals 1 is.vals);
    })

corners_small : (c : Complex) (ks : List CornerRec) (rest : List Uv) → BeginsFixed c → All IsCornerValid ks → AreSmall rest
    → AreSmall (map (uv_of c) ks ++ rest)
corners_small c [] rest fixed are small = small
corners_small c (k ∷ ks) rest fixed are small =
    (uv_small c k fixed (All-head IsCornerValid k ks are), corners_small c ks rest fixed (All-tail IsCornerValid k ks are) small)

table_small : (c : Complex) (table : List (Option FaceRec)) → BeginsFixed c
    → ((n : ℕ) (f : FaceRec) → at table n ≡ Some f → All IsCornerValid f.corners)
    → AreSmall (map (uv_of c) (flat_map corners_of table))
table_small c [] fixed each = tt
table_small c (None ∷ os) fixed each = table_small c os fixed (λ n f there. each (suc n) f there)
table_small c (Some f ∷ os) fixed each =
    rw (map_append c f.corners (flat_map corners_of os))
    (corners_small c f.corners (map (uv_of c) (flat_map corners_of os)) fixed (each 0 f refl)
    (table_small c os fixed (λ n g there. each (suc n) g there)))

small_step : (b : Bool) (uv : Uv) (uvs : List Uv) → IsSmall uv → AreSmall uvs → AreSmall (cond b (uv ∷ uvs) uvs)
small_step true uv uvs one rest = (one, rest)
small_step false uv uvs one rest = rest

filter_small : (p : Uv → Bool) (uvs : List Uv) → AreSmall uvs → AreSmall (filter p uvs)
filter_small p [] h = tt
filter_small p (uv ∷ uvs) h = small_step (p uv) uv (filter p uvs) h.0 (filter_small p uvs h.1)

distinct_small : (uvs : List Uv) → AreSmall uvs → AreSmall (distinct uvs)
distinct_small [] h = tt
distinct_small (uv ∷ uvs) h = (h.0, filter_small (λ q. not (same_uv uv q)) (distinct uvs) (distinct_small uvs h.1))

length_step : (b : Bool) (uv : Uv) (uvs : List Uv) (n : ℕ) → length uvs ≤ n → length (cond b (uv ∷ uvs) uvs) ≤ n + 1
length_step true uv uvs n few = omega arith
length_step false uv uvs n few = omega arith

filter_length : (p : Uv → Bool) (uvs : List Uv) → length (filter p uvs) ≤ length uvs
filter_length p [] = omega arith
filter_length p (uv ∷ uvs) = omega (arith, length_step (p uv) uv (filter p uvs) (length uvs) (filter_length p uvs))

distinct_length : (uvs : List Uv) → length (distinct uvs) ≤ length uvs
distinct_length [] = omega arith
distinct_length (uv ∷ uvs) =
    omega (arith, filter_length (λ q. not (same_uv uv q)) (distinct uvs), distinct_length uvs)

length_append : (ks js : List CornerRec) → length (ks ++ js) ≡ length ks + length js
length_append [] js = omega arith
length_append (k ∷ ks) js = omega (arith, length_append ks js)

length_corners : (table : List (Option FaceRec)) → length (flat_map corners_of table) ≡ corner_sum table
length_corners [] = refl
length_corners (o ∷ os) =
    omega (arith, length_append (corners_of o) (flat_map corners_of os), length_corners os, sum_cons o os)

pub places_small : (c : Complex) → IsValid c → BeginsFixed c → AreSmall (places c)
places_small c valid fixed =
    distinct_small (all_places c) (table_small c c.faces fixed (λ n f there. (valid.faces n f there).corners))

pub places_few : (c : Complex) → IsValid c → length (places c) ≤ MAX_CORNERS
places_few c valid =
    omega (
      arith,
      distinct_length (all_places c),
      length-map (flat_map corners_of c.faces) (uv_of c),
      length_corners c.faces,
      valid.limits.corners,
    )
