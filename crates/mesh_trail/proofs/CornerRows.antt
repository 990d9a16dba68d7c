-- Corners of which the vertices and edges stand in one list and the rows of values in another.
use Rattle.std.proofs.Common.{◌≡◌, ℕ, ℤ, zero, suc, ◌+◌, ◌-◌, ◌*◌, ◌<◌, ◌≤◌, List, [], ◌∷◌, ◌++◌, length, map, take, drop, refl, sym, ap, ◌∙◌, arith, Option, Some, None, length-drop, length-append}
use Rattle.std.specs.Prelude.{slice_get}
use Rattle.std.specs.List.{All, flat_map}
use Rattle.std.specs.Option.{option_map}
use Rattle.std.proofs.Math.Nat.{suc-mul, add-mul, mul-le-mul_right}
use Rattle.std.proofs.lemmas.List.{take-append-le, take_all, length-take-le}
use Rattle.std.proofs.lemmas.List.Elements.{All-head, All-tail}
use Rattle.std.proofs.lemmas.Option.{slice_get-map}
use Rattle.mesh_model.specs.Table.{at}
use Rattle.mesh_model.specs.Complex.{Complex, width, corners_of}
use Rattle.mesh_model.specs.Valid.{IsLinked, IsCornerLinked}
use Rattle.mesh_model.specs.declared.names.Kind.TheVariants.{Corners}
use Rattle.mesh_model.specs.declared.records.FaceRec.{FaceRec}
use Rattle.mesh_model.specs.declared.names.VertName.{VertName}
use Rattle.mesh_model.specs.declared.names.EdgeName.{EdgeName}
use Rattle.mesh_model.specs.declared.records.CornerRec.{CornerRec}
use Rattle.mesh_trail.specs.Kept.{corner_at, corner_recs}
use Rattle.mesh_trail.proofs.MapNotes.{drop_within}

abbrev pub pair_in : CornerRec → VertName × EdgeName
pair_in k = (k.vert, k.edge)

abbrev pub vals_in : CornerRec → List ℤ
vals_in k = k.vals

no_length : {X : Type 0} (xs : List X) → length xs ≡ 0 → xs ≡ []
no_length [] none = refl
no_length (x ∷ xs) none = absurd (omega arith)

pub length-corner_recs : (w : ℕ) (ps : List (VertName × EdgeName)) (vs : List ℤ)
    → length (corner_recs w ps vs) ≡ length ps
length-corner_recs w [] vs = refl
length-corner_recs w (p ∷ ps) vs = let more = length-corner_recs w ps (drop w vs) in omega arith

-- a list behind another one
pub corner_recs-append : (w : ℕ) (ps qs : List (VertName × EdgeName)) (vs us : List ℤ) → length vs ≡ length ps * w
    → corner_recs w (ps ++ qs) (vs ++ us) ≡ corner_recs w ps vs ++ corner_recs w qs us
corner_recs-append w [] qs vs us long =
    ap (λ (xs : List ℤ). corner_recs w qs (xs ++ us)) (no_length vs (omega (arith, long)))
corner_recs-append w (p ∷ ps) qs vs us long =
    let wide : length vs ≡ length ps * w + w = long ∙ suc-mul (length ps) w in
    let cut = length-drop w vs in
    let head : take w (vs ++ us) ≡ take w vs = take-append-le w vs us (omega arith) in
    let tail : drop w (vs ++ us) ≡ drop w vs ++ us = drop_within w vs us (omega arith) in
    ap (λ (row : List ℤ). corner_at p row ∷ corner_recs w (ps ++ qs) (drop w (vs ++ us))) head
    ∙ ap (λ (xs : List ℤ). corner_at p (take w vs) ∷ corner_recs w (ps ++ qs) xs) tail
    ∙ ap (λ (ks : List CornerRec). corner_at p (take w vs) ∷ ks)
    (corner_recs-append w ps qs (drop w vs) us (omega arith))

-- the corners that are read back are those that were stored
pub corner_recs-of : (w : ℕ) (ks : List CornerRec) → All (λ k. length k.vals ≡ w) ks
    → corner_recs w (map pair_in ks) (flat_map vals_in ks) ≡ ks
corner_recs-of w [] wide = refl
corner_recs-of w (k ∷ ks) wide =
    let long : length k.vals ≡ w = All-head (λ (x : CornerRec). length x.vals ≡ w) k ks wide in
    let head : take w (k.vals ++ flat_map vals_in ks) ≡ k.vals =
    take-append-le w k.vals (flat_map vals_in ks) (omega arith) ∙ take_all w k.vals (omega arith) in
    let tail : drop w (k.vals ++ flat_map vals_in ks) ≡ flat_map vals_in ks =
    ap (λ (n : ℕ). drop n (k.vals ++ flat_map vals_in ks)) (sym long) ∙ drop-all k.vals in
    ap (λ (row : List ℤ). corner_at (pair_in k) row
    ∷ corner_recs w (map pair_in ks) (drop w (k.vals ++ flat_map vals_in ks))) head
    ∙ ap (λ (xs : List ℤ). k ∷ corner_recs w (map pair_in ks) xs) tail
    ∙ ap (λ (rest : List CornerRec). k ∷ rest) (corner_recs-of w ks
    (All-tail (λ (x : CornerRec). length x.vals ≡ w) k ks wide))
  where
    drop-all : (zs : List ℤ) → drop (length zs) (zs ++ flat_map vals_in ks) ≡ flat_map vals_in ks
    drop-all [] = refl
    drop-all (z ∷ zs) = drop-all zs

pub length-rows : (w : ℕ) (ks : List CornerRec) → All (λ k. length k.vals ≡ w) ks
    → length (flat_map vals_in ks) ≡ length ks * w
length-rows w [] wide = omega arith
length-rows w (k ∷ ks) wide =
    let long : length k.vals ≡ w = All-head (λ (x : CornerRec). length x.vals ≡ w) k ks wide in
    let more = length-rows w ks (All-tail (λ (x : CornerRec). length x.vals ≡ w) k ks wide) in
    let is = suc-mul (length ks) w in let all = length-append k.vals (flat_map vals_in ks) in omega arith

-- ---- PARTS

take_of_take : (w m : ℕ) (vs : List ℤ) → w ≤ m → take w (take m vs) ≡ take w vs
take_of_take zero m vs le = refl
take_of_take (suc w) zero vs le = absurd (omega arith)
take_of_take (suc w) (suc m) [] le = refl
take_of_take (suc w) (suc m) (v ∷ vs) le = ap (λ (xs : List ℤ). v ∷ xs) (take_of_take w m vs (omega arith))

take_none : (n : ℕ) → ◌≡◌ {A = List ℤ} [] (take n [])
take_none zero = refl
take_none (suc n) = refl

drop_none : (n : ℕ) → ◌≡◌ {A = List ℤ} [] (drop n [])
drop_none zero = refl
drop_none (suc n) = refl

drop_of_take : (w m n : ℕ) (vs : List ℤ) → m ≡ w + n → drop w (take m vs) ≡ take n (drop w vs)
drop_of_take zero m n vs is = ap (λ (k : ℕ). take k vs) (omega (arith, is))
drop_of_take (suc w) zero n vs is = absurd (omega arith)
drop_of_take (suc w) (suc m) n [] is = take_none n
drop_of_take (suc w) (suc m) n (v ∷ vs) is = drop_of_take w m n vs (omega arith)

drop_twice : (w m n : ℕ) (vs : List ℤ) → m ≡ w + n → drop m vs ≡ drop n (drop w vs)
drop_twice zero m n vs is = ap (λ (k : ℕ). drop k vs) (omega (arith, is))
drop_twice (suc w) zero n vs is = absurd (omega arith)
drop_twice (suc w) (suc m) n [] is = drop_none n
drop_twice (suc w) (suc m) n (v ∷ vs) is = drop_twice w m n vs (omega arith)

pub corner_recs-take : (w n : ℕ) (ps : List (VertName × EdgeName)) (vs : List ℤ)
    → corner_recs w (take n ps) (take (n * w) vs) ≡ take n (corner_recs w ps vs)
corner_recs-take w zero ps vs = refl
corner_recs-take w (suc n) [] vs = refl
corner_recs-take w (suc n) (p ∷ ps) vs =
    let is : suc n * w ≡ w + n * w = (let m = suc-mul n w in omega arith) in
    ap (λ (row : List ℤ). corner_at p row ∷ corner_recs w (take n ps) (drop w (take (suc n * w) vs)))
    (take_of_take w (suc n * w) vs (omega arith))
    ∙ ap (λ (xs : List ℤ). corner_at p (take w vs) ∷ corner_recs w (take n ps) xs)
    (drop_of_take w (suc n * w) (n * w) vs is)
    ∙ ap (λ (ks : List CornerRec). corner_at p (take w vs) ∷ ks) (corner_recs-take w n ps (drop w vs))

pub corner_recs-drop : (w n : ℕ) (ps : List (VertName × EdgeName)) (vs : List ℤ)
    → corner_recs w (drop n ps) (drop (n * w) vs) ≡ drop n (corner_recs w ps vs)
corner_recs-drop w zero ps vs = ap (λ (k : ℕ). corner_recs w ps (drop k vs)) (let is : zero * w ≡ 0 = omega arith in is)
corner_recs-drop w (suc n) [] vs = refl
corner_recs-drop w (suc n) (p ∷ ps) vs =
    let is : suc n * w ≡ w + n * w = (let m = suc-mul n w in omega arith) in
    ap (λ (xs : List ℤ). corner_recs w (drop n ps) xs) (drop_twice w (suc n * w) (n * w) vs is)
    ∙ corner_recs-drop w n ps (drop w vs)

-- a part of the corners is made of parts of both lists
pub corner_recs-part : (w from count : ℕ) (ps : List (VertName × EdgeName)) (vs : List ℤ)
    → corner_recs w (take count (drop from ps)) (take (count * w) (drop (from * w) vs))
    ≡ take count (drop from (corner_recs w ps vs))
corner_recs-part w from count ps vs =
    corner_recs-take w count (drop from ps) (drop (from * w) vs)
    ∙ ap (λ (ks : List CornerRec). take count ks) (corner_recs-drop w from ps vs)

-- ---- WHAT STANDS WHERE

pub pairs-corner_recs : (w : ℕ) (ps : List (VertName × EdgeName)) (vs : List ℤ) → map pair_in (corner_recs w ps vs) ≡ ps
pairs-corner_recs w [] vs = refl
pairs-corner_recs w (p ∷ ps) vs = ap (λ (qs : List (VertName × EdgeName)). p ∷ qs) (pairs-corner_recs w ps (drop w vs))

take_drop : (w : ℕ) (vs : List ℤ) → take w vs ++ drop w vs ≡ vs
take_drop zero vs = refl
take_drop (suc w) [] = refl
take_drop (suc w) (v ∷ vs) = ap (λ (xs : List ℤ). v ∷ xs) (take_drop w vs)

pub rows-corner_recs : (w : ℕ) (ps : List (VertName × EdgeName)) (vs : List ℤ) → length vs ≡ length ps * w
    → flat_map vals_in (corner_recs w ps vs) ≡ vs
rows-corner_recs w [] vs long = sym (no_length vs (omega (arith, long)))
rows-corner_recs w (p ∷ ps) vs long =
    let wide : length vs ≡ length ps * w + w = long ∙ suc-mul (length ps) w in
    let cut = length-drop w vs in
    ap (λ (xs : List ℤ). take w vs ++ xs) (rows-corner_recs w ps (drop w vs) (omega arith)) ∙ take_drop w vs

pub pair-corner_recs : (w : ℕ) (ps : List (VertName × EdgeName)) (vs : List ℤ) (i : ℕ)
    → option_map pair_in (slice_get (corner_recs w ps vs) i) ≡ slice_get ps i
pair-corner_recs w ps vs i = sym (slice_get-map pair_in (corner_recs w ps vs) i)
    ∙ ap (λ (qs : List (VertName × EdgeName)). slice_get qs i) (pairs-corner_recs w ps vs)

pub get_taken : {X : Type 0} (n k : ℕ) (xs : List X) → k < n → slice_get (take n xs) k ≡ slice_get xs k
get_taken zero k xs less = absurd (omega arith)
get_taken (suc n) k [] less = refl
get_taken (suc n) zero (x ∷ xs) less = refl
get_taken (suc n) (suc k) (x ∷ xs) less = get_taken n k xs (omega arith)

pub get_dropped : {X : Type 0} (n m k : ℕ) (xs : List X) → m ≡ n + k → slice_get (drop n xs) k ≡ slice_get xs m
get_dropped zero m k xs is = ap (λ (i : ℕ). slice_get xs i) (omega (arith, is))
get_dropped (suc n) zero k xs is = absurd (omega arith)
get_dropped (suc n) (suc m) k [] is = refl
get_dropped (suc n) (suc m) k (x ∷ xs) is = get_dropped n m k xs (omega arith)

-- a number of a corner's row
pub value-corner_recs : (w : ℕ) (ps : List (VertName × EdgeName)) (vs : List ℤ) (i k : ℕ) → i < length ps → k < w
    → option_map (λ r. slice_get r.vals k) (slice_get (corner_recs w ps vs) i) ≡ Some (slice_get vs (i * w + k))
value-corner_recs w [] vs i k there within = absurd (omega arith)
value-corner_recs w (p ∷ ps) vs zero k there within =
    ap (λ (o : Option ℤ). Some o) (get_taken w k vs within
    ∙ ap (λ (n : ℕ). slice_get vs n) (let is : k ≡ zero * w + k = omega arith in is))
value-corner_recs w (p ∷ ps) vs (suc i) k there within =
    value-corner_recs w ps (drop w vs) i k (omega arith) within
    ∙ ap (λ (o : Option ℤ). Some o) (get_dropped w (suc i * w + k) (i * w + k) vs (let m = suc-mul i w in omega arith))

-- ---- STORED AND COMPARED

-- corners equal stored ones just where both lists do
pub same_corners : (w : ℕ) (ps : List (VertName × EdgeName)) (vs : List ℤ) (ks : List CornerRec)
    → All (λ k. length k.vals ≡ w) ks → ps ≡ map pair_in ks → vs ≡ flat_map vals_in ks → corner_recs w ps vs ≡ ks
same_corners w ps vs ks wide pairs rows =
    ap (λ (qs : List (VertName × EdgeName)). corner_recs w qs vs) pairs
    ∙ ap (λ (xs : List ℤ). corner_recs w (map pair_in ks) xs) rows ∙ corner_recs-of w ks wide

pub same_pairs : (w : ℕ) (ps : List (VertName × EdgeName)) (vs : List ℤ) (ks : List CornerRec)
    → corner_recs w ps vs ≡ ks → ps ≡ map pair_in ks
same_pairs w ps vs ks is = sym (pairs-corner_recs w ps vs) ∙ ap (λ (rest : List CornerRec). map pair_in rest) is

pub same_rows : (w : ℕ) (ps : List (VertName × EdgeName)) (vs : List ℤ) (ks : List CornerRec)
    → length vs ≡ length ps * w → corner_recs w ps vs ≡ ks → vs ≡ flat_map vals_in ks
same_rows w ps vs ks long is = sym (rows-corner_recs w ps vs long)
    ∙ ap (λ (rest : List CornerRec). flat_map vals_in rest) is

-- ---- OF A COMPLEX

-- each corner's row is as wide as the layers
pub corners_wide : (c : Complex) (n : ℕ) → IsLinked c
    → All (λ k. length k.vals ≡ width c Corners) (corners_of (at c.faces n))
corners_wide c n linked = go (at c.faces n) refl
  where
    each : (ks : List CornerRec) → All (IsCornerLinked c) ks → All (λ k. length k.vals ≡ width c Corners) ks
    each ks all = λ i d less. (all i d less).vals

    go : (o : Option FaceRec) → at c.faces n ≡ o → All (λ k. length k.vals ≡ width c Corners) (corners_of o)
    go None is = λ i d less. absurd (omega (arith, less))
    go (Some f) is = each f.corners (linked.faces n f is).corners

pub rows_wide : (c : Complex) (n : ℕ) → IsLinked c
    → length (flat_map vals_in (corners_of (at c.faces n))) ≡ length (corners_of (at c.faces n)) * width c Corners
rows_wide c n linked = length-rows (width c Corners) (corners_of (at c.faces n)) (corners_wide c n linked)

-- a part of stored corners is made of both parts: it equals corners just where both parts do
pub part_same : (w from count : ℕ) (ps : List (VertName × EdgeName)) (vs : List ℤ) (ks : List CornerRec)
    → All (λ k. length k.vals ≡ w) ks → take count (drop from ps) ≡ map pair_in ks
    → take (count * w) (drop (from * w) vs) ≡ flat_map vals_in ks
    → take count (drop from (corner_recs w ps vs)) ≡ ks
part_same w from count ps vs ks wide pairs rows =
    sym (corner_recs-part w from count ps vs)
    ∙ same_corners w (take count (drop from ps)) (take (count * w) (drop (from * w) vs)) ks wide pairs rows

pub part_pairs : (w from count : ℕ) (ps : List (VertName × EdgeName)) (vs : List ℤ) (ks : List CornerRec)
    → take count (drop from (corner_recs w ps vs)) ≡ ks → take count (drop from ps) ≡ map pair_in ks
part_pairs w from count ps vs ks is = same_pairs w (take count (drop from ps)) (take (count * w) (drop (from * w) vs))
    ks (corner_recs-part w from count ps vs ∙ is)

pub part_rows : (w from count : ℕ) (ps : List (VertName × EdgeName)) (vs : List ℤ) (ks : List CornerRec)
    → length vs ≡ length ps * w → from + count ≤ length ps → take count (drop from (corner_recs w ps vs)) ≡ ks
    → take (count * w) (drop (from * w) vs) ≡ flat_map vals_in ks
part_rows w from count ps vs ks long within is =
    let parts = add-mul from count w in
    let most = mul-le-mul_right {m = from + count} {n = length ps} w within in
    let cut = length-drop (from * w) vs in
    let rows : length (take (count * w) (drop (from * w) vs)) ≡ count * w =
    length-take-le (count * w) (drop (from * w) vs) (omega arith) in
    let pairs : length (take count (drop from ps)) ≡ count =
    (let rest = length-drop from ps in length-take-le count (drop from ps) (omega arith)) in
    same_rows w (take count (drop from ps)) (take (count * w) (drop (from * w) vs)) ks
    (rows ∙ ap (λ (n : ℕ). n * w) (sym pairs)) (corner_recs-part w from count ps vs ∙ is)

-- ---- BOUNDS OF A PART

pub part_bounds : (w from count pairs values : ℕ) → values ≡ pairs * w → from + count ≤ pairs
    → (from * w ≤ values) × (from * w + count * w ≤ values)
part_bounds w from count pairs values rows within =
    let parts = add-mul from count w in
    let most = mul-le-mul_right {m = from + count} {n = pairs} w within in
    (omega (arith, rows, parts, most), omega (arith, rows, parts, most))

pub part_cut : {X : Type 0} (from count : ℕ) (xs : List X) → from + count ≤ length xs
    → take (from + count - from) (drop from xs) ≡ take count (drop from xs)
part_cut {X = X} from count xs within =
    ap (λ (n : ℕ). take n (drop from xs)) (let is : from + count - from ≡ count = omega arith in is)

pub length-part : {X : Type 0} (from count : ℕ) (xs : List X) → from + count ≤ length xs
    → length (take (from + count - from) (drop from xs)) ≡ count
length-part from count xs within =
    let cut = length-drop from xs in
    ap length (part_cut from count xs within) ∙ length-take-le count (drop from xs) (omega arith)
