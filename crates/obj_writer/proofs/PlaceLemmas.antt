-- Lemmas on places in the texture.
use Rattle.std.proofs.Common.{◌≡◌, ◌<◌, ◌≤◌, ◌+◌, ◌*◌, ◌∙◌, ◌&&◌, ◌||◌, ℕ, zero, suc, ℤ, pos, Bool, true, false, not}
use Rattle.std.proofs.Common.{cond, List, [], ◌∷◌, ◌++◌, length, map, take, get_or, refl, sym, ap, ap₂}
use Rattle.std.proofs.Common.{arith, Option, Some, None, is_some}
use Rattle.std.specs.Ordering.{int_eq}
use Rattle.std.specs.List.{filter, flat_map, list_any, position}
use Rattle.std.specs.Option.{option_map_or}
use Rattle.std.proofs.lemmas.List.{append-nil, append_assoc, get_or_append_left, get_or-append-add, map-append}
use Rattle.std.proofs.lemmas.List.{take_more, take_all}
use Rattle.std.proofs.lemmas.List.Concat.{flat_map-append}
use Rattle.std.proofs.lemmas.List.Sums.{fold_more}
use Rattle.std.proofs.lemmas.List.Elements.{All-head, All-tail, filter-append}
use Rattle.std.proofs.lemmas.Bool.{and_parts}
use Rattle.std.proofs.lemmas.Cmp.{int_eq_equiv}
use Rattle.indexmap.specs.IndexSet.{insert_key, insert_all}
use Rattle.cust_data.specs.Layers.{Layer, total}
use Rattle.mesh_model.specs.Complex.{Complex, corners_of, width, fixed_layers, uv_layer}
use Rattle.mesh_model.specs.Valid.{IsLinked}
use Rattle.mesh_model.proofs.GivenRows.{total-few}
use Rattle.mesh_model.proofs.Reading.{AreWide, length-rows}
use Rattle.std.proofs.Math.Nat.{add-mul, mul-le-mul_right, suc-mul, zero-mul}
use Rattle.mesh_model.specs.declared.names.Kind.TheVariants.{Corners}
use Rattle.mesh_model.specs.Values.{same_layer, offset}
use Rattle.mesh_model.specs.declared.records.CornerRec.{CornerRec}
use Rattle.mesh_model.specs.declared.records.FaceRec.{FaceRec}
use Rattle.obj_format.specs.declared.texture.Uv.{Uv}
use Rattle.obj_format.specs.Fixed.{BeginsFixed}
use Rattle.obj_writer.specs.Whole.{origin, place_in, uv_of, same_uv, distinct, places}
use Rattle.std.proofs.Common.{nat_lt}
use Rattle.std.proofs.lemmas.Bool.{lt-ltb}
use Rattle.std.proofs.lemmas.List.Sums.{sum_by-cons}

-- ---- ROWS OF THE SAME WIDTH

abbrev pub rows_of : List CornerRec → List ℤ
rows_of ks = flat_map (λ (k : CornerRec). k.vals) ks

-- the place of a number of a row
pub row_within : (ks : List CornerRec) (w i j : ℕ) (rows : List ℤ) → rows ≡ rows_of ks → AreWide w ks → i < length ks
    → j < w
    → i * w + j < length rows
row_within ks w i j rows same wide here within =
    let long : length rows ≡ length ks * w = ap length same ∙ length-rows ks w wide in
    let least : (i + 1) * w ≤ length ks * w = mul-le-mul_right {m = i + 1} {n = length ks} w (omega arith) in
    let next : (i + 1) * w ≡ i * w + 1 * w = add-mul i 1 w in
    omega arith

-- a number of a row
pub at-rows : (ks : List CornerRec) (w i j : ℕ) (d : CornerRec) (e : ℤ) → AreWide w ks → i < length ks → j < w
    → get_or (rows_of ks) (i * w + j) e ≡ get_or (get_or ks i d).vals j e
at-rows [] w i j d e wide here within = absurd (omega arith)
at-rows (k ∷ ks) w zero j d e wide here within =
    let long : length k.vals ≡ w = All-head (λ (x : CornerRec). length x.vals ≡ w) k ks wide in
    ap (λ (n : ℕ). get_or (k.vals ++ rows_of ks) n e) (omega (arith, zero-mul w))
    ∙ get_or_append_left k.vals (rows_of ks) e j (omega arith)
at-rows (k ∷ ks) w (suc i) j d e wide here within =
    let long : length k.vals ≡ w = All-head (λ (x : CornerRec). length x.vals ≡ w) k ks wide in
    let place : suc i * w + j ≡ length k.vals + (i * w + j) = omega (arith, suc-mul i w) in
    ap (λ (n : ℕ). get_or (k.vals ++ rows_of ks) n e) place
    ∙ get_or-append-add k.vals (rows_of ks) (i * w + j) e
    ∙ at-rows ks w i j d e (All-tail (λ (x : CornerRec). length x.vals ≡ w) k ks wide) (omega arith) within

-- ---- THE FIXED LAYERS

uv_first : (layers : List Layer) (row : List ℤ) → take 1 layers ≡ fixed_layers.corners
    → option_map_or (λ n. place_in (offset layers n) row) (position (same_layer uv_layer) layers) origin
    ≡ place_in 0 row
uv_first [] row h = absurd (cc)
uv_first (l ∷ ls) row h =
    let same : l ≡ uv_layer = ap (λ (ms : List Layer). get_or ms 0 l) h in
    let first : nat_lt 0 (length (l ∷ ls)) ≡ true = lt-ltb 0 (length (l ∷ ls)) (omega arith) in
    rw (same, first) refl

-- a corner's place is what the first two numbers of its row tell
pub uv_fixed : (c : Complex) (k : CornerRec) → BeginsFixed c → uv_of c k ≡ place_in 0 k.vals
uv_fixed c k fixed = uv_first c.layers.corners k.vals fixed.corners

-- ---- EACH PLACE ONCE

pub same_symm : (p q : Uv) → same_uv p q ≡ same_uv q p
same_symm p q = ap₂ (λ (a b : Bool). a && b) (int_eq_equiv.symm p.u q.u) (int_eq_equiv.symm p.v q.v)

-- a place agrees with the same as one that agrees with it
same_congr : (p q r : Uv) → same_uv p q ≡ true → same_uv p r ≡ same_uv q r
same_congr p q r h =
    let both = and_parts (int_eq p.u q.u) (int_eq p.v q.v) h in
    ap₂ (λ (a b : Bool). a && b) (int_eq_equiv.congr p.u q.u r.u both.0) (int_eq_equiv.congr p.v q.v r.v both.1)

-- the places that differ from one
abbrev others : Uv → List Uv → List Uv
others p qs = filter (λ q. not (same_uv p q)) qs

any_cond : (x q : Uv) (a : Bool) (rest : List Uv) → (a ≡ true → same_uv x q ≡ false)
    → list_any (same_uv x) (cond (not a) (q ∷ rest) rest) ≡ (same_uv x q || list_any (same_uv x) rest)
any_cond x q true rest h = ap (λ (b : Bool). b || list_any (same_uv x) rest) (sym (h refl))
any_cond x q false rest h = refl

-- a place that differs from p is as much among the places that differ from p
any_others : (x p : Uv) (qs : List Uv) → same_uv x p ≡ false
    → list_any (same_uv x) (others p qs) ≡ list_any (same_uv x) qs
any_others x p [] differ = refl
any_others x p (q ∷ qs) differ =
    any_cond x q (same_uv p q) (others p qs) (λ same. same_symm x q ∙ sym (same_congr p q x same) ∙ same_symm p x
    ∙ differ)
    ∙ ap (λ (b : Bool). same_uv x q || b) (any_others x p qs differ)

any_either : (x p : Uv) (a : Bool) (ps : List Uv) → same_uv x p ≡ a
    → list_any (same_uv x) (distinct ps) ≡ list_any (same_uv x) ps
    → (a || list_any (same_uv x) (others p (distinct ps))) ≡ (a || list_any (same_uv x) ps)
any_either x p true ps is before = refl
any_either x p false ps is before = any_others x p (distinct ps) is ∙ before

-- as much among the distinct places
pub any_distinct : (x : Uv) (ps : List Uv) → list_any (same_uv x) (distinct ps) ≡ list_any (same_uv x) ps
any_distinct x [] = refl
any_distinct x (p ∷ ps) = any_either x p (same_uv x p) ps refl (any_distinct x ps)

-- a place more, if it is new
abbrev pushed : Bool → List Uv → Uv → List Uv
pushed among ps x = cond among ps (ps ++ x ∷ [])

others-last : (p x : Uv) (a : Bool) (qs : List Uv) → same_uv p x ≡ a
    → others p (qs ++ x ∷ []) ≡ pushed a (others p qs) x
others-last p x a qs is =
    filter-append (λ q. not (same_uv p q)) qs (x ∷ [])
    ∙ ap (λ (b : Bool). others p qs ++ cond (not b) (x ∷ []) []) is ∙ last a
  where
    last : (b : Bool) → others p qs ++ cond (not b) (x ∷ []) [] ≡ pushed b (others p qs) x
    last true = append-nil (others p qs)
    last false = refl

others-pushed : (p x : Uv) (a b : Bool) (qs : List Uv) → same_uv x p ≡ a
    → p ∷ others p (pushed b qs x) ≡ pushed (a || b) (p ∷ others p qs) x
others-pushed p x true true qs is = refl
others-pushed p x false true qs is = refl
others-pushed p x true false qs is = ap (λ (rs : List Uv). p ∷ rs) (others-last p x true qs (same_symm p x ∙ is))
others-pushed p x false false qs is = ap (λ (rs : List Uv). p ∷ rs) (others-last p x false qs (same_symm p x ∙ is))

distinct-push : (ps : List Uv) (x : Uv) → distinct (ps ++ x ∷ []) ≡ pushed (list_any (same_uv x) ps) (distinct ps) x
distinct-push [] x = refl
distinct-push (p ∷ ps) x =
    ap (λ (qs : List Uv). p ∷ others p qs) (distinct-push ps x)
    ∙ others-pushed p x (same_uv x p) (list_any (same_uv x) ps) (distinct ps) refl

-- the next place, if it is new
insert-distinct : (ps : List Uv) (x : Uv) → insert_key same_uv (distinct ps) x ≡ distinct (ps ++ x ∷ [])
insert-distinct ps x = ap (λ (b : Bool). pushed b (distinct ps) x) (any_distinct x ps) ∙ sym (distinct-push ps x)

-- the next places, as far as they are new
pub insert_all-distinct : (ps xs : List Uv) → insert_all same_uv (distinct ps) xs ≡ distinct (ps ++ xs)
insert_all-distinct ps [] = ap distinct (sym (append-nil ps))
insert_all-distinct ps (x ∷ xs) =
    ap (λ (qs : List Uv). insert_all same_uv qs xs) (insert-distinct ps x)
    ∙ insert_all-distinct (ps ++ x ∷ []) xs
    ∙ ap distinct (append_assoc ps (x ∷ []) xs)

-- ---- LOOPS

-- the next place of a list
pub insert_next : (keys before new xs : List Uv) (i : ℕ) (d : Uv) → i < length xs
    → before ≡ insert_all same_uv keys (take i xs)
    → new ≡ insert_key same_uv before (get_or xs i d) → new ≡ insert_all same_uv keys (take (i + 1) xs)
insert_next keys before new xs i d here so_far made =
    made ∙ ap (λ (ks : List Uv). insert_key same_uv ks (get_or xs i d)) so_far
    ∙ sym (fold_more (insert_key same_uv) keys xs i d here)

pub insert_done : (keys now xs : List Uv) (i : ℕ) → length xs ≤ i → now ≡ insert_all same_uv keys (take i xs)
    → now ≡ insert_all same_uv keys xs
insert_done keys now xs i past so_far = so_far ∙ ap (insert_all same_uv keys) (take_all i xs past)

-- the places of the faces below a name
abbrev pub places_to : Complex → ℕ → List Uv
places_to c n = distinct (map (uv_of c) (flat_map corners_of (take n c.faces)))

corners-next : (c : Complex) (n : ℕ) → n < length c.faces
    → flat_map corners_of (take (n + 1) c.faces)
    ≡ flat_map corners_of (take n c.faces) ++ corners_of (get_or c.faces n None)
corners-next c n here =
    ap (flat_map corners_of) (take_more c.faces n None here)
    ∙ flat_map-append corners_of (take n c.faces) (get_or c.faces n None ∷ [])
    ∙ ap (λ (ks : List CornerRec). flat_map corners_of (take n c.faces) ++ ks)
    (append-nil (corners_of (get_or c.faces n None)))

-- the places of a face more
pub places_next : (c : Complex) (n : ℕ) (found new : List Uv) → n < length c.faces → found ≡ places_to c n
    → new ≡ insert_all same_uv found (map (uv_of c) (corners_of (get_or c.faces n None))) → new ≡ places_to c (n + 1)
places_next c n found new here so_far made =
    let old = flat_map corners_of (take n c.faces) in
    let more = corners_of (get_or c.faces n None) in
    made ∙ ap (λ (ks : List Uv). insert_all same_uv ks (map (uv_of c) more)) so_far
    ∙ insert_all-distinct (map (uv_of c) old) (map (uv_of c) more)
    ∙ ap distinct (sym (map-append (uv_of c) old more))
    ∙ ap (λ (ks : List CornerRec). distinct (map (uv_of c) ks)) (sym (corners-next c n here))

pub places_all : (c : Complex) (n : ℕ) → length c.faces ≤ n → places_to c n ≡ places c
places_all c n past = ap (λ (fs : List (Option FaceRec)). distinct (map (uv_of c) (flat_map corners_of fs)))
    (take_all n c.faces past)

-- no corner where no face stands
pub none_there : (o : Option FaceRec) → is_some o ≡ false → corners_of o ≡ []
none_there None gone = refl
none_there (Some f) gone = absurd (cc)

-- a corner's place, by its row among the rows
pub uv_told : (c : Complex) (ks : List CornerRec) (w i : ℕ) (d : CornerRec) (rows : List ℤ) → BeginsFixed c
    → rows ≡ rows_of ks → AreWide w ks → i < length ks → 2 ≤ w
    → uv_of c (get_or ks i d) ≡ record { u = get_or rows (i * w) (pos 0); v = get_or rows (i * w + 1) (pos 0) }
uv_told c ks w i d rows fixed same are here wide =
    let k = get_or ks i d in
    let first : get_or rows (i * w) (pos 0) ≡ get_or k.vals 0 (pos 0) =
    ap₂ (λ (rs : List ℤ) (n : ℕ). get_or rs n (pos 0)) same (omega arith)
    ∙ at-rows ks w i 0 d (pos 0) are here (omega arith) in
    let next : get_or rows (i * w + 1) (pos 0) ≡ get_or k.vals 1 (pos 0) =
    ap (λ (rs : List ℤ). get_or rs (i * w + 1) (pos 0)) same ∙ at-rows ks w i 1 d (pos 0) are here (omega arith) in
    uv_fixed c k fixed ∙ ap₂ (λ (x y : ℤ). let r : Uv = record { u = x; v = y } in r) (sym first) (sym next)

two_wide : (layers : List Layer) → take 1 layers ≡ fixed_layers.corners → 2 ≤ total layers
two_wide [] h = absurd (cc)
two_wide (l ∷ ls) h =
    let same : l ≡ uv_layer = ap (λ (ms : List Layer). get_or ms 0 l) h in
    let first : l.width ≡ 2 = ap (λ (x : Layer). x.width) same in
    let all : total (l ∷ ls) ≡ l.width + total ls = sum_by-cons (λ (x : Layer). x.width) l ls in
    omega arith

-- a corner has two numbers at least
pub wide_fixed : (c : Complex) → BeginsFixed c → 2 ≤ width c Corners
wide_fixed c fixed = two_wide c.layers.corners fixed.corners

-- and at most 64
pub width_few : (c : Complex) → IsLinked c → width c Corners ≤ 64
width_few c linked = total-few c.layers.corners linked.layers.corners

-- a place more
pub uvs_next : (c : Complex) (ks : List CornerRec) (w i : ℕ) (d : CornerRec) (rows : List ℤ) (out new : List Uv)
    → BeginsFixed c → rows ≡ rows_of ks → AreWide w ks
    → i < length ks → 2 ≤ w → out ≡ map (uv_of c) (take i ks)
    → new ≡ out ++ record { u = get_or rows (i * w) (pos 0); v = get_or rows (i * w + 1) (pos 0) } ∷ []
    → new ≡ map (uv_of c) (take (i + 1) ks)
uvs_next c ks w i d rows out new fixed same wide here two so_far made =
    made ∙ ap₂ (λ (us : List Uv) (u : Uv). us ++ u ∷ []) so_far (sym (uv_told c ks w i d rows fixed same wide here two))
    ∙ sym (map-append (uv_of c) (take i ks) (get_or ks i d ∷ []))
    ∙ ap (map (uv_of c)) (sym (take_more ks i d here))

pub uvs_all : (c : Complex) (ks : List CornerRec) (i : ℕ) (out : List Uv) → length ks ≤ i
    → out ≡ map (uv_of c) (take i ks) → out ≡ map (uv_of c) ks
uvs_all c ks i out past so_far = so_far ∙ ap (map (uv_of c)) (take_all i ks past)
