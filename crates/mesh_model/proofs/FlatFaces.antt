-- The table of faces in flat columns: what stands at a name, and how corners and faces more change it.
use Rattle.std.proofs.Common.{◌≡◌, ℕ, zero, suc, ◌+◌, ◌-◌, ◌<◌, ◌≤◌, ℤ, true, List, [], ◌∷◌, ◌++◌, length, get_or, set}
use Rattle.std.proofs.Common.{map, take, drop, refl, sym, ap, subst, ◌∙◌, arith, Option, Some, None, is_some, inl, inr}
use Rattle.std.proofs.Common.{add-one, ltb}
use Rattle.std.specs.List.{All, slice_get, zip}
use Rattle.std.specs.Option.{option_map}
use Rattle.std.proofs.lemmas.Option.{slice_get-get_or}
use Rattle.std.proofs.lemmas.Bool.{cases_eq, cases_lt}
use Rattle.std.proofs.lemmas.Bool.Decides.{nat_tests}
use Rattle.std.proofs.lemmas.List.{get_or-set_same, get_or-set_other, length-set, get_or-take, length-map, length-take}
use Rattle.std.proofs.lemmas.List.{length-drop, take_more_set, take-set-le, map-set, drop-append-le, drop_all}
use Rattle.std.proofs.lemmas.List.{get_or-drop, same_lists, take-take, get_or-map, get_or_default}
use Rattle.std.proofs.lemmas.Slice.Zip.{length-zip, get_or-zip}
use Rattle.std.proofs.lemmas.List.FromFn.{sum_by-map-range_with_len_more}
use Rattle.cust_data.specs.Layers.{Layer}
use Rattle.mesh_model.specs.Table.{at, IsThere, table_of}
use Rattle.mesh_model.specs.Complex.{corners_of, corner_sum}
use Rattle.mesh_model.specs.Columns.{FaceTable, row_at, start_of, side_of, corner_of, corners_at, span, face_of}
use Rattle.mesh_model.specs.Columns.{face_at, AreFaceColumns}
use Rattle.mesh_model.proofs.Tables.{at-table_of, past-table_of, table_of-same}
use Rattle.mesh_model.proofs.FlatTables.{table_of-push, there-within}
use Rattle.mesh_model.specs.declared.face_columns.Side.{Side}
use Rattle.mesh_model.specs.declared.records.CornerRec.{CornerRec}
use Rattle.mesh_model.specs.declared.records.FaceRec.{FaceRec}

abbrev pub no_side : Side
no_side = record { vert = record { 0 = 0 }; edge = record { 0 = 0 } }

-- ---- CORNERS AT PLACES

zip-set : {X Y : Type 0} (xs : List X) (ys : List Y) (i : ℕ) (x : X) (y : Y)
    → zip (set xs i x) (set ys i y) ≡ set (zip xs ys) i (x, y)
zip-set [] ys i x y = refl
zip-set (a ∷ xs) [] zero x y = refl
zip-set (a ∷ xs) [] (suc i) x y = refl
zip-set (a ∷ xs) (b ∷ ys) zero x y = refl
zip-set {X = X} {Y = Y} (a ∷ xs) (b ∷ ys) (suc i) x y = ap (λ (ps : List (X × Y)). (a, b) ∷ ps) (zip-set xs ys i x y)

corners_at-set : (sides : List Side) (rows : List (List ℤ)) (i : ℕ) (s : Side) (row : List ℤ)
    → corners_at (set sides i s) (set rows i row) ≡ set (corners_at sides rows) i (corner_of (s, row))
corners_at-set sides rows i s row = ap (map corner_of) (zip-set sides rows i s row)
    ∙ map-set corner_of (zip sides rows) i (s, row)

length-corners_at : (sides : List Side) (rows : List (List ℤ)) → length sides ≤ length rows
    → length (corners_at sides rows) ≡ length sides
length-corners_at sides rows long = omega (arith, length-map (zip sides rows) corner_of, length-zip sides rows)

get_or-corners_at : (sides : List Side) (rows : List (List ℤ)) (k : ℕ) (d : CornerRec) → length sides ≤ length rows
    → k < length sides → get_or (corners_at sides rows) k d ≡ corner_of (get_or sides k no_side, row_at rows k)
get_or-corners_at sides rows k d long less =
    get_or-map corner_of (zip sides rows) k (no_side, []) d (omega (arith, length-zip sides rows))
    ∙ ap corner_of (get_or-zip sides rows k (no_side, []) less (omega arith))

-- columns of corners that agree below a place
pub take-corners_at : (sides sides' : List Side) (rows rows' : List (List ℤ)) (n : ℕ) → n ≤ length sides
    → n ≤ length sides' → length sides ≤ length rows → length sides' ≤ length rows'
    → ((k : ℕ) (d : Side) → k < n → get_or sides' k d ≡ get_or sides k d)
    → ((k : ℕ) (d : List ℤ) → k < n → get_or rows' k d ≡ get_or rows k d)
    → take n (corners_at sides' rows') ≡ take n (corners_at sides rows)
take-corners_at sides sides' rows rows' n few few' long long' s r =
    let there = length-corners_at sides rows long in
    let there' = length-corners_at sides' rows' long' in
    same_lists (take n (corners_at sides' rows')) (take n (corners_at sides rows))
    (omega (arith, length-take n (corners_at sides rows), length-take n (corners_at sides' rows')))
    (λ k d less.
    let under : k < n = omega (arith, length-take n (corners_at sides' rows')) in
    get_or-take n (corners_at sides' rows') k d under ∙ get_or-corners_at sides' rows' k d long' (omega arith)
    ∙ ap corner_of (ap (λ (x : Side). (x, row_at rows' k)) (s k no_side under)
    ∙ ap (λ (x : List ℤ). (get_or sides k no_side, x)) (r k [] under))
    ∙ sym (get_or-corners_at sides rows k d long (omega arith)) ∙ sym (get_or-take n (corners_at sides rows) k d under))

-- ---- SPANS

span-same : {X : Type 0} (xs ys : List X) (n from until : ℕ) → take n xs ≡ take n ys → until ≤ n
    → span xs from until ≡ span ys from until
span-same xs ys n from until same few = ap (drop from) (sym (take-take until n xs few) ∙ ap (take until) same
    ∙ take-take until n ys few)

span-push : {X : Type 0} (xs : List X) (from n : ℕ) (x : X) → n < length xs → from ≤ n
    → span (set xs n x) from (n + 1) ≡ span xs from n ++ x ∷ []
span-push xs from n x less few = ap (drop from) (take_more_set xs n x less)
    ∙ drop-append-le from (take n xs) (x ∷ []) (omega (arith, length-take n xs))

span-none : {X : Type 0} (xs : List X) (n : ℕ) → span xs n n ≡ []
span-none xs n = drop_all n (take n xs) (omega (arith, length-take n xs))

length-span : {X : Type 0} (xs : List X) (from until : ℕ) → until ≤ length xs
    → length (span xs from until) ≡ until - from
length-span xs from until long = omega (arith, length-drop from (take until xs), length-take until xs)

slice_get-span : {X : Type 0} (xs : List X) (from until i : ℕ) (d : X) → i < until - from → until ≤ length xs
    → slice_get (span xs from until) i ≡ Some (get_or xs (from + i) d)
slice_get-span {X = X} xs from until i d less long =
    let place : get_or (span xs from until) i d ≡ get_or xs (from + i) d = get_or-drop from (take until xs) i d
    ∙ get_or-take until xs (from + i) d (omega arith) in
    slice_get-get_or (span xs from until) i d (omega (arith, length-span xs from until long))
    ∙ ap (λ (x : X). Some x) place

-- ---- WHERE CORNERS START AND END

start_of-more : (ends : List ℕ) (k : ℕ) → start_of ends (k + 1) ≡ get_or ends k 0
start_of-more ends k = rw add-one refl

start_of-same : (ends ends' : List ℕ) (n k : ℕ) → ((j : ℕ) → j < n → get_or ends' j 0 ≡ get_or ends j 0) → k ≤ n
    → start_of ends' k ≡ start_of ends k
start_of-same ends ends' n zero same few = refl
start_of-same ends ends' n (suc k) same few = same k (omega arith)

starts-rise : (ends : List ℕ) (n : ℕ) → ((k : ℕ) → k < n → start_of ends k ≤ get_or ends k 0) → (j m : ℕ) → j ≤ m
    → m ≤ n → start_of ends j ≤ start_of ends m
starts-rise ends n rising zero m below few = omega arith
starts-rise ends n rising (suc j) zero below few = absurd (omega arith)
starts-rise ends n rising (suc j) (suc m) below few = elim (cases_eq j m) [
  | inl same ↦ rw same (omega arith)
  | inr other ↦ let before = starts-rise ends n rising (suc j) m (omega arith) (omega arith) in let step =
      rising m (omega arith) in omega arith
]

-- a face's corners are among those that are there
pub end-below : (ends : List ℕ) (n m : ℕ) → ((k : ℕ) → k < n → start_of ends k ≤ get_or ends k 0) → start_of ends n ≤ m
    → (k : ℕ) → k < n → get_or ends k 0 ≤ m
end-below ends n m rising last k less = let up = starts-rise ends n rising (suc k) n (omega arith) (omega arith) in
    omega arith

-- ---- FACES

corners_of-face_of : (ks : List CornerRec) (row : List ℤ) → corners_of (face_of ks row) ≡ ks
corners_of-face_of [] row = refl
corners_of-face_of (k ∷ ks) row = refl

is_some-face_of : (ks : List CornerRec) (row : List ℤ) → is_some (face_of ks row) ≡ ltb 0 (length ks)
is_some-face_of [] row = refl
is_some-face_of (k ∷ ks) row = grind (arith, nat_tests)

face_at-same : (ends ends' : List ℕ) (corners corners' : List CornerRec) (rows rows' : List (List ℤ)) (n k : ℕ)
    → start_of ends' k ≡ start_of ends k → get_or ends' k 0 ≡ get_or ends k 0
    → take n corners' ≡ take n corners → get_or ends k 0 ≤ n → row_at rows' k ≡ row_at rows k
    → face_at ends' corners' rows' k ≡ face_at ends corners rows k
face_at-same ends ends' corners corners' rows rows' n k start end same few row =
    rw (start, end, row)
    (ap (λ (ks : List CornerRec). face_of ks (row_at rows k))
    (span-same corners' corners n (start_of ends k) (get_or ends k 0) same few))

-- columns that agree have the same faces and the same open corners
pub table_of-face_same : (ends ends' : List ℕ) (corners corners' : List CornerRec) (rows rows' : List (List ℤ))
    (n m : ℕ)
    → ((k : ℕ) → k < n → start_of ends k ≤ get_or ends k 0) → start_of ends n ≤ m
    → ((k : ℕ) → k < n → get_or ends' k 0 ≡ get_or ends k 0) → take m corners' ≡ take m corners
    → ((k : ℕ) → k < n → row_at rows' k ≡ row_at rows k)
    → table_of (face_at ends' corners' rows') n ≡ table_of (face_at ends corners rows) n
table_of-face_same ends ends' corners corners' rows rows' n m rising last e c r =
    table_of-same (face_at ends' corners' rows') (face_at ends corners rows) n
    (λ k less. face_at-same ends ends' corners corners' rows rows' m k (start_of-same ends ends' n k e (omega arith))
    (e k less) c (end-below ends n m rising last k less) (r k less))

pub open-same : (ends ends' : List ℕ) (corners corners' : List CornerRec) (n m : ℕ)
    → ((k : ℕ) → k < n → get_or ends' k 0 ≡ get_or ends k 0) → take m corners' ≡ take m corners
    → span corners' (start_of ends' n) m ≡ span corners (start_of ends n) m
open-same ends ends' corners corners' n m e c =
    ap (λ (k : ℕ). span corners' k m) (start_of-same ends ends' n n e (omega arith))
    ∙ span-same corners' corners m (start_of ends n) m c (omega arith)

-- the view of the columns of faces
abbrev pub face_table : List ℕ → List Side → List (List ℤ) → List (List ℤ) → List Layer → List Layer → ℕ → ℕ → FaceTable
face_table ends sides corner_rows rows corner_layers layers n m = let corners = corners_at sides corner_rows in record {
  table = table_of (face_at ends corners rows) n;
  «open» = span corners (start_of ends n) m;
  corner_layers = corner_layers;
  layers = layers;
  corner_room = length sides - m;
  room = length ends - n;
}

pub face_table-corner : (ends : List ℕ) (sides : List Side) (crows rows : List (List ℤ)) (clayers layers : List Layer)
    (n m : ℕ) (s : Side) (row : List ℤ) → AreFaceColumns ends sides crows rows n m → 0 < length sides - m
    → face_table ends (set sides m s) (set crows m row) rows clayers layers n (m + 1)
    ≡ record {
      table = table_of (face_at ends (corners_at sides crows) rows) n;
      «open» = span (corners_at sides crows) (start_of ends n) m ++ record {
        vert = s.vert;
        edge = s.edge;
        vals =
            row;
      } ∷ [];
      corner_layers = clayers;
      layers = layers;
      corner_room = length sides - m - 1;
      room = length ends - n;
    }
face_table-corner ends sides crows rows clayers layers n m s row are room =
    let corners = corners_at sides crows in
    let written = corners_at-set sides crows m s row in
    let long : m < length corners = let e = length-corners_at sides crows are.corners_valued in omega arith in
    let same : take m (set corners m (corner_of (s, row))) ≡ take m corners =
    take-set-le m corners m (corner_of (s, row)) (omega arith) in
    let table = table_of-face_same ends ends corners (set corners m (corner_of (s, row)))
    rows rows n m are.rising are.last (λ k less. refl) same (λ k less. refl) in
    let more = span-push corners (start_of ends n) m (corner_of (s, row)) long are.last in
    let left : length (set sides m s) - (m + 1) ≡ length sides - m - 1 = omega (arith, length-set sides m s) in
    rw (written, table, more, left) refl

pub face_table-close : (ends : List ℕ) (sides : List Side) (crows rows rows' : List (List ℤ))
    (clayers layers : List Layer) (n m : ℕ) (row : List ℤ) → AreFaceColumns ends sides crows rows n m
    → 0 < length ends - n
    → ((k : ℕ) → k < n → row_at rows' k ≡ row_at rows k) → row_at rows' n ≡ row
    → face_table (set ends n m) sides crows rows' clayers layers (n + 1) m
    ≡ record {
      table = table_of (face_at ends (corners_at sides crows) rows) n
          ++ face_of (span (corners_at sides crows) (start_of ends n) m) row ∷ [];
      «open» = [];
      corner_layers = clayers;
      layers = layers;
      corner_room = length sides - m;
      room = length ends - n - 1;
    }
face_table-close ends sides crows rows rows' clayers layers n m row are room same here =
    let corners = corners_at sides crows in
    let less : n < length ends = omega arith in
    let end : get_or (set ends n m) n 0 ≡ m = get_or-set_same ends n m 0 less in
    let others : (k : ℕ) → k < n → get_or (set ends n m) k 0 ≡ get_or ends k 0 =
    λ k under. get_or-set_other ends n k m 0 (λ e. absurd (omega arith)) in
    let start : start_of (set ends n m) n ≡ start_of ends n =
    start_of-same ends (set ends n m) n n others (omega arith) in
    let f = face_at ends corners rows in
    let g = face_at (set ends n m) corners rows' in
    let table = table_of-push f g n (face_of (span corners (start_of ends n) m) row)
    (λ k under. face_at-same ends (set ends n m) corners corners rows rows' m k
    (start_of-same ends (set ends n m) n k others (omega arith)) (others k under) refl
    (end-below ends n m are.rising are.last k under) (same k under))
    (rw (start, end, here) refl) in
    let none : span corners (start_of (set ends n m) (n + 1)) m ≡ [] =
    ap (λ (k : ℕ). span corners k m) (start_of-more (set ends n m) n ∙ end) ∙ span-none corners m in
    let left : length (set ends n m) - (n + 1) ≡ length ends - n - 1 = omega (arith, length-set ends n m) in
    rw (table, none, left) refl

pub AreFaceColumns-close : (ends : List ℕ) (sides : List Side) (crows rows rows' : List (List ℤ)) (n m : ℕ)
    → AreFaceColumns ends sides crows rows n m → n < length ends → length rows' ≡ length rows
    → AreFaceColumns (set ends n m) sides crows rows' (n + 1) m
AreFaceColumns-close ends sides crows rows rows' n m are less same =
    let end : get_or (set ends n m) n 0 ≡ m = get_or-set_same ends n m 0 less in
    let others : (k : ℕ) → k < n → get_or (set ends n m) k 0 ≡ get_or ends k 0 =
    λ k under. get_or-set_other ends n k m 0 (λ e. absurd (omega arith)) in
    let long = length-set ends n m in
    let start : (k : ℕ) → k ≤ n → start_of (set ends n m) k ≡ start_of ends k =
    λ k few. start_of-same ends (set ends n m) n k others few in
    record {
      few = omega arith;
      valued = let valued = are.valued in omega arith;
      few_corners = are.few_corners;
      corners_valued = are.corners_valued;
      rising = λ k under. elim (cases_eq k n) [
        | inl same_k ↦ let P : ℕ → Type 0 = λ j. start_of (set ends n m) j ≤ get_or (set ends n m) j 0 in
            subst P (sym same_k) (rw (start n (omega arith), end) are.last)
        | inr other ↦ rw (start k (omega arith), others k (omega arith)) (are.rising k (omega arith))
      ];
      last = rw (start_of-more (set ends n m) n, end) (omega arith);
    }

-- ---- WHAT IS READ

-- how many corners the faces have
pub corner_sum-faces : (ends : List ℕ) (corners : List CornerRec) (rows : List (List ℤ)) (n : ℕ)
    → ((k : ℕ) → k < n → start_of ends k ≤ get_or ends k 0) → ((k : ℕ) → k < n → get_or ends k 0 ≤ length corners)
    → corner_sum (table_of (face_at ends corners rows) n) ≡ start_of ends n
corner_sum-faces ends corners rows zero rising below = refl
corner_sum-faces ends corners rows (suc n) rising below =
    let count : Option FaceRec → ℕ = λ f. length (corners_of f) in
    let before = corner_sum-faces ends corners rows n (λ k less. rising k (omega arith))
    (λ k less. below k (omega arith)) in
    let here : count (face_at ends corners rows n) ≡ get_or ends n 0 - start_of ends n =
    ap length (corners_of-face_of (span corners (start_of ends n) (get_or ends n 0)) (row_at rows n))
    ∙ length-span corners (start_of ends n) (get_or ends n 0) (below n (omega arith)) in
    let up = rising n (omega arith) in
    let more : corner_sum (table_of (face_at ends corners rows) (n + 1))
    ≡ corner_sum (table_of (face_at ends corners rows) n) + count (face_at ends corners rows n) =
    sum_by-map-range_with_len_more count (face_at ends corners rows) 0 n n (omega arith) in
    let next : n + 1 ≡ suc n = add-one n in
    ap (λ (k : ℕ). corner_sum (table_of (face_at ends corners rows) k)) (sym next) ∙ more ∙ omega arith

-- the corners of a name
pub corners-face : (ends : List ℕ) (sides : List Side) (crows rows : List (List ℤ)) (n m k : ℕ)
    → AreFaceColumns ends sides crows rows n m → k < n
    → corners_of (at (table_of (face_at ends (corners_at sides crows) rows) n) k)
    ≡ span (corners_at sides crows) (start_of ends k) (get_or ends k 0)
corners-face ends sides crows rows n m k are less =
    ap corners_of (at-table_of (face_at ends (corners_at sides crows) rows) n k less)
    ∙ corners_of-face_of _ (row_at rows k)

pub end-within : (ends : List ℕ) (sides : List Side) (crows rows : List (List ℤ)) (n m k : ℕ)
    → AreFaceColumns ends sides crows rows n m → k < n → get_or ends k 0 ≤ length (corners_at sides crows)
end-within ends sides crows rows n m k are less =
    let end = end-below ends n m are.rising are.last k less in
    let long = length-corners_at sides crows are.corners_valued in
    let few = are.few_corners in
    omega arith

pub corner_count-face : (ends : List ℕ) (sides : List Side) (crows rows : List (List ℤ)) (n m k : ℕ)
    → AreFaceColumns ends sides crows rows n m → k < n
    → length (corners_of (at (table_of (face_at ends (corners_at sides crows) rows) n) k))
    ≡ get_or ends k 0 - start_of ends k
corner_count-face ends sides crows rows n m k are less =
    ap length (corners-face ends sides crows rows n m k are less)
    ∙ length-span (corners_at sides crows) (start_of ends k) (get_or ends k 0)
    (end-within ends sides crows rows n m k are less)

ltb_gap : (s e : ℕ) → ltb 0 (e - s) ≡ ltb s e
ltb_gap s e = grind (arith, nat_tests)

pub is_there-face : (ends : List ℕ) (sides : List Side) (crows rows : List (List ℤ)) (n m k : ℕ)
    → AreFaceColumns ends sides crows rows n m → k < n
    → is_some (at (table_of (face_at ends (corners_at sides crows) rows) n) k) ≡ ltb (start_of ends k) (get_or ends k 0)
is_there-face ends sides crows rows n m k are less =
    ap is_some (at-table_of (face_at ends (corners_at sides crows) rows) n k less)
    ∙ is_some-face_of (span (corners_at sides crows) (start_of ends k) (get_or ends k 0)) (row_at rows k)
    ∙ ap (ltb 0) (length-span (corners_at sides crows) (start_of ends k) (get_or ends k 0)
    (end-within ends sides crows rows n m k are less)) ∙ ltb_gap (start_of ends k) (get_or ends k 0)

-- a name with corners has a face
pub has-corners : (f : ℕ → Option FaceRec) (n k i : ℕ) → i < length (corners_of (at (table_of f n) k)) → k < n
has-corners f n k i less =
    elim (cases_lt k n) [
      | inl under ↦ under
      | inr over ↦ absurd (let none = past-table_of f n k over in let h =
          rw none at less in omega arith)
    ]

-- a corner of a face
pub corner-face : (ends : List ℕ) (sides : List Side) (crows rows : List (List ℤ)) (n m k i : ℕ)
    → AreFaceColumns ends sides crows rows n m
    → i < length (corners_of (at (table_of (face_at ends (corners_at sides crows) rows) n) k))
    → slice_get (corners_of (at (table_of (face_at ends (corners_at sides crows) rows) n) k)) i
    ≡ Some (corner_of (get_or sides (start_of ends k + i) no_side, row_at crows (start_of ends k + i)))
corner-face ends sides crows rows n m k i are within =
    let less = has-corners (face_at ends (corners_at sides crows) rows) n k i within in
    let none : CornerRec = corner_of (no_side, []) in
    let count = corner_count-face ends sides crows rows n m k are less in
    let end = end-within ends sides crows rows n m k are less in
    let long = length-corners_at sides crows are.corners_valued in
    ap (λ (ks : List CornerRec). slice_get ks i) (corners-face ends sides crows rows n m k are less)
    ∙ slice_get-span (corners_at sides crows) (start_of ends k) (get_or ends k 0) i none (omega arith) end
    ∙ ap (λ (x : CornerRec). Some x) (get_or-corners_at sides crows (start_of ends k + i) none are.corners_valued
    (omega arith))

-- its place
pub corner-within : (ends : List ℕ) (sides : List Side) (crows rows : List (List ℤ)) (n m k i : ℕ)
    → AreFaceColumns ends sides crows rows n m
    → i < length (corners_of (at (table_of (face_at ends (corners_at sides crows) rows) n) k))
    → start_of ends k + i < length sides
corner-within ends sides crows rows n m k i are within =
    let less = has-corners (face_at ends (corners_at sides crows) rows) n k i within in
    let count = corner_count-face ends sides crows rows n m k are less in
    let end = end-below ends n m are.rising are.last k less in
    let few = are.few_corners in
    omega arith

-- a face that stands has its row
pub number-face : (ends : List ℕ) (corners : List CornerRec) (rows : List (List ℤ)) (n k i : ℕ) (v : ℤ)
    → IsThere (table_of (face_at ends corners rows) n) k → slice_get (row_at rows k) i ≡ Some v
    → option_map (λ (r : FaceRec). slice_get r.vals i) (at (table_of (face_at ends corners rows) n) k) ≡ Some (Some v)
number-face ends corners rows n k i v stood read =
    let less = there-within (face_at ends corners rows) n k stood in
    let here = at-table_of (face_at ends corners rows) n k less in
    ap (option_map (λ (r : FaceRec). slice_get r.vals i)) here
    ∙ row_read (span corners (start_of ends k) (get_or ends k 0)) (rw here at stood)
    ∙ ap (λ (o : Option ℤ). Some o) read
  where
    row_read : (ks : List CornerRec) → is_some (face_of ks (row_at rows k)) ≡ true
        → option_map (λ (r : FaceRec). slice_get r.vals i) (face_of ks (row_at rows k))
        ≡ Some (slice_get (row_at rows k) i)
    row_read [] none = absurd (cc)
    row_read (c ∷ cs) some = refl

pub sum-faces : (ends : List ℕ) (sides : List Side) (crows rows : List (List ℤ)) (n m : ℕ)
    → AreFaceColumns ends sides crows rows n m
    → corner_sum (table_of (face_at ends (corners_at sides crows) rows) n) ≡ start_of ends n
sum-faces ends sides crows rows n m are =
    corner_sum-faces ends (corners_at sides crows) rows n are.rising
    (λ k less. end-within ends sides crows rows n m k are less)

pub length-open : (ends : List ℕ) (sides : List Side) (crows rows : List (List ℤ)) (n m : ℕ)
    → AreFaceColumns ends sides crows rows n m
    → length (span (corners_at sides crows) (start_of ends n) m) ≡ m - start_of ends n
length-open ends sides crows rows n m are =
    length-span (corners_at sides crows) (start_of ends n) m (let few = are.few_corners in
    omega (arith, length-corners_at sides crows are.corners_valued))

pub face_table-skip : (ends : List ℕ) (sides : List Side) (crows rows : List (List ℤ)) (clayers layers : List Layer)
    (n m : ℕ) → AreFaceColumns ends sides crows rows n m → 0 < length ends - n
    → span (corners_at sides crows) (start_of ends n) m ≡ []
    → face_table (set ends n m) sides crows rows clayers layers (n + 1) m
    ≡ record {
      table = table_of (face_at ends (corners_at sides crows) rows) n ++ None ∷ [];
      «open» = span (corners_at sides crows) (start_of ends n) m;
      corner_layers = clayers;
      layers = layers;
      corner_room = length sides - m;
      room = length ends - n - 1;
    }
face_table-skip ends sides crows rows clayers layers n m are room none =
    face_table-close ends sides crows rows rows clayers layers n m (row_at rows n) are room (λ k less. refl) refl
    ∙ rw none refl

-- more places, and nothing else
pub face_table-grown : (ends ends' : List ℕ) (sides sides' : List Side) (crows crows' rows rows' : List (List ℤ))
    (clayers layers : List Layer) (n m : ℕ) → AreFaceColumns ends sides crows rows n m
    → ((k : ℕ) → k < n → get_or ends' k 0 ≡ get_or ends k 0)
    → take m (corners_at sides' crows') ≡ take m (corners_at sides crows)
    → ((k : ℕ) → k < n → row_at rows' k ≡ row_at rows k)
    → face_table ends' sides' crows' rows' clayers layers n m
    ≡ record {
      table = table_of (face_at ends (corners_at sides crows) rows) n;
      «open» = span (corners_at sides crows) (start_of ends n) m;
      corner_layers = clayers;
      layers = layers;
      corner_room = length sides' - m;
      room = length ends' - n;
    }
face_table-grown ends ends' sides sides' crows crows' rows rows' clayers layers n m are e c r =
    rw (
      table_of-face_same ends ends' (corners_at sides crows) (corners_at sides' crows')
          rows rows' n m are.rising are.last e c r,
      open-same ends ends' (corners_at sides crows) (corners_at sides' crows') n m e c,
    ) refl

-- a corner whose vertex and edge were read
pub side-face : (ends : List ℕ) (sides : List Side) (crows rows : List (List ℤ)) (n m k i : ℕ) (s : Side)
    → AreFaceColumns ends sides crows rows n m
    → i < length (corners_of (at (table_of (face_at ends (corners_at sides crows) rows) n) k))
    → s ≡ get_or sides (start_of ends k + i) s
    → option_map side_of (slice_get (corners_of (at (table_of (face_at ends (corners_at sides crows) rows) n) k)) i)
    ≡ Some s
side-face ends sides crows rows n m k i s are within read =
    let less = corner-within ends sides crows rows n m k i are within in
    ap (option_map side_of) (corner-face ends sides crows rows n m k i are within)
    ∙ ap (λ (x : Side). Some x) (get_or_default sides (start_of ends k + i) no_side s less ∙ sym read)

-- a number of a corner's row
pub number-corner : (ends : List ℕ) (sides : List Side) (crows rows : List (List ℤ)) (n m k i j : ℕ) (v : ℤ)
    → AreFaceColumns ends sides crows rows n m
    → i < length (corners_of (at (table_of (face_at ends (corners_at sides crows) rows) n) k))
    → slice_get (row_at crows (start_of ends k + i)) j ≡ Some v
    → option_map (λ (r : CornerRec). slice_get r.vals j)
    (slice_get (corners_of (at (table_of (face_at ends (corners_at sides crows) rows) n) k)) i) ≡ Some (Some v)
number-corner ends sides crows rows n m k i j v are within read =
    ap (option_map (λ (r : CornerRec). slice_get r.vals j)) (corner-face ends sides crows rows n m k i are within)
    ∙ ap (λ (o : Option ℤ). Some o) read

-- a corner's row
pub vals-corner : (ends : List ℕ) (sides : List Side) (crows rows : List (List ℤ)) (n m k i : ℕ)
    → AreFaceColumns ends sides crows rows n m
    → i < length (corners_of (at (table_of (face_at ends (corners_at sides crows) rows) n) k))
    → option_map (λ (r : CornerRec). r.vals)
    (slice_get (corners_of (at (table_of (face_at ends (corners_at sides crows) rows) n) k)) i)
    ≡ Some (row_at crows (start_of ends k + i))
vals-corner ends sides crows rows n m k i are within =
    ap (option_map (λ (r : CornerRec). r.vals)) (corner-face ends sides crows rows n m k i are within)

-- which is as wide as all rows
pub wide-corner : (ends : List ℕ) (sides : List Side) (crows rows : List (List ℤ)) (n m k i w : ℕ)
    → AreFaceColumns ends sides crows rows n m → All (λ (r : List ℤ). length r ≡ w) crows
    → i < length (corners_of (at (table_of (face_at ends (corners_at sides crows) rows) n) k))
    → length (row_at crows (start_of ends k + i)) ≡ w
wide-corner ends sides crows rows n m k i w are fitted within =
    let less = corner-within ends sides crows rows n m k i are within in
    let valued = are.corners_valued in
    fitted (start_of ends k + i) [] (omega arith)
