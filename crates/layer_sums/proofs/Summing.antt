-- The rows of a valid complex, name by name.
use Rattle.std.proofs.Common.{◌≡◌, ◌∙◌, ◌<◌, ◌≤◌, ◌+◌, ◌*◌, ◌++◌, ℕ, zero, suc, ℤ, pos, neg_ℤ, ◌≤ℤ◌, Bool, true, false, List, [], ◌∷◌}
use Rattle.std.proofs.Common.{length, get_or, map, take, drop, refl, sym, ap, subst, arith, Option, Some, None, is_some, int_le}
use Rattle.std.specs.List.{All, list_all, flat_map, fold, sum_by}
use Rattle.std.specs.Option.{option_map}
use Rattle.std.proofs.lemmas.Bool.{and_parts}
use Rattle.std.proofs.lemmas.Int.{ints}
use Rattle.std.proofs.lemmas.List.{append-nil, length-append, length-map, take_more, take_all, take-append-drop}
use Rattle.std.proofs.lemmas.List.{drop_more, length-take-le, get_or-take}
use Rattle.std.proofs.lemmas.List.Concat.{flat_map-append}
use Rattle.std.proofs.lemmas.List.Elements.{All-nil, All-append}
use Rattle.std.proofs.lemmas.List.Sums.{fold-append, fold_more, sum_by-cons}
use Rattle.std.proofs.Math.Seq.{take-append_seam, drop-append_seam}
use Rattle.cust_data.specs.Layers.{zeros}
use Rattle.mesh_model.specs.Complex.{Complex, width, corner_sum, corners_of}
use Rattle.mesh_model.specs.Table.{at}
use Rattle.mesh_model.specs.Valid.{IsValid, is_in_range}
use Rattle.mesh_model.specs.declared.names.Kind.{Kind}
use Rattle.mesh_model.specs.declared.names.Kind.TheVariants.{Verts, Edges, Corners, Faces}
use Rattle.mesh_model.specs.declared.records.VertRec.{VertRec}
use Rattle.mesh_model.specs.declared.records.EdgeRec.{EdgeRec}
use Rattle.mesh_model.specs.declared.records.CornerRec.{CornerRec}
use Rattle.mesh_model.specs.declared.records.FaceRec.{FaceRec}
use Rattle.mesh_model.proofs.Lists.{list_all-All}
use Rattle.layer_sums.specs.Sums.{vert_rows, edge_rows, face_rows, corner_rows, rows_of, rows_at, names_of, row_sums}
use Rattle.layer_sums.specs.Sums.{plus, AreWithin}
use Rattle.layer_sums.proofs.Bounds.{IsRow, within_fold, within_more, within_zeros, length-fold}
use Rattle.mesh_model.proofs.Zeros.{length-zeros}

-- ---- ROWS ARE RIGHT

-- values in range are one value each
in_bounds : (x : ℤ) → is_in_range x ≡ true → (neg_ℤ (pos (1 * 1000000000)) ≤ℤ x) × (x ≤ℤ pos (1 * 1000000000))
in_bounds x h =
    let both = and_parts (int_le (neg_ℤ (pos 1000000000)) x) (int_le x (pos 1000000000)) h in
    (omega (arith, ints, both.0), omega (arith, ints, both.1))

pub small_row : (row : List ℤ) → list_all is_in_range row ≡ true → AreWithin 1 row
small_row row h k d less = in_bounds (get_or row k d) (list_all-All is_in_range row h k d less)

one_row : (w : ℕ) (row : List ℤ) → IsRow w row → All (IsRow w) (row ∷ [])
one_row w row is zero d less = is
one_row w row is (suc k) d less = absurd (omega arith)

-- the rows at a name have as many numbers as their kind is wide, all in range
pub right_at : (c : Complex) → IsValid c → (kind : Kind) (n : ℕ) → All (IsRow (width c kind)) (rows_at c kind n)
right_at c h Verts n = go (at c.verts n) refl
  where
    go : (o : Option VertRec) → at c.verts n ≡ o → All (IsRow (width c Verts)) (vert_rows o)
    go None is = All-nil (IsRow (width c Verts))
    go (Some r) is = one_row (width c Verts) r.vals
        (record { long = (h.linked.verts n r is).vals; small = small_row r.vals (h.verts n r is).vals })
right_at c h Edges n = go (at c.edges n) refl
  where
    go : (o : Option EdgeRec) → at c.edges n ≡ o → All (IsRow (width c Edges)) (edge_rows o)
    go None is = All-nil (IsRow (width c Edges))
    go (Some e) is = one_row (width c Edges) e.vals
        (record { long = (h.linked.edges n e is).vals; small = small_row e.vals (h.edges n e is).vals })
right_at c h Corners n = go (at c.faces n) refl
  where
    each : (ks : List CornerRec) → All (λ (k : CornerRec). IsRow (width c Corners) k.vals) ks
        → All (IsRow (width c Corners)) (map (λ (k : CornerRec). k.vals) ks)
    each [] are k d less = absurd (omega arith)
    each (x ∷ ks) are zero d less = are 0 x (omega arith)
    each (x ∷ ks) are (suc k) d less = each ks (λ j e low. are (suc j) e (omega arith)) k d (omega arith)

    go : (o : Option FaceRec) → at c.faces n ≡ o → All (IsRow (width c Corners)) (corner_rows o)
    go None is = All-nil (IsRow (width c Corners))
    go (Some f) is = each f.corners (λ k d less. record {
      long = ((h.linked.faces n f is).corners k d less).vals;
      small = small_row (get_or f.corners k d).vals ((h.faces n f is).corners k d less).vals;
    })
right_at c h Faces n = go (at c.faces n) refl
  where
    go : (o : Option FaceRec) → at c.faces n ≡ o → All (IsRow (width c Faces)) (face_rows o)
    go None is = All-nil (IsRow (width c Faces))
    go (Some f) is = one_row (width c Faces) f.vals
        (record { long = (h.linked.faces n f is).vals; small = small_row f.vals (h.faces n f is).vals })

-- ---- NAMES ONE AFTER ANOTHER

-- the rows below a name
abbrev pub rows_below : Complex → Kind → ℕ → List (List ℤ)
rows_below c Verts n = flat_map vert_rows (take n c.verts)
rows_below c Edges n = flat_map edge_rows (take n c.edges)
rows_below c Corners n = flat_map corner_rows (take n c.faces)
rows_below c Faces n = flat_map face_rows (take n c.faces)

flat_next : {X : Type 0} (f : Option X → List (List ℤ)) (table : List (Option X)) (n : ℕ) → n < length table
    → flat_map f (take (n + 1) table) ≡ flat_map f (take n table) ++ f (at table n)
flat_next f table n less =
    ap (flat_map f) (take_more table n None less)
    ∙ flat_map-append f (take n table) (get_or table n None ∷ [])
    ∙ ap (λ (rows : List (List ℤ)). flat_map f (take n table) ++ rows) (append-nil (f (get_or table n None)))

pub rows_next : (c : Complex) (kind : Kind) (n : ℕ) → n < names_of c kind
    → rows_below c kind (n + 1) ≡ rows_below c kind n ++ rows_at c kind n
rows_next c Verts n less = flat_next vert_rows c.verts n less
rows_next c Edges n less = flat_next edge_rows c.edges n less
rows_next c Corners n less = flat_next corner_rows c.faces n less
rows_next c Faces n less = flat_next face_rows c.faces n less

pub rows_all : (c : Complex) (kind : Kind) (n : ℕ) → names_of c kind ≤ n → rows_below c kind n ≡ rows_of c kind
rows_all c Verts n past = ap (flat_map vert_rows) (take_all n c.verts past)
rows_all c Edges n past = ap (flat_map edge_rows) (take_all n c.edges past)
rows_all c Corners n past = ap (flat_map corner_rows) (take_all n c.faces past)
rows_all c Faces n past = ap (flat_map face_rows) (take_all n c.faces past)

none_below : (c : Complex) (kind : Kind) → rows_below c kind 0 ≡ []
none_below c Verts = refl
none_below c Edges = refl
none_below c Corners = refl
none_below c Faces = refl

pub right_below : (c : Complex) → IsValid c → (kind : Kind) (n : ℕ) → n ≤ names_of c kind
    → All (IsRow (width c kind)) (rows_below c kind n)
right_below c h kind zero low = rw (none_below c kind) (All-nil (IsRow (width c kind)))
right_below c h kind (suc n) low =
    let next : n + 1 ≡ suc n = omega arith in
    subst (λ (m : ℕ). All (IsRow (width c kind)) (rows_below c kind m)) next
    (rw (rows_next c kind n (omega arith)) (All-append (IsRow (width c kind)) (rows_below c kind n) (rows_at c kind n)
    (right_below c h kind n (omega arith)) (right_at c h kind n)))

-- ---- HOW MANY ROWS THERE ARE

at_most_one : {X : Type 0} (f : Option X → List (List ℤ)) → ((o : Option X) → length (f o) ≤ 1) → (table : List (Option X))
    → length (flat_map f table) ≤ length table
at_most_one f one [] = omega arith
at_most_one f one (o ∷ table) =
    omega (arith, length-append (f o) (flat_map f table), one o, at_most_one f one table)

vert_one : (o : Option VertRec) → length (vert_rows o) ≤ 1
vert_one None = omega arith
vert_one (Some r) = omega arith

edge_one : (o : Option EdgeRec) → length (edge_rows o) ≤ 1
edge_one None = omega arith
edge_one (Some r) = omega arith

face_one : (o : Option FaceRec) → length (face_rows o) ≤ 1
face_one None = omega arith
face_one (Some r) = omega arith

corners_counted : (table : List (Option FaceRec)) → length (flat_map corner_rows table) ≡ corner_sum table
corners_counted [] = refl
corners_counted (o ∷ table) =
    omega (
      arith,
      length-append (corner_rows o) (flat_map corner_rows table),
      length-map (corners_of o) (λ (k : CornerRec). k.vals),
      corners_counted table,
      sum_by-cons (λ (x : Option FaceRec). length (corners_of x)) o table,
    )

few_rows : (c : Complex) → IsValid c → (kind : Kind) → length (rows_of c kind) ≤ 4194304
few_rows c h Verts = let most = h.limits.verts in omega (arith, at_most_one vert_rows vert_one c.verts)
few_rows c h Edges = let most = h.limits.edges in omega (arith, at_most_one edge_rows edge_one c.edges)
few_rows c h Corners = let most = h.limits.corners in omega (arith, corners_counted c.faces)
few_rows c h Faces = let most = h.limits.faces in omega (arith, at_most_one face_rows face_one c.faces)

part_of : {X : Type 0} (f : Option X → List (List ℤ)) (table : List (Option X)) (n : ℕ)
    → length (flat_map f (take n table)) ≤ length (flat_map f table)
part_of f table n =
    let whole : flat_map f table ≡ flat_map f (take n table) ++ flat_map f (drop n table) =
    ap (flat_map f) (sym (take-append-drop n table)) ∙ flat_map-append f (take n table) (drop n table) in
    omega (arith, ap length whole, length-append (flat_map f (take n table)) (flat_map f (drop n table)))

pub few_below : (c : Complex) → IsValid c → (kind : Kind) (n : ℕ) → length (rows_below c kind n) ≤ 4194304
few_below c h Verts n = omega (arith, few_rows c h Verts, part_of vert_rows c.verts n)
few_below c h Edges n = omega (arith, few_rows c h Edges, part_of edge_rows c.edges n)
few_below c h Corners n = omega (arith, few_rows c h Corners, part_of corner_rows c.faces n)
few_below c h Faces n = omega (arith, few_rows c h Faces, part_of face_rows c.faces n)

-- ---- SUMS SO FAR

-- the sums of the rows below a name
abbrev pub sums_below : Complex → Kind → ℕ → List ℤ
sums_below c kind n = fold plus (zeros (width c kind)) (rows_below c kind n)

pub sums_next : (c : Complex) (kind : Kind) (n : ℕ) (sums new : List ℤ) → n < names_of c kind
    → sums ≡ sums_below c kind n → new ≡ fold plus sums (rows_at c kind n) → new ≡ sums_below c kind (n + 1)
sums_next c kind n sums new less before made =
    made ∙ ap (λ (s : List ℤ). fold plus s (rows_at c kind n)) before
    ∙ sym (ap (fold plus (zeros (width c kind))) (rows_next c kind n less)
    ∙ fold-append plus (zeros (width c kind)) (rows_below c kind n) (rows_at c kind n))

pub sums_first : (c : Complex) (kind : Kind) → zeros (width c kind) ≡ sums_below c kind 0
sums_first c kind = sym (ap (fold plus (zeros (width c kind))) (none_below c kind))

pub sums_all : (c : Complex) (kind : Kind) (n : ℕ) (sums : List ℤ) → names_of c kind ≤ n → sums ≡ sums_below c kind n
    → sums ≡ row_sums c kind
sums_all c kind n sums past before = before ∙ ap (fold plus (zeros (width c kind))) (rows_all c kind n past)

pub sums_long : (c : Complex) → IsValid c → (kind : Kind) (n : ℕ) (sums : List ℤ) → n ≤ names_of c kind
    → sums ≡ sums_below c kind n → length sums ≡ width c kind
sums_long c h kind n sums low before =
    ap length before
    ∙ length-fold (width c kind) (zeros (width c kind)) (rows_below c kind n) (length-zeros (width c kind))
    (right_below c h kind n low)

pub sums_within : (c : Complex) → IsValid c → (kind : Kind) (n : ℕ) (sums : List ℤ) → n ≤ names_of c kind
    → sums ≡ sums_below c kind n → AreWithin 3000000000 sums
sums_within c h kind n sums low before =
    rw before (within_more (0 + length (rows_below c kind n)) 3000000000 (sums_below c kind n)
    (omega (arith, few_below c h kind n))
    (within_fold (width c kind) 0 (zeros (width c kind)) (rows_below c kind n) (length-zeros (width c kind))
    (right_below c h kind n low) (within_zeros (width c kind))))

-- ---- ONE ELEMENT

-- the row that was read of what stands at a name
pub row_read : {X : Type 0} (w : ℕ) (rows : Option X → List (List ℤ)) (vals : X → List ℤ) (o : Option X) (row : List ℤ)
    → ((x : X) → rows (Some x) ≡ vals x ∷ []) → option_map vals o ≡ Some row → All (IsRow w) (rows o)
    → (rows o ≡ row ∷ []) × IsRow w row
row_read w rows vals None row one read are = absurd (cc)
row_read w rows vals (Some x) row one read are =
    let same : vals x ≡ row = cc in
    let all : rows (Some x) ≡ row ∷ [] = one x ∙ ap (λ (r : List ℤ). r ∷ []) same in
    let first = rw all at are in
    (all, first 0 row (omega arith))

-- no row where nothing stands
pub no_row : {X : Type 0} (rows : Option X → List (List ℤ)) (o : Option X) → rows None ≡ [] → is_some o ≡ false
    → rows o ≡ []
no_row rows None none gone = none
no_row rows (Some x) none gone = absurd (cc)

-- ---- CORNERS

-- rows one behind another
abbrev pub joined : List (List ℤ) → List ℤ
joined rows = flat_map (λ (r : List ℤ). r) rows

pub corners_joined : (ks : List CornerRec)
    → flat_map (λ (k : CornerRec). k.vals) ks ≡ joined (map (λ (k : CornerRec). k.vals) ks)
corners_joined [] = refl
corners_joined (k ∷ ks) = ap (λ (rest : List ℤ). k.vals ++ rest) (corners_joined ks)

-- what is left begins with the next row
pub next_row : (rows : List (List ℤ)) (i w : ℕ) (rest : List ℤ) → i < length rows → All (IsRow w) rows
    → rest ≡ joined (drop i rows)
    → (rest ≡ get_or rows i [] ++ joined (drop (i + 1) rows)) × (length (get_or rows i []) ≡ w)
next_row rows i w rest less are is = (is ∙ ap joined (drop_more rows i [] less), (are i [] less).long)

pub first_part : (w : ℕ) (row more rest : List ℤ) → rest ≡ row ++ more → length row ≡ w
    → (take w rest ≡ row) × (drop w rest ≡ more) × (w ≤ length rest)
first_part w row more rest is long = (
  ap (take w) is ∙ ap (λ (n : ℕ). take n (row ++ more)) (sym long) ∙ take-append_seam row more,
  ap (drop w) is ∙ ap (λ (n : ℕ). drop n (row ++ more)) (sym long) ∙ drop-append_seam row more,
  omega (arith, ap length is, length-append row more),
)

pub fold_next : (sums : List ℤ) (rows : List (List ℤ)) (i : ℕ) (now new : List ℤ) → i < length rows
    → now ≡ fold plus sums (take i rows) → new ≡ plus now (get_or rows i []) → new ≡ fold plus sums (take (i + 1) rows)
fold_next sums rows i now new less before made =
    made ∙ ap (λ (s : List ℤ). plus s (get_or rows i [])) before ∙ sym (fold_more plus sums rows i [] less)

-- the first rows are such rows too
pub right_take : (w i : ℕ) (rows : List (List ℤ)) → i ≤ length rows → All (IsRow w) rows → All (IsRow w) (take i rows)
right_take w i rows low are k d less =
    let few = length-take-le i rows low in
    rw (get_or-take i rows k d (omega arith)) (are k d (omega arith))

-- the sums over some of the corners of a face
pub corners_within : (w i : ℕ) (sums now : List ℤ) (rows : List (List ℤ)) → length sums ≡ w → All (IsRow w) rows
    → AreWithin 3000000000 sums → i ≤ length rows → length rows ≤ 4096 → now ≡ fold plus sums (take i rows)
    → AreWithin 4000000000 now
corners_within w i sums now rows long are far low few is =
    let part = length-take-le i rows low in
    rw is (within_more (3000000000 + length (take i rows)) 4000000000 (fold plus sums (take i rows)) (omega arith)
    (within_fold w 3000000000 sums (take i rows) long (right_take w i rows low are) far))

pub corners_long : (w i : ℕ) (sums now : List ℤ) (rows : List (List ℤ)) → length sums ≡ w → All (IsRow w) rows
    → i ≤ length rows → now ≡ fold plus sums (take i rows) → length now ≡ w
corners_long w i sums now rows long are low is =
    ap length is ∙ length-fold w sums (take i rows) long (right_take w i rows low are)

-- a face has at most 4,096 corners
pub few_corners : (c : Complex) → IsValid c → (n : ℕ) → length (corner_rows (at c.faces n)) ≤ 4096
few_corners c h n = go (at c.faces n) refl
  where
    go : (o : Option FaceRec) → at c.faces n ≡ o → length (corner_rows o) ≤ 4096
    go None is = omega arith
    go (Some f) is =
        let most = (h.faces n f is).polygon.most in
        omega (arith, length-map f.corners (λ (k : CornerRec). k.vals))
