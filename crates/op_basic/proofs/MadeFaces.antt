-- A face is made on a polygon: what its conditions say, and that what is made is sound.
use Rattle.std.proofs.Common.{◌≡◌, ◌≢◌, ℕ, zero, suc, ◌+◌, ◌<◌, ◌≤◌, Bool, true, false, cond, eqb, nat_le, List, []}
use Rattle.std.proofs.Common.{◌∷◌, ◌++◌, length, map, get_or, refl, sym, ap, ◌∙◌, subst, inl, inr, arith, Option, Some, None}
use Rattle.std.proofs.Common.{All, find, is_some, min}
use Rattle.std.specs.List.{zip, count_by, range_with_len}
use Rattle.std.proofs.lemmas.Bool.{cases_order, cases_Bool, le-leb, eq-eqb, true≢false}
use Rattle.std.proofs.lemmas.List.{length-map, get_or-map, get_or_default, length_push}
use Rattle.std.proofs.lemmas.List.FromFn.{get_or-range_with_len, length-map-range_with_len, length-range_with_len}
use Rattle.std.proofs.lemmas.List.Sums.{sum_by-cons}
use Rattle.std.proofs.lemmas.Slice.Zip.{get_or-zip, length-zip}
use Rattle.mesh_model.specs.Table.{at, IsThere}
use Rattle.mesh_model.specs.Complex.{Complex, verts_of, corner_sum, counters_of}
use Rattle.mesh_model.specs.Incidence.{joins, sides}
use Rattle.mesh_model.specs.Kernel.{corner_from, face_vals_like}
use Rattle.mesh_model.specs.Making.{edges_along}
use Rattle.mesh_model.specs.Valid.{are_distinct, IsPolygon, IsSound, IsWithinLimits}
use Rattle.mesh_model.specs.declared.limits.TheConstants.{MAX_SIDES, MAX_FACES, MAX_CORNERS}
use Rattle.mesh_model.specs.declared.names.VertName.{VertName}
use Rattle.mesh_model.specs.declared.names.EdgeName.{EdgeName}
use Rattle.mesh_model.specs.declared.records.CornerRec.{CornerRec}
use Rattle.mesh_model.specs.declared.records.EdgeRec.{EdgeRec}
use Rattle.mesh_model.specs.declared.records.FaceRec.{FaceRec}
use Rattle.mesh_model.specs.declared.records.VertRec.{VertRec}
use Rattle.mesh_model.proofs.CornerSums.{corner_sum-push}
use Rattle.mesh_model.proofs.Edges.{joins-cases}
use Rattle.mesh_model.proofs.KernelMakings.{AreThere, IsValid-with_face_like}
use Rattle.mesh_model.proofs.MadePolygons.{joins-found}
use Rattle.mesh_model.proofs.Polygons.{after, after-below, AreApart, IsClosedAt, closed-from, distinct-from, get_or-sides}
use Rattle.mesh_model.proofs.Polygons.{length-sides}
use Rattle.mesh_model.proofs.Tables.{there_passes}
use Rattle.op_basic.specs.Making.{least_repeated, with_face_on}
use Rattle.op_basic.specs.Searching.{missing}
use Rattle.op_basic.proofs.SideEdges.{Side, IsSide, NoneAgain, IsSound-along, joined_along, length-along, length-missing}
use Rattle.op_basic.proofs.SideEdges.{only_edges}

-- ---- NO VERTEX STANDS TWICE

find_none : {X : Type 0} (p : X → Bool) (xs : List X) → find p xs ≡ None → All (λ (x : X). p x ≡ false) xs
find_none p [] h = λ i d less. absurd (omega arith)
find_none {X = X} p (x ∷ xs) h = by_test (p x) refl h (λ rest. find_none p xs rest)
  where
    by_test : (b : Bool) → p x ≡ b → cond b (Some x) (find p xs) ≡ None
        → (find p xs ≡ None → All (λ (y : X). p y ≡ false) xs) → All (λ (y : X). p y ≡ false) (x ∷ xs)
    by_test true is h later = absurd (cc)
    by_test false is h later = at_i
      where
        at_i : (i : ℕ) (d : X) → i < length (x ∷ xs) → p (get_or (x ∷ xs) i d) ≡ false
        at_i zero d less = is
        at_i (suc i) d less = later h i d (omega arith)

abbrev count_of : List VertName → ℕ → ℕ
count_of vs n = count_by (λ (w : VertName). eqb w.0 n) vs

count-here : (v : VertName) (vs : List VertName) (n : ℕ) → v.0 ≡ n → count_of (v ∷ vs) n ≡ 1 + count_of vs n
count-here v vs n same = sum_by-cons (λ (w : VertName). cond (eqb w.0 n) 1 0) v vs
    ∙ ap (λ (b : Bool). cond b 1 0 + count_of vs n) (eq-eqb v.0 n same)

count-more : (v : VertName) (vs : List VertName) (n : ℕ) → count_of vs n ≤ count_of (v ∷ vs) n
count-more v vs n = let all = sum_by-cons (λ (w : VertName). cond (eqb w.0 n) 1 0) v vs in omega arith

once : (vs : List VertName) (n j : ℕ) (d : VertName) → j < length vs → (get_or vs j d).0 ≡ n → 1 ≤ count_of vs n
once [] n j d less is = absurd (omega arith)
once (v ∷ vs) n zero d less is = let all = count-here v vs n is in omega arith
once (v ∷ vs) n (suc j) d less is = let rest = once vs n j d (omega arith) is in
    let more = count-more v vs n in omega arith

twice : (vs : List VertName) (n i j : ℕ) (d : VertName) → i < j → j < length vs → (get_or vs i d).0 ≡ n
    → (get_or vs j d).0 ≡ n → 2 ≤ count_of vs n
twice [] n i j d less within at_i at_j = absurd (omega arith)
twice (v ∷ vs) n i zero d less within at_i at_j = absurd (omega arith)
twice (v ∷ vs) n zero (suc j) d less within at_i at_j =
    let all = count-here v vs n at_i in let rest = once vs n j d (omega arith) at_j in omega arith
twice (v ∷ vs) n (suc i) (suc j) d less within at_i at_j =
    let rest = twice vs n i j d (omega arith) (omega arith) at_i at_j in
    let more = count-more v vs n in omega arith

abbrev vert : ℕ → VertName
vert n = record { 0 = n }

pub apart : (c : Complex) (vs : List VertName) → least_repeated c vs ≡ None
    → ((i : ℕ) (d : VertName) → i < length vs → (get_or vs i d).0 < length c.verts) → AreApart vs
apart c vs none below i j d less_i less_j same = elim (cases_order i j) [
  | inl equal ↦ equal
  | inr other ↦ elim other [
    | inl less ↦ absurd (not_twice (get_or vs j d).0 (below j d less_j)
        (twice vs (get_or vs j d).0 i j d less less_j same refl))
    | inr more ↦ absurd (not_twice (get_or vs i d).0 (below i d less_i)
        (twice vs (get_or vs i d).0 j i d more less_i (sym same) refl))
  ]
]
  where
    not_twice : (n : ℕ) → n < length c.verts → 2 ≤ count_of vs n → ⊥
    not_twice n less two =
        let test : VertName → Bool = λ v. nat_le 2 (count_of vs v.0) in
        let long = length-map-range_with_len vert 0 (length c.verts) in
        let fails = find_none test (map vert (range_with_len 0 (length c.verts))) none n (vert 0) (omega arith) in
        let start : 0 + n ≡ n = omega arith in
        let name : get_or (map vert (range_with_len 0 (length c.verts))) n (vert 0) ≡ vert n =
        get_or-map vert (range_with_len 0 (length c.verts)) n 0 (vert 0)
        (omega (arith, length-range_with_len 0 (length c.verts)))
        ∙ ap vert (get_or-range_with_len 0 (length c.verts) n 0 less ∙ start) in
        true≢false (sym (le-leb 2 (count_of vs n) two) ∙ sym (ap test name) ∙ fails)

-- ---- THE SIDES

pub after-other : (n i : ℕ) → 3 ≤ n → i < n → i ≢ after n i
after-other n i least less = grind arith

after-once : (n i j : ℕ) → 3 ≤ n → i < j → j < n → i ≡ after n j → after n i ≡ j → ⊥
after-once n i j least less within back forth = grind arith

pub sides_are : (verts : List (Option VertRec)) (vs : List VertName) → 3 ≤ length vs → AreApart vs
    → All (λ (v : VertName). IsThere verts v.0) vs → All (IsSide verts) (sides vs)
sides_are verts vs least once there i d less =
    let within : i < length vs = omega (arith, length-sides vs) in
    let next = after-below (length vs) i within in
    subst (IsSide verts) (sym (get_or-sides vs i d.0 d.1 within)) (record {
      a = there i d.0 within;
      b = there (after (length vs) i) d.1 next;
      differ = λ same. after-other (length vs) i least within
          (once i (after (length vs) i) d.0 within next
          (same ∙ ap (λ (v : VertName). v.0) (get_or_default vs (after (length vs) i) d.1 d.0 next)));
    })

abbrev line : Side → EdgeRec
line s = record { a = s.0; b = s.1; vals = [] }

none_again : (ss : List Side) → ((i j : ℕ) (d : Side) → i < j → j < length ss
    → joins (get_or ss j d).0 (get_or ss j d).1 (line (get_or ss i d)) ≡ false) → NoneAgain ss
none_again [] h = tt
none_again (s ∷ ss) h = (
  λ i d less. h 0 (suc i) d (omega arith) (omega arith),
  none_again ss (λ i j d less within. h (suc i) (suc j) d (omega arith) (omega arith)),
)

pub sides_apart : (vs : List VertName) → 3 ≤ length vs → AreApart vs → NoneAgain (sides vs)
sides_apart vs least apart = none_again (sides vs) (λ i j d less within.
    let in_j : j < length vs = omega (arith, length-sides vs) in
    let in_i : i < length vs = omega arith in
    ap (λ (s : Side). joins (get_or (sides vs) j d).0 (get_or (sides vs) j d).1 (line s))
    (get_or-sides vs i d.0 d.1 in_i)
    ∙ ap (λ (s : Side). joins s.0 s.1 (line (get_or vs i d.0, get_or vs (after (length vs) i) d.1)))
    (get_or-sides vs j d.0 d.1 in_j)
    ∙ other i j d.0 d.1 less in_j)
  where
    other : (i j : ℕ) (d e : VertName) → i < j → j < length vs
        → joins (get_or vs j d) (get_or vs (after (length vs) j) e)
        (line (get_or vs i d, get_or vs (after (length vs) i) e)) ≡ false
    other i j d e less in_j =
        let in_i : i < length vs = omega arith in
        let next_i = after-below (length vs) i in_i in
        let next_j = after-below (length vs) j in_j in
        let here : EdgeRec = line (get_or vs i d, get_or vs (after (length vs) i) e) in
        elim (cases_Bool (joins (get_or vs j d) (get_or vs (after (length vs) j) e) here)) [
          | inl same ↦ absurd (elim (joins-cases (get_or vs j d) (get_or vs (after (length vs) j) e) here same) [
            | inl ahead ↦ (let equal = apart i j d in_i in_j (ap (λ (v : VertName). v.0) ahead.0) in omega arith)
            | inr back ↦ after-once (length vs) i j least less in_j
                (apart i (after (length vs) j) d in_i next_j (ap (λ (v : VertName). v.0)
                (back.0 ∙ get_or_default vs (after (length vs) j) e d next_j)))
                (apart (after (length vs) i) j e next_i in_j (ap (λ (v : VertName). v.0)
                (back.1 ∙ get_or_default vs j d e in_j)))
          ])
          | inr none ↦ none
        ]

-- ---- THE POLYGON

verts_zipped : (m : Complex) (vs : List VertName) (es : List EdgeName) → length es ≡ length vs
    → verts_of (map (corner_from m) (zip vs es)) ≡ vs
verts_zipped m [] es long = refl
verts_zipped m (v ∷ vs) [] long = absurd (omega arith)
verts_zipped m (v ∷ vs) (e ∷ es) long = ap (λ (ws : List VertName). v ∷ ws) (verts_zipped m vs es (omega arith))

edges_zipped : (m : Complex) (vs : List VertName) (es : List EdgeName) → length es ≡ length vs
    → map (λ (k : CornerRec). k.edge) (map (corner_from m) (zip vs es)) ≡ es
edges_zipped m [] [] long = refl
edges_zipped m [] (e ∷ es) long = absurd (omega arith)
edges_zipped m (v ∷ vs) [] long = absurd (omega arith)
edges_zipped m (v ∷ vs) (e ∷ es) long = ap (λ (ds : List EdgeName). e ∷ ds) (edges_zipped m vs es (omega arith))

pub length-sided : (c : Complex) (vs : List VertName) → length (edges_along c (sides vs)).1 ≡ length vs
length-sided c vs = length-along c (sides vs) ∙ length-sides vs

pub length-corners : (c m : Complex) (vs : List VertName) (es : List EdgeName) → length es ≡ length vs
    → length (map (corner_from m) (zip vs es)) ≡ length vs
length-corners c m vs es long = length-map (zip vs es) (corner_from m) ∙ length-zip vs es ∙ min_same
  where
    min_same : min (length vs) (length es) ≡ length vs
    min_same = omega arith

closed_on : (c : Complex) (vs : List VertName)
    → let made = edges_along c (sides vs) in IsClosedAt made.0 (map (corner_from made.0) (zip vs made.1))
closed_on c vs i d less =
    let made = edges_along c (sides vs) in
    let ks = map (corner_from made.0) (zip vs made.1) in
    let long = length-sided c vs in
    let all : length ks ≡ length vs = length-corners c made.0 vs made.1 long in
    let within : i < length vs = omega arith in
    let next = after-below (length ks) i less in
    let on_side : i < length (sides vs) = omega (arith, length-sides vs) in
    let here : (get_or ks i d).vert ≡ get_or vs i d.vert =
    sym (get_or-map (λ (k : CornerRec). k.vert) ks i d d.vert less)
    ∙ ap (λ (ws : List VertName). get_or ws i d.vert) (verts_zipped made.0 vs made.1 long) in
    let there : (get_or ks (after (length ks) i) d).vert ≡ get_or vs (after (length vs) i) d.vert =
    sym (get_or-map (λ (k : CornerRec). k.vert) ks (after (length ks) i) d d.vert next)
    ∙ ap (λ (ws : List VertName). get_or ws (after (length ks) i) d.vert) (verts_zipped made.0 vs made.1 long)
    ∙ ap (λ (n : ℕ). get_or vs (after n i) d.vert) all in
    let along : (get_or ks i d).edge ≡ get_or made.1 i d.edge =
    sym (get_or-map (λ (k : CornerRec). k.edge) ks i d d.edge less)
    ∙ ap (λ (es : List EdgeName). get_or es i d.edge) (edges_zipped made.0 vs made.1 long) in
    let found = joined_along c (sides vs) i (d.vert, d.vert) d.edge on_side in
    let side = get_or-sides vs i d.vert d.vert within in
    rw (here, there, along) (joins-found made.0.edges (get_or vs i d.vert) (get_or vs (after (length vs) i) d.vert)
    (get_or made.1 i d.edge) (rw side at found))

pub polygon_on : (c : Complex) (vs : List VertName) → 3 ≤ length vs → length vs ≤ MAX_SIDES → AreApart vs
    → let made = edges_along c (sides vs) in IsPolygon made.0.edges (map (corner_from made.0) (zip vs made.1))
polygon_on c vs least most apart =
    let made = edges_along c (sides vs) in
    let long = length-sided c vs in
    let all : length (map (corner_from made.0) (zip vs made.1)) ≡ length vs = length-corners c made.0 vs made.1 long in
    record {
      least = omega arith;
      most = omega arith;
      distinct = ap are_distinct (verts_zipped made.0 vs made.1 long) ∙ distinct-from vs apart;
      closed = closed-from made.0 (map (corner_from made.0) (zip vs made.1)) (closed_on c vs);
    }

pub corners_there : (c : Complex) (vs : List VertName) → All (λ (v : VertName). IsThere c.verts v.0) vs
    → AreThere (edges_along c (sides vs)).0 (zip vs (edges_along c (sides vs)).1)
corners_there c vs there i d less =
    let made = edges_along c (sides vs) in
    let long = length-sided c vs in
    let zipped = length-zip vs made.1 in
    let within : i < length vs = omega arith in
    let within_es : i < length made.1 = omega arith in
    let on_side : i < length (sides vs) = omega (arith, length-sides vs) in
    let both = get_or-zip vs made.1 i d within within_es in
    let found = joined_along c (sides vs) i (d.0, d.0) d.1 on_side in
    let s = get_or (sides vs) i (d.0, d.0) in
    rw both (
      ap (λ (x : Complex). is_some (at x.verts (get_or vs i d.0).0)) (only_edges c (sides vs)) ∙ there i d.0 within,
      there_passes (joins s.0 s.1) (at made.0.edges (get_or made.1 i d.1).0)
          (joins-found made.0.edges s.0 s.1 (get_or made.1 i d.1) found),
    )

-- ---- WHAT IS MADE

-- what holds where the face may be made
pub record MayFace (c : Complex) (vs : List VertName) : Type 0 where
  pub least : 3 ≤ length vs
  pub most : length vs ≤ MAX_SIDES
  pub there : All (λ (v : VertName). IsThere c.verts v.0) vs
  pub apart : AreApart vs
  pub limits : IsWithinLimits (with_face_on c vs)

pub faces_along : (c : Complex) (ss : List Side) → (edges_along c ss).0.faces ≡ c.faces
faces_along c ss = ap (λ (x : Complex). x.faces) (only_edges c ss)

abbrev pub face_made : Complex → List VertName → FaceRec
face_made c vs = let made = edges_along c (sides vs) in record {
  corners = map (corner_from made.0) (zip vs made.1);
  vals = face_vals_like made.0 None;
}

pub few_faces : (c : Complex) (vs : List VertName) → MayFace c vs
    → length (edges_along c (sides vs)).0.faces < MAX_FACES
few_faces c vs may =
    let made = edges_along c (sides vs) in
    let most : length (made.0.faces ++ Some (face_made c vs) ∷ []) ≤ MAX_FACES = may.limits.faces in
    omega (arith, length_push made.0.faces (Some (face_made c vs)))

pub few_corners : (c : Complex) (vs : List VertName) → MayFace c vs
    → let made = edges_along c (sides vs) in corner_sum made.0.faces + length (zip vs made.1) ≤ MAX_CORNERS
few_corners c vs may =
    let made = edges_along c (sides vs) in
    let most : corner_sum (made.0.faces ++ Some (face_made c vs) ∷ []) ≤ MAX_CORNERS = may.limits.corners in
    let more = corner_sum-push made.0.faces (face_made c vs) in
    omega (arith, length-map (zip vs made.1) (corner_from made.0))

pub IsSound-with_face_on : (c : Complex) (vs : List VertName) → MayFace c vs → IsSound c → IsSound (with_face_on c vs)
IsSound-with_face_on c vs may h =
    let made = edges_along c (sides vs) in
    let sound = IsSound-along c (sides vs) (sides_are c.verts vs may.least may.apart may.there) may.limits.edges h in
    record {
      valid = IsValid-with_face_like made.0 (zip vs made.1) None (few_faces c vs may) (few_corners c vs may)
          (corners_there c vs may.there) (polygon_on c vs may.least may.most may.apart) sound.valid;
      simple = sound.simple;
    }

-- the counts then
pub counted_on : (c : Complex) (vs : List VertName) → 3 ≤ length vs → AreApart vs
    → record {
      verts = length c.verts;
      edges = length c.edges + missing c (sides vs);
      faces = length c.faces + 1;
      corners = corner_sum c.faces + length vs;
    } ≡ counters_of (with_face_on c vs)
counted_on c vs least apart =
    let made = edges_along c (sides vs) in
    let edges = length-missing c (sides vs) (sides_apart vs least apart) in
    let verts : length made.0.verts ≡ length c.verts = ap (λ (x : Complex). length x.verts) (only_edges c (sides vs)) in
    let faces : length (made.0.faces ++ Some (face_made c vs) ∷ []) ≡ length c.faces + 1 =
    length_push made.0.faces (Some (face_made c vs))
    ∙ ap (λ (t : List (Option FaceRec)). length t + 1) (faces_along c (sides vs)) in
    let corners : corner_sum (made.0.faces ++ Some (face_made c vs) ∷ []) ≡ corner_sum c.faces + length vs =
    corner_sum-push made.0.faces (face_made c vs)
    ∙ rw (faces_along c (sides vs), length-corners c made.0 vs made.1 (length-sided c vs)) refl in
    rw (edges, verts, faces, corners) refl
