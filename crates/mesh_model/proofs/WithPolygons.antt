-- A face more on a polygon: the complex then, and when it is linked, valid and simple.
use Rattle.std.proofs.Common.{◌≡◌, ◌≢◌, ℕ, suc, ◌+◌, ◌-◌, ◌<◌, ◌≤◌, ℤ, Bool, true, false, not, ◌&&◌, ◌||◌, eqb, List}
use Rattle.std.proofs.Common.{[], ◌∷◌, ◌++◌, length, map, take, drop, refl, sym, ap, subst, ◌∙◌, arith, Option, Some}
use Rattle.std.proofs.Common.{None}
use Rattle.std.specs.List.{All, list_all, list_any, zip}
use Rattle.std.proofs.lemmas.List.{length-append, length-map}
use Rattle.std.proofs.lemmas.List.Elements.{All-cons, All-head, All-tail}
use Rattle.std.proofs.lemmas.List.Folds.{list_any-append}
use Rattle.std.proofs.lemmas.Bool.{and_parts, eqb-false, not-true, not_from_false, or_parts}
use Rattle.std.proofs.lemmas.Grind.{common_steps}
use Rattle.std.proofs.Math.Bool.{or-false}
use Rattle.cust_data.specs.Layers.{Layer, total, zeros}
use Rattle.mesh_model.specs.Table.{at, IsThere, passes}
use Rattle.mesh_model.specs.Complex.{Complex, KindLayers, uv_layer, material_layer, smooth_layer, verts_of, corner_sum}
use Rattle.mesh_model.specs.Complex.{width}
use Rattle.mesh_model.specs.Incidence.{joins, edge_joining, uses_edge, is_along, sides}
use Rattle.mesh_model.specs.Values.{row_given, face_vals, corner_vals}
use Rattle.mesh_model.specs.Making.{with_face_told, edge_between, edges_along, corner_of, corners_told}
use Rattle.mesh_model.specs.Elements.{is_among}
use Rattle.mesh_model.specs.Valid.{are_distinct, is_along_side, is_in_range, is_material, is_smooth, IsPolygon}
use Rattle.mesh_model.specs.Valid.{IsCornerLinked, IsFaceLinked, IsLinked, IsCornerValid, IsFaceValid, IsValid}
use Rattle.mesh_model.specs.Valid.{IsSimple}
use Rattle.mesh_model.specs.NameSet.{is_in}
use Rattle.mesh_model.specs.Columns.{VertTable, EdgeTable, FaceTable, face_of}
use Rattle.mesh_model.specs.EdgeIndexes.{Knows}
use Rattle.mesh_model.specs.Draft.{complex_of, IsDraft, found_in, edge_in, turned, corners_in}
use Rattle.mesh_model.specs.declared.limits.TheConstants.{MAX_EDGES, MAX_FACES, MAX_CORNERS}
use Rattle.mesh_model.specs.declared.names.Kind.TheVariants.{Corners}
use Rattle.mesh_model.specs.declared.draft.DraftCorner.{DraftCorner}
use Rattle.mesh_model.specs.declared.edge_index.EdgeIndex.{EdgeIndex}
use Rattle.mesh_model.specs.declared.names.VertName.{VertName}
use Rattle.mesh_model.specs.declared.names.EdgeName.{EdgeName}
use Rattle.mesh_model.specs.declared.records.VertRec.{VertRec}
use Rattle.mesh_model.specs.declared.records.EdgeRec.{EdgeRec}
use Rattle.mesh_model.specs.declared.records.CornerRec.{CornerRec}
use Rattle.mesh_model.specs.declared.records.FaceRec.{FaceRec}
use Rattle.mesh_model.proofs.Tables.{Extends, Extends-append, passes-Extends, there-Extends, at-append_new}
use Rattle.mesh_model.proofs.Edges.{joins-itself}
use Rattle.mesh_model.proofs.Makings.{IsLinked-with_face, IsValid-with_face}
use Rattle.mesh_model.proofs.GivenRows.{AreGiven, given_two, length-row_given}
use Rattle.mesh_model.proofs.GivenNumbers.{AreInRange, in_range-row_given, allows-given, material_and_smooth}
use Rattle.mesh_model.proofs.GivenNumbers.{material-given, smooth-given}
use Rattle.mesh_model.proofs.Drafts.{IsLinked-edge_between, IsValid-edge_between, IsSimple-edge_between}
use Rattle.mesh_model.proofs.Drafts.{edge_between-in}
use Rattle.mesh_model.proofs.MadePolygons.{joins-found, there-edge_in, few-edge_in, length-turned_corners}

-- ---- THE COMPLEX WITH A POLYGON, BY ITS TABLES

abbrev verts_told : List DraftCorner → List VertName
verts_told ks = map (λ (k : DraftCorner). k.vert) ks

-- the vertices of corners as they are told
verts-told : (c : Complex) (ks : List DraftCorner)
    → map (λ (k : VertName × List ℤ). k.0) (corners_told c ks) ≡ verts_told ks
verts-told c [] = refl
verts-told c (k ∷ ks) = ap (λ (vs : List VertName). k.vert ∷ vs) (verts-told c ks)

-- the edges and corners along some sides, as the tables of a draft have them
along-in : (c : Complex) (ks : List DraftCorner) (ws : List VertName)
    → let made = edges_along c (zip (verts_told ks) ws) in let all =
    corners_in c.layers.edges c.layers.corners c.edges (zip ks ws) in
    (made.0 ≡ record c { edges = all.0 }) × (map corner_of (zip (corners_told c ks) made.1) ≡ all.1)
along-in c [] ws = (refl, refl)
along-in c (k ∷ ks) [] = (refl, refl)
along-in c (k ∷ ks) (w ∷ ws) =
    let found = edge_in c.layers.edges c.edges k.vert w in
    let d : Complex = record c { edges = found.0 } in
    let rest = along-in d ks ws in
    let all = corners_in c.layers.edges c.layers.corners found.0 (zip ks ws) in
    let corner : CornerRec = corner_of ((k.vert, corner_vals c k.uv), found.1) in
    let P : Complex × EdgeName → Type 0 = λ made. (let more = edges_along made.0 (zip (verts_told ks) ws) in
    (more.0 ≡ record c { edges = all.0 })
    × (map corner_of (zip (corners_told c (k ∷ ks)) (made.1 ∷ more.1)) ≡ corner ∷ all.1)) in
    subst P (sym (edge_between-in c k.vert w)) (rest.0, ap (λ (xs : List CornerRec). corner ∷ xs) rest.1)

-- the face on a polygon
abbrev pub polygon_face : Complex → List DraftCorner → ℤ → ℤ → FaceRec
polygon_face c corners material smooth =
    record {
      corners = (corners_in c.layers.edges c.layers.corners c.edges (turned corners)).1;
      vals =
          face_vals c material smooth;
    }

abbrev pub polygon_edges : Complex → List DraftCorner → List (Option EdgeRec)
polygon_edges c corners = (corners_in c.layers.edges c.layers.corners c.edges (turned corners)).0

pub with_face_told-in : (c : Complex) (corners : List DraftCorner) (material smooth : ℤ)
    → with_face_told c corners material smooth ≡ record c {
      edges = polygon_edges c corners;
      faces =
          c.faces ++ Some (polygon_face c corners material smooth) ∷ [];
    }
with_face_told-in c corners material smooth =
    let vs = verts_told corners in
    let both = along-in c corners (drop 1 vs ++ take 1 vs) in
    rw (verts-told c corners, both.0, both.1) refl

-- the edges of a polygon are few where those of the complex with it are
pub few-polygon : (c : Complex) (corners : List DraftCorner) (material smooth : ℤ) (n : ℕ)
    → length (with_face_told c corners material smooth).edges ≤ n → length (polygon_edges c corners) ≤ n
few-polygon c corners material smooth n few = let P : Complex → Type 0 = λ d. length d.edges ≤ n in
    subst P (with_face_told-in c corners material smooth) few

-- ---- SIDES

-- both ends of a side are there, and they differ
pub record IsSide (verts : List (Option VertRec)) (k : DraftCorner × VertName) : Type 0 where
  pub a : IsThere verts k.0.vert.0
  pub b : IsThere verts k.1.0
  pub differ : k.0.vert.0 ≢ k.1.0

abbrev pub AreSides : List (Option VertRec) → List (DraftCorner × VertName) → Type 0
AreSides verts [] = Unit {0}
AreSides verts (k ∷ ks) = IsSide verts k × AreSides verts ks

abbrev AreThere : List (Option VertRec) → List DraftCorner → Type 0
AreThere verts ks = All (λ (k : DraftCorner). IsThere verts k.vert.0) ks

differ_to : (m n : ℕ) → eqb m n ≡ false → n ≢ m
differ_to m n h same = eqb-false m n h (sym same)

-- the sides from a corner on, back to the first of the polygon
run : (verts : List (Option VertRec)) (first : VertName) (k : DraftCorner) (ks : List DraftCorner)
    → IsThere verts first.0 → AreThere verts (k ∷ ks)
    → are_distinct (verts_told (k ∷ ks)) ≡ true → not (is_among (verts_told (k ∷ ks)) first) ≡ true
    → AreSides verts (zip (k ∷ ks) (verts_told ks ++ first ∷ []))
run verts first k [] here there distinct apart =
    let other = or_parts (eqb k.vert.0 first.0) false (not-true (is_among (k.vert ∷ []) first) apart) in (
      record {
        a = All-head (λ (x : DraftCorner). IsThere verts x.vert.0) k [] there;
        b = here;
        differ =
            eqb-false k.vert.0 first.0 other.0;
      },
      tt,
    )
run verts first k (l ∷ ls) here there distinct apart =
    let rest = All-tail (λ (x : DraftCorner). IsThere verts x.vert.0) k (l ∷ ls) there in
    let us = verts_told ls in
    let parts = and_parts (not (is_among (l.vert ∷ us) k.vert)) (are_distinct (l.vert ∷ us)) distinct in
    let next = or_parts (eqb l.vert.0 k.vert.0) (is_among us k.vert) (not-true (is_among (l.vert ∷ us) k.vert) parts.0)
    in
    let others = or_parts (eqb k.vert.0 first.0) (is_among (l.vert ∷ us) first)
    (not-true (is_among (k.vert ∷ l.vert ∷ us) first) apart) in (
      record {
        a = All-head (λ (x : DraftCorner). IsThere verts x.vert.0) k (l ∷ ls) there;
        b = All-head (λ (x : DraftCorner). IsThere verts x.vert.0) l ls rest;
        differ = differ_to l.vert.0 k.vert.0 next.0;
      },
      run verts first l ls here rest parts.1 (not_from_false (is_among (l.vert ∷ us) first) others.1),
    )

pub AreSides-turned : (verts : List (Option VertRec)) (ks : List DraftCorner) → 3 ≤ length ks
    → are_distinct (verts_told ks) ≡ true → AreThere verts ks → AreSides verts (turned ks)
AreSides-turned verts [] long distinct there = absurd (omega arith)
AreSides-turned verts (k ∷ []) long distinct there = absurd (omega arith)
AreSides-turned verts (k ∷ l ∷ ls) long distinct there =
    let rest = All-tail (λ (x : DraftCorner). IsThere verts x.vert.0) k (l ∷ ls) there in
    let here = All-head (λ (x : DraftCorner). IsThere verts x.vert.0) k (l ∷ ls) there in
    let us = verts_told ls in
    let parts = and_parts (not (is_among (l.vert ∷ us) k.vert)) (are_distinct (l.vert ∷ us)) distinct in
    let next = or_parts (eqb l.vert.0 k.vert.0) (is_among us k.vert) (not-true (is_among (l.vert ∷ us) k.vert) parts.0)
    in (
      record {
        a = here;
        b = All-head (λ (x : DraftCorner). IsThere verts x.vert.0) l ls rest;
        differ =
            differ_to l.vert.0 k.vert.0 next.0;
      },
      run verts k.vert l ls here rest parts.1 parts.0,
    )

-- ---- THE EDGES OF A POLYGON

Extends-found_in : (layers : List Layer) (edges : List (Option EdgeRec)) (v w : VertName) (found : Option EdgeName)
    → Extends edges (found_in layers edges v w found).0
Extends-found_in layers edges v w None =
    Extends-append edges (Some (record { a = v; b = w; vals = zeros (total layers) }) ∷ [])
Extends-found_in layers edges v w (Some e) = λ n x h. h

Extends-edge_in : (layers : List Layer) (edges : List (Option EdgeRec)) (v w : VertName)
    → Extends edges (edge_in layers edges v w).0
Extends-edge_in layers edges v w = Extends-found_in layers edges v w (edge_joining edges v w)

pub Extends-corners_in : (layers clayers : List Layer) (edges : List (Option EdgeRec))
    (ks : List (DraftCorner × VertName)) → Extends edges (corners_in layers clayers edges ks).0
Extends-corners_in layers clayers edges [] = λ n x h. h
Extends-corners_in layers clayers edges (k ∷ ks) =
    λ n x h. Extends-corners_in layers clayers (edge_in layers edges k.0.vert k.1).0 ks n x
    (Extends-edge_in layers edges k.0.vert k.1 n x h)

longer-found_in : (layers : List Layer) (edges : List (Option EdgeRec)) (v w : VertName) (found : Option EdgeName)
    → length edges ≤ length (found_in layers edges v w found).0
longer-found_in layers edges v w None =
    omega (arith, length-append edges (Some (record { a = v; b = w; vals = zeros (total layers) }) ∷ []))
longer-found_in layers edges v w (Some e) = omega arith

pub longer-corners_in : (layers clayers : List Layer) (edges : List (Option EdgeRec))
    (ks : List (DraftCorner × VertName)) → length edges ≤ length (corners_in layers clayers edges ks).0
longer-corners_in layers clayers edges [] = omega arith
longer-corners_in layers clayers edges (k ∷ ks) =
    let rest = longer-corners_in layers clayers (edge_in layers edges k.0.vert k.1).0 ks in
    let here = longer-found_in layers edges k.0.vert k.1 (edge_joining edges k.0.vert k.1) in
    omega arith

few-corners_in : (layers clayers : List Layer) (edges : List (Option EdgeRec)) (ks : List (DraftCorner × VertName))
    → length (corners_in layers clayers edges ks).0 ≤ length edges + length ks
few-corners_in layers clayers edges [] = omega arith
few-corners_in layers clayers edges (k ∷ ks) =
    let rest = few-corners_in layers clayers (edge_in layers edges k.0.vert k.1).0 ks in
    let here = few-edge_in layers edges k.0.vert k.1 in
    omega arith

-- a face makes no more edges than it has corners
pub few-with_face_told : (c : Complex) (ks : List DraftCorner) (material smooth : ℤ)
    → length (with_face_told c ks material smooth).edges ≤ length c.edges + length ks
few-with_face_told c ks material smooth =
    let same : length (with_face_told c ks material smooth).edges ≡ length (polygon_edges c ks) =
    ap (λ (d : Complex). length d.edges) (with_face_told-in c ks material smooth) in
    let few = few-corners_in c.layers.edges c.layers.corners c.edges (turned ks) in
    let long = length-turned_corners ks in
    omega arith

-- the complex with the edges of a polygon
IsLinked-edges : (c : Complex) (ks : List (DraftCorner × VertName)) → AreSides c.verts ks → IsLinked c
    → IsLinked (record c { edges = (corners_in c.layers.edges c.layers.corners c.edges ks).0 })
IsLinked-edges c [] are h = h
IsLinked-edges c (k ∷ ks) are h =
    let d : Complex = record c { edges = (edge_in c.layers.edges c.edges k.0.vert k.1).0 } in
    let made = ap (λ (p : Complex × EdgeName). p.0) (edge_between-in c k.0.vert k.1) in
    IsLinked-edges d ks are.1
    (subst IsLinked made (IsLinked-edge_between c k.0.vert k.1 are.0.a are.0.b are.0.differ h))

IsValid-edges : (c : Complex) (ks : List (DraftCorner × VertName)) → AreSides c.verts ks
    → length (corners_in c.layers.edges c.layers.corners c.edges ks).0 ≤ MAX_EDGES → IsValid c
    → IsValid (record c { edges = (corners_in c.layers.edges c.layers.corners c.edges ks).0 })
IsValid-edges c [] are few h = h
IsValid-edges c (k ∷ ks) are few h =
    let d : Complex = record c { edges = (edge_in c.layers.edges c.edges k.0.vert k.1).0 } in
    let made = ap (λ (p : Complex × EdgeName). p.0) (edge_between-in c k.0.vert k.1) in
    let longer = longer-corners_in c.layers.edges c.layers.corners d.edges ks in
    let same : length (edge_between c k.0.vert k.1).0.edges ≡ length d.edges =
    ap (λ (x : Complex). length x.edges) made in
    IsValid-edges d ks are.1 few
    (subst IsValid made (IsValid-edge_between c k.0.vert k.1 (omega arith) are.0.a are.0.b are.0.differ h))

IsSimple-edges : (c : Complex) (ks : List (DraftCorner × VertName)) → IsSimple c
    → IsSimple (record c { edges = (corners_in c.layers.edges c.layers.corners c.edges ks).0 })
IsSimple-edges c [] h = h
IsSimple-edges c (k ∷ ks) h =
    let d : Complex = record c { edges = (edge_in c.layers.edges c.edges k.0.vert k.1).0 } in
    let made = ap (λ (p : Complex × EdgeName). p.0) (edge_between-in c k.0.vert k.1) in
    IsSimple-edges d ks (subst IsSimple made (IsSimple-edge_between c k.0.vert k.1 h))

-- ---- THE CORNERS OF A POLYGON

joins_found : (layers : List Layer) (edges : List (Option EdgeRec)) (v w : VertName) (found : Option EdgeName)
    → edge_joining edges v w ≡ found
    → passes (joins v w) (at (found_in layers edges v w found).0 (found_in layers edges v w found).1.0) ≡ true
joins_found layers edges v w None none = let made : EdgeRec = record { a = v; b = w; vals = zeros (total layers) } in
    ap (passes (joins v w)) (at-append_new edges made) ∙ joins-itself made
joins_found layers edges v w (Some e) some = joins-found edges v w e some

joins-edge_in : (layers : List Layer) (edges : List (Option EdgeRec)) (v w : VertName)
    → passes (joins v w) (at (edge_in layers edges v w).0 (edge_in layers edges v w).1.0) ≡ true
joins-edge_in layers edges v w = joins_found layers edges v w (edge_joining edges v w) refl

-- a corner's vertex and edge are there
abbrev AreCornersThere : List (Option VertRec) → List (Option EdgeRec) → List CornerRec → Type 0
AreCornersThere verts edges polygon = All (λ (k : CornerRec). IsThere verts k.vert.0 × IsThere edges k.edge.0) polygon

corners_there : (verts : List (Option VertRec)) (layers clayers : List Layer) (edges all : List (Option EdgeRec))
    (ks : List (DraftCorner × VertName)) → AreSides verts ks → Extends (corners_in layers clayers edges ks).0 all
    → AreCornersThere verts all (corners_in layers clayers edges ks).1
corners_there verts layers clayers edges all [] are more = λ k d h. absurd (omega arith)
corners_there verts layers clayers edges all (k ∷ ks) are more =
    let found = edge_in layers edges k.0.vert k.1 in
    let later : Extends found.0 all = λ n x h. more n x (Extends-corners_in layers clayers found.0 ks n x h) in
    All-cons (λ (x : CornerRec). IsThere verts x.vert.0 × IsThere all x.edge.0) (record {
      vert = k.0.vert;
      edge =
          found.1;
      vals = row_given ((uv_layer, k.0.uv) ∷ []) clayers;
    }) (corners_in layers clayers found.0 ks).1
    (are.0.a, there-Extends found.0 all later found.1.0 (there-edge_in layers edges k.0.vert k.1))
    (corners_there verts layers clayers found.0 all ks are.1 more)

pub length-corners_in : (layers clayers : List Layer) (edges : List (Option EdgeRec))
    (ks : List (DraftCorner × VertName)) → length (corners_in layers clayers edges ks).1 ≡ length ks
length-corners_in layers clayers edges [] = refl
length-corners_in layers clayers edges (k ∷ ks) =
    ap (λ (n : ℕ). suc n) (length-corners_in layers clayers (edge_in layers edges k.0.vert k.1).0 ks)

verts-corners_in : (layers clayers : List Layer) (edges : List (Option EdgeRec)) (ks : List DraftCorner)
    (ws : List VertName) → length ks ≤ length ws
    → verts_of (corners_in layers clayers edges (zip ks ws)).1 ≡ verts_told ks
verts-corners_in layers clayers edges [] ws long = refl
verts-corners_in layers clayers edges (k ∷ ks) [] long = absurd (omega arith)
verts-corners_in layers clayers edges (k ∷ ks) (w ∷ ws) long =
    ap (λ (vs : List VertName). k.vert ∷ vs)
    (verts-corners_in layers clayers (edge_in layers edges k.vert w).0 ks ws (omega arith))

-- each corner's edge joins its side
closed_in : (c : Complex) (layers clayers : List Layer) (edges : List (Option EdgeRec)) (ks : List DraftCorner)
    (ws : List VertName) → Extends (corners_in layers clayers edges (zip ks ws)).0 c.edges
    → list_all (is_along_side c.edges) (zip (corners_in layers clayers edges (zip ks ws)).1 (zip (verts_told ks) ws))
    ≡ true
closed_in c layers clayers edges [] ws more = refl
closed_in c layers clayers edges (k ∷ ks) [] more = refl
closed_in c layers clayers edges (k ∷ ks) (w ∷ ws) more =
    let found = edge_in layers edges k.vert w in
    let rest = closed_in c layers clayers found.0 ks ws more in
    let later : Extends found.0 c.edges =
    λ n x h. more n x (Extends-corners_in layers clayers found.0 (zip ks ws) n x h) in
    let here = passes-Extends (joins k.vert w) found.0 c.edges later found.1.0 (joins-edge_in layers edges k.vert w) in
    ap (λ (b : Bool). b
    && list_all (is_along_side c.edges)
    (zip (corners_in layers clayers found.0 (zip ks ws)).1 (zip (verts_told ks) ws))) here ∙ rest

turned_long : (vs : List VertName) → length (drop 1 vs ++ take 1 vs) ≡ length vs
turned_long vs = grind (arith, common_steps)

pub verts-polygon : (layers clayers : List Layer) (edges : List (Option EdgeRec)) (corners : List DraftCorner)
    → verts_of (corners_in layers clayers edges (turned corners)).1 ≡ verts_told corners
verts-polygon layers clayers edges corners =
    let vs = verts_told corners in
    verts-corners_in layers clayers edges corners (drop 1 vs ++ take 1 vs)
    (omega (arith, turned_long vs, length-map corners (λ (k : DraftCorner). k.vert)))

-- the corners of a polygon are one in every complex that has its edges
pub IsPolygon-corners_in : (c : Complex) (layers clayers : List Layer) (edges : List (Option EdgeRec))
    (corners : List DraftCorner) → 3 ≤ length corners → length corners ≤ 4096 → are_distinct (verts_told corners) ≡ true
    → Extends (corners_in layers clayers edges (turned corners)).0 c.edges
    → IsPolygon c.edges (corners_in layers clayers edges (turned corners)).1
IsPolygon-corners_in c layers clayers edges corners least most distinct more =
    let vs = verts_told corners in
    let polygon = (corners_in layers clayers edges (turned corners)).1 in
    let long : length polygon ≡ length corners = length-corners_in layers clayers edges (turned corners)
    ∙ length-turned_corners corners in
    let same = verts-polygon layers clayers edges corners in
    record {
      least = omega arith;
      most = omega arith;
      distinct = ap are_distinct same ∙ distinct;
      closed = ap (λ (us : List VertName). list_all (is_along_side c.edges) (zip polygon (sides us))) same
          ∙ closed_in c layers clayers edges corners (drop 1 vs ++ take 1 vs) more;
    }

-- ---- THE FACE ON A POLYGON

abbrev AreWide : Complex → List CornerRec → Type 0
AreWide c polygon = All (λ (k : CornerRec). length k.vals ≡ width c Corners) polygon

both_linked : (c d : Complex) (polygon : List CornerRec) → AreCornersThere d.verts d.edges polygon → AreWide c polygon
    → d.layers ≡ c.layers → All (IsCornerLinked d) polygon
both_linked c d polygon there wide same k q less =
    let both = there k q less in
    record {
      vert = both.0;
      edge = both.1;
      vals = wide k q less
          ∙ ap (λ (ls : KindLayers). total ls.corners) (sym same);
    }

face_linked : (c : Complex) (corners : List DraftCorner) (material smooth : ℤ) → 3 ≤ length corners
    → AreSides c.verts (turned corners) → AreWide c (polygon_face c corners material smooth).corners
    → IsFaceLinked (record c { edges = polygon_edges c corners }) (polygon_face c corners material smooth)
face_linked c corners material smooth least are wide =
    let d : Complex = record c { edges = polygon_edges c corners } in
    let polygon = (polygon_face c corners material smooth).corners in
    let long : length polygon ≡ length corners =
    length-corners_in c.layers.edges c.layers.corners c.edges (turned corners) ∙ length-turned_corners corners in
    record {
      some = omega arith;
      corners = both_linked c d polygon
          (corners_there c.verts c.layers.edges c.layers.corners c.edges (polygon_edges c corners) (turned corners) are
          (λ n x h. h)) wide refl;
      vals = length-row_given (material_and_smooth material smooth) c.layers.faces
          (given_two material_layer smooth_layer (material ∷ []) (smooth ∷ []) refl refl);
    }

-- what add_face is told
pub record IsPolygonTold (c : Complex) (corners : List DraftCorner) : Type 0 where
  pub least : 3 ≤ length corners
  pub most : length corners ≤ 4096
  pub distinct : are_distinct (verts_told corners) ≡ true
  pub there : All (λ (k : DraftCorner). IsThere c.verts k.vert.0) corners

pub IsLinked-with_face_told : (c : Complex) (corners : List DraftCorner) (material smooth : ℤ) → IsPolygonTold c corners
    → AreWide c (polygon_face c corners material smooth).corners → IsLinked c
    → IsLinked (record c {
      edges = polygon_edges c corners;
      faces =
          c.faces ++ Some (polygon_face c corners material smooth) ∷ [];
    })
IsLinked-with_face_told c corners material smooth told wide h =
    let d : Complex = record c { edges = polygon_edges c corners } in
    let are = AreSides-turned c.verts corners told.least told.distinct told.there in
    IsLinked-with_face d (polygon_face c corners material smooth)
    (face_linked c corners material smooth told.least are wide) (IsLinked-edges c (turned corners) are h)

-- the numbers that add_face is told
pub record AreNumbersTold (c : Complex) (corners : List DraftCorner) (material smooth : ℤ) : Type 0 where
  pub uv : All (λ (k : DraftCorner). list_all is_in_range k.uv ≡ true) corners
  pub material_in_range : is_in_range material ≡ true
  pub material_there : is_material c material ≡ true
  pub smooth_in_range : is_in_range smooth ≡ true
  pub smooth_least : is_smooth smooth ≡ true

corners_valid : (layers clayers : List Layer) (edges : List (Option EdgeRec)) (ks : List DraftCorner)
    (ws : List VertName) → All (λ (k : DraftCorner). list_all is_in_range k.uv ≡ true) ks
    → All IsCornerValid (corners_in layers clayers edges (zip ks ws)).1
corners_valid layers clayers edges [] ws uv = λ k d less. absurd (omega arith)
corners_valid layers clayers edges (k ∷ ks) [] uv = λ i d less. absurd (omega arith)
corners_valid layers clayers edges (k ∷ ks) (w ∷ ws) uv =
    let found = edge_in layers edges k.vert w in
    let here = All-head (λ (x : DraftCorner). list_all is_in_range x.uv ≡ true) k ks uv in
    let given : List (Layer × List ℤ) = (uv_layer, k.uv) ∷ [] in
    let range : AreInRange given =
    All-cons (λ (g : Layer × List ℤ). list_all is_in_range g.1 ≡ true) (
      uv_layer,
      k.uv,
    ) [] here (λ i d less. absurd (omega arith)) in
    All-cons IsCornerValid (record { vert = k.vert; edge = found.1; vals = row_given given clayers })
    (corners_in layers clayers found.0 (zip ks ws)).1
    (record { vals = in_range-row_given given clayers range })
    (corners_valid layers clayers found.0 ks ws
    (All-tail (λ (x : DraftCorner). list_all is_in_range x.uv ≡ true) k ks uv))

face_valid : (c : Complex) (corners : List DraftCorner) (material smooth : ℤ) → IsPolygonTold c corners
    → AreNumbersTold c corners material smooth
    → IsFaceValid (record c { edges = polygon_edges c corners }) (polygon_face c corners material smooth)
face_valid c corners material smooth told numbers =
    let d : Complex = record c { edges = polygon_edges c corners } in
    let given = material_and_smooth material smooth in
    let are : AreGiven given = given_two material_layer smooth_layer (material ∷ []) (smooth ∷ []) refl refl in
    let one : (x : ℤ) → is_in_range x ≡ true → list_all is_in_range (x ∷ []) ≡ true =
    λ x h. ap (λ (b : Bool). b && true) h in
    let range : AreInRange given =
    All-cons (λ (g : Layer × List ℤ). list_all is_in_range g.1 ≡ true) (
      material_layer,
      material ∷ [],
    ) ((smooth_layer, smooth ∷ []) ∷ []) (one material numbers.material_in_range)
    (All-cons (λ (g : Layer × List ℤ). list_all is_in_range g.1 ≡ true) (
      smooth_layer,
      smooth ∷ [],
    ) [] (one smooth numbers.smooth_in_range) (λ i d less. absurd (omega arith))) in
    let vs = verts_told corners in
    record {
      polygon = IsPolygon-corners_in d c.layers.edges c.layers.corners c.edges corners told.least told.most
          told.distinct (λ n x h. h);
      corners = corners_valid c.layers.edges c.layers.corners c.edges corners (drop 1 vs ++ take 1 vs) numbers.uv;
      vals = in_range-row_given given c.layers.faces range;
      material = allows-given (is_material d) given c.layers.faces material_layer material are (omega arith)
          numbers.material_there (material-given material smooth);
      smooth = allows-given is_smooth given c.layers.faces smooth_layer smooth are (omega arith) numbers.smooth_least
          (smooth-given material smooth);
    }

pub IsValid-with_face_told : (c : Complex) (corners : List DraftCorner) (material smooth : ℤ)
    → length c.faces < MAX_FACES → length (polygon_edges c corners) ≤ MAX_EDGES
    → corner_sum c.faces + length corners ≤ MAX_CORNERS
    → IsPolygonTold c corners → AreWide c (polygon_face c corners material smooth).corners
    → AreNumbersTold c corners material smooth → IsValid c
    → IsValid (record c {
      edges = polygon_edges c corners;
      faces =
          c.faces ++ Some (polygon_face c corners material smooth) ∷ [];
    })
IsValid-with_face_told c corners material smooth faces edges few told wide numbers h =
    let d : Complex = record c { edges = polygon_edges c corners } in
    let are = AreSides-turned c.verts corners told.least told.distinct told.there in
    let polygon = (polygon_face c corners material smooth).corners in
    let long : length polygon ≡ length corners =
    length-corners_in c.layers.edges c.layers.corners c.edges (turned corners) ∙ length-turned_corners corners in
    IsValid-with_face d (polygon_face c corners material smooth) faces (omega arith)
    (face_linked c corners material smooth told.least are wide) (face_valid c corners material smooth told numbers)
    (IsValid-edges c (turned corners) are edges h)

pub IsSimple-with_face_told : (c : Complex) (corners : List DraftCorner) (material smooth : ℤ) → IsSimple c
    → IsSimple (record c {
      edges = polygon_edges c corners;
      faces =
          c.faces ++ Some (polygon_face c corners material smooth) ∷ [];
    })
IsSimple-with_face_told c corners material smooth h = IsSimple-edges c (turned corners) h

-- which edges have a corner, with a face more
pub used-face : (faces : List (Option FaceRec)) (f : FaceRec) (e : EdgeName)
    → (list_any (passes (uses_edge e)) faces || list_any (is_along e) f.corners)
    ≡ list_any (passes (uses_edge e)) (faces ++ Some f ∷ [])
used-face faces f e =
    ap (λ (b : Bool). list_any (passes (uses_edge e)) faces || b) (sym (or-false (list_any (is_along e) f.corners)))
    ∙ sym (list_any-append (passes (uses_edge e)) faces (Some f ∷ []))

pub IsDraft-with_face_told : (c : Complex) (flags flags' : List Bool) (open_before : List CornerRec)
    (index index' : EdgeIndex) (corners : List DraftCorner) (material smooth : ℤ) → IsPolygonTold c corners
    → AreWide c (polygon_face c corners material smooth).corners
    → ((e : EdgeName) → is_in flags' e.0
    ≡ (is_in flags e.0 || list_any (is_along e) (polygon_face c corners material smooth).corners))
    → Knows index' (polygon_edges c corners) → IsDraft c flags open_before index
    → IsDraft (record c {
      edges = polygon_edges c corners;
      faces =
          c.faces ++ Some (polygon_face c corners material smooth) ∷ [];
    }) flags' [] index'
IsDraft-with_face_told c flags flags' open_before index index' corners material smooth told wide same knows h = record {
  linked = IsLinked-with_face_told c corners material smooth told wide h.linked;
  used = λ e. same e ∙ ap (λ (b : Bool). b || list_any (is_along e) (polygon_face c corners material smooth).corners)
      (h.used e) ∙ used-face c.faces (polygon_face c corners material smooth) e;
  closed = refl;
  knows = knows;
}

-- a face that is made stands
pub face_of-polygon : (polygon : List CornerRec) (row : List ℤ) → 0 < length polygon
    → face_of polygon row ≡ Some (record { corners = polygon; vals = row })
face_of-polygon [] row some = absurd (omega arith)
face_of-polygon (k ∷ ks) row some = refl

-- ---- THE COLUMNS AFTER A FACE IS ADDED

-- the columns of edges and faces before, with room, after the polygon, and after the face is closed
pub record IsAdded (e e1 e2 : EdgeTable) (f f1 f2 f3 : FaceTable) (corners : List DraftCorner) (row : List ℤ)
    : Type 0 where
  pub edges : e1.table ≡ e.table
  pub edge_layers : e1.layers ≡ e.layers
  pub faces : f1.table ≡ f.table
  pub corner_layers : f1.corner_layers ≡ f.corner_layers
  pub face_layers : f1.layers ≡ f.layers
  pub told : (e2.table, f2.open) ≡ corners_in e1.layers f1.corner_layers e1.table (turned corners)
  pub same_layers : e2.layers ≡ e1.layers
  pub polygon : f2 ≡ record f1 { «open» = f2.open; corner_room = f2.corner_room }
  pub closed : f3 ≡ record f2 { table = f2.table ++ face_of f2.open row ∷ []; «open» = []; room = f2.room - 1 }

pub edges-added : (v : VertTable) (e e1 e2 : EdgeTable) (f f1 f2 f3 : FaceTable) (materials libraries : List (List ℕ))
    (corners : List DraftCorner) (row : List ℤ) → IsAdded e e1 e2 f f1 f2 f3 corners row
    → (e2.table, f2.open) ≡ corners_in e.layers f.corner_layers e.table (turned corners)
edges-added v e e1 e2 f f1 f2 f3 materials libraries corners row is =
    rw (is.edge_layers, is.corner_layers, is.edges) at is.told

-- the complex that they show then
pub complex-added : (v : VertTable) (e e1 e2 : EdgeTable) (f f1 f2 f3 : FaceTable) (materials libraries : List (List ℕ))
    (corners : List DraftCorner) (material smooth : ℤ) (row : List ℤ)
    → IsAdded e e1 e2 f f1 f2 f3 corners row → 3 ≤ length corners
    → row ≡ row_given (material_and_smooth material smooth) f2.layers
    → let c = complex_of v e f materials libraries in
    complex_of v e2 f3 materials libraries ≡ record c {
      edges = polygon_edges c corners;
      faces =
          c.faces ++ Some (polygon_face c corners material smooth) ∷ [];
    }
complex-added v e e1 e2 f f1 f2 f3 materials libraries corners material smooth row is least row_is =
    let all = corners_in e.layers f.corner_layers e.table (turned corners) in
    let told = edges-added v e e1 e2 f f1 f2 f3 materials libraries corners row is in
    let edges : e2.table ≡ all.0 = ap (λ (p : List (Option EdgeRec) × List CornerRec). p.0) told in
    let polygon : f2.open ≡ all.1 = ap (λ (p : List (Option EdgeRec) × List CornerRec). p.1) told in
    let long : length all.1 ≡ length corners = length-corners_in e.layers f.corner_layers e.table (turned corners)
    ∙ length-turned_corners corners in
    let layers : e2.layers ≡ e.layers = is.same_layers ∙ is.edge_layers in
    let face_layers : f2.layers ≡ f.layers = ap (λ (x : FaceTable). x.layers) is.polygon ∙ is.face_layers in
    let faces : f2.table ≡ f.table = ap (λ (x : FaceTable). x.table) is.polygon ∙ is.faces in
    let clayers : f2.corner_layers ≡ f.corner_layers = ap (λ (x : FaceTable). x.corner_layers) is.polygon
    ∙ is.corner_layers in
    let face : face_of f2.open row
    ≡ Some (record { corners = all.1; vals = row_given (material_and_smooth material smooth) f.layers }) =
    rw (
      polygon,
      row_is,
      face_layers,
    ) (face_of-polygon all.1 (row_given (material_and_smooth material smooth) f.layers) (omega arith)) in
    let table : f3.table
    ≡ f.table ++ Some (record { corners = all.1; vals = row_given (material_and_smooth material smooth) f.layers })
    ∷ [] = ap (λ (x : FaceTable). x.table) is.closed ∙ rw (faces, face) refl in
    let clayers3 : f3.corner_layers ≡ f.corner_layers = ap (λ (x : FaceTable). x.corner_layers) is.closed ∙ clayers in
    let layers3 : f3.layers ≡ f.layers = ap (λ (x : FaceTable). x.layers) is.closed ∙ face_layers in
    rw (edges, layers, table, clayers3, layers3) refl
