-- Edges that are found or made in a table, and the corners along the sides of a polygon.
use Rattle.std.proofs.Common.{◌≡◌, ℕ, ◌+◌, ◌<◌, ◌≤◌, Bool, true, false, eqb, ◌||◌, List, [], ◌∷◌, ◌++◌, length, get_or}
use Rattle.std.proofs.Common.{map, take, drop, refl, sym, ap, ◌∙◌, append_assoc, arith, Option, Some, None, is_some}
use Rattle.std.specs.List.{position, list_any}
use Rattle.std.specs.Option.{option_map}
use Rattle.std.proofs.lemmas.List.{drop_more, drop_all, append-nil, length-map, get_or-map, length-append}
use Rattle.std.proofs.lemmas.List.Quantifiers.{position-Some}
use Rattle.std.proofs.lemmas.Slice.Zip.{get_or-zip, length-zip}
use Rattle.std.proofs.Math.Bool.{or-false}
use Rattle.std.proofs.lemmas.List.Folds.{list_any-append}
use Rattle.std.proofs.lemmas.Grind.{common_steps}
use Rattle.cust_data.specs.Layers.{Layer, total, zeros}
use Rattle.mesh_model.specs.Table.{at, IsThere, passes}
use Rattle.mesh_model.specs.Complex.{uv_layer}
use Rattle.mesh_model.specs.Incidence.{joins, edge_joining, is_along}
use Rattle.mesh_model.specs.Values.{row_given}
use Rattle.mesh_model.specs.Columns.{FaceTable}
use Rattle.mesh_model.specs.Draft.{found_in, edge_in, turned, corners_in}
use Rattle.mesh_model.proofs.Tables.{there_passes, at-append_new}
use Rattle.mesh_model.proofs.Polygons.{after}
use Rattle.mesh_model.specs.declared.draft.DraftCorner.{DraftCorner}
use Rattle.mesh_model.specs.declared.names.VertName.{VertName}
use Rattle.mesh_model.specs.declared.names.EdgeName.{EdgeName}
use Rattle.mesh_model.specs.declared.records.EdgeRec.{EdgeRec}
use Rattle.mesh_model.specs.declared.records.CornerRec.{CornerRec}

-- ---- ONE EDGE

-- a named place that was found
named : (edges : List (Option EdgeRec)) (v w : VertName) (o : Option ℕ) (e : EdgeName)
    → option_map (λ (n : ℕ). let x : EdgeName = record { 0 = n } in x) o ≡ Some e → o ≡ Some e.0
named edges v w None e h = absurd (cc)
named edges v w (Some n) e h = let same : record { 0 = n } ≡ e = cc in ap (λ (x : EdgeName). Some x.0) same

-- the edge that is found joins the two
pub joins-found : (edges : List (Option EdgeRec)) (v w : VertName) (e : EdgeName) → edge_joining edges v w ≡ Some e
    → passes (joins v w) (at edges e.0) ≡ true
joins-found edges v w e h =
    (position-Some (passes (joins v w)) edges e.0 None (named edges v w (position (passes (joins v w)) edges) e h)).1

there-found_in : (layers : List Layer) (edges : List (Option EdgeRec)) (v w : VertName) (found : Option EdgeName)
    → edge_joining edges v w ≡ found → IsThere (found_in layers edges v w found).0 (found_in layers edges v w found).1.0
there-found_in layers edges v w None h =
    ap is_some (at-append_new edges (record { a = v; b = w; vals = zeros (total layers) }))
there-found_in layers edges v w (Some e) h = there_passes (joins v w) (at edges e.0) (joins-found edges v w e h)

-- the edge that is found or made is there
pub there-edge_in : (layers : List Layer) (edges : List (Option EdgeRec)) (v w : VertName)
    → IsThere (edge_in layers edges v w).0 (edge_in layers edges v w).1.0
there-edge_in layers edges v w = there-found_in layers edges v w (edge_joining edges v w) refl

few-found_in : (layers : List Layer) (edges : List (Option EdgeRec)) (v w : VertName) (found : Option EdgeName)
    → length (found_in layers edges v w found).0 ≤ length edges + 1
few-found_in layers edges v w None =
    omega (arith, length-append edges (Some (record { a = v; b = w; vals = zeros (total layers) }) ∷ []))
few-found_in layers edges v w (Some e) = omega arith

pub few-edge_in : (layers : List Layer) (edges : List (Option EdgeRec)) (v w : VertName)
    → length (edge_in layers edges v w).0 ≤ length edges + 1
few-edge_in layers edges v w = few-found_in layers edges v w (edge_joining edges v w)

-- ---- CORNERS

length-turned : (vs : List VertName) → length (drop 1 vs ++ take 1 vs) ≡ length vs
length-turned vs = grind (arith, common_steps)

get_or-turned : (vs : List VertName) (i : ℕ) (d : VertName) → i < length vs
    → get_or (drop 1 vs ++ take 1 vs) i d ≡ get_or vs (after (length vs) i) d
get_or-turned vs i d h = grind (arith, common_steps)

pub length-turned_corners : (ks : List DraftCorner) → length (turned ks) ≡ length ks
length-turned_corners ks =
    let vs = map (λ (k : DraftCorner). k.vert) ks in
    omega (arith, length-zip ks (drop 1 vs ++ take 1 vs), length-turned vs, length-map ks (λ (k : DraftCorner). k.vert))

-- a corner of a polygon beside the vertex of the next one
pub turned-at : (ks : List DraftCorner) (i next : ℕ) (d : DraftCorner) → i < length ks → after (length ks) i ≡ next
    → next < length ks → get_or (turned ks) i (d, d.vert) ≡ (get_or ks i d, (get_or ks next d).vert)
turned-at ks i next d less is less' =
    let vert : DraftCorner → VertName = λ k. k.vert in
    let vs = map vert ks in
    let long : length vs ≡ length ks = length-map ks vert in
    let there : get_or vs next d.vert ≡ (get_or ks next d).vert = get_or-map vert ks next d d.vert less' in
    get_or-zip ks (drop 1 vs ++ take 1 vs) i (d, d.vert) less (omega (arith, length-turned vs))
    ∙ ap (λ (x : VertName). (get_or ks i d, x)) (get_or-turned vs i d.vert (omega arith) ∙ rw (long, is) there)

-- one corner more: it stands at the end, and what is left begins after it
pub corners_in-more : (layers clayers : List Layer) (edges edges' : List (Option EdgeRec)) (polygon : List CornerRec)
    (ks : List (DraftCorner × VertName)) (i : ℕ) (k d : DraftCorner) (w : VertName) (all : List (Option EdgeRec)
    × List CornerRec)
    → i < length ks → get_or ks i (d, d.vert) ≡ (k, w) → edges' ≡ (edge_in layers edges k.vert w).0
    → ((corners_in layers clayers edges (drop i ks)).0, polygon ++ (corners_in layers clayers edges (drop i ks)).1)
    ≡ all
    → (
      (corners_in layers clayers edges' (drop (i + 1) ks)).0,
      (polygon ++ record {
        vert = k.vert;
        edge = (edge_in layers edges k.vert w).1;
        vals =
            row_given ((uv_layer, k.uv) ∷ []) clayers;
      } ∷ []) ++ (corners_in layers clayers edges' (drop (i + 1) ks)).1,
    )
    ≡ all
corners_in-more layers clayers edges edges' polygon ks i k d w all less at_i made told =
    let left : drop i ks ≡ (k, w) ∷ drop (i + 1) ks = drop_more ks i (d, d.vert) less
    ∙ ap (λ (s : DraftCorner × VertName). s ∷ drop (i + 1) ks) at_i in
    let told' = rw left at told in
    rw (made, append_assoc) told'

-- no corner is left
pub corners_in-all : (layers clayers : List Layer) (edges : List (Option EdgeRec)) (polygon : List CornerRec)
    (ks : List (DraftCorner × VertName)) (i : ℕ) (all : List (Option EdgeRec) × List CornerRec)
    → length ks ≤ i → (
      (corners_in layers clayers edges (drop i ks)).0,
      polygon ++ (corners_in layers clayers edges (drop i ks)).1,
    ) ≡ all → (edges, polygon) ≡ all
corners_in-all layers clayers edges polygon ks i all over told =
    let none : drop i ks ≡ [] = drop_all i ks over in
    let told' = rw none at told in
    ap (λ (r : List CornerRec). (edges, r)) (sym (append-nil polygon)) ∙ told'

-- which edges have a corner, with one corner more
pub used-more : (a : Bool) (ks : List CornerRec) (k : CornerRec) (e : EdgeName)
    → ((a || list_any (is_along e) ks) || eqb k.edge.0 e.0) ≡ (a || list_any (is_along e) (ks ++ k ∷ []))
used-more true ks k e = refl
used-more false ks k e = ap (λ (b : Bool). list_any (is_along e) ks || b) (sym (or-false (eqb k.edge.0 e.0)))
    ∙ sym (list_any-append (is_along e) ks (k ∷ []))

-- faces with other open corners, twice
pub open-twice : (h f g : FaceTable) (o : List CornerRec) (r : ℕ) → h ≡ record f { «open» = o; corner_room = r }
    → f ≡ record g { «open» = f.open; corner_room = f.corner_room }
    → h ≡ record g { «open» = h.open; corner_room = h.corner_room }
open-twice h f g o r first second =
    let table : f.table ≡ g.table = ap (λ (x : FaceTable). x.table) second in
    let clayers : f.corner_layers ≡ g.corner_layers = ap (λ (x : FaceTable). x.corner_layers) second in
    let layers : f.layers ≡ g.layers = ap (λ (x : FaceTable). x.layers) second in
    let room : f.room ≡ g.room = ap (λ (x : FaceTable). x.room) second in
    rw first (rw (table, clayers, layers, room) refl)
