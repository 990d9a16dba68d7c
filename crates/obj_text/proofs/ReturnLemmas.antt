-- What is written of a complex is read again.
use Rattle.std.proofs.Common.{◌≡◌, ◌<◌, ◌+◌, ◌∙◌, ◌^◌, ℕ, zero, suc, ℤ, pos, true, false, not, Bool, cond}
use Rattle.std.proofs.Common.{List, [], ◌∷◌, ◌++◌, length, map, refl, sym, ap, ap₂, arith, Option, Some, None}
use Rattle.std.proofs.Common.{inl, inr}
use Rattle.std.specs.List.{flat_map, list_all, list_any, zip}
use Rattle.std.proofs.lemmas.Bool.{and_parts, or_cases, or_left, or_right, eqb-true, true≢false}
use Rattle.std.proofs.lemmas.List.{length-map}
use Rattle.mesh_model.specs.Table.{at, live, passes}
use Rattle.mesh_model.specs.Complex.{Complex, verts_of}
use Rattle.mesh_model.specs.Incidence.{joins, sides, is_loose, is_along, uses_edge}
use Rattle.mesh_model.specs.Valid.{IsValid, is_along_side}
use Rattle.mesh_model.specs.declared.names.VertName.{VertName}
use Rattle.mesh_model.specs.declared.records.EdgeRec.{EdgeRec}
use Rattle.mesh_model.specs.declared.records.CornerRec.{CornerRec}
use Rattle.mesh_model.specs.declared.records.FaceRec.{FaceRec}
use Rattle.mesh_model.proofs.MadePolygons.{joins-found}
use Rattle.mesh_model.proofs.Polygons.{length-sides}
use Rattle.obj_format.specs.declared.texture.Uv.{Uv}
use Rattle.obj_format.specs.Fixed.{BeginsFixed}
use Rattle.obj_reader.specs.declared.parts.Parts.{Parts}
use Rattle.obj_reader.specs.Obj.{nothing}
use Rattle.obj_writer.specs.Written.{vert_lines, loose_lines}
use Rattle.obj_writer.specs.Whole.{places, has_places, place_line, place_lines, numbers_of, live_faces, face_texts}
use Rattle.obj_writer.specs.Whole.{library_lines, text}
use Rattle.obj_writer.proofs.PlaceLemmas.{uv_fixed}
use Rattle.obj_writer.proofs.FaceTextLemmas.{numbers_fixed, first_two}
use Rattle.obj_text.specs.Returned.{rank, corner_shown, material_name, Shown, face_shown, joins_ranks, has_edge}
use Rattle.obj_text.specs.Returned.{IsRenamed, ReadWritten}
use Rattle.obj_text.proofs.RunLemmas.{Runs, runs_none, runs_then, runs_read}
use Rattle.obj_text.proofs.NameRounds.{runs_libraries}
use Rattle.obj_text.proofs.PointRounds.{at_verts, verts_read, with_places, runs_verts, runs_places, all_on_grid}
use Rattle.obj_text.proofs.RankLemmas.{live_cons, live_read, same_points, rank_same, rank_most}
use Rattle.obj_text.proofs.EdgeTraces.{Side, Traces, no_traces, is_pair, pair_pair, pair_symm, pair_cases}
use Rattle.obj_text.proofs.StandLemmas.{Now, parts, Stands, Covers, AllCovered, IsRead, AreRead, corner_read, named_is}
use Rattle.obj_text.proofs.SideRounds.{AreFew, loose_sides, loose_from, side_of}
use Rattle.obj_text.proofs.FaceRounds.{uvs_written, side_read, ranks_join, AreFacesGood, faces_go, all_sides, face_sides, last_of}
use Rattle.obj_text.proofs.GoodLemmas.{faces_good, faces_few, places_small, places_few}

-- ---- FACES AS THEY ARE SHOWN

-- a number of a vertex that was read is its rank
name_rank : (c : Complex) (w : Now) (v x : ℕ) → x ≡ rank c v → rank (parts c (uvs_written c) w).draft x ≡ x
name_rank c w v x is = rank_same c.verts x (omega (arith, is, rank_most c.verts v))

corners_shown : (c : Complex) (w : Now) (ks js : List CornerRec) → map corner_read ks ≡ map (corner_shown c) js
    → map (corner_shown (parts c (uvs_written c) w).draft) ks ≡ map (corner_shown c) js
corners_shown c w [] [] h = refl
corners_shown c w [] (j ∷ js) h = absurd (cc)
corners_shown c w (k ∷ ks) [] h = absurd (cc)
corners_shown c w (k ∷ ks) (j ∷ js) h =
    let d = (parts c (uvs_written c) w).draft in
    let first : corner_read k ≡ corner_shown c j = cc in
    let rest : map corner_read ks ≡ map (corner_shown c) js = cc in
    let vert : k.vert.0 ≡ rank c j.vert.0 = ap (λ (p : ℕ × Uv). p.0) first in
    let here : corner_shown d k ≡ corner_read k =
    ap₂ (λ (x : ℕ) (uv : Uv). (x, uv)) (name_rank c w j.vert.0 k.vert.0 vert)
    (uv_fixed d k (record { corners = refl; faces = refl })) in
    ap₂ (λ (x : ℕ × Uv) (xs : List (ℕ × Uv)). x ∷ xs) (here ∙ first) (corners_shown c w ks js rest)

face_same : (c : Complex) (w : Now) (g f : FaceRec) → IsRead c w.materials g f
    → face_shown (parts c (uvs_written c) w).draft g ≡ face_shown c f
face_same c w g f h =
    let d = (parts c (uvs_written c) w).draft in
    let numbers : numbers_of d g ≡ (h.number, (numbers_of c f).1) =
    numbers_fixed d g (record { corners = refl; faces = refl }) ∙ ap first_two h.vals in
    let material : material_name w.materials (numbers_of d g).0 ≡ material_name c.materials (numbers_of c f).0 =
    ap (λ (p : ℤ × ℤ). material_name w.materials p.0) numbers
    ∙ named_is w.materials h.number (material_name c.materials (numbers_of c f).0) h.named in
    let smooth : (numbers_of d g).1 ≡ (numbers_of c f).1 = ap (λ (p : ℤ × ℤ). p.1) numbers in
    ap (λ (ks : List (ℕ × Uv)). let s : Shown = record {
      corners = ks;
      material = material_name w.materials (numbers_of d g).0;
      smooth = (numbers_of d g).1;
    } in s) (corners_shown c w g.corners f.corners h.corners)
    ∙ ap₂ (λ (m : Option (List ℕ)) (n : ℤ). let s : Shown = record {
      corners = map (corner_shown c) f.corners;
      material = m;
      smooth = n;
    } in s) material smooth

faces_same : (c : Complex) (w : Now) (os : List (Option FaceRec)) (fs : List FaceRec) → AreRead c w.materials os fs
    → map (face_shown (parts c (uvs_written c) w).draft) (live_faces os) ≡ map (face_shown c) fs
faces_same c w [] [] h = refl
faces_same c w [] (f ∷ fs) h = absurd h
faces_same c w (None ∷ os) [] h = absurd h
faces_same c w (Some g ∷ os) [] h = absurd h
faces_same c w (None ∷ os) (f ∷ fs) h = absurd h
faces_same c w (Some g ∷ os) (f ∷ fs) h =
    ap₂ (λ (x : Shown) (xs : List Shown). x ∷ xs) (face_same c w g f h.0) (faces_same c w os fs h.1)

all_there : (c : Complex) (names : List (List ℕ)) (os : List (Option FaceRec)) (fs : List FaceRec) → AreRead c names os fs
    → live os ≡ length os
all_there c names [] [] h = refl
all_there c names [] (f ∷ fs) h = absurd h
all_there c names (None ∷ os) [] h = absurd h
all_there c names (Some g ∷ os) [] h = absurd h
all_there c names (None ∷ os) (f ∷ fs) h = absurd h
all_there c names (Some g ∷ os) (f ∷ fs) h = omega (arith, live_cons (Some g) os, all_there c names os fs h.1)

-- ---- EDGES

-- an edge that was read joins two numbers
pub record IsJoined (edges : List (Option EdgeRec)) (x y : ℕ) : Type 0 where
  pub place : ℕ
  pub edge : EdgeRec
  pub there : at edges place ≡ Some edge
  pub pair : is_pair edge.a.0 edge.b.0 x y ≡ true

joined_at : (edges : List (Option EdgeRec)) (n : ℕ) (o : Option EdgeRec) (v w : VertName) → at edges n ≡ o
    → passes (joins v w) o ≡ true → IsJoined edges v.0 w.0
joined_at edges n None v w there h = absurd (true≢false (sym h))
joined_at edges n (Some r) v w there h = record { place = n; edge = r; there = there; pair = h }

covers_joined : (edges : List (Option EdgeRec)) (v w : VertName) → Covers edges v w → IsJoined edges v.0 w.0
covers_joined edges v w h = joined_at edges h.0.0 (at edges h.0.0) v w refl (joins-found edges v w h.0 h.1)

-- the same for a pair that is the same
joined_pair : (edges : List (Option EdgeRec)) (x y i j : ℕ) → is_pair x y i j ≡ true → IsJoined edges x y → IsJoined edges i j
joined_pair edges x y i j same h = record {
  place = h.place;
  edge = h.edge;
  there = h.there;
  pair = pair_pair x y h.edge.a.0 h.edge.b.0 i j (pair_symm h.edge.a.0 h.edge.b.0 x y h.pair) same;
}

first_covered : (edges : List (Option EdgeRec)) (loose : Bool) (i j : ℕ) (ss : List Side) → loose ≡ true
    → AllCovered edges (cond loose (side_of i j ∷ []) [] ++ ss) → IsJoined edges i j
first_covered edges true i j ss is h = covers_joined edges (side_of i j).0 (side_of i j).1 h.0
first_covered edges false i j ss is h = absurd (true≢false (sym is))

rest_covered : (edges : List (Option EdgeRec)) (loose : Bool) (i j : ℕ) (ss : List Side)
    → AllCovered edges (cond loose (side_of i j ∷ []) [] ++ ss) → AllCovered edges ss
rest_covered edges true i j ss h = h.1
rest_covered edges false i j ss h = h

-- a loose edge
loose_joined : (c : Complex) (edges : List (Option EdgeRec)) (m : ℕ) (es : List (Option EdgeRec)) (k : ℕ) (e : EdgeRec)
    → AllCovered edges (loose_sides c m es) → at es k ≡ Some e → is_loose c (record { 0 = m + k }) ≡ true
    → IsJoined edges (rank c e.a.0) (rank c e.b.0)
loose_joined c edges m [] k e h there loose = absurd (cc)
loose_joined c edges m (None ∷ es) zero e h there loose = absurd (cc)
loose_joined c edges m (None ∷ es) (suc k) e h there loose =
    loose_joined c edges (m + 1) es k e h there
    (ap (λ (n : ℕ). is_loose c (record { 0 = n })) (omega arith) ∙ loose)
loose_joined c edges m (Some d ∷ es) zero e h there loose =
    let same : d ≡ e = cc in
    let here : is_loose c (record { 0 = m }) ≡ true = ap (λ (n : ℕ). is_loose c (record { 0 = n })) (omega arith) ∙ loose in
    let first = first_covered edges (is_loose c (record { 0 = m })) (rank c d.a.0) (rank c d.b.0) (loose_sides c (m + 1) es) here h in
    rw (sym same) first
loose_joined c edges m (Some d ∷ es) (suc k) e h there loose =
    loose_joined c edges (m + 1) es k e
    (rest_covered edges (is_loose c (record { 0 = m })) (rank c d.a.0) (rank c d.b.0) (loose_sides c (m + 1) es) h) there
    (ap (λ (n : ℕ). is_loose c (record { 0 = n })) (omega arith) ∙ loose)

-- an edge that a face has
some_joined : (c : Complex) (edges : List (Option EdgeRec)) (n : ℕ) (e : EdgeRec) (s : Side) → at c.edges n ≡ Some e
    → is_along_side c.edges (record { vert = s.0; edge = record { 0 = n }; vals = [] }, s) ≡ true
    → Covers edges (side_read c s).0 (side_read c s).1 → IsJoined edges (rank c e.a.0) (rank c e.b.0)
some_joined c edges n e s there along covered =
    let joined : joins s.0 s.1 e ≡ true = sym (ap (passes (joins s.0 s.1)) there) ∙ along in
    let ranks : is_pair (rank c e.a.0) (rank c e.b.0) (rank c s.0.0) (rank c s.1.0) ≡ true = ranks_join c s.0 s.1 e joined in
    joined_pair edges (rank c s.0.0) (rank c s.1.0) (rank c e.a.0) (rank c e.b.0)
    (pair_symm (rank c e.a.0) (rank c e.b.0) (rank c s.0.0) (rank c s.1.0) ranks)
    (covers_joined edges (side_read c s).0 (side_read c s).1 covered)

corner_joined : (c : Complex) (edges : List (Option EdgeRec)) (n : ℕ) (e : EdgeRec) (ks : List CornerRec) (ss : List Side)
    → at c.edges n ≡ Some e → length ks ≡ length ss → list_all (is_along_side c.edges) (zip ks ss) ≡ true
    → AllCovered edges (map (side_read c) ss) → list_any (is_along (record { 0 = n })) ks ≡ true
    → IsJoined edges (rank c e.a.0) (rank c e.b.0)
corner_joined c edges n e [] ss there long closed covered used = absurd (true≢false (sym used))
corner_joined c edges n e (k ∷ ks) [] there long closed covered used = absurd (omega arith)
corner_joined c edges n e (k ∷ ks) (s ∷ ss) there long closed covered used =
    let both = and_parts (is_along_side c.edges (k, s)) (list_all (is_along_side c.edges) (zip ks ss)) closed in
    elim (or_cases (is_along (record { 0 = n }) k) (list_any (is_along (record { 0 = n })) ks) used) [
      | inl here ↦ some_joined c edges n e s there
          (ap (λ (m : ℕ). passes (joins s.0 s.1) (at c.edges m)) (sym (eqb-true k.edge.0 n here)) ∙ both.0) covered.0
      | inr later ↦ corner_joined c edges n e ks ss there (omega arith) both.1 covered.1 later
    ]

covered_parts : (edges : List (Option EdgeRec)) (ss ts : List Side) → AllCovered edges (ss ++ ts)
    → AllCovered edges ss × AllCovered edges ts
covered_parts edges [] ts h = (tt, h)
covered_parts edges (s ∷ ss) ts h = let rest = covered_parts edges ss ts h.1 in ((h.0, rest.0), rest.1)

face_joined : (c : Complex) (edges : List (Option EdgeRec)) (n : ℕ) (e : EdgeRec) (table : List (Option FaceRec))
    → at c.edges n ≡ Some e → AreFacesGood c (live_faces table) → AllCovered edges (all_sides c (live_faces table))
    → list_any (passes (uses_edge (record { 0 = n }))) table ≡ true
    → IsJoined edges (rank c e.a.0) (rank c e.b.0)
face_joined c edges n e [] there good covered used = absurd (true≢false (sym used))
face_joined c edges n e (None ∷ os) there good covered used = face_joined c edges n e os there good covered used
face_joined c edges n e (Some f ∷ os) there good covered used =
    let both = covered_parts edges (face_sides c f.corners) (all_sides c (live_faces os)) covered in
    let vert : CornerRec → VertName = λ k. k.vert in
    let long : length f.corners ≡ length (sides (verts_of f.corners)) =
    sym (length-sides (verts_of f.corners) ∙ length-map f.corners vert) in
    elim (or_cases (uses_edge (record { 0 = n }) f) (list_any (passes (uses_edge (record { 0 = n }))) os) used) [
      | inl here ↦ corner_joined c edges n e f.corners (sides (verts_of f.corners)) there long good.0.polygon.closed
          both.0 here
      | inr later ↦ face_joined c edges n e os there good.1 both.1 later
    ]

-- every edge was read
edge_joined : (c : Complex) (edges : List (Option EdgeRec)) (n : ℕ) (e : EdgeRec) (used : Bool) → at c.edges n ≡ Some e
    → list_any (passes (uses_edge (record { 0 = n }))) c.faces ≡ used
    → AreFacesGood c (live_faces c.faces) → AllCovered edges (loose_sides c 0 c.edges)
    → AllCovered edges (all_sides c (live_faces c.faces))
    → IsJoined edges (rank c e.a.0) (rank c e.b.0)
edge_joined c edges n e true there is good loose covered = face_joined c edges n e c.faces there good covered is
edge_joined c edges n e false there is good loose covered =
    loose_joined c edges 0 c.edges n e loose there
    (ap (λ (m : ℕ). is_loose c (record { 0 = m })) (omega arith) ∙ ap not is)

-- ---- THE SAME PAIRS

any_of : (p : EdgeRec → Bool) (edges : List (Option EdgeRec)) (n : ℕ) (e : EdgeRec) → at edges n ≡ Some e → p e ≡ true
    → list_any (passes p) edges ≡ true
any_of p [] n e there h = absurd (cc)
any_of p (o ∷ os) zero e there h =
    or_left (passes p o) (list_any (passes p) os) (ap (passes p) there ∙ h)
any_of p (o ∷ os) (suc n) e there h =
    or_right (passes p o) (list_any (passes p) os) (any_of p os n e there h)

-- an edge that passes
pub record IsPassed (p : EdgeRec → Bool) (edges : List (Option EdgeRec)) : Type 0 where
  pub place : ℕ
  pub edge : EdgeRec
  pub there : at edges place ≡ Some edge
  pub passed : p edge ≡ true

passed_first : (p : EdgeRec → Bool) (o : Option EdgeRec) (os : List (Option EdgeRec)) → passes p o ≡ true
    → IsPassed p (o ∷ os)
passed_first p None os h = absurd (true≢false (sym h))
passed_first p (Some e) os h = record { place = 0; edge = e; there = refl; passed = h }

one_passed : (p : EdgeRec → Bool) (edges : List (Option EdgeRec)) → list_any (passes p) edges ≡ true → IsPassed p edges
one_passed p [] h = absurd (true≢false (sym h))
one_passed p (o ∷ os) h =
    elim (or_cases (passes p o) (list_any (passes p) os) h) [
      | inl here ↦ passed_first p o os here
      | inr later ↦ let it = one_passed p os later in
          record { place = suc it.place; edge = it.edge; there = it.there; passed = it.passed }
    ]

-- ranks are names where both are ranks
ranks_named : (c : Complex) (w : Now) (e r : EdgeRec) → is_pair (rank c e.a.0) (rank c e.b.0) r.a.0 r.b.0 ≡ true
    → (rank (parts c (uvs_written c) w).draft r.a.0 ≡ r.a.0) × (rank (parts c (uvs_written c) w).draft r.b.0 ≡ r.b.0)
ranks_named c w e r pair =
    elim (pair_cases (rank c e.a.0) (rank c e.b.0) r.a.0 r.b.0 pair) [
      | inl p ↦ (name_rank c w e.a.0 r.a.0 (sym p.0), name_rank c w e.b.0 r.b.0 (sym p.1))
      | inr p ↦ (name_rank c w e.b.0 r.a.0 (sym p.1), name_rank c w e.a.0 r.b.0 (sym p.0))
    ]

-- an edge that was read is one that was written
edge_from : (c : Complex) (w : Now) (i j : ℕ) → Traces c w.edges w.names
    → has_edge (parts c (uvs_written c) w).draft i j ≡ true → has_edge c i j ≡ true
edge_from c w i j traces h =
    let d = (parts c (uvs_written c) w).draft in
    let it = one_passed (joins_ranks d i j) w.edges h in
    let r : EdgeRec = it.edge in
    let from = traces.written it.place r it.there in
    let e : EdgeRec = from.written.edge in
    let A = rank c e.a.0 in
    let B = rank c e.b.0 in
    let same = ranks_named c w e r from.written.joins in
    let pair : is_pair r.a.0 r.b.0 i j ≡ true =
    ap₂ (λ (x y : ℕ). is_pair x y i j) (sym same.0) (sym same.1) ∙ it.passed in
    any_of (joins_ranks c i j) c.edges from.name e from.written.there
    (pair_pair r.a.0 r.b.0 A B i j (pair_symm A B r.a.0 r.b.0 from.written.joins) pair)

-- an edge that was written is read
edge_to : (c : Complex) (w : Now) (i j : ℕ) → Traces c w.edges w.names → AreFacesGood c (live_faces c.faces)
    → AllCovered w.edges (loose_sides c 0 c.edges) → AllCovered w.edges (all_sides c (live_faces c.faces))
    → has_edge c i j ≡ true → has_edge (parts c (uvs_written c) w).draft i j ≡ true
edge_to c w i j traces good loose covered h =
    let d = (parts c (uvs_written c) w).draft in
    let it = one_passed (joins_ranks c i j) c.edges h in
    let e : EdgeRec = it.edge in
    let A = rank c e.a.0 in
    let B = rank c e.b.0 in
    let joined = edge_joined c w.edges it.place e (list_any (passes (uses_edge (record { 0 = it.place }))) c.faces) it.there
    refl good loose covered in
    let r : EdgeRec = joined.edge in
    let back : is_pair A B r.a.0 r.b.0 ≡ true = pair_symm r.a.0 r.b.0 A B joined.pair in
    let same = ranks_named c w e r back in
    let pair : is_pair r.a.0 r.b.0 i j ≡ true = pair_pair A B r.a.0 r.b.0 i j back it.passed in
    any_of (joins_ranks d i j) w.edges joined.place r joined.there
    (ap₂ (λ (x y : ℕ). is_pair x y i j) same.0 same.1 ∙ pair)

both_ways : (a b : Bool) → (a ≡ true → b ≡ true) → (b ≡ true → a ≡ true) → a ≡ b
both_ways true b to from = sym (to refl)
both_ways false true to from = from refl
both_ways false false to from = refl

-- ---- THE TEXT

abbrev begin : Now
begin = record { edges = []; faces = []; materials = []; material = pos 0; smooth = pos 0; names = [] }

begins : (c : Complex) → Stands c [] (pos 0, pos 0) begin
begins c = record { traces = no_traces c; faces = tt; material = refl; smooth = refl }

places_run : (scale : ℕ) (c : Complex) (s : Parts) (told : Bool) → IsValid c → BeginsFixed c
    → Runs scale (cond told (flat_map place_line (places c)) []) (with_places s [])
    (with_places s (cond told (places c) []))
places_run scale c s true valid fixed =
    runs_places scale s [] (places c) (places_small c valid fixed) (omega (arith, places_few c valid))
places_run scale c s false valid fixed = runs_none scale (with_places s [])

uvs_few : (c : Complex) (told : Bool) → IsValid c → length (cond told (places c) []) < 2 ^ 63
uvs_few c true valid = omega (arith, places_few c valid)
uvs_few c false valid = omega arith

returned : (scale : ℕ) (c : Complex) (w : Now) → IsValid c → BeginsFixed c → Stands c (live_faces c.faces) (last_of c (pos 0, pos 0) (live_faces c.faces)) w
    → AllCovered w.edges (loose_sides c 0 c.edges) → AllCovered w.edges (all_sides c (live_faces c.faces))
    → IsRenamed c (parts c (uvs_written c) w).draft
returned scale c w valid fixed stands loose covered = record {
  verts = live_read c.verts;
  faces_there = all_there c w.materials w.faces (live_faces c.faces) stands.faces;
  points = same_points c.verts;
  faces = faces_same c w w.faces (live_faces c.faces) stands.faces;
  edges = λ i j. both_ways (has_edge (parts c (uvs_written c) w).draft i j) (has_edge c i j)
      (edge_from c w i j stands.traces)
      (edge_to c w i j stands.traces (faces_good c valid fixed) loose covered);
  libraries = refl;
}

kept_sides : (old new : List (Option EdgeRec)) (ss : List Side)
    → ((x y : VertName) → Covers old x y → Covers new x y) → AllCovered old ss → AllCovered new ss
kept_sides old new [] keeps h = tt
kept_sides old new (s ∷ ss) keeps h = (keeps s.0 s.1 h.0, kept_sides old new ss keeps h.1)

no_faces_few : AreFew []
no_faces_few = record { faces = omega arith; corners = omega arith }

pub read_written : ReadWritten
read_written scale c few sound fixed materials libraries apart short =
    let valid = sound.valid in
    let uvs = uvs_written c in
    let small = uvs_few c (has_places (places c)) valid in
    let verts = at_verts c.libraries (verts_read c.verts) in
    let one = runs_libraries scale c.libraries nothing refl libraries apart in
    let two = runs_verts scale c.libraries [] c.verts few (all_on_grid c.verts valid.verts) (omega (arith, valid.limits.verts)) in
    let three = places_run scale c verts (has_places (places c)) valid fixed in
    let loose = loose_from scale c uvs begin [] (pos 0, pos 0) 0 c.edges valid no_faces_few small
    (λ k e there. ap (at c.edges) (omega arith) ∙ there) (begins c) in
    let faces = faces_go scale c loose.next [] (live_faces c.faces) (pos 0, pos 0) valid materials small
    (faces_few c valid) (faces_good c valid fixed) loose.stands in
    let last = parts c uvs faces.next in
    let four = runs_then scale (loose_lines c) (face_texts c) (parts c uvs begin) (parts c uvs loose.next) last loose.runs
    faces.runs in
    let five = runs_then scale (place_lines (places c)) (loose_lines c ++ face_texts c) verts (parts c uvs begin) last three four in
    let six = runs_then scale (vert_lines scale c) (place_lines (places c) ++ (loose_lines c ++ face_texts c))
    (at_verts c.libraries []) verts last two five in
    let all = runs_then scale (library_lines c)
    (vert_lines scale c ++ (place_lines (places c) ++ (loose_lines c ++ face_texts c))) nothing (at_verts c.libraries []) last
    one six in
    let kept = kept_sides loose.next.edges faces.next.edges (loose_sides c 0 c.edges) faces.keeps loose.covers in (
      last.draft,
      runs_read scale (text scale c) last all short,
      returned scale c faces.next valid fixed faces.stands kept faces.covers,
    )
