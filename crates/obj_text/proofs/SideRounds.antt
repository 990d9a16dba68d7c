-- Edges along sides are read again, and those that no face has.
use Rattle.std.proofs.Common.{◌≡◌, ◌≢◌, ◌<◌, ◌≤◌, ◌+◌, ◌∙◌, ◌||◌, ◌^◌, ℕ, suc, ℤ, true, false, nat_lt, Bool, cond, List}
use Rattle.std.proofs.Common.{[], ◌∷◌, ◌++◌, length, refl, sym, ap, arith, Option, Some, None, Result, Ok, Err}
use Rattle.std.specs.Prelude.{codes}
use Rattle.std.specs.Fmt.{decimal}
use Rattle.std.specs.List.{flat_map, enumerate_from}
use Rattle.std.proofs.lemmas.Bool.{ne_eqb}
use Rattle.text_words.specs.Outcome.{◌>>=◌, ok_or}
use Rattle.text_words.specs.Each.{each, with_first}
use Rattle.mesh_model.specs.Table.{at, live}
use Rattle.mesh_model.specs.Complex.{Complex}
use Rattle.mesh_model.specs.Incidence.{is_loose}
use Rattle.mesh_model.specs.Making.{edges_along}
use Rattle.mesh_model.specs.Valid.{IsValid}
use Rattle.mesh_model.specs.declared.limits.TheConstants.{MAX_FACES, MAX_CORNERS}
use Rattle.mesh_model.specs.declared.names.VertName.{VertName}
use Rattle.mesh_model.specs.declared.names.EdgeName.{EdgeName}
use Rattle.mesh_model.specs.declared.records.EdgeRec.{EdgeRec}
use Rattle.mesh_model.specs.declared.records.FaceRec.{FaceRec}
use Rattle.mesh_model.proofs.Tables.{live-length}
use Rattle.obj_format.specs.declared.obj_fault.ObjWhy.{ObjWhy}
use Rattle.obj_format.specs.declared.obj_fault.ObjWhy.TheVariants.{BadIndex, TooShort, Repeated}
use Rattle.obj_format.specs.declared.indices.Corner.{Corner}
use Rattle.obj_format.specs.declared.texture.Uv.{Uv}
use Rattle.obj_format.specs.Indices.{corner}
use Rattle.obj_reader.specs.Statements.{counts, fits, statement, with_wire}
use Rattle.obj_reader.specs.Values.{corners_of, stutters, wire_of}
use Rattle.obj_reader.proofs.AlongLemmas.{keeps-along, Are, are-along, only_edges}
use Rattle.obj_reader.proofs.FitLemmas.{within_fits, limited_within}
use Rattle.obj_reader.proofs.ToldLemmas.{wire_told}
use Rattle.obj_writer.specs.Written.{index, loose_line, loose_entry}
use Rattle.obj_text.specs.Returned.{rank}
use Rattle.obj_text.proofs.PlainLemmas.{ArePlain, spaced}
use Rattle.obj_text.proofs.RunLemmas.{runs_words}
use Rattle.obj_text.proofs.WordRounds.{decimal_plain, corner_written}
use Rattle.obj_text.proofs.PointRounds.{uncommented_plain}
use Rattle.obj_text.proofs.RankLemmas.{length_read, rank_below, rank_differ}
use Rattle.obj_text.proofs.EdgeTraces.{Side, IsAt, Traces, along_traced, few_traced, pair_self}
use Rattle.obj_text.proofs.StandLemmas.{Now, parts, Stands, Goes, Covers, AllCovered, AreRead, goes_none, goes_then}
use Rattle.obj_text.proofs.StandLemmas.{read_length, read_total, corner_total}

-- ---- ALONG SIDES

-- all sides are covered then
pub along_covered : (c : Complex) (ss : List Side) → AllCovered (edges_along c ss).0.edges ss
along_covered c ss = covered_of (edges_along c ss).0 ss (edges_along c ss).1 (are-along c ss)
  where
    covered_of : (d : Complex) (ss : List Side) (es : List EdgeName) → Are d ss es → AllCovered d.edges ss
    covered_of d [] es h = tt
    covered_of d (s ∷ ss) [] h = absurd h
    covered_of d (s ∷ ss) (e ∷ es) h = ((e, h.0), covered_of d ss es h.1)

pub along_keeps : (c : Complex) (ss : List Side) (x y : VertName) → Covers c.edges x y
    → Covers (edges_along c ss).0.edges x y
along_keeps c ss x y h = (h.0, keeps-along c ss x y h.0 h.1)

-- what stands with edges along sides
abbrev pub along : Complex → List Uv → Now → List Side → List ℕ → Now
along c uvs w ss names = record w { edges = (edges_along (parts c uvs w).draft ss).0.edges; names = names }

pub along_is : (c : Complex) (uvs : List Uv) (w : Now) (ss : List Side) (names : List ℕ)
    → (edges_along (parts c uvs w).draft ss).0 ≡ (parts c uvs (along c uvs w ss names)).draft
along_is c uvs w ss names = only_edges (parts c uvs w).draft ss

-- few faces and corners
pub record AreFew (fs : List FaceRec) : Type 0 where
  pub faces : length fs ≤ MAX_FACES
  pub corners : corner_total fs ≤ MAX_CORNERS

-- what stands is within the limits
pub stands_fits : (c : Complex) (uvs : List Uv) (fs : List FaceRec) (w : Now) → IsValid c → AreFew fs
    → AreRead c w.materials w.faces fs → Traces c w.edges w.names → fits (parts c uvs w).draft ≡ true
stands_fits c uvs fs w valid few faces traces = within_fits (parts c uvs w).draft (record {
  verts = omega (arith, length_read c.verts, live-length c.verts, valid.limits.verts);
  edges = omega (arith, few_traced c w.edges w.names traces, valid.limits.edges);
  faces = omega (arith, read_length c w.materials w.faces fs faces, few.faces);
  corners = omega (arith, read_total c w.materials w.faces fs faces, few.corners);
})

-- ---- A LOOSE EDGE

-- the corners of two ranks
abbrev two_corners : ℕ → ℕ → List Corner
two_corners i j = record { vert = i; texture = None } ∷ record { vert = j; texture = None } ∷ []

abbrev pub side_of : ℕ → ℕ → Side
side_of i j = (record { 0 = i }, record { 0 = j })

abbrev two_words : ℕ → ℕ → List (List ℕ)
two_words i j = decimal (i + 1) ∷ decimal (j + 1) ∷ []

two_plain : (i j : ℕ) → i < 2 ^ 63 → j < 2 ^ 63 → ArePlain (two_words i j)
two_plain i j one two = (decimal_plain (i + 1) (omega arith), (decimal_plain (j + 1) (omega arith), tt))

-- the vertices that were read are few
pub verts_few : (c : Complex) → IsValid c → live c.verts < 2 ^ 63
verts_few c valid = omega (arith, live-length c.verts, valid.limits.verts)

wire_written : (c : Complex) (uvs : List Uv) (w : Now) (i j : ℕ) → IsValid c → length uvs < 2 ^ 63 → i < live c.verts
    → j < live c.verts → i ≢ j
    → wire_of (counts (parts c uvs w)) (two_words i j) ≡ Ok (two_corners i j)
wire_written c uvs w i j valid few one two differ =
    let n = counts (parts c uvs w) in
    let long = length_read c.verts in
    let small = verts_few c valid in
    let first = corner_written n i None (omega arith) (omega arith) few tt in
    let second = corner_written n j None (omega arith) (omega arith) few tt in
    let read : corners_of n (two_words i j) ≡ Ok (two_corners i j) =
    ap (λ (o : Option Corner). ok_or (with_first o (each (corner n) (decimal (j + 1) ∷ []))) BadIndex) first
    ∙ ap (λ (o : Option Corner). ok_or (with_first (Some (record { vert = i; texture = None })) (with_first o (Some []))) BadIndex)
    second in
    ap (λ (r : Result (List Corner) ObjWhy). r >>= (λ ks.
    cond (nat_lt (length ks) 2) (Err TooShort) (cond (stutters ks) (Err Repeated) (Ok ks)))) read
    ∙ ap (λ (b : Bool). cond (b || false) (Err Repeated) (Ok (two_corners i j))) (ne_eqb i j differ)

loose_said : (scale : ℕ) (c : Complex) (uvs : List Uv) (w : Now) (fs : List FaceRec) (i j : ℕ) (names : List ℕ) → IsValid c
    → AreFew fs → AreRead c w.materials w.faces fs → length uvs < 2 ^ 63 → i < live c.verts → j < live c.verts → i ≢ j
    → Traces c (edges_along (parts c uvs w).draft (side_of i j ∷ [])).0.edges names
    → statement scale (codes "l" ∷ two_words i j) (codes "l" ++ spaced (two_words i j)) (parts c uvs w)
    ≡ Ok (parts c uvs (along c uvs w (side_of i j ∷ []) names))
loose_said scale c uvs w fs i j names valid few faces small one two differ traces =
    let s = parts c uvs w in
    let ss : List Side = side_of i j ∷ [] in
    let next = along c uvs w ss names in
    let made = along_is c uvs w ss names in
    let verts = verts_few c valid in
    ap (λ (ws : List (List ℕ)). with_wire ws s)
    (uncommented_plain (two_words i j) (two_plain i j (omega arith) (omega arith)))
    ∙ wire_told (two_words i j) s (two_corners i j) ss (wire_written c uvs w i j valid small one two differ) refl
    ∙ limited_within (edges_along s.draft ss).0 (parts c uvs next).draft s (sym made)
    (ap fits made ∙ stands_fits c uvs fs next valid few faces traces)

-- a line of a loose edge
pub loose_goes : (scale : ℕ) (c : Complex) (uvs : List Uv) (w : Now) (fs : List FaceRec) (before : ℤ × ℤ) (i j n : ℕ)
    → IsValid c → AreFew fs → length uvs < 2 ^ 63 → i < live c.verts → j < live c.verts → i ≢ j → IsAt c i j n
    → Stands c fs before w
    → Goes scale c uvs (loose_line (i + 1) (j + 1)) w fs before (side_of i j ∷ [])
loose_goes scale c uvs w fs before i j n valid few small one two differ side h =
    let ss : List Side = side_of i j ∷ [] in
    let traced = along_traced c (parts c uvs w).draft w.names ss ((n, side), tt) h.traces in
    let next = along c uvs w ss traced.0 in
    let verts = verts_few c valid in
    record {
      next = next;
      runs = runs_words scale (codes "l") (two_words i j) (parts c uvs w) (parts c uvs next)
          (record { bytes = refl; some = omega arith }) (two_plain i j (omega arith) (omega arith))
          (loose_said scale c uvs w fs i j traced.0 valid few h.faces small one two differ traced.1);
      stands = record { traces = traced.1; faces = h.faces; material = h.material; smooth = h.smooth };
      keeps = λ x y covered. along_keeps (parts c uvs w).draft ss x y covered;
      covers = along_covered (parts c uvs w).draft ss;
    }

-- ---- LOOSE EDGES

-- the sides that loose edges are
abbrev pub loose_sides : Complex → ℕ → List (Option EdgeRec) → List Side
loose_sides c n [] = []
loose_sides c n (None ∷ es) = loose_sides c (n + 1) es
loose_sides c n (Some e ∷ es) =
    cond (is_loose c (record { 0 = n })) (side_of (rank c e.a.0) (rank c e.b.0) ∷ []) [] ++ loose_sides c (n + 1) es

edge_at : (c : Complex) (n : ℕ) (e : EdgeRec) → at c.edges n ≡ Some e → IsAt c (rank c e.a.0) (rank c e.b.0) n
edge_at c n e there = record { edge = e; there = there; joins = pair_self (rank c e.a.0) (rank c e.b.0) }

entry_goes : (scale : ℕ) (c : Complex) (uvs : List Uv) (w : Now) (fs : List FaceRec) (before : ℤ × ℤ) (n : ℕ) (e : EdgeRec)
    (loose : Bool) → IsValid c → AreFew fs → length uvs < 2 ^ 63 → at c.edges n ≡ Some e → Stands c fs before w
    → Goes scale c uvs (cond loose (loose_line (index c e.a.0) (index c e.b.0)) []) w fs before
    (cond loose (side_of (rank c e.a.0) (rank c e.b.0) ∷ []) [])
entry_goes scale c uvs w fs before n e false valid few small there h = goes_none scale c uvs w fs before h
entry_goes scale c uvs w fs before n e true valid few small there h =
    let linked = valid.linked.edges n e there in
    loose_goes scale c uvs w fs before (rank c e.a.0) (rank c e.b.0) n valid few small
    (rank_below c.verts e.a.0 linked.a) (rank_below c.verts e.b.0 linked.b)
    (rank_differ c e.a.0 e.b.0 linked.a linked.b linked.differ) (edge_at c n e there) h

pub loose_from : (scale : ℕ) (c : Complex) (uvs : List Uv) (w : Now) (fs : List FaceRec) (before : ℤ × ℤ) (n : ℕ)
    (es : List (Option EdgeRec)) → IsValid c → AreFew fs → length uvs < 2 ^ 63
    → ((k : ℕ) (e : EdgeRec) → at es k ≡ Some e → at c.edges (n + k) ≡ Some e) → Stands c fs before w
    → Goes scale c uvs (flat_map (loose_entry c) (enumerate_from n es)) w fs before (loose_sides c n es)
loose_from scale c uvs w fs before n [] valid few small same h = goes_none scale c uvs w fs before h
loose_from scale c uvs w fs before n (None ∷ es) valid few small same h =
    loose_from scale c uvs w fs before (n + 1) es valid few small
    (λ k e there. ap (at c.edges) (omega arith) ∙ same (suc k) e there) h
loose_from scale c uvs w fs before n (Some e ∷ es) valid few small same h =
    let here : at c.edges n ≡ Some e = ap (at c.edges) (omega arith) ∙ same 0 e refl in
    let loose : Bool = is_loose c (record { 0 = n }) in
    let one = entry_goes scale c uvs w fs before n e loose valid few small here h in
    let rest = loose_from scale c uvs one.next fs before (n + 1) es valid few small
    (λ k d there. ap (at c.edges) (omega arith) ∙ same (suc k) d there) one.stands in
    goes_then scale c uvs (cond loose (loose_line (index c e.a.0) (index c e.b.0)) [])
    (flat_map (loose_entry c) (enumerate_from (n + 1) es)) w fs fs before before
    (cond loose (side_of (rank c e.a.0) (rank c e.b.0) ∷ []) []) (loose_sides c (n + 1) es) one rest
