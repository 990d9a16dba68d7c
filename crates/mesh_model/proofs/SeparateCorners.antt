-- A face's corner separated from the others at its vertex: the complex stays valid and simple.
use Rattle.std.proofs.Common.{◌≡◌, ◌≢◌, ℕ, zero, suc, ◌+◌, ◌-◌, ◌<◌, true, false, not, ◌||◌, eqb, ltb, ◌⊎◌, List, []}
use Rattle.std.proofs.Common.{◌∷◌, ◌++◌, length, map, take, drop, get_or, refl, sym, ap, ◌∙◌, subst, inl, inr, arith}
use Rattle.std.proofs.Common.{Option, Some, None, is_some, true≢false}
use Rattle.std.specs.Prelude.{slice_set}
use Rattle.std.specs.Option.{option_map, unwrap_or}
use Rattle.std.specs.List.{All, list_any, filter, flat_map, enumerate_from}
use Rattle.std.proofs.lemmas.List.{length-append, length-set, append_assoc, get_or_at, set_at, take-append-drop}
use Rattle.std.proofs.lemmas.List.{drop_more, length-take-le}
use Rattle.std.proofs.lemmas.List.Folds.{list_any-append}
use Rattle.std.proofs.lemmas.List.Elements.{All-cons, All-nil, All-set}
use Rattle.std.proofs.lemmas.Bool.{cases_eq, cases_Bool, or_parts, or_left, or_right, cond-true, cond-false}
use Rattle.std.proofs.lemmas.Bool.{not_from_false, eq-eqb, eqb-false, ne_eqb, ltb-true}
use Rattle.mesh_model.specs.Table.{at, IsThere, passes, update}
use Rattle.mesh_model.specs.Complex.{Complex, has, verts_of}
use Rattle.mesh_model.specs.Incidence.{joins, has_end, is_at, is_along, uses_edge, corners_in}
use Rattle.mesh_model.specs.Elements.{is_among}
use Rattle.mesh_model.specs.Valid.{AreKindLayers, are_distinct, IsPolygon, IsEdgeLinked, IsWithinLimits, IsValid}
use Rattle.mesh_model.specs.Valid.{IsSimple, IsSound}
use Rattle.mesh_model.specs.Lookups.{vert_rec, edge_rec, face_rec, corner_rec, no_corner, no_edge, next_vert}
use Rattle.mesh_model.specs.Renaming.{renamed_vert, with_ends, along}
use Rattle.mesh_model.specs.Refusals.{unless, unless_at, unless_there, unless_too_many}
use Rattle.mesh_model.specs.Splice.{is_shared, separate_edge, place_before, edge_before, with_corner_at}
use Rattle.mesh_model.specs.Splice.{separate_corner, is_separate, separate_corner_refusal}
use Rattle.mesh_model.specs.declared.names.Elem.TheVariants.{Vert, Edge, Face}
use Rattle.mesh_model.specs.declared.names.VertName.{VertName}
use Rattle.mesh_model.specs.declared.names.EdgeName.{EdgeName}
use Rattle.mesh_model.specs.declared.names.FaceName.{FaceName}
use Rattle.mesh_model.specs.declared.refusal.Why.TheVariants.{BadValue, Valence}
use Rattle.mesh_model.specs.declared.records.VertRec.{VertRec}
use Rattle.mesh_model.specs.declared.records.EdgeRec.{EdgeRec}
use Rattle.mesh_model.specs.declared.records.CornerRec.{CornerRec}
use Rattle.mesh_model.specs.declared.records.FaceRec.{FaceRec}
use Rattle.mesh_model.proofs.Tables.{Extends-append, there-Extends, stands, there_passes, at-append, at-append_new}
use Rattle.mesh_model.proofs.Tables.{at-update, at-update_other, was-updated}
use Rattle.mesh_model.proofs.Edges.{joins-symm, has_end-joins, joins-turned}
use Rattle.mesh_model.proofs.CornersAt.{some_pass}
use Rattle.mesh_model.proofs.Distinct.{distinct-cons, distinct-uncons}
use Rattle.mesh_model.proofs.Paths.{start_of, leads_to, is_path, path-append, path-cons, path-uncons, path-parts}
use Rattle.mesh_model.proofs.Paths.{path-same, nowhere, IsCircle, IsCircle-from_polygon, IsCircle-turned}
use Rattle.mesh_model.proofs.Paths.{IsPolygon-from_circle}
use Rattle.mesh_model.proofs.Circles.{at-among, stay_past, leads-from, leads-joins, alone_along, path-has_ends}
use Rattle.mesh_model.proofs.Renamings.{joins-with_ends, renamed-same, renamed-other, renamed-apart}
use Rattle.mesh_model.proofs.Previous.{last_of, front_of, front-last, length-front}
use Rattle.mesh_model.proofs.EdgeSplits.{past_middle}
use Rattle.mesh_model.proofs.SeparateVerts.{copied, end_after, both_moved, ends_at_copy}
use Rattle.mesh_model.proofs.Looking.{at-vert_rec, at-edge_rec, at-face_rec, next-new, next_vert-out}
use Rattle.mesh_model.proofs.Refusing.{first_of-none, unless-none, there-none, limits-none}
use Rattle.mesh_model.proofs.Right.{AreRight, IsVertRight, IsEdgeRight, IsFaceRight, HasSameLayers, HasVals, end-there}
use Rattle.mesh_model.proofs.Right.{IsVertRight-same, IsEdgeRight-same, HasVals-same, face-same, face-with}
use Rattle.mesh_model.proofs.Right.{AreRight-from_valid, IsValid-from_right}

-- ---- SHARED EDGES

-- an edge that another face uses is shared
shared-by : (c : Complex) (f : FaceName) (e : EdgeName) (n : ℕ) (g : FaceRec) → at c.faces n ≡ Some g → n ≢ f.0
    → uses_edge e g ≡ true → is_shared c f e ≡ true
shared-by c f e n g is other uses = by_table 0 c.faces n n (omega arith) is other
  where
    all_other : (m : ℕ) → m ≢ f.0 → (xs : List (ℕ × CornerRec)) → 0 < length xs
        → list_any (λ (k : FaceName × ℕ). not (eqb k.0.0 f.0)) (map (λ (k : ℕ × CornerRec). let q : FaceName × ℕ =
        (record { 0 = m }, k.0) in q) xs) ≡ true
    all_other m apart [] some = absurd (omega arith)
    all_other m apart (x ∷ xs) some = or_left (not (eqb m f.0)) _ (not_from_false (eqb m f.0) (ne_eqb m f.0 apart))

    by_table : (m : ℕ) (faces : List (Option FaceRec)) (i k : ℕ) → m + i ≡ k → at faces i ≡ Some g → k ≢ f.0
        → list_any (λ (q : FaceName × ℕ). not (eqb q.0.0 f.0))
        (flat_map (corners_in (is_along e)) (enumerate_from m faces)) ≡ true
    by_table m [] i k place stood = absurd (cc)
    by_table m (o ∷ os) zero k place stood = λ apart.
        let here : list_any (λ (q : FaceName × ℕ). not (eqb q.0.0 f.0)) (corners_in (is_along e) (m, o)) ≡ true =
        ap (λ (x : Option FaceRec). list_any (λ (q : FaceName × ℕ). not (eqb q.0.0 f.0))
        (corners_in (is_along e) (m, x))) stood
        ∙ all_other m (λ same. apart (omega arith))
        (filter (λ (k2 : ℕ × CornerRec). is_along e k2.1) (enumerate_from 0 g.corners))
        (some_pass (is_along e) 0 g.corners uses) in
        list_any-append (λ (q : FaceName × ℕ). not (eqb q.0.0 f.0)) (corners_in (is_along e) (m, o))
        (flat_map (corners_in (is_along e)) (enumerate_from (m + 1) os)) ∙ or_left _ _ here
    by_table m (o ∷ os) (suc i) k place stood = λ apart.
        list_any-append (λ (q : FaceName × ℕ). not (eqb q.0.0 f.0)) (corners_in (is_along e) (m, o))
        (flat_map (corners_in (is_along e)) (enumerate_from (m + 1) os))
        ∙ or_right _ _ (by_table (m + 1) os i k (omega arith) stood apart)

-- ---- ONE EDGE

-- a complex with an edge that leads to one vertex in place of another, under a name
record IsStep (c d : Complex) (f : FaceName) (v w : VertName) (e n : EdgeName) : Type 0 where
  layers : d.layers ≡ c.layers
  materials : d.materials ≡ c.materials
  faces : d.faces ≡ c.faces
  made : at d.edges n.0 ≡ Some (with_ends (renamed_vert v w) (edge_rec c e))
  kept : (m : ℕ) (y : EdgeRec) → at c.edges m ≡ Some y → (m ≡ e.0 → is_shared c f e ≡ true) → at d.edges m ≡ Some y
  only : (m : ℕ) (y : EdgeRec) → at d.edges m ≡ Some y
      → (at c.edges m ≡ Some y) ⊎ ((m ≡ n.0) × (y ≡ with_ends (renamed_vert v w) (edge_rec c e)))
  name : (n ≡ e) ⊎ (n.0 ≡ length c.edges)

step : (c : Complex) (f : FaceName) (v w : VertName) (e : EdgeName) → has c (Edge e) ≡ true
    → IsStep c (separate_edge c f v w e).0 f v w e (separate_edge c f v w e).1
step c f v w e there = elim (cases_Bool (is_shared c f e)) [
  | inl shared ↦ subst (λ (r : Complex × EdgeName). IsStep c r.0 f v w e r.1)
      (sym (cond-true (is_shared c f e) _ _ shared)) (record {
        layers = refl;
        materials = refl;
        faces = refl;
        made = at-append_new c.edges (with_ends (renamed_vert v w) (edge_rec c e));
        kept = λ m y is given. Extends-append c.edges (Some (with_ends (renamed_vert v w) (edge_rec c e)) ∷ []) m y is;
        only = λ m y is. elim (at-append c.edges (with_ends (renamed_vert v w) (edge_rec c e)) y m is)
            [ inl old ↦ inl old | inr new ↦ inr new ];
        name = inr refl;
      })
  | inr alone ↦ subst (λ (r : Complex × EdgeName). IsStep c r.0 f v w e r.1)
      (sym (cond-false (is_shared c f e) _ _ alone)) (record {
        layers = refl;
        materials = refl;
        faces = refl;
        made = at-update c.edges e.0 e.0 (with_ends (renamed_vert v w))
            ∙ cond-true (eqb e.0 e.0) _ _ (eq-eqb e.0 e.0 refl)
            ∙ ap (option_map (with_ends (renamed_vert v w))) (at-edge_rec c e there);
        kept = λ m y is given. at-update_other c.edges e.0 m (with_ends (renamed_vert v w))
            (λ same. true≢false (sym (given (sym same)) ∙ alone)) ∙ is;
        only = λ m y is. elim (was-updated c.edges e.0 m (with_ends (renamed_vert v w)) y is) [
          | inl old ↦ inl old
          | inr new ↦
              let same : new.1.0 ≡ edge_rec c e = let known = at-edge_rec c e there in let stood = new.1.1 in let at_e =
              ap (at c.edges) new.0 in cc in
              inr (sym new.0, new.1.2 ∙ ap (with_ends (renamed_vert v w)) same)
        ];
        name = inl refl;
      })
]

-- ---- BOTH EDGES

-- the table of edges after both: each of the two leads to the copy under a name of its own, and what is shared or past
-- the vertex stays
record AreBoth (c : Complex) (edges : List (Option EdgeRec)) (f : FaceName) (v : VertName) (e g m n : EdgeName)
    : Type 0 where
  first : at edges m.0 ≡ Some (with_ends (copied c v) (edge_rec c e))
  second : at edges n.0 ≡ Some (with_ends (copied c v) (edge_rec c g))
  kept : (k : ℕ) (y : EdgeRec) → at c.edges k ≡ Some y → (k ≡ e.0 → is_shared c f e ≡ true)
      → (k ≡ g.0 → is_shared c f g ≡ true) → at edges k ≡ Some y
  only : (k : ℕ) (y : EdgeRec) → at edges k ≡ Some y
      → (at c.edges k ≡ Some y)
      ⊎ (((k ≡ m.0) × (y ≡ with_ends (copied c v) (edge_rec c e)))
      ⊎ ((k ≡ n.0) × (y ≡ with_ends (copied c v) (edge_rec c g))))

abbrev first_step : Complex → FaceName → VertName → EdgeName → Complex × EdgeName
first_step c f v e = separate_edge c f v (next_vert c) e

abbrev second_step : Complex → FaceName → VertName → EdgeName → EdgeName → Complex × EdgeName
second_step c f v e g = separate_edge (first_step c f v e).0 f v (next_vert c) g

both : (c : Complex) (f : FaceName) (v : VertName) (e g : EdgeName) → has c (Edge e) ≡ true → has c (Edge g) ≡ true
    → e.0 ≢ g.0
    → AreBoth c (second_step c f v e g).0.edges f v e g (first_step c f v e).1 (second_step c f v e g).1
    × HasSameLayers (second_step c f v e g).0 c
both c f v e g there_e there_g differ =
    let one = step c f v (next_vert c) e there_e in
    let d : Complex = (first_step c f v e).0 in
    let g_stays : at d.edges g.0 ≡ Some (edge_rec c g) =
    one.kept g.0 (edge_rec c g) (at-edge_rec c g there_g) (λ same. absurd (differ (sym same))) in
    let same_rec : edge_rec d g ≡ edge_rec c g = ap (λ (o : Option EdgeRec). unwrap_or o no_edge) g_stays in
    let same_shared : is_shared d f g ≡ is_shared c f g =
    ap (λ (faces : List (Option FaceRec)). list_any (λ (k : FaceName × ℕ). not (eqb k.0.0 f.0))
    (flat_map (corners_in (is_along g)) (enumerate_from 0 faces))) one.faces in
    let two = step (first_step c f v e).0 f v (next_vert c) g (ap is_some g_stays) in
    let first_other : (first_step c f v e).1.0 ≢ g.0 = λ same. elim one.name [
      | inl is_e ↦ differ (ap (λ (x : EdgeName). x.0) (sym is_e) ∙ same)
      | inr is_new ↦ next-new c.edges g.0 there_g (sym same ∙ is_new)
    ] in (
      record {
        first = two.kept (first_step c f v e).1.0 (with_ends (copied c v) (edge_rec c e)) one.made
            (λ same. absurd (first_other same));
        second = two.made ∙ ap (λ (x : EdgeRec). Some (with_ends (copied c v) x)) same_rec;
        kept = λ k y is given_e given_g. two.kept k y (one.kept k y is given_e) (λ same. same_shared ∙ given_g same);
        only = λ k y is. elim (two.only k y is) [
          | inl old ↦ elim (one.only k y old) [ inl oldest ↦ inl oldest | inr new ↦ inr (inl new) ]
          | inr new ↦ inr (inr (new.0, new.1 ∙ ap (with_ends (copied c v)) same_rec))
        ];
      },
      record { layers = two.layers ∙ one.layers; materials = two.materials ∙ one.materials },
    )

-- ---- A RING

start-front : (n : EdgeName) (x : CornerRec) (xs : List CornerRec) (end : VertName)
    → start_of (front_of x xs ++ along n (last_of x xs) ∷ []) end ≡ x.vert
start-front n x [] end = refl
start-front n x (y ∷ ys) end = refl

verts-front : (n : EdgeName) (x : CornerRec) (xs : List CornerRec)
    → verts_of (front_of x xs ++ along n (last_of x xs) ∷ []) ≡ verts_of (x ∷ xs)
verts-front n x [] = refl
verts-front n x (y ∷ ys) = ap (λ (vs : List VertName). x.vert ∷ vs) (verts-front n y ys)

-- the polygon from its corner at the vertex on: the corner goes to the copy, between the two edges
separate_circle : (c : Complex) (edges : List (Option EdgeRec)) (f : FaceName) (v : VertName) (e g m n : EdgeName)
    → AreRight c → has c (Edge e) ≡ true → has c (Edge g) ≡ true → AreBoth c edges f v e g m n
    → (k x : CornerRec) (xs : List CornerRec) → k.vert ≡ v → k.edge ≡ g → (last_of x xs).edge ≡ e
    → has_end v (edge_rec c e) ≡ true → has_end v (edge_rec c g) ≡ true
    → IsCircle c.edges (k ∷ x ∷ xs)
    → IsCircle edges (record k { vert = next_vert c; edge = n } ∷ (front_of x xs ++ along m (last_of x xs) ∷ []))
separate_circle c edges f v e g m n right there_e there_g t k x xs is_v is_g is_e end_e end_g h =
    let w : VertName = next_vert c in
    let split = front-last x xs in
    let one = path-uncons c.edges k (x ∷ xs) k.vert h.closed in
    let apart = distinct-uncons k.vert (verts_of (x ∷ xs)) h.distinct in
    let none : list_any (is_at v) (x ∷ xs) ≡ false = at-among v (x ∷ xs) ∙ ap (is_among (verts_of (x ∷ xs))) (sym is_v)
    ∙ apart.0 in
    let clear = or_parts (list_any (is_at v) (front_of x xs)) (is_at v (last_of x xs) || false)
    (sym (list_any-append (is_at v) (front_of x xs) (last_of x xs ∷ [])) ∙ sym (ap (list_any (is_at v)) split)
    ∙ none) in
    let off_p : (last_of x xs).vert.0 ≢ v.0 =
    eqb-false (last_of x xs).vert.0 v.0 (or_parts (is_at v (last_of x xs)) false clear.1).0 in
    let off_x : x.vert.0 ≢ v.0 = eqb-false x.vert.0 v.0 (or_parts (is_at v x) (list_any (is_at v) xs) none).0 in
    let parts = path-parts c.edges (front_of x xs) (last_of x xs ∷ []) k.vert
    (sym (ap (λ (ls : List CornerRec). is_path c.edges ls k.vert) split) ∙ one.1) in
    let last = path-uncons c.edges (last_of x xs) [] k.vert parts.1 in
    let past_stays : (i : ℕ) (y : EdgeRec) → at c.edges i ≡ Some y → has_end v y ≡ false
    → at edges i ≡ Some y = λ i y is off. t.kept i y is
    (λ same. absurd (true≢false (sym end_e
    ∙ ap (passes (has_end v)) (sym (at-edge_rec c e there_e) ∙ ap (at c.edges) (sym same) ∙ is) ∙ off)))
    (λ same. absurd (true≢false (sym end_g
    ∙ ap (passes (has_end v)) (sym (at-edge_rec c g there_g) ∙ ap (at c.edges) (sym same) ∙ is) ∙ off))) in
    let stay = stay_past c.edges edges v past_stays (front_of x xs) (last_of x xs).vert parts.0 clear.0 off_p in
    let front_path = path-same c.edges edges (front_of x xs) (last_of x xs).vert stay parts.0 in
    let copy_v : copied c v v ≡ next_vert c = renamed-same v (next_vert c) v refl in
    let along_e : is_along e (last_of x xs) ≡ true =
    eq-eqb (last_of x xs).edge.0 e.0 (ap (λ (y : EdgeName). y.0) is_e) in
    let along_g : is_along g k ≡ true = eq-eqb k.edge.0 g.0 (ap (λ (y : EdgeName). y.0) is_g) in
    let joins_p : joins (last_of x xs).vert v (edge_rec c e) ≡ true =
    ap (λ (u : VertName). joins (last_of x xs).vert u (edge_rec c e)) (sym is_v)
    ∙ leads-joins c.edges (last_of x xs) k.vert e (edge_rec c e) along_e (at-edge_rec c e there_e) last.0 in
    let joins_k : joins v x.vert (edge_rec c g) ≡ true = ap (λ (u : VertName). joins u x.vert (edge_rec c g)) (sym is_v)
    ∙ leads-joins c.edges k x.vert g (edge_rec c g) along_g (at-edge_rec c g there_g) one.0 in
    let to_copy : joins (last_of x xs).vert (next_vert c) (with_ends (copied c v) (edge_rec c e)) ≡ true =
    ap (λ (u : VertName). joins u (next_vert c) (with_ends (copied c v) (edge_rec c e)))
    (sym (renamed-other v (next_vert c) (last_of x xs).vert off_p))
    ∙ ap (λ (u : VertName). joins (copied c v (last_of x xs).vert) u (with_ends (copied c v) (edge_rec c e)))
    (sym copy_v) ∙ joins-with_ends (copied c v) (last_of x xs).vert v (edge_rec c e) joins_p in
    let from_copy : joins (next_vert c) x.vert (with_ends (copied c v) (edge_rec c g)) ≡ true =
    ap (λ (u : VertName). joins u x.vert (with_ends (copied c v) (edge_rec c g))) (sym copy_v)
    ∙ ap (λ (u : VertName). joins (copied c v v) u (with_ends (copied c v) (edge_rec c g)))
    (sym (renamed-other v (next_vert c) x.vert off_x))
    ∙ joins-with_ends (copied c v) v x.vert (edge_rec c g) joins_k in
    let rest_path : is_path edges (front_of x xs ++ along m (last_of x xs) ∷ []) (next_vert c) ≡ true =
    path-append edges (front_of x xs) (along m (last_of x xs) ∷ []) (next_vert c) front_path
    (path-cons edges (along m (last_of x xs)) [] (next_vert c)
    (leads-from edges (along m (last_of x xs)) (next_vert c) (with_ends (copied c v) (edge_rec c e))
    t.first to_copy) refl) in
    let first : leads_to edges (record k { vert = next_vert c; edge = n }) x.vert ≡ true =
    leads-from edges (record k { vert = next_vert c; edge = n }) x.vert (with_ends (copied c v) (edge_rec c g))
    t.second from_copy in
    let ends = path-has_ends c.edges (x ∷ xs) k.vert one.1 in
    let out = next_vert-out c (x ∷ xs)
    (λ i d less. end-there c right.edges (get_or (x ∷ xs) i d).edge.0 (get_or (x ∷ xs) i d).vert (ends i d less)) in
    record {
      distinct = ap (λ (vs : List VertName). are_distinct (next_vert c ∷ vs)) (verts-front m x xs)
          ∙ distinct-cons (next_vert c) (verts_of (x ∷ xs)) out apart.1;
      closed = path-cons edges (record k { vert = next_vert c; edge = n })
          (front_of x xs ++ along m (last_of x xs) ∷ []) (next_vert c)
          (ap (leads_to edges (record k { vert = next_vert c; edge = n })) (start-front m x xs (next_vert c))
          ∙ first) rest_path;
    }

-- ---- THE LIST

-- where the corner is the first of the list, the one before it is the last
at_front : (w : VertName) (m n : EdgeName) (k x : CornerRec) (xs : List CornerRec)
    → with_corner_at 0 w m n (k ∷ x ∷ xs) ≡ record k {
      vert = w;
      edge =
          n;
    } ∷ (front_of x xs ++ along m (last_of x xs) ∷ [])
at_front w m n k x xs =
    let ks : List CornerRec = k ∷ x ∷ xs in
    let place : place_before (length (k ∷ x ∷ xs)) 0 ≡ suc (length xs) = omega arith in
    let split : k ∷ x ∷ xs ≡ (k ∷ front_of x xs) ++ last_of x xs ∷ [] =
    ap (λ (ls : List CornerRec). k ∷ ls) (front-last x xs) in
    let long : length (k ∷ front_of x xs) ≡ suc (length xs) = ap (λ (i : ℕ). suc i) (length-front x xs) in
    let here : get_or (k ∷ x ∷ xs) (suc (length xs)) no_corner ≡ last_of x xs =
    ap (λ (ls : List CornerRec). get_or ls (suc (length xs)) no_corner) split
    ∙ get_or_at (k ∷ front_of x xs) (last_of x xs) [] no_corner (suc (length xs)) long in
    let written : slice_set (k ∷ x ∷ xs) (suc (length xs)) (along m (last_of x xs))
    ≡ (k ∷ front_of x xs) ++ along m (last_of x xs) ∷ [] =
    ap (λ (ls : List CornerRec). slice_set ls (suc (length xs)) (along m (last_of x xs))) split
    ∙ set_at (k ∷ front_of x xs) (last_of x xs) [] (along m (last_of x xs)) (suc (length xs)) long in
    ap (λ (i : ℕ). slice_set (slice_set (k ∷ x ∷ xs) i (along m (get_or (k ∷ x ∷ xs) i no_corner))) 0
    (let l : CornerRec = record k { vert = w; edge = n } in l)) place
    ∙ ap (λ (p : CornerRec). slice_set (slice_set (k ∷ x ∷ xs) (suc (length xs)) (along m p)) 0 (let l : CornerRec =
    record k { vert = w; edge = n } in l)) here
    ∙ ap (λ (ls : List CornerRec). slice_set ls 0 (let l : CornerRec = record k { vert = w; edge = n } in l)) written

-- else it stands right before it
at_later : (w : VertName) (m n : EdgeName) (front : List CornerRec) (p k : CornerRec) (later : List CornerRec)
    → with_corner_at (suc (length front)) w m n (front ++ (p ∷ k ∷ later))
    ≡ front ++ (along m p ∷ record k { vert = w; edge = n } ∷ later)
at_later w m n front p k later =
    let i : ℕ = suc (length front) in
    let ks : List CornerRec = front ++ (p ∷ k ∷ later) in
    let place : place_before (length (front ++ (p ∷ k ∷ later))) (suc (length front)) ≡ length front =
    cond-false (eqb (suc (length front)) 0) (length (front ++ (p ∷ k ∷ later)) - 1) (suc (length front) - 1)
    (ne_eqb (suc (length front)) 0 (λ same. absurd (omega arith))) ∙ omega arith in
    let here_p : get_or (front ++ (p ∷ k ∷ later)) (length front) no_corner ≡ p =
    get_or_at front p (k ∷ later) no_corner (length front) refl in
    let split : front ++ (p ∷ k ∷ later) ≡ (front ++ p ∷ []) ++ (k ∷ later) =
    sym (append_assoc front (p ∷ []) (k ∷ later)) in
    let long : (q : CornerRec) → length (front ++ q ∷ []) ≡ suc (length front) = λ q. length-append front (q ∷ [])
    ∙ omega arith in
    let here_k : get_or (front ++ (p ∷ k ∷ later)) (suc (length front)) no_corner ≡ k =
    ap (λ (ls : List CornerRec). get_or ls (suc (length front)) no_corner) split
    ∙ get_or_at (front ++ p ∷ []) k later no_corner (suc (length front)) (long p) in
    let first : slice_set (front ++ (p ∷ k ∷ later)) (length front) (along m p) ≡ front ++ (along m p ∷ k ∷ later) =
    set_at front p (k ∷ later) (along m p) (length front) refl in
    let second : slice_set (front ++ (along m p ∷ k ∷ later)) (suc (length front)) (let l : CornerRec =
    record k { vert = w; edge = n } in l) ≡ front ++ (along m p ∷ record k { vert = w; edge = n } ∷ later) =
    ap (λ (ls : List CornerRec). slice_set ls (suc (length front)) (let l : CornerRec =
    record k { vert = w; edge = n } in l)) (sym (append_assoc front (along m p ∷ []) (k ∷ later)))
    ∙ set_at (front ++ along m p ∷ []) k later (let l : CornerRec = record k { vert = w; edge = n } in
    l) (suc (length front)) (long (along m p))
    ∙ append_assoc front (along m p ∷ []) (record k { vert = w; edge = n } ∷ later) in
    ap (λ (j : ℕ). slice_set
    (slice_set (front ++ (p ∷ k ∷ later)) j (along m (get_or (front ++ (p ∷ k ∷ later)) j no_corner)))
    (suc (length front)) (moved (get_or (front ++ (p ∷ k ∷ later)) (suc (length front)) no_corner))) place
    ∙ ap (λ (q : CornerRec). slice_set (slice_set (front ++ (p ∷ k ∷ later)) (length front) (along m q))
    (suc (length front)) (moved (get_or (front ++ (p ∷ k ∷ later)) (suc (length front)) no_corner))) here_p
    ∙ ap (λ (q : CornerRec). slice_set (slice_set (front ++ (p ∷ k ∷ later)) (length front) (along m p))
    (suc (length front)) (moved q)) here_k
    ∙ ap (λ (ls : List CornerRec). slice_set ls (suc (length front)) (moved k)) first
    ∙ second
  where
    moved : CornerRec → CornerRec
    moved l = record l { vert = w; edge = n }

-- ---- THE FACE

-- a list at a position: what is before it, the corner, and what is after it
record AtPlace (ks : List CornerRec) (i : ℕ) : Type 0 where
  before : List CornerRec
  here : CornerRec
  later : List CornerRec
  parts : ks ≡ before ++ here ∷ later
  place : length before ≡ i
  is_here : here ≡ get_or ks i no_corner

at_place : (ks : List CornerRec) (i : ℕ) → i < length ks → AtPlace ks i
at_place ks i less = record {
  before = take i ks;
  here = get_or ks i no_corner;
  later = drop (i + 1) ks;
  parts = sym (take-append-drop i ks) ∙ ap (λ (xs : List CornerRec). take i ks ++ xs) (drop_more ks i no_corner less);
  place = length-take-le i ks (omega arith);
  is_here = refl;
}

-- what is known where a corner is separated
pub record IsCornerSeparation (c : Complex) (f : FaceName) (i : ℕ) : Type 0 where
  pub right : AreRight c
  pub there : has c (Face f) ≡ true
  pub inside : i < length (face_rec c f).corners

-- the polygon read from a position on: the corner, the others, and the last of them, which is before it
record Opened (c : Complex) (ks : List CornerRec) (i : ℕ) : Type 0 where
  here : CornerRec
  next : CornerRec
  others : List CornerRec
  is_here : here ≡ get_or ks i no_corner
  is_before : last_of next others ≡ get_or ks (place_before (length ks) i) no_corner
  circle : IsCircle c.edges (here ∷ next ∷ others)
  count : length ks ≡ suc (suc (length others))
  after : (edges : List (Option EdgeRec)) (w : VertName) (m n : EdgeName)
      → IsCircle edges (record here {
        vert = w;
        edge =
            n;
      } ∷ (front_of next others ++ along m (last_of next others) ∷ [])) → IsCircle edges (with_corner_at i w m n ks)

opened_first : (c : Complex) (k x : CornerRec) (xs : List CornerRec) → IsCircle c.edges (k ∷ x ∷ xs)
    → Opened c (k ∷ x ∷ xs) 0
opened_first c k x xs h = record {
  here = k;
  next = x;
  others = xs;
  is_here = refl;
  is_before =
      let place : place_before (length (k ∷ x ∷ xs)) 0 ≡ suc (length xs) = omega arith in
      let split : k ∷ x ∷ xs ≡ (k ∷ front_of x xs) ++ last_of x xs ∷ [] =
      ap (λ (ls : List CornerRec). k ∷ ls) (front-last x xs) in
      let long : length (k ∷ front_of x xs) ≡ suc (length xs) = ap (λ (i : ℕ). suc i) (length-front x xs) in
      sym (ap (λ (j : ℕ). get_or (k ∷ x ∷ xs) j no_corner) place
      ∙ ap (λ (ls : List CornerRec). get_or ls (suc (length xs)) no_corner) split
      ∙ get_or_at (k ∷ front_of x xs) (last_of x xs) [] no_corner (suc (length xs)) long);
  circle = h;
  count = refl;
  after = λ edges w m n done. subst (IsCircle edges) (sym (at_front w m n k x xs)) done;
}

-- the last of a list that ends in another
last-push : (x : CornerRec) (xs front : List CornerRec) (p : CornerRec) → x ∷ xs ≡ front ++ p ∷ []
    → (last_of x xs ≡ p) × (front_of x xs ≡ front)
last-push x xs [] p is = let one : xs ≡ [] = cc in let first : x ≡ p = cc in
    (ap (last_of x) one ∙ first, ap (front_of x) one)
last-push x [] (y ∷ ys) p is =
    absurd (let counts = ap (λ (ls : List CornerRec). length ls) is in omega (arith, length-append ys (p ∷ [])))
last-push x (z ∷ zs) (y ∷ ys) p is =
    let first : x ≡ y = cc in
    let rest : z ∷ zs ≡ ys ++ p ∷ [] = cc in
    let later = last-push z zs ys p rest in
    (later.0, ap (λ (q : CornerRec). q ∷ front_of z zs) first ∙ ap (λ (qs : List CornerRec). y ∷ qs) later.1)

opened_later : (c : Complex) (front : List CornerRec) (p k : CornerRec) (later : List CornerRec) (i : ℕ)
    → i ≡ suc (length front) → IsCircle c.edges (front ++ (p ∷ k ∷ later)) → Opened c (front ++ (p ∷ k ∷ later)) i
opened_later c front p k later i place h = of_rest (later ++ (front ++ p ∷ [])) refl
  where
    whole : IsCircle c.edges (k ∷ (later ++ (front ++ p ∷ [])))
    whole = IsCircle-turned c.edges (front ++ p ∷ []) (k ∷ later)
        (subst (IsCircle c.edges) (sym (append_assoc front (p ∷ []) (k ∷ later))) h)

    of_rest : (rest : List CornerRec) → later ++ (front ++ p ∷ []) ≡ rest → Opened c (front ++ (p ∷ k ∷ later)) i
    of_rest [] is = absurd (let counts = ap (λ (ls : List CornerRec). length ls) is in
        omega (arith, length-append later (front ++ p ∷ []), length-append front (p ∷ [])))
    of_rest (x ∷ xs) is =
        let ends = last-push x xs (later ++ front) p (sym is ∙ sym (append_assoc later front (p ∷ []))) in
        let split : front ++ (p ∷ k ∷ later) ≡ (front ++ p ∷ []) ++ (k ∷ later) =
        sym (append_assoc front (p ∷ []) (k ∷ later)) in
        let long : length (front ++ p ∷ []) ≡ suc (length front) = length-append front (p ∷ []) ∙ omega arith in
        let before : place_before (length (front ++ (p ∷ k ∷ later))) i ≡ length front =
        ap (place_before (length (front ++ (p ∷ k ∷ later)))) place
        ∙ cond-false (eqb (suc (length front)) 0) (length (front ++ (p ∷ k ∷ later)) - 1) (suc (length front) - 1)
        (ne_eqb (suc (length front)) 0 (λ same. absurd (omega arith))) ∙ omega arith in
        record {
          here = k;
          next = x;
          others = xs;
          is_here = sym (ap (λ (j : ℕ). get_or (front ++ (p ∷ k ∷ later)) j no_corner) place
              ∙ ap (λ (ls : List CornerRec). get_or ls (suc (length front)) no_corner) split
              ∙ get_or_at (front ++ p ∷ []) k later no_corner (suc (length front)) long);
          is_before = ends.0 ∙ sym (ap (λ (j : ℕ). get_or (front ++ (p ∷ k ∷ later)) j no_corner) before
              ∙ get_or_at front p (k ∷ later) no_corner (length front) refl);
          circle = subst (λ (ls : List CornerRec). IsCircle c.edges (k ∷ ls)) is whole;
          count = let counts = ap (λ (ls : List CornerRec). length ls) is in
              omega (
                arith,
                length-append front (p ∷ k ∷ later),
                length-append later (front ++ p ∷ []),
                length-append front (p ∷ []),
              );
          after = λ edges w m n done.
              let shape : front_of x xs ++ along m (last_of x xs) ∷ [] ≡ later ++ (front ++ along m p ∷ []) =
              ap (λ (ls : List CornerRec). ls ++ along m (last_of x xs) ∷ []) ends.1
              ∙ ap (λ (q : CornerRec). (later ++ front) ++ along m q ∷ []) ends.0
              ∙ append_assoc later front (along m p ∷ []) in
              let k_after : CornerRec = record k { vert = w; edge = n } in
              let back : IsCircle edges ((front ++ along m p ∷ []) ++ (record k { vert = w; edge = n } ∷ later)) =
              IsCircle-turned edges (record k { vert = w; edge = n } ∷ later) (front ++ along m p ∷ [])
              (subst (λ (ls : List CornerRec). IsCircle edges (record k { vert = w; edge = n } ∷ ls)) shape done) in
              subst (IsCircle edges) (append_assoc front (along m p ∷ []) (record k { vert = w; edge = n } ∷ later)
              ∙ sym (ap (λ (j : ℕ). with_corner_at j w m n (front ++ (p ∷ k ∷ later))) place
              ∙ at_later w m n front p k later)) back;
        }

opened : (c : Complex) (ks : List CornerRec) (i : ℕ) → IsPolygon c.edges ks → i < length ks → Opened c ks i
opened c ks i polygon inside =
    let h = at_place ks i inside in
    let least = polygon.least in
    subst (λ (ls : List CornerRec). Opened c ls i) (sym h.parts)
    (by_before h.before h.here h.later h.place (subst (IsPolygon c.edges) h.parts polygon))
  where
    by_before : (bs : List CornerRec) (k : CornerRec) (ls : List CornerRec) → length bs ≡ i
        → IsPolygon c.edges (bs ++ k ∷ ls) → Opened c (bs ++ k ∷ ls) i
    by_before [] k [] place r = absurd (let few = r.least in omega arith)
    by_before [] k (l ∷ ls) place r =
        subst (Opened c (k ∷ l ∷ ls)) place (opened_first c k l ls (IsCircle-from_polygon c (k ∷ l ∷ ls) r))
    by_before (b ∷ bs) k ls place r =
        let split : (b ∷ bs) ++ k ∷ ls ≡ front_of b bs ++ (last_of b bs ∷ k ∷ ls) =
        ap (λ (xs : List CornerRec). xs ++ k ∷ ls) (front-last b bs)
        ∙ append_assoc (front_of b bs) (last_of b bs ∷ []) (k ∷ ls) in
        let long = length-front b bs in
        subst (λ (xs : List CornerRec). Opened c xs i) (sym split)
        (opened_later c (front_of b bs) (last_of b bs) k ls i (omega arith)
        (subst (IsCircle c.edges) split (IsCircle-from_polygon c ((b ∷ bs) ++ k ∷ ls) r)))

-- ---- THE COMPLEX

abbrev after_of : Complex → FaceName → ℕ → Complex
after_of c f i = (separate_corner c f i).0

abbrev vert_at : Complex → FaceName → ℕ → VertName
vert_at c f i = (corner_rec c f i).vert

abbrev edge_after : Complex → FaceName → ℕ → EdgeName
edge_after c f i = (corner_rec c f i).edge

abbrev first_name : Complex → FaceName → ℕ → EdgeName
first_name c f i = (first_step c f (vert_at c f i) (edge_before c f i)).1

abbrev second_name : Complex → FaceName → ℕ → EdgeName
second_name c f i = (second_step c f (vert_at c f i) (edge_before c f i) (edge_after c f i)).1

-- what the two edges at the corner are
record AreEdges (c : Complex) (f : FaceName) (i : ℕ) : Type 0 where
  first_there : has c (Edge (edge_before c f i)) ≡ true
  second_there : has c (Edge (edge_after c f i)) ≡ true
  first_end : has_end (vert_at c f i) (edge_rec c (edge_before c f i)) ≡ true
  second_end : has_end (vert_at c f i) (edge_rec c (edge_after c f i)) ≡ true
  differ : (edge_before c f i).0 ≢ (edge_after c f i).0
  polygon : IsPolygon (after_of c f i).edges
      (with_corner_at i (next_vert c) (first_name c f i) (second_name c f i) (face_rec c f).corners)
  both_made : AreBoth c (after_of c f i).edges f (vert_at c f i) (edge_before c f i) (edge_after c f i)
      (first_name c f i) (second_name c f i)
  same : HasSameLayers (after_of c f i) c

passes-second : (edges : List (Option EdgeRec)) (n : ℕ) (u w : VertName) → passes (joins u w) (at edges n) ≡ true
    → passes (has_end w) (at edges n) ≡ true
passes-second edges n u w h = of_some (at edges n) h
  where
    of_some : (o : Option EdgeRec) → passes (joins u w) o ≡ true → passes (has_end w) o ≡ true
    of_some None is = absurd (cc)
    of_some (Some x) is = has_end-joins w u x (sym (joins-turned u w x) ∙ is)

passes-first : (edges : List (Option EdgeRec)) (n : ℕ) (u w : VertName) → passes (joins u w) (at edges n) ≡ true
    → passes (has_end u) (at edges n) ≡ true
passes-first edges n u w h = of_some (at edges n) h
  where
    of_some : (o : Option EdgeRec) → passes (joins u w) o ≡ true → passes (has_end u) o ≡ true
    of_some None is = absurd (cc)
    of_some (Some x) is = has_end-joins u w x is

edges_of : (c : Complex) (f : FaceName) (i : ℕ) → IsCornerSeparation c f i → AreEdges c f i
edges_of c f i s =
    let v : VertName = vert_at c f i in
    let e : EdgeName = edge_before c f i in
    let g : EdgeName = edge_after c f i in
    let ks : List CornerRec = (face_rec c f).corners in
    let right = s.right.faces f.0 (face_rec c f) (at-face_rec c f s.there) in
    let o = opened c (face_rec c f).corners i right.polygon s.inside in
    let p : CornerRec = last_of o.next o.others in
    let is_v : o.here.vert ≡ v = ap (λ (k : CornerRec). k.vert) o.is_here in
    let is_g : o.here.edge ≡ g = ap (λ (k : CornerRec). k.edge) o.is_here in
    let is_e : p.edge ≡ e = ap (λ (k : CornerRec). k.edge) o.is_before in
    let one = path-uncons c.edges o.here (o.next ∷ o.others) o.here.vert o.circle.closed in
    let parts = path-parts c.edges (front_of o.next o.others) (p ∷ []) o.here.vert
    (sym (ap (λ (ls : List CornerRec). is_path c.edges ls o.here.vert) (front-last o.next o.others)) ∙ one.1) in
    let last = path-uncons c.edges p [] o.here.vert parts.1 in
    let pass_g : passes (has_end v) (at c.edges g.0) ≡ true =
    ap (λ (u : VertName). passes (has_end u) (at c.edges g.0)) (sym is_v)
    ∙ ap (λ (y : EdgeName). passes (has_end o.here.vert) (at c.edges y.0)) (sym is_g)
    ∙ passes-first c.edges o.here.edge.0 o.here.vert o.next.vert one.0 in
    let pass_e : passes (has_end v) (at c.edges e.0) ≡ true =
    ap (λ (u : VertName). passes (has_end u) (at c.edges e.0)) (sym is_v)
    ∙ ap (λ (y : EdgeName). passes (has_end o.here.vert) (at c.edges y.0)) (sym is_e)
    ∙ passes-second c.edges p.edge.0 p.vert o.here.vert last.0 in
    let there_e : has c (Edge e) ≡ true = there_passes (has_end v) (at c.edges e.0) pass_e in
    let there_g : has c (Edge g) ≡ true = there_passes (has_end v) (at c.edges g.0) pass_g in
    let end_e : has_end v (edge_rec c e) ≡ true = sym (ap (passes (has_end v)) (at-edge_rec c e there_e)) ∙ pass_e in
    let end_g : has_end v (edge_rec c g) ≡ true = sym (ap (passes (has_end v)) (at-edge_rec c g there_g)) ∙ pass_g in
    let count : length (face_rec c f).corners ≡ suc (suc (length o.others)) = o.count in
    let least = right.polygon.least in
    let alone = alone_along c.edges o.here (o.next ∷ o.others) (edge_rec c g) (omega arith)
    (ap (λ (y : EdgeName). at c.edges y.0) is_g ∙ at-edge_rec c g there_g) o.circle in
    let p_other : is_along o.here.edge p ≡ false =
    (or_parts (is_along o.here.edge p) false
    (or_parts (list_any (is_along o.here.edge) (front_of o.next o.others)) (is_along o.here.edge p || false)
    (sym (list_any-append (is_along o.here.edge) (front_of o.next o.others) (p ∷ []))
    ∙ sym (ap (list_any (is_along o.here.edge)) (front-last o.next o.others)) ∙ alone)).1).0 in
    let differ : e.0 ≢ g.0 = λ same. eqb-false p.edge.0 o.here.edge.0 p_other (ap (λ (y : EdgeName). y.0) is_e ∙ same
    ∙ ap (λ (y : EdgeName). y.0) (sym is_g)) in
    let made = both c f (vert_at c f i) (edge_before c f i) (edge_after c f i) there_e there_g differ in
    let moved = separate_circle c (after_of c f i).edges f v e g (first_name c f i) (second_name c f i)
    s.right there_e there_g made.0 o.here o.next o.others is_v is_g is_e end_e end_g o.circle in
    let long = length-set (slice_set (face_rec c f).corners (place_before (length (face_rec c f).corners) i)
    (along (first_name c f i) (get_or (face_rec c f).corners (place_before (length (face_rec c f).corners) i)
    no_corner))) i
    (let l : CornerRec = record (get_or (face_rec c f).corners i no_corner) {
      vert = next_vert c;
      edge =
          second_name c f i;
    } in l)
    ∙ length-set (face_rec c f).corners (place_before (length (face_rec c f).corners) i)
    (along (first_name c f i) (get_or (face_rec c f).corners (place_before (length (face_rec c f).corners) i)
    no_corner)) in
    let most = right.polygon.most in
    record {
      first_there = there_e;
      second_there = there_g;
      first_end = end_e;
      second_end = end_g;
      differ = differ;
      polygon = IsPolygon-from_circle (after_of c f i)
          (with_corner_at i (next_vert c) (first_name c f i) (second_name c f i) (face_rec c f).corners)
          (omega (arith, long)) (omega (arith, long))
          (o.after (after_of c f i).edges (next_vert c) (first_name c f i) (second_name c f i) moved);
      both_made = made.0;
      same = record { layers = made.1.layers; materials = made.1.materials };
    }

-- the edges of another face stay
stay_shared : (c : Complex) (f : FaceName) (i : ℕ) → AreEdges c f i → (n : ℕ) (x : FaceRec) → at c.faces n ≡ Some x
    → n ≢ f.0 → (ks : List CornerRec) (end : VertName) → is_path c.edges ks end ≡ true
    → ((e : EdgeName) → list_any (is_along e) ks ≡ true → uses_edge e x ≡ true)
    → All (λ (l : CornerRec). at (after_of c f i).edges l.edge.0 ≡ at c.edges l.edge.0) ks
stay_shared c f i s n x is other [] end h part =
    All-nil (λ (l : CornerRec). at (after_of c f i).edges l.edge.0 ≡ at c.edges l.edge.0)
stay_shared c f i s n x is other (k ∷ ks) end h part =
    let one = path-uncons c.edges k ks end h in
    let it = stands (at c.edges k.edge.0) (there_passes (joins k.vert (start_of ks end)) (at c.edges k.edge.0) one.0) in
    let shared : (e : EdgeName) → k.edge.0 ≡ e.0 → is_shared c f e ≡ true =
    λ e same. shared-by c f e n x is other
    (part e (or_left (is_along e k) (list_any (is_along e) ks) (eq-eqb k.edge.0 e.0 same))) in
    All-cons (λ (l : CornerRec). at (after_of c f i).edges l.edge.0 ≡ at c.edges l.edge.0) k ks
    (s.both_made.kept k.edge.0 it.0 it.1 (shared (edge_before c f i)) (shared (edge_after c f i)) ∙ sym it.1)
    (stay_shared c f i s n x is other ks end one.1
    (λ e used. part e (or_right (is_along e k) (list_any (is_along e) ks) used)))

before-inside : (count i : ℕ) → i < count → place_before count i < count
before-inside count i inside = elim (cases_eq i 0) [
  | inl zero_ ↦ let is = cond-true (eqb i 0) (count - 1) (i - 1) (eq-eqb i 0 zero_) in omega arith
  | inr later ↦ let is = cond-false (eqb i 0) (count - 1) (i - 1) (ne_eqb i 0 later) in omega arith
]

IsEdgeRight-copied : (c : Complex) (f : FaceName) (i : ℕ) → AreRight c → HasSameLayers (after_of c f i) c
    → (e : EdgeName) → has c (Edge e) ≡ true
    → IsEdgeRight (separate_corner c f i).0 (with_ends (copied c (vert_at c f i)) (edge_rec c e))
IsEdgeRight-copied c f i right same e there =
    let v : VertName = vert_at c f i in
    let was = right.edges e.0 (edge_rec c e) (at-edge_rec c e there) in
    let apart = renamed-apart v (next_vert c) (edge_rec c e).a (edge_rec c e).b
    (next-new c.verts (edge_rec c e).a.0 was.linked.a) (next-new c.verts (edge_rec c e).b.0 was.linked.b)
    (ne_eqb (edge_rec c e).a.0 (edge_rec c e).b.0 was.linked.differ) in
    IsEdgeRight-same (after_of c f i) c same (edge_rec c e) (with_ends (copied c (vert_at c f i)) (edge_rec c e)) refl
    (end_after c v (edge_rec c e).a was.linked.a) (end_after c v (edge_rec c e).b was.linked.b)
    (eqb-false (copied c v (edge_rec c e).a).0 (copied c v (edge_rec c e).b).0 apart) was

pub AreRight-separate_corner : (c : Complex) (f : FaceName) (i : ℕ) → IsCornerSeparation c f i
    → AreRight (separate_corner c f i).0
AreRight-separate_corner c f i s =
    let d = after_of c f i in
    let v : VertName = vert_at c f i in
    let t = edges_of c f i s in
    let change : FaceRec
    → FaceRec = λ x. record x {
      corners =
          with_corner_at i (next_vert c) (first_name c f i) (second_name c f i) x.corners;
    } in
    let right_f = s.right.faces f.0 (face_rec c f) (at-face_rec c f s.there) in
    let circle_f = IsCircle-from_polygon c (face_rec c f).corners right_f.polygon in
    let ends = path-has_ends c.edges (face_rec c f).corners (start_of (face_rec c f).corners nowhere)
    circle_f.closed i no_corner s.inside in
    let there_v : IsThere c.verts v.0 =
    end-there c s.right.edges (corner_rec c f i).edge.0 (corner_rec c f i).vert ends in
    let more = there-Extends c.verts (c.verts ++ Some (vert_rec c v) ∷ [])
    (Extends-append c.verts (Some (vert_rec c v) ∷ [])) in
    let at_p = right_f.corners (place_before (length (face_rec c f).corners) i) no_corner
    (before-inside (length (face_rec c f).corners) i s.inside) in
    let at_i = right_f.corners i no_corner s.inside in
    let vals : All (HasVals c)
    (with_corner_at i (next_vert c) (first_name c f i) (second_name c f i) (face_rec c f).corners) =
    All-set (HasVals c) (slice_set (face_rec c f).corners (place_before (length (face_rec c f).corners) i)
    (along (first_name c f i) (get_or (face_rec c f).corners (place_before (length (face_rec c f).corners) i)
    no_corner))) i
    (let l : CornerRec = record (get_or (face_rec c f).corners i no_corner) {
      vert = next_vert c;
      edge =
          second_name c f i;
    } in l) at_i
    (All-set (HasVals c) (face_rec c f).corners (place_before (length (face_rec c f).corners) i)
    (along (first_name c f i) (get_or (face_rec c f).corners (place_before (length (face_rec c f).corners) i)
    no_corner)) at_p right_f.corners) in
    record {
      layers = subst AreKindLayers (sym t.same.layers) s.right.layers;
      verts = λ n x is. elim (at-append c.verts (vert_rec c v) x n is) [
        | inl old ↦ IsVertRight-same d c t.same x (s.right.verts n x old)
        | inr new ↦ subst (λ (r : VertRec). IsVertRight d r) (sym new.1)
            (IsVertRight-same d c t.same (vert_rec c v) (s.right.verts v.0 (vert_rec c v) (at-vert_rec c v there_v)))
      ];
      edges = λ n x is. elim (t.both_made.only n x is) [
        | inl old ↦ let was = s.right.edges n x old in
            IsEdgeRight-same d c t.same x x refl (more x.a.0 was.linked.a) (more x.b.0 was.linked.b)
            was.linked.differ was
        | inr new ↦ elim new [
          | inl first ↦ subst (IsEdgeRight d) (sym first.1)
              (IsEdgeRight-copied c f i s.right t.same (edge_before c f i) t.first_there)
          | inr second ↦ subst (IsEdgeRight d) (sym second.1)
              (IsEdgeRight-copied c f i s.right t.same (edge_after c f i) t.second_there)
        ]
      ];
      faces = λ n x is. elim (cases_eq n f.0) [
        | inl at_f ↦
            let stood : at (update c.faces f.0 change) f.0 ≡ Some (change (face_rec c f)) =
            at-update c.faces f.0 f.0 change ∙ cond-true (eqb f.0 f.0) _ _ (eq-eqb f.0 f.0 refl)
            ∙ ap (option_map change) (at-face_rec c f s.there) in
            let same_face : x ≡ change (face_rec c f) = let here : at (update c.faces f.0 change) n ≡ Some x = is in
            let moved = ap (at (update c.faces f.0 change)) at_f in cc in
            subst (IsFaceRight d) (sym same_face)
            (face-with d c t.same (face_rec c f)
            (with_corner_at i (next_vert c) (first_name c f i) (second_name c f i) (face_rec c f).corners) t.polygon
            (HasVals-same d c t.same
            (with_corner_at i (next_vert c) (first_name c f i) (second_name c f i) (face_rec c f).corners) vals)
            right_f)
        | inr other ↦
            let before : at c.faces n ≡ Some x = sym (at-update_other c.faces f.0 n change (λ same. other (sym same)))
            ∙ is in
            let right = s.right.faces n x before in
            let circle = IsCircle-from_polygon c x.corners right.polygon in
            let stay = stay_shared c f i t n x before other x.corners (start_of x.corners nowhere) circle.closed
            (λ e used. used) in
            face-same d c t.same x
            (IsPolygon-from_circle d x.corners right.polygon.least right.polygon.most
            (record {
              distinct = circle.distinct;
              closed =
                  path-same c.edges d.edges x.corners (start_of x.corners nowhere) stay circle.closed;
            })) right
      ];
    }

-- what the test tells that answers None
pub IsCornerSeparation-from_test : (c : Complex) (f : FaceName) (i : ℕ) → separate_corner_refusal c f i ≡ None
    → AreRight c → IsCornerSeparation c f i × IsWithinLimits (separate_corner c f i).0
IsCornerSeparation-from_test c f i test right =
    let one = first_of-none (unless_there c (Face f)) _ test in
    let two = first_of-none (unless (ltb i (length (face_rec c f).corners)) BadValue) _ one.1 in
    let three = first_of-none (unless_at (not (is_separate c f i)) Valence (Vert (corner_rec c f i).vert)) _ two.1 in
    let four = first_of-none (unless_too_many (separate_corner c f i).0) _ three.1 in (
      record {
        right = right;
        there = there-none c (Face f) one.0;
        inside =
            ltb-true i (length (face_rec c f).corners)
            (unless-none (ltb i (length (face_rec c f).corners)) BadValue two.0);
      },
      limits-none (separate_corner c f i).0 four.0,
    )

pub IsValid-separate_corner : (c : Complex) (f : FaceName) (i : ℕ) → separate_corner_refusal c f i ≡ None → IsValid c
    → IsValid (separate_corner c f i).0
IsValid-separate_corner c f i test h =
    let told = IsCornerSeparation-from_test c f i test (AreRight-from_valid c h) in
    IsValid-from_right (separate_corner c f i).0 (AreRight-separate_corner c f i told.0) told.1

-- ---- SIMPLE

-- an edge that was there has other ends than one that leads to the copy
old_and_copied : (c : Complex) (v : VertName) (n : ℕ) (x : EdgeRec) (e : EdgeName) → IsEdgeLinked c x
    → has_end v (edge_rec c e) ≡ true → joins x.a x.b (with_ends (copied c v) (edge_rec c e)) ≡ true → ⊥
old_and_copied c v n x e linked ends joined =
    past_middle c n x (with_ends (copied c v) (edge_rec c e)) linked (ends_at_copy c v (edge_rec c e) ends) joined

one_edge : (c : Complex) (f : FaceName) (i : ℕ) → AreRight c → IsSimple c → AreEdges c f i → (m n : ℕ) (x y : EdgeRec)
    → at (after_of c f i).edges m ≡ Some x → at (after_of c f i).edges n ≡ Some y → joins x.a x.b y ≡ true → m ≡ n
one_edge c f i right h t m n x y at_m at_n joined =
    let v : VertName = vert_at c f i in
    let e : EdgeName = edge_before c f i in
    let g : EdgeName = edge_after c f i in
    let right_e = right.edges e.0 (edge_rec c e) (at-edge_rec c e t.first_there) in
    let right_g = right.edges g.0 (edge_rec c g) (at-edge_rec c g t.second_there) in
    let turned = joins-symm y x ∙ joined in
    elim (t.both_made.only m x at_m) [
      | inl old_m ↦ elim (t.both_made.only n y at_n) [
        | inl old_n ↦ h m n x y old_m old_n joined
        | inr new_n ↦ elim new_n [
          | inl first ↦ absurd
              (old_and_copied c v m x e (right.edges m x old_m).linked t.first_end (sym (ap (joins x.a x.b) first.1)
              ∙ joined))
          | inr second ↦ absurd
              (old_and_copied c v m x g (right.edges m x old_m).linked t.second_end (sym (ap (joins x.a x.b) second.1)
              ∙ joined))
        ]
      ]
      | inr new_m ↦ elim (t.both_made.only n y at_n) [
        | inl old_n ↦ elim new_m [
          | inl first ↦ absurd
              (old_and_copied c v n y e (right.edges n y old_n).linked t.first_end (sym (ap (joins y.a y.b) first.1)
              ∙ turned))
          | inr second ↦ absurd
              (old_and_copied c v n y g (right.edges n y old_n).linked t.second_end (sym (ap (joins y.a y.b) second.1)
              ∙ turned))
        ]
        | inr new_n ↦ elim new_m [
          | inl first_m ↦ elim new_n [
            | inl first_n ↦ first_m.0 ∙ sym first_n.0
            | inr second_n ↦ absurd
                (t.differ (h e.0 g.0 (edge_rec c e) (edge_rec c g) (at-edge_rec c e t.first_there)
                (at-edge_rec c g t.second_there)
                (both_moved c v (edge_rec c e) (edge_rec c g) right_e.linked right_g.linked
                (sym (ap (λ (z : EdgeRec). joins z.a z.b y) first_m.1
                ∙ ap (joins (copied c v (edge_rec c e).a) (copied c v (edge_rec c e).b)) second_n.1) ∙ joined))))
          ]
          | inr second_m ↦ elim new_n [
            | inl first_n ↦ absurd
                (t.differ (h e.0 g.0 (edge_rec c e) (edge_rec c g) (at-edge_rec c e t.first_there)
                (at-edge_rec c g t.second_there)
                (both_moved c v (edge_rec c e) (edge_rec c g) right_e.linked right_g.linked
                (sym (ap (λ (z : EdgeRec). joins z.a z.b x) first_n.1
                ∙ ap (joins (copied c v (edge_rec c e).a) (copied c v (edge_rec c e).b)) second_m.1) ∙ turned))))
            | inr second_n ↦ second_m.0 ∙ sym second_n.0
          ]
        ]
      ]
    ]

pub IsSimple-separate_corner : (c : Complex) (f : FaceName) (i : ℕ) → separate_corner_refusal c f i ≡ None → IsSound c
    → IsSimple (separate_corner c f i).0
IsSimple-separate_corner c f i test h m n x y at_m at_n joined =
    let right = AreRight-from_valid c h.valid in
    one_edge c f i right h.simple (edges_of c f i (IsCornerSeparation-from_test c f i test right).0)
    m n x y at_m at_n joined

pub IsSound-separate_corner : (c : Complex) (f : FaceName) (i : ℕ) → separate_corner_refusal c f i ≡ None → IsSound c
    → IsSound (separate_corner c f i).0
IsSound-separate_corner c f i test h =
    record { valid = IsValid-separate_corner c f i test h.valid; simple = IsSimple-separate_corner c f i test h }
