-- Some edges of a vertex separated from the others: the complex stays valid and simple.
use Rattle.std.proofs.Common.{◌≡◌, ◌≢◌, ℕ, ◌+◌, ◌<◌, Bool, true, false, not, cond, ◌&&◌, ◌||◌, eqb, ltb, ◌⊎◌, List, []}
use Rattle.std.proofs.Common.{◌∷◌, ◌++◌, length, map, get_or, refl, sym, ap, ◌∙◌, subst, inl, inr, arith, Option, Some}
use Rattle.std.proofs.Common.{None, true≢false}
use Rattle.std.specs.Option.{option_map}
use Rattle.std.specs.List.{All, list_any, list_all, position, enumerate_from}
use Rattle.std.proofs.lemmas.List.{length-append, map-append, length_push}
use Rattle.std.proofs.lemmas.List.FromFn.{length-enumerate_from, get_or-enumerate_from}
use Rattle.std.proofs.lemmas.List.Folds.{list_any-append}
use Rattle.std.proofs.lemmas.List.Elements.{All-cons, All-append, All-head, All-tail}
use Rattle.std.proofs.lemmas.Bool.{cases_eq, cases_Bool, or_parts, or_cases, cond-true, cond-false, not-false, eqb-true}
use Rattle.std.proofs.lemmas.Bool.{eqb-false, ne_eqb, false_from_ne_true}
use Rattle.mesh_model.specs.Table.{at, IsThere, passes, changed_names}
use Rattle.mesh_model.specs.Complex.{Complex, has, verts_of}
use Rattle.mesh_model.specs.Incidence.{joins, has_end, is_at, uses_vert, edges_at}
use Rattle.mesh_model.specs.Elements.{is_among}
use Rattle.mesh_model.specs.Valid.{IsPolygon, IsEdgeLinked, IsWithinLimits, IsValid, IsSimple, IsSound}
use Rattle.mesh_model.specs.Lookups.{vert_rec, least_face, next_vert, with_previous}
use Rattle.mesh_model.specs.Renaming.{renamed_vert, with_ends}
use Rattle.mesh_model.specs.Refusals.{first_of, unless, unless_at, refused_at, unless_there, unless_too_many}
use Rattle.mesh_model.specs.Splice.{is_edge_among, separate_side, separate_vert, least_apart, is_just_one, is_torn}
use Rattle.mesh_model.specs.Splice.{separate_vert_refusal}
use Rattle.mesh_model.specs.declared.names.Elem.TheVariants.{Vert, Edge, Face}
use Rattle.mesh_model.specs.declared.names.VertName.{VertName}
use Rattle.mesh_model.specs.declared.names.EdgeName.{EdgeName}
use Rattle.mesh_model.specs.declared.refusal.Why.TheVariants.{Empty, Apart, Valence, Pinched}
use Rattle.mesh_model.specs.declared.records.VertRec.{VertRec}
use Rattle.mesh_model.specs.declared.records.EdgeRec.{EdgeRec}
use Rattle.mesh_model.specs.declared.records.CornerRec.{CornerRec}
use Rattle.mesh_model.specs.declared.records.FaceRec.{FaceRec}
use Rattle.mesh_model.proofs.Tables.{Extends-append, there-Extends, there_from, at-append, at-append_new, at-below}
use Rattle.mesh_model.proofs.Tables.{at-changed_names, length-changed, length-changed_names}
use Rattle.mesh_model.proofs.Edges.{same_vert_name, joins-cases, joins-symm}
use Rattle.mesh_model.proofs.Distinct.{distinct-cons, distinct-uncons}
use Rattle.mesh_model.proofs.Paths.{leads_to, is_path, path-append, path-cons, path-uncons, path-parts, path-same}
use Rattle.mesh_model.proofs.Paths.{IsCircle, IsCircle-from_polygon, IsCircle-turned, IsPolygon-from_circle}
use Rattle.mesh_model.proofs.Circles.{at-among, stay_past, joins-ahead, joins-back, path-has_ends}
use Rattle.mesh_model.proofs.Renamings.{joins-with_ends, renamed-same, renamed-other, renamed-apart}
use Rattle.mesh_model.proofs.Walks.{All-left, All-right, found}
use Rattle.mesh_model.proofs.EdgeSplits.{past_middle}
use Rattle.mesh_model.proofs.Previous.{last_of, front_of, front-last, after_each, with_previous-cons}
use Rattle.mesh_model.proofs.Looking.{at-vert_rec, next-new, next_vert-out, was-changed}
use Rattle.mesh_model.proofs.Refusing.{first_of-none, there-none, refused_at-none, mapped-none, position-none}
use Rattle.mesh_model.proofs.Refusing.{least_face-none, limits-none}
use Rattle.mesh_model.proofs.Right.{AreRight, IsVertRight, IsEdgeRight, IsFaceRight, HasSameLayers, HasVals, end-there}
use Rattle.mesh_model.proofs.Right.{IsVertRight-same, IsEdgeRight-same, HasVals-same, face-with, AreRight-from_valid}
use Rattle.mesh_model.proofs.Right.{IsValid-from_right}

-- what is known where edges of a vertex are separated
pub record IsSeparation (c : Complex) (v : VertName) (es : List EdgeName) : Type 0 where
  pub right : AreRight c
  pub there : has c (Vert v) ≡ true
  pub at_vert : (n : ℕ) (x : EdgeRec) → at c.edges n ≡ Some x → is_edge_among es (record { 0 = n }) ≡ true
      → has_end v x ≡ true
  pub whole : (n : ℕ) (f : FaceRec) → at c.faces n ≡ Some f → is_torn v es f ≡ false

abbrev after : Complex → VertName → List EdgeName → Complex
after c v es = (separate_vert c v es).0

pub same_layers-separate_vert : (c : Complex) (v : VertName) (es : List EdgeName)
    → HasSameLayers (separate_vert c v es).0 c
same_layers-separate_vert c v es = record { layers = refl; materials = refl }

-- ---- EDGES

-- the vertex replaced by its copy
abbrev pub copied : Complex → VertName → VertName → VertName
copied c v = renamed_vert v (next_vert c)

abbrev given : List EdgeName → ℕ → Bool
given es n = is_edge_among es (record { 0 = n })

abbrev separate_edges : Complex → VertName → List EdgeName → List (Option EdgeRec)
separate_edges c v es = changed_names (given es) (with_ends (copied c v)) c.edges

at-given : (c : Complex) (v : VertName) (es : List EdgeName) (n : ℕ) (x : EdgeRec) → given es n ≡ true
    → at c.edges n ≡ Some x → at (separate_edges c v es) n ≡ Some (with_ends (copied c v) x)
at-given c v es n x is_given is = at-changed_names (given es) (with_ends (copied c v)) c.edges n
    ∙ cond-true (given es n) _ _ is_given ∙ ap (option_map (with_ends (copied c v))) is

at-other : (c : Complex) (v : VertName) (es : List EdgeName) (n : ℕ) → given es n ≡ false
    → at (separate_edges c v es) n ≡ at c.edges n
at-other c v es n other = at-changed_names (given es) (with_ends (copied c v)) c.edges n
    ∙ cond-false (given es n) _ _ other

-- an edge past the vertex stays
past_stays : (c : Complex) (v : VertName) (es : List EdgeName) → IsSeparation c v es → (n : ℕ) (x : EdgeRec)
    → at c.edges n ≡ Some x → has_end v x ≡ false → at (separate_edges c v es) n ≡ Some x
past_stays c v es s n x is off =
    at-other c v es n (false_from_ne_true (given es n) (λ is_given. true≢false (sym (s.at_vert n x is is_given) ∙ off)))
    ∙ is

-- a given edge from a vertex to this one leads to the copy
to_copy : (c : Complex) (v : VertName) (es : List EdgeName) (n : ℕ) (u w : VertName) → given es n ≡ true
    → passes (joins u w) (at c.edges n) ≡ true
    → passes (joins (copied c v u) (copied c v w)) (at (separate_edges c v es) n) ≡ true
to_copy c v es n u w is_given h =
    ap (passes (joins (copied c v u) (copied c v w))) (at-changed_names (given es) (with_ends (copied c v)) c.edges n
    ∙ cond-true (given es n) _ _ is_given) ∙ on (at c.edges n) h
  where
    on : (o : Option EdgeRec) → passes (joins u w) o ≡ true
        → passes (joins (copied c v u) (copied c v w)) (option_map (with_ends (copied c v)) o) ≡ true
    on None is = absurd (cc)
    on (Some x) is = joins-with_ends (copied c v) u w x is

-- ---- EACH CORNER WITH THE ONE BEFORE IT

with_previous-last : {X : Type 0} (d : X) (xs : List X) → with_previous xs ≡ after_each (last_of d xs) xs
with_previous-last d [] = refl
with_previous-last d (x ∷ xs) = with_previous-cons x xs

after_each-append : {X : Type 0} (p : X) (xs : List X) (k : X) (ys : List X)
    → after_each p (xs ++ k ∷ ys) ≡ after_each p xs ++ ((k, last_of p xs) ∷ after_each k ys)
after_each-append p [] k ys = refl
after_each-append {X = X} p (x ∷ xs) k ys = ap (λ (zs : List (X × X)). (x, p) ∷ zs) (after_each-append x xs k ys)

last-append : {X : Type 0} (d : X) (xs ys : List X) → last_of d (xs ++ ys) ≡ last_of (last_of d xs) ys
last-append d [] ys = refl
last-append d (x ∷ xs) ys = last-append x xs ys

sides_past : (v w : VertName) (es : List EdgeName) (p : CornerRec) (ks : List CornerRec) → list_any (is_at v) ks ≡ false
    → map (separate_side v w es) (after_each p ks) ≡ ks
sides_past v w es p [] none = refl
sides_past v w es p (k ∷ ks) none =
    let both = or_parts (is_at v k) (list_any (is_at v) ks) none in
    ap (λ (l : CornerRec). l ∷ map (separate_side v w es) (after_each k ks)) (side_past v w es k p both.0)
    ∙ ap (λ (ls : List CornerRec). k ∷ ls) (sides_past v w es k ks both.1)
  where
    side_past : (u x : VertName) (gs : List EdgeName) (l q : CornerRec) → is_at u l ≡ false
        → separate_side u x gs (l, q) ≡ l
    side_past u x gs l q off =
        ap (λ (b : Bool). cond (b && (is_edge_among gs l.edge && is_edge_among gs q.edge)) (let m : CornerRec =
        record l { vert = x } in m) l) off

-- one corner is at the vertex
sides_around : (v w : VertName) (es : List EdgeName) (before later : List CornerRec) (k : CornerRec)
    → list_any (is_at v) before ≡ false → list_any (is_at v) later ≡ false
    → map (separate_side v w es) (with_previous (before ++ k ∷ later))
    ≡ before ++ (separate_side v w es (k, last_of k (later ++ before)) ∷ later)
sides_around v w es before later k none_before none_later =
    let first : CornerRec = last_of k (before ++ k ∷ later) in
    let previous : last_of (last_of k (before ++ k ∷ later)) before ≡ last_of k (later ++ before) =
    ap (λ (q : CornerRec). last_of q before) (last-append k before (k ∷ later))
    ∙ sym (last-append k later before) in
    ap (map (separate_side v w es)) (with_previous-last k (before ++ k ∷ later)
    ∙ after_each-append first before k later)
    ∙ map-append (separate_side v w es) (after_each first before) ((k, last_of first before) ∷ after_each k later)
    ∙ ap (λ (xs : List CornerRec). xs
    ++ (separate_side v w es (k, last_of first before) ∷ map (separate_side v w es) (after_each k later)))
    (sides_past v w es first before none_before)
    ∙ ap (λ (xs : List CornerRec). before ++ (separate_side v w es (k, last_of first before) ∷ xs))
    (sides_past v w es k later none_later)
    ∙ ap (λ (q : CornerRec). before ++ (separate_side v w es (k, q) ∷ later)) previous

-- ---- A RING

-- the corners after are a polygon, with values that are right
record IsPolygonAfter (c : Complex) (v : VertName) (es : List EdgeName) (ks : List CornerRec) : Type 0 where
  polygon : IsPolygon (after c v es).edges (map (separate_side v (next_vert c) es) (with_previous ks))
  vals : All (HasVals c) (map (separate_side v (next_vert c) es) (with_previous ks))

polygon_past : (c : Complex) (v : VertName) (es : List EdgeName) → IsSeparation c v es → (ks : List CornerRec)
    → IsPolygon c.edges ks → All (HasVals c) ks → list_any (is_at v) ks ≡ false → IsPolygonAfter c v es ks
polygon_past c v es s [] polygon vals none = absurd (let least = polygon.least in omega arith)
polygon_past c v es s (k ∷ ks) polygon vals none =
    let d = after c v es in
    let image = ap (map (separate_side v (next_vert c) es)) (with_previous-last k (k ∷ ks))
    ∙ sides_past v (next_vert c) es (last_of k (k ∷ ks)) (k ∷ ks) none in
    let circle = IsCircle-from_polygon c (k ∷ ks) polygon in
    let off = eqb-false k.vert.0 v.0 (or_parts (is_at v k) (list_any (is_at v) ks) none).0 in
    let stay = stay_past c.edges (separate_edges c v es) v (past_stays c v es s) (k ∷ ks)
    k.vert circle.closed none off in
    let same : IsPolygon d.edges (k ∷ ks) =
    IsPolygon-from_circle d (k ∷ ks) polygon.least polygon.most (record {
      distinct = circle.distinct;
      closed =
          path-same c.edges (separate_edges c v es) (k ∷ ks) k.vert stay circle.closed;
    }) in
    record { polygon = subst (IsPolygon d.edges) (sym image) same; vals = subst (All (HasVals c)) (sym image) vals }

-- just one holds, or both or neither do
both_or_neither : (x y : Bool) → is_just_one x y ≡ false → x ≡ y
both_or_neither true true h = refl
both_or_neither true false h = absurd (cc)
both_or_neither false true h = absurd (cc)
both_or_neither false false h = refl

-- the polygon from its corner at the vertex on
separate_circle : (c : Complex) (v : VertName) (es : List EdgeName) → IsSeparation c v es
    → (k : CornerRec) (x : CornerRec) (xs : List CornerRec) → is_at v k ≡ true
    → given es k.edge.0 ≡ given es (last_of x xs).edge.0
    → IsCircle c.edges (k ∷ x ∷ xs)
    → IsCircle (separate_edges c v es) (separate_side v (next_vert c) es (k, last_of x xs) ∷ x ∷ xs)
separate_circle c v es s k x xs at_k same h =
    let w : VertName = next_vert c in
    let p : CornerRec = last_of x xs in
    let front : List CornerRec = front_of x xs in
    let split = front-last x xs in
    let is_v : k.vert ≡ v = same_vert_name k.vert v (eqb-true k.vert.0 v.0 at_k) in
    let one = path-uncons c.edges k (x ∷ xs) k.vert h.closed in
    let apart = distinct-uncons k.vert (verts_of (x ∷ xs)) h.distinct in
    let none : list_any (is_at v) (x ∷ xs) ≡ false = at-among v (x ∷ xs) ∙ ap (is_among (verts_of (x ∷ xs))) (sym is_v)
    ∙ apart.0 in
    let clear = or_parts (list_any (is_at v) (front_of x xs)) (is_at v (last_of x xs) || false)
    (sym (list_any-append (is_at v) (front_of x xs) (last_of x xs ∷ [])) ∙ sym (ap (list_any (is_at v)) split)
    ∙ none) in
    let off_p : (last_of x xs).vert.0 ≢ v.0 =
    eqb-false (last_of x xs).vert.0 v.0 (or_parts (is_at v (last_of x xs)) false clear.1).0 in
    let off_x : x.vert.0 ≢ v.0 = eqb-false x.vert.0 v.0 (or_parts (is_at v x) (list_any (is_at v) xs) none).0 in
    let parts = path-parts c.edges (front_of x xs) (last_of x xs ∷ []) k.vert
    (sym (ap (λ (ls : List CornerRec). is_path c.edges ls k.vert) split) ∙ one.1) in
    let last = path-uncons c.edges (last_of x xs) [] k.vert parts.1 in
    let stay = stay_past c.edges (separate_edges c v es) v (past_stays c v es s) (front_of x xs)
    (last_of x xs).vert parts.0 clear.0 off_p in
    let front_path = path-same c.edges (separate_edges c v es) (front_of x xs) (last_of x xs).vert stay parts.0 in
    elim (cases_Bool (given es k.edge.0)) [
      | inl is_given ↦
          let p_given : given es (last_of x xs).edge.0 ≡ true = sym same ∙ is_given in
          let moved : separate_side v (next_vert c) es (k, last_of x xs) ≡ record k { vert = next_vert c } =
          ap (λ (b : Bool). cond (b && (given es k.edge.0 && given es (last_of x xs).edge.0)) (moved_to (next_vert c) k)
          k) at_k
          ∙ ap (λ (b : Bool). cond (b && given es (last_of x xs).edge.0) (moved_to (next_vert c) k) k) is_given
          ∙ ap (λ (b : Bool). cond b (moved_to (next_vert c) k) k) p_given in
          let old_p : passes (joins (last_of x xs).vert v) (at c.edges (last_of x xs).edge.0) ≡ true =
          ap (λ (u : VertName). passes (joins (last_of x xs).vert u) (at c.edges (last_of x xs).edge.0)) (sym is_v)
          ∙ last.0 in
          let old_k : passes (joins v x.vert) (at c.edges k.edge.0) ≡ true =
          ap (λ (u : VertName). passes (joins u x.vert) (at c.edges k.edge.0)) (sym is_v) ∙ one.0 in
          let copy_v : copied c v v ≡ next_vert c = renamed-same v (next_vert c) v refl in
          let new_p : leads_to (separate_edges c v es) (last_of x xs) (next_vert c) ≡ true =
          ap (λ (u : VertName). passes (joins u (next_vert c)) (at (separate_edges c v es) (last_of x xs).edge.0))
          (sym (renamed-other v (next_vert c) (last_of x xs).vert off_p))
          ∙ ap (λ (u : VertName). passes (joins (copied c v (last_of x xs).vert) u)
          (at (separate_edges c v es) (last_of x xs).edge.0)) (sym copy_v)
          ∙ to_copy c v es (last_of x xs).edge.0 (last_of x xs).vert v p_given old_p in
          let new_k : leads_to (separate_edges c v es) (record k { vert = next_vert c }) x.vert ≡ true =
          ap (λ (u : VertName). passes (joins u x.vert) (at (separate_edges c v es) k.edge.0)) (sym copy_v)
          ∙ ap (λ (u : VertName). passes (joins (copied c v v) u) (at (separate_edges c v es) k.edge.0))
          (sym (renamed-other v (next_vert c) x.vert off_x))
          ∙ to_copy c v es k.edge.0 v x.vert is_given old_k in
          let rest_path : is_path (separate_edges c v es) (x ∷ xs) (next_vert c) ≡ true =
          ap (λ (ls : List CornerRec). is_path (separate_edges c v es) ls (next_vert c)) split
          ∙ path-append (separate_edges c v es) (front_of x xs) (last_of x xs ∷ []) (next_vert c) front_path
          (path-cons (separate_edges c v es) (last_of x xs) [] (next_vert c) new_p refl) in
          let ends = path-has_ends c.edges (x ∷ xs) k.vert one.1 in
          let out = next_vert-out c (x ∷ xs)
          (λ i d less. end-there c s.right.edges (get_or (x ∷ xs) i d).edge.0 (get_or (x ∷ xs) i d).vert
          (ends i d less)) in
          subst (λ (l : CornerRec). IsCircle (separate_edges c v es) (l ∷ x ∷ xs)) (sym moved) (record {
            distinct = distinct-cons (next_vert c) (verts_of (x ∷ xs)) out apart.1;
            closed = path-cons (separate_edges c v es) (record k { vert = next_vert c }) (x ∷ xs) (next_vert c)
                new_k rest_path;
          })
      | inr other ↦
          let p_other : given es (last_of x xs).edge.0 ≡ false = sym same ∙ other in
          let kept : separate_side v (next_vert c) es (k, last_of x xs) ≡ k =
          ap (λ (b : Bool). cond (b && (given es k.edge.0 && given es (last_of x xs).edge.0)) (moved_to (next_vert c) k)
          k) at_k
          ∙ ap (λ (b : Bool). cond (b && given es (last_of x xs).edge.0) (moved_to (next_vert c) k) k) other in
          let new_p : leads_to (separate_edges c v es) (last_of x xs) k.vert ≡ true =
          ap (passes (joins (last_of x xs).vert k.vert)) (at-other c v es (last_of x xs).edge.0 p_other) ∙ last.0 in
          let new_k : leads_to (separate_edges c v es) k x.vert ≡ true =
          ap (passes (joins k.vert x.vert)) (at-other c v es k.edge.0 other) ∙ one.0 in
          let rest_path : is_path (separate_edges c v es) (x ∷ xs) k.vert ≡ true =
          ap (λ (ls : List CornerRec). is_path (separate_edges c v es) ls k.vert) split
          ∙ path-append (separate_edges c v es) (front_of x xs) (last_of x xs ∷ []) k.vert front_path
          (path-cons (separate_edges c v es) (last_of x xs) [] k.vert new_p refl) in
          subst (λ (l : CornerRec). IsCircle (separate_edges c v es) (l ∷ x ∷ xs)) (sym kept) (record {
            distinct = h.distinct;
            closed = path-cons (separate_edges c v es) k (x ∷ xs) k.vert new_k rest_path;
          })
    ]
  where
    moved_to : VertName → CornerRec → CornerRec
    moved_to u l = record l { vert = u }

-- the corner at the vertex has its own values, at the copy or not
side-vals : (c : Complex) (v w : VertName) (es : List EdgeName) (k p : CornerRec) → HasVals c k
    → HasVals c (separate_side v w es (k, p))
side-vals c v w es k p vals = either (is_at v k && (is_edge_among es k.edge && is_edge_among es p.edge))
  where
    either : (b : Bool) → HasVals c (cond b (let l : CornerRec = record k { vert = w } in l) k)
    either true = vals
    either false = vals

polygon_at : (c : Complex) (v : VertName) (es : List EdgeName) → IsSeparation c v es
    → (before later : List CornerRec) (k : CornerRec) → is_at v k ≡ true → list_any (is_at v) before ≡ false
    → list_any (λ (side : CornerRec × CornerRec). is_at v side.0
    && is_just_one (is_edge_among es side.0.edge) (is_edge_among es side.1.edge))
    (with_previous (before ++ k ∷ later)) ≡ false
    → IsPolygon c.edges (before ++ k ∷ later) → All (HasVals c) (before ++ k ∷ later)
    → IsPolygonAfter c v es (before ++ k ∷ later)
polygon_at c v es s before later k at_k none_before whole polygon vals =
    let d = after c v es in
    let g : CornerRec × CornerRec → CornerRec = separate_side v (next_vert c) es in
    let circle = IsCircle-turned c.edges before (k ∷ later) (IsCircle-from_polygon c (before ++ k ∷ later) polygon) in
    let is_v : k.vert ≡ v = same_vert_name k.vert v (eqb-true k.vert.0 v.0 at_k) in
    let apart = distinct-uncons k.vert (verts_of (later ++ before)) circle.distinct in
    let none : list_any (is_at v) (later ++ before) ≡ false = at-among v (later ++ before)
    ∙ ap (is_among (verts_of (later ++ before))) (sym is_v) ∙ apart.0 in
    let none_later = (or_parts (list_any (is_at v) later) (list_any (is_at v) before)
    (sym (list_any-append (is_at v) later before) ∙ none)).0 in
    let image = sides_around v (next_vert c) es before later k none_before none_later in
    let p : CornerRec = last_of k (later ++ before) in
    let torn : CornerRec × CornerRec
    → Bool = λ side. is_at v side.0 && is_just_one (is_edge_among es side.0.edge) (is_edge_among es side.1.edge) in
    let first : CornerRec = last_of k (before ++ k ∷ later) in
    let previous : last_of first before ≡ last_of k (later ++ before) =
    ap (λ (q : CornerRec). last_of q before) (last-append k before (k ∷ later))
    ∙ sym (last-append k later before) in
    let sides = sym (ap (list_any torn) (with_previous-last k (before ++ k ∷ later)
    ∙ after_each-append first before k later)) ∙ whole in
    let here = (or_parts (torn (k, last_of first before)) (list_any torn (after_each k later))
    (or_parts (list_any torn (after_each first before))
    (list_any torn ((k, last_of first before) ∷ after_each k later))
    (sym (list_any-append torn (after_each first before) ((k, last_of first before) ∷ after_each k later))
    ∙ sides)).1).0 in
    let together : is_edge_among es k.edge ≡ is_edge_among es p.edge =
    both_or_neither (is_edge_among es k.edge) (is_edge_among es p.edge)
    (sym (ap (λ (b : Bool). b && is_just_one (is_edge_among es k.edge) (is_edge_among es p.edge)) at_k)
    ∙ ap (λ (q : CornerRec). torn (k, q)) (sym previous) ∙ here) in
    let count = length-append before (k ∷ later) in
    let least = polygon.least in
    let most = polygon.most in
    let turned = by_rest (later ++ before) (omega (arith, count, length-append later before)) together circle in
    let back : IsCircle (separate_edges c v es) (before ++ (g (k, p) ∷ later)) =
    IsCircle-turned (separate_edges c v es) (g (k, p) ∷ later) before turned in
    let count_after = length-append before (g (k, p) ∷ later) in
    let from_k = All-right (HasVals c) before (k ∷ later) vals in
    let all : All (HasVals c) (before ++ (g (k, p) ∷ later)) =
    All-append (HasVals c) before (g (k, p) ∷ later) (All-left (HasVals c) before (k ∷ later) vals)
    (All-cons (HasVals c) (g (k, p)) later (side-vals c v (next_vert c) es k p (All-head (HasVals c) k later from_k))
    (All-tail (HasVals c) k later from_k)) in
    record {
      polygon = subst (IsPolygon d.edges) (sym image)
          (IsPolygon-from_circle d (before ++ (g (k, p) ∷ later)) (omega (arith, count, count_after))
          (omega (arith, count, count_after)) back);
      vals = subst (All (HasVals c)) (sym image) all;
    }
  where
    by_rest : (rest : List CornerRec) → 0 < length rest
        → is_edge_among es k.edge ≡ is_edge_among es (last_of k rest).edge → IsCircle c.edges (k ∷ rest)
        → IsCircle (separate_edges c v es) (separate_side v (next_vert c) es (k, last_of k rest) ∷ rest)
    by_rest [] some same h = absurd (omega arith)
    by_rest (x ∷ xs) some same h = separate_circle c v es s k x xs at_k same h

IsFaceRight-separate_vert : (c : Complex) (v : VertName) (es : List EdgeName) → IsSeparation c v es
    → (n : ℕ) (f : FaceRec) → at c.faces n ≡ Some f
    → IsFaceRight (separate_vert c v es).0
    (record f { corners = map (separate_side v (next_vert c) es) (with_previous f.corners) })
IsFaceRight-separate_vert c v es s n f is =
    let d = after c v es in
    let right = s.right.faces n f is in
    let turn : IsPolygonAfter c v es f.corners = elim (cases_Bool (uses_vert v f)) [
      | inl used ↦
          let fd = found (is_at v) f.corners used in
          subst (IsPolygonAfter c v es) (sym fd.parts)
          (polygon_at c v es s fd.before fd.after fd.here fd.passes fd.none_before
          (sym (ap (λ (ks : List CornerRec). list_any (λ (side : CornerRec × CornerRec). is_at v side.0
          && is_just_one (is_edge_among es side.0.edge) (is_edge_among es side.1.edge)) (with_previous ks))
          fd.parts) ∙ s.whole n f is)
          (subst (IsPolygon c.edges) fd.parts right.polygon) (subst (All (HasVals c)) fd.parts right.corners))
      | inr free ↦ polygon_past c v es s f.corners right.polygon right.corners free
    ] in
    face-with d c (same_layers-separate_vert c v es) f
    (map (separate_side v (next_vert c) es) (with_previous f.corners)) turn.polygon
    (HasVals-same d c (same_layers-separate_vert c v es)
    (map (separate_side v (next_vert c) es) (with_previous f.corners)) turn.vals) right

-- ---- THE COMPLEX

-- what stands in the table of edges after: an edge as before, or a given one with the copy in the vertex's place
data Standing (c : Complex) (v : VertName) (es : List EdgeName) (n : ℕ) (x : EdgeRec) : Type 0 where
  as_before : at c.edges n ≡ Some x → Standing c v es n x
  is_moved : (y : EdgeRec) → at c.edges n ≡ Some y → has_end v y ≡ true → x ≡ with_ends (copied c v) y
      → Standing c v es n x

standing : (c : Complex) (v : VertName) (es : List EdgeName) → IsSeparation c v es → (n : ℕ) (x : EdgeRec)
    → at (separate_edges c v es) n ≡ Some x → Standing c v es n x
standing c v es s n x is = elim (cases_Bool (given es n)) [
  | inl is_given ↦ of_some (at c.edges n) refl is_given
      (sym (at-changed_names (given es) (with_ends (copied c v)) c.edges n ∙ cond-true (given es n) _ _ is_given) ∙ is)
  | inr other ↦ as_before (sym (at-other c v es n other) ∙ is)
]
  where
    of_some : (o : Option EdgeRec) → at c.edges n ≡ o → given es n ≡ true
        → option_map (with_ends (copied c v)) o ≡ Some x → Standing c v es n x
    of_some None stood is_given changed_to = absurd (cc)
    of_some (Some y) stood is_given changed_to =
        is_moved y stood (s.at_vert n y stood is_given) (let z : Some (with_ends (copied c v) y) ≡ Some x =
        changed_to in cc)

-- an end after is there
pub end_after : (c : Complex) (v u : VertName) → IsThere c.verts u.0
    → IsThere (c.verts ++ Some (vert_rec c v) ∷ []) (copied c v u).0
end_after c v u there = elim (cases_eq u.0 v.0) [
  | inl same ↦ subst (λ (x : VertName). IsThere (c.verts ++ Some (vert_rec c v) ∷ []) x.0)
      (sym (renamed-same v (next_vert c) u same))
      (there_from (c.verts ++ Some (vert_rec c v) ∷ []) (length c.verts) (vert_rec c v)
      (at-append_new c.verts (vert_rec c v)))
  | inr other ↦ subst (λ (x : VertName). IsThere (c.verts ++ Some (vert_rec c v) ∷ []) x.0)
      (sym (renamed-other v (next_vert c) u other))
      (there-Extends c.verts (c.verts ++ Some (vert_rec c v) ∷ []) (Extends-append c.verts (Some (vert_rec c v) ∷ []))
      u.0 there)
]

IsEdgeRight-separate_vert : (c : Complex) (v : VertName) (es : List EdgeName) → IsSeparation c v es
    → (n : ℕ) (x : EdgeRec) → Standing c v es n x → IsEdgeRight (separate_vert c v es).0 x
IsEdgeRight-separate_vert c v es s n x (as_before is) =
    let right = s.right.edges n x is in
    let more = there-Extends c.verts (c.verts ++ Some (vert_rec c v) ∷ [])
    (Extends-append c.verts (Some (vert_rec c v) ∷ [])) in
    IsEdgeRight-same (after c v es) c (same_layers-separate_vert c v es) x x refl (more x.a.0 right.linked.a)
    (more x.b.0 right.linked.b) right.linked.differ right
IsEdgeRight-separate_vert c v es s n x (is_moved y stood ends is) =
    let right = s.right.edges n y stood in
    let apart = renamed-apart v (next_vert c) y.a y.b (next-new c.verts y.a.0 right.linked.a)
    (next-new c.verts y.b.0 right.linked.b) (ne_eqb y.a.0 y.b.0 right.linked.differ) in
    subst (IsEdgeRight (after c v es)) (sym is)
    (IsEdgeRight-same (after c v es) c (same_layers-separate_vert c v es) y (with_ends (copied c v) y) refl
    (end_after c v y.a right.linked.a) (end_after c v y.b right.linked.b)
    (eqb-false (copied c v y.a).0 (copied c v y.b).0 apart) right)

pub AreRight-separate_vert : (c : Complex) (v : VertName) (es : List EdgeName) → IsSeparation c v es
    → AreRight (separate_vert c v es).0
AreRight-separate_vert c v es s =
    let d = after c v es in
    record {
      layers = s.right.layers;
      verts = λ n x is. elim (at-append c.verts (vert_rec c v) x n is) [
        | inl old ↦ IsVertRight-same d c (same_layers-separate_vert c v es) x (s.right.verts n x old)
        | inr new ↦ subst (λ (r : VertRec). IsVertRight d r) (sym new.1)
            (IsVertRight-same d c (same_layers-separate_vert c v es) (vert_rec c v)
            (s.right.verts v.0 (vert_rec c v) (at-vert_rec c v s.there)))
      ];
      edges = λ n x is. IsEdgeRight-separate_vert c v es s n x (standing c v es s n x is);
      faces = λ n x is.
          let it = was-changed c.faces (λ (f : FaceRec). record f {
            corners =
                map (separate_side v (next_vert c) es) (with_previous f.corners);
          }) n x is in
          subst (IsFaceRight d) (sym it.2) (IsFaceRight-separate_vert c v es s n it.0 it.1);
    }

-- what the test tells that answers None
pub IsSeparation-from_test : (c : Complex) (v : VertName) (es : List EdgeName) → separate_vert_refusal c v es ≡ None
    → AreRight c → IsSeparation c v es × IsWithinLimits (separate_vert c v es).0
IsSeparation-from_test c v es test right =
    let misses : ℕ × Option EdgeRec
    → Bool = λ e. is_edge_among es (record { 0 = e.0 }) && not (passes (has_end v) e.1) in
    let one = first_of-none (unless_there c (Vert v)) _ test in
    let two = first_of-none (first_of (map (λ (e : EdgeName). unless_there c (Edge e)) es)) _ one.1 in
    let three = first_of-none (unless (ltb 0 (length es)) Empty) _ two.1 in
    let four = first_of-none (refused_at Apart (option_map Edge (least_apart c v es))) _ three.1 in
    let five = first_of-none (unless_at (not (list_all (is_edge_among es) (edges_at c v))) Valence (Vert v)) _ four.1 in
    let six = first_of-none (refused_at Pinched (option_map Face (least_face (is_torn v es) c))) _ five.1 in
    let seven = first_of-none (unless_too_many (separate_vert c v es).0) _ six.1 in
    let nowhere_apart : position misses (enumerate_from 0 c.edges) ≡ None =
    mapped-none (λ (n : ℕ). let e : EdgeName = record { 0 = n } in e) (position misses (enumerate_from 0 c.edges))
    (mapped-none Edge (least_apart c v es) (refused_at-none Apart (option_map Edge (least_apart c v es)) four.0)) in (
      record {
        right = right;
        there = there-none c (Vert v) one.0;
        at_vert = λ n x is is_given.
            let below = at-below c.edges n x is in
            let long = length-enumerate_from 0 c.edges in
            let fails = position-none misses (enumerate_from 0 c.edges) n (0, None) nowhere_apart (omega arith) in
            let place : get_or (enumerate_from 0 c.edges) n (0, None) ≡ (n, at c.edges n) =
            get_or-enumerate_from 0 c.edges n (0, None) below
            ∙ ap (λ (m : ℕ). let q : ℕ × Option EdgeRec = (m, at c.edges n) in q) (omega arith) in
            let off : (is_edge_among es (record { 0 = n }) && not (passes (has_end v) (at c.edges n))) ≡ false =
            sym (ap misses place) ∙ fails in
            sym (ap (passes (has_end v)) is)
            ∙ not-false (passes (has_end v) (at c.edges n))
            (sym (ap (λ (b : Bool). b && not (passes (has_end v) (at c.edges n))) is_given) ∙ off);
        whole = least_face-none (is_torn v es) c
            (mapped-none Face (least_face (is_torn v es) c)
            (refused_at-none Pinched (option_map Face (least_face (is_torn v es) c)) six.0));
      },
      limits-none (separate_vert c v es).0 seven.0,
    )

pub IsValid-separate_vert : (c : Complex) (v : VertName) (es : List EdgeName) → separate_vert_refusal c v es ≡ None
    → IsValid c → IsValid (separate_vert c v es).0
IsValid-separate_vert c v es test h =
    let told = IsSeparation-from_test c v es test (AreRight-from_valid c h) in
    IsValid-from_right (separate_vert c v es).0 (AreRight-separate_vert c v es told.0) told.1

-- ---- SIMPLE

-- vertices that were there have different names after too
copied-same : (c : Complex) (v p q : VertName) → p.0 ≢ length c.verts → q.0 ≢ length c.verts
    → copied c v p ≡ copied c v q → p ≡ q
copied-same c v p q old_p old_q same = elim (cases_Bool (eqb p.0 q.0)) [
  | inl is ↦ same_vert_name p q (eqb-true p.0 q.0 is)
  | inr other ↦ absurd
      (eqb-false (copied c v p).0 (copied c v q).0 (renamed-apart v (next_vert c) p q old_p old_q other)
      (ap (λ (u : VertName). u.0) same))
]

pub both_moved : (c : Complex) (v : VertName) (x y : EdgeRec) → IsEdgeLinked c x → IsEdgeLinked c y
    → joins (copied c v x.a) (copied c v x.b) (with_ends (copied c v) y) ≡ true → joins x.a x.b y ≡ true
both_moved c v x y old_x old_y joined =
    let xa = next-new c.verts x.a.0 old_x.a in
    let xb = next-new c.verts x.b.0 old_x.b in
    let ya = next-new c.verts y.a.0 old_y.a in
    let yb = next-new c.verts y.b.0 old_y.b in
    elim (joins-cases (copied c v x.a) (copied c v x.b) (with_ends (copied c v) y) joined) [
      | inl ahead ↦ joins-ahead x.a x.b y (copied-same c v y.a x.a ya xa ahead.0)
          (copied-same c v y.b x.b yb xb ahead.1)
      | inr back ↦ joins-back x.a x.b y (copied-same c v y.a x.b ya xb back.0) (copied-same c v y.b x.a yb xa back.1)
    ]

-- a given edge ends at the copy
pub ends_at_copy : (c : Complex) (v : VertName) (y : EdgeRec) → has_end v y ≡ true
    → ((with_ends (copied c v) y).a ≡ next_vert c) ⊎ ((with_ends (copied c v) y).b ≡ next_vert c)
ends_at_copy c v y h = elim (or_cases (eqb y.a.0 v.0) (eqb y.b.0 v.0) h) [
  | inl is_a ↦ inl (renamed-same v (next_vert c) y.a (eqb-true y.a.0 v.0 is_a))
  | inr is_b ↦ inr (renamed-same v (next_vert c) y.b (eqb-true y.b.0 v.0 is_b))
]

one_edge : (c : Complex) (v : VertName) (es : List EdgeName) → AreRight c → IsSimple c → (m n : ℕ) (x y : EdgeRec)
    → Standing c v es m x → Standing c v es n y → joins x.a x.b y ≡ true → m ≡ n
one_edge c v es right h m n x y (as_before is_x) (as_before is_y) joined = h m n x y is_x is_y joined
one_edge c v es right h m n x y (as_before is_x) (is_moved t at_t ends is) joined =
    absurd (past_middle c m x (with_ends (copied c v) t) (right.edges m x is_x).linked (ends_at_copy c v t ends)
    (sym (ap (joins x.a x.b) is) ∙ joined))
one_edge c v es right h m n x y (is_moved t at_t ends is) (as_before is_y) joined =
    absurd (past_middle c n y (with_ends (copied c v) t) (right.edges n y is_y).linked (ends_at_copy c v t ends)
    (joins-symm y (with_ends (copied c v) t) ∙ sym (ap (λ (u : EdgeRec). joins u.a u.b y) is) ∙ joined))
one_edge c v es right h m n x y (is_moved t at_t ends is) (is_moved u at_u ends_u is_u) joined =
    h m n t u at_t at_u (both_moved c v t u (right.edges m t at_t).linked (right.edges n u at_u).linked
    (sym (ap (λ (z : EdgeRec). joins z.a z.b y) is ∙ ap (joins (copied c v t.a) (copied c v t.b)) is_u) ∙ joined))

pub IsSimple-separate_vert : (c : Complex) (v : VertName) (es : List EdgeName) → separate_vert_refusal c v es ≡ None
    → IsSound c → IsSimple (separate_vert c v es).0
IsSimple-separate_vert c v es test h m n x y at_m at_n joined =
    let right = AreRight-from_valid c h.valid in
    let s = (IsSeparation-from_test c v es test right).0 in
    one_edge c v es right h.simple m n x y (standing c v es s m x at_m) (standing c v es s n y at_n) joined

pub IsSound-separate_vert : (c : Complex) (v : VertName) (es : List EdgeName) → separate_vert_refusal c v es ≡ None
    → IsSound c → IsSound (separate_vert c v es).0
IsSound-separate_vert c v es test h =
    record { valid = IsValid-separate_vert c v es test h.valid; simple = IsSimple-separate_vert c v es test h }

-- ---- COUNTERS

-- one vertex more
pub record IsCountedSeparation (c d : Complex) : Type 0 where
  pub verts : length d.verts ≡ length c.verts + 1
  pub edges : length d.edges ≡ length c.edges
  pub faces : length d.faces ≡ length c.faces

pub counters-separate_vert : (c : Complex) (v : VertName) (es : List EdgeName)
    → IsCountedSeparation c (separate_vert c v es).0
counters-separate_vert c v es = record {
  verts = length_push c.verts (Some (vert_rec c v));
  edges = length-changed_names (given es) (with_ends (copied c v)) c.edges;
  faces = length-changed (λ (f : FaceRec). record f {
    corners =
        map (separate_side v (next_vert c) es) (with_previous f.corners);
  }) c.faces;
}
