-- Two edges joined: the complex stays valid, and simple where no edge joined the far ends.
use Rattle.std.proofs.Common.{◌≡◌, ◌≢◌, ℕ, ◌<◌, ◌≤◌, Bool, true, false, not, cond, ◌&&◌, ◌||◌, eqb, ◌⊎◌, List, [], ◌∷◌}
use Rattle.std.proofs.Common.{◌++◌, length, refl, sym, ap, ◌∙◌, subst, inl, inr, arith, Option, Some, None, is_some}
use Rattle.std.proofs.Common.{true≢false}
use Rattle.std.specs.Option.{option_map}
use Rattle.std.specs.List.{All, list_any, flat_map}
use Rattle.std.proofs.lemmas.List.{length-append, append_assoc}
use Rattle.std.proofs.lemmas.List.Folds.{list_any-append}
use Rattle.std.proofs.lemmas.List.Elements.{All-cons, All-append, All-head, All-tail, All-nil}
use Rattle.std.proofs.lemmas.Bool.{cases_eq, cases_Bool, or_parts, or_cases, cond-true, cond-false, not-true, eq-eqb}
use Rattle.std.proofs.lemmas.Bool.{eqb-true, eqb-false, ne_eqb, false_from_ne_true}
use Rattle.mesh_model.specs.Table.{at, IsThere, passes, update, erase}
use Rattle.mesh_model.specs.Complex.{Complex, has, verts_of}
use Rattle.mesh_model.specs.Incidence.{joins, has_end, is_at, uses_vert, edges_at}
use Rattle.mesh_model.specs.Elements.{is_among}
use Rattle.mesh_model.specs.Valid.{IsPolygon, IsEdgeLinked, IsValid, IsSimple, IsSound}
use Rattle.mesh_model.specs.Lookups.{edge_rec, no_corner, least_face, with_next}
use Rattle.mesh_model.specs.Renaming.{renamed_vert, with_ends, along}
use Rattle.mesh_model.specs.Refusals.{unless_at, refused_at, unless_there}
use Rattle.mesh_model.specs.Euler.{far_end, other_edge, joined_side, with_sides, join_edge, is_triangle_at}
use Rattle.mesh_model.specs.Euler.{join_edge_refusal}
use Rattle.mesh_model.specs.declared.names.Elem.TheVariants.{Vert, Edge, Face}
use Rattle.mesh_model.specs.declared.names.VertName.{VertName}
use Rattle.mesh_model.specs.declared.names.EdgeName.{EdgeName}
use Rattle.mesh_model.specs.declared.refusal.Why.TheVariants.{Apart, Valence, Repeated, TooShort}
use Rattle.mesh_model.specs.declared.records.EdgeRec.{EdgeRec}
use Rattle.mesh_model.specs.declared.records.CornerRec.{CornerRec}
use Rattle.mesh_model.specs.declared.records.FaceRec.{FaceRec}
use Rattle.mesh_model.proofs.Tables.{there_passes, at-erase_other, was-erased, at-update, at-update_other, length-erase}
use Rattle.mesh_model.proofs.Tables.{length-update, length-changed}
use Rattle.mesh_model.proofs.Edges.{same_vert_name, joins-cases, joins-turned, joins-symm, has_end-joins}
use Rattle.mesh_model.proofs.EdgesAt.{AreTwo, AreTwo-from_length}
use Rattle.mesh_model.proofs.Makings.{JoinsNone}
use Rattle.mesh_model.proofs.Distinct.{distinct-uncons}
use Rattle.mesh_model.proofs.Paths.{leads_to, is_path, path-uncons, path-same, IsCircle, IsCircle-from_polygon}
use Rattle.mesh_model.proofs.Paths.{IsCircle-turned, IsPolygon-from_circle}
use Rattle.mesh_model.proofs.Circles.{stay_past, at-among, joins-ahead, joins-back, leads-from, IsCircle-joined}
use Rattle.mesh_model.proofs.Walks.{walk, next_of, next-append, next-fails, walk-append, walk-clear, flat_map-with_next}
use Rattle.mesh_model.proofs.Walks.{All-left, All-right, found}
use Rattle.mesh_model.proofs.Previous.{last_of, front_of, front-last}
use Rattle.mesh_model.proofs.Looking.{at-edge_rec, was-changed, corner_sum-changed_le}
use Rattle.mesh_model.proofs.Refusing.{first_of-none, unless_at-none, there-none, refused_at-none, mapped-none}
use Rattle.mesh_model.proofs.Refusing.{least_face-none}
use Rattle.mesh_model.proofs.Right.{AreRight, IsEdgeRight, IsFaceRight, HasSameLayers, HasVals, IsVertRight-same}
use Rattle.mesh_model.proofs.Right.{IsEdgeRight-same, HasVals-same, face-with, AreRight-from_valid, IsValid-from_right}

-- the end that an edge at a vertex leads to, and the end of the other edge there
abbrev pub far_of : Complex → EdgeName → VertName → VertName
far_of c e v = far_end v (edge_rec c e)

abbrev pub other_far_of : Complex → EdgeName → VertName → VertName
other_far_of c e v = far_end v (edge_rec c (other_edge c v e))

-- what is known where two edges are joined
pub record IsJoin (c : Complex) (e : EdgeName) (v : VertName) : Type 0 where
  pub right : AreRight c
  pub there : has c (Edge e) ≡ true
  pub at_end : has_end v (edge_rec c e) ≡ true
  pub two : AreTwo c v e
  pub apart : (far_of c e v).0 ≢ (other_far_of c e v).0
  pub room : (n : ℕ) (f : FaceRec) → at c.faces n ≡ Some f → is_triangle_at v f ≡ false

-- ---- THE FAR END

pub record IsFarEnd (v : VertName) (x : EdgeRec) : Type 0 where
  pub joined : joins v (far_end v x) x ≡ true
  pub off : (far_end v x).0 ≢ v.0
  pub an_end : (far_end v x ≡ x.a) ⊎ (far_end v x ≡ x.b)

pub IsFarEnd-from_end : (v : VertName) (x : EdgeRec) → x.a.0 ≢ x.b.0 → has_end v x ≡ true → IsFarEnd v x
IsFarEnd-from_end v x differ h = elim (cases_Bool (eqb x.a.0 v.0)) [
  | inl is_a ↦
      let far : far_end v x ≡ x.b = cond-true (eqb x.a.0 v.0) x.b x.a is_a in
      let a_is = eqb-true x.a.0 v.0 is_a in
      record {
        joined = joins-ahead v (far_end v x) x (same_vert_name x.a v a_is) (sym far);
        off =
            λ same. differ (a_is ∙ sym same ∙ ap (λ (u : VertName). u.0) far);
        an_end = inr far;
      }
  | inr not_a ↦
      let far : far_end v x ≡ x.a = cond-false (eqb x.a.0 v.0) x.b x.a not_a in
      let b_is : x.b.0 ≡ v.0 =
      elim (or_cases (eqb x.a.0 v.0) (eqb x.b.0 v.0) h)
      [ inl is_a ↦ absurd (true≢false (sym is_a ∙ not_a)) | inr is_b ↦ eqb-true x.b.0 v.0 is_b ] in
      record {
        joined = joins-back v (far_end v x) x (sym far) (same_vert_name x.b v b_is);
        off =
            λ same. differ (sym (ap (λ (u : VertName). u.0) far) ∙ same ∙ sym b_is);
        an_end = inl far;
      }
]

-- an edge from a vertex leads to its far end
pub far-is : (v w : VertName) (x : EdgeRec) → x.a.0 ≢ x.b.0 → joins v w x ≡ true → far_end v x ≡ w
far-is v w x differ h = elim (joins-cases v w x h) [
  | inl ahead ↦ cond-true (eqb x.a.0 v.0) x.b x.a (eq-eqb x.a.0 v.0 (ap (λ (u : VertName). u.0) ahead.0)) ∙ ahead.1
  | inr back ↦ cond-false (eqb x.a.0 v.0) x.b x.a
      (ne_eqb x.a.0 v.0 (λ same. differ (same ∙ ap (λ (u : VertName). u.0) (sym back.1)))) ∙ back.0
]

-- with another vertex in this one's place, an edge joins that one and its far end
pub joins-renamed : (v w : VertName) (x : EdgeRec) → x.a.0 ≢ x.b.0 → has_end v x ≡ true
    → joins w (far_end v x) (with_ends (renamed_vert v w) x) ≡ true
joins-renamed v w x differ h = elim (cases_Bool (eqb x.a.0 v.0)) [
  | inl is_a ↦
      let other : eqb x.b.0 v.0 ≡ false = ne_eqb x.b.0 v.0 (λ same. differ (eqb-true x.a.0 v.0 is_a ∙ sym same)) in
      joins-ahead w (far_end v x) (with_ends (renamed_vert v w) x) (cond-true (eqb x.a.0 v.0) w x.a is_a)
      (cond-false (eqb x.b.0 v.0) w x.b other ∙ sym (cond-true (eqb x.a.0 v.0) x.b x.a is_a))
  | inr not_a ↦
      let is_b : eqb x.b.0 v.0 ≡ true =
      elim (or_cases (eqb x.a.0 v.0) (eqb x.b.0 v.0) h)
      [ inl is_a ↦ absurd (true≢false (sym is_a ∙ not_a)) | inr yes_b ↦ yes_b ] in
      joins-back w (far_end v x) (with_ends (renamed_vert v w) x) (cond-false (eqb x.a.0 v.0) w x.a not_a
      ∙ sym (cond-false (eqb x.a.0 v.0) x.b x.a not_a)) (cond-true (eqb x.b.0 v.0) w x.b is_b)
]

-- ---- EDGES

abbrev joined_edges : Complex → EdgeName → VertName → List (Option EdgeRec)
joined_edges c e v = update (erase c.edges e.0) (other_edge c v e).0 (with_ends (renamed_vert v (far_of c e v)))

-- the other edge after
abbrev pub joined_edge : Complex → EdgeName → VertName → EdgeRec
joined_edge c e v = with_ends (renamed_vert v (far_of c e v)) (edge_rec c (other_edge c v e))

other_stands : (c : Complex) (e : EdgeName) (v : VertName) → IsJoin c e v
    → at c.edges (other_edge c v e).0 ≡ Some (edge_rec c (other_edge c v e))
other_stands c e v s =
    at-edge_rec c (other_edge c v e) (there_passes (has_end v) (at c.edges (other_edge c v e).0) s.two.other)

other_end : (c : Complex) (e : EdgeName) (v : VertName) → IsJoin c e v
    → has_end v (edge_rec c (other_edge c v e)) ≡ true
other_end c e v s = sym (ap (passes (has_end v)) (other_stands c e v s)) ∙ s.two.other

-- an edge that isn't at the vertex stays
off_stays : (c : Complex) (e : EdgeName) (v : VertName) → IsJoin c e v → (n : ℕ) (x : EdgeRec) → at c.edges n ≡ Some x
    → has_end v x ≡ false → at (joined_edges c e v) n ≡ Some x
off_stays c e v s n x is off =
    let at_n : passes (has_end v) (at c.edges n) ≡ false = ap (passes (has_end v)) is ∙ off in
    let not_e : e.0 ≢ n = λ same. true≢false (sym (ap (passes (has_end v)) (at-edge_rec c e s.there) ∙ s.at_end)
    ∙ ap (λ (k : ℕ). passes (has_end v) (at c.edges k)) same ∙ at_n) in
    let not_o : (other_edge c v e).0 ≢ n =
    λ same. true≢false (sym s.two.other ∙ ap (λ (k : ℕ). passes (has_end v) (at c.edges k)) same ∙ at_n) in
    at-update_other (erase c.edges e.0) (other_edge c v e).0 n (with_ends (renamed_vert v (far_of c e v))) not_o
    ∙ at-erase_other c.edges e.0 n not_e ∙ is

at_joined : (c : Complex) (e : EdgeName) (v : VertName) → IsJoin c e v
    → at (joined_edges c e v) (other_edge c v e).0 ≡ Some (joined_edge c e v)
at_joined c e v s =
    let o : EdgeName = other_edge c v e in
    let change : EdgeRec → EdgeRec = with_ends (renamed_vert v (far_of c e v)) in
    at-update (erase c.edges e.0) (other_edge c v e).0 (other_edge c v e).0 (with_ends (renamed_vert v (far_of c e v)))
    ∙ cond-true (eqb (other_edge c v e).0 (other_edge c v e).0) _ _
    (eq-eqb (other_edge c v e).0 (other_edge c v e).0 refl)
    ∙ ap (option_map (with_ends (renamed_vert v (far_of c e v))))
    (at-erase_other c.edges e.0 (other_edge c v e).0 (λ same. s.two.differ (sym same)) ∙ other_stands c e v s)

ends_differ : (c : Complex) (e : EdgeName) → AreRight c → has c (Edge e) ≡ true
    → (edge_rec c e).a.0 ≢ (edge_rec c e).b.0
ends_differ c e right there = (right.edges e.0 (edge_rec c e) (at-edge_rec c e there)).linked.differ

other_differ : (c : Complex) (e : EdgeName) (v : VertName) → IsJoin c e v
    → (edge_rec c (other_edge c v e)).a.0 ≢ (edge_rec c (other_edge c v e)).b.0
other_differ c e v s =
    (s.right.edges (other_edge c v e).0 (edge_rec c (other_edge c v e)) (other_stands c e v s)).linked.differ

joins_far : (c : Complex) (e : EdgeName) (v : VertName) → IsJoin c e v
    → joins (far_of c e v) (other_far_of c e v) (joined_edge c e v) ≡ true
joins_far c e v s =
    joins-renamed v (far_of c e v) (edge_rec c (other_edge c v e)) (other_differ c e v s) (other_end c e v s)

-- ---- A RING

-- where no corner is at the vertex, the edges of a path stay
stay_off : (c : Complex) (e : EdgeName) (v : VertName) → IsJoin c e v → (ks : List CornerRec) (end : VertName)
    → is_path c.edges ks end ≡ true → list_any (is_at v) ks ≡ false → end.0 ≢ v.0
    → All (λ (l : CornerRec). at (joined_edges c e v) l.edge.0 ≡ at c.edges l.edge.0) ks
stay_off c e v s ks end h none off = stay_past c.edges (joined_edges c e v) v (off_stays c e v s) ks end h none off

-- the corner before the vertex leads past it
joined_circle : (c : Complex) (e : EdgeName) (v : VertName) → IsJoin c e v → (p k : CornerRec) (rest : List CornerRec)
    → 0 < length rest → k.vert ≡ v → IsCircle c.edges (p ∷ k ∷ rest)
    → IsCircle (joined_edges c e v) (along (other_edge c v e) p ∷ rest)
joined_circle c e v s p k [] some is_v h = absurd (omega arith)
joined_circle c e v s p k (l ∷ ls) some is_v h =
    let o : EdgeName = other_edge c v e in
    let one = path-uncons c.edges p (k ∷ l ∷ ls) p.vert h.closed in
    let two = path-uncons c.edges k (l ∷ ls) p.vert one.1 in
    let apart = distinct-uncons p.vert (verts_of (k ∷ l ∷ ls)) h.distinct in
    let later = distinct-uncons k.vert (verts_of (l ∷ ls)) apart.1 in
    let p_out = or_parts (eqb k.vert.0 p.vert.0) (is_among (verts_of (l ∷ ls)) p.vert) apart.0 in
    let p_off : p.vert.0 ≢ v.0 = λ same. eqb-false k.vert.0 p.vert.0 p_out.0 (ap (λ (u : VertName). u.0) is_v
    ∙ sym same) in
    let l_other : l.vert.0 ≢ p.vert.0 =
    eqb-false l.vert.0 p.vert.0 (or_parts (eqb l.vert.0 p.vert.0) (is_among (verts_of ls) p.vert) p_out.1).0 in
    let none : list_any (is_at v) (l ∷ ls) ≡ false = at-among v (l ∷ ls) ∙ ap (is_among (verts_of (l ∷ ls))) (sym is_v)
    ∙ later.0 in
    let to_v : leads_to c.edges p v ≡ true = ap (leads_to c.edges p) (sym is_v) ∙ one.0 in
    let from_v : passes (joins v l.vert) (at c.edges k.edge.0) ≡ true =
    ap (λ (u : VertName). passes (joins u l.vert) (at c.edges k.edge.0)) (sym is_v) ∙ two.0 in
    let p_only = s.two.only p.edge.0 (has-second c.edges p.edge.0 p.vert v to_v) in
    let k_only = s.two.only k.edge.0 (has-first c.edges k.edge.0 v l.vert from_v) in
    let known_e = at-edge_rec c e s.there in
    let known_o = other_stands c e v s in
    let diff_e = ends_differ c e s.right s.there in
    let diff_o = other_differ c e v s in
    let far = joins_far c e v s in
    let past : joins p.vert l.vert (joined_edge c e v) ≡ true = elim p_only [
      | inl p_e ↦ elim k_only [
        | inl k_e ↦ absurd (l_other
            (ap (λ (u : VertName). u.0) (sym (far_at c v k.edge.0 e l.vert k_e known_e diff_e from_v)
            ∙ far_at c v p.edge.0 e p.vert p_e known_e diff_e (turn c.edges p.edge.0 p.vert v to_v))))
        | inr k_o ↦
            let a = far_at c v p.edge.0 e p.vert p_e known_e diff_e (turn c.edges p.edge.0 p.vert v to_v) in
            let b = far_at c v k.edge.0 (other_edge c v e) l.vert k_o known_o diff_o from_v in
            ap (λ (u : VertName). joins u l.vert (joined_edge c e v)) (sym a)
            ∙ ap (λ (u : VertName). joins (far_of c e v) u (joined_edge c e v)) (sym b) ∙ far
      ]
      | inr p_o ↦ elim k_only [
        | inl k_e ↦
            let a = far_at c v p.edge.0 (other_edge c v e) p.vert p_o known_o diff_o
            (turn c.edges p.edge.0 p.vert v to_v) in
            let b = far_at c v k.edge.0 e l.vert k_e known_e diff_e from_v in
            joins-turned p.vert l.vert (joined_edge c e v)
            ∙ ap (λ (u : VertName). joins l.vert u (joined_edge c e v)) (sym a)
            ∙ ap (λ (u : VertName). joins u (other_far_of c e v) (joined_edge c e v)) (sym b) ∙ far
        | inr k_o ↦ absurd (l_other
            (ap (λ (u : VertName). u.0) (sym (far_at c v k.edge.0 (other_edge c v e) l.vert k_o known_o diff_o from_v)
            ∙ far_at c v p.edge.0 (other_edge c v e) p.vert p_o known_o diff_o (turn c.edges p.edge.0 p.vert v to_v))))
      ]
    ] in
    IsCircle-joined c.edges (joined_edges c e v) p k (along (other_edge c v e) p) (l ∷ ls) h refl
    (leads-from (joined_edges c e v) (along (other_edge c v e) p) l.vert (joined_edge c e v) (at_joined c e v s) past)
    (stay_off c e v s (l ∷ ls) p.vert two.1 none p_off)
  where
    turn : (edges : List (Option EdgeRec)) (n : ℕ) (x y : VertName) → passes (joins x y) (at edges n) ≡ true
        → passes (joins y x) (at edges n) ≡ true
    turn edges n x y is = of_some (at edges n) is
      where
        of_some : (o : Option EdgeRec) → passes (joins x y) o ≡ true → passes (joins y x) o ≡ true
        of_some None given = given
        of_some (Some r) given = sym (joins-turned x y r) ∙ given

    has-first : (edges : List (Option EdgeRec)) (n : ℕ) (x y : VertName) → passes (joins x y) (at edges n) ≡ true
        → passes (has_end x) (at edges n) ≡ true
    has-first edges n x y is = of_some (at edges n) is
      where
        of_some : (o : Option EdgeRec) → passes (joins x y) o ≡ true → passes (has_end x) o ≡ true
        of_some None given = absurd (cc)
        of_some (Some r) given = has_end-joins x y r given

    has-second : (edges : List (Option EdgeRec)) (n : ℕ) (x y : VertName) → passes (joins x y) (at edges n) ≡ true
        → passes (has_end y) (at edges n) ≡ true
    has-second edges n x y is = has-first edges n y x (turn edges n x y is)

    far_at : (d : Complex) (u : VertName) (n : ℕ) (g : EdgeName) (w : VertName) → n ≡ g.0
        → at d.edges g.0 ≡ Some (edge_rec d g) → (edge_rec d g).a.0 ≢ (edge_rec d g).b.0
        → passes (joins u w) (at d.edges n) ≡ true → far_end u (edge_rec d g) ≡ w
    far_at d u n g w same known diff is =
        far-is u w (edge_rec d g) diff (sym (ap (passes (joins u w)) (ap (at d.edges) same ∙ known)) ∙ is)

abbrev after : Complex → EdgeName → VertName → Complex
after c e v = join_edge c e v

same_layers : (c : Complex) (e : EdgeName) (v : VertName) → HasSameLayers (after c e v) c
same_layers c e v = record { layers = refl; materials = refl }

-- the corners after are a polygon, with values that are right
record IsPolygonAfter (c : Complex) (e : EdgeName) (v : VertName) (ks : List CornerRec) : Type 0 where
  polygon : IsPolygon (after c e v).edges (flat_map (joined_side v (other_edge c v e)) (with_next ks))
  vals : All (HasVals c) (flat_map (joined_side v (other_edge c v e)) (with_next ks))

side_off : (v : VertName) (o : EdgeName) (x y : CornerRec) → is_at v x ≡ false → is_at v y ≡ false
    → joined_side v o (x, y) ≡ x ∷ []
side_off v o x y off_x off_y = cond-false (is_at v x) _ _ off_x ∙ cond-false (is_at v y) _ _ off_y

side_before : (v : VertName) (o : EdgeName) (x y : CornerRec) → is_at v x ≡ false → is_at v y ≡ true
    → joined_side v o (x, y) ≡ along o x ∷ []
side_before v o x y off_x at_y = cond-false (is_at v x) _ _ off_x ∙ cond-true (is_at v y) _ _ at_y

side_at : (v : VertName) (o : EdgeName) (x y : CornerRec) → is_at v x ≡ true → joined_side v o (x, y) ≡ []
side_at v o x y at_x = cond-true (is_at v x) _ _ at_x

-- a polygon that isn't at the vertex stays as it is
polygon_off : (c : Complex) (e : EdgeName) (v : VertName) → IsJoin c e v → (ks : List CornerRec) → IsPolygon c.edges ks
    → All (HasVals c) ks → list_any (is_at v) ks ≡ false → IsPolygonAfter c e v ks
polygon_off c e v s [] polygon vals none = absurd (let least = polygon.least in omega arith)
polygon_off c e v s (k ∷ ks) polygon vals none =
    let d = after c e v in
    let o : EdgeName = other_edge c v e in
    let clear = or_parts (is_at v k) (list_any (is_at v) ks) none in
    let image : flat_map (joined_side v (other_edge c v e)) (with_next (k ∷ ks)) ≡ k ∷ ks =
    flat_map-with_next (joined_side v (other_edge c v e)) (k ∷ ks) k
    ∙ walk-clear (is_at v) (joined_side v (other_edge c v e)) (side_off v (other_edge c v e)) (k ∷ ks) k none clear.0 in
    let circle = IsCircle-from_polygon c (k ∷ ks) polygon in
    let stay = stay_off c e v s (k ∷ ks) k.vert circle.closed none (eqb-false k.vert.0 v.0 clear.0) in
    let same : IsPolygon d.edges (k ∷ ks) =
    IsPolygon-from_circle d (k ∷ ks) polygon.least polygon.most (record {
      distinct = circle.distinct;
      closed =
          path-same c.edges (joined_edges c e v) (k ∷ ks) k.vert stay circle.closed;
    }) in
    record { polygon = subst (IsPolygon d.edges) (sym image) same; vals = subst (All (HasVals c)) (sym image) vals }

-- the corner at the vertex goes, and the one before it runs along the other edge: p stands before it in the list
polygon_inside : (c : Complex) (e : EdgeName) (v : VertName) → IsJoin c e v
    → (front : List CornerRec) (p k : CornerRec) (later : List CornerRec) → is_at v k ≡ true
    → list_any (is_at v) (front ++ p ∷ []) ≡ false → list_any (is_at v) later ≡ false
    → 3 < length (front ++ (p ∷ k ∷ later)) → IsPolygon c.edges (front ++ (p ∷ k ∷ later))
    → All (HasVals c) (front ++ (p ∷ k ∷ later)) → IsPolygonAfter c e v (front ++ (p ∷ k ∷ later))
polygon_inside c e v s front p k later at_k none_before none_later long polygon vals =
    let d = after c e v in
    let o : EdgeName = other_edge c v e in
    let g : CornerRec × CornerRec → List CornerRec = joined_side v (other_edge c v e) in
    let clear = or_parts (list_any (is_at v) front) (is_at v p || false) (sym (list_any-append (is_at v) front (p ∷ []))
    ∙ none_before) in
    let off_p = (or_parts (is_at v p) false clear.1).0 in
    let count = length-append front (p ∷ k ∷ later) in
    let circle = IsCircle-turned c.edges front (p ∷ k ∷ later)
    (IsCircle-from_polygon c (front ++ (p ∷ k ∷ later)) polygon) in
    let some : 0 < length (later ++ front) = omega (arith, count, length-append later front) in
    let is_v : k.vert ≡ v = same_vert_name k.vert v (eqb-true k.vert.0 v.0 at_k) in
    let shorter = joined_circle c e v s p k (later ++ front) some is_v circle in
    let back : IsCircle (joined_edges c e v) (front ++ (along (other_edge c v e) p ∷ later)) =
    IsCircle-turned (joined_edges c e v) (along (other_edge c v e) p ∷ later) front shorter in
    let z : CornerRec = next_of (front ++ (p ∷ k ∷ later)) p in
    let off_z : is_at v (next_of (front ++ (p ∷ k ∷ later)) p) ≡ false =
    ap (is_at v) (next-append front (p ∷ k ∷ later) p) ∙ next-fails (is_at v) front p clear.0 off_p in
    let image : flat_map (joined_side v (other_edge c v e)) (with_next (front ++ (p ∷ k ∷ later)))
    ≡ front ++ (along (other_edge c v e) p ∷ later) =
    flat_map-with_next (joined_side v (other_edge c v e)) (front ++ (p ∷ k ∷ later)) p
    ∙ walk-append (joined_side v (other_edge c v e)) front (p ∷ k ∷ later) (next_of (front ++ (p ∷ k ∷ later)) p)
    ∙ ap (λ (xs : List CornerRec). xs ++ (g (p, k) ++ (g (k, next_of later z) ++ walk g later z)))
    (walk-clear (is_at v) (joined_side v (other_edge c v e)) (side_off v (other_edge c v e)) front p clear.0 off_p)
    ∙ ap (λ (xs : List CornerRec). front ++ (xs ++ (g (k, next_of later z) ++ walk g later z)))
    (side_before v (other_edge c v e) p k off_p at_k)
    ∙ ap (λ (xs : List CornerRec). front ++ (along (other_edge c v e) p ∷ (xs ++ walk g later z)))
    (side_at v (other_edge c v e) k (next_of later z) at_k)
    ∙ ap (λ (xs : List CornerRec). front ++ (along (other_edge c v e) p ∷ xs))
    (walk-clear (is_at v) (joined_side v (other_edge c v e)) (side_off v (other_edge c v e))
    later z none_later off_z) in
    let count_after = length-append front (along (other_edge c v e) p ∷ later) in
    let most = polygon.most in
    let vals_front = All-left (HasVals c) front (p ∷ k ∷ later) vals in
    let vals_from = All-right (HasVals c) front (p ∷ k ∷ later) vals in
    let vals_later = All-tail (HasVals c) k later (All-tail (HasVals c) p (k ∷ later) vals_from) in
    record {
      polygon = subst (IsPolygon d.edges) (sym image)
          (IsPolygon-from_circle d (front ++ (along (other_edge c v e) p ∷ later)) (omega (arith, count, count_after))
          (omega (arith, count, count_after)) back);
      vals = subst (All (HasVals c)) (sym image)
          (All-append (HasVals c) front (along (other_edge c v e) p ∷ later) vals_front
          (All-cons (HasVals c) (along (other_edge c v e) p) later (All-head (HasVals c) p (k ∷ later) vals_from)
          vals_later));
    }

-- the same where the corner at the vertex is the first of the list, and p the last
polygon_first : (c : Complex) (e : EdgeName) (v : VertName) → IsJoin c e v → (front : List CornerRec) (p k : CornerRec)
    → is_at v k ≡ true → list_any (is_at v) (front ++ p ∷ []) ≡ false
    → 3 < length (k ∷ (front ++ p ∷ [])) → IsPolygon c.edges (k ∷ (front ++ p ∷ []))
    → All (HasVals c) (k ∷ (front ++ p ∷ [])) → IsPolygonAfter c e v (k ∷ (front ++ p ∷ []))
polygon_first c e v s front p k at_k none long polygon vals =
    let d = after c e v in
    let g : CornerRec × CornerRec → List CornerRec = joined_side v (other_edge c v e) in
    let clear = or_parts (list_any (is_at v) front) (is_at v p || false) (sym (list_any-append (is_at v) front (p ∷ []))
    ∙ none) in
    let off_p = (or_parts (is_at v p) false clear.1).0 in
    let count = length-append front (p ∷ []) in
    let circle = IsCircle-turned c.edges (k ∷ front) (p ∷ []) (IsCircle-from_polygon c (k ∷ (front ++ p ∷ [])) polygon)
    in
    let is_v : k.vert ≡ v = same_vert_name k.vert v (eqb-true k.vert.0 v.0 at_k) in
    let shorter = joined_circle c e v s p k front (omega (arith, count)) is_v circle in
    let back : IsCircle (joined_edges c e v) (front ++ (along (other_edge c v e) p ∷ [])) =
    IsCircle-turned (joined_edges c e v) (along (other_edge c v e) p ∷ []) front shorter in
    let image : flat_map (joined_side v (other_edge c v e)) (with_next (k ∷ (front ++ p ∷ [])))
    ≡ front ++ (along (other_edge c v e) p ∷ []) =
    flat_map-with_next (joined_side v (other_edge c v e)) (k ∷ (front ++ p ∷ [])) k
    ∙ ap (λ (xs : List CornerRec). xs ++ walk g (front ++ p ∷ []) k)
    (side_at v (other_edge c v e) k (next_of (front ++ p ∷ []) k) at_k)
    ∙ walk-append (joined_side v (other_edge c v e)) front (p ∷ []) k
    ∙ ap (λ (xs : List CornerRec). xs ++ (g (p, k) ++ []))
    (walk-clear (is_at v) (joined_side v (other_edge c v e)) (side_off v (other_edge c v e)) front p clear.0 off_p)
    ∙ ap (λ (xs : List CornerRec). front ++ (xs ++ [])) (side_before v (other_edge c v e) p k off_p at_k) in
    let count_after = length-append front (along (other_edge c v e) p ∷ []) in
    let most = polygon.most in
    let vals_rest = All-tail (HasVals c) k (front ++ p ∷ []) vals in
    record {
      polygon = subst (IsPolygon d.edges) (sym image)
          (IsPolygon-from_circle d (front ++ (along (other_edge c v e) p ∷ [])) (omega (arith, count, count_after))
          (omega (arith, count, count_after)) back);
      vals = subst (All (HasVals c)) (sym image)
          (All-append (HasVals c) front (along (other_edge c v e) p ∷ [])
          (All-left (HasVals c) front (p ∷ []) vals_rest)
          (All-cons (HasVals c) (along (other_edge c v e) p) []
          (All-head (HasVals c) p [] (All-right (HasVals c) front (p ∷ []) vals_rest)) (All-nil (HasVals c))));
    }

polygon_at : (c : Complex) (e : EdgeName) (v : VertName) → IsJoin c e v
    → (before : List CornerRec) (k : CornerRec) (later : List CornerRec) → is_at v k ≡ true
    → list_any (is_at v) before ≡ false
    → 3 < length (before ++ k ∷ later) → IsPolygon c.edges (before ++ k ∷ later) → All (HasVals c) (before ++ k ∷ later)
    → IsPolygonAfter c e v (before ++ k ∷ later)
polygon_at c e v s before k later at_k none_before long polygon vals =
    let circle = IsCircle-turned c.edges before (k ∷ later) (IsCircle-from_polygon c (before ++ k ∷ later) polygon) in
    let apart = distinct-uncons k.vert (verts_of (later ++ before)) circle.distinct in
    let is_v : k.vert ≡ v = same_vert_name k.vert v (eqb-true k.vert.0 v.0 at_k) in
    let none : list_any (is_at v) (later ++ before) ≡ false = at-among v (later ++ before)
    ∙ ap (is_among (verts_of (later ++ before))) (sym is_v) ∙ apart.0 in
    let none_later = (or_parts (list_any (is_at v) later) (list_any (is_at v) before)
    (sym (list_any-append (is_at v) later before) ∙ none)).0 in
    by_front before later none_before none_later long polygon vals
  where
    by_front : (bs ls : List CornerRec) → list_any (is_at v) bs ≡ false → list_any (is_at v) ls ≡ false
        → 3 < length (bs ++ k ∷ ls) → IsPolygon c.edges (bs ++ k ∷ ls) → All (HasVals c) (bs ++ k ∷ ls)
        → IsPolygonAfter c e v (bs ++ k ∷ ls)
    by_front [] [] none_b none_l many r vs = absurd (omega arith)
    by_front [] (l ∷ ls) none_b none_l many r vs =
        let split = front-last l ls in
        subst (λ (xs : List CornerRec). IsPolygonAfter c e v (k ∷ xs)) (sym split)
        (polygon_first c e v s (front_of l ls) (last_of l ls) k at_k (sym (ap (list_any (is_at v)) split)
        ∙ none_l) (subst (λ (xs : List CornerRec). 3 < length (k ∷ xs)) split many)
        (subst (λ (xs : List CornerRec). IsPolygon c.edges (k ∷ xs)) split r)
        (subst (λ (xs : List CornerRec). All (HasVals c) (k ∷ xs)) split vs))
    by_front (b ∷ bs) ls none_b none_l many r vs =
        let split : (b ∷ bs) ++ k ∷ ls ≡ front_of b bs ++ (last_of b bs ∷ k ∷ ls) =
        ap (λ (xs : List CornerRec). xs ++ k ∷ ls) (front-last b bs)
        ∙ append_assoc (front_of b bs) (last_of b bs ∷ []) (k ∷ ls) in
        subst (IsPolygonAfter c e v) (sym split)
        (polygon_inside c e v s (front_of b bs) (last_of b bs) k ls at_k
        (sym (ap (list_any (is_at v)) (front-last b bs))
        ∙ none_b) none_l (subst (λ (xs : List CornerRec). 3 < length xs) split many)
        (subst (IsPolygon c.edges) split r) (subst (All (HasVals c)) split vs))

IsFaceRight-join_edge : (c : Complex) (e : EdgeName) (v : VertName) → IsJoin c e v → (n : ℕ) (f : FaceRec)
    → at c.faces n ≡ Some f → IsFaceRight (join_edge c e v) (with_sides (joined_side v (other_edge c v e)) f)
IsFaceRight-join_edge c e v s n f is =
    let d = after c e v in
    let right = s.right.faces n f is in
    let turn : IsPolygonAfter c e v f.corners = elim (cases_Bool (uses_vert v f)) [
      | inl used ↦
          let fd = found (is_at v) f.corners used in
          let room : length f.corners ≢ 3 =
          eqb-false (length f.corners) 3 (sym (ap (λ (b : Bool). b && eqb (length f.corners) 3) used)
          ∙ s.room n f is) in
          let least = right.polygon.least in
          let long : 3 < length f.corners = omega (arith, room) in
          subst (IsPolygonAfter c e v) (sym fd.parts)
          (polygon_at c e v s fd.before fd.here fd.after fd.passes fd.none_before
          (subst (λ (xs : List CornerRec). 3 < length xs) fd.parts long)
          (subst (IsPolygon c.edges) fd.parts right.polygon) (subst (All (HasVals c)) fd.parts right.corners))
      | inr free ↦ polygon_off c e v s f.corners right.polygon right.corners free
    ] in
    face-with d c (same_layers c e v) f (flat_map (joined_side v (other_edge c v e)) (with_next f.corners)) turn.polygon
    (HasVals-same d c (same_layers c e v) (flat_map (joined_side v (other_edge c v e)) (with_next f.corners)) turn.vals)
    right

-- ---- THE COMPLEX

-- a vertex other than the one that goes is still there
still_there : (c : Complex) (v w : VertName) → w.0 ≢ v.0 → IsThere c.verts w.0 → IsThere (erase c.verts v.0) w.0
still_there c v w other there = ap is_some (at-erase_other c.verts v.0 w.0 (λ same. other (sym same))) ∙ there

-- a far end is there
far_there : (c : Complex) (v : VertName) (x : EdgeRec) → IsEdgeLinked c x → IsFarEnd v x
    → IsThere (erase c.verts v.0) (far_end v x).0
far_there c v x linked far = still_there c v (far_end v x) far.off (elim far.an_end [
  | inl is_a ↦ ap (λ (u : VertName). is_some (at c.verts u.0)) is_a ∙ linked.a
  | inr is_b ↦ ap (λ (u : VertName). is_some (at c.verts u.0)) is_b ∙ linked.b
])

-- what stands in the table of edges after: an edge that isn't at the vertex, or the joined one
data Standing (c : Complex) (e : EdgeName) (v : VertName) (n : ℕ) (x : EdgeRec) : Type 0 where
  as_before : at c.edges n ≡ Some x → has_end v x ≡ false → Standing c e v n x
  is_joined : n ≡ (other_edge c v e).0 → x ≡ joined_edge c e v → Standing c e v n x

standing : (c : Complex) (e : EdgeName) (v : VertName) → IsJoin c e v → (n : ℕ) (x : EdgeRec)
    → at (joined_edges c e v) n ≡ Some x → Standing c e v n x
standing c e v s n x is = elim (cases_eq n (other_edge c v e).0) [
  | inl same ↦ is_joined same (let known = at_joined c e v s in let here = ap (at (joined_edges c e v)) same in cc)
  | inr other ↦
      let kept = sym (at-update_other (erase c.edges e.0) (other_edge c v e).0 n
      (with_ends (renamed_vert v (far_of c e v))) (λ same. other (sym same))) ∙ is in
      let was = was-erased c.edges e.0 n x kept in
      as_before was.0 (false_from_ne_true (has_end v x)
      (λ has_v. elim (s.two.only n (ap (passes (has_end v)) was.0 ∙ has_v))
      [ inl is_e ↦ was.1 (sym is_e) | inr is_o ↦ other is_o ]))
]

IsEdgeRight-join_edge : (c : Complex) (e : EdgeName) (v : VertName) → IsJoin c e v → (n : ℕ) (x : EdgeRec)
    → Standing c e v n x → IsEdgeRight (join_edge c e v) x
IsEdgeRight-join_edge c e v s n x (as_before is off) =
    let right = s.right.edges n x is in
    let out = or_parts (eqb x.a.0 v.0) (eqb x.b.0 v.0) off in
    IsEdgeRight-same (after c e v) c (same_layers c e v) x x refl
    (still_there c v x.a (eqb-false x.a.0 v.0 out.0) right.linked.a)
    (still_there c v x.b (eqb-false x.b.0 v.0 out.1) right.linked.b) right.linked.differ right
IsEdgeRight-join_edge c e v s n x (is_joined same is) =
    let d = after c e v in
    let o : EdgeRec = edge_rec c (other_edge c v e) in
    let right_e = s.right.edges e.0 (edge_rec c e) (at-edge_rec c e s.there) in
    let right_o = s.right.edges (other_edge c v e).0 (edge_rec c (other_edge c v e)) (other_stands c e v s) in
    let far = far_there c v (edge_rec c e) right_e.linked
    (IsFarEnd-from_end v (edge_rec c e) right_e.linked.differ s.at_end) in
    let other_far = far_there c v (edge_rec c (other_edge c v e)) right_o.linked
    (IsFarEnd-from_end v (edge_rec c (other_edge c v e)) right_o.linked.differ (other_end c e v s)) in
    let there : VertName → Type 0 = λ u. IsThere (erase c.verts v.0) u.0 in
    subst (IsEdgeRight d) (sym is)
    (elim (joins-cases (far_of c e v) (other_far_of c e v) (joined_edge c e v) (joins_far c e v s)) [
      | inl ahead ↦ IsEdgeRight-same d c (same_layers c e v) (edge_rec c (other_edge c v e)) (joined_edge c e v) refl
          (subst (λ (u : VertName). IsThere (erase c.verts v.0) u.0) (sym ahead.0) far)
          (subst (λ (u : VertName). IsThere (erase c.verts v.0) u.0) (sym ahead.1) other_far)
          (λ same_end. s.apart (ap (λ (u : VertName). u.0) (sym ahead.0) ∙ same_end
          ∙ ap (λ (u : VertName). u.0) ahead.1)) right_o
      | inr back ↦ IsEdgeRight-same d c (same_layers c e v) (edge_rec c (other_edge c v e)) (joined_edge c e v) refl
          (subst (λ (u : VertName). IsThere (erase c.verts v.0) u.0) (sym back.0) other_far)
          (subst (λ (u : VertName). IsThere (erase c.verts v.0) u.0) (sym back.1) far)
          (λ same_end. s.apart (ap (λ (u : VertName). u.0) (sym back.1) ∙ sym same_end
          ∙ ap (λ (u : VertName). u.0) back.0)) right_o
    ])

pub AreRight-join_edge : (c : Complex) (e : EdgeName) (v : VertName) → IsJoin c e v → AreRight (join_edge c e v)
AreRight-join_edge c e v s =
    let d = after c e v in
    record {
      layers = s.right.layers;
      verts = λ n x is. IsVertRight-same d c (same_layers c e v) x
          (s.right.verts n x (was-erased c.verts v.0 n x is).0);
      edges = λ n x is. IsEdgeRight-join_edge c e v s n x (standing c e v s n x is);
      faces = λ n x is. let it = was-changed c.faces (with_sides (joined_side v (other_edge c v e))) n x is in
          subst (IsFaceRight d) (sym it.2) (IsFaceRight-join_edge c e v s n it.0 it.1);
    }

-- what the test tells that answers None
pub IsJoin-from_test : (c : Complex) (e : EdgeName) (v : VertName) → join_edge_refusal c e v ≡ None → AreRight c
    → IsJoin c e v
IsJoin-from_test c e v test right =
    let one = first_of-none (unless_there c (Edge e)) _ test in
    let two = first_of-none (unless_there c (Vert v)) _ one.1 in
    let three = first_of-none (unless_at (has_end v (edge_rec c e)) Apart (Edge e)) _ two.1 in
    let four = first_of-none (unless_at (eqb (length (edges_at c v)) 2) Valence (Vert v)) _ three.1 in
    let five = first_of-none
    (unless_at (not (eqb (far_of c e v).0 (other_far_of c e v).0)) Repeated (Vert (far_of c e v))) _ four.1 in
    let six = first_of-none (refused_at TooShort (option_map Face (least_face (is_triangle_at v) c))) _ five.1 in
    let there = there-none c (Edge e) one.0 in
    let at_end = unless_at-none (has_end v (edge_rec c e)) Apart (Edge e) three.0 in
    record {
      right = right;
      there = there;
      at_end = at_end;
      two = AreTwo-from_length c v e (ap (passes (has_end v)) (at-edge_rec c e there)
          ∙ at_end) (eqb-true (length (edges_at c v)) 2
          (unless_at-none (eqb (length (edges_at c v)) 2) Valence (Vert v) four.0));
      apart = eqb-false (far_of c e v).0 (other_far_of c e v).0
          (not-true (eqb (far_of c e v).0 (other_far_of c e v).0)
          (unless_at-none (not (eqb (far_of c e v).0 (other_far_of c e v).0)) Repeated (Vert (far_of c e v)) five.0));
      room = least_face-none (is_triangle_at v) c
          (mapped-none Face (least_face (is_triangle_at v) c)
          (refused_at-none TooShort (option_map Face (least_face (is_triangle_at v) c)) six.0));
    }

-- no side has more than one corner after
side_short : (v : VertName) (o : EdgeName) (side : CornerRec × CornerRec) → length (joined_side v o side) ≤ 1
side_short v o side = short (is_at v side.0) (is_at v side.1)
  where
    short : (x y : Bool) → length (cond x [] (cond y (along o side.0 ∷ []) (side.0 ∷ []))) ≤ 1
    short true y = omega arith
    short false true = omega arith
    short false false = omega arith

corners_fewer : (v : VertName) (o : EdgeName) (ks : List CornerRec)
    → length (flat_map (joined_side v o) (with_next ks)) ≤ length ks
corners_fewer v o ks = rw (flat_map-with_next (joined_side v o) ks no_corner) (shorter ks (next_of ks no_corner))
  where
    shorter : (ls : List CornerRec) (z : CornerRec) → length (walk (joined_side v o) ls z) ≤ length ls
    shorter [] z = omega arith
    shorter (l ∷ ls) z =
        omega (
          arith,
          length-append (joined_side v o (l, next_of ls z)) (walk (joined_side v o) ls z),
          side_short v o (l, next_of ls z),
          shorter ls z,
        )

pub IsValid-join_edge : (c : Complex) (e : EdgeName) (v : VertName) → join_edge_refusal c e v ≡ None → IsValid c
    → IsValid (join_edge c e v)
IsValid-join_edge c e v test h =
    let s = IsJoin-from_test c e v test (AreRight-from_valid c h) in
    let fewer = corner_sum-changed_le (with_sides (joined_side v (other_edge c v e))) c.faces
    (λ f. corners_fewer v (other_edge c v e) f.corners) in
    let most = h.limits.corners in
    IsValid-from_right (join_edge c e v) (AreRight-join_edge c e v s) (record {
      verts = rw (length-erase c.verts v.0) h.limits.verts;
      edges = rw (
        length-update (erase c.edges e.0) (other_edge c v e).0 (with_ends (renamed_vert v (far_of c e v))),
        length-erase c.edges e.0,
      ) h.limits.edges;
      faces = rw (length-changed (with_sides (joined_side v (other_edge c v e))) c.faces) h.limits.faces;
      corners = omega arith;
    })

-- ---- SIMPLE

-- what has the joined edge's ends joins the far ends
joins_as_far : (c : Complex) (e : EdgeName) (v : VertName) → IsJoin c e v → (x : EdgeRec)
    → joins (joined_edge c e v).a (joined_edge c e v).b x ≡ true → joins (far_of c e v) (other_far_of c e v) x ≡ true
joins_as_far c e v s x h =
    elim (joins-cases (far_of c e v) (other_far_of c e v) (joined_edge c e v) (joins_far c e v s)) [
      | inl ahead ↦ sym (ap (λ (u : VertName). joins u (joined_edge c e v).b x) ahead.0
          ∙ ap (λ (u : VertName). joins (far_of c e v) u x) ahead.1) ∙ h
      | inr back ↦ joins-turned (far_of c e v) (other_far_of c e v) x
          ∙ sym (ap (λ (u : VertName). joins u (joined_edge c e v).b x) back.0
          ∙ ap (λ (u : VertName). joins (other_far_of c e v) u x) back.1) ∙ h
    ]

one_edge : (c : Complex) (e : EdgeName) (v : VertName) → IsJoin c e v
    → JoinsNone c.edges (far_of c e v) (other_far_of c e v) → IsSimple c
    → (m n : ℕ) (x y : EdgeRec) → Standing c e v m x → Standing c e v n y → joins x.a x.b y ≡ true → m ≡ n
one_edge c e v s none h m n x y (as_before is_x off_x) (as_before is_y off_y) joined = h m n x y is_x is_y joined
one_edge c e v s none h m n x y (as_before is_x off_x) (is_joined same is) joined =
    let back : joins (joined_edge c e v).a (joined_edge c e v).b x ≡ true = joins-symm (joined_edge c e v) x
    ∙ sym (ap (joins x.a x.b) is) ∙ joined in
    absurd (true≢false (sym (joins_as_far c e v s x back) ∙ none m x is_x))
one_edge c e v s none h m n x y (is_joined same is) (as_before is_y off_y) joined =
    let ahead : joins (joined_edge c e v).a (joined_edge c e v).b y ≡ true =
    sym (ap (λ (u : EdgeRec). joins u.a u.b y) is) ∙ joined in
    absurd (true≢false (sym (joins_as_far c e v s y ahead) ∙ none n y is_y))
one_edge c e v s none h m n x y (is_joined same_m is_x) (is_joined same_n is_y) joined = same_m ∙ sym same_n

-- no two edges with the same ends, where none joined the far ends
pub IsSimple-join_edge : (c : Complex) (e : EdgeName) (v : VertName) → join_edge_refusal c e v ≡ None
    → JoinsNone c.edges (far_of c e v) (other_far_of c e v) → IsSound c → IsSimple (join_edge c e v)
IsSimple-join_edge c e v test none h m n x y at_m at_n joined =
    let s = IsJoin-from_test c e v test (AreRight-from_valid c h.valid) in
    one_edge c e v s none h.simple m n x y (standing c e v s m x at_m) (standing c e v s n y at_n) joined

pub IsSound-join_edge : (c : Complex) (e : EdgeName) (v : VertName) → join_edge_refusal c e v ≡ None
    → JoinsNone c.edges (far_of c e v) (other_far_of c e v) → IsSound c → IsSound (join_edge c e v)
IsSound-join_edge c e v test none h =
    record { valid = IsValid-join_edge c e v test h.valid; simple = IsSimple-join_edge c e v test none h }

-- ---- COUNTERS

-- the next names stay
pub record HasSameNames (c d : Complex) : Type 0 where
  pub verts : length d.verts ≡ length c.verts
  pub edges : length d.edges ≡ length c.edges
  pub faces : length d.faces ≡ length c.faces

pub counters-join_edge : (c : Complex) (e : EdgeName) (v : VertName) → HasSameNames c (join_edge c e v)
counters-join_edge c e v = record {
  verts = length-erase c.verts v.0;
  edges = length-update (erase c.edges e.0) (other_edge c v e).0 (with_ends (renamed_vert v (far_of c e v)))
      ∙ length-erase c.edges e.0;
  faces = length-changed (with_sides (joined_side v (other_edge c v e))) c.faces;
}
