-- An edge split: the complex stays valid and simple.
use Rattle.std.proofs.Common.{◌≡◌, ◌≢◌, ℕ, ◌+◌, ◌≤◌, Bool, true, false, not, ◌&&◌, eqb, ℤ, ◌-ℤ◌, ◌⊎◌, List, [], ◌∷◌}
use Rattle.std.proofs.Common.{◌++◌, length, get_or, refl, sym, ap, ◌∙◌, subst, inl, inr, arith, Option, Some, None}
use Rattle.std.specs.Option.{option_map}
use Rattle.std.specs.List.{All, list_any, flat_map}
use Rattle.std.proofs.lemmas.List.{length-append, length_push}
use Rattle.std.proofs.lemmas.List.Folds.{list_any-append}
use Rattle.std.proofs.lemmas.List.Elements.{All-cons, All-append, All-head, All-tail}
use Rattle.std.proofs.lemmas.Bool.{cases_Bool, or_parts, cond-true, cond-false, not_from_false, not_from_true, eq-eqb}
use Rattle.std.proofs.lemmas.Bool.{eqb-true, eqb-false}
use Rattle.mesh_model.specs.Table.{at, IsThere, update}
use Rattle.mesh_model.specs.Complex.{Complex, verts_of, has}
use Rattle.mesh_model.specs.Incidence.{joins, is_along, is_at, uses_edge}
use Rattle.mesh_model.specs.Elements.{is_among}
use Rattle.mesh_model.specs.Valid.{IsPolygon, IsEdgeLinked, IsWithinLimits, IsValid, IsSimple, IsSound}
use Rattle.mesh_model.specs.Lookups.{vert_rec, edge_rec, no_corner, least_face, next_vert, next_edge, with_next}
use Rattle.mesh_model.specs.Renaming.{along}
use Rattle.mesh_model.specs.Refusals.{unless, refused_at, unless_there, unless_too_many}
use Rattle.mesh_model.specs.Euler.{mixed_vert, mixed_corner, split_side, with_sides, split_edge, is_inner_share}
use Rattle.mesh_model.specs.Euler.{is_full_along, split_edge_refusal}
use Rattle.mesh_model.specs.declared.limits.TheConstants.{MAX_SIDES}
use Rattle.mesh_model.specs.declared.names.Elem.TheVariants.{Edge, Face}
use Rattle.mesh_model.specs.declared.names.VertName.{VertName}
use Rattle.mesh_model.specs.declared.names.EdgeName.{EdgeName}
use Rattle.mesh_model.specs.declared.refusal.Why.TheVariants.{BadValue, TooLong}
use Rattle.mesh_model.specs.declared.records.VertRec.{VertRec}
use Rattle.mesh_model.specs.declared.records.EdgeRec.{EdgeRec}
use Rattle.mesh_model.specs.declared.records.CornerRec.{CornerRec}
use Rattle.mesh_model.specs.declared.records.FaceRec.{FaceRec}
use Rattle.mesh_model.proofs.Tables.{Extends-append, there-Extends, at-append, at-append_new, at-update}
use Rattle.mesh_model.proofs.Tables.{at-update_other, was-updated, length-update, length-changed, there_from}
use Rattle.mesh_model.proofs.Edges.{same_vert_name, joins-cases, joins-symm}
use Rattle.mesh_model.proofs.Paths.{start_of, leads_to, path-same, path-uncons, nowhere, IsCircle}
use Rattle.mesh_model.proofs.Paths.{IsCircle-from_polygon, IsCircle-turned, IsPolygon-from_circle}
use Rattle.mesh_model.proofs.Circles.{joins-ahead, joins-back, path-has_ends, leads-joins, leads-from, alone_along}
use Rattle.mesh_model.proofs.Circles.{stay_along, IsCircle-split}
use Rattle.mesh_model.proofs.Walks.{next_of, All-next, All-left, All-right, found, around, untouched}
use Rattle.mesh_model.proofs.Looking.{at-vert_rec, at-edge_rec, next-new, next_vert-out, was-changed}
use Rattle.mesh_model.proofs.MixedValues.{IsShare, IsShare-from_inner, IsShare-rest, length-mix_row, mix_row-in_range}
use Rattle.mesh_model.proofs.MixedValues.{mixed_point-on_grid}
use Rattle.mesh_model.proofs.Refusing.{first_of-none, unless-none, there-none, refused_at-none, mapped-none}
use Rattle.mesh_model.proofs.Refusing.{least_face-none, limits-none}
use Rattle.mesh_model.proofs.Right.{AreRight, IsVertRight, IsEdgeRight, IsFaceRight, HasSameLayers, HasVals, end-there}
use Rattle.mesh_model.proofs.Right.{IsVertRight-same, IsEdgeRight-same, HasVals-same, face-with, AreRight-from_valid}
use Rattle.mesh_model.proofs.Right.{IsValid-from_right}

-- what is known where an edge is split
pub record IsSplit (c : Complex) (e : EdgeName) (num den : ℤ) : Type 0 where
  pub right : AreRight c
  pub there : has c (Edge e) ≡ true
  pub share : IsShare num den
  pub room : (n : ℕ) (f : FaceRec) → at c.faces n ≡ Some f → is_full_along e f ≡ false

-- the complex after
abbrev after : Complex → EdgeName → ℤ → ℤ → Complex
after c e num den = (split_edge c e num den).0

pub same_layers-split_edge : (c : Complex) (e : EdgeName) (num den : ℤ) → HasSameLayers (split_edge c e num den).0 c
same_layers-split_edge c e num den = record { layers = refl; materials = refl }

-- ---- EDGES

-- the half at the end a, and the other one
abbrev near : Complex → EdgeRec → EdgeRec
near c x = record x { b = next_vert c }

abbrev far : Complex → EdgeRec → EdgeRec
far c x = record x { a = next_vert c }

abbrev halves : Complex → EdgeName → List (Option EdgeRec)
halves c e = update c.edges e.0 (near c) ++ Some (far c (edge_rec c e)) ∷ []

others_stay : (c : Complex) (e : EdgeName) (n : ℕ) (x : EdgeRec) → at c.edges n ≡ Some x → n ≢ e.0
    → at (halves c e) n ≡ Some x
others_stay c e n x is other =
    Extends-append (update c.edges e.0 (near c)) (Some (far c (edge_rec c e)) ∷ []) n x
    (at-update_other c.edges e.0 n (near c) (λ same. other (sym same)) ∙ is)

at-near : (c : Complex) (e : EdgeName) → has c (Edge e) ≡ true → at (halves c e) e.0 ≡ Some (near c (edge_rec c e))
at-near c e there =
    Extends-append (update c.edges e.0 (near c)) (Some (far c (edge_rec c e)) ∷ []) e.0 (near c (edge_rec c e))
    (at-update c.edges e.0 e.0 (near c)
    ∙ cond-true (eqb e.0 e.0) (option_map (near c) (at c.edges e.0)) (at c.edges e.0) (eq-eqb e.0 e.0 refl)
    ∙ ap (option_map (near c)) (at-edge_rec c e there))

at-far : (c : Complex) (e : EdgeName) → at (halves c e) (length c.edges) ≡ Some (far c (edge_rec c e))
at-far c e = ap (at (halves c e)) (sym (length-update c.edges e.0 (near c)))
    ∙ at-append_new (update c.edges e.0 (near c)) (far c (edge_rec c e))

-- ---- ONE SIDE

-- the two corners that stand for a corner along the edge
record Halved (c : Complex) (e : EdgeName) (num den : ℤ) (k q : CornerRec) : Type 0 where
  first : CornerRec
  second : CornerRec
  are : split_side c e num den (k, q) ≡ first ∷ second ∷ []
  start : first.vert ≡ k.vert
  middle : second.vert ≡ next_vert c
  to_middle : leads_to (halves c e) first second.vert ≡ true
  to_end : leads_to (halves c e) second q.vert ≡ true
  first_vals : HasVals c first
  second_vals : HasVals c second

mixed-vals : (c : Complex) (k q : CornerRec) (num den : ℤ) (v : VertName) (e : EdgeName) → IsShare num den → HasVals c k
    → HasVals c q → HasVals c (mixed_corner c (k, q) num den v e)
mixed-vals c k q num den v e share vals_k vals_q = record {
  count = length-mix_row c.layers.corners k.vals q.vals num den vals_k.count vals_q.count;
  range = mix_row-in_range c.layers.corners k.vals q.vals num den share vals_k.range vals_q.range;
}

halved : (c : Complex) (e : EdgeName) (num den : ℤ) → IsSplit c e num den → (k q : CornerRec) → is_along e k ≡ true
    → leads_to c.edges k q.vert ≡ true → HasVals c k → HasVals c q → Halved c e num den k q
halved c e num den s k q is_along_e leads vals_k vals_q =
    let r : EdgeRec = edge_rec c e in
    let is = at-edge_rec c e s.there in
    let joined : joins k.vert q.vert (edge_rec c e) ≡ true =
    leads-joins c.edges k q.vert e (edge_rec c e) is_along_e is leads in
    let differ = (s.right.edges e.0 (edge_rec c e) is).linked.differ in
    elim (cases_Bool (is_at (edge_rec c e).a k)) [
      | inl from_a ↦
          let at_a : k.vert ≡ (edge_rec c e).a =
          same_vert_name k.vert (edge_rec c e).a (eqb-true k.vert.0 (edge_rec c e).a.0 from_a) in
          let to_b : (edge_rec c e).b ≡ q.vert = elim (joins-cases k.vert q.vert (edge_rec c e) joined) [
            | inl ahead ↦ ahead.1
            | inr back ↦ absurd (differ (ap (λ (u : VertName). u.0) (sym at_a ∙ sym back.1)))
          ] in
          record {
            first = k;
            second = mixed_corner c (k, q) num den (next_vert c) (next_edge c);
            are = cond-false (not (is_along e k)) _ _ (not_from_true (is_along e k) is_along_e)
                ∙ cond-true (is_at (edge_rec c e).a k) _ _ from_a;
            start = refl;
            middle = refl;
            to_middle = leads-from (halves c e) k (next_vert c) (near c (edge_rec c e))
                (ap (at (halves c e)) (eqb-true k.edge.0 e.0 is_along_e)
                ∙ at-near c e s.there) (joins-ahead k.vert (next_vert c) (near c (edge_rec c e)) (sym at_a) refl);
            to_end = leads-from (halves c e) (mixed_corner c (k, q) num den (next_vert c) (next_edge c)) q.vert
                (far c (edge_rec c e)) (at-far c e) (joins-ahead (next_vert c) q.vert (far c (edge_rec c e)) refl to_b);
            first_vals = vals_k;
            second_vals = mixed-vals c k q num den (next_vert c) (next_edge c) s.share vals_k vals_q;
          }
      | inr from_b ↦
          let ends : ((edge_rec c e).a ≡ q.vert) × ((edge_rec c e).b ≡ k.vert) =
          elim (joins-cases k.vert q.vert (edge_rec c e) joined) [
            | inl ahead ↦ absurd
                (eqb-false k.vert.0 (edge_rec c e).a.0 from_b (ap (λ (u : VertName). u.0) (sym ahead.0)))
            | inr back ↦ back
          ] in
          record {
            first = along (next_edge c) k;
            second = mixed_corner c (k, q) (den -ℤ num) den (next_vert c) e;
            are = cond-false (not (is_along e k)) _ _ (not_from_true (is_along e k) is_along_e)
                ∙ cond-false (is_at (edge_rec c e).a k) _ _ from_b;
            start = refl;
            middle = refl;
            to_middle = leads-from (halves c e) (along (next_edge c) k) (next_vert c) (far c (edge_rec c e))
                (at-far c e) (joins-back k.vert (next_vert c) (far c (edge_rec c e)) refl ends.1);
            to_end = leads-from (halves c e) (mixed_corner c (k, q) (den -ℤ num) den (next_vert c) e) q.vert
                (near c (edge_rec c e)) (at-near c e s.there)
                (joins-back (next_vert c) q.vert (near c (edge_rec c e)) ends.0 refl);
            first_vals = vals_k;
            second_vals = mixed-vals c k q (den -ℤ num) den (next_vert c) e (IsShare-rest num den s.share)
                vals_k vals_q;
          }
    ]

-- ---- A RING

other_side : (c : Complex) (e : EdgeName) (num den : ℤ) (x y : CornerRec) → is_along e x ≡ false
    → split_side c e num den (x, y) ≡ x ∷ []
other_side c e num den x y none = cond-true (not (is_along e x)) _ _ (not_from_false (is_along e x) none)

start-next : (ks : List CornerRec) (k : CornerRec) → start_of ks k.vert ≡ (next_of ks k).vert
start-next [] k = refl
start-next (l ∷ ls) k = refl

-- the corners after are a polygon, with values that are right
record IsPolygonAfter (c : Complex) (e : EdgeName) (num den : ℤ) (ks : List CornerRec) : Type 0 where
  polygon : IsPolygon (after c e num den).edges (flat_map (split_side c e num den) (with_next ks))
  vals : All (HasVals c) (flat_map (split_side c e num den) (with_next ks))

-- where no corner runs along the edge, nothing changes
polygon_past : (c : Complex) (e : EdgeName) (num den : ℤ) (ks : List CornerRec) → IsPolygon c.edges ks
    → All (HasVals c) ks → list_any (is_along e) ks ≡ false → IsPolygonAfter c e num den ks
polygon_past c e num den ks polygon vals none =
    let d = after c e num den in
    let image = untouched (is_along e) (split_side c e num den) (other_side c e num den) ks no_corner none in
    let circle = IsCircle-from_polygon c ks polygon in
    let stay = stay_along c.edges (halves c e) e (others_stay c e) ks (start_of ks nowhere) circle.closed none in
    let same : IsPolygon d.edges ks =
    IsPolygon-from_circle d ks polygon.least polygon.most (record {
      distinct = circle.distinct;
      closed =
          path-same c.edges (halves c e) ks (start_of ks nowhere) stay circle.closed;
    }) in
    record { polygon = subst (IsPolygon d.edges) (sym image) same; vals = subst (All (HasVals c)) (sym image) vals }

-- where one does, two stand in its place
polygon_through : (c : Complex) (e : EdgeName) (num den : ℤ) → IsSplit c e num den
    → (before later : List CornerRec) (k : CornerRec) → is_along e k ≡ true → list_any (is_along e) before ≡ false
    → IsPolygon c.edges (before ++ k ∷ later) → All (HasVals c) (before ++ k ∷ later)
    → length (before ++ k ∷ later) ≢ MAX_SIDES → IsPolygonAfter c e num den (before ++ k ∷ later)
polygon_through c e num den s before later k here none_before polygon vals room =
    let d = after c e num den in
    let rest : List CornerRec = later ++ before in
    let circle = IsCircle-turned c.edges before (k ∷ later) (IsCircle-from_polygon c (before ++ k ∷ later) polygon) in
    let count = length-append before (k ∷ later) in
    let long : 2 ≤ length rest = let least = polygon.least in omega (arith, count, length-append later before) in
    let same_edge : k.edge.0 ≡ e.0 = eqb-true k.edge.0 e.0 here in
    let is = at-edge_rec c e s.there in
    let none_rest : list_any (is_along e) rest ≡ false =
    ap (λ (n : ℕ). list_any (λ (l : CornerRec). eqb l.edge.0 n) rest) (sym same_edge)
    ∙ alone_along c.edges k rest (edge_rec c e) long (ap (at c.edges) same_edge ∙ is) circle in
    let none_later = (or_parts (list_any (is_along e) later) (list_any (is_along e) before)
    (sym (list_any-append (is_along e) later before) ∙ none_rest)).0 in
    let path = path-uncons c.edges k rest k.vert circle.closed in
    let q : CornerRec = next_of rest k in
    let meets : start_of rest k.vert ≡ q.vert = start-next rest k in
    let vals_before = All-left (HasVals c) before (k ∷ later) vals in
    let vals_from = All-right (HasVals c) before (k ∷ later) vals in
    let vals_k = All-head (HasVals c) k later vals_from in
    let vals_later = All-tail (HasVals c) k later vals_from in
    let vals_q = All-next (HasVals c) rest k (All-append (HasVals c) later before vals_later vals_before) vals_k in
    let h = halved c e num den s k q here (ap (leads_to c.edges k) (sym meets) ∙ path.0) vals_k vals_q in
    let there : All (λ (l : CornerRec). IsThere c.verts l.vert.0) (k ∷ rest) = λ i f less.
    end-there c s.right.edges (get_or (k ∷ rest) i f).edge.0 (get_or (k ∷ rest) i f).vert
    (path-has_ends c.edges (k ∷ rest) k.vert circle.closed i f less) in
    let out = ap (is_among (verts_of (k ∷ rest))) h.middle ∙ next_vert-out c (k ∷ rest) there in
    let stay = stay_along c.edges (halves c e) e (others_stay c e) rest k.vert path.1 none_rest in
    let split = IsCircle-split c.edges (halves c e) k h.first h.second rest circle h.start out h.to_middle
    (ap (leads_to (halves c e) h.second) meets ∙ h.to_end) stay in
    let back : IsCircle (halves c e) (before ++ (h.first ∷ h.second ∷ later)) =
    IsCircle-turned (halves c e) (h.first ∷ h.second ∷ later) before split in
    let image : flat_map (split_side c e num den) (with_next (before ++ k ∷ later))
    ≡ before ++ (h.first ∷ h.second ∷ later) =
    around (is_along e) (split_side c e num den) (other_side c e num den) before later k none_before none_later
    ∙ ap (λ (xs : List CornerRec). before ++ (xs ++ later)) h.are in
    let count_after = length-append before (h.first ∷ h.second ∷ later) in
    let least = polygon.least in
    let most = polygon.most in
    let polygon_after : IsPolygon d.edges (before ++ (h.first ∷ h.second ∷ later)) =
    IsPolygon-from_circle d (before ++ (h.first ∷ h.second ∷ later)) (omega (arith, count, count_after))
    (omega (arith, count, count_after, room)) back in
    let vals_after = All-append (HasVals c) before (h.first ∷ h.second ∷ later) vals_before
    (All-cons (HasVals c) h.first (h.second ∷ later) h.first_vals
    (All-cons (HasVals c) h.second later h.second_vals vals_later)) in
    record {
      polygon = subst (IsPolygon d.edges) (sym image) polygon_after;
      vals =
          subst (All (HasVals c)) (sym image) vals_after;
    }

pub IsFaceRight-split_edge : (c : Complex) (e : EdgeName) (num den : ℤ) → IsSplit c e num den → (n : ℕ) (f : FaceRec)
    → at c.faces n ≡ Some f → IsFaceRight (split_edge c e num den).0 (with_sides (split_side c e num den) f)
IsFaceRight-split_edge c e num den s n f is =
    let d = after c e num den in
    let right = s.right.faces n f is in
    let turn : IsPolygonAfter c e num den f.corners = elim (cases_Bool (uses_edge e f)) [
      | inl used ↦
          let fd = found (is_along e) f.corners used in
          let room : length f.corners ≢ MAX_SIDES =
          eqb-false (length f.corners) MAX_SIDES
          (sym (ap (λ (b : Bool). b && eqb (length f.corners) MAX_SIDES) used) ∙ s.room n f is) in
          subst (IsPolygonAfter c e num den) (sym fd.parts)
          (polygon_through c e num den s fd.before fd.after fd.here fd.passes fd.none_before
          (subst (IsPolygon c.edges) fd.parts right.polygon) (subst (All (HasVals c)) fd.parts right.corners)
          (λ same. room (ap (λ (ks : List CornerRec). length ks) fd.parts ∙ same)))
      | inr free ↦ polygon_past c e num den f.corners right.polygon right.corners free
    ] in
    face-with d c (same_layers-split_edge c e num den) f (flat_map (split_side c e num den) (with_next f.corners))
    turn.polygon
    (HasVals-same d c (same_layers-split_edge c e num den) (flat_map (split_side c e num den) (with_next f.corners))
    turn.vals) right

-- ---- VERTICES AND EDGES

IsVertRight-mixed : (c : Complex) (v w : VertRec) (num den : ℤ) → IsShare num den → IsVertRight c v → IsVertRight c w
    → IsVertRight c (mixed_vert c v w num den)
IsVertRight-mixed c v w num den share right_v right_w =
    let on_v = right_v.valid.point in
    record {
      linked = record {
        vals =
            length-mix_row c.layers.verts v.vals w.vals num den right_v.linked.vals right_w.linked.vals;
      };
      valid = record {
        point = mixed_point-on_grid v.point w.point num den share right_v.valid.point right_w.valid.point;
        vals = mix_row-in_range c.layers.verts v.vals w.vals num den share right_v.valid.vals right_w.valid.vals;
      };
    }

-- what stands in the table of edges after: an edge as before, or one of the halves
data Standing (c : Complex) (e : EdgeName) (n : ℕ) (x : EdgeRec) : Type 0 where
  as_before : at c.edges n ≡ Some x → Standing c e n x
  is_near : n ≡ e.0 → x ≡ near c (edge_rec c e) → Standing c e n x
  is_far : n ≡ length c.edges → x ≡ far c (edge_rec c e) → Standing c e n x

standing : (c : Complex) (e : EdgeName) → has c (Edge e) ≡ true → (n : ℕ) (x : EdgeRec) → at (halves c e) n ≡ Some x
    → Standing c e n x
standing c e there n x is = elim (at-append (update c.edges e.0 (near c)) (far c (edge_rec c e)) x n is) [
  | inl old ↦ elim (was-updated c.edges e.0 n (near c) x old) [
    | inl before ↦ as_before before
    | inr new ↦
        let same : new.1.0 ≡ edge_rec c e = let known = at-edge_rec c e there in let stood = new.1.1 in let at_e =
        ap (at c.edges) new.0 in cc in
        is_near (sym new.0) (new.1.2 ∙ ap (near c) same)
  ]
  | inr new ↦ is_far (new.0 ∙ length-update c.edges e.0 (near c)) new.1
]

old-there : (c : Complex) (r : VertRec) (n : ℕ) → IsThere c.verts n → IsThere (c.verts ++ Some r ∷ []) n
old-there c r n there = there-Extends c.verts (c.verts ++ Some r ∷ []) (Extends-append c.verts (Some r ∷ [])) n there

new-there : (c : Complex) (r : VertRec) → IsThere (c.verts ++ Some r ∷ []) (length c.verts)
new-there c r = there_from (c.verts ++ Some r ∷ []) (length c.verts) r (at-append_new c.verts r)

IsEdgeRight-split_edge : (c : Complex) (e : EdgeName) (num den : ℤ) → IsSplit c e num den → (n : ℕ) (x : EdgeRec)
    → Standing c e n x → IsEdgeRight (split_edge c e num den).0 x
IsEdgeRight-split_edge c e num den s n x (as_before is) =
    let mid = mixed_vert c (vert_rec c (edge_rec c e).a) (vert_rec c (edge_rec c e).b) num den in
    let right = s.right.edges n x is in
    IsEdgeRight-same (after c e num den) c (same_layers-split_edge c e num den) x x refl
    (old-there c mid x.a.0 right.linked.a) (old-there c mid x.b.0 right.linked.b) right.linked.differ right
IsEdgeRight-split_edge c e num den s n x (is_near same is) =
    let mid = mixed_vert c (vert_rec c (edge_rec c e).a) (vert_rec c (edge_rec c e).b) num den in
    let right = s.right.edges e.0 (edge_rec c e) (at-edge_rec c e s.there) in
    subst (IsEdgeRight (after c e num den)) (sym is)
    (IsEdgeRight-same (after c e num den) c (same_layers-split_edge c e num den) (edge_rec c e)
    (near c (edge_rec c e)) refl
    (old-there c mid (edge_rec c e).a.0 right.linked.a) (new-there c mid)
    (next-new c.verts (edge_rec c e).a.0 right.linked.a) right)
IsEdgeRight-split_edge c e num den s n x (is_far same is) =
    let mid = mixed_vert c (vert_rec c (edge_rec c e).a) (vert_rec c (edge_rec c e).b) num den in
    let right = s.right.edges e.0 (edge_rec c e) (at-edge_rec c e s.there) in
    subst (IsEdgeRight (after c e num den)) (sym is)
    (IsEdgeRight-same (after c e num den) c (same_layers-split_edge c e num den) (edge_rec c e)
    (far c (edge_rec c e)) refl
    (new-there c mid) (old-there c mid (edge_rec c e).b.0 right.linked.b)
    (λ is_b. next-new c.verts (edge_rec c e).b.0 right.linked.b (sym is_b)) right)

-- ---- THE COMPLEX

pub AreRight-split_edge : (c : Complex) (e : EdgeName) (num den : ℤ) → IsSplit c e num den
    → AreRight (split_edge c e num den).0
AreRight-split_edge c e num den s =
    let d = after c e num den in
    let r = edge_rec c e in
    let ends = (s.right.edges e.0 (edge_rec c e) (at-edge_rec c e s.there)).linked in
    let mid_right = IsVertRight-mixed c (vert_rec c (edge_rec c e).a) (vert_rec c (edge_rec c e).b) num den s.share
    (s.right.verts (edge_rec c e).a.0 (vert_rec c (edge_rec c e).a) (at-vert_rec c (edge_rec c e).a ends.a))
    (s.right.verts (edge_rec c e).b.0 (vert_rec c (edge_rec c e).b) (at-vert_rec c (edge_rec c e).b ends.b)) in
    record {
      layers = s.right.layers;
      verts = λ n x is. elim
          (at-append c.verts (mixed_vert c (vert_rec c (edge_rec c e).a) (vert_rec c (edge_rec c e).b) num den) x n is) [
            | inl old ↦ IsVertRight-same d c (same_layers-split_edge c e num den) x (s.right.verts n x old)
            | inr new ↦ subst (IsVertRight d) (sym new.1)
                (IsVertRight-same d c (same_layers-split_edge c e num den)
                (mixed_vert c (vert_rec c (edge_rec c e).a) (vert_rec c (edge_rec c e).b) num den) mid_right)
          ];
      edges = λ n x is. IsEdgeRight-split_edge c e num den s n x (standing c e s.there n x is);
      faces = λ n x is. let it = was-changed c.faces (with_sides (split_side c e num den)) n x is in
          subst (IsFaceRight d) (sym it.2) (IsFaceRight-split_edge c e num den s n it.0 it.1);
    }

-- what the test tells that answers None
pub IsSplit-from_test : (c : Complex) (e : EdgeName) (num den : ℤ) → split_edge_refusal c e num den ≡ None → AreRight c
    → IsSplit c e num den × IsWithinLimits (split_edge c e num den).0
IsSplit-from_test c e num den test right =
    let one = first_of-none (unless_there c (Edge e)) _ test in
    let two = first_of-none (unless (is_inner_share num den) BadValue) _ one.1 in
    let three = first_of-none (refused_at TooLong (option_map Face (least_face (is_full_along e) c))) _ two.1 in
    let four = first_of-none (unless_too_many (split_edge c e num den).0) _ three.1 in (
      record {
        right = right;
        there = there-none c (Edge e) one.0;
        share = IsShare-from_inner num den (unless-none (is_inner_share num den) BadValue two.0);
        room = least_face-none (is_full_along e) c
            (mapped-none Face (least_face (is_full_along e) c)
            (refused_at-none TooLong (option_map Face (least_face (is_full_along e) c)) three.0));
      },
      limits-none (split_edge c e num den).0 four.0,
    )

pub IsValid-split_edge : (c : Complex) (e : EdgeName) (num den : ℤ) → split_edge_refusal c e num den ≡ None → IsValid c
    → IsValid (split_edge c e num den).0
IsValid-split_edge c e num den test h =
    let told = IsSplit-from_test c e num den test (AreRight-from_valid c h) in
    IsValid-from_right (split_edge c e num den).0 (AreRight-split_edge c e num den told.0) told.1

-- ---- SIMPLE

-- the new vertex is no end of an edge that was there
pub past_middle : (c : Complex) (n : ℕ) (x y : EdgeRec) → IsEdgeLinked c x → (y.a ≡ next_vert c) ⊎ (y.b ≡ next_vert c)
    → joins x.a x.b y ≡ true → ⊥
past_middle c n x y linked new joined =
    let not_a : x.a ≡ next_vert c → ⊥ = λ is. next-new c.verts x.a.0 linked.a (ap (λ (u : VertName). u.0) is) in
    let not_b : x.b ≡ next_vert c → ⊥ = λ is. next-new c.verts x.b.0 linked.b (ap (λ (u : VertName). u.0) is) in
    elim new [
      | inl at_a ↦ elim (joins-cases x.a x.b y joined) [
        | inl ahead ↦ not_a (sym ahead.0
            ∙ at_a)
        | inr back ↦ not_b (sym back.0 ∙ at_a)
      ]
      | inr at_b ↦ elim (joins-cases x.a x.b y joined) [
        | inl ahead ↦ not_b (sym ahead.1
            ∙ at_b)
        | inr back ↦ not_a (sym back.1 ∙ at_b)
      ]
    ]

-- the halves have different ends
halves_apart : (c : Complex) (r : EdgeRec) → IsEdgeLinked c r → joins (near c r).a (near c r).b (far c r) ≡ true → ⊥
halves_apart c r linked joined = elim (joins-cases r.a (next_vert c) (far c r) joined) [
  | inl ahead ↦ next-new c.verts r.a.0 linked.a (ap (λ (u : VertName). u.0) (sym ahead.0))
  | inr back ↦ linked.differ (ap (λ (u : VertName). u.0) (sym back.1))
]

same_ends : (x y s t : EdgeRec) → x ≡ s → y ≡ t → joins x.a x.b y ≡ true → joins s.a s.b t ≡ true
same_ends x y s t is_s is_t joined = sym (ap (λ (u : EdgeRec). joins u.a u.b y) is_s ∙ ap (joins s.a s.b) is_t) ∙ joined

one_edge : (c : Complex) (e : EdgeName) → AreRight c → has c (Edge e) ≡ true → IsSimple c → (m n : ℕ) (x y : EdgeRec)
    → Standing c e m x → Standing c e n y → joins x.a x.b y ≡ true → m ≡ n
one_edge c e right there h m n x y (as_before is_x) (as_before is_y) joined = h m n x y is_x is_y joined
one_edge c e right there h m n x y (as_before is_x) (is_near same is) joined =
    absurd (past_middle c m x (near c (edge_rec c e)) (right.edges m x is_x).linked (inr refl)
    (same_ends x y x (near c (edge_rec c e)) refl is joined))
one_edge c e right there h m n x y (as_before is_x) (is_far same is) joined =
    absurd (past_middle c m x (far c (edge_rec c e)) (right.edges m x is_x).linked (inl refl)
    (same_ends x y x (far c (edge_rec c e)) refl is joined))
one_edge c e right there h m n x y (is_near same is) (as_before is_y) joined =
    absurd (past_middle c n y (near c (edge_rec c e)) (right.edges n y is_y).linked (inr refl)
    (joins-symm y (near c (edge_rec c e)) ∙ same_ends x y (near c (edge_rec c e)) y is refl joined))
one_edge c e right there h m n x y (is_far same is) (as_before is_y) joined =
    absurd (past_middle c n y (far c (edge_rec c e)) (right.edges n y is_y).linked (inl refl)
    (joins-symm y (far c (edge_rec c e)) ∙ same_ends x y (far c (edge_rec c e)) y is refl joined))
one_edge c e right there h m n x y (is_near same_m is_x) (is_near same_n is_y) joined = same_m ∙ sym same_n
one_edge c e right there h m n x y (is_far same_m is_x) (is_far same_n is_y) joined = same_m ∙ sym same_n
one_edge c e right there h m n x y (is_near same_m is_x) (is_far same_n is_y) joined =
    absurd (halves_apart c (edge_rec c e) (right.edges e.0 (edge_rec c e) (at-edge_rec c e there)).linked
    (same_ends x y (near c (edge_rec c e)) (far c (edge_rec c e)) is_x is_y joined))
one_edge c e right there h m n x y (is_far same_m is_x) (is_near same_n is_y) joined =
    absurd (halves_apart c (edge_rec c e) (right.edges e.0 (edge_rec c e) (at-edge_rec c e there)).linked
    (joins-symm (near c (edge_rec c e)) (far c (edge_rec c e))
    ∙ same_ends x y (far c (edge_rec c e)) (near c (edge_rec c e)) is_x is_y joined))

pub IsSimple-split_edge : (c : Complex) (e : EdgeName) (num den : ℤ) → split_edge_refusal c e num den ≡ None → IsSound c
    → IsSimple (split_edge c e num den).0
IsSimple-split_edge c e num den test h m n x y at_m at_n joined =
    let right = AreRight-from_valid c h.valid in
    let there = (IsSplit-from_test c e num den test right).0.there in
    one_edge c e right there h.simple m n x y (standing c e there m x at_m) (standing c e there n y at_n) joined

pub IsSound-split_edge : (c : Complex) (e : EdgeName) (num den : ℤ) → split_edge_refusal c e num den ≡ None → IsSound c
    → IsSound (split_edge c e num den).0
IsSound-split_edge c e num den test h =
    record { valid = IsValid-split_edge c e num den test h.valid; simple = IsSimple-split_edge c e num den test h }

-- ---- COUNTERS

-- one vertex and one edge more
pub record IsCountedSplit (c d : Complex) : Type 0 where
  pub verts : length d.verts ≡ length c.verts + 1
  pub edges : length d.edges ≡ length c.edges + 1
  pub faces : length d.faces ≡ length c.faces

pub counters-split_edge : (c : Complex) (e : EdgeName) (num den : ℤ) → IsCountedSplit c (split_edge c e num den).0
counters-split_edge c e num den = record {
  verts = length_push c.verts _;
  edges = length_push (update c.edges e.0 (near c)) _ ∙ ap (λ (n : ℕ). n + 1) (length-update c.edges e.0 (near c));
  faces = length-changed (with_sides (split_side c e num den)) c.faces;
}
