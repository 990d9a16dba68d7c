-- A vertex or an edge spliced into another: the complex stays valid. Two edges may have the same ends after.
use Rattle.std.proofs.Common.{◌≡◌, ◌≢◌, ℕ, Bool, true, false, not, ◌&&◌, eqb, map, refl, sym, ap, ◌∙◌, subst, inl, inr}
use Rattle.std.proofs.Common.{arith, Option, Some, None, is_some, true≢false}
use Rattle.std.specs.Option.{option_map}
use Rattle.std.proofs.lemmas.List.{length-map, map-id}
use Rattle.std.proofs.lemmas.Bool.{cases_eq, and_parts, cond-true, cond-false, not-true, eq-eqb, eqb-false, ne_eqb}
use Rattle.mesh_model.specs.Table.{at, IsThere, passes, erase, changed}
use Rattle.mesh_model.specs.Complex.{Complex, has, verts_of}
use Rattle.mesh_model.specs.Incidence.{joins, uses_vert, edge_joining}
use Rattle.mesh_model.specs.Elements.{is_among}
use Rattle.mesh_model.specs.Valid.{are_distinct, IsValid, IsSimple}
use Rattle.mesh_model.specs.Lookups.{edge_rec, least_face}
use Rattle.mesh_model.specs.Renaming.{renamed_vert, renamed_edge, with_ends, along, with_corner_verts}
use Rattle.mesh_model.specs.Renaming.{with_corner_edges}
use Rattle.mesh_model.specs.Refusals.{unless_at, refused_at, unless_there}
use Rattle.mesh_model.specs.Splice.{splice_vert, uses_both, splice_vert_refusal, splice_edge, have_same_ends}
use Rattle.mesh_model.specs.Splice.{splice_edge_refusal}
use Rattle.mesh_model.specs.declared.names.Elem.TheVariants.{Vert, Edge, Face}
use Rattle.mesh_model.specs.declared.names.VertName.{VertName}
use Rattle.mesh_model.specs.declared.names.EdgeName.{EdgeName}
use Rattle.mesh_model.specs.declared.refusal.Why.TheVariants.{Repeated, Exists, Pinched, Apart}
use Rattle.mesh_model.specs.declared.records.EdgeRec.{EdgeRec}
use Rattle.mesh_model.specs.declared.records.CornerRec.{CornerRec}
use Rattle.mesh_model.specs.declared.records.FaceRec.{FaceRec}
use Rattle.mesh_model.proofs.Tables.{at-changed, at-erase_other, was-erased, length-erase, length-changed}
use Rattle.mesh_model.proofs.Edges.{same_vert_name, joins-cases}
use Rattle.mesh_model.proofs.Parts.{IsSimple-part}
use Rattle.mesh_model.proofs.Makings.{JoinsNone, JoinsNone-edge_joining}
use Rattle.mesh_model.proofs.Circles.{at-among, joins-ahead, joins-back}
use Rattle.mesh_model.proofs.Paths.{IsCircle-from_polygon, IsPolygon-from_circle}
use Rattle.mesh_model.proofs.Renamings.{LeadsOn, IsCircle-mapped, joins-with_ends, renamed-same, renamed-other}
use Rattle.mesh_model.proofs.Renamings.{distinct-renamed, All-mapped}
use Rattle.mesh_model.proofs.Looking.{at-edge_rec, was-changed, corner_sum-changed_le}
use Rattle.mesh_model.proofs.EdgeJoins.{HasSameNames}
use Rattle.mesh_model.proofs.Refusing.{first_of-none, unless_at-none, there-none, refused_at-none, mapped-none}
use Rattle.mesh_model.proofs.Refusing.{least_face-none}
use Rattle.mesh_model.proofs.Right.{AreRight, IsEdgeRight, IsFaceRight, HasSameLayers, HasVals, IsVertRight-same}
use Rattle.mesh_model.proofs.Right.{IsEdgeRight-same, HasVals-same, face-with, AreRight-from_valid, IsValid-from_right}

-- ---- AN EDGE

-- what is known where an edge is spliced into another
pub record IsEdgeSplice (c : Complex) (from to : EdgeName) : Type 0 where
  pub right : AreRight c
  pub first : has c (Edge from) ≡ true
  pub second : has c (Edge to) ≡ true
  pub differ : from.0 ≢ to.0
  pub same_ends : have_same_ends (edge_rec c from) (edge_rec c to) ≡ true

edge_layers : (c : Complex) (from to : EdgeName) → HasSameLayers (splice_edge c from to) c
edge_layers c from to = record { layers = refl; materials = refl }

-- an edge with the same two ends joins the same vertices
joins-same_ends : (x y : EdgeRec) (v w : VertName) → joins y.a y.b x ≡ true → joins v w x ≡ true → joins v w y ≡ true
joins-same_ends x y v w same h = elim (joins-cases y.a y.b x same) [
  | inl ahead ↦ elim (joins-cases v w x h) [
    | inl given ↦ joins-ahead v w y (sym ahead.0 ∙ given.0) (sym ahead.1 ∙ given.1)
    | inr given ↦ joins-back v w y (sym ahead.0 ∙ given.0) (sym ahead.1 ∙ given.1)
  ]
  | inr back ↦ elim (joins-cases v w x h) [
    | inl given ↦ joins-back v w y (sym back.1 ∙ given.1) (sym back.0 ∙ given.0)
    | inr given ↦ joins-ahead v w y (sym back.1 ∙ given.1) (sym back.0 ∙ given.0)
  ]
]

abbrev moved_edge : EdgeName → EdgeName → CornerRec → CornerRec
moved_edge from to k = along (renamed_edge from to k.edge) k

edge_leads : (c : Complex) (from to : EdgeName) → IsEdgeSplice c from to
    → LeadsOn c.edges (erase c.edges from.0) (λ (v : VertName). v) (moved_edge from to)
edge_leads c from to s k v h = elim (cases_eq k.edge.0 from.0) [
  | inl is_from ↦
      let moved : renamed_edge from to k.edge ≡ to =
      cond-true (eqb k.edge.0 from.0) to k.edge (eq-eqb k.edge.0 from.0 is_from) in
      let joined : joins k.vert v (edge_rec c from) ≡ true =
      sym (ap (passes (joins k.vert v)) (ap (at c.edges) is_from ∙ at-edge_rec c from s.first)) ∙ h in
      let stays : at (erase c.edges from.0) to.0 ≡ Some (edge_rec c to) = at-erase_other c.edges from.0 to.0 s.differ
      ∙ at-edge_rec c to s.second in
      ap (λ (e : EdgeName). passes (joins k.vert v) (at (erase c.edges from.0) e.0)) moved
      ∙ ap (passes (joins k.vert v)) stays
      ∙ joins-same_ends (edge_rec c from) (edge_rec c to) k.vert v s.same_ends joined
  | inr other ↦
      let moved : renamed_edge from to k.edge ≡ k.edge =
      cond-false (eqb k.edge.0 from.0) to k.edge (ne_eqb k.edge.0 from.0 other) in
      ap (λ (e : EdgeName). passes (joins k.vert v) (at (erase c.edges from.0) e.0)) moved
      ∙ ap (passes (joins k.vert v)) (at-erase_other c.edges from.0 k.edge.0 (λ same. other (sym same))) ∙ h
]

pub AreRight-splice_edge : (c : Complex) (from to : EdgeName) → IsEdgeSplice c from to
    → AreRight (splice_edge c from to)
AreRight-splice_edge c from to s =
    let d = splice_edge c from to in
    record {
      layers = s.right.layers;
      verts = λ n x is. IsVertRight-same d c (edge_layers c from to) x (s.right.verts n x is);
      edges = λ n x is. let was = s.right.edges n x (was-erased c.edges from.0 n x is).0 in
          IsEdgeRight-same d c (edge_layers c from to) x x refl was.linked.a was.linked.b was.linked.differ was;
      faces = λ n x is.
          let it = was-changed c.faces (with_corner_edges (renamed_edge from to)) n x is in
          let f : FaceRec = it.0 in
          let right = s.right.faces n it.0 it.1 in
          let circle = IsCircle-from_polygon c it.0.corners right.polygon in
          let moved = IsCircle-mapped c.edges (erase c.edges from.0) (λ (v : VertName). v) (moved_edge from to)
          (λ k. refl) (edge_leads c from to s) it.0.corners (ap are_distinct (map-id (verts_of it.0.corners))
          ∙ circle.distinct) circle in
          let count = length-map it.0.corners (moved_edge from to) in
          let polygon = IsPolygon-from_circle d (map (moved_edge from to) it.0.corners) (rw count right.polygon.least)
          (rw count right.polygon.most) moved in
          subst (IsFaceRight d) (sym it.2)
          (face-with d c (edge_layers c from to) it.0 (map (moved_edge from to) it.0.corners) polygon
          (HasVals-same d c (edge_layers c from to) (map (moved_edge from to) it.0.corners)
          (All-mapped (HasVals c) (HasVals c) (moved_edge from to) (λ k vals. vals) it.0.corners right.corners))
          right);
    }

pub IsEdgeSplice-from_test : (c : Complex) (from to : EdgeName) → splice_edge_refusal c from to ≡ None → AreRight c
    → IsEdgeSplice c from to
IsEdgeSplice-from_test c from to test right =
    let one = first_of-none (unless_there c (Edge from)) _ test in
    let two = first_of-none (unless_there c (Edge to)) _ one.1 in
    let three = first_of-none (unless_at (not (eqb from.0 to.0) && have_same_ends (edge_rec c from) (edge_rec c to))
    Apart (Edge from)) _ two.1 in
    let both = and_parts (not (eqb from.0 to.0)) (have_same_ends (edge_rec c from) (edge_rec c to))
    (unless_at-none (not (eqb from.0 to.0) && have_same_ends (edge_rec c from) (edge_rec c to)) Apart (Edge from)
    three.0) in
    record {
      right = right;
      first = there-none c (Edge from) one.0;
      second = there-none c (Edge to) two.0;
      differ =
          eqb-false from.0 to.0 (not-true (eqb from.0 to.0) both.0);
      same_ends = both.1;
    }

pub IsValid-splice_edge : (c : Complex) (from to : EdgeName) → splice_edge_refusal c from to ≡ None → IsValid c
    → IsValid (splice_edge c from to)
IsValid-splice_edge c from to test h =
    let s = IsEdgeSplice-from_test c from to test (AreRight-from_valid c h) in
    let fewer = corner_sum-changed_le (with_corner_edges (renamed_edge from to)) c.faces
    (λ f. omega (arith, length-map f.corners (moved_edge from to))) in
    let most = h.limits.corners in
    IsValid-from_right (splice_edge c from to) (AreRight-splice_edge c from to s) (record {
      verts = h.limits.verts;
      edges = rw (length-erase c.edges from.0) h.limits.edges;
      faces = rw (length-changed (with_corner_edges (renamed_edge from to)) c.faces) h.limits.faces;
      corners = omega arith;
    })

-- an edge less leaves no new pair with the same ends
pub IsSimple-splice_edge : (c : Complex) (from to : EdgeName) → IsSimple c → IsSimple (splice_edge c from to)
IsSimple-splice_edge c from to h =
    IsSimple-part (splice_edge c from to) c (λ n x is. (was-erased c.edges from.0 n x is).0) h

pub counters-splice_edge : (c : Complex) (from to : EdgeName) → HasSameNames c (splice_edge c from to)
counters-splice_edge c from to =
    record {
      verts = refl;
      edges = length-erase c.edges from.0;
      faces =
          length-changed (with_corner_edges (renamed_edge from to)) c.faces;
    }

-- ---- A VERTEX

-- what is known where a vertex is spliced into another
pub record IsVertSplice (c : Complex) (from to : VertName) : Type 0 where
  pub right : AreRight c
  pub second : has c (Vert to) ≡ true
  pub differ : from.0 ≢ to.0
  pub joined : JoinsNone c.edges from to
  pub apart : (n : ℕ) (f : FaceRec) → at c.faces n ≡ Some f → uses_both from to f ≡ false

vert_layers : (c : Complex) (from to : VertName) → HasSameLayers (splice_vert c from to) c
vert_layers c from to = record { layers = refl; materials = refl }

abbrev moved_vert : VertName → VertName → CornerRec → CornerRec
moved_vert from to k = record k { vert = renamed_vert from to k.vert }

vert_leads : (c : Complex) (from to : VertName)
    → LeadsOn c.edges (changed (with_ends (renamed_vert from to)) c.edges) (renamed_vert from to) (moved_vert from to)
vert_leads c from to k v h =
    ap (passes (joins (renamed_vert from to k.vert) (renamed_vert from to v)))
    (at-changed (with_ends (renamed_vert from to)) c.edges k.edge.0) ∙ on (at c.edges k.edge.0) h
  where
    on : (o : Option EdgeRec) → passes (joins k.vert v) o ≡ true
        → passes (joins (renamed_vert from to k.vert) (renamed_vert from to v))
        (option_map (with_ends (renamed_vert from to)) o) ≡ true
    on None is = absurd (cc)
    on (Some x) is = joins-with_ends (renamed_vert from to) k.vert v x is

-- an end after is there
end_after : (c : Complex) (from to v : VertName) → from.0 ≢ to.0 → has c (Vert to) ≡ true → IsThere c.verts v.0
    → IsThere (erase c.verts from.0) (renamed_vert from to v).0
end_after c from to v differ there_to there_v = elim (cases_eq v.0 from.0) [
  | inl is_from ↦ ap (λ (u : VertName). is_some (at (erase c.verts from.0) u.0)) (renamed-same from to v is_from)
      ∙ ap is_some (at-erase_other c.verts from.0 to.0 differ) ∙ there_to
  | inr other ↦ ap (λ (u : VertName). is_some (at (erase c.verts from.0) u.0)) (renamed-other from to v other)
      ∙ ap is_some (at-erase_other c.verts from.0 v.0 (λ same. other (sym same))) ∙ there_v
]

-- the ends of an edge still differ
ends_after : (c : Complex) (from to : VertName) → IsVertSplice c from to → (n : ℕ) (x : EdgeRec) → at c.edges n ≡ Some x
    → x.a.0 ≢ x.b.0 → (renamed_vert from to x.a).0 ≢ (renamed_vert from to x.b).0
ends_after c from to s n x is differ same =
    let num : VertName → ℕ = λ u. u.0 in
    let none = s.joined n x is in
    elim (cases_eq x.a.0 from.0) [
      | inl a_from ↦ elim (cases_eq x.b.0 from.0) [
        | inl b_from ↦ differ (a_from ∙ sym b_from)
        | inr b_other ↦
            let b_to : x.b.0 ≡ to.0 = sym (ap (λ (u : VertName). u.0) (renamed-other from to x.b b_other)) ∙ sym same
            ∙ ap (λ (u : VertName). u.0) (renamed-same from to x.a a_from) in
            true≢false (sym (joins-ahead from to x (same_vert_name x.a from a_from) (same_vert_name x.b to b_to))
            ∙ none)
      ]
      | inr a_other ↦ elim (cases_eq x.b.0 from.0) [
        | inl b_from ↦
            let a_to : x.a.0 ≡ to.0 = sym (ap (λ (u : VertName). u.0) (renamed-other from to x.a a_other)) ∙ same
            ∙ ap (λ (u : VertName). u.0) (renamed-same from to x.b b_from) in
            true≢false (sym (joins-back from to x (same_vert_name x.a to a_to) (same_vert_name x.b from b_from)) ∙ none)
        | inr b_other ↦ differ (sym (ap (λ (u : VertName). u.0) (renamed-other from to x.a a_other)) ∙ same
            ∙ ap (λ (u : VertName). u.0) (renamed-other from to x.b b_other))
      ]
    ]

pub AreRight-splice_vert : (c : Complex) (from to : VertName) → IsVertSplice c from to
    → AreRight (splice_vert c from to)
AreRight-splice_vert c from to s =
    let d = splice_vert c from to in
    record {
      layers = s.right.layers;
      verts = λ n x is. IsVertRight-same d c (vert_layers c from to) x
          (s.right.verts n x (was-erased c.verts from.0 n x is).0);
      edges = λ n x is.
          let it = was-changed c.edges (with_ends (renamed_vert from to)) n x is in
          let was = s.right.edges n it.0 it.1 in
          subst (IsEdgeRight d) (sym it.2)
          (IsEdgeRight-same d c (vert_layers c from to) it.0 (with_ends (renamed_vert from to) it.0) refl
          (end_after c from to it.0.a s.differ s.second was.linked.a)
          (end_after c from to it.0.b s.differ s.second was.linked.b)
          (ends_after c from to s n it.0 it.1 was.linked.differ) was);
      faces = λ n x is.
          let it = was-changed c.faces (with_corner_verts (renamed_vert from to)) n x is in
          let right = s.right.faces n it.0 it.1 in
          let circle = IsCircle-from_polygon c it.0.corners right.polygon in
          let apart = ap (λ (b : Bool). b && is_among (verts_of it.0.corners) to) (sym (at-among from it.0.corners))
          ∙ ap (λ (b : Bool). uses_vert from it.0 && b) (sym (at-among to it.0.corners)) ∙ s.apart n it.0 it.1 in
          let moved = IsCircle-mapped c.edges (changed (with_ends (renamed_vert from to)) c.edges)
          (renamed_vert from to) (moved_vert from to) (λ k. refl) (vert_leads c from to) it.0.corners
          (distinct-renamed from to (verts_of it.0.corners) apart circle.distinct) circle in
          let count = length-map it.0.corners (moved_vert from to) in
          let polygon = IsPolygon-from_circle d (map (moved_vert from to) it.0.corners) (rw count right.polygon.least)
          (rw count right.polygon.most) moved in
          subst (IsFaceRight d) (sym it.2)
          (face-with d c (vert_layers c from to) it.0 (map (moved_vert from to) it.0.corners) polygon
          (HasVals-same d c (vert_layers c from to) (map (moved_vert from to) it.0.corners)
          (All-mapped (HasVals c) (HasVals c) (moved_vert from to) (λ k vals. vals) it.0.corners right.corners))
          right);
    }

pub IsVertSplice-from_test : (c : Complex) (from to : VertName) → splice_vert_refusal c from to ≡ None → AreRight c
    → IsVertSplice c from to
IsVertSplice-from_test c from to test right =
    let one = first_of-none (unless_there c (Vert from)) _ test in
    let two = first_of-none (unless_there c (Vert to)) _ one.1 in
    let three = first_of-none (unless_at (not (eqb from.0 to.0)) Repeated (Vert from)) _ two.1 in
    let four = first_of-none (refused_at Exists (option_map Edge (edge_joining c.edges from to))) _ three.1 in
    let five = first_of-none (refused_at Pinched (option_map Face (least_face (uses_both from to) c))) _ four.1 in
    record {
      right = right;
      second = there-none c (Vert to) two.0;
      differ = eqb-false from.0 to.0
          (not-true (eqb from.0 to.0) (unless_at-none (not (eqb from.0 to.0)) Repeated (Vert from) three.0));
      joined = JoinsNone-edge_joining c.edges from to
          (mapped-none Edge (edge_joining c.edges from to)
          (refused_at-none Exists (option_map Edge (edge_joining c.edges from to)) four.0));
      apart = least_face-none (uses_both from to) c
          (mapped-none Face (least_face (uses_both from to) c)
          (refused_at-none Pinched (option_map Face (least_face (uses_both from to) c)) five.0));
    }

pub IsValid-splice_vert : (c : Complex) (from to : VertName) → splice_vert_refusal c from to ≡ None → IsValid c
    → IsValid (splice_vert c from to)
IsValid-splice_vert c from to test h =
    let s = IsVertSplice-from_test c from to test (AreRight-from_valid c h) in
    let fewer = corner_sum-changed_le (with_corner_verts (renamed_vert from to)) c.faces
    (λ f. omega (arith, length-map f.corners (moved_vert from to))) in
    let most = h.limits.corners in
    IsValid-from_right (splice_vert c from to) (AreRight-splice_vert c from to s) (record {
      verts = rw (length-erase c.verts from.0) h.limits.verts;
      edges = rw (length-changed (with_ends (renamed_vert from to)) c.edges) h.limits.edges;
      faces = rw (length-changed (with_corner_verts (renamed_vert from to)) c.faces) h.limits.faces;
      corners = omega arith;
    })

pub counters-splice_vert : (c : Complex) (from to : VertName) → HasSameNames c (splice_vert c from to)
counters-splice_vert c from to =
    record {
      verts = length-erase c.verts from.0;
      edges = length-changed (with_ends (renamed_vert from to)) c.edges;
      faces = length-changed (with_corner_verts (renamed_vert from to)) c.faces;
    }
