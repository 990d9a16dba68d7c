-- The edges at a vertex are taken away one by one, with the faces along them.
use Rattle.std.proofs.Common.{◌≡◌, ◌==◌, ◌&&◌, ◌||◌, ℕ, Bool, true, false, not, is_some, List, [], ◌∷◌, Option, Some, None, get_or, refl, sym, ap, ◌∙◌, subst, inl, inr}
use Rattle.std.specs.Prelude.{slice_set}
use Rattle.std.specs.List.{list_any}
use Rattle.std.proofs.lemmas.Bool.{cases_eq, eqb-true, eq-eqb, false≢true, false_from_ne_true}
use Rattle.std.proofs.lemmas.List.{get_or-set_same, get_or-set_other}
use Rattle.mesh_model.proofs.Lists.{list_all-All}
use Rattle.mesh_model.specs.Complex.{Complex}
use Rattle.mesh_model.specs.Table.{at, passes, allows, kept}
use Rattle.mesh_model.specs.Incidence.{is_along, has_end, uses_edge, uses_vert, is_bare}
use Rattle.mesh_model.specs.Kernel.{uses_edge_at, without_edge, can_lose_vert}
use Rattle.mesh_model.specs.declared.names.VertName.{VertName}
use Rattle.mesh_model.specs.declared.names.EdgeName.{EdgeName}
use Rattle.mesh_model.specs.declared.records.EdgeRec.{EdgeRec}
use Rattle.mesh_model.specs.declared.records.CornerRec.{CornerRec}
use Rattle.mesh_model.specs.declared.records.FaceRec.{FaceRec}
use Rattle.mesh_records.specs.Changes.{without_name, without_edges_at, has_no_corner}
use Rattle.mesh_records.specs.Gone.{EdgesGone, is_gone, without_gone}
use Rattle.mesh_records.proofs.Along.{any_at}
use Rattle.mesh_records.proofs.Filters.{filter_keeps, filter_twice, filter_same}
use Rattle.mesh_records.proofs.Gone.{none_gone, stood, one_gone, more_gone, all_gone, passes_below, passes_kept, at_kept, not_both, none_passes}
use Rattle.std.proofs.lemmas.List.Folds.{list_any_at}

-- what stands at a name of no record
abbrev no_corner : CornerRec
no_corner = record { vert = record { 0 = 0 }; edge = record { 0 = 0 }; vals = [] }

-- ---- faces and edges

-- a face that uses an edge at a vertex is one along an edge of that vertex
uses_more : (c : Complex) (v : VertName) (e : EdgeName) (o : Option FaceRec)
    → passes (has_end v) (at c.edges e.0) ≡ true → passes (uses_edge e) o ≡ true → passes (uses_edge_at c v) o ≡ true
uses_more c v e None h u = u
uses_more c v e (Some f) h u =
    let a = any_at (is_along e) f.corners no_corner u in
    let k = get_or f.corners a.place no_corner in
    list_any_at (λ (x : CornerRec). passes (has_end v) (at c.edges x.edge.0)) f.corners a.place no_corner a.low
    (ap (λ (j : ℕ). passes (has_end v) (at c.edges j)) (eqb-true k.edge.0 e.0 a.passed) ∙ h)

-- and such a face uses an edge at the vertex
uses_one : (c : Complex) (v : VertName) (o : Option FaceRec) → passes (uses_edge_at c v) o ≡ true
    → (e : EdgeName) × (passes (uses_edge e) o ≡ true) × (passes (has_end v) (at c.edges e.0) ≡ true)
uses_one c v None u = absurd (false≢true u)
uses_one c v (Some f) u =
    let a = any_at (λ (x : CornerRec). passes (has_end v) (at c.edges x.edge.0)) f.corners no_corner u in
    let e = (get_or f.corners a.place no_corner).edge in
    (e, list_any_at (is_along e) f.corners a.place no_corner a.low (eq-eqb e.0 e.0 refl), a.passed)

-- ---- lists of names

-- an edge that is there isn't gone
still_there : (v : VertName) (c : Complex) (x : EdgeName) → not (is_gone v c c x) ≡ true
still_there v c x = by_record (at c.edges x.0)
  where
    by_record : (o : Option EdgeRec) → not (passes (has_end v) o && not (is_some o)) ≡ true
    by_record None = refl
    by_record (Some r) = by_bool (has_end v r)
      where
        by_bool : (b : Bool) → not (b && false) ≡ true
        by_bool true = refl
        by_bool false = refl

pub lists_none_gone : (v : VertName) (c : Complex) (lists : List (List EdgeName)) → lists ≡ without_gone v c c lists
lists_none_gone v c [] = refl
lists_none_gone v c (xs ∷ lists) =
    let one = filter_keeps (λ (x : EdgeName). not (is_gone v c c x)) xs (λ x m. still_there v c x) in
    let more = lists_none_gone v c lists in
    λ i. sym one i ∷ more i

-- ---- one edge after another

pub none_lost : (v : VertName) (c : Complex) → EdgesGone v c c
none_lost v c = record {
  rest = refl;
  edges = none_gone (has_end v) c.edges;
  faces = none_gone (uses_edge_at c v) c.faces;
  used = λ k e h. refl;
}

module _ (v : VertName) (old mid : Complex) (l : EdgesGone v old mid) where
  pub one_lost : (e : EdgeName) → passes (has_end v) (at mid.edges e.0) ≡ true → EdgesGone v old (without_edge mid e)
  one_lost e h =
      let at_v = ap (passes (has_end v)) (sym (stood (has_end v) old.edges mid.edges l.edges (has_end v) e.0 h)) ∙ h in
      let less = without_edge mid e in
      let none : Option EdgeRec = None in
      record {
        rest = λ i. record (l.rest i) { edges = less.edges; faces = less.faces };
        edges = one_gone (has_end v) old.edges mid.edges l.edges e.0 h;
        faces = more_gone (uses_edge_at old v) old.faces mid.faces l.faces (uses_edge e)
            (λ k u. uses_more old v e (at old.faces k) at_v
            (ap (passes (uses_edge e)) (sym (stood (uses_edge_at old v) old.faces mid.faces l.faces (uses_edge e) k u))
            ∙ u));
        used = λ k j u.
            let t = passes_kept (λ (f : FaceRec). not (uses_edge e f)) (uses_edge j) (at mid.faces k)
            (ap (passes (uses_edge j)) (sym (at_kept (λ (f : FaceRec). not (uses_edge e f)) mid.faces k)) ∙ u) in
            let P = λ (i : ℕ). passes (uses_edge (record { 0 = i })) (at mid.faces k) ≡ true in
            get_or-set_other mid.edges e.0 j.0 none none (λ q.
            not_both (uses_edge e) (at mid.faces k) (subst P q t.0) t.1) ∙ l.used k j t.0;
      }

  -- an edge that is gone now was gone, or is the last to go
  gone_next : (e : EdgeName) → passes (has_end v) (at mid.edges e.0) ≡ true → (x : EdgeName)
      → (not (is_gone v old mid x) && not (x.0 == e.0)) ≡ not (is_gone v old (without_edge mid e) x)
  gone_next e h x = elim (cases_eq x.0 e.0) [
    | inl q ↦
        let none : Option EdgeRec = None in
        let E = λ (i : ℕ). (not (passes (has_end v) (at old.edges i) && not (is_some (at mid.edges i))) && not
        (i == e.0)) ≡ not (passes (has_end v) (at old.edges i) && not
        (is_some (at (slice_set mid.edges e.0 none) i))) in
        let was : passes (has_end v) (at old.edges e.0) ≡ true =
        ap (passes (has_end v)) (sym (stood (has_end v) old.edges mid.edges l.edges (has_end v) e.0 h)) ∙ h in
        let now : at (slice_set mid.edges e.0 none) e.0 ≡ none =
        get_or-set_same mid.edges e.0 none none (passes_below (has_end v) mid.edges e.0 h) in
        let left = λ (b : Bool). (b && not true) ≡ false in
        let right : not (passes (has_end v) (at old.edges e.0) && not (is_some (at (slice_set mid.edges e.0 none) e.0)))
        ≡ false =
        λ i. not (was i && not (is_some (now i))) in
        let b = not (passes (has_end v) (at old.edges e.0) && not (is_some (at mid.edges e.0))) in
        subst E (sym q) (ap (λ (y : Bool). b && not y) (eq-eqb e.0 e.0 refl) ∙ both_false b ∙ sym right)
    | inr ne ↦
        let none : Option EdgeRec = None in
        let other = get_or-set_other mid.edges e.0 x.0 none none ne in
        let b = not (is_gone v old mid x) in
        ap (λ (y : Bool). b && not y) (false_from_ne_true (x.0 == e.0) (λ y. ne (eqb-true x.0 e.0 y))) ∙ both_true b
        ∙ ap (λ (o : Option EdgeRec). not (passes (has_end v) (at old.edges x.0) && not (is_some o))) (sym other)
  ]
    where
      both_false : (b : Bool) → (b && not true) ≡ false
      both_false true = refl
      both_false false = refl

      both_true : (b : Bool) → (b && not false) ≡ b
      both_true true = refl
      both_true false = refl

  pub lists_one_lost : (e : EdgeName) → passes (has_end v) (at mid.edges e.0) ≡ true → (lists : List (List EdgeName))
      → without_name e (without_gone v old mid lists) ≡ without_gone v old (without_edge mid e) lists
  lists_one_lost e h [] = refl
  lists_one_lost e h (xs ∷ lists) =
      let one = filter_twice (λ (x : EdgeName). not (x.0 == e.0)) (λ (x : EdgeName). not (is_gone v old mid x))
      (λ (x : EdgeName). not (is_gone v old (without_edge mid e) x)) xs (λ x m. gone_next e h x) in
      let more = lists_one_lost e h lists in
      λ i. one i ∷ more i

  module _ (bare : is_bare mid v ≡ true) where
    no_edge : (k : ℕ) → passes (has_end v) (at mid.edges k) ≡ true → ⊥
    no_edge = none_passes (has_end v) mid.edges bare

    -- where the vertex is bare, all its edges are gone, and all faces along them
    pub edges_lost : mid.edges ≡ kept (λ (e : EdgeRec). not (has_end v e)) old.edges
    edges_lost = all_gone (has_end v) old.edges mid.edges l.edges no_edge

    pub faces_lost : mid.faces ≡ kept (λ (f : FaceRec). not (uses_edge_at old v f)) old.faces
    faces_lost = all_gone (uses_edge_at old v) old.faces mid.faces l.faces (λ k u.
        let t = uses_one old v (at mid.faces k) u in
        no_edge t.0.0 (ap (passes (has_end v)) (l.used k t.0 t.1) ∙ t.2))

    gone_all : (x : EdgeName) → not (is_gone v old mid x) ≡ not (passes (has_end v) (at old.edges x.0))
    gone_all x = ap not (elim (l.edges.each x.0) [
      | inl s ↦
          let f = false_from_ne_true (passes (has_end v) (at old.edges x.0))
          (λ h. no_edge x.0 (ap (passes (has_end v)) s ∙ h)) in
          ap (λ (b : Bool). b && not (is_some (at mid.edges x.0))) f ∙ sym f
      | inr g ↦
          ap (λ (o : Option EdgeRec). passes (has_end v) (at old.edges x.0) && not (is_some o)) g.0
          ∙ ap (λ (b : Bool). b && true) g.1 ∙ sym g.1
    ])

    -- and no list has one of them
    pub lists_lost : (lists : List (List EdgeName)) → without_gone v old mid lists ≡ without_edges_at old v lists
    lists_lost [] = refl
    lists_lost (xs ∷ lists) =
        let one = filter_same (λ (x : EdgeName). not (is_gone v old mid x))
        (λ (x : EdgeName). not (passes (has_end v) (at old.edges x.0))) xs gone_all in
        let more = lists_lost lists in
        λ i. one i ∷ more i

-- ---- corners at the vertex

clash : (u w : Bool) → u ≡ true → not w ≡ true → (not u || w) ≡ true → ⊥
clash true true a b h = false≢true b
clash true false a b h = false≢true h
clash false w a b h = false≢true a

-- no corner is left at a vertex without which the complex can be
pub no_corner_left : (v : VertName) (old mid : Complex) → can_lose_vert old v ≡ true
    → mid.faces ≡ kept (λ (f : FaceRec). not (uses_edge_at old v f)) old.faces → has_no_corner mid v ≡ true
no_corner_left v old mid can is =
    let test = λ (f : FaceRec). not (uses_edge_at old v f) in
    let met = λ (f : FaceRec). not (uses_vert v f) || uses_edge_at old v f in
    ap not (false_from_ne_true (list_any (passes (uses_vert v)) mid.faces) (λ h.
    let a = any_at (passes (uses_vert v)) mid.faces None h in
    let there = ap (λ (ts : List (Option FaceRec)). at ts a.place) is ∙ at_kept test old.faces a.place in
    let t = passes_kept test (uses_vert v) (at old.faces a.place) (ap (passes (uses_vert v)) (sym there) ∙ a.passed) in
    let allowed = list_all-All (allows met) old.faces can a.place None
    (passes_below (uses_vert v) old.faces a.place t.0) in
    by_face (at old.faces a.place) t.0 t.1 allowed))
  where
    by_face : (o : Option FaceRec) → passes (uses_vert v) o ≡ true
        → passes (λ (f : FaceRec). not (uses_edge_at old v f)) o ≡ true
        → allows (λ (f : FaceRec). not (uses_vert v f) || uses_edge_at old v f) o ≡ true → ⊥
    by_face None a b h = false≢true a
    by_face (Some f) a b h = clash (uses_vert v f) (uses_edge_at old v f) a b h
