-- One side of a polygon after another.
use Rattle.std.proofs.Common.{◌≡◌, ◌≢◌, ℕ, ◌+◌, ◌<◌, ◌≤◌, List, [], ◌∷◌, ◌++◌, length, take, drop, get_or, refl, sym, ap, ◌∙◌}
use Rattle.std.proofs.Common.{subst, arith, true, Bool, false, cond, not, Option, is_some}
use Rattle.std.specs.List.{zip}
use Rattle.std.proofs.lemmas.List.{length-take, take-append-drop, take_all}
use Rattle.mesh_model.specs.Table.{IsThere}
use Rattle.mesh_model.specs.Complex.{Complex}
use Rattle.mesh_model.specs.Incidence.{edge_joining, sides}
use Rattle.mesh_model.specs.Making.{edge_between, edges_along}
use Rattle.mesh_model.specs.Valid.{are_distinct}
use Rattle.mesh_model.specs.declared.names.VertName.{VertName}
use Rattle.mesh_model.specs.declared.names.EdgeName.{EdgeName}
use Rattle.mesh_model.proofs.Polygons.{after, after-below, distinct-at, get_or-sides, length-sides}
use Rattle.op_basic.specs.Searching.{next_place, side_at, is_missing, missing}
use Rattle.op_basic.proofs.SideEdges.{Side, only_edges, along_more, along_more_names, length-along, zip_more, longer-along}
use Rattle.op_basic.proofs.SideEdges.{along-append, missing_few}
use Rattle.op_basic.proofs.MadeFaces.{after-other}

abbrev none : VertName
none = record { 0 = 0 }

-- the side at a position
pub side_is : (vs : List VertName) (i next : ℕ) → i < length vs → next ≡ next_place (length vs) i
    → side_at vs i ≡ (get_or vs i none, get_or vs next none)
side_is vs i next less is = get_or-sides vs i none none less
    ∙ ap (λ (k : ℕ). (get_or vs i none, get_or vs k none)) (sym is)

pub side_differs : (vs : List VertName) (i next : ℕ) → 3 ≤ length vs → are_distinct vs ≡ true → i < length vs
    → next ≡ next_place (length vs) i → (get_or vs i none).0 ≢ (get_or vs next none).0
side_differs vs i next least distinct less is same =
    let after_i = after-below (length vs) i less in
    after-other (length vs) i least less
    (distinct-at vs distinct i (after (length vs) i) none less after_i
    (same ∙ ap (λ (k : ℕ). (get_or vs k none).0) is))

-- the vertices stay
pub there_along : (c m : Complex) (ss : List Side) (n : ℕ) → m ≡ (edges_along c ss).0 → IsThere c.verts n
    → IsThere m.verts n
there_along c m ss n is there =
    subst (λ (x : Complex). IsThere x.verts n) (sym (is ∙ only_edges c ss)) there

-- there are never more edges than at last
fewer : (c : Complex) (ss : List Side) (i : ℕ)
    → length (edges_along c (take i ss)).0.edges ≤ length (edges_along c ss).0.edges
fewer c ss i =
    let same : (edges_along c ss).0 ≡ (edges_along (edges_along c (take i ss)).0 (drop i ss)).0 =
    ap (λ (xs : List Side). (edges_along c xs).0) (sym (take-append-drop i ss))
    ∙ along-append c (take i ss) (drop i ss) in
    rw same (longer-along (edges_along c (take i ss)).0 (drop i ss))

module _ (c m : Complex) (vs : List VertName) (i next : ℕ) (less : i < length vs)
    (is : next ≡ next_place (length vs) i) (so_far : m ≡ (edges_along c (take i (sides vs))).0) where
  on_side : i < length (sides vs)
  on_side = omega (arith, length-sides vs)

  made : (edge_between m (get_or vs i none) (get_or vs next none)) ≡ (edge_between (edges_along c (take i (sides vs))).0
      (side_at vs i).0 (side_at vs i).1)
  made = ap (λ (x : Complex). edge_between x (get_or vs i none) (get_or vs next none)) so_far
      ∙ ap (λ (s : Side). edge_between (edges_along c (take i (sides vs))).0 s.0 s.1) (sym (side_is vs i next less is))

  pub now_more : (n : Complex) → n ≡ (edge_between m (get_or vs i none) (get_or vs next none)).0
      → n ≡ (edges_along c (take (i + 1) (sides vs))).0
  now_more n call = call ∙ ap (λ (p : Complex × EdgeName). p.0) made
      ∙ sym (along_more c (sides vs) i (none, none) on_side)

  pub few_more : (most : ℕ) → length (edges_along c (sides vs)).0.edges ≤ most
      → length (edge_between m (get_or vs i none) (get_or vs next none)).0.edges ≤ most
  few_more most few =
      let all = now_more (edge_between m (get_or vs i none) (get_or vs next none)).0 refl in
      let long = ap (λ (x : Complex). length x.edges) all in
      omega (arith, fewer c (sides vs) (i + 1))

  pub corners_more : (items after : List (VertName × EdgeName)) (e : EdgeName)
      → items ≡ zip (take i vs) (edges_along c (take i (sides vs))).1
      → e ≡ (edge_between m (get_or vs i none) (get_or vs next none)).1
      → after ≡ items ++ (get_or vs i none, e) ∷ []
      → after ≡ zip (take (i + 1) vs) (edges_along c (take (i + 1) (sides vs))).1
  corners_more items after e before name push =
      let es = (edges_along c (take i (sides vs))).1 in
      let long : length es ≡ length (take i vs) = omega (
        arith,
        length-along c (take i (sides vs)),
        length-take i (sides vs),
        length-take i vs,
        length-sides vs,
      ) in
      let name_is = name ∙ ap (λ (p : Complex × EdgeName). p.1) made in
      push ∙ ap (λ (ks : List (VertName × EdgeName)). ks ++ (get_or vs i none, e) ∷ []) before
      ∙ zip_more vs es i none e less long
      ∙ ap (λ (ds : List EdgeName). zip (take (i + 1) vs) ds) (ap (λ (d : EdgeName). es ++ d ∷ []) name_is
      ∙ sym (along_more_names c (sides vs) i (none, none) on_side))

-- one more where a test holds
abbrev pub one_if : Bool → ℕ
one_if b = cond b 1 0

-- what the search between the two vertices of a side tells
pub told_missing : (c : Complex) (vs : List VertName) (i next : ℕ) (found : Option EdgeName) → i < length vs
    → next ≡ next_place (length vs) i → found ≡ edge_joining c.edges (get_or vs i none) (get_or vs next none)
    → one_if (not (is_some found)) ≡ one_if (is_missing c (side_at vs i))
told_missing c vs i next found less is told =
    ap (λ (o : Option EdgeName). one_if (not (is_some o))) told
    ∙ ap (λ (s : Side). one_if (is_missing c s)) (sym (side_is vs i next less is))

at_most_one : (b : Bool) → one_if b ≤ 1
at_most_one true = omega arith
at_most_one false = omega arith

-- no more sides are missing than have been seen
pub missing_before : (c : Complex) (vs : List VertName) (i k : ℕ) (s : Side) → i < length vs
    → k ≡ one_if (is_missing c s) → missing c (take i (sides vs)) + k ≤ length vs
missing_before c vs i k s less is =
    let few = missing_few c (take i (sides vs)) in
    let long = length-take i (sides vs) in
    let one = at_most_one (is_missing c s) in
    omega (arith, length-sides vs)

-- no side is left
pub sides_all : (c : Complex) (vs : List VertName) (i : ℕ) → length vs ≤ i
    → edges_along c (take i (sides vs)) ≡ edges_along c (sides vs)
sides_all c vs i past = ap (edges_along c) (take_all i (sides vs) (omega (arith, length-sides vs)))

pub missing_all : (c : Complex) (vs : List VertName) (i : ℕ) → length vs ≤ i
    → missing c (take i (sides vs)) ≡ missing c (sides vs)
missing_all c vs i past = ap (missing c) (take_all i (sides vs) (omega (arith, length-sides vs)))
