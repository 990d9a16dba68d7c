-- Lemmas on edges that are made along sides.
use Rattle.std.proofs.Common.{◌≡◌, ◌<◌, ◌≤◌, ◌+◌, ◌∙◌, ℕ, Bool, true, false, cond, List, [], ◌∷◌, ◌++◌, length}
use Rattle.std.proofs.Common.{length-append, take, drop, refl, sym, ap, ap₂, arith, Option, Some, None, is_some, nat_le}
use Rattle.std.proofs.Common.{get_or}
use Rattle.std.specs.Option.{option_or}
use Rattle.std.specs.List.{All}
use Rattle.std.proofs.lemmas.Bool.{false≢true, le-leb, lt-leb, leb-false}
use Rattle.std.proofs.lemmas.List.{take-append-drop, take_more, take_all}
use Rattle.mesh_model.specs.Table.{passes}
use Rattle.mesh_model.specs.Complex.{Complex}
use Rattle.mesh_model.specs.Incidence.{joins, edge_joining}
use Rattle.mesh_model.specs.Making.{edge_from_to, with_found, edge_between, edges_along}
use Rattle.mesh_model.proofs.Edges.{joins-itself}
use Rattle.mesh_model.proofs.Indexing.{edge_joining-push}
use Rattle.mesh_model.specs.declared.limits.TheConstants.{MAX_EDGES}
use Rattle.mesh_model.specs.declared.names.VertName.{VertName}
use Rattle.mesh_model.specs.declared.names.EdgeName.{EdgeName}
use Rattle.obj_reader.specs.Holding.{OnlyEdges, IsSide}

abbrev pub Side : Type 0
Side = VertName × VertName

-- ONE SIDE AFTER ANOTHER

-- the sides of two lists
pub along-append : (c : Complex) (xs ys : List Side)
    → (edges_along c (xs ++ ys)).0 ≡ (edges_along (edges_along c xs).0 ys).0
along-append c [] ys = refl
along-append c (x ∷ xs) ys = along-append (edge_between c x.0 x.1).0 xs ys

-- one side more
pub along-push : (c : Complex) (xs : List Side) (s : Side)
    → (edges_along c (xs ++ s ∷ [])).0 ≡ (edge_between (edges_along c xs).0 s.0 s.1).0
along-push c xs s = along-append c xs (s ∷ [])

longer-found : (c : Complex) (v w : VertName) (found : Option EdgeName)
    → length c.edges ≤ length (with_found c v w found).0.edges
longer-found c v w None = omega (arith, length-append c.edges (Some (edge_from_to c v w) ∷ []))
longer-found c v w (Some e) = omega arith

pub longer-along : (c : Complex) (ss : List Side) → length c.edges ≤ length (edges_along c ss).0.edges
longer-along c [] = omega arith
longer-along c (s ∷ ss) = omega (
  arith,
  longer-found c s.0 s.1 (edge_joining c.edges s.0 s.1),
  longer-along (edge_between c s.0 s.1).0 ss,
)

-- with a side too many there are too many in the end
pub longer-all : (c : Complex) (ss : List Side) (i most : ℕ) → most < length (edges_along c (take i ss)).0.edges
    → most < length (edges_along c ss).0.edges
longer-all c ss i most over =
    let same : (edges_along c ss).0 ≡ (edges_along (edges_along c (take i ss)).0 (drop i ss)).0 =
    ap (λ (xs : List Side). (edges_along c xs).0) (sym (take-append-drop i ss))
    ∙ along-append c (take i ss) (drop i ss) in
    let long : length (edges_along c (take i ss)).0.edges
    ≤ length (edges_along (edges_along c (take i ss)).0 (drop i ss)).0.edges =
    longer-along (edges_along c (take i ss)).0 (drop i ss) in
    rw same (omega arith)

-- ALL SIDES, ONCE MORE

layers-found : (c : Complex) (v w : VertName) (found : Option EdgeName) → (with_found c v w found).0.layers ≡ c.layers
layers-found c v w None = refl
layers-found c v w (Some e) = refl

pub layers-along : (c : Complex) (ss : List Side) → (edges_along c ss).0.layers ≡ c.layers
layers-along c [] = refl
layers-along c (s ∷ ss) = layers-along (edge_between c s.0 s.1).0 ss
    ∙ layers-found c s.0 s.1 (edge_joining c.edges s.0 s.1)

keeps-found : (c : Complex) (v w x y : VertName) (found : Option EdgeName) (e : EdgeName)
    → edge_joining c.edges x y ≡ Some e → edge_joining (with_found c v w found).0.edges x y ≡ Some e
keeps-found c v w x y None e h = edge_joining-push c.edges (Some (edge_from_to c v w)) x y
    ∙ ap (λ (o : Option EdgeName). option_or o (cond (passes (joins x y) (Some (edge_from_to c v w)))
    (let e : EdgeName = record { 0 = length c.edges } in Some e) None)) h
keeps-found c v w x y (Some d) e h = h

pub keeps-along : (c : Complex) (ss : List Side) (x y : VertName) (e : EdgeName) → edge_joining c.edges x y ≡ Some e
    → edge_joining (edges_along c ss).0.edges x y ≡ Some e
keeps-along c [] x y e h = h
keeps-along c (s ∷ ss) x y e h = keeps-along (edge_between c s.0 s.1).0 ss x y e
    (keeps-found c s.0 s.1 x y (edge_joining c.edges s.0 s.1) e h)

made-found : (c : Complex) (v w : VertName) (found : Option EdgeName) → edge_joining c.edges v w ≡ found
    → edge_joining (with_found c v w found).0.edges v w ≡ Some (with_found c v w found).1
made-found c v w None h =
    let new : EdgeName = record { 0 = length c.edges } in
    edge_joining-push c.edges (Some (edge_from_to c v w)) v w
    ∙ ap₂ (λ (o : Option EdgeName) (b : Bool). option_or o (cond b (Some new) None)) h
    (joins-itself (edge_from_to c v w))
made-found c v w (Some e) h = h

-- the edges of these names are those that join the sides
abbrev pub Are : Complex → List Side → List EdgeName → Type 0
Are c [] [] = Unit {0}
Are c [] (e ∷ es) = ⊥
Are c (s ∷ ss) [] = ⊥
Are c (s ∷ ss) (e ∷ es) = (edge_joining c.edges s.0 s.1 ≡ Some e) × Are c ss es

pub are-along : (c : Complex) (ss : List Side) → Are (edges_along c ss).0 ss (edges_along c ss).1
are-along c [] = tt
are-along c (s ∷ ss) =
    let found = edge_between c s.0 s.1 in (
      keeps-along found.0 ss s.0 s.1 found.1 (made-found c s.0 s.1 (edge_joining c.edges s.0 s.1) refl),
      are-along found.0 ss,
    )

again-here : (c : Complex) (v w : VertName) (e : EdgeName) → edge_joining c.edges v w ≡ Some e
    → edge_between c v w ≡ (c, e)
again-here c v w e h = ap (with_found c v w) h

again : (c : Complex) (ss : List Side) (es : List EdgeName) → Are c ss es → edges_along c ss ≡ (c, es)
again c [] [] h = refl
again c [] (e ∷ es) h = absurd h
again c (s ∷ ss) [] h = absurd h
again c (s ∷ ss) (e ∷ es) h =
    ap (λ (found : Complex × EdgeName). let rest = edges_along found.0 ss in (rest.0, found.1 ∷ rest.1))
    (again-here c s.0 s.1 e h.0)
    ∙ ap (λ (rest : Complex × List EdgeName). (rest.0, e ∷ rest.1)) (again c ss es h.1)

pub edges_along-again : (c : Complex) (ss : List Side) → edges_along (edges_along c ss).0 ss ≡ edges_along c ss
edges_along-again c ss = again (edges_along c ss).0 ss (edges_along c ss).1 (are-along c ss)

-- ONLY EDGES

pub only_found : (c : Complex) (v w : VertName) (found : Option EdgeName) → OnlyEdges c (with_found c v w found).0
only_found c v w None = refl
only_found c v w (Some e) = refl

-- edges along sides change nothing else
pub only_edges : (c : Complex) (ss : List Side) → OnlyEdges c (edges_along c ss).0
only_edges c [] = refl
only_edges c (s ∷ ss) =
    let d : Complex = (edge_between c s.0 s.1).0 in
    only_edges d ss ∙ ap (λ (x : Complex). record x { edges = (edges_along d ss).0.edges })
    (only_found c s.0 s.1 (edge_joining c.edges s.0 s.1))

-- THE LIMIT

full_found : (c : Complex) (v w : VertName) (found : Option EdgeName) → MAX_EDGES ≤ length c.edges
    → length c.edges ≤ MAX_EDGES
    → is_some found ≡ nat_le (length (with_found c v w found).0.edges) MAX_EDGES
full_found c v w None full few =
    sym (lt-leb (length (with_found c v w None).0.edges) MAX_EDGES
    (omega (arith, length-append c.edges (Some (edge_from_to c v w) ∷ []))))
full_found c v w (Some e) full few = sym (le-leb (length c.edges) MAX_EDGES few)

-- at the limit an edge fits just where it is there
pub edge_full : (c : Complex) (v w : VertName) → MAX_EDGES ≤ length c.edges → length c.edges ≤ MAX_EDGES
    → is_some (edge_joining c.edges v w) ≡ nat_le (length (edge_between c v w).0.edges) MAX_EDGES
edge_full c v w full few = full_found c v w (edge_joining c.edges v w) full few

same_found : (c : Complex) (v w : VertName) (found : Option EdgeName) → is_some found ≡ true
    → (with_found c v w found).0 ≡ c
same_found c v w None some = absurd (false≢true some)
same_found c v w (Some e) some = refl

-- an edge that is there changes nothing
pub edge_there : (c : Complex) (v w : VertName) → is_some (edge_joining c.edges v w) ≡ true → (edge_between c v w).0 ≡ c
edge_there c v w some = same_found c v w (edge_joining c.edges v w) some

-- THE LOOP OVER SIDES

-- one side more
pub along_next : (c : Complex) (ss : List Side) (i : ℕ) (d : Side) → i < length ss
    → (edges_along c (take (i + 1) ss)).0 ≡ (edge_between (edges_along c (take i ss)).0 (get_or ss i d).0
    (get_or ss i d).1).0
along_next c ss i d here =
    ap (λ (xs : List Side). (edges_along c xs).0) (take_more ss i d here) ∙ along-push c (take i ss) (get_or ss i d)

-- no side is left
pub along_all : (c : Complex) (ss : List Side) (i : ℕ) → length ss ≤ i
    → (edges_along c (take i ss)).0 ≡ (edges_along c ss).0
along_all c ss i past = ap (λ (xs : List Side). (edges_along c xs).0) (take_all i ss past)

-- the side that is one too many makes too many of all
pub along_over : (c now : Complex) (ss : List Side) (i : ℕ) (d : Side) → i < length ss
    → now ≡ (edges_along c (take i ss)).0
    → nat_le (length (edge_between now (get_or ss i d).0 (get_or ss i d).1).0.edges) MAX_EDGES ≡ false
    → nat_le (length (edges_along c ss).0.edges) MAX_EDGES ≡ false
along_over c now ss i d here made over =
    let s = get_or ss i d in
    let same : (edges_along c (take (i + 1) ss)).0 ≡ (edge_between now s.0 s.1).0 =
    along_next c ss i d here ∙ ap (λ (x : Complex). (edge_between x s.0 s.1).0) (sym made) in
    let many : MAX_EDGES < length (edges_along c (take (i + 1) ss)).0.edges =
    rw same (leb-false (length (edge_between now s.0 s.1).0.edges) MAX_EDGES over) in
    lt-leb (length (edges_along c ss).0.edges) MAX_EDGES (longer-all c ss (i + 1) MAX_EDGES many)

-- after one side more
pub make_next : (c now next : Complex) (ss : List Side) (i : ℕ) (d : Side) → i < length ss
    → now ≡ (edges_along c (take i ss)).0
    → next ≡ (edge_between now (get_or ss i d).0 (get_or ss i d).1).0 → next ≡ (edges_along c (take (i + 1) ss)).0
make_next c now next ss i d here before made =
    made ∙ ap (λ (x : Complex). (edge_between x (get_or ss i d).0 (get_or ss i d).1).0) before
    ∙ sym (along_next c ss i d here)

-- the ends of all sides are there still
pub sides_kept : (c now : Complex) (ss ts : List Side) → now ≡ (edges_along c ts).0 → All (IsSide c.verts) ss
    → All (IsSide now.verts) ss
sides_kept c now ss ts made h = rw (ap (λ (x : Complex). x.verts) (made ∙ only_edges c ts)) h
