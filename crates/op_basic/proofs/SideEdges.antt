-- Edges that are found or made along sides: what they leave, and how many there are.
use Rattle.std.proofs.Common.{◌≡◌, ◌≢◌, ℕ, zero, suc, ◌+◌, ◌<◌, ◌≤◌, Bool, true, false, not, cond, List, [], ◌∷◌}
use Rattle.std.proofs.Common.{◌++◌, length, length-append, take, get_or, refl, sym, ap, ◌∙◌, subst, arith, Option, Some}
use Rattle.std.proofs.Common.{None, is_some, append_assoc}
use Rattle.std.specs.Option.{option_or}
use Rattle.std.specs.List.{All, zip}
use Rattle.std.proofs.lemmas.List.{take_more, take_all, length_push, append-nil}
use Rattle.std.proofs.lemmas.List.Elements.{All-head, All-tail, All-append}
use Rattle.std.proofs.lemmas.List.Sums.{sum_by-cons, count_by-le-length}
use Rattle.cust_data.proofs.MixedCells.{zip-append}
use Rattle.mesh_model.specs.Table.{IsThere, passes}
use Rattle.mesh_model.specs.Complex.{Complex}
use Rattle.mesh_model.specs.Incidence.{joins, edge_joining}
use Rattle.mesh_model.specs.Making.{edge_from_to, with_found, edge_between, edges_along}
use Rattle.mesh_model.specs.Valid.{IsSound}
use Rattle.mesh_model.specs.declared.limits.TheConstants.{MAX_EDGES}
use Rattle.mesh_model.specs.declared.names.VertName.{VertName}
use Rattle.mesh_model.specs.declared.names.EdgeName.{EdgeName}
use Rattle.mesh_model.specs.declared.records.VertRec.{VertRec}
use Rattle.mesh_model.specs.declared.records.EdgeRec.{EdgeRec}
use Rattle.mesh_model.proofs.Edges.{joins-itself}
use Rattle.mesh_model.proofs.Indexing.{edge_joining-push}
use Rattle.mesh_model.proofs.KernelMakings.{IsValid-with_edge_like, IsSimple-with_edge_like}
use Rattle.mesh_model.proofs.Makings.{JoinsNone-edge_joining}
use Rattle.op_basic.specs.Searching.{is_missing, missing}

abbrev pub Side : Type 0
Side = VertName × VertName

-- ---- ONE SIDE AFTER ANOTHER

pub along-append : (c : Complex) (xs ys : List Side)
    → (edges_along c (xs ++ ys)).0 ≡ (edges_along (edges_along c xs).0 ys).0
along-append c [] ys = refl
along-append c (x ∷ xs) ys = along-append (edge_between c x.0 x.1).0 xs ys

along-append_names : (c : Complex) (xs ys : List Side)
    → (edges_along c (xs ++ ys)).1 ≡ (edges_along c xs).1 ++ (edges_along (edges_along c xs).0 ys).1
along-append_names c [] ys = refl
along-append_names c (x ∷ xs) ys =
    ap (λ (es : List EdgeName). (edge_between c x.0 x.1).1 ∷ es) (along-append_names (edge_between c x.0 x.1).0 xs ys)

-- one side more
pub along_more : (c : Complex) (ss : List Side) (i : ℕ) (d : Side) → i < length ss
    → (edges_along c (take (i + 1) ss)).0
    ≡ (edge_between (edges_along c (take i ss)).0 (get_or ss i d).0 (get_or ss i d).1).0
along_more c ss i d less = ap (λ (xs : List Side). (edges_along c xs).0) (take_more ss i d less)
    ∙ along-append c (take i ss) (get_or ss i d ∷ [])

pub along_more_names : (c : Complex) (ss : List Side) (i : ℕ) (d : Side) → i < length ss
    → (edges_along c (take (i + 1) ss)).1
    ≡ (edges_along c (take i ss)).1
    ++ (edge_between (edges_along c (take i ss)).0 (get_or ss i d).0 (get_or ss i d).1).1 ∷ []
along_more_names c ss i d less = ap (λ (xs : List Side). (edges_along c xs).1) (take_more ss i d less)
    ∙ along-append_names c (take i ss) (get_or ss i d ∷ [])

pub along_all : (c : Complex) (ss : List Side) (i : ℕ) → length ss ≤ i → edges_along c (take i ss) ≡ edges_along c ss
along_all c ss i past = ap (edges_along c) (take_all i ss past)

-- one corner more
pub zip_more : (vs : List VertName) (es : List EdgeName) (i : ℕ) (d : VertName) (e : EdgeName) → i < length vs
    → length es ≡ length (take i vs)
    → zip (take i vs) es ++ (get_or vs i d, e) ∷ [] ≡ zip (take (i + 1) vs) (es ++ e ∷ [])
zip_more vs es i d e less long =
    sym (ap (λ (ws : List VertName). zip ws (es ++ e ∷ [])) (take_more vs i d less)
    ∙ zip-append (take i vs) (get_or vs i d ∷ []) es (e ∷ []) (sym long))

pub length-along : (c : Complex) (ss : List Side) → length (edges_along c ss).1 ≡ length ss
length-along c [] = refl
length-along c (s ∷ ss) = let rest = length-along (edge_between c s.0 s.1).0 ss in omega arith

-- ---- ONLY EDGES ARE MORE

-- a table with records more
abbrev pub IsMore : {X : Type 0} → List (Option X) → List (Option X) → Type 0
IsMore {X} old new = (more : List (Option X)) × (new ≡ old ++ more) × All (λ (o : Option X). is_some o ≡ true) more

only_found : (c : Complex) (v w : VertName) (found : Option EdgeName)
    → (with_found c v w found).0 ≡ record c { edges = (with_found c v w found).0.edges }
only_found c v w None = refl
only_found c v w (Some e) = refl

pub only_edges : (c : Complex) (ss : List Side)
    → (edges_along c ss).0 ≡ record c { edges = (edges_along c ss).0.edges }
only_edges c [] = refl
only_edges c (s ∷ ss) =
    let d : Complex = (edge_between c s.0 s.1).0 in
    only_edges d ss ∙ ap (λ (x : Complex). record x { edges = (edges_along d ss).0.edges })
    (only_found c s.0 s.1 (edge_joining c.edges s.0 s.1))

more_found : (c : Complex) (v w : VertName) (found : Option EdgeName) → IsMore c.edges (with_found c v w found).0.edges
more_found c v w None = (Some (edge_from_to c v w) ∷ [], refl, λ i d less. one i d less)
  where
    one : (i : ℕ) (d : Option EdgeRec) → i < 1 → is_some (get_or (Some (edge_from_to c v w) ∷ []) i d) ≡ true
    one zero d less = refl
    one (suc i) d less = absurd (omega arith)
more_found c v w (Some e) = ([], sym (append-nil c.edges), λ i d less. absurd (omega arith))

pub more_along : (c : Complex) (ss : List Side) → IsMore c.edges (edges_along c ss).0.edges
more_along c [] = ([], sym (append-nil c.edges), λ i d less. absurd (omega arith))
more_along c (s ∷ ss) =
    let here = more_found c s.0 s.1 (edge_joining c.edges s.0 s.1) in
    let rest = more_along (edge_between c s.0 s.1).0 ss in (
      here.0 ++ rest.0,
      rest.1 ∙ ap (λ (es : List (Option EdgeRec)). es ++ rest.0) here.1
          ∙ append_assoc c.edges here.0 rest.0,
      All-append (λ (o : Option EdgeRec). is_some o ≡ true) here.0 rest.0 here.2 rest.2,
    )

longer-found : (c : Complex) (v w : VertName) (found : Option EdgeName)
    → length c.edges ≤ length (with_found c v w found).0.edges
longer-found c v w None = omega (arith, length-append c.edges (Some (edge_from_to c v w) ∷ []))
longer-found c v w (Some e) = omega arith

pub longer-along : (c : Complex) (ss : List Side) → length c.edges ≤ length (edges_along c ss).0.edges
longer-along c [] = omega arith
longer-along c (s ∷ ss) = omega (
  arith,
  longer-found c s.0 s.1 (edge_joining c.edges s.0 s.1),
  longer-along (edge_between c s.0 s.1).0 ss,
)

-- ---- THE EDGES OF THE SIDES

keeps-found : (c : Complex) (v w x y : VertName) (found : Option EdgeName) (e : EdgeName)
    → edge_joining c.edges x y ≡ Some e → edge_joining (with_found c v w found).0.edges x y ≡ Some e
keeps-found c v w x y None e h = edge_joining-push c.edges (Some (edge_from_to c v w)) x y
    ∙ ap (λ (o : Option EdgeName). option_or o (cond (passes (joins x y) (Some (edge_from_to c v w)))
    (let e : EdgeName = record { 0 = length c.edges } in Some e) None)) h
keeps-found c v w x y (Some d) e h = h

keeps-along : (c : Complex) (ss : List Side) (x y : VertName) (e : EdgeName) → edge_joining c.edges x y ≡ Some e
    → edge_joining (edges_along c ss).0.edges x y ≡ Some e
keeps-along c [] x y e h = h
keeps-along c (s ∷ ss) x y e h = keeps-along (edge_between c s.0 s.1).0 ss x y e
    (keeps-found c s.0 s.1 x y (edge_joining c.edges s.0 s.1) e h)

made-found : (c : Complex) (v w : VertName) (found : Option EdgeName) → edge_joining c.edges v w ≡ found
    → edge_joining (with_found c v w found).0.edges v w ≡ Some (with_found c v w found).1
made-found c v w None h =
    let new : EdgeName = record { 0 = length c.edges } in
    edge_joining-push c.edges (Some (edge_from_to c v w)) v w
    ∙ ap (λ (o : Option EdgeName). option_or o (cond (joins v w (edge_from_to c v w)) (Some new) None)) h
    ∙ ap (λ (b : Bool). option_or None (cond b (Some new) None)) (joins-itself (edge_from_to c v w))
made-found c v w (Some e) h = h

-- each name is that of the edge that joins its side
pub joined_along : (c : Complex) (ss : List Side) (i : ℕ) (d : Side) (e : EdgeName) → i < length ss
    → edge_joining (edges_along c ss).0.edges (get_or ss i d).0 (get_or ss i d).1
    ≡ Some (get_or (edges_along c ss).1 i e)
joined_along c [] i d e less = absurd (omega arith)
joined_along c (s ∷ ss) zero d e less =
    let found = edge_between c s.0 s.1 in
    keeps-along found.0 ss s.0 s.1 found.1 (made-found c s.0 s.1 (edge_joining c.edges s.0 s.1) refl)
joined_along c (s ∷ ss) (suc i) d e less = joined_along (edge_between c s.0 s.1).0 ss i d e (omega arith)

-- ---- HOW MANY ARE MISSING

-- no two sides have the same ends
abbrev pub NoneAgain : List Side → Type 0
NoneAgain [] = Unit {0}
NoneAgain (s ∷ ss) =
    All (λ (t : Side). joins t.0 t.1 (record { a = s.0; b = s.1; vals = [] }) ≡ false) ss × NoneAgain ss

same_missing : (c : Complex) (s t : Side) (found : Option EdgeName)
    → joins t.0 t.1 (record { a = s.0; b = s.1; vals = [] }) ≡ false
    → is_missing (with_found c s.0 s.1 found).0 t ≡ is_missing c t
same_missing c s t None other = ap (λ (o : Option EdgeName). not (is_some o))
    (edge_joining-push c.edges (Some (edge_from_to c s.0 s.1)) t.0 t.1
    ∙ ap (λ (b : Bool). option_or (edge_joining c.edges t.0 t.1)
    (cond b (let e : EdgeName = record { 0 = length c.edges } in Some e) None)) other
    ∙ or_none (edge_joining c.edges t.0 t.1))
  where
    or_none : (o : Option EdgeName) → option_or o None ≡ o
    or_none None = refl
    or_none (Some x) = refl
same_missing c s t (Some e) other = refl

missing-cons : (c : Complex) (s : Side) (ss : List Side) → missing c (s ∷ ss) ≡ cond (is_missing c s) 1 0 + missing c ss
unfolding missing
missing-cons c s ss = sum_by-cons (λ (t : Side). cond (is_missing c t) 1 0) s ss

missing-nil : (c : Complex) → missing c [] ≡ 0
unfolding missing
missing-nil c = refl

missing-same : (c d : Complex) (ss : List Side) → All (λ (t : Side). is_missing d t ≡ is_missing c t) ss
    → missing d ss ≡ missing c ss
missing-same c d [] h = missing-nil d ∙ sym (missing-nil c)
missing-same c d (s ∷ ss) h =
    let P : Side → Type 0 = λ t. is_missing d t ≡ is_missing c t in
    missing-cons d s ss
    ∙ ap (λ (b : Bool). cond b 1 0 + missing d ss) (All-head P s ss h)
    ∙ ap (λ (n : ℕ). cond (is_missing c s) 1 0 + n) (missing-same c d ss (All-tail P s ss h))
    ∙ sym (missing-cons c s ss)

longer_by : (c : Complex) (s : Side) (found : Option EdgeName) → edge_joining c.edges s.0 s.1 ≡ found
    → length (with_found c s.0 s.1 found).0.edges ≡ length c.edges + cond (is_missing c s) 1 0
longer_by c s None is = length_push c.edges (Some (edge_from_to c s.0 s.1))
    ∙ ap (λ (o : Option EdgeName). length c.edges + cond (not (is_some o)) 1 0) (sym is)
longer_by c s (Some e) is = (let none : length c.edges ≡ length c.edges + 0 = omega arith in none)
    ∙ ap (λ (o : Option EdgeName). length c.edges + cond (not (is_some o)) 1 0) (sym is)

pub length-missing : (c : Complex) (ss : List Side) → NoneAgain ss
    → length (edges_along c ss).0.edges ≡ length c.edges + missing c ss
length-missing c [] h = let none = missing-nil c in omega arith
length-missing c (s ∷ ss) h =
    let d = (edge_between c s.0 s.1).0 in
    let rest = length-missing d ss h.1 in
    let found = edge_joining c.edges s.0 s.1 in
    let same = missing-same c d ss (λ i t less. same_missing c s (get_or ss i t) found (h.0 i t less)) in
    let here = longer_by c s (edge_joining c.edges s.0 s.1) refl in
    let all = missing-cons c s ss in
    omega arith

-- one side after another
pub missing_none : (c : Complex) (ss : List Side) → missing c (take 0 ss) ≡ 0
missing_none c ss = missing-nil c

missing_push : (c : Complex) (ss : List Side) (s : Side)
    → missing c (ss ++ s ∷ []) ≡ missing c ss + cond (is_missing c s) 1 0
missing_push c [] s = let one = missing-cons c s [] in let none = missing-nil c in omega arith
missing_push c (t ∷ ss) s =
    let rest = missing_push c ss s in
    let before = missing-cons c t ss in
    let after = missing-cons c t (ss ++ s ∷ []) in
    omega arith

pub missing_more : (c : Complex) (ss : List Side) (i : ℕ) (d : Side) → i < length ss
    → missing c (take i ss) + cond (is_missing c (get_or ss i d)) 1 0 ≡ missing c (take (i + 1) ss)
missing_more c ss i d less =
    sym (ap (missing c) (take_more ss i d less) ∙ missing_push c (take i ss) (get_or ss i d))

pub missing_few : (c : Complex) (ss : List Side) → missing c ss ≤ length ss
unfolding missing
missing_few c ss = count_by-le-length (is_missing c) ss

-- ---- SOUND

-- the ends of a side are there, and differ
pub record IsSide (verts : List (Option VertRec)) (s : Side) : Type 0 where
  pub a : IsThere verts s.0.0
  pub b : IsThere verts s.1.0
  pub differ : s.0.0 ≢ s.1.0

sound_found : (c : Complex) (s : Side) (found : Option EdgeName) → edge_joining c.edges s.0 s.1 ≡ found
    → length (with_found c s.0 s.1 found).0.edges ≤ MAX_EDGES → IsSide c.verts s → IsSound c
    → IsSound (with_found c s.0 s.1 found).0
sound_found c s None is few side h = record {
  valid = IsValid-with_edge_like c s.0 s.1 None (omega (arith, length_push c.edges (Some (edge_from_to c s.0 s.1))))
      side.a side.b side.differ h.valid;
  simple = IsSimple-with_edge_like c s.0 s.1 None (JoinsNone-edge_joining c.edges s.0 s.1 is) h.simple;
}
sound_found c s (Some e) is few side h = h

verts_found : (c : Complex) (v w : VertName) (found : Option EdgeName) → (with_found c v w found).0.verts ≡ c.verts
verts_found c v w None = refl
verts_found c v w (Some e) = refl

pub IsSound-along : (c : Complex) (ss : List Side) → All (IsSide c.verts) ss
    → length (edges_along c ss).0.edges ≤ MAX_EDGES → IsSound c → IsSound (edges_along c ss).0
IsSound-along c [] are few h = h
IsSound-along c (s ∷ ss) are few h =
    let d = (edge_between c s.0 s.1).0 in
    let same = verts_found c s.0 s.1 (edge_joining c.edges s.0 s.1) in
    IsSound-along d ss (subst (λ (vs : List (Option VertRec)). All (IsSide vs) ss) (sym same)
    (All-tail (IsSide c.verts) s ss are)) few
    (sound_found c s (edge_joining c.edges s.0 s.1) refl (omega (arith, longer-along d ss))
    (All-head (IsSide c.verts) s ss are) h)
