-- The edges that are read are edges of the complex that was written, each at most once.
use Rattle.std.proofs.Common.{◌≡◌, ◌≢◌, ◌≤◌, ◌∙◌, ◌&&◌, ◌||◌, ◌==◌, ℕ, true, false, Bool, eqb, List}
use Rattle.std.proofs.Common.{[], ◌∷◌, ◌++◌, length, get_or, refl, sym, ap, arith, Option, Some, None, inl, inr, ◌⊎◌}
use Rattle.std.specs.List.{All, AllPairs, list_any}
use Rattle.std.proofs.lemmas.Bool.{or_cases, or_left, or_right, and_parts, and_from, eqb-true, eq-eqb, true≢false}
use Rattle.std.proofs.lemmas.Bool.{false_from_ne_true}
use Rattle.std.proofs.lemmas.List.{length_push}
use Rattle.std.proofs.lemmas.List.Kept.{AllPairs-cons}
use Rattle.std.proofs.lemmas.Bool.Decides.{Decides-eqb}
use Rattle.std.proofs.lemmas.Map.Made.{IsDistinct-from_AllPairs}
use Rattle.std.proofs.lemmas.Map.Steps.{length-le_from_distinct_below}
use Rattle.mesh_model.proofs.Lists.{list_any-none}
use Rattle.mesh_model.specs.Table.{at}
use Rattle.mesh_model.specs.Complex.{Complex}
use Rattle.mesh_model.specs.Incidence.{joins, edge_joining}
use Rattle.mesh_model.specs.Making.{edge_from_to, with_found, edge_between, edges_along}
use Rattle.mesh_model.specs.declared.names.VertName.{VertName}
use Rattle.mesh_model.specs.declared.names.EdgeName.{EdgeName}
use Rattle.mesh_model.specs.declared.records.EdgeRec.{EdgeRec}
use Rattle.mesh_model.proofs.Tables.{at-below, at-append, at-append_new, Extends-append}
use Rattle.mesh_model.proofs.Makings.{JoinsNone-edge_joining}
use Rattle.obj_text.specs.Returned.{joins_ranks}

abbrev pub Side : Type 0
Side = VertName × VertName

-- ---- PAIRS

-- two numbers are two others, in either order
abbrev pub is_pair : ℕ → ℕ → ℕ → ℕ → Bool
is_pair a b i j = ((a == i) && (b == j)) || ((a == j) && (b == i))

pub pair_cases : (a b i j : ℕ) → is_pair a b i j ≡ true → ((a ≡ i) × (b ≡ j)) ⊎ ((a ≡ j) × (b ≡ i))
pair_cases a b i j h =
    elim (or_cases ((a == i) && (b == j)) ((a == j) && (b == i)) h) [
      | inl x ↦ let both = and_parts (a == i) (b == j) x in inl (eqb-true a i both.0, eqb-true b j both.1)
      | inr y ↦ let both = and_parts (a == j) (b == i) y in inr (eqb-true a j both.0, eqb-true b i both.1)
    ]

pub pair_same : (a b i j : ℕ) → a ≡ i → b ≡ j → is_pair a b i j ≡ true
pair_same a b i j one two =
    or_left ((a == i) && (b == j)) ((a == j) && (b == i)) (and_from (a == i) (b == j) (eq-eqb a i one) (eq-eqb b j two))

pub pair_turned : (a b i j : ℕ) → a ≡ j → b ≡ i → is_pair a b i j ≡ true
pair_turned a b i j one two =
    or_right ((a == i) && (b == j)) ((a == j) && (b == i)) (and_from (a == j) (b == i) (eq-eqb a j one) (eq-eqb b i two))

-- two pairs that are a third are one another
pub pair_pair : (a b i j k l : ℕ) → is_pair a b i j ≡ true → is_pair a b k l ≡ true → is_pair i j k l ≡ true
pair_pair a b i j k l one two =
    elim (pair_cases a b i j one) [
      | inl p ↦ elim (pair_cases a b k l two) [
        | inl q ↦ pair_same i j k l (sym p.0 ∙ q.0) (sym p.1 ∙ q.1)
        | inr q ↦ pair_turned i j k l (sym p.0 ∙ q.0) (sym p.1 ∙ q.1)
      ]
      | inr p ↦ elim (pair_cases a b k l two) [
        | inl q ↦ pair_turned i j k l (sym p.1 ∙ q.1) (sym p.0 ∙ q.0)
        | inr q ↦ pair_same i j k l (sym p.1 ∙ q.1) (sym p.0 ∙ q.0)
      ]
    ]

pub pair_symm : (a b i j : ℕ) → is_pair a b i j ≡ true → is_pair i j a b ≡ true
pair_symm a b i j h = pair_pair a b i j a b h (pair_same a b a b refl refl)

pub pair_self : (a b : ℕ) → is_pair a b a b ≡ true
pair_self a b = pair_same a b a b refl refl

-- ---- TRACES

-- the edge at a name joins the vertices of two ranks
pub record IsAt (c : Complex) (i j n : ℕ) : Type 0 where
  pub edge : EdgeRec
  pub there : at c.edges n ≡ Some edge
  pub joins : joins_ranks c i j edge ≡ true

-- an edge that was read, beside the name of the one that was written
pub record IsTraced (c : Complex) (edges : List (Option EdgeRec)) (n : ℕ) : Type 0 where
  pub place : ℕ
  pub edge : EdgeRec
  pub there : at edges place ≡ Some edge
  pub written : IsAt c edge.a.0 edge.b.0 n

-- an edge that was read was written
pub record IsWritten (c : Complex) (r : EdgeRec) : Type 0 where
  pub name : ℕ
  pub written : IsAt c r.a.0 r.b.0 name

-- the edges that were read are edges of these names
pub record Traces (c : Complex) (edges : List (Option EdgeRec)) (names : List ℕ) : Type 0 where
  pub long : length names ≡ length edges
  pub distinct : AllPairs (λ (m n : ℕ). m ≢ n) names
  pub read : (n : ℕ) → list_any (eqb n) names ≡ true → IsTraced c edges n
  pub written : (k : ℕ) (r : EdgeRec) → at edges k ≡ Some r → IsWritten c r

pub no_traces : (c : Complex) → Traces c [] []
no_traces c = record {
  long = refl;
  distinct = λ i j d less within. absurd (omega arith);
  read = λ n among. absurd (true≢false (sym among));
  written = λ k r there. absurd (cc);
}

-- there are no more than were written
pub few_traced : (c : Complex) (edges : List (Option EdgeRec)) (names : List ℕ) → Traces c edges names
    → length edges ≤ length c.edges
few_traced c edges names h =
    let few : length names ≤ length c.edges = length-le_from_distinct_below names (length c.edges)
    (IsDistinct-from_AllPairs Decides-eqb names h.distinct)
    (λ q among. let it = (h.read q among).written in at-below c.edges q it.edge it.there) in
    omega (arith, few, h.long)

all_apart : (n : ℕ) (names : List ℕ) → list_any (eqb n) names ≡ false → All (λ (m : ℕ). n ≢ m) names
all_apart n names h = λ k d less same.
    true≢false (sym (eq-eqb n (get_or names k d) same) ∙ list_any-none (eqb n) names h k d less)

-- the same edge twice
same_edge : (c : Complex) (i j k l n : ℕ) (one : IsAt c i j n) (two : IsAt c k l n) → is_pair i j k l ≡ true
same_edge c i j k l n one two =
    let same : one.edge ≡ two.edge = some_same one.edge two.edge (sym one.there ∙ two.there) in
    let first : joins_ranks c i j two.edge ≡ true = sym (ap (joins_ranks c i j) same) ∙ one.joins in
    pair_pair _ _ i j k l first two.joins
  where
    some_same : (d e : EdgeRec) → Some d ≡ Some e → d ≡ e
    some_same d e h = cc

-- an edge that joins none of those that were read wasn't read
not_read : (c : Complex) (edges : List (Option EdgeRec)) (names : List ℕ) (v w : VertName) (n : ℕ) → Traces c edges names
    → IsAt c v.0 w.0 n → edge_joining edges v w ≡ None → list_any (eqb n) names ≡ false
not_read c edges names v w n h side none =
    false_from_ne_true (list_any (eqb n) names) (λ among.
    let it = h.read n among in
    let pair : joins v w it.edge ≡ true = same_edge c it.edge.a.0 it.edge.b.0 v.0 w.0 n it.written side in
    true≢false (sym pair ∙ JoinsNone-edge_joining edges v w none it.place it.edge it.there))

more_traced : (c : Complex) (edges : List (Option EdgeRec)) (r : EdgeRec) (n : ℕ) → IsTraced c edges n
    → IsTraced c (edges ++ Some r ∷ []) n
more_traced c edges r n it = record {
  place = it.place;
  edge = it.edge;
  there = Extends-append edges (Some r ∷ []) it.place it.edge it.there;
  written = it.written;
}

new_traced : (c : Complex) (edges : List (Option EdgeRec)) (r : EdgeRec) (n : ℕ) → IsAt c r.a.0 r.b.0 n
    → IsTraced c (edges ++ Some r ∷ []) n
new_traced c edges r n side = record {
  place = length edges;
  edge = r;
  there = at-append_new edges r;
  written = side;
}

one_traced : (c : Complex) (edges : List (Option EdgeRec)) (names : List ℕ) (r : EdgeRec) (n q : ℕ) → Traces c edges names
    → IsAt c r.a.0 r.b.0 n → list_any (eqb q) (n ∷ names) ≡ true → IsTraced c (edges ++ Some r ∷ []) q
one_traced c edges names r n q h side among =
    elim (or_cases (eqb q n) (list_any (eqb q) names) among) [
      | inl e ↦ rw (eqb-true q n e) (new_traced c edges r n side)
      | inr later ↦ more_traced c edges r q (h.read q later)
    ]

-- an edge more
push_traced : (c : Complex) (edges : List (Option EdgeRec)) (names : List ℕ) (r : EdgeRec) (n : ℕ) → Traces c edges names
    → IsAt c r.a.0 r.b.0 n → list_any (eqb n) names ≡ false → Traces c (edges ++ Some r ∷ []) (n ∷ names)
push_traced c edges names r n h side new = record {
  long = omega (arith, h.long, length_push edges (Some r));
  distinct = AllPairs-cons (λ (m n : ℕ). m ≢ n) n names (all_apart n names new) h.distinct;
  read = λ q among. one_traced c edges names r n q h side among;
  written = λ k x there. elim (at-append edges r x k there) [
    | inl old ↦ h.written k x old
    | inr last ↦ rw last.1 (record { name = n; written = side })
  ];
}

-- the names after a side more
abbrev names_after : List ℕ → ℕ → Option EdgeName → List ℕ
names_after names n None = n ∷ names
names_after names n (Some e) = names

found_traced : (c d : Complex) (names : List ℕ) (v w : VertName) (n : ℕ) (found : Option EdgeName)
    → edge_joining d.edges v w ≡ found → Traces c d.edges names → IsAt c v.0 w.0 n
    → Traces c (with_found d v w found).0.edges (names_after names n found)
found_traced c d names v w n None is h side =
    push_traced c d.edges names (edge_from_to d v w) n h side (not_read c d.edges names v w n h side is)
found_traced c d names v w n (Some e) is h side = h

-- sides of the complex that was written
abbrev pub AreSides : Complex → List Side → Type 0
AreSides c [] = Unit {0}
AreSides c (s ∷ ss) = ((n : ℕ) × IsAt c s.0.0 s.1.0 n) × AreSides c ss

-- edges that are made along them
pub along_traced : (c d : Complex) (names : List ℕ) (ss : List Side) → AreSides c ss → Traces c d.edges names
    → (more : List ℕ) × Traces c (edges_along d ss).0.edges more
along_traced c d names [] sides h = (names, h)
along_traced c d names (s ∷ ss) sides h =
    let found : Option EdgeName = edge_joining d.edges s.0 s.1 in
    along_traced c (edge_between d s.0 s.1).0 (names_after names sides.0.0 found) ss sides.1
    (found_traced c d names s.0 s.1 sides.0.0 found refl h sides.0.1)
