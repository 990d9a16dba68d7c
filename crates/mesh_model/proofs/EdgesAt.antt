-- The edges at a vertex: which they are, and what is known where there are just two.
use Rattle.std.proofs.Common.{◌≡◌, ◌≢◌, ℕ, zero, suc, ◌+◌, ◌<◌, Bool, true, false, not, cond, ◌||◌, eqb, ◌⊎◌, List, []}
use Rattle.std.proofs.Common.{◌∷◌, length, map, refl, sym, ap, ◌∙◌, subst, inl, inr, arith, Option, Some, None}
use Rattle.std.specs.Option.{unwrap_or}
use Rattle.std.specs.List.{All, list_any, filter, find, enumerate_from}
use Rattle.std.proofs.lemmas.List.Elements.{All-cons, All-nil, All-head, All-tail}
use Rattle.std.proofs.lemmas.Bool.{or_left, or_right, or_cases, eq-eqb, eqb-true, ne_eqb}
use Rattle.mesh_model.specs.Table.{at, passes}
use Rattle.mesh_model.specs.Complex.{Complex}
use Rattle.mesh_model.specs.Incidence.{has_end, edges_at}
use Rattle.mesh_model.specs.Euler.{other_edge}
use Rattle.mesh_model.specs.declared.names.VertName.{VertName}
use Rattle.mesh_model.specs.declared.names.EdgeName.{EdgeName}
use Rattle.mesh_model.specs.declared.records.EdgeRec.{EdgeRec}

-- the names from a number on at which an edge passes a test
abbrev names_from : (EdgeRec → Bool) → ℕ → List (Option EdgeRec) → List EdgeName
names_from test m table = map (λ e. record { 0 = e.0 }) (filter (λ e. passes test e.1) (enumerate_from m table))

-- one of them is a given number
abbrev holds_number : ℕ → List EdgeName → Bool
holds_number n es = list_any (λ (e : EdgeName). eqb e.0 n) es

-- how the first name stands before those of the rest, or doesn't
names-cons : (test : EdgeRec → Bool) (m : ℕ) (o : Option EdgeRec) (os : List (Option EdgeRec)) →
    ((passes test o ≡ true) × (names_from test m (o ∷ os) ≡ record { 0 = m } ∷ names_from test (m + 1) os))
    ⊎ ((passes test o ≡ false) × (names_from test m (o ∷ os) ≡ names_from test (m + 1) os))
names-cons test m o os = either (passes test o) refl
  where
    wrap : ℕ × Option EdgeRec → EdgeName
    wrap e = record { 0 = e.0 }

    either : (b : Bool) → passes test o ≡ b →
        ((passes test o ≡ true) × (names_from test m (o ∷ os) ≡ record { 0 = m } ∷ names_from test (m + 1) os))
        ⊎ ((passes test o ≡ false) × (names_from test m (o ∷ os) ≡ names_from test (m + 1) os))
    either true is = inl (
      is,
      ap (λ (b : Bool). map (λ (e : ℕ × Option EdgeRec). let d : EdgeName = record { 0 = e.0 } in
          d) (cond b ((m, o) ∷ filter (λ e. passes test e.1) (enumerate_from (m + 1) os))
          (filter (λ e. passes test e.1) (enumerate_from (m + 1) os)))) is,
    )
    either false is = inr (
      is,
      ap (λ (b : Bool). map (λ (e : ℕ × Option EdgeRec). let d : EdgeName = record { 0 = e.0 } in
          d) (cond b ((m, o) ∷ filter (λ e. passes test e.1) (enumerate_from (m + 1) os))
          (filter (λ e. passes test e.1) (enumerate_from (m + 1) os)))) is,
    )

-- what passes has its name among them
named : (test : EdgeRec → Bool) (m : ℕ) (table : List (Option EdgeRec)) (k n : ℕ) → m + k ≡ n
    → passes test (at table k) ≡ true → holds_number n (names_from test m table) ≡ true
named test m [] k n is pass = absurd (cc)
named test m (o ∷ os) zero n is pass = elim (names-cons test m o os) [
  | inl yes_ ↦ ap (holds_number n) yes_.1
      ∙ or_left (eqb m n) (holds_number n (names_from test (m + 1) os)) (eq-eqb m n (omega arith))
  | inr no_ ↦ absurd (let fails = no_.0 in cc)
]
named test m (o ∷ os) (suc k) n is pass =
    let later = named test (m + 1) os k n (omega arith) pass in
    elim (names-cons test m o os) [
      | inl yes_ ↦ ap (holds_number n) yes_.1 ∙ or_right (eqb m n) (holds_number n (names_from test (m + 1) os)) later
      | inr no_ ↦ ap (holds_number n) no_.1 ∙ later
    ]

-- each of them passes, and none is below the first number
abbrev IsNamed : (EdgeRec → Bool) → ℕ → List (Option EdgeRec) → EdgeName → Type 0
IsNamed test m table e = (k : ℕ) × (m + k ≡ e.0) × (passes test (at table k) ≡ true)

named_all : (test : EdgeRec → Bool) (m : ℕ) (table : List (Option EdgeRec))
    → All (IsNamed test m table) (names_from test m table)
named_all test m [] = All-nil (IsNamed test m [])
named_all test m (o ∷ os) =
    let P : EdgeName → Type 0 = IsNamed test m (o ∷ os) in
    let later : All (IsNamed test m (o ∷ os)) (names_from test (m + 1) os) = λ i d less. let it =
    named_all test (m + 1) os i d less in (suc it.0, omega (arith, it.1), it.2) in
    elim (names-cons test m o os) [
      | inl yes_ ↦ subst (All (IsNamed test m (o ∷ os))) (sym yes_.1)
          (All-cons (IsNamed test m (o ∷ os)) (record { 0 = m }) (names_from test (m + 1) os) (
            0,
            omega arith,
            yes_.0,
          ) later)
      | inr no_ ↦ subst (All (IsNamed test m (o ∷ os))) (sym no_.1) later
    ]

-- the second is above the first
rising : (test : EdgeRec → Bool) (m : ℕ) (table : List (Option EdgeRec)) (a b : EdgeName) (es : List EdgeName)
    → names_from test m table ≡ a ∷ b ∷ es → a.0 < b.0
rising test m [] a b es is = absurd (cc)
rising test m (o ∷ os) a b es is = elim (names-cons test m o os) [
  | inl yes_ ↦
      let both = sym yes_.1 ∙ is in
      let rest : names_from test (m + 1) os ≡ b ∷ es = cc in
      let first : m ≡ a.0 = ap (λ (e : EdgeName). e.0) (let it : record { 0 = m } ≡ a = cc in it) in
      let above = All-head (IsNamed test (m + 1) os) b es
      (subst (All (IsNamed test (m + 1) os)) rest (named_all test (m + 1) os)) in
      omega (arith, above.1)
  | inr no_ ↦ rising test (m + 1) os a b es (sym no_.1 ∙ is)
]

-- ---- JUST TWO

-- the other edge at a vertex is there and is another one, and no third edge has this end
pub record AreTwo (c : Complex) (v : VertName) (e : EdgeName) : Type 0 where
  pub other : passes (has_end v) (at c.edges (other_edge c v e).0) ≡ true
  pub differ : (other_edge c v e).0 ≢ e.0
  pub only : (n : ℕ) → passes (has_end v) (at c.edges n) ≡ true → (n ≡ e.0) ⊎ (n ≡ (other_edge c v e).0)

two_of : (c : Complex) (v : VertName) (e a b : EdgeName) → passes (has_end v) (at c.edges e.0) ≡ true
    → edges_at c v ≡ a ∷ b ∷ [] → AreTwo c v e
two_of c v e a b here are =
    let test : EdgeRec → Bool = has_end v in
    let below = rising (has_end v) 0 c.edges a b [] are in
    let all = subst (All (IsNamed (has_end v) 0 c.edges)) are (named_all (has_end v) 0 c.edges) in
    let at_a = All-head (IsNamed (has_end v) 0 c.edges) a (b ∷ []) all in
    let at_b = All-head (IsNamed (has_end v) 0 c.edges) b [] (All-tail (IsNamed (has_end v) 0 c.edges) a (b ∷ []) all)
    in
    let pass_a : passes (has_end v) (at c.edges a.0) ≡ true =
    ap (λ (n : ℕ). passes (has_end v) (at c.edges n)) (omega (arith, at_a.1)) ∙ at_a.2 in
    let pass_b : passes (has_end v) (at c.edges b.0) ≡ true =
    ap (λ (n : ℕ). passes (has_end v) (at c.edges n)) (omega (arith, at_b.1)) ∙ at_b.2 in
    let one_of : (n : ℕ) → passes (has_end v) (at c.edges n) ≡ true → (n ≡ a.0) ⊎ (n ≡ b.0) = λ n pass.
    elim (or_cases (eqb a.0 n) (eqb b.0 n || false) (sym (ap (holds_number n) are)
    ∙ named (has_end v) 0 c.edges n n (omega arith) pass)) [
      | inl is_a ↦ inl (sym (eqb-true a.0 n is_a))
      | inr rest ↦ elim (or_cases (eqb b.0 n) false rest)
          [ inl is_b ↦ inr (sym (eqb-true b.0 n is_b)) | inr none ↦ absurd (cc) ]
    ] in
    let found : other_edge c v e ≡ unwrap_or (find (λ (d : EdgeName). not (eqb d.0 e.0)) (a ∷ b ∷ [])) e =
    ap (λ (es : List EdgeName). unwrap_or (find (λ (d : EdgeName). not (eqb d.0 e.0)) es) e) are in
    elim (one_of e.0 here) [
      | inl is_a ↦
          let skip : eqb a.0 e.0 ≡ true = eq-eqb a.0 e.0 (sym is_a) in
          let take_b : eqb b.0 e.0 ≡ false = ne_eqb b.0 e.0 (λ same. absurd (omega arith)) in
          let is : other_edge c v e ≡ b = found ∙ picked_second a b e skip take_b in
          record {
            other = ap (λ (d : EdgeName). passes (has_end v) (at c.edges d.0)) is ∙ pass_b;
            differ = λ same. absurd (let is_b = ap (λ (d : EdgeName). d.0) is in omega arith);
            only = λ n pass. elim (one_of n pass) [
              | inl n_a ↦ inl (n_a ∙ sym is_a)
              | inr n_b ↦ inr (n_b
                  ∙ ap (λ (d : EdgeName). d.0) (sym is))
            ];
          }
      | inr is_b ↦
          let take_a : eqb a.0 e.0 ≡ false = ne_eqb a.0 e.0 (λ same. absurd (omega arith)) in
          let is : other_edge c v e ≡ a = found ∙ picked_first a b e take_a in
          record {
            other = ap (λ (d : EdgeName). passes (has_end v) (at c.edges d.0)) is ∙ pass_a;
            differ = λ same. absurd (let is_a = ap (λ (d : EdgeName). d.0) is in omega arith);
            only = λ n pass. elim (one_of n pass) [
              | inl n_a ↦ inr (n_a
                  ∙ ap (λ (d : EdgeName). d.0) (sym is))
              | inr n_b ↦ inl (n_b ∙ sym is_b)
            ];
          }
    ]
  where
    picked_first : (a b e : EdgeName) → eqb a.0 e.0 ≡ false
        → unwrap_or (find (λ (d : EdgeName). not (eqb d.0 e.0)) (a ∷ b ∷ [])) e ≡ a
    picked_first a b e other =
        ap (λ (t : Bool). unwrap_or (cond (not t) (Some a) (find (λ (d : EdgeName). not (eqb d.0 e.0)) (b ∷ []))) e)
        other

    picked_second : (a b e : EdgeName) → eqb a.0 e.0 ≡ true → eqb b.0 e.0 ≡ false
        → unwrap_or (find (λ (d : EdgeName). not (eqb d.0 e.0)) (a ∷ b ∷ [])) e ≡ b
    picked_second a b e same other =
        ap (λ (t : Bool). unwrap_or (cond (not t) (Some a) (find (λ (d : EdgeName). not (eqb d.0 e.0)) (b ∷ []))) e)
        same
        ∙ ap (λ (t : Bool). unwrap_or (cond (not t) (Some b) None) e) other

pub AreTwo-from_length : (c : Complex) (v : VertName) (e : EdgeName) → passes (has_end v) (at c.edges e.0) ≡ true
    → length (edges_at c v) ≡ 2 → AreTwo c v e
AreTwo-from_length c v e here long = by_list (edges_at c v) refl long
  where
    by_list : (es : List EdgeName) → edges_at c v ≡ es → length es ≡ 2 → AreTwo c v e
    by_list [] are count = absurd (omega arith)
    by_list (a ∷ []) are count = absurd (omega arith)
    by_list (a ∷ b ∷ []) are count = two_of c v e a b here are
    by_list (a ∷ b ∷ d ∷ es) are count = absurd (omega arith)
