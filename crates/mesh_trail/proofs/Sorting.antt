-- Entries in another order, and some of them left out.
use Rattle.std.proofs.Common.{◌≡◌, ◌≢◌, ℕ, suc, ◌<◌, Bool, true, false, cond, List, [], ◌∷◌, length, set, inl, inr, ◌⊎◌, refl, sym, ap, ◌∙◌, arith, Option, Some, None, get_or, length-set}
use Rattle.std.specs.Prelude.{slice_get}
use Rattle.std.specs.List.{swap, filter}
use Rattle.std.specs.List.Sorted.{IsPermutation}
use Rattle.std.specs.Ordering.{nat_cmp}
use Rattle.std.specs.Cmp.{nat_cmp_total}
use Rattle.std.specs.FinMap.{get, find, get-from_entries}
use Rattle.std.proofs.lemmas.List.Sorted.{IsPermutation-keeps, IsPermutation-sym, Contains-permutation}
use Rattle.std.proofs.lemmas.Option.{slice_get_within, slice_get-get_or, get_or_from_slice_get, none-some, same_Some}
use Rattle.mesh_trail.specs.declared.note_map.Entry.{Entry}
use Rattle.mesh_trail.specs.Tree.{pairs, names_of, IsAbsent}
use Rattle.mesh_model.proofs.NoteMaps.{find_here, find_there, key_cases}
use Rattle.mesh_model.proofs.Leads.{same_notes}
use Rattle.mesh_trail.proofs.Growth.{AreApart, find_at, cases_eq, get-set_same, get-set_other, get-absent}

-- ANOTHER ORDER

-- where an element of a swapped list stood
swap_from : {X : Type 0} (xs : List X) (i j k : ℕ) → i < length xs → j < length xs
    → (m : ℕ) × (slice_get (swap xs i j) k ≡ slice_get xs m)
    × (((k ≡ j) × (m ≡ i)) ⊎ ((k ≢ j) × (k ≡ i) × (m ≡ j)) ⊎ ((k ≢ j) × (k ≢ i) × (m ≡ k)))
swap_from [] i j k less low = absurd (omega arith)
swap_from {X = X} (d ∷ ys) i j k less low =
    let xs : List X = d ∷ ys in
    let once : List X = set xs i (get_or xs j d) in
    let wide : length once ≡ length xs = length-set xs i (get_or xs j d) in
    elim (cases_eq k j) [
      | inl is ↦ (
        i,
        ap (slice_get (set once j (get_or xs i d))) is ∙ get-set_same once j (get_or xs i d) (rw wide low)
            ∙ sym (slice_get-get_or xs i d less),
        inl (is, refl),
      )
      | inr off ↦ elim (cases_eq k i) [
        | inl is ↦ (
          j,
          get-set_other once j k (get_or xs i d) off ∙ ap (slice_get once) is
              ∙ get-set_same xs i (get_or xs j d) less ∙ sym (slice_get-get_or xs j d low),
          inr (inl (off, is, refl)),
        )
        | inr away ↦ (
          k,
          get-set_other once j k (get_or xs i d) off ∙ get-set_other xs i k (get_or xs j d) away,
          inr (inr (off, away, refl)),
        )
      ]
    ]

pub swapped_apart : {R : Type 0} (es : List (Entry R)) (i j : ℕ) → i < length es → j < length es → AreApart es
    → AreApart (swap es i j)
swapped_apart es i j less low apart a b d e at_a at_b same =
    let from_a = swap_from es i j a less low in
    let from_b = swap_from es i j b less low in
    let one : from_a.0 ≡ from_b.0 = apart from_a.0 from_b.0 d e (sym from_a.1 ∙ at_a) (sym from_b.1 ∙ at_b) same in
    turn_back i j a b from_a.0 from_b.0 from_a.2 from_b.2 one
  where
    turn_back : (i j a b m n : ℕ) → (((a ≡ j) × (m ≡ i)) ⊎ ((a ≢ j) × (a ≡ i) × (m ≡ j)) ⊎
        ((a ≢ j) × (a ≢ i) × (m ≡ a))) → (((b ≡ j) × (n ≡ i)) ⊎ ((b ≢ j) × (b ≡ i) × (n ≡ j)) ⊎
        ((b ≢ j) × (b ≢ i) × (n ≡ b))) → m ≡ n → a ≡ b
    turn_back i j a b m n (inl p) (inl q) e = omega arith
    turn_back i j a b m n (inl p) (inr (inl q)) e = omega arith
    turn_back i j a b m n (inl p) (inr (inr q)) e = omega arith
    turn_back i j a b m n (inr (inl p)) (inl q) e = omega arith
    turn_back i j a b m n (inr (inl p)) (inr (inl q)) e = omega arith
    turn_back i j a b m n (inr (inl p)) (inr (inr q)) e = omega arith
    turn_back i j a b m n (inr (inr p)) (inl q) e = omega arith
    turn_back i j a b m n (inr (inr p)) (inr (inl q)) e = omega arith
    turn_back i j a b m n (inr (inr p)) (inr (inr q)) e = omega arith

pub permuted_apart : {R : Type 0} (xs ys : List (Entry R)) → IsPermutation xs ys → AreApart xs → AreApart ys
permuted_apart {R = R} xs ys moved apart =
    IsPermutation-keeps xs (λ (l : List (Entry R)). AreApart l) apart
    (λ l i j less low apart. swapped_apart l i j less low apart) ys moved

-- what is found stands somewhere
pub found_at : {R : Type 0} (es : List (Entry R)) (q : ℕ) (w : Option R) → find nat_cmp q (pairs es) ≡ Some w
    → (i : ℕ) × (e : Entry R) × (slice_get es i ≡ Some e) × (e.name ≡ q) × (e.was ≡ w)
found_at [] q w is = absurd (none-some w is)
found_at {R = R} (f ∷ es) q w is = elim (key_cases q f.name) [
  | inl e ↦ (
    0,
    f,
    refl,
    sym e,
    same_Some f.was w (sym (find_here q f.was (pairs es))
        ∙ ap (λ (n : ℕ). find nat_cmp q ((n, f.was) ∷ pairs es)) e ∙ is),
  )
  | inr off ↦ (let it = found_at es q w (sym (find_there q f.name f.was (pairs es) off.0) ∙ is) in
      (suc it.0, it.1, it.2, it.3, it.4))
]

pub none_at : {R : Type 0} (es : List (Entry R)) (q : ℕ) → AreApart es → find nat_cmp q (pairs es) ≡ None
    → IsAbsent es q
none_at es q apart none i e at_i is = none-some e.was (sym none ∙ ap (λ (n : ℕ). find nat_cmp n (pairs es)) (sym is)
    ∙ find_at es i e apart at_i)

moved_to : {R : Type 0} (xs ys : List (Entry R)) → IsPermutation xs ys → (i : ℕ) (e : Entry R) → slice_get xs i ≡ Some e
    → (j : ℕ) × (slice_get ys j ≡ Some e)
moved_to {R = R} xs ys moved i e at_i =
    let there = Contains-permutation xs ys e moved (
      i,
      slice_get_within xs i e at_i,
      get_or_from_slice_get xs i e e at_i,
    ) in
    (there.0, slice_get-get_or ys there.0 e there.1 ∙ ap (λ (x : Entry R). Some x) there.2)

pub permuted_names : {R : Type 0} (xs ys : List (Entry R)) → IsPermutation xs ys → AreApart xs
    → names_of ys ≡ names_of xs
permuted_names {R = R} xs ys moved apart =
    same_notes (names_of ys) (names_of xs) (λ q. go q (find nat_cmp q (pairs xs)) refl)
  where
    go : (q : ℕ) (o : Option (Option R)) → find nat_cmp q (pairs xs) ≡ o → get (names_of ys) q ≡ get (names_of xs) q
    go q None none =
        get-absent ys q (λ i e at_i is. let back =
        moved_to ys xs (IsPermutation-sym xs ys moved) i e at_i in none_at xs q apart none back.0 e back.1 is)
        ∙ sym (get-from_entries nat_cmp_total (pairs xs) q ∙ none)
    go q (Some w) some =
        let it = found_at xs q w some in
        let there = moved_to xs ys moved it.0 it.1 it.2 in
        get-from_entries nat_cmp_total (pairs ys) q
        ∙ ap (λ (n : ℕ). find nat_cmp n (pairs ys)) (sym it.3)
        ∙ find_at ys there.0 it.1 (permuted_apart xs ys moved apart) there.1 ∙ ap (λ (x : Option R). Some x) it.4
        ∙ sym (get-from_entries nat_cmp_total (pairs xs) q ∙ some)

-- SOME LEFT OUT

abbrev pub filtered : {R : Type 0} → (ℕ → Option R → Bool) → ℕ → Option (Option R) → Option (Option R)
filtered p q None = None
filtered p q (Some w) = cond (p q w) (Some w) None

absent_filtered : {R : Type 0} (p : ℕ → Option R → Bool) (es : List (Entry R)) (q : ℕ) → IsAbsent es q
    → find nat_cmp q (filter (λ x. p x.0 x.1) (pairs es)) ≡ None
absent_filtered p [] q absent = refl
absent_filtered p (e ∷ es) q absent =
    let rest = absent_filtered p es q (λ i f at_i. absent (suc i) f at_i) in
    elim (p e.name e.was) as (λ b. find nat_cmp q (cond b ((e.name, e.was) ∷ filter (λ x. p x.0 x.1) (pairs es))
    (filter (λ x. p x.0 x.1) (pairs es))) ≡ None) [
      | true ↦ find_there q e.name e.was (filter (λ x. p x.0 x.1) (pairs es)) (λ is. absent 0 e refl (sym is)) ∙ rest
      | false ↦ rest
    ]

pick_filtered : {R : Type 0} (b : Bool) (q name : ℕ) (w : Option R) (left : List (ℕ × Option R)) → q ≡ name
    → find nat_cmp q left ≡ None → find nat_cmp q (cond b ((name, w) ∷ left) left) ≡ cond b (Some w) None
pick_filtered true q name w left is none = ap (λ (n : ℕ). find nat_cmp q ((n, w) ∷ left)) (sym is) ∙ find_here q w left
pick_filtered false q name w left is none = none

pass_filtered : {R : Type 0} (b : Bool) (q name : ℕ) (w : Option R) (left : List (ℕ × Option R)) → q ≢ name
    → find nat_cmp q (cond b ((name, w) ∷ left) left) ≡ find nat_cmp q left
pass_filtered true q name w left off = find_there q name w left off
pass_filtered false q name w left off = refl

pub find-filtered : {R : Type 0} (p : ℕ → Option R → Bool) (es : List (Entry R)) (q : ℕ) → AreApart es
    → find nat_cmp q (filter (λ x. p x.0 x.1) (pairs es)) ≡ filtered p q (find nat_cmp q (pairs es))
find-filtered p [] q apart = refl
find-filtered {R = R} p (e ∷ es) q apart =
    let left = filter (λ x. p x.0 x.1) (pairs es) in
    let more = find-filtered p es q (λ j k d f at_j at_k same. let no =
    apart (suc j) (suc k) d f at_j at_k same in omega arith) in
    elim (key_cases q e.name) [
      | inl is ↦ (let none = absent_filtered p es q (λ i f at_i same. let no =
          apart (suc i) 0 f e at_i refl (same ∙ is) in absurd (omega arith)) in
          pick_filtered (p e.name e.was) q e.name e.was left is none
          ∙ sym (ap (λ (o : Option (Option R)). filtered p q o)
          (ap (λ (n : ℕ). find nat_cmp q ((n, e.was) ∷ pairs es)) (sym is) ∙ find_here q e.was (pairs es))
          ∙ ap (λ (n : ℕ). cond (p n e.was) (Some e.was) None) is))
      | inr off ↦ pass_filtered (p e.name e.was) q e.name e.was left off.0 ∙ more
          ∙ sym (ap (λ (o : Option (Option R)). filtered p q o) (find_there q e.name e.was (pairs es) off.0))
    ]
