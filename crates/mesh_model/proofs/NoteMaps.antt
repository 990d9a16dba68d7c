-- What the maps of notes answer.
use Rattle.std.proofs.Common.{◌≡◌, ◌≢◌, ℕ, zero, suc, ◌+◌, ◌<◌, ◌≤◌, Bool, true, false, cond, List, [], ◌∷◌, ◌++◌, map}
use Rattle.std.proofs.Common.{inl, inr, ◌⊎◌, refl, sym, ap, ◌∙◌, rules, arith, Option, Some, None}
use Rattle.std.specs.Ordering.{nat_cmp, eq_by_cmp}
use Rattle.std.specs.Cmp.{nat_cmp_total}
use Rattle.std.specs.List.{range_with_len, flat_map}
use Rattle.std.specs.FinMap.{FinMap, get, entries, find, from_entries, get-from_entries, get-insert, get-entries}
use Rattle.std.proofs.lemmas.Bool.{cases_Bool, cases_lt}
use Rattle.mesh_model.specs.ChangeSetNotes.{entry_at, map_of, put_all}

same_key : (q k : ℕ) → eq_by_cmp nat_cmp q k ≡ true → q ≡ k
same_key q k t = search (rules, nat_cmp_total)

pub tied : (q : ℕ) → eq_by_cmp nat_cmp q q ≡ true
tied q = search (rules, nat_cmp_total)

pub apart : (q k : ℕ) → q ≢ k → eq_by_cmp nat_cmp q k ≡ false
apart q k n = elim (cases_Bool (eq_by_cmp nat_cmp q k)) [ inl t ↦ absurd (n (same_key q k t)) | inr f ↦ f ]

pub key_cases : (q k : ℕ) → (q ≡ k) ⊎ ((q ≢ k) × (eq_by_cmp nat_cmp q k ≡ false))
key_cases q k = elim (cases_Bool (eq_by_cmp nat_cmp q k)) [
  | inl t ↦ inl (same_key q k t)
  | inr f ↦ inr (
    λ e. let t =
        ap (λ (x : ℕ). eq_by_cmp nat_cmp q x) (sym e) in cc_false (sym f ∙ t ∙ tied q),
    f,
  )
]
  where
    cc_false : false ≡ true → ⊥
    cc_false e = cc

pub find_here : {X : Type 0} (q : ℕ) (v : X) (es : List (ℕ × X)) → find nat_cmp q ((q, v) ∷ es) ≡ Some v
find_here q v es = ap (λ (b : Bool). cond b (Some v) (find nat_cmp q es)) (tied q)

pub find_there : {X : Type 0} (q k : ℕ) (v : X) (es : List (ℕ × X)) → q ≢ k
    → find nat_cmp q ((k, v) ∷ es) ≡ find nat_cmp q es
find_there q k v es n = ap (λ (b : Bool). cond b (Some v) (find nat_cmp q es)) (apart q k n)

find_other : {X : Type 0} (q k : ℕ) (o : Option X) (es : List (ℕ × X)) → q ≢ k
    → find nat_cmp q (entry_at k o ++ es) ≡ find nat_cmp q es
find_other q k None es n = refl
find_other q k (Some v) es n = find_there q k v es n

find_same : {X : Type 0} (q : ℕ) (o : Option X) (es : List (ℕ × X)) → find nat_cmp q es ≡ None
    → find nat_cmp q (entry_at q o ++ es) ≡ o
find_same q None es none = none
find_same q (Some v) es none = find_here q v es

find_outside : {X : Type 0} (entry : ℕ → Option X) (a n q : ℕ) → (q < a) ⊎ (a + n ≤ q)
    → find nat_cmp q (flat_map (λ k. entry_at k (entry k)) (range_with_len a n)) ≡ None
find_outside entry a zero q out = refl
find_outside entry a (suc n) q out =
    let more : (q < a + 1) ⊎ (a + 1 + n ≤ q) =
    elim out [ inl less ↦ inl (omega arith) | inr past ↦ inr (omega arith) ] in
    let off : q ≢ a = λ e. elim out [ inl less ↦ absurd (omega arith) | inr past ↦ absurd (omega arith) ] in
    find_other q a (entry a) (flat_map (λ k. entry_at k (entry k)) (range_with_len (a + 1) n)) off
    ∙ find_outside entry (a + 1) n q more

find_inside : {X : Type 0} (entry : ℕ → Option X) (a n q : ℕ) → a ≤ q → q < a + n
    → find nat_cmp q (flat_map (λ k. entry_at k (entry k)) (range_with_len a n)) ≡ entry q
find_inside entry a zero q low high = absurd (omega arith)
find_inside {X = X} entry a (suc n) q low high =
    let rest = flat_map (λ k. entry_at k (entry k)) (range_with_len (a + 1) n) in
    elim (key_cases q a) [
      | inl e ↦ ap (λ (x : ℕ). find nat_cmp q (entry_at x (entry x) ++ rest)) (sym e)
          ∙ find_same q (entry q) rest (find_outside entry (a + 1) n q (inl (omega arith)))
      | inr off ↦ find_other q a (entry a) rest off.0
          ∙ find_inside entry (a + 1) n q (omega (arith, off.0)) (omega arith)
    ]

-- a map that is made name by name answers by the function, where that has nothing past the end
pub get-map_of : {X : Type 0} (next : ℕ) (entry : ℕ → Option X) → ((q : ℕ) → next ≤ q → entry q ≡ None) → (q : ℕ)
    → get (map_of entry next) q ≡ entry q
get-map_of next entry past q =
    get-from_entries nat_cmp_total (flat_map (λ k. entry_at k (entry k)) (range_with_len 0 next)) q
    ∙ elim (cases_lt q next) [
      | inl less ↦ find_inside entry 0 next q (omega arith) (omega arith)
      | inr over ↦ find_outside entry 0 next q (inr (omega arith)) ∙ sym (past q over)
    ]

-- one of two, the first where there is one
abbrev pub first_of_two : {X : Type 0} → Option X → Option X → Option X
first_of_two None y = y
first_of_two (Some x) y = Some x

get-put_all : {X : Type 0} (es : List (ℕ × X)) (m : FinMap nat_cmp X) (q : ℕ)
    → get (put_all es m) q ≡ first_of_two (find nat_cmp q es) (get m q)
get-put_all [] m q = refl
get-put_all (e ∷ es) m q =
    get-insert nat_cmp_total (put_all es m) e.0 e.1 q
    ∙ elim (cases_Bool (eq_by_cmp nat_cmp q e.0)) [
      | inl t ↦ rw t refl
      | inr f ↦ rw f (get-put_all es m q)
    ]

pub get-joined : {X : Type 0} (older newer : FinMap nat_cmp X) (q : ℕ)
    → get (put_all (entries older) newer) q ≡ first_of_two (get older q) (get newer q)
get-joined {X = X} older newer q = get-put_all (entries older) newer q
    ∙ ap (λ (o : Option X). first_of_two o (get newer q)) (sym (get-entries older q))

-- each entry with another value
abbrev pub with_value : {X : Type 0} → Option X → Option X → Option X
with_value None y = None
with_value (Some x) y = y

find-renewed : {X : Type 0} (value : ℕ → X) (es : List (ℕ × X)) (q : ℕ)
    → find nat_cmp q (map (λ e. (e.0, value e.0)) es) ≡ with_value (find nat_cmp q es) (Some (value q))
find-renewed value [] q = refl
find-renewed {X = X} value ((k, v) ∷ es) q =
    elim (key_cases q k) [
      | inl e ↦ ap (λ (n : ℕ). find nat_cmp q ((n, value n) ∷ map (λ e. (e.0, value e.0)) es)) (sym e)
          ∙ find_here q (value q) (map (λ e. (e.0, value e.0)) es)
          ∙ sym (ap (λ (o : Option X). with_value o (Some (value q)))
          (ap (λ (n : ℕ). find nat_cmp q ((n, v) ∷ es)) (sym e) ∙ find_here q v es))
      | inr off ↦ find_there q k (value k) (map (λ e. (e.0, value e.0)) es) off.0 ∙ find-renewed value es q
          ∙ sym (ap (λ (o : Option X). with_value o (Some (value q))) (find_there q k v es off.0))
    ]

pub get-renewed : {X : Type 0} (value : ℕ → X) (m : FinMap nat_cmp X) (q : ℕ)
    → get (from_entries {R = nat_cmp} (map (λ e. (e.0, value e.0)) (entries m))) q
    ≡ with_value (get m q) (Some (value q))
get-renewed {X = X} value m q =
    get-from_entries nat_cmp_total (map (λ e. (e.0, value e.0)) (entries m)) q ∙ find-renewed value (entries m) q
    ∙ ap (λ (o : Option X). with_value o (Some (value q))) (sym (get-entries m q))
