-- Whether a corner runs along an edge, corner by corner and face by face.
use Rattle.std.proofs.Common.{◌≡◌, ℕ, zero, suc, ◌<◌, ◌+◌, ◌==◌, Bool, true, false, ◌||◌, List, [], ◌∷◌, length, inl, inr, refl, ap, ◌∙◌, subst, arith, Option, Some, None}
use Rattle.std.specs.Prelude.{slice_get}
use Rattle.std.specs.Option.{option_map}
use Rattle.std.specs.List.{All, list_any}
use Rattle.std.proofs.lemmas.Bool.{cases_lt}
use Rattle.std.proofs.lemmas.List.Elements.{All-nil, All-cons}
use Rattle.std.proofs.lemmas.List.Folds.{list_any_none}
use Rattle.std.proofs.lemmas.Map.Keys.{any_passes_from_place}
use Rattle.std.proofs.lemmas.Option.{none-some, same_Some}
use Rattle.mesh_model.specs.declared.names.VertName.{VertName}
use Rattle.mesh_model.specs.declared.names.EdgeName.{EdgeName}
use Rattle.mesh_model.specs.declared.records.CornerRec.{CornerRec}
use Rattle.mesh_model.specs.Table.{at, passes}
use Rattle.mesh_model.specs.Incidence.{is_along}

-- what holds before a number and at it holds up to the next one
pub passed_more : (P : ℕ → Type 0) (i : ℕ) → ((n : ℕ) → n < i → P n) → P i → (n : ℕ) → n < i + 1 → P n
passed_more P i before here n less = elim (cases_lt n i) [
  | inl low ↦ before n low
  | inr over ↦ subst P (let e : i ≡ n = omega arith in e) here
]

both_false : (a b : Bool) → a ≡ false → b ≡ false → (a || b) ≡ false
both_false true b first rest = absurd (cc)
both_false false b first rest = rest

-- no record of a table passes a test that none passes by its name
pub none_stands : {X : Type 0} (test : X → Bool) (table : List (Option X))
    → ((n : ℕ) → n < length table → passes test (at table n) ≡ false) → list_any (passes test) table ≡ false
none_stands test [] none = refl
none_stands test (o ∷ os) none = both_false (passes test o) (list_any (passes test) os) (none zero (omega arith))
    (none_stands test os (λ n less. none (suc n) (omega arith)))

all_fail : {X : Type 0} (test : X → Bool) (xs : List X)
    → ((n : ℕ) → n < length xs → option_map test (slice_get xs n) ≡ Some false) → All (λ x. test x ≡ false) xs
all_fail test [] none = All-nil (λ x. test x ≡ false)
all_fail test (x ∷ xs) none = All-cons (λ x. test x ≡ false) x xs (same_Some (test x) false (none zero (omega arith)))
    (all_fail test xs (λ n less. none (suc n) (omega arith)))

-- no element passes a test that none passes by its place
pub none_passes : {X : Type 0} (test : X → Bool) (xs : List X)
    → ((n : ℕ) → n < length xs → option_map test (slice_get xs n) ≡ Some false) → list_any test xs ≡ false
none_passes test xs none = list_any_none test xs (all_fail test xs none)

-- one passes that passes by its place
pub one_passes : {X : Type 0} (test : X → Bool) (xs : List X) (n : ℕ) → option_map test (slice_get xs n) ≡ Some true
    → list_any test xs ≡ true
one_passes {X = X} test xs n is = split (slice_get xs n) refl is
  where
    split : (o : Option X) → slice_get xs n ≡ o → option_map test o ≡ Some true → list_any test xs ≡ true
    split None at is = absurd (none-some true is)
    split (Some x) at is = any_passes_from_place test xs n x at (same_Some (test x) true is)

-- whether a corner runs along an edge is told by the edge of the pair that is read of it
pub along_read : (e : EdgeName) (o : Option CornerRec) (p : VertName × EdgeName) (b : Bool)
    → option_map (λ k. (k.vert, k.edge)) o ≡ Some p → p.1.0 == e.0 ≡ b → option_map (is_along e) o ≡ Some b
along_read e None p b read same = absurd (none-some p read)
along_read e (Some k) p b read same =
    ap (λ (x : Bool). Some x) (ap (λ (q : VertName × EdgeName). q.1.0 == e.0) (same_Some (k.vert, k.edge) p read) ∙ same)
