-- Slots by rising name, from a name on.
use Rattle.std.proofs.Common.{◌≡◌, ℕ, zero, suc, ◌+◌, ◌<◌, ◌≤◌, List, [], ◌∷◌, Option, Some, None, drop, refl, ap, ◌∙◌, inl, inr, arith}
use Rattle.std.specs.Iterator.{YieldsFirst}
use Rattle.std.specs.List.{cons_option}
use Rattle.std.specs.Option.{option_map}
use Rattle.raw_pool.specs.declared.pool.Slot.{Slot}
use Rattle.raw_pool.specs.Slots.{NoneLiveFrom}
use Rattle.link_ring.specs.Members.{HasMember, AllDistinct}
use Rattle.mesh_store.specs.Slots.{at, LeadsFirst}
use Rattle.mesh_store.specs.Naming.{AreNamed}
use Rattle.mesh_cycles.specs.Found.{by_name}

-- where no name from low on leads anywhere, nothing comes
pub none_by_name : (names : List (Option Slot)) (low : ℕ) → NoneLiveFrom names low → by_name (drop low names) ≡ []
none_by_name [] zero h = refl
none_by_name [] (suc low) h = refl
none_by_name (o ∷ names) zero h =
    let none : o ≡ None = h 0 (omega arith) in
    let rest : by_name names ≡ [] = none_by_name names zero (λ k p. h (suc k) (omega arith)) in
    ap (λ (x : Option Slot). cons_option x (by_name names)) none ∙ rest
none_by_name (o ∷ names) (suc low) h = none_by_name names low (λ k p. h (suc k) (omega arith))

-- the first name that leads somewhere gives the first slot, and the names after it the others
first_by_name : (names : List (Option Slot)) (low name : ℕ) (s : Slot) → low ≤ name → at names name ≡ Some s
    → ((k : ℕ) → low ≤ k → k < name → at names k ≡ None)
    → by_name (drop low names) ≡ s ∷ by_name (drop (suc name) names)
first_by_name [] low name s from here none = absurd (cc)
first_by_name (o ∷ names) zero zero s from here none = ap (λ (x : Option Slot). cons_option x (by_name names)) here
first_by_name (o ∷ names) zero (suc name) s from here none =
    let skip : o ≡ None = none 0 (omega arith) (omega arith) in
    ap (λ (x : Option Slot). cons_option x (by_name names)) skip
    ∙ first_by_name names zero name s (omega arith) here (λ k p q. none (suc k) (omega arith) (omega arith))
first_by_name (o ∷ names) (suc low) zero s from here none = absurd (omega arith)
first_by_name (o ∷ names) (suc low) (suc name) s from here none =
    first_by_name names low name s (omega arith) here (λ k p q. none (suc k) (omega arith) (omega arith))

-- the number of a cell to which a name leads is that name
pub named_number : {X : Type 0} (number : X → ℕ) (cells : List (Option X)) (names : List (Option Slot)) (low : ℕ)
    (s : Slot) (n : ℕ)
    → AreNamed number cells names → (l : LeadsFirst names low s) → option_map number (at cells s.0) ≡ Some n
    → n ≡ l.name
named_number number cells names low s n a l e = let m = a.live l.name s l.here in (cc)

-- one step
pub next_by_name : {X : Type 0} (number : X → ℕ) (cells : List (Option X)) (names : List (Option Slot)) (low : ℕ)
    (s : Slot) (n : ℕ)
    → AreNamed number cells names → LeadsFirst names low s → option_map number (at cells s.0) ≡ Some n
    → by_name (drop low names) ≡ s ∷ by_name (drop (n + 1) names)
next_by_name number cells names low s n a l e =
    let same : suc l.name ≡ n + 1 = (let p = named_number number cells names low s n a l e in omega arith) in
    first_by_name names low l.name s l.from l.here l.none ∙ ap (λ (k : ℕ). s ∷ by_name (drop k names)) same

-- a walk that has nothing left gives None
pub yields_none : {S : Type 0} (rest : S → List Slot) (s : S) (o : Option Slot) → o ≡ None → rest s ≡ []
    → YieldsFirst rest s o s
yields_none rest s None e n = (n, n)
yields_none rest s (Some x) e n = absurd (cc)

-- ---- no slot comes twice

-- the name that leads to a slot
record NameOf (names : List (Option Slot)) (s : Slot) : Type 0 where
  name : ℕ
  leads : at names name ≡ Some s

-- a name leads to each slot that comes
name_of : (names : List (Option Slot)) (s : Slot) → HasMember (by_name names) s → NameOf names s
name_of [] s h = absurd h
name_of (None ∷ names) s h = let t = name_of names s h in record { name = suc t.name; leads = t.leads }
name_of (Some x ∷ names) s h = elim h [
  | inl e ↦ record { name = 0; leads = ap Some e }
  | inr r ↦ (let t = name_of names s r in record { name = suc t.name; leads = t.leads })
]

-- where no two names lead to one slot, none comes twice
distinct_names : (names : List (Option Slot))
    → ((n m : ℕ) (s : Slot) → at names n ≡ Some s → at names m ≡ Some s → n ≡ m) → AllDistinct (by_name names)
distinct_names [] one = tt
distinct_names (None ∷ names) one = distinct_names names (λ n m s p q.
    (let e = one (suc n) (suc m) s p q in omega arith))
distinct_names (Some x ∷ names) one = (
  (λ h. let t = name_of names x h in let e : 0 ≡ suc t.name =
      one 0 (suc t.name) x refl t.leads in absurd (omega arith)),
  distinct_names names (λ n m s p q. (let e = one (suc n) (suc m) s p q in omega arith)),
)

-- the same of a store's names
pub names_once : {X : Type 0} (number : X → ℕ) (cells : List (Option X)) (names : List (Option Slot))
    → AreNamed number cells names → AllDistinct (by_name names)
names_once number cells names a = distinct_names names (λ n m s p q. let x = a.live n s p in let y =
    a.live m s q in (cc))
