-- Lists of numbers, whose members a test finds.
use Rattle.std.proofs.Common.{◌≡◌, ℕ, Bool, false, true, cond, eqb, List, [], ◌∷◌, refl, sym, ◌∙◌, inl, inr}
use Rattle.std.proofs.lemmas.Bool.{false≢true, eq-eqb}
use Rattle.link_ring.specs.Members.{HasMember}

-- whether k is one of the list
abbrev pub is_member : List ℕ → ℕ → Bool
is_member [] k = false
is_member (x ∷ xs) k = cond (eqb x k) true (is_member xs k)

-- `or`, by its second
either : (b c : Bool) → c ≡ true → cond b true c ≡ true
either true c e = refl
either false c e = e

-- the test finds each member
found : (xs : List ℕ) (k : ℕ) → HasMember xs k → is_member xs k ≡ true
found [] k h = absurd h
found (x ∷ xs) k h = elim h [
  | inl e ↦ rw (eq-eqb x k e) refl
  | inr r ↦ either (eqb x k) (is_member xs k) (found xs k r)
]

-- a number that the test does not find is no member
pub no_member : (xs : List ℕ) (k : ℕ) → is_member xs k ≡ false → HasMember xs k → ⊥
no_member xs k e h = false≢true (sym e ∙ found xs k h)
