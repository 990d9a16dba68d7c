-- One step of a walk.
use Rattle.std.proofs.Common.{◌≡◌, ℕ, Bool, true, false, List, [], ◌∷◌, ◌⊎◌, Option, Some, None, refl, sym, ap, ◌∙◌, subst, inl, inr, arith}
use Rattle.link_ring.specs.Ring.{LinkMap, IsRingFrom}
use Rattle.link_ring.specs.Walk.{path, items_from, GoesOn, IsOnRing}
use Rattle.link_ring.proofs.Paths.{IsIdentityTest, IsLimit, test_differs, path-segment}

-- the path is the rest of the ring
pub path-goes_on : {K : Type 0} (eq : K → K → Bool) → IsIdentityTest eq
    → (m : LinkMap K) (limit : ℕ) (first at : K) (xs : List K)
    → GoesOn m limit first at xs → path eq m first limit at ≡ xs
path-goes_on eq t m limit first at xs l = path-segment eq t m first at xs limit l.leads l.fresh l.fits

-- at first all but the first key is ahead
pub walk_start : {K : Type 0} {m : LinkMap K} {first : K} {limit : ℕ} (xs : List K) → IsRingFrom m first xs
    → IsLimit m limit → GoesOn m limit first first xs
walk_start xs r bound = record {
  leads = r.leads;
  fresh = r.distinct.0;
  keys = r.keys;
  fits = bound xs r.distinct.1 r.keys.1;
}

-- ---- a step

-- s gives `at`, and t what comes after it
pub record Steps {K : Type 0} (eq : K → K → Bool) (m : LinkMap K) (limit : ℕ) (first at : K) (s t : Option K) : Type 0
  where
    pub gives : items_from eq m limit first s ≡ at ∷ items_from eq m limit first t
    pub stands : IsOnRing eq m limit first t

-- the state after an item is None at the last member, and else the next member
abbrev pub Follows : {K : Type 0} → (K → K → Bool) → LinkMap K → K → K → Option K → Type 0
Follows eq m first at t = ((eq (m.next at) first ≡ true) × (t ≡ None)) ⊎
    ((eq (m.next at) first ≡ false) × (t ≡ Some (m.next at)))

-- the two cases of `Follows`, by a key that equals the next
pub follows_none : {K : Type 0} (eq : K → K → Bool) (m : LinkMap K) (first at after : K) (t : Option K)
    → after ≡ m.next at → eq after first ≡ true → t ≡ None → Follows eq m first at t
follows_none {K} eq m first at after t p h n = inl (ap (λ (k : K). eq k first) (sym p) ∙ h, n)

-- the second
pub follows_some : {K : Type 0} (eq : K → K → Bool) (m : LinkMap K) (first at after : K) (t : Option K)
    → after ≡ m.next at → eq after first ≡ false → t ≡ Some after → Follows eq m first at t
follows_some {K} eq m first at after t p h n = inr (ap (λ (k : K). eq k first) (sym p) ∙ h, n ∙ ap Some p)

-- where the next key is the first, nothing is ahead
at_end : {K : Type 0} (m : LinkMap K) (limit : ℕ) (first at : K) (xs : List K) → GoesOn m limit first at xs
    → m.next at ≡ first → xs ≡ []
at_end m limit first at [] l e = refl
at_end m limit first at (y ∷ ys) l e = absurd (l.fresh (inl (sym l.leads.0.0 ∙ e)))

-- a step at the last member
step_end : {K : Type 0} (eq : K → K → Bool) → IsIdentityTest eq → (m : LinkMap K) (limit : ℕ) (first at : K)
    → GoesOn m limit first at (path eq m first limit at) → eq (m.next at) first ≡ true
    → Steps eq m limit first at (Some at) None
step_end {K} eq t m limit first at l h =
    let none = at_end m limit first at (path eq m first limit at) l (t.one (m.next at) first h) in
    record { gives = ap (λ (ys : List K). at ∷ ys) none; stands = tt }

-- a step before it
step_on : {K : Type 0} (eq : K → K → Bool) → IsIdentityTest eq
    → (m : LinkMap K) (limit : ℕ) (first at : K) (xs : List K)
    → GoesOn m limit first at xs → eq (m.next at) first ≡ false → Steps eq m limit first at (Some at) (Some (m.next at))
step_on {K} eq t m limit first at [] l h = absurd (test_differs eq (m.next at) first t h l.leads.0)
step_on {K} eq t m limit first at (y ∷ ys) l h =
    let next : GoesOn m limit first y ys = record {
      leads = l.leads.1;
      fresh = λ a. l.fresh (inr a);
      keys = l.keys.1;
      fits = (let f = l.fits in omega arith);
    } in
    let now : path eq m first limit at ≡ y ∷ ys = path-goes_on eq t m limit first at (y ∷ ys) l in
    let then : path eq m first limit y ≡ ys = path-goes_on eq t m limit first y ys next in
    let P = λ (k : K). Steps eq m limit first at (Some at) (Some k) in
    let Q = GoesOn m limit first y in
    subst P (sym l.leads.0.0) (record {
      gives =
          ap (λ (zs : List K). at ∷ zs) (now ∙ ap (λ (zs : List K). y ∷ zs) (sym then));
      stands = subst Q (sym then) next;
    })

-- a step
pub stepped : {K : Type 0} (eq : K → K → Bool) → IsIdentityTest eq
    → (m : LinkMap K) (limit : ℕ) (first at : K) (s t : Option K)
    → s ≡ Some at → IsOnRing eq m limit first s → Follows eq m first at t → Steps eq m limit first at s t
stepped {K} eq i m limit first at s t e l f =
    let P = λ (o : Option K). IsOnRing eq m limit first o in
    let Q = λ (o : Option K). Steps eq m limit first at o t in
    let R = Steps eq m limit first at (Some at) in
    let here = subst P e l in
    subst Q (sym e) (elim f [
      | inl h ↦ subst R (sym h.1) (step_end eq i m limit first at here h.0)
      | inr h ↦ subst R (sym h.1) (step_on eq i m limit first at (path eq m first limit at) here h.0)
    ])
