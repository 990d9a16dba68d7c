-- The members of the lists that a complex's incidence is made of.
use Rattle.std.proofs.Common.{◌≡◌, ◌+◌, ◌<◌, ℕ, zero, suc, Bool, true, List, [], ◌∷◌, length, map, get_or, sym, ap, ◌∙◌, inl, inr, arith}
use Rattle.std.specs.List.{filter, enumerate_from}
use Rattle.link_ring.specs.Members.{HasMember}
use Rattle.link_ring.specs.Mapped.{mapped_from, mapped_to}
use Rattle.mesh_cycles.proofs.Mapped.{filtered_from, filtered_to}

-- the place of a member of an enumerated list
pub record PlaceOf {X : Type 0} (d : X) (from : ℕ) (xs : List X) (p : ℕ × X) : Type 0 where
  pub place : ℕ
  pub low : place < length xs
  pub number : p.0 ≡ from + place
  pub value : p.1 ≡ get_or xs place d

pub enumerated_from : {X : Type 0} (d : X) (from : ℕ) (xs : List X) (p : ℕ × X) → HasMember (enumerate_from from xs) p
    → PlaceOf d from xs p
enumerated_from d from [] p h = absurd h
enumerated_from {X} d from (x ∷ xs) p h = elim h [
  | inl e ↦ record {
    place = 0;
    low = omega arith;
    number = (let q = ap (λ (z : ℕ × X). z.0) e in omega arith);
    value = sym (ap (λ (z : ℕ × X). z.1) e);
  }
  | inr r ↦ (let t = enumerated_from d (from + 1) xs p r in let a = t.low in let b =
      t.number in record { place = suc t.place; low = omega arith; number = omega arith; value = t.value })
]

pub enumerated_to : {X : Type 0} (d : X) (from : ℕ) (xs : List X) (k j : ℕ) → k < length xs → from + k ≡ j
    → HasMember (enumerate_from from xs) (j, get_or xs k d)
enumerated_to d from [] k j h e = absurd (omega arith)
enumerated_to d from (x ∷ xs) zero j h e = inl (let q : from ≡ j = omega arith in λ i. (q i, x))
enumerated_to d from (x ∷ xs) (suc k) j h e = inr (enumerated_to d (from + 1) xs k j (omega arith) (omega arith))

-- a name of a record that passes a test
pub record Numbered {X N : Type 0} (d : X) (name : ℕ → N) (test : X → Bool) (xs : List X) (x : N) : Type 0 where
  pub number : ℕ
  pub low : number < length xs
  pub passed : test (get_or xs number d) ≡ true
  pub named : name number ≡ x

-- the names of the records that pass a test
module _ {X N : Type 0} (d : X) (name : ℕ → N) (test : X → Bool) (xs : List X) where
  pub numbered_from : (x : N) → HasMember (map (λ (p : ℕ × X). name p.0)
      (filter (λ (p : ℕ × X). test p.1) (enumerate_from 0 xs))) x → Numbered d name test xs x
  numbered_from x h =
      let t = mapped_from (λ (p : ℕ × X). name p.0) (filter (λ (p : ℕ × X). test p.1) (enumerate_from 0 xs)) x h in
      let f = filtered_from (λ (p : ℕ × X). test p.1) (enumerate_from 0 xs) t.of t.member in
      let e = enumerated_from d 0 xs t.of f.0 in
      let same : t.of.0 ≡ e.place = (let a = e.number in omega arith) in
      record { number = e.place; low = e.low; passed = ap test (sym e.value) ∙ f.1; named = ap name (sym same) ∙ t.is }

  pub numbered_to : (k : ℕ) → k < length xs → test (get_or xs k d) ≡ true
      → HasMember (map (λ (p : ℕ × X). name p.0) (filter (λ (p : ℕ × X). test p.1) (enumerate_from 0 xs))) (name k)
  numbered_to k low passes =
      mapped_to (λ (p : ℕ × X). name p.0) (filter (λ (p : ℕ × X). test p.1) (enumerate_from 0 xs)) (k, get_or xs k d)
      (filtered_to (λ (p : ℕ × X). test p.1) (enumerate_from 0 xs) (k, get_or xs k d)
      (enumerated_to d 0 xs k k low (omega arith)) passes)
