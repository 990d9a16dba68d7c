-- One kind of cycles of a store, before and after one of them changes.
use Rattle.std.proofs.Common.{◌≡◌, ◌≢◌, ℕ, Bool, List, [], ◌∷◌, ◌++◌, Option, Some, sym, ap, ◌∙◌, subst, inl, inr}
use Rattle.std.proofs.lemmas.Bool.{cases_eq}
use Rattle.std.proofs.lemmas.Option.{same_Some}
use Rattle.link_ring.specs.Members.{HasMember}
use Rattle.link_ring.specs.Ring.{LinkMap, ReadsAs}
use Rattle.link_ring.specs.Changes.{SameOutside}
use Rattle.link_ring.proofs.Members.{member_of, member_flip, member_left, member_right, member_cases}
use Rattle.link_ring.proofs.Paths.{IsIdentityTest, IsLimit}
use Rattle.link_ring.proofs.Reading.{reads_at, reads_along, reads_elsewhere}
use Rattle.mesh_cycles.specs.Lists.{ring_list}
use Rattle.mesh_cycles.proofs.RingLists.{list_read}

-- the links, the most keys that there are, the first member of each owner's cycle, and the owner of each member
pub record Kind (K : Type 0) : Type 0 where
  pub links : LinkMap K
  pub limit : ℕ
  pub first : ℕ → Option K
  pub owner : K → Option ℕ

-- the cycle of an owner
abbrev pub cycle_at : {K : Type 0} → (K → K → Bool) → Kind K → ℕ → List K
cycle_at same c o = ring_list same c.links c.limit (c.first o)

-- every cycle reads as its list, and its members name their owner
pub record Holds {K : Type 0} (same : K → K → Bool) (c : Kind K) : Type 0 where
  pub reads : (o : ℕ) → ReadsAs c.links (c.first o) (cycle_at same c o)
  pub owned : (o : ℕ) (k : K) → HasMember (cycle_at same c o) k → c.owner k ≡ Some o

-- the cycle of o reads as the list `now`, and no link changed but of the keys that are touched, which are all of that
-- owner
pub record Changes {K : Type 0} (old new : Kind K) (o : ℕ) (touched now : List K) : Type 0 where
  pub reads : ReadsAs new.links (new.first o) now
  pub firsts : (p : ℕ) → p ≢ o → new.first p ≡ old.first p
  pub owners : (k : K) → new.owner k ≡ old.owner k
  pub outside : SameOutside old.links new.links touched
  pub near : (k : K) → HasMember touched k → old.owner k ≡ Some o
  pub members : (k : K) → HasMember now k → old.owner k ≡ Some o
  pub limited : IsLimit new.links new.limit

module _ {K : Type 0} (same : K → K → Bool) (t : IsIdentityTest same) where
  -- the cycle that changed
  pub own_cycle : {old new : Kind K} {o : ℕ} {touched now : List K} → Changes old new o touched now
      → cycle_at same new o ≡ now
  own_cycle {old} {new} {o} {touched} {now} c = list_read same t new.links new.limit (new.first o) now c.reads c.limited

  -- every other cycle reads as before
  other_reads : {old new : Kind K} {o : ℕ} {touched now : List K} → Holds same old → Changes old new o touched now
      → (p : ℕ) → p ≢ o → ReadsAs new.links (new.first p) (cycle_at same old p)
  other_reads h c p ne =
      reads_at (reads_elsewhere c.outside (λ j a b. ne (same_Some _ _ (sym (h.owned p j a) ∙ c.near j b))) (h.reads p))
      (sym (c.firsts p ne))

  -- and has the same members
  pub other_cycles : {old new : Kind K} {o : ℕ} {touched now : List K} → Holds same old → Changes old new o touched now
      → (p : ℕ) → p ≢ o → cycle_at same new p ≡ cycle_at same old p
  other_cycles {old} {new} h c p ne = list_read same t new.links new.limit (new.first p) (cycle_at same old p)
      (other_reads h c p ne) c.limited

  -- so all hold
  pub still_holds : {old new : Kind K} {o : ℕ} {touched now : List K} → Holds same old → Changes old new o touched now
      → Holds same new
  still_holds {old} {new} {o} {touched} {now} h c = record {
    reads = λ p. elim (cases_eq p o) [
      | inl e ↦ (let P = λ (q : ℕ). ReadsAs new.links (new.first q) (cycle_at same new q) in subst P (sym e)
          (reads_along c.reads (sym (own_cycle c))))
      | inr ne ↦ reads_along (other_reads h c p ne) (sym (other_cycles h c p ne))
    ];
    owned = λ p k m. elim (cases_eq p o) [
      | inl e ↦ c.owners k ∙ c.members k (member_of k m (ap (cycle_at same new) e ∙ own_cycle c))
          ∙ ap (λ (q : ℕ). Some q) (sym e)
      | inr ne ↦ c.owners k ∙ h.owned p k (member_of k m (other_cycles h c p ne))
    ];
  }

  -- a key of that owner that is not in its cycle is in none
  pub in_none : {old new : Kind K} {o : ℕ} {touched now : List K} → Holds same old → Changes old new o touched now
      → (k : K) → old.owner k ≡ Some o → (HasMember now k → ⊥) → (p : ℕ) → HasMember (cycle_at same new p) k → ⊥
  in_none {old} {new} {o} {touched} {now} h c k owned out p m =
      let e : p ≡ o = same_Some _ _ (sym ((still_holds h c).owned p k m) ∙ c.owners k ∙ owned) in
      out (member_of k m (ap (cycle_at same new) e ∙ own_cycle c))

-- ---- the members of a cycle that one more, or one less, is in

-- the members of an owner's cycle with k put first name the owner, where k does
pub near_more : {K : Type 0} (same : K → K → Bool) (c : Kind K) (o : ℕ) (k : K) → Holds same c → c.owner k ≡ Some o
    → (j : K) → HasMember (k ∷ cycle_at same c o) j → c.owner j ≡ Some o
near_more {K} same c o k h e j m = elim m [
  | inl is ↦ (let P = λ (x : K). c.owner x ≡ Some o in subst P is e)
  | inr a ↦ h.owned o j a
]

-- and with k put last
pub last_more : {K : Type 0} (same : K → K → Bool) (c : Kind K) (o : ℕ) (k : K) → Holds same c → c.owner k ≡ Some o
    → (j : K) → HasMember (cycle_at same c o ++ k ∷ []) j → c.owner j ≡ Some o
last_more same c o k h e j m = near_more same c o k h e j (member_flip (cycle_at same c o) (k ∷ []) j m)

-- and with k put behind another member
pub behind_more : {K : Type 0} (same : K → K → Bool) (c : Kind K) (o : ℕ) (k : K) → Holds same c → c.owner k ≡ Some o
    → (xs : List K) (place : K) (ys : List K) → cycle_at same c o ≡ xs ++ place ∷ ys → (j : K)
    → HasMember (xs ++ place ∷ k ∷ ys) j → c.owner j ≡ Some o
behind_more {K} same c o k h e xs place ys whole j m =
    let old : HasMember (xs ++ place ∷ ys) j → HasMember (cycle_at same c o) j = λ a. member_of j a (sym whole) in
    near_more same c o k h e j (elim (member_cases xs (place ∷ k ∷ ys) j m) [
      | inl a ↦ inr (old (member_left xs (place ∷ ys) j a))
      | inr a ↦ elim a [
        | inl is ↦ inr (old (member_right xs (place ∷ ys) j (inl is)))
        | inr b ↦ elim b [ inl is ↦ inl is | inr d ↦ inr (old (member_right xs (place ∷ ys) j (inr d))) ]
      ]
    ])
