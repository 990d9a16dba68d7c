-- The least-named of some edges that joins two vertices.
use Rattle.std.proofs.Common.{◌≡◌, ℕ, ◌≤◌, ◌<◌, ◌==◌, ◌&&◌, ◌||◌, Bool, true, false, List, [], ◌∷◌, ◌++◌, Option, Some, None, refl, sym, ap, ◌∙◌, subst, inl, inr, arith}
use Rattle.std.specs.Prelude.{MatchOption, IfSome}
use Rattle.std.specs.Option.{option_map_or}
use Rattle.std.proofs.lemmas.Bool.{and_parts, false≢true, or_cases, cases_lt, eqb-true}
use Rattle.raw_pool.specs.declared.pool.Slot.{Slot}
use Rattle.link_ring.specs.Members.{HasMember}
use Rattle.link_ring.specs.Mapped.{mapped_to}
use Rattle.link_ring.proofs.Members.{member_left, member_right, member_cases, member_one}
use Rattle.mesh_store.specs.Slots.{at}
use Rattle.mesh_store.specs.Stored.{Stored}
use Rattle.mesh_store.specs.declared.cells.Dart.{Dart}
use Rattle.mesh_store.specs.declared.cells.EdgeCell.{EdgeCell}
use Rattle.mesh_cycles.specs.Owners.{end_on}
use Rattle.mesh_cycles.specs.Cycles.{HasWholeDisk, disk_of}
use Rattle.mesh_cycles.specs.Found.{edges_around, joins, NoneJoins, JoinsFirst, number_of}

-- an edge that joins a vertex to another is around it
joins_by : (st : Stored) (a b : ℕ) (e : Slot) (o : Option EdgeCell) → at st.edges.cells e.0 ≡ o → HasWholeDisk st a
    → option_map_or (λ (c : EdgeCell). ((end_on 0 c == a) && (end_on 1 c == b)) ||
    ((end_on 0 c == b) && (end_on 1 c == a))) o false ≡ true → HasMember (edges_around st a) e
joins_by st a b e None was w h = absurd (false≢true h)
joins_by st a b e (Some c) was w h = elim (or_cases ((end_on 0 c == a) && (end_on 1 c == b))
    ((end_on 0 c == b) && (end_on 1 c == a)) h) [
      | inl p ↦
          let t = and_parts (end_on 0 c == a) (end_on 1 c == b) p in
          let d : Dart = record { edge = e; side = 0 } in
          mapped_to (λ (d : Dart). d.edge) (disk_of st a) d (w d (rw was refl)
          (rw was (ap Some (eqb-true (end_on 0 c) a t.0))))
      | inr p ↦
          let t = and_parts (end_on 0 c == b) (end_on 1 c == a) p in
          let d : Dart = record { edge = e; side = 1 } in
          mapped_to (λ (d : Dart). d.edge) (disk_of st a) d (w d (rw was refl)
          (rw was (ap Some (eqb-true (end_on 1 c) a t.1))))
    ]

-- the same of `joins`
pub joins_around : (st : Stored) (a b : ℕ) (e : Slot) → HasWholeDisk st a → joins st a b e ≡ true
    → HasMember (edges_around st a) e
joins_around st a b e w h = joins_by st a b e (at st.edges.cells e.0) refl w h

-- of the edges seen, one joins a and b, and no other that does has a lesser name
pub record IsLeastIn (st : Stored) (a b : ℕ) (seen : List Slot) (e : Slot) : Type 0 where
  pub member : HasMember seen e
  pub joined : joins st a b e ≡ true
  pub least : (k : Slot) → HasMember seen k → joins st a b k ≡ true → number_of st e ≤ number_of st k

-- the least-named of the edges seen, or none where none of them joins a and b
abbrev pub IsLeast : Stored → ℕ → ℕ → List Slot → Option Slot → Type 0
IsLeast st a b seen o = MatchOption o ((k : Slot) → HasMember seen k → joins st a b k ≡ true → ⊥)
    (IsLeastIn st a b seen)

-- one more that does not join them
pub least_passed : (st : Stored) (a b : ℕ) (seen : List Slot) (o : Option Slot) (e : Slot) → joins st a b e ≡ false
    → IsLeast st a b seen o → IsLeast st a b (seen ++ e ∷ []) o
least_passed st a b seen None e n h = λ k m j. elim (member_cases seen (e ∷ []) k m) [
  | inl p ↦ h k p j
  | inr p ↦ (let P = λ (s : Slot). joins st a b s ≡ true in false≢true (sym n ∙ subst P (sym (member_one p)) j))
]
least_passed st a b seen (Some x) e n h = record {
  member = member_left seen (e ∷ []) x h.member;
  joined = h.joined;
  least = λ k m j. elim (member_cases seen (e ∷ []) k m) [
    | inl p ↦ h.least k p j
    | inr p ↦ (let P = λ (s : Slot). joins st a b s
        ≡ true in absurd (false≢true (sym n ∙ subst P (sym (member_one p)) j)))
  ];
}

-- one more that is not less than that found before
pub least_kept : (st : Stored) (a b : ℕ) (seen : List Slot) (o : Option Slot) (e : Slot)
    → (IfSome o (λ k. number_of st e < number_of st k) → ⊥) → IsLeast st a b seen o → IsLeast st a b (seen ++ e ∷ []) o
least_kept st a b seen None e n h = absurd (n tt)
least_kept st a b seen (Some x) e n h = record {
  member = member_left seen (e ∷ []) x h.member;
  joined = h.joined;
  least = λ k m j. elim (member_cases seen (e ∷ []) k m) [
    | inl p ↦ h.least k p j
    | inr p ↦
        let P = λ (s : Slot). number_of st x ≤ number_of st s in
        subst P (member_one p) (elim (cases_lt (number_of st e) (number_of st x)) [ inl l ↦ absurd (n l) | inr g ↦ g ])
  ];
}

-- one more that is less than that found before, or is the first
pub least_changes : (st : Stored) (a b : ℕ) (seen : List Slot) (o : Option Slot) (e : Slot) → joins st a b e ≡ true
    → IfSome o (λ k. number_of st e < number_of st k) → IsLeast st a b seen o → IsLeastIn st a b (seen ++ e ∷ []) e
least_changes st a b seen None e y n h = record {
  member = member_right seen (e ∷ []) e (inl refl);
  joined = y;
  least = λ k m j. elim (member_cases seen (e ∷ []) k m) [
    | inl p ↦ absurd (h k p j)
    | inr p ↦ (let P = λ (s : Slot). number_of st e ≤ number_of st s in subst P (member_one p) (omega arith))
  ];
}
least_changes st a b seen (Some x) e y n h = record {
  member = member_right seen (e ∷ []) e (inl refl);
  joined = y;
  least = λ k m j. elim (member_cases seen (e ∷ []) k m) [
    | inl p ↦ (let l = h.least k p j in omega arith)
    | inr p ↦ (let P = λ (s : Slot). number_of st e ≤ number_of st s in subst P (member_one p) (omega arith))
  ];
}

-- all edges around a seen
pub least_around : (st : Stored) (a b : ℕ) (o : Option Slot) → HasWholeDisk st a → IsLeast st a b (edges_around st a) o
    → MatchOption o (NoneJoins st a b) (JoinsFirst st a b)
least_around st a b None w h = λ e j. h e (joins_around st a b e w j) j
least_around st a b (Some x) w h = record { joined = h.joined; least = λ k j. h.least k (joins_around st a b k w j) j }

-- ---- the other way round

-- an edge joins two vertices both ways
pub joins_flipped : (st : Stored) (a b : ℕ) (e : Slot) → joins st a b e ≡ joins st b a e
joins_flipped st a b e = by_cell (at st.edges.cells e.0)
  where
    flip : (p q : Bool) → (p || q) ≡ (q || p)
    flip true true = refl
    flip true false = refl
    flip false true = refl
    flip false false = refl

    by_cell : (o : Option EdgeCell)
        → option_map_or (λ (c : EdgeCell). ((end_on 0 c == a) && (end_on 1 c == b)) ||
        ((end_on 0 c == b) && (end_on 1 c == a))) o false
        ≡ option_map_or (λ (c : EdgeCell). ((end_on 0 c == b) && (end_on 1 c == a)) ||
        ((end_on 0 c == a) && (end_on 1 c == b))) o false
    by_cell None = refl
    by_cell (Some c) = flip ((end_on 0 c == a) && (end_on 1 c == b)) ((end_on 0 c == b) && (end_on 1 c == a))

-- so the least-named edge from one to the other is that from the other to the one
pub found_flipped : (st : Stored) (a b : ℕ) (o : Option Slot) → MatchOption o (NoneJoins st b a) (JoinsFirst st b a)
    → MatchOption o (NoneJoins st a b) (JoinsFirst st a b)
found_flipped st a b None h = λ e j. h e (sym (joins_flipped st a b e) ∙ j)
found_flipped st a b (Some x) h = record {
  joined = joins_flipped st a b x ∙ h.joined;
  least = λ k j. h.least k (sym (joins_flipped st a b k) ∙ j);
}
