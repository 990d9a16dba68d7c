-- Each element that is there is noted as one that wasn't.
use Rattle.std.proofs.Common.{◌≡◌, ◌<◌, ◌≤◌, ◌+◌, ℕ, Bool, List, [], Option, Some, None, length, refl, sym, ap, ◌∙◌, subst, inl, inr, arith}
use Rattle.std.specs.Prelude.{cond}
use Rattle.std.specs.Cmp.{nat_cmp_total}
use Rattle.std.specs.Ordering.{nat_cmp}
use Rattle.std.specs.FinMap.{get, empty, get-insert, get-empty}
use Rattle.std.proofs.lemmas.Bool.{cases_lt}
use Rattle.mesh_model.specs.Table.{at}
use Rattle.mesh_model.specs.ChangeSetNotes.{Notes, note_between, notes_between}
use Rattle.mesh_model.proofs.Leads.{same_notes, get-notes_between}
use Rattle.mesh_model.proofs.NoteMaps.{tied, apart}
use Rattle.mesh_model.proofs.Tables.{at-past}
use Rattle.mesh_trail.specs.Between.{with_new}
use Rattle.mesh_trail.proofs.MapNotes.{first_at_none}

-- the names below a bound that stand in a table are noted as absent, and no others
pub record AreNew {R : Type 0} (same : R → R → Bool) (xs : List (Option R)) (notes : Notes R) (bound : ℕ) : Type 0 where
  pub below : (q : ℕ) → q < bound → get notes q ≡ note_between same None (at xs q)
  pub past : (q : ℕ) → bound ≤ q → get notes q ≡ None

module _ {R : Type 0} (same : R → R → Bool) (xs : List (Option R)) where
  pub new_none : (notes : Notes R) → notes ≡ empty → AreNew same xs notes 0
  new_none notes e = record {
    below = λ q lt. absurd (omega arith);
    past = λ q le. ap (λ (m : Notes R). get m q) e ∙ get-empty nat_cmp q;
  }

  -- what is noted at the next name
  next_is : (notes : Notes R) (k : ℕ) → get notes k ≡ None → (o : Option R) → get (with_new notes k o) k
      ≡ note_between same None o
  next_is notes k none None = none
  next_is notes k none (Some x) =
      ap (λ (m : Notes R). get m k) (first_at_none notes k None none) ∙ get-insert nat_cmp_total notes k None k
      ∙ ap (λ (b : Bool). cond b (Some None) (get notes k)) (tied k)

  -- and at each other name what was
  other_is : (notes : Notes R) (k q : ℕ) → get notes k ≡ None → (q ≡ k → ⊥) → (o : Option R)
      → get (with_new notes k o) q ≡ get notes q
  other_is notes k q none ne None = refl
  other_is notes k q none ne (Some x) =
      ap (λ (m : Notes R). get m q) (first_at_none notes k None none) ∙ get-insert nat_cmp_total notes k None q
      ∙ ap (λ (b : Bool). cond b (Some None) (get notes q)) (apart q k ne)

  pub new_one : (notes new : Notes R) (k : ℕ) → AreNew same xs notes k → new ≡ with_new notes k (at xs k)
      → AreNew same xs new (k + 1)
  new_one notes new k h e =
      let none = h.past k (omega arith) in
      record {
        below = λ q lt. ap (λ (m : Notes R). get m q) e ∙ elim (cases_lt q k) [
          | inl less ↦ other_is notes k q none (λ p. absurd (omega arith)) (at xs k) ∙ h.below q less
          | inr over ↦
              let same_name : k ≡ q = omega arith in
              let P = λ (j : ℕ). get (with_new notes k (at xs k)) j ≡ note_between same None (at xs j) in
              subst P same_name (next_is notes k none (at xs k))
        ];
        past = λ q le. ap (λ (m : Notes R). get m q) e
            ∙ other_is notes k q none (λ p. absurd (omega arith)) (at xs k) ∙ h.past q (omega arith);
      }

  pub new_all : (notes : Notes R) (bound : ℕ) → AreNew same xs notes bound → length xs ≤ bound
      → notes ≡ notes_between same [] xs
  new_all notes bound h le = same_notes notes (notes_between same [] xs) (λ q. elim (cases_lt q bound) [
    | inl less ↦ h.below q less ∙ sym (get-notes_between same [] xs q)
    | inr over ↦ h.past q over ∙ sym (get-notes_between same [] xs q
        ∙ ap (note_between same None) (at-past xs q (omega arith)))
  ])
