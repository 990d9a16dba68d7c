-- The least noted name, as entries are read one by one.
use Rattle.std.proofs.Common.{◌≡◌, ◌≢◌, ℕ, ◌+◌, ◌<◌, ◌≤◌, Bool, true, false, cond, min, List, take, inl, inr, sym, ap, ◌∙◌, subst, arith, Option, Some, None, is_some}
use Rattle.std.specs.Prelude.{slice_get, nat_lt}
use Rattle.std.specs.Ordering.{nat_cmp, eq_by_cmp}
use Rattle.std.specs.Cmp.{nat_cmp_total}
use Rattle.std.specs.FinMap.{get, get-insert}
use Rattle.std.proofs.lemmas.Bool.{cases_lt}
use Rattle.std.proofs.lemmas.Bool.Decides.{nat_tests}
use Rattle.mesh_trail.specs.declared.note_map.Entry.{Entry}
use Rattle.mesh_model.specs.ChangeSetNotes.{Notes}
use Rattle.mesh_trail.specs.Tree.{names_of, IsTree, IsLeast, IsLeastFrom, nearer_name, least_of}
use Rattle.mesh_model.proofs.NoteMaps.{key_cases, tied}
use Rattle.mesh_trail.proofs.Copying.{names_more}

nearer_low : (best : Option ℕ) (least name : ℕ) → name < least → nearer_name best least name ≡ best
nearer_low best least name less = let t : nat_lt name least ≡ true =
    grind (arith, nat_tests) in ap (λ (b : Bool). cond b best (Some (least_of best name))) t

nearer_high : (best : Option ℕ) (least name : ℕ) → least ≤ name
    → nearer_name best least name ≡ Some (least_of best name)
nearer_high best least name le = let f : nat_lt name least ≡ false =
    grind (arith, nat_tests) in ap (λ (b : Bool). cond b best (Some (least_of best name))) f

module _ {R : Type 0} (m n : Notes R) (name : ℕ) (was : Option R) (others : (q : ℕ) → q ≢ name → get n q ≡ get m q)
    (new : get n name ≡ Some was) where
  low : (best : Option ℕ) (least : ℕ) → name < least → IsLeast m least best → IsLeast n least best
  low None least less h = λ q from. others q (λ e. absurd (omega arith)) ∙ h q from
  low (Some b) least less h = record {
    from = h.from;
    there = ap is_some (others b (λ e. let f = h.from in absurd (omega arith))) ∙ h.there;
    first = λ q from below. others q (λ e. absurd (omega arith)) ∙ h.first q from below;
  }

  high : (best : Option ℕ) (least : ℕ) → least ≤ name → IsLeast m least best
      → IsLeast n least (Some (least_of best name))
  high None least le h = record {
    from = le;
    there = ap is_some new;
    first = λ q from below. others q (λ e. absurd (omega arith)) ∙ h q from;
  }
  high (Some b) least le h = elim (cases_lt b name) [
    | inl less ↦ (let is : min b name ≡ b = omega arith in subst (λ (k : ℕ). IsLeastFrom n least k) (sym is) (record {
      from = h.from;
      there = ap is_some (others b (λ e. absurd (omega arith))) ∙ h.there;
      first = λ q from below. others q (λ e. absurd (omega arith)) ∙ h.first q from below;
    }))
    | inr over ↦ (let is : min b name ≡ name =
        omega arith in subst (λ (k : ℕ). IsLeastFrom n least k) (sym is) (record {
          from = le;
          there = ap is_some new;
          first = λ q from below. others q (λ e. absurd (omega arith)) ∙ h.first q from (omega arith);
        }))
  ]

  pub nearer_least : (best : Option ℕ) (least : ℕ) → IsLeast m least best
      → IsLeast n least (nearer_name best least name)
  nearer_least best least h = elim (cases_lt name least) [
    | inl less ↦ subst (λ (o : Option ℕ). IsLeast n least o) (sym (nearer_low best least name less))
        (low best least less h)
    | inr le ↦ subst (λ (o : Option ℕ). IsLeast n least o) (sym (nearer_high best least name le)) (high best least le h)
  ]

pub least_more : {R : Type 0} (es : List (Entry R)) (k : ℕ) (e : Entry R) (best : Option ℕ) (least : ℕ) → IsTree es
    → slice_get es k ≡ Some e → IsLeast (names_of (take k es)) least best
    → IsLeast (names_of (take (k + 1) es)) least (nearer_name best least e.name)
least_more {R = R} es k e best least tree at_k h =
    nearer_least (names_of (take k es)) (names_of (take (k + 1) es)) e.name e.was others new best least h
  where
    get-more : (q : ℕ) → get (names_of (take (k + 1) es)) q
        ≡ cond (eq_by_cmp nat_cmp q e.name) (Some e.was) (get (names_of (take k es)) q)
    get-more q = ap (λ (m : Notes R). get m q) (names_more es k e tree.apart at_k)
        ∙ get-insert nat_cmp_total (names_of (take k es)) e.name e.was q

    others : (q : ℕ) → q ≢ e.name → get (names_of (take (k + 1) es)) q ≡ get (names_of (take k es)) q
    others q off = get-more q ∙ elim (key_cases q e.name) [
      | inl is ↦ absurd (off is)
      | inr away ↦ ap
          (λ (b : Bool). cond b (Some e.was) (get (names_of (take k es)) q)) away.1
    ]

    new : get (names_of (take (k + 1) es)) e.name ≡ Some e.was
    new = get-more e.name ∙ ap (λ (b : Bool). cond b (Some e.was) (get (names_of (take k es)) e.name)) (tied e.name)
