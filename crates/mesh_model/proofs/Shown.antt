-- A test that shows a fact: it answers true exactly where the fact holds.
use Rattle.std.proofs.Common.{◌≡◌, ◌≢◌, ◌↔◌, ℕ, ◌<◌, ◌≤◌, Bool, true, false, not, nat_eq, nat_lt, nat_le, ◌&&◌, List}
use Rattle.std.proofs.Common.{get_or, refl, sym, ap, ◌∙◌, Option, Some, None, All}
use Rattle.std.specs.List.{list_all}
use Rattle.std.proofs.lemmas.Bool.{and_parts, and_from, not-true, not_from_false, eqb-true, eq-eqb, eqb-false, ne_eqb}
use Rattle.std.proofs.lemmas.Bool.{leb-true, le-leb, ltb-true, lt-ltb}
use Rattle.std.proofs.lemmas.List.{get_or_default}
use Rattle.mesh_model.specs.Table.{at, Each, allows}
use Rattle.mesh_model.proofs.Lists.{list_all-All, All-list_all}
use Rattle.mesh_model.proofs.Tables.{at-below}

-- a test shows a fact
abbrev pub Shows : Bool → Type 0 → Type 0
Shows b P = (b ≡ true) ↔ P

pub itself : (b : Bool) → Shows b (b ≡ true)
itself b = (λ h. h, λ h. h)

pub shows_eq : (m n : ℕ) → Shows (nat_eq m n) (m ≡ n)
shows_eq m n = (eqb-true m n, eq-eqb m n)

pub shows_ne : (m n : ℕ) → Shows (not (nat_eq m n)) (m ≢ n)
shows_ne m n = (λ h. eqb-false m n (not-true (nat_eq m n) h), λ h. not_from_false (nat_eq m n) (ne_eqb m n h))

pub shows_le : (m n : ℕ) → Shows (nat_le m n) (m ≤ n)
shows_le m n = (leb-true m n, le-leb m n)

pub shows_lt : (m n : ℕ) → Shows (nat_lt m n) (m < n)
shows_lt m n = (ltb-true m n, lt-ltb m n)

pub shows_false : (b : Bool) → Shows (not b) (b ≡ false)
shows_false b = (not-true b, not_from_false b)

-- two tests, and two facts
pub shows_both : {P Q : Type 0} (p q : Bool) → Shows p P → Shows q Q → Shows (p && q) (P × Q)
shows_both p q shows_p shows_q = (
  λ h. let both = and_parts p q h in (shows_p.0 both.0, shows_q.0 both.1),
  λ h. and_from p q (shows_p.1 h.0) (shows_q.1 h.1),
)

-- the same fact in another form
pub shows_as : {P Q : Type 0} (p : Bool) → Shows p P → (P → Q) → (Q → P) → Shows p Q
shows_as p shows there back = (λ h. there (shows.0 h), λ h. shows.1 (back h))

-- a test of each element
pub shows_all : {X : Type 0} (P : X → Type 0) (p : X → Bool) (xs : List X) → ((x : X) → Shows (p x) (P x))
    → Shows (list_all p xs) (All P xs)
shows_all P p xs shows = (
  λ h k d less. (shows (get_or xs k d)).0 (list_all-All p xs h k d less),
  λ h. All-list_all p xs (λ k d less. (shows (get_or xs k d)).1 (h k d less)),
)

-- a test of each record that stands
pub shows_each : {X : Type 0} (P : X → Type 0) (p : X → Bool) (table : List (Option X)) → ((x : X) → Shows (p x) (P x))
    → Shows (list_all (allows p) table) (Each P table)
shows_each {X = X} P p table shows = (
  λ h n x is. (shows x).0 (ap (allows p) (sym is) ∙ list_all-All (allows p) table h n None (at-below table n x is)),
  λ h. All-list_all (allows p) table (λ k d less. ap (allows p) (get_or_default table k d None less)
      ∙ one (at table k) (h k)),
)
  where
    one : (o : Option X) → ((x : X) → o ≡ Some x → P x) → allows p o ≡ true
    one None h = refl
    one (Some x) h = (shows x).1 (h x refl)
