-- Tables with what stands at some names once more behind, and where it stands.
use Rattle.std.proofs.Common.{◌≡◌, ℕ, ◌+◌, ◌-◌, ◌<◌, Bool, true, eqb, List, ◌++◌, length, get_or, map, refl, sym, ap, ◌∙◌}
use Rattle.std.proofs.Common.{[], ◌∷◌, arith, Option, Some, None, ◌⊎◌, inl, inr, ◌||◌}
use Rattle.std.specs.List.{list_any}
use Rattle.std.proofs.lemmas.Bool.{cases_lt}
use Rattle.std.proofs.lemmas.List.{get_or_append_left, get_or-append-add, get_or-map, length-append, length-map}
use Rattle.mesh_model.specs.Table.{at, IsThere}
use Rattle.mesh_model.specs.Naming.{rank, fresh, is_rising}
use Rattle.mesh_model.proofs.Ranks.{get_or-rank, rank-below}
use Rattle.mesh_model.proofs.Tables.{at-below, there-below}

-- ---- APPENDS

-- below the next name nothing changes
pub at-old : {X : Type 0} (t more : List (Option X)) (n : ℕ) → n < length t → at (t ++ more) n ≡ at t n
at-old t more n less = get_or_append_left t more None n less

pub at-old_there : {X : Type 0} (t more : List (Option X)) (n : ℕ) → IsThere t n → at (t ++ more) n ≡ at t n
at-old_there t more n there = at-old t more n (there-below t n there)

-- behind stands what a function gives, in order
pub at-new : {N X : Type 0} (g : N → Option X) (t : List (Option X)) (ns : List N) (j : ℕ) (d : N) → j < length ns
    → at (t ++ map g ns) (length t + j) ≡ g (get_or ns j d)
at-new g t ns j d less = get_or-append-add t (map g ns) j None ∙ get_or-map g ns j d None less

pub length-copies : {N X : Type 0} (g : N → Option X) (t : List (Option X)) (ns : List N)
    → length (t ++ map g ns) ≡ length t + length ns
length-copies g t ns = length-append t (map g ns) ∙ ap (λ (k : ℕ). length t + k) (length-map ns g)

-- what stands at a name is what a function gives of the member at a position
pub record IsNew {N X : Type 0} (g : N → Option X) (t : List (Option X)) (ns : List N) (n : ℕ) (x : X) : Type 0 where
  pub place : ℕ
  pub within : place < length ns
  pub name : n ≡ length t + place
  pub source : (d : N) → g (get_or ns place d) ≡ Some x

-- what stands after stood before, or is new
pub old-or-new : {N X : Type 0} (g : N → Option X) (t : List (Option X)) (ns : List N) (n : ℕ) (x : X)
    → at (t ++ map g ns) n ≡ Some x → (at t n ≡ Some x) ⊎ IsNew g t ns n x
old-or-new {N = N} g t ns n x h = elim (cases_lt n (length t)) [
  | inl less ↦ inl (sym (at-old t (map g ns) n less) ∙ h)
  | inr over ↦
      let below = at-below (t ++ map g ns) n x h in
      let long = length-copies g t ns in
      let within : n - length t < length ns = omega arith in
      let name : n ≡ length t + (n - length t) = omega arith in
      inr (record {
        place = n - length t;
        within = within;
        name = name;
        source = λ d. sym (at-new g t ns (n - length t) d within)
            ∙ ap (λ (m : ℕ). at (t ++ map g ns) m) (sym name) ∙ h;
      })
]

-- ---- MEMBERS, BY NUMBER

-- a number is among those of a list of names
abbrev pub is_member : {N : Type 0} → (N → ℕ) → List N → ℕ → Bool
is_member num ns n = list_any (λ x. eqb (num x) n) ns

member-numbers : {N : Type 0} (num : N → ℕ) (ns : List N) (n : ℕ)
    → list_any (λ y. eqb y n) (map num ns) ≡ is_member num ns n
member-numbers num [] n = refl
member-numbers num (x ∷ xs) n = ap (λ (b : Bool). eqb (num x) n || b) (member-numbers num xs n)

pub among-numbers : {N : Type 0} (num : N → ℕ) (ns : List N) (n : ℕ) → is_member num ns n ≡ true
    → list_any (λ y. eqb y n) (map num ns) ≡ true
among-numbers num ns n h = member-numbers num ns n ∙ h

-- a member's rank is below the number of members
pub rank-within : {N : Type 0} (num : N → ℕ) (ns : List N) (n : ℕ) → is_rising (map num ns) ≡ true
    → is_member num ns n ≡ true → rank (map num ns) n < length ns
rank-within num ns n rising among =
    let less = rank-below (map num ns) n rising (among-numbers num ns n among) in
    omega (arith, length-map ns num)

-- and there it stands
pub number-at_rank : {N : Type 0} (num : N → ℕ) (ns : List N) (n : ℕ) (d : N) → is_rising (map num ns) ≡ true
    → is_member num ns n ≡ true → num (get_or ns (rank (map num ns) n) d) ≡ n
number-at_rank num ns n d rising among =
    sym (get_or-map num ns (rank (map num ns) n) d 0 (rank-within num ns n rising among))
    ∙ get_or-rank (map num ns) n rising (among-numbers num ns n among)

-- at a member's fresh name stands what a function gives of its number
pub at-member : {N X : Type 0} (num : N → ℕ) (h : ℕ → Option X) (t : List (Option X)) (ns : List N) (n : ℕ) (d : N)
    → is_rising (map num ns) ≡ true → is_member num ns n ≡ true
    → at (t ++ map (λ x. h (num x)) ns) (fresh (length t) 0 (map num ns) n) ≡ h n
at-member {X = X} num h t ns n d rising among =
    let k = rank (map num ns) n in
    let name : length t + 0 + k ≡ length t + k = omega arith in
    ap (λ (m : ℕ). at (t ++ map (λ x. h (num x)) ns) m) name
    ∙ at-new (λ x. h (num x)) t ns k d (rank-within num ns n rising among)
    ∙ ap h (number-at_rank num ns n d rising among)
