-- Records taken away, one name after another, as one filter; names of any kind.
use Rattle.std.proofs.Common.{◌≡◌, ℕ, ◌+◌, ◌<◌, Bool, true, false, not, eqb, ◌&&◌, ◌||◌, List, length, map, take, get_or}
use Rattle.std.proofs.Common.{refl, sym, ap, ◌∙◌, Option}
use Rattle.std.specs.List.{list_any}
use Rattle.std.proofs.lemmas.List.Folds.{list_any_more}
use Rattle.std.proofs.lemmas.Bool.{eqb-true}
use Rattle.mesh_model.specs.Table.{kept_names, erase, IsThere}
use Rattle.mesh_model.specs.Naming.{is_rising}
use Rattle.mesh_model.proofs.Tables.{erase-kept_names, kept_names-same, there-kept_names}
use Rattle.mesh_passes.proofs.Rising.{not_before}

-- a name's number is among those of a list
abbrev pub named : {N : Type 0} → (N → ℕ) → List N → ℕ → Bool
named num ns n = list_any (λ x. eqb (num x) n) ns

gone-kill : (a b g : Bool) → (b ≡ true → g ≡ true) → not ((a || b) && g) ≡ (not (a && g) && not b)
gone-kill true true g h = rw (h refl) refl
gone-kill true false true h = refl
gone-kill true false false h = refl
gone-kill false true g h = rw (h refl) refl
gone-kill false false g h = refl

gone-keep : (a b g : Bool) → (b ≡ true → g ≡ false) → not ((a || b) && g) ≡ not (a && g)
gone-keep true b g h = refl
gone-keep false true g h = rw (h refl) refl
gone-keep false false g h = refl

-- ---- those of a list that have a property

-- the next one has it, and is taken away
pub one_killed : {N X : Type 0} (num : N → ℕ) (ns : List N) (g : ℕ → Bool) (t : List (Option X)) (i : ℕ) (d : N)
    → i < length ns → g (num (get_or ns i d)) ≡ true
    → erase (kept_names (λ n. not (named num (take i ns) n && g n)) t) (num (get_or ns i d))
    ≡ kept_names (λ n. not (named num (take (i + 1) ns) n && g n)) t
one_killed num ns g t i d less has =
    erase-kept_names (λ n. not (named num (take i ns) n && g n)) (λ n. not (named num (take (i + 1) ns) n && g n))
    (num (get_or ns i d)) t
    (λ n. ap (λ (b : Bool). not (b && g n)) (list_any_more (λ x. eqb (num x) n) ns i d less)
    ∙ gone-kill (named num (take i ns) n) (eqb (num (get_or ns i d)) n) (g n)
    (λ h. ap g (sym (eqb-true (num (get_or ns i d)) n h)) ∙ has))

-- the next one doesn't have it, and stays
pub one_kept : {N X : Type 0} (num : N → ℕ) (ns : List N) (g : ℕ → Bool) (t : List (Option X)) (i : ℕ) (d : N)
    → i < length ns → g (num (get_or ns i d)) ≡ false
    → kept_names (λ n. not (named num (take i ns) n && g n)) t
    ≡ kept_names (λ n. not (named num (take (i + 1) ns) n && g n)) t
one_kept num ns g t i d less has =
    kept_names-same (λ n. not (named num (take i ns) n && g n)) (λ n. not (named num (take (i + 1) ns) n && g n)) t
    (λ n. sym (ap (λ (b : Bool). not (b && g n)) (list_any_more (λ x. eqb (num x) n) ns i d less)
    ∙ gone-keep (named num (take i ns) n) (eqb (num (get_or ns i d)) n) (g n)
    (λ h. ap g (sym (eqb-true (num (get_or ns i d)) n h)) ∙ has)))

-- the next one is still there
pub still_there : {N X : Type 0} (num : N → ℕ) (ns : List N) (g : ℕ → Bool) (t : List (Option X)) (i : ℕ) (d : N)
    → is_rising (map num ns) ≡ true → i < length ns → IsThere t (num (get_or ns i d))
    → IsThere (kept_names (λ n. not (named num (take i ns) n && g n)) t) (num (get_or ns i d))
still_there num ns g t i d rising less there =
    there-kept_names (λ n. not (named num (take i ns) n && g n)) t (num (get_or ns i d))
    (ap (λ (b : Bool). not (b && g (num (get_or ns i d)))) (not_before num ns i d rising less)) there

-- ---- all of a list

or_not : (a b : Bool) → not (a || b) ≡ (not a && not b)
or_not true b = refl
or_not false b = refl

-- the next one is taken away
pub next_killed : {N X : Type 0} (num : N → ℕ) (ns : List N) (t : List (Option X)) (i : ℕ) (d : N) → i < length ns
    → erase (kept_names (λ n. not (named num (take i ns) n)) t) (num (get_or ns i d))
    ≡ kept_names (λ n. not (named num (take (i + 1) ns) n)) t
next_killed num ns t i d less =
    erase-kept_names (λ n. not (named num (take i ns) n)) (λ n. not (named num (take (i + 1) ns) n))
    (num (get_or ns i d)) t
    (λ n. ap not (list_any_more (λ x. eqb (num x) n) ns i d less)
    ∙ or_not (named num (take i ns) n) (eqb (num (get_or ns i d)) n))

-- the next one is still there
pub next_there : {N X : Type 0} (num : N → ℕ) (ns : List N) (t : List (Option X)) (i : ℕ) (d : N)
    → is_rising (map num ns) ≡ true → i < length ns → IsThere t (num (get_or ns i d))
    → IsThere (kept_names (λ n. not (named num (take i ns) n)) t) (num (get_or ns i d))
next_there num ns t i d rising less there =
    there-kept_names (λ n. not (named num (take i ns) n)) t (num (get_or ns i d))
    (ap not (not_before num ns i d rising less)) there
