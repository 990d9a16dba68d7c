-- When at least two corners run along an edge: the first two that are given are enough to tell.
use Rattle.std.proofs.Common.{◌≡◌, ℕ, zero, suc, ◌+◌, ◌≤◌, Bool, true, false, cond, nat_le, List, [], ◌∷◌, ◌++◌, length, map, refl}
use Rattle.std.proofs.Common.{sym, ap, ◌∙◌, subst, inl, inr, arith, filter, take, get_or, Option, Some, None, is_some}
use Rattle.std.specs.Iterator.{YieldsFirst}
use Rattle.std.specs.List.{enumerate_from}
use Rattle.std.proofs.lemmas.Bool.{le-leb}
use Rattle.std.proofs.lemmas.List.{take_more}
use Rattle.link_ring.specs.Members.{HasMember, AllDistinct}
use Rattle.mesh_cycles.proofs.Mapped.{distinct_flat_map}
use Rattle.mesh_model.specs.Complex.{Complex, corners_of}
use Rattle.mesh_model.specs.Incidence.{corners_in, corners_where}
use Rattle.mesh_model.specs.declared.names.FaceName.{FaceName}
use Rattle.mesh_model.specs.declared.records.CornerRec.{CornerRec}
use Rattle.mesh_records.specs.StandsFor.{ListsOnce}

-- ---- THE PLACES OF CORNERS ARE DISTINCT

-- numbered things have numbers from the first one on
num_least : {X : Type 0} (m : ℕ) (xs : List X) (p : ℕ × X) → HasMember (enumerate_from m xs) p → m ≤ p.0
num_least m [] p h = absurd h
num_least {X = X} m (x ∷ xs) p h = elim h [
  | inl e ↦ (let same : m ≡ p.0 = ap (λ (q : ℕ × X). q.0) e in omega arith)
  | inr rest ↦ (let least = num_least (m + 1) xs p rest in omega arith)
]

nums_distinct : {X : Type 0} (m : ℕ) (xs : List X) → AllDistinct (enumerate_from m xs)
nums_distinct m [] = tt
nums_distinct m (x ∷ xs) =
    ((λ h. let least = num_least (m + 1) xs (m, x) h in omega arith), nums_distinct (m + 1) xs)

num_same : {X : Type 0} (m : ℕ) (xs : List X) (a b : ℕ × X) → HasMember (enumerate_from m xs) a
    → HasMember (enumerate_from m xs) b → a.0 ≡ b.0 → a ≡ b
num_same m [] a b in_a in_b same = absurd in_a
num_same {X = X} m (x ∷ xs) a b in_a in_b same = elim in_a [
  | inl at_a ↦ elim in_b [
    | inl at_b ↦ sym at_a ∙ at_b
    | inr past_b ↦ absurd (
        let here : m ≡ a.0 = ap (λ (q : ℕ × X). q.0) at_a in
        let least = num_least (m + 1) xs b past_b in omega arith)
  ]
  | inr past_a ↦ elim in_b [
    | inl at_b ↦ absurd (
        let here : m ≡ b.0 = ap (λ (q : ℕ × X). q.0) at_b in
        let least = num_least (m + 1) xs a past_a in omega arith)
    | inr past_b ↦ num_same (m + 1) xs a b past_a past_b same
  ]
]

-- the places of the corners of one face that pass
abbrev places : (CornerRec → Bool) → FaceName → ℕ → List CornerRec → List (FaceName × ℕ)
places test f m ks = map (λ (k : ℕ × CornerRec). (f, k.0)) (filter (λ (k : ℕ × CornerRec). test k.1) (enumerate_from m ks))

place_from : (test : CornerRec → Bool) (f : FaceName) (m : ℕ) (ks : List CornerRec) (z : FaceName × ℕ)
    → HasMember (places test f m ks) z → (z.0 ≡ f) × (m ≤ z.1)
place_from test f m [] z h = absurd h
place_from test f m (k ∷ ks) z h = by_test (test k) (λ rest. sooner (place_from test f (m + 1) ks z rest)) h
  where
    sooner : (z.0 ≡ f) × (m + 1 ≤ z.1) → (z.0 ≡ f) × (m ≤ z.1)
    sooner it = let least : m + 1 ≤ z.1 = it.1 in (it.0, omega arith)

    by_test : (b : Bool) → (HasMember (places test f (m + 1) ks) z → (z.0 ≡ f) × (m ≤ z.1))
        → HasMember (map (λ (k : ℕ × CornerRec). (f, k.0)) (cond b ((m, k) ∷ filter (λ (k : ℕ × CornerRec). test k.1)
        (enumerate_from (m + 1) ks)) (filter (λ (k : ℕ × CornerRec). test k.1) (enumerate_from (m + 1) ks)))) z
        → (z.0 ≡ f) × (m ≤ z.1)
    by_test true later member = elim member [
      | inl e ↦ (let same : m ≡ z.1 = ap (λ (q : FaceName × ℕ). q.1) e in
          (sym (ap (λ (q : FaceName × ℕ). q.0) e), omega arith))
      | inr rest ↦ later rest
    ]
    by_test false later member = later member

places_distinct : (test : CornerRec → Bool) (f : FaceName) (m : ℕ) (ks : List CornerRec) → AllDistinct {K = FaceName × ℕ} (places test f m ks)
places_distinct test f m [] = tt
places_distinct test f m (k ∷ ks) = by_test (test k) (places_distinct test f (m + 1) ks)
  where
    by_test : (b : Bool) → AllDistinct {K = FaceName × ℕ} (places test f (m + 1) ks) → AllDistinct {K = FaceName × ℕ} (map (λ (k : ℕ × CornerRec). (f, k.0)) (cond b ((m, k) ∷ filter (λ (k : ℕ × CornerRec). test k.1)
        (enumerate_from (m + 1) ks)) (filter (λ (k : ℕ × CornerRec). test k.1) (enumerate_from (m + 1) ks))))
    by_test true rest =
        ((λ h. let it = place_from test f (m + 1) ks (f, m) h in let least : m + 1 ≤ m = it.1 in omega arith), rest)
    by_test false rest = rest

pub corners_distinct : (test : CornerRec → Bool) (c : Complex) → AllDistinct (corners_where test c)
corners_distinct test c =
    distinct_flat_map (corners_in test) (enumerate_from 0 c.faces)
    (λ a h. places_distinct test (record { 0 = a.0 }) 0 (corners_of a.1))
    (λ a b y in_a in_b at_a at_b. num_same 0 c.faces a b in_a in_b
    (ap (λ (f : FaceName). f.0) (sym (place_from test (record { 0 = a.0 }) 0 (corners_of a.1) y at_a).0
    ∙ (place_from test (record { 0 = b.0 }) 0 (corners_of b.1) y at_b).0)))
    (nums_distinct 0 c.faces)

-- ---- THE FIRST TWO

two_members : {X : Type 0} (ys : List X) (x y : X) → HasMember ys x → HasMember ys y → (x ≡ y → ⊥) → 2 ≤ length ys
two_members [] x y in_x in_y apart = absurd in_x
two_members (a ∷ []) x y in_x in_y apart = absurd (elim in_x [
  | inl at_x ↦ elim in_y [ inl at_y ↦ apart (sym at_x ∙ at_y) | inr none ↦ none ]
  | inr none ↦ none
])
two_members (a ∷ b ∷ ys) x y in_x in_y apart = omega arith

one_member : {X : Type 0} (ys : List X) (x : X) → AllDistinct ys → ((z : X) → HasMember ys z → x ≡ z) → length ys ≤ 1
one_member [] x once same = omega arith
one_member (a ∷ []) x once same = omega arith
one_member (a ∷ b ∷ ys) x once same =
    absurd (once.0 (inl (sym (same b (inr (inl refl))) ∙ same a (inl refl))))

pub none_given : {X : Type 0} (xs ys : List X) → ListsOnce xs ys → xs ≡ [] → false ≡ nat_le 2 (length ys)
none_given xs [] l is = refl
none_given {X = X} xs (y ∷ ys) l is = absurd (subst (λ (zs : List X). HasMember zs y) is ((l.same y).1 (inl refl)))

pub one_given : {X : Type 0} (xs ys : List X) (x : X) → ListsOnce xs ys → AllDistinct ys → xs ≡ x ∷ []
    → false ≡ nat_le 2 (length ys)
one_given {X = X} xs ys x l once is =
    let few = one_member ys x once (λ z among. elim (subst (λ (zs : List X). HasMember zs z) is ((l.same z).1 among))
    [ inl at_z ↦ at_z | inr none ↦ absurd none ]) in
    below (length ys) few
  where
    below : (n : ℕ) → n ≤ 1 → false ≡ nat_le 2 n
    below n few = sym (not_two n few)
      where
        not_two : (n : ℕ) → n ≤ 1 → nat_le 2 n ≡ false
        not_two zero few = refl
        not_two (suc n) few = let is : n ≡ zero = omega arith in rw is refl

pub two_given : {X : Type 0} (xs ys : List X) (x y : X) (rest : List X) → ListsOnce xs ys → xs ≡ x ∷ y ∷ rest
    → true ≡ nat_le 2 (length ys)
two_given {X = X} xs ys x y rest l is =
    let once : AllDistinct (x ∷ y ∷ rest) = subst (λ (zs : List X). AllDistinct zs) is l.once in
    let in_x : HasMember xs x = subst (λ (zs : List X). HasMember zs x) (sym is) (inl refl) in
    let in_y : HasMember xs y = subst (λ (zs : List X). HasMember zs y) (sym is) (inr (inl refl)) in
    sym (le-leb 2 (length ys) (two_members ys x y ((l.same x).0 in_x) ((l.same y).0 in_y)
    (λ same. once.0 (inl (sym same)))))

-- the first two that an iterator gives tell
pub told_none : {S X : Type 0} (left : S → List X) (s t : S) (r : Option X) (b : Bool) (ys : List X)
    → YieldsFirst left s r t → ListsOnce (left s) ys → b ≡ is_some r → b ≡ false → false ≡ nat_le 2 (length ys)
told_none left s t None b ys gives l is gone = none_given (left s) ys l gives.0
told_none left s t (Some x) b ys gives l is gone = absurd (let wrong : true ≡ false = sym is ∙ gone in cc)

pub told_two : {S X : Type 0} (left : S → List X) (s t u : S) (r q : Option X) (a b : Bool) (ys : List X)
    → YieldsFirst left s r t → YieldsFirst left t q u → ListsOnce (left s) ys → AllDistinct ys → a ≡ is_some r
    → a ≡ true → b ≡ is_some q → b ≡ nat_le 2 (length ys)
told_two left s t u None q a b ys first next l once is given is_next =
    absurd (let wrong : false ≡ true = sym is ∙ given in cc)
told_two {X = X} left s t u (Some x) None a b ys first next l once is given is_next =
    is_next ∙ one_given (left s) ys x l once (first ∙ ap (λ (zs : List X). x ∷ zs) next.0)
told_two {X = X} left s t u (Some x) (Some y) a b ys first next l once is given is_next =
    is_next ∙ two_given (left s) ys x y (left u) l (first ∙ ap (λ (zs : List X). x ∷ zs) next)

-- ---- A FILTER, ONE AFTER ANOTHER

pub filter_next : {X : Type 0} (p : X → Bool) (xs : List X) (i : ℕ) (d : X) → suc i ≤ length xs
    → cond (p (get_or xs i d)) (filter p (take i xs) ++ get_or xs i d ∷ []) (filter p (take i xs))
    ≡ filter p (take (i + 1) xs)
filter_next {X = X} p xs i d less =
    sym (ap (filter p) (take_more xs i d (omega arith)) ∙ pushed (take i xs) (get_or xs i d))
  where
    pushed : (ys : List X) (x : X) → filter p (ys ++ x ∷ []) ≡ cond (p x) (filter p ys ++ x ∷ []) (filter p ys)
    pushed [] x = refl
    pushed (y ∷ ys) x = over (p y) (p x) (pushed ys x)
      where
        over : (a b : Bool) → filter p (ys ++ x ∷ []) ≡ cond b (filter p ys ++ x ∷ []) (filter p ys)
            → cond a (y ∷ filter p (ys ++ x ∷ [])) (filter p (ys ++ x ∷ []))
            ≡ cond b (cond a (y ∷ filter p ys) (filter p ys) ++ x ∷ []) (cond a (y ∷ filter p ys) (filter p ys))
        over true true h = ap (λ (zs : List X). y ∷ zs) h
        over true false h = ap (λ (zs : List X). y ∷ zs) h
        over false true h = h
        over false false h = h
