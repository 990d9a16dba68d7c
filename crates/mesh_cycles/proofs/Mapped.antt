-- Members of lists that are filtered or joined, and when none of them stands twice.
use Rattle.std.proofs.Common.{append_assoc, append-nil, ◌≡◌, ◌⊎◌, Bool, true, false, cond, List, [], ◌∷◌, ◌++◌, Option, Some, refl, sym, ap, ◌∙◌, subst, inl, inr}
use Rattle.std.specs.List.{filter, find, flat_map}
use Rattle.std.proofs.lemmas.Bool.{false≢true}
use Rattle.link_ring.specs.Members.{HasMember, AllDistinct}
use Rattle.link_ring.proofs.Members.{member_along, member_of, member_left, member_right, member_cases, distinct_join}

-- ---- filter

-- a member of either of two lists that a test chooses from
cond_member : {A : Type 0} (b : Bool) (x : A) (ys zs : List A) (k : A) → HasMember (cond b (x ∷ ys) zs) k
    → ((b ≡ true) × (x ≡ k)) ⊎ (HasMember ys k ⊎ HasMember zs k)
cond_member true x ys zs k h = elim h [ inl e ↦ inl (refl, e) | inr r ↦ inr (inl r) ]
cond_member false x ys zs k h = inr (inr h)

-- a member of a filtered list is a member that passes the test
pub filtered_from : {A : Type 0} (test : A → Bool) (xs : List A) (k : A) → HasMember (filter test xs) k
    → HasMember xs k × (test k ≡ true)
filtered_from test [] k h = absurd h
filtered_from {A} test (x ∷ xs) k h = elim (cond_member (test x) x (filter test xs) (filter test xs) k h) [
  | inl p ↦ (inl p.1, (let P = λ (y : A). test y ≡ true in subst P p.1 p.0))
  | inr r ↦ elim r [
    | inl a ↦ (let t = filtered_from test xs k a in (inr t.0, t.1))
    | inr a ↦ (let t = filtered_from test xs k a in (inr t.0, t.1))
  ]
]

-- the second of two lists that a test chooses from is within both
cond_inside : {A : Type 0} (b : Bool) (x : A) (ys : List A) (k : A) → HasMember ys k → HasMember (cond b (x ∷ ys) ys) k
cond_inside true x ys k h = inr h
cond_inside false x ys k h = h

-- the first
cond_first : {A : Type 0} (b : Bool) (x : A) (ys : List A) → b ≡ true → HasMember (cond b (x ∷ ys) ys) x
cond_first true x ys e = inl refl
cond_first false x ys e = absurd (false≢true e)

-- a member that passes the test is a member of the filtered list
pub filtered_to : {A : Type 0} (test : A → Bool) (xs : List A) (k : A) → HasMember xs k → test k ≡ true
    → HasMember (filter test xs) k
filtered_to test [] k h e = absurd h
filtered_to {A} test (x ∷ xs) k h e = elim h [
  | inl p ↦
      let P = λ (y : A). HasMember (cond (test x) (x ∷ filter test xs) (filter test xs)) y in
      let Q = λ (y : A). test y ≡ true in
      subst P p (cond_first (test x) x (filter test xs) (subst Q (sym p) e))
  | inr r ↦ cond_inside (test x) x (filter test xs) k (filtered_to test xs k r e)
]

-- one more, or not
cond_distinct : {A : Type 0} (b : Bool) (x : A) (ys : List A) → (HasMember ys x → ⊥) → AllDistinct ys
    → AllDistinct (cond b (x ∷ ys) ys)
cond_distinct true x ys n d = (n, d)
cond_distinct false x ys n d = d

-- a filtered list repeats no member
pub distinct_filter : {A : Type 0} (test : A → Bool) (xs : List A) → AllDistinct xs → AllDistinct (filter test xs)
distinct_filter test [] d = tt
distinct_filter test (x ∷ xs) d = cond_distinct (test x) x (filter test xs) (λ h. d.0 (filtered_from test xs x h).0)
    (distinct_filter test xs d.1)

-- ---- flat_map

-- which member a member of the joined lists comes from
pub record PartOf {A B : Type 0} (f : A → List B) (xs : List A) (y : B) : Type 0 where
  pub of : A
  pub member : HasMember xs of
  pub part : HasMember (f of) y

-- a member of the joined lists is one of one of them
pub joined_from : {A B : Type 0} (f : A → List B) (xs : List A) (y : B) → HasMember (flat_map f xs) y → PartOf f xs y
joined_from f [] y h = absurd h
joined_from f (x ∷ xs) y h = elim (member_cases (f x) (flat_map f xs) y h) [
  | inl a ↦ record { of = x; member = inl refl; part = a }
  | inr b ↦ (let t = joined_from f xs y b in record { of = t.of; member = inr t.member; part = t.part })
]

-- a member of one of the lists is one of the joined lists
pub joined_to : {A B : Type 0} (f : A → List B) (xs : List A) (x : A) (y : B) → HasMember xs x → HasMember (f x) y
    → HasMember (flat_map f xs) y
joined_to f [] x y h k = absurd h
joined_to {A} f (z ∷ xs) x y h k = elim h [
  | inl e ↦ member_left (f z) (flat_map f xs) y (let P = λ (a : A). HasMember (f a) y in subst P (sym e) k)
  | inr r ↦ member_right (f z) (flat_map f xs) y (joined_to f xs x y r k)
]

-- lists that share no member and repeat none repeat none when they are joined
pub distinct_flat_map : {A B : Type 0} (f : A → List B) (xs : List A) → ((a : A) → HasMember xs a → AllDistinct (f a))
    → ((a b : A) (y : B) → HasMember xs a → HasMember xs b → HasMember (f a) y → HasMember (f b) y → a ≡ b)
    → AllDistinct xs → AllDistinct (flat_map f xs)
distinct_flat_map f [] each one d = tt
distinct_flat_map f (x ∷ xs) each one d =
    distinct_join (f x) (flat_map f xs) (record {
      left = each x (inl refl);
      right = distinct_flat_map f xs (λ a p. each a (inr p)) (λ a b y p q. one a b y (inr p) (inr q)) d.1;
      apart = λ y a b. let t = joined_from f xs y b in d.0 (member_along xs t.member
          (one t.of x y (inr t.member) (inl refl) t.part a));
    })

-- ---- find

-- what a search that may stop at x finds
cond_found : {A : Type 0} (b : Bool) (x : A) (o : Option A) (k : A) → cond b (Some x) o ≡ Some k
    → ((b ≡ true) × (x ≡ k)) ⊎ (o ≡ Some k)
cond_found true x o k e = inl (refl, cc)
cond_found false x o k e = inr e

-- what is found is a member that passes the test
pub found_passes : {A : Type 0} (test : A → Bool) (xs : List A) (k : A) → find test xs ≡ Some k
    → HasMember xs k × (test k ≡ true)
found_passes test [] k e = absurd (cc)
found_passes {A} test (x ∷ xs) k e = elim (cond_found (test x) x (find test xs) k e) [
  | inl p ↦ (inl p.1, (let P = λ (y : A). test y ≡ true in subst P p.1 p.0))
  | inr r ↦ (let t = found_passes test xs k r in (inr t.0, t.1))
]

-- a search that may stop at x finds something
cond_finds : {A : Type 0} (b : Bool) (x : A) (o : Option A) → (b ≡ true) ⊎ ((k : A) × (o ≡ Some k))
    → (k : A) × (cond b (Some x) o ≡ Some k)
cond_finds true x o h = (x, refl)
cond_finds false x o h = elim h [ inl e ↦ absurd (false≢true e) | inr t ↦ t ]

-- where a member passes the test, one is found
pub finds_one : {A : Type 0} (test : A → Bool) (xs : List A) (k : A) → HasMember xs k → test k ≡ true
    → (j : A) × (find test xs ≡ Some j)
finds_one test [] k h e = absurd h
finds_one {A} test (x ∷ xs) k h e = cond_finds (test x) x (find test xs) (elim h [
  | inl p ↦ inl (let P = λ (y : A). test y ≡ true in subst P (sym p) e)
  | inr r ↦ inr (finds_one test xs k r e)
])

-- ---- a walk, of which some items are taken and some left

-- the next item is a member of all
pub next_member : {A : Type 0} (all taken left rest : List A) (x : A) → taken ++ left ≡ all → left ≡ x ∷ rest
    → HasMember all x
next_member {A} all taken left rest x e n =
    member_of x (member_right taken (x ∷ rest) x (inl refl)) (ap (λ (zs : List A). taken ++ zs) (sym n) ∙ e)

-- it is taken
pub next_taken : {A : Type 0} (all taken left rest : List A) (x : A) → taken ++ left ≡ all → left ≡ x ∷ rest
    → (taken ++ x ∷ []) ++ rest ≡ all
next_taken {A} all taken left rest x e n =
    append_assoc taken (x ∷ []) rest ∙ ap (λ (zs : List A). taken ++ zs) (sym n) ∙ e

-- where none is left, all are taken
pub all_taken : {A : Type 0} (all taken left : List A) → taken ++ left ≡ all → left ≡ [] → taken ≡ all
all_taken {A} all taken left e n = sym (append-nil taken) ∙ ap (λ (zs : List A). taken ++ zs) (sym n) ∙ e

-- where none is left of one list, the next of the joined lists follows
pub next_joined : {A B : Type 0} (f : A → List B) (x : A) (now next : List B) (left rest : List A) → now ≡ []
    → left ≡ x ∷ rest → next ≡ f x
    → next ++ flat_map f rest ≡ now ++ flat_map f left
next_joined {A} {B} f x now next left rest p q r =
    ap (λ (zs : List B). zs ++ flat_map f rest) r
    ∙ sym (ap (λ (zs : List B). zs ++ flat_map f left) p ∙ ap (λ (zs : List A). flat_map f zs) q)
