-- Members of lists that are joined, turned or read backwards.
use Rattle.std.proofs.Common.{◌≡◌, ◌⊎◌, List, [], ◌∷◌, ◌++◌, reverse, refl, sym, subst, inl, inr}
use Rattle.std.proofs.lemmas.List.{reverse-append}
use Rattle.link_ring.specs.Members.{HasMember, AllDistinct}

-- ---- membership

-- a member, under another name
pub member_along : {K : Type 0} (xs : List K) {j k : K} → HasMember xs j → j ≡ k → HasMember xs k
member_along xs h e = let P = HasMember xs in subst P e h

-- a member of an equal list
pub member_of : {K : Type 0} {xs ys : List K} (k : K) → HasMember xs k → xs ≡ ys → HasMember ys k
member_of {K} k h e = let P = λ (zs : List K). HasMember zs k in subst P e h

-- the only member
pub member_one : {K : Type 0} {a k : K} → HasMember (a ∷ []) k → a ≡ k
member_one h = elim h [ inl e ↦ e | inr f ↦ absurd f ]

-- a member of the first of two lists
pub member_left : {K : Type 0} (xs ys : List K) (j : K) → HasMember xs j → HasMember (xs ++ ys) j
member_left [] ys j h = absurd h
member_left (x ∷ xs) ys j h = elim h [ inl e ↦ inl e | inr r ↦ inr (member_left xs ys j r) ]

-- a member of the second of two lists
pub member_right : {K : Type 0} (xs ys : List K) (j : K) → HasMember ys j → HasMember (xs ++ ys) j
member_right [] ys j h = h
member_right (x ∷ xs) ys j h = inr (member_right xs ys j h)

-- a member of two lists is one of either
pub member_cases : {K : Type 0} (xs ys : List K) (j : K) → HasMember (xs ++ ys) j → HasMember xs j ⊎ HasMember ys j
member_cases [] ys j h = inr h
member_cases (x ∷ xs) ys j h = elim h [
  | inl e ↦ inl (inl e)
  | inr r ↦ elim (member_cases xs ys j r) [ inl a ↦ inl (inr a) | inr b ↦ inr b ]
]

-- two lists have the same members in the other order
pub member_flip : {K : Type 0} (xs ys : List K) (j : K) → HasMember (xs ++ ys) j → HasMember (ys ++ xs) j
member_flip xs ys j h = elim (member_cases xs ys j h) [ inl a ↦ member_right ys xs j a | inr b ↦ member_left ys xs j b ]

-- a member of a list read backwards
pub member_reverse : {K : Type 0} (xs : List K) (j : K) → HasMember (reverse xs) j → HasMember xs j
member_reverse [] j h = h
member_reverse (x ∷ xs) j h =
    elim (member_cases (reverse xs) (x ∷ []) j (member_of j h (reverse-append (x ∷ []) xs)))
    [ inl a ↦ inr (member_reverse xs j a) | inr b ↦ inl (member_one b) ]

-- a member differs from what is no member
pub differs : {K : Type 0} (xs : List K) (j k : K) → HasMember xs j → (HasMember xs k → ⊥) → k ≡ j → ⊥
differs xs j k h out e = out (member_along xs h (sym e))

-- a list round one of its members
pub record Around {K : Type 0} (zs : List K) (k : K) : Type 0 where
  pub before : List K
  pub after : List K
  pub whole : zs ≡ before ++ k ∷ after

-- a list stands round each of its members
pub around : {K : Type 0} (zs : List K) (k : K) → HasMember zs k → Around zs k
around [] k h = absurd h
around {K} (x ∷ zs) k h = elim h [
  | inl e ↦ record { before = []; after = zs; whole = (let P = λ (y : K). x ∷ zs ≡ y ∷ zs in subst P e refl) }
  | inr r ↦
      let s = around zs k r in
      let P = λ (ys : List K). x ∷ zs ≡ x ∷ ys in
      record { before = x ∷ s.before; after = s.after; whole = subst P s.whole refl }
]

-- ---- lists without repetition

-- two lists that are each without repetition, and have no common member
pub record Apart {K : Type 0} (xs ys : List K) : Type 0 where
  pub left : AllDistinct xs
  pub right : AllDistinct ys
  pub apart : (j : K) → HasMember xs j → HasMember ys j → ⊥

-- parts of a list without repetition
pub distinct_parts : {K : Type 0} (xs ys : List K) → AllDistinct (xs ++ ys) → Apart xs ys
distinct_parts [] ys d = record { left = tt; right = d; apart = λ j a b. absurd a }
distinct_parts (x ∷ xs) ys d =
    let r = distinct_parts xs ys d.1 in
    record {
      left = ((λ h. d.0 (member_left xs ys x h)), r.left);
      right = r.right;
      apart = λ j a b. elim a [
        | inl e ↦ d.0 (member_right xs ys x (member_along ys b (sym e)))
        | inr h ↦ r.apart j h b
      ];
    }

-- such parts make one
pub distinct_join : {K : Type 0} (xs ys : List K) → Apart xs ys → AllDistinct (xs ++ ys)
distinct_join [] ys s = s.right
distinct_join (x ∷ xs) ys s = (
  (λ h. elim (member_cases xs ys x h) [ inl a ↦ s.left.0 a | inr b ↦ s.apart x (inl refl) b ]),
  distinct_join xs ys (record { left = s.left.1; right = s.right; apart = λ j a b. s.apart j (inr a) b }),
)

-- the same in the other order
pub distinct_flip : {K : Type 0} (xs ys : List K) → AllDistinct (xs ++ ys) → AllDistinct (ys ++ xs)
distinct_flip xs ys d =
    let s = distinct_parts xs ys d in
    distinct_join ys xs (record { left = s.right; right = s.left; apart = λ j a b. s.apart j b a })

-- the same read backwards
pub distinct_reverse : {K : Type 0} (xs : List K) → AllDistinct xs → AllDistinct (reverse xs)
distinct_reverse [] d = d
distinct_reverse (x ∷ xs) d =
    subst AllDistinct (sym (reverse-append (x ∷ []) xs))
    (distinct_flip (x ∷ []) (reverse xs) ((λ a. d.0 (member_reverse xs x a)), distinct_reverse xs d.1))
