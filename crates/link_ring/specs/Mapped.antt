-- Members of a mapped list, and when none of them stands twice.
use Rattle.std.specs.Prelude.{◌≡◌, List, [], ◌∷◌, map}
use Rattle.std.proofs.Common.{refl, ap, subst, inl, inr}
use Rattle.link_ring.specs.Members.{HasMember, AllDistinct}

-- what a mapped member is the image of
pub record ImageOf {A B : Type 0} (f : A → B) (xs : List A) (y : B) : Type 0 where
  pub of : A
  pub member : HasMember xs of
  pub is : f of ≡ y

-- a member of a mapped list is the image of a member
pub mapped_from : {A B : Type 0} (f : A → B) (xs : List A) (y : B) → HasMember (map f xs) y → ImageOf f xs y
mapped_from f [] y h = absurd h
mapped_from f (x ∷ xs) y h = elim h [
  | inl e ↦ record { of = x; member = inl refl; is = e }
  | inr r ↦ (let t = mapped_from f xs y r in record { of = t.of; member = inr t.member; is = t.is })
]

-- the image of a member is a member
pub mapped_to : {A B : Type 0} (f : A → B) (xs : List A) (x : A) → HasMember xs x → HasMember (map f xs) (f x)
mapped_to f [] x h = absurd h
mapped_to f (y ∷ xs) x h = elim h [ inl e ↦ inl (ap f e) | inr r ↦ inr (mapped_to f xs x r) ]

-- different members have different images where no two have the same
pub distinct_map : {A B : Type 0} (f : A → B) (xs : List A)
    → ((a b : A) → HasMember xs a → HasMember xs b → f a ≡ f b → a ≡ b) → AllDistinct xs → AllDistinct (map f xs)
distinct_map f [] one d = tt
distinct_map f (x ∷ xs) one d = (
  (λ h. let t = mapped_from f xs (f x) h in let P =
      HasMember xs in d.0 (subst P (one t.of x (inr t.member) (inl refl) t.is) t.member)),
  distinct_map f xs (λ a b p q e. one a b (inr p) (inr q) e) d.1,
)
