-- What is told of optional values.
use Rattle.std.proofs.Common.{◌≡◌, ℕ, true, is_some, List, [], ◌∷◌, Option, Some, None, map, refl, sym, ap, ◌∙◌, inl, inr}
use Rattle.std.specs.Option.{option_map, option_map_or, option_and_then}
use Rattle.std.proofs.lemmas.Bool.{false≢true}
use Rattle.raw_pool.specs.declared.pool.Slot.{Slot}
use Rattle.raw_pool.specs.Slots.{holds}
use Rattle.link_ring.specs.Members.{HasMember}
use Rattle.mesh_records.specs.AtSlots.{IsAt}
use Rattle.mesh_records.specs.Frames.{Within}

-- ---- one value

-- what something is told of is there
pub holds_by : {X Z : Type 0} (g : X → Z) (o : Option X) (z : Z) → option_map g o ≡ Some z → holds o ≡ true
holds_by g None z e = absurd (let q : None ≡ Some z = e in cc)
holds_by g (Some x) z e = refl

-- a place holds something where something is told of it
pub holds_told : {X Z : Type 0} (g : X → Z) (o : Option X) → is_some (option_map g o) ≡ true → holds o ≡ true
holds_told g None e = absurd (false≢true e)
holds_told g (Some x) e = refl

-- and something is told of it where it holds something
pub told_held : {X Z : Type 0} (g : X → Z) (o : Option X) → holds o ≡ true → is_some (option_map g o) ≡ true
told_held g None e = absurd (false≢true e)
told_held g (Some x) e = refl

-- what is told of something is there just where the thing is
pub some_told : {X Z : Type 0} (g : X → Z) (o : Option X) → is_some (option_map g o) ≡ is_some o
some_told g None = refl
some_told g (Some x) = refl

-- what is there is something
pub there : {X : Type 0} (o : Option X) → is_some o ≡ true → (x : X) × (o ≡ Some x)
there None e = absurd (false≢true e)
there (Some x) e = (x, refl)

-- what is told of what is told
pub told_twice : {X Y Z : Type 0} (f : X → Y) (g : Y → Z) (o : Option X)
    → option_map g (option_map f o) ≡ option_map (λ (x : X). g (f x)) o
told_twice f g None = refl
told_twice f g (Some x) = refl

-- what has a key
pub record HasKey {X Z : Type 0} (key : X → Z) (o : Option X) (z : Z) : Type 0 where
  pub cell : X
  pub is : o ≡ Some cell
  pub same : key cell ≡ z

pub has_key : {X Z : Type 0} (key : X → Z) (o : Option X) (z : Z) → option_map key o ≡ Some z → HasKey key o z
has_key key None z e = absurd (let q : None ≡ Some z = e in cc)
has_key {X} {Z} key (Some x) z e = record {
  cell = x;
  is = refl;
  same = ap (λ (o : Option Z). elim o [ None ↦ z | Some y ↦ y ]) e;
}

-- ---- what a name leads to

-- two readings of a name agree where they do at its slot
pub led : {Y : Type 0} (f g : Slot → Option Y) (o p : Option Slot) → p ≡ o → ((s : Slot) → o ≡ Some s → f s ≡ g s)
    → option_and_then f p ≡ option_and_then g o
led f g None p e h = ap (option_and_then f) e
led f g (Some s) p e h = ap (option_and_then f) e ∙ h s refl

pub led_or : {Y : Type 0} (f g : Slot → Y) (d : Y) (o p : Option Slot) → p ≡ o → ((s : Slot) → o ≡ Some s → f s ≡ g s)
    → option_map_or f p d ≡ option_map_or g o d
led_or f g d None p e h = ap (λ (q : Option Slot). option_map_or f q d) e
led_or f g d (Some s) p e h = ap (λ (q : Option Slot). option_map_or f q d) e ∙ h s refl

-- what a name leads to is there only if the name leads somewhere
pub led_there : {X Y : Type 0} (f : X → Option Y) (o : Option X) → is_some (option_and_then f o) ≡ true
    → is_some o ≡ true
led_there f None h = h
led_there f (Some x) h = refl

-- functions that agree on the members give the same list
pub map_members : {A B : Type 0} (f g : A → B) (xs : List A) → ((x : A) → HasMember xs x → f x ≡ g x)
    → map f xs ≡ map g xs
map_members f g [] h = refl
map_members f g (x ∷ xs) h = let p = h x (inl refl) in let q = map_members f g xs (λ y m. h y (inr m)) in cc

-- ---- what is within

-- where something is, the same is in what extends it
pub same_at : {X : Type 0} {small big : ℕ → Option X} (s : ℕ) → Within small big → IsAt small s → big s ≡ small s
same_at {small = small} s w h = let c = there (small s) h in w s c.0 c.1 ∙ sym c.1

-- and is still there
pub still_at : {X : Type 0} {small big : ℕ → Option X} (s : ℕ) → Within small big → IsAt small s → IsAt big s
still_at {X} s w h = ap (λ (o : Option X). is_some o) (same_at s w h) ∙ h

-- what is the same is within
pub within_same : {X : Type 0} {small big : ℕ → Option X} → ((s : ℕ) → big s ≡ small s) → Within small big
within_same h s x e = h s ∙ e
