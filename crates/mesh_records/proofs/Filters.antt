-- Filters.
use Rattle.std.proofs.Common.{◌≡◌, Bool, true, false, cond, List, [], ◌∷◌, map, refl, sym, ap, ◌∙◌, inl, inr}
use Rattle.std.specs.Prelude.{◌&&◌}
use Rattle.std.specs.List.{filter}
use Rattle.std.proofs.lemmas.Bool.{false≢true}
use Rattle.link_ring.specs.Members.{HasMember}

-- a filter that every member passes
pub filter_keeps : {X : Type 0} (p : X → Bool) (xs : List X) → ((x : X) → HasMember xs x → p x ≡ true)
    → filter p xs ≡ xs
filter_keeps p [] h = refl
filter_keeps {X} p (x ∷ xs) h = rw (h x (inl refl)) (ap (λ (ys : List X). x ∷ ys)
    (filter_keeps p xs (λ y m. h y (inr m))))

cond_mapped : {X Y : Type 0} (f : X → Y) (b c : Bool) (x : X) (ys : List Y) (zs : List X) → b ≡ c → ys ≡ map f zs
    → cond b (f x ∷ ys) ys ≡ map f (cond c (x ∷ zs) zs)
cond_mapped {X} {Y} f true true x ys zs e r = ap (λ (ws : List Y). f x ∷ ws) r
cond_mapped f false false x ys zs e r = r
cond_mapped f true false x ys zs e r = absurd (false≢true (sym e))
cond_mapped f false true x ys zs e r = absurd (false≢true e)

-- two tests that agree
pub filter_same : {X : Type 0} (p q : X → Bool) (xs : List X) → ((x : X) → p x ≡ q x) → filter p xs ≡ filter q xs
filter_same p q [] h = refl
filter_same {X} p q (x ∷ xs) h = let r = filter_same p q xs h in λ i. cond (h x i) (x ∷ r i) (r i)

-- a filter of what f gives
pub filter_mapped : {X Y : Type 0} (f : X → Y) (p : X → Bool) (q : Y → Bool) (xs : List X)
    → ((x : X) → HasMember xs x → q (f x) ≡ p x) → filter q (map f xs) ≡ map f (filter p xs)
filter_mapped f p q [] h = refl
filter_mapped f p q (x ∷ xs) h = cond_mapped f (q (f x)) (p x) x (filter q (map f xs)) (filter p xs) (h x (inl refl))
    (filter_mapped f p q xs (λ y m. h y (inr m)))

cond_twice : {X : Type 0} (p : X → Bool) (b c : Bool) (x : X) (zs ys : List X) → filter p zs ≡ ys → (b && p x) ≡ c
    → filter p (cond b (x ∷ zs) zs) ≡ cond c (x ∷ ys) ys
cond_twice p true c x zs ys r e = λ i. cond (e i) (x ∷ r i) (r i)
cond_twice {X} p false c x zs ys r e = r ∙ ap (λ (d : Bool). cond d (x ∷ ys) ys) e

-- one filter after another
pub filter_twice : {X : Type 0} (p q r : X → Bool) (xs : List X) → ((x : X) → HasMember xs x → (q x && p x) ≡ r x)
    → filter p (filter q xs) ≡ filter r xs
filter_twice p q r [] h = refl
filter_twice p q r (x ∷ xs) h = cond_twice p (q x) (r x) x (filter q xs) (filter r xs)
    (filter_twice p q r xs (λ y m. h y (inr m))) (h x (inl refl))

pub map_after : {X Y Z : Type 0} (f : Y → Z) (g : X → Y) (xs : List X) → map f (map g xs) ≡ map (λ (x : X). f (g x)) xs
map_after f g [] = refl
map_after {X} {Y} {Z} f g (x ∷ xs) = ap (λ (zs : List Z). f (g x) ∷ zs) (map_after f g xs)
