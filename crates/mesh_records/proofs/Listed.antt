-- A list with one element changed.
use Rattle.std.proofs.Common.{◌≡◌, ◌≢◌, ℕ, suc, zero, List, [], ◌∷◌, Option, None, Some, ◌+◌, length, map, refl, sym, ap, ◌∙◌, subst, inl, inr}
use Rattle.std.specs.List.{slice_get}
use Rattle.std.proofs.lemmas.Option.{same_Some}
use Rattle.raw_pool.specs.Slots.{spare_count}
use Rattle.link_ring.specs.Members.{HasMember, AllDistinct}
use Rattle.mesh_store.specs.Slots.{changed}
use Rattle.mesh_model.specs.Kernel.{changed_at}

-- what stands at a position is a member
pub listed : {A : Type 0} (xs : List A) (k : ℕ) (l : A) → slice_get xs k ≡ Some l → HasMember xs l
listed [] k l q = absurd (cc)
listed (y ∷ xs) zero l q = inl (same_Some y l q)
listed (y ∷ xs) (suc k) l q = inr (listed xs k l q)

-- where g differs from f at one of distinct keys alone, it gives the list that is changed there
pub map_changed : {A B : Type 0} (f g : A → B) (change : B → B) (xs : List A) (i : ℕ) (l : A) → slice_get xs i ≡ Some l
    → AllDistinct xs → g l ≡ change (f l) → ((x : A) → HasMember xs x → x ≢ l → g x ≡ f x)
    → map g xs ≡ changed_at (map f xs) i change
map_changed f g change [] i l e d here besides = absurd (cc)
map_changed {A} {B} f g change (x ∷ xs) zero l e d here besides =
    let is : x ≡ l = same_Some x l e in
    let first : g x ≡ change (f x) = ap g is ∙ here ∙ ap (λ (y : A). change (f y)) (sym is) in
    let rest : map g xs ≡ map f xs = each xs (λ y m. besides y (inr m) (λ q. d.0 (let P = HasMember xs in
    subst P (q ∙ sym is) m))) in
    λ i. first i ∷ rest i
  where
    each : (ys : List A) → ((y : A) → HasMember ys y → g y ≡ f y) → map g ys ≡ map f ys
    each [] h = refl
    each (y ∷ ys) h = (let a = h y (inl refl) in let b = each ys (λ z m. h z (inr m)) in λ i. a i ∷ b i)
map_changed {A} {B} f g change (x ∷ xs) (suc i) l e d here besides =
    let m = listed xs i l e in
    let first : g x ≡ f x = besides x (inl refl) (λ q. d.0 (let P = HasMember xs in subst P (sym q) m)) in
    let rest = map_changed f g change xs i l e d.1 here (λ y k. besides y (inr k)) in
    λ j. first j ∷ rest j

-- and it stays as long
pub changed_long : {B : Type 0} (change : B → B) (xs : List B) (i : ℕ) → length (changed_at xs i change) ≡ length xs
changed_long change [] zero = refl
changed_long change [] (suc i) = refl
changed_long change (x ∷ xs) zero = refl
changed_long change (x ∷ xs) (suc i) = ap suc (changed_long change xs i)

-- as many places stay vacant
pub spare_changed : {A : Type 0} (f : A → A) (xs : List (Option A)) (s : ℕ)
    → spare_count (changed f xs s) ≡ spare_count xs
spare_changed f [] s = refl
spare_changed f (None ∷ xs) zero = refl
spare_changed f (Some x ∷ xs) zero = refl
spare_changed f (None ∷ xs) (suc s) = ap (λ (k : ℕ). k + 1) (spare_changed f xs s)
spare_changed f (Some x ∷ xs) (suc s) = spare_changed f xs s
