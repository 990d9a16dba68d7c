-- Segments of links, and lists of keys.
use Rattle.std.proofs.Common.{◌≡◌, Bool, IsTrue, List, [], ◌∷◌, ◌++◌, reverse, refl, sym, ap, ◌∙◌, subst, inl, inr}
use Rattle.std.proofs.lemmas.List.{reverse-append}
use Rattle.link_ring.specs.Members.{HasMember, AllDistinct}
use Rattle.link_ring.specs.Ring.{LinkMap, IsSegment, AllKeys}
use Rattle.link_ring.proofs.Members.{member_along}

-- ---- keys

-- a key stays a key
pub is_key_along : {a b : Bool} → b ≡ a → IsTrue a → IsTrue b
is_key_along e h = let P : Bool → Type 0 = IsTrue in subst P (sym e) h

-- keys stay where the keys are the same
pub keys_same : {K : Type 0} (m n : LinkMap K) (xs : List K) → ((j : K) → n.has j ≡ m.has j) → AllKeys m xs
    → AllKeys n xs
keys_same m n [] f h = tt
keys_same m n (x ∷ xs) f h = (is_key_along (f x) h.0, keys_same m n xs f h.1)

-- keys of a part
pub keys_right : {K : Type 0} (m : LinkMap K) (xs ys : List K) → AllKeys m (xs ++ ys) → AllKeys m ys
keys_right m [] ys h = h
keys_right m (x ∷ xs) ys h = keys_right m xs ys h.1

-- keys of a part
keys_left : {K : Type 0} (m : LinkMap K) (xs ys : List K) → AllKeys m (xs ++ ys) → AllKeys m xs
keys_left m [] ys h = tt
keys_left m (x ∷ xs) ys h = (h.0, keys_left m xs ys h.1)

-- keys of two parts
keys_join : {K : Type 0} (m : LinkMap K) (xs ys : List K) → AllKeys m xs → AllKeys m ys → AllKeys m (xs ++ ys)
keys_join m [] ys a b = b
keys_join m (x ∷ xs) ys a b = (a.0, keys_join m xs ys a.1 b)

-- keys in the other order
pub keys_flip : {K : Type 0} (m : LinkMap K) (xs ys : List K) → AllKeys m (xs ++ ys) → AllKeys m (ys ++ xs)
keys_flip m xs ys h = keys_join m ys xs (keys_right m xs ys h) (keys_left m xs ys h)

-- keys of a list read backwards
pub keys_reverse : {K : Type 0} (m : LinkMap K) (xs : List K) → AllKeys m xs → AllKeys m (reverse xs)
keys_reverse m [] h = h
keys_reverse m (x ∷ xs) h =
    let P = AllKeys m in
    subst P (sym (reverse-append (x ∷ []) xs)) (keys_join m (reverse xs) (x ∷ []) (keys_reverse m xs h.1) (h.0, tt))

-- ---- segments

-- links that agree on a segment have it both
pub segment_same : {K : Type 0} (m n : LinkMap K) (a : K) (xs : List K) (b : K)
    → ((j : K) → HasMember (a ∷ xs) j → n.next j ≡ m.next j)
    → ((j : K) → HasMember (xs ++ b ∷ []) j → n.prev j ≡ m.prev j)
    → IsSegment m a xs b → IsSegment n a xs b
segment_same m n a [] b f g l = (f a (inl refl) ∙ l.0, g b (inl refl) ∙ l.1)
segment_same m n a (x ∷ xs) b f g l = (
  (f a (inl refl) ∙ l.0.0, g x (inl refl) ∙ l.0.1),
  segment_same m n x xs b (λ j h. f j (inr h)) (λ j h. g j (inr h)) l.1,
)

-- two segments, end to end
pub record Halves {K : Type 0} (m : LinkMap K) (a : K) (xs : List K) (y : K) (ys : List K) (b : K) : Type 0 where
  pub left : IsSegment m a xs y
  pub right : IsSegment m y ys b

-- a segment parts at each of its keys
pub segment_split : {K : Type 0} (m : LinkMap K) (a : K) (xs : List K) (y : K) (ys : List K) (b : K)
    → IsSegment m a (xs ++ y ∷ ys) b → Halves m a xs y ys b
segment_split m a [] y ys b l = record { left = l.0; right = l.1 }
segment_split m a (x ∷ xs) y ys b l =
    let r = segment_split m x xs y ys b l.1 in
    record { left = (l.0, r.left); right = r.right }

-- two segments, end to end, are one
pub segment_join : {K : Type 0} (m : LinkMap K) (a : K) (xs : List K) (y : K) (ys : List K) (b : K) → IsSegment m a xs y
    → IsSegment m y ys b → IsSegment m a (xs ++ y ∷ ys) b
segment_join m a [] y ys b l r = (l, r)
segment_join m a (x ∷ xs) y ys b l r = (l.0, segment_join m x xs y ys b l.1 r)

-- links say where they lead
pub segment_unique : {K : Type 0} (m : LinkMap K) (a : K) (xs ys : List K) (b : K)
    → IsSegment m a xs b → IsSegment m a ys b → (HasMember xs b → ⊥) → (HasMember ys b → ⊥) → xs ≡ ys
segment_unique m a [] [] b l r f g = refl
segment_unique m a [] (y ∷ ys) b l r f g = absurd (g (inl (sym r.0.0 ∙ l.0)))
segment_unique m a (x ∷ xs) [] b l r f g = absurd (f (inl (sym l.0.0 ∙ r.0)))
segment_unique {K} m a (x ∷ xs) (y ∷ ys) b l r f g =
    let e : y ≡ x = sym r.0.0 ∙ l.0.0 in
    let P = λ (z : K). IsSegment m z ys b in
    let rest : xs ≡ ys = segment_unique m x xs ys b l.1 (subst P e r.1) (λ h. f (inr h)) (λ h. g (inr h)) in
    ap (λ (zs : List K). x ∷ zs) rest ∙ ap (λ (z : K). z ∷ ys) (sym e)

-- the key before the end of a segment
abbrev pub last_of : {K : Type 0} → K → List K → K
last_of a [] = a
last_of a (x ∷ xs) = last_of x xs

-- the last is a member
pub last_member : {K : Type 0} (a : K) (xs : List K) → HasMember (a ∷ xs) (last_of a xs)
last_member a [] = inl refl
last_member a (x ∷ xs) = inr (last_member x xs)

-- the end's previous key is the last
pub prev_last : {K : Type 0} (m : LinkMap K) (a : K) (xs : List K) (b : K) → IsSegment m a xs b
    → m.prev b ≡ last_of a xs
prev_last m a [] b l = l.1
prev_last m a (x ∷ xs) b l = prev_last m x xs b l.1

-- a list before its last
pub record UpToLast {K : Type 0} (zs : List K) (last : K) : Type 0 where
  pub front : List K
  pub whole : zs ≡ front ++ last ∷ []

-- a list of one key or more ends with its last
pub up_to_last : {K : Type 0} (a : K) (xs : List K) → UpToLast (a ∷ xs) (last_of a xs)
up_to_last a [] = record { front = []; whole = refl }
up_to_last {K} a (x ∷ xs) =
    let r = up_to_last x xs in
    record { front = a ∷ r.front; whole = ap (λ (zs : List K). a ∷ zs) r.whole }

-- a segment that leads to c in place of b
pub segment_to : {K : Type 0} (m n : LinkMap K) (a : K) (xs : List K) (b c : K) → AllDistinct (a ∷ xs)
    → n.next (last_of a xs) ≡ c → n.prev c ≡ last_of a xs
    → ((j : K) → (last_of a xs ≡ j → ⊥) → n.next j ≡ m.next j)
    → ((j : K) → HasMember xs j → n.prev j ≡ m.prev j)
    → IsSegment m a xs b → IsSegment n a xs c
segment_to m n a [] b c d h i f g l = (h, i)
segment_to m n a (x ∷ xs) b c d h i f g l = (
  (f a (λ e. d.0 (member_along (x ∷ xs) (last_member x xs) e)) ∙ l.0.0, g x (inl refl) ∙ l.0.1),
  segment_to m n x xs b c d.1 h i f (λ j a. g j (inr a)) l.1,
)
