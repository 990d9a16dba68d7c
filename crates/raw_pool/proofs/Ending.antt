-- The chunks of a pool one by one: from the last, to free them, and from the first, to copy them.
use Rattle.std.proofs.Common.{◌≡◌, ℕ, zero, suc, ◌+◌, ◌*◌, ◌<◌, ◌≤◌, List, [], ◌∷◌, ◌++◌, length, take, drop, get_or, refl, sym, ap, ◌∙◌, subst, arith, length-append}
use Rattle.std.proofs.lemmas.List.{get_or_append_left, get_or-append-add, get_or-map, length-map}
use Rattle.std.proofs.Math.Nat.{mul-le-mul_right}
use native.Mathlib.Nat.{suc-mul}
use Rattle.raw_pool.specs.Place.{Place, Empty}
use Rattle.raw_pool.specs.Tags.{tag_at}
use Rattle.raw_pool.specs.Inside.{places_of, rows, joined, all_places, Even, TagOf, Tagged, TaggedFrom}
use Rattle.raw_pool.specs.declared.chunk.Chunk.{Chunk}
use Rattle.raw_pool.proofs.Rows.{length-joined, place_at, even_at, even_take, even_last, joined_last, joined_take}

tag_along : {X : Type 0} (p q : Place X) (a b : ℕ) → TagOf p a → p ≡ q → a ≡ b → TagOf q b
tag_along p q a b t e f = let P = λ (r : Place _ × ℕ). TagOf r.0 r.1 in subst P (λ i. (e i, f i)) t

-- what is left without the last chunk, and the last one
pub record Ended {X : Type 0} (n count : ℕ) (cs : List (Chunk X)) (c : Chunk X) (ws : List ℕ) : Type 0 where
  pub even : Even n (rows cs)
  pub tagged : Tagged (all_places cs) ws
  pub room : length (all_places cs) ≤ length ws * 64
  pub long : length c.places ≡ n
  pub own : TaggedFrom c.places ws (count * n)
  pub within : count * n + n ≤ length ws * 64

pub ended : {X : Type 0} (n count : ℕ) (all cs : List (Chunk X)) (c : Chunk X) (ws : List ℕ) → all ≡ cs ++ c ∷ []
    → Even n (rows all) → Tagged (all_places all) ws → length (all_places all) ≤ length ws * 64 → count ≡ length cs
    → Ended n count cs c ws
ended {X} n count all cs c ws e v t r m =
    let P = λ (xs : List (Chunk X)). Even n (rows xs) in
    let ev = even_last n cs c (subst P e v) in
    let whole : all_places all ≡ all_places cs ++ c.places = ap all_places e ∙ joined_last cs c in
    let sum : length (all_places all) ≡ length (all_places cs) + length c.places =
    ap length whole ∙ length-append (all_places cs) c.places in
    let front : length (all_places cs) ≡ count * n =
    length-joined n (rows cs) ev.0 ∙ ap (λ (k : ℕ). k * n) (length-map cs places_of ∙ sym m) in
    let last = ev.1 in
    record {
      even = ev.0;
      tagged = λ k h. tag_along _ _ _ _ (t k (omega arith))
          (ap (λ (ps : List (Place X)). get_or ps k Empty) whole
          ∙ get_or_append_left (all_places cs) c.places Empty k h) refl;
      room = omega arith;
      long = ev.1;
      own = λ k h. tag_along _ _ _ _ (t (length (all_places cs) + k) (omega arith))
          (ap (λ (ps : List (Place X)). get_or ps (length (all_places cs) + k) Empty) whole
          ∙ get_or-append-add (all_places cs) c.places k Empty)
          (ap (λ (i : ℕ). tag_at ws (i + k)) front);
      within = omega arith;
    }

-- the chunk at an index
pub record Copied {X : Type 0} (n index : ℕ) (c : Chunk X) (ws : List ℕ) : Type 0 where
  pub long : length c.places ≡ n
  pub own : TaggedFrom c.places ws (index * n)
  pub within : index * n + n ≤ length ws * 64

pub copied : {X : Type 0} (n index : ℕ) (cs : List (Chunk X)) (c : Chunk X) (ws : List ℕ) → Even n (rows cs)
    → Tagged (all_places cs) ws → length (all_places cs) ≤ length ws * 64 → index < length cs → c ≡ get_or cs index c
    → Copied n index c ws
copied {X} n index cs c ws v t r l e =
    let low : index < length (rows cs) = (let m = length-map cs places_of in omega arith) in
    let row : get_or (rows cs) index [] ≡ c.places = get_or-map places_of cs index c [] l ∙ ap places_of (sym e) in
    let long : length c.places ≡ n = ap length (sym row) ∙ even_at n (rows cs) index v low in
    let sum = length-joined n (rows cs) v in
    let room : index * n + n ≤ length (rows cs) * n =
    (let m = suc-mul index n in let up : suc index ≤ length (rows cs) =
    omega arith in let le : suc index * n ≤ length (rows cs) * n = mul-le-mul_right n up in omega arith) in
    record {
      long = long;
      own = λ k h. tag_along _ _ _ _ (t (index * n + k) (omega arith))
          (place_at n (rows cs) index k v low (omega arith) ∙ ap (λ (ps : List (Place X)). get_or ps k Empty) row) refl;
      within = omega arith;
    }

-- the first chunks alone
pub record Front {X : Type 0} (n : ℕ) (cs : List (Chunk X)) (ws : List ℕ) : Type 0 where
  pub even : Even n (rows cs)
  pub tagged : Tagged (all_places cs) ws
  pub room : length (all_places cs) ≤ length ws * 64

pub front : {X : Type 0} (n index : ℕ) (cs twins : List (Chunk X)) (ws : List ℕ) → Even n (rows cs)
    → Tagged (all_places cs) ws → length (all_places cs) ≤ length ws * 64 → rows twins ≡ take index (rows cs)
    → Front n twins ws
front {X} n index cs twins ws v t r e =
    let same : all_places twins ≡ joined (take index (rows cs)) = ap joined e in
    let whole : all_places cs ≡ all_places twins ++ joined (drop index (rows cs)) =
    joined_take (rows cs) index ∙ ap (λ (ps : List (Place X)). ps ++ joined (drop index (rows cs))) (sym same) in
    let sum : length (all_places cs) ≡ length (all_places twins) + length (joined (drop index (rows cs))) =
    ap length whole ∙ length-append (all_places twins) (joined (drop index (rows cs))) in
    let P = Even n in
    record {
      even = subst P (sym e) (even_take n (rows cs) index v);
      tagged = λ k h. tag_along _ _ _ _ (t k (omega arith))
          (ap (λ (ps : List (Place X)). get_or ps k Empty) whole
          ∙ get_or_append_left (all_places twins) (joined (drop index (rows cs))) Empty k h) refl;
      room = omega arith;
    }

-- one more chunk is copied
pub copied_on : {X : Type 0} (cs twins : List (Chunk X)) (c twin : Chunk X) (index : ℕ)
    → rows twins ≡ take index (rows cs) → index < length cs → c ≡ get_or cs index c → twin.places ≡ c.places
    → rows (twins ++ twin ∷ []) ≡ take (index + 1) (rows cs)
copied_on {X} cs twins c twin index e l at same =
    let low : index < length (rows cs) = (let m = length-map cs places_of in omega arith) in
    let row : get_or (rows cs) index [] ≡ c.places = get_or-map places_of cs index c [] l ∙ ap places_of (sym at) in
    push twins ∙ ap (λ (r : List (List (Place X))). r ++ twin.places ∷ []) e
    ∙ ap (λ (ps : List (Place X)). take index (rows cs) ++ ps ∷ []) (same ∙ sym row) ∙ one_more (rows cs) index low
    ∙ (let next : suc index ≡ index + 1 = omega arith in ap (λ (j : ℕ). take j (rows cs)) next)
  where
    push : (ts : List (Chunk X)) → rows (ts ++ twin ∷ []) ≡ rows ts ++ twin.places ∷ []
    push [] = refl
    push (d ∷ ts) = ap (λ (r : List (List (Place X))). d.places ∷ r) (push ts)

    one_more : (pss : List (List (Place X))) (i : ℕ) → i < length pss
        → take i pss ++ get_or pss i [] ∷ [] ≡ take (suc i) pss
    one_more [] i l = absurd (omega arith)
    one_more (ps ∷ pss) zero l = refl
    one_more (ps ∷ pss) (suc i) l = ap (λ (r : List (List (Place X))). ps ∷ r) (one_more pss i (omega arith))
