-- A fresh chunk joins a pool.
use Rattle.std.proofs.Common.{◌≡◌, ℕ, zero, suc, ◌+◌, ◌-◌, ◌*◌, ◌<◌, ◌≤◌, ◌^◌, ◌⊎◌, List, [], ◌∷◌, ◌++◌, length, get_or, replicate, Option, Some, None, refl, sym, ap, ◌∙◌, subst, inl, inr, arith, length-append, append_assoc}
use Rattle.std.proofs.lemmas.List.{get_or_append_left, get_or-append-add}
use Rattle.std.proofs.lemmas.Bool.{cases_lt}
use Rattle.std.proofs.lemmas.Bool.Decides.{nat_tests}
use Rattle.raw_pool.specs.Place.{Place, Empty, Link}
use Rattle.raw_pool.specs.Slots.{spare_count}
use Rattle.raw_pool.specs.FreeList.{value_of, values, Chain, Among, Distinct, IsFree, fresh_link, IsFresh}
use Rattle.raw_pool.specs.Tags.{tag_at, SameTags}
use Rattle.raw_pool.specs.Inside.{all_places, slots_of, TagOf, Tagged, PoolHolds}
use Rattle.raw_pool.specs.declared.chunk.Chunk.{Chunk}
use Rattle.raw_pool.proofs.Rows.{joined_last, even_push}
use Rattle.raw_pool.proofs.Vacancy.{values-append, link_below}

-- n numbers from s on
range : ℕ → ℕ → List ℕ
range s zero = []
range s (suc n) = s ∷ range (suc s) n

length-range : (s n : ℕ) → length (range s n) ≡ n
unfolding range
length-range s zero = refl
length-range s (suc n) = ap suc (length-range (suc s) n)

range_from : (s n t : ℕ) → Among (range s n) t → s ≤ t
unfolding range
range_from s zero t a = absurd a
range_from s (suc n) t a = elim a [ inl e ↦ omega arith | inr r ↦ (let h = range_from (suc s) n t r in omega arith) ]

-- the old free list lies in the old places, and goes on there
chain_below : {X : Type 0} (ps : List (Place X)) (head : ℕ) (ss : List ℕ) (t : ℕ) → Chain ps head ss → Among ss t
    → t < length ps
chain_below ps head [] t c a = absurd a
chain_below ps head (s ∷ ss) t c a = elim a [
  | inl e ↦ (let l = link_below ps s c.1 c.2 in omega arith)
  | inr r ↦
      chain_below ps c.1 ss t c.3 r
]

chain_longer : {X : Type 0} (ps qs : List (Place X)) (head : ℕ) (ss : List ℕ) → Chain ps head ss
    → Chain (ps ++ qs) head ss
chain_longer ps qs head [] c = tt
chain_longer ps qs head (s ∷ ss) c = (
  c.0,
  c.1,
  get_or_append_left ps qs Empty s (link_below ps s c.1 c.2) ∙ c.2,
  chain_longer ps qs c.1 ss c.3,
)

apart : (s n : ℕ) (ss : List ℕ) → Distinct ss → ((t : ℕ) → Among ss t → t < s) → Distinct (range s n ++ ss)
unfolding range
apart s zero ss d f = d
apart s (suc n) ss d f = (
  (λ a. elim (cases (range (suc s) n) ss s a) [
    | inl r ↦ (let h = range_from (suc s) n s r in omega arith)
    | inr r ↦
        (let h = f s r in omega arith)
  ]),
  apart (suc s) n ss d (λ t a. let h = f t a in omega arith),
)
  where
    cases : (xs ys : List ℕ) (t : ℕ) → Among (xs ++ ys) t → Among xs t ⊎ Among ys t
    cases [] ys t h = inr h
    cases (x ∷ xs) ys t h = elim h [
      | inl e ↦ inl (inl e)
      | inr r ↦ elim (cases xs ys t r)
          [ inl a ↦ inl (inr a) | inr b ↦ inr b ]
    ]

-- the chain goes through the fresh places from the k-th on, and then as it went
fresh_chain : {X : Type 0} (ps qs : List (Place X)) (n after : ℕ) (ss : List ℕ) (k r : ℕ)
    → IsFresh qs (length ps) n after → Chain (ps ++ qs) after ss → k + suc r ≡ n
    → Chain (ps ++ qs) (length ps + k) (range (length ps + k) (suc r) ++ ss)
unfolding range
fresh_chain ps qs n after ss k zero f c e =
    let last : fresh_link (length ps) n after k ≡ after = grind (arith, nat_tests) in
    (refl, after, get_or-append-add ps qs k Empty ∙ f.at k (omega arith) ∙ ap Link last, c)
fresh_chain ps qs n after ss k (suc r) f c e =
    let next : fresh_link (length ps) n after k ≡ length ps + (k + 1) = grind (arith, nat_tests) in
    let up : length ps + (k + 1) ≡ suc (length ps + k) = omega arith in
    let rest : Chain (ps ++ qs) (length ps + (k + 1)) (range (length ps + (k + 1)) (suc r) ++ ss) =
    fresh_chain ps qs n after ss (k + 1) r f c (omega arith) in
    let P = λ (t : ℕ). Chain (ps ++ qs) (length ps + (k + 1)) (range t (suc r) ++ ss) in
    (refl, length ps + (k + 1), get_or-append-add ps qs k Empty ∙ f.at k (omega arith) ∙ ap Link next, subst P up rest)

start_chain : {X : Type 0} (ps qs : List (Place X)) (n after : ℕ) (ss : List ℕ) (s : ℕ) → 1 ≤ n → s ≡ length ps
    → IsFresh qs s n after → Chain (ps ++ qs) after ss → Chain (ps ++ qs) s (range s n ++ ss)
start_chain ps qs zero after ss s pos e f c = absurd (omega arith)
start_chain {X} ps qs (suc r) after ss s pos e f c =
    let F = λ (t : ℕ). IsFresh qs t (suc r) after in
    let none : length ps + 0 ≡ s = omega arith in
    let P = λ (t : ℕ). Chain (ps ++ qs) t (range t (suc r) ++ ss) in
    subst P none (fresh_chain ps qs (suc r) after ss 0 r (subst F e f) c (omega arith))

spare_append : {X : Type 0} (xs ys : List (Option X)) → spare_count (xs ++ ys) ≡ spare_count xs + spare_count ys
spare_append [] ys = omega arith
spare_append (None ∷ xs) ys = let h = spare_append xs ys in omega arith
spare_append (Some x ∷ xs) ys = spare_append xs ys

spare_none : (X : Type 0) (n : ℕ) → let none : Option X = None in spare_count (replicate n none) ≡ n
spare_none X zero = refl
spare_none X (suc n) = let h = spare_none X n in omega arith

links_none : {X : Type 0} (qs : List (Place X)) → ((k : ℕ) → k < length qs → (m : ℕ) × (get_or qs k Empty ≡ Link m))
    → values qs ≡ replicate (length qs) None
links_none [] f = refl
links_none {X} (q ∷ qs) f =
    let l = f 0 (omega arith) in
    ap (λ (o : Option X). o ∷ values qs) (ap value_of l.1)
    ∙ ap (λ (r : List (Option X)). None ∷ r) (links_none qs (λ k h. f (suc k) (omega arith)))

module _ {X : Type 0} (n : ℕ) (cs : List (Chunk X)) (ws vs : List ℕ) (head spare start : ℕ) (c : Chunk X)
    (h : PoolHolds n cs ws head spare) (f : IsFresh c.places start n head) (at : start ≡ length (all_places cs)) where
  all_links : (k : ℕ) → k < length c.places → (m : ℕ) × (get_or c.places k Empty ≡ Link m)
  all_links k l = (fresh_link start n head k, f.at k (let g = f.long in omega arith))

  none : values c.places ≡ replicate n None
  none = links_none c.places all_links ∙ ap (λ (k : ℕ). replicate k None) f.long

  pub grown_slots : slots_of (cs ++ c ∷ []) ≡ slots_of cs ++ replicate n None
  grown_slots = ap values (joined_last cs c) ∙ values-append (all_places cs) c.places
      ∙ ap (λ (r : List (Option X)). slots_of cs ++ r) none

  pub grown_holds : length (all_places cs) + n < 2 ^ 32 → SameTags ws vs → length (all_places cs) + n ≤ length vs * 64
      → PoolHolds n (cs ++ c ∷ []) vs start (spare + n)
  grown_holds small same room =
      let ps = all_places cs in let qs = c.places in
      let long : length (all_places (cs ++ c ∷ [])) ≡ length ps + n =
      ap length (joined_last cs c) ∙ length-append ps qs ∙ ap (λ (k : ℕ). length ps + k) f.long in
      let S = λ (r : Place X × ℕ). TagOf r.0 r.1 in
      let Q = λ (rs : List (Place X)). IsFree rs start (spare + n) in
      let old : (k : ℕ) → k < length ps → TagOf (get_or (ps ++ qs) k Empty) (tag_at vs k) =
      λ k l. subst S (λ i. (sym (get_or_append_left ps qs Empty k l) i, sym (same k) i)) (h.tagged k l) in
      let new : (j : ℕ) → j < n → TagOf (get_or (ps ++ qs) (length ps + j) Empty) (tag_at vs (length ps + j)) = λ j l.
      subst S (λ i. (
        sym (get_or-append-add ps qs j Empty ∙ f.at j l) i,
        sym (same (length ps + j) ∙ h.past (length ps + j) (omega arith)) i,
      )) refl in
      let T = λ (rs : List (Place X)). Tagged rs vs in
      let tagged : Tagged (ps ++ qs) vs = λ k l. elim (cases_lt k (length ps)) [
        | inl m ↦ old k m
        | inr m ↦ (let P = λ (i : ℕ). TagOf (get_or (ps ++ qs) i Empty) (tag_at vs i) in let e : length ps +
            (k - length ps) ≡ k = omega arith in let a = length-append ps qs in let g =
            f.long in subst P e (new (k - length ps) (omega arith)))
      ] in
      let free : IsFree (ps ++ qs) start (spare + n) = record {
        free = range start n ++ h.free.free;
        chain = start_chain ps qs n head h.free.free start h.positive at f
            (chain_longer ps qs head h.free.free h.free.chain);
        distinct = apart start n h.free.free h.free.distinct
            (λ t a. let b = chain_below ps head h.free.free t h.free.chain a in omega arith);
        count = length-append (range start n) h.free.free
            ∙ (let l = length-range start n in let m = h.free.count in omega arith);
        all = ap spare_count (values-append ps qs ∙ ap (λ (r : List (Option X)). values ps ++ r) none)
            ∙ spare_append (values ps) (replicate n None)
            ∙ (let v = spare_none X n in let m = h.free.all in omega arith);
      } in
      record {
        positive = h.positive;
        even = even_push n cs c h.even f.long;
        small = omega arith;
        room = omega arith;
        tagged = subst T (sym (joined_last cs c)) tagged;
        past = λ k l. same k ∙ h.past k (omega arith);
        free = subst Q (sym (joined_last cs c)) free;
      }

pub spare_push : {X : Type 0} (xs : List (Option X)) (n : ℕ) → spare_count (xs ++ replicate n None) ≡ spare_count xs + n
spare_push {X} xs n = spare_append xs (replicate n None) ∙ (let h = spare_none X n in omega arith)

pub replicate_twice : {A : Type 0} (x : A) (k n : ℕ) → replicate k x ++ replicate n x ≡ replicate (k + n) x
replicate_twice x zero n = ap (λ (m : ℕ). replicate m x) (let e : n ≡ zero + n = omega arith in e)
replicate_twice {A} x (suc k) n = ap (λ (r : List A). x ∷ r) (replicate_twice x k n)
    ∙ ap (λ (m : ℕ). replicate m x) (let e : suc (k + n) ≡ suc k + n = omega arith in e)

-- a pool has grown chunk by chunk, on the way to n spare slots
pub record Grown {X : Type 0} (chunk : ℕ) (old new : List (Option X)) (n : ℕ) : Type 0 where
  pub more : ℕ
  pub same : new ≡ old ++ replicate more None
  pub spare : spare_count new ≡ spare_count old + more
  pub few : 0 < more → (spare_count old < n) × (more < n - spare_count old + chunk)

pub grown_on : {X : Type 0} (chunk : ℕ) (old new next : List (Option X)) (n : ℕ) → Grown chunk old new n
    → spare_count new < n → next ≡ new ++ replicate chunk None → Grown chunk old next n
grown_on {X} chunk old new next n g less e =
    let s : spare_count next ≡ spare_count new + chunk = ap spare_count e ∙ spare_push new chunk in let w = g.spare in
    record {
      more = g.more + chunk;
      same = e ∙ ap (λ (xs : List (Option X)). xs ++ replicate chunk None) g.same
          ∙ append_assoc old (replicate g.more None) (replicate chunk None)
          ∙ ap (λ (xs : List (Option X)). old ++ xs) (replicate_twice None g.more chunk);
      spare = omega arith;
      few = λ h. (omega arith, omega arith);
    }
