-- The free list as places are written, and its head.
use Rattle.std.proofs.Common.{◌≡◌, ℕ, zero, suc, ◌+◌, ◌-◌, ◌<◌, ◌≤◌, List, [], ◌∷◌, ◌++◌, length, get_or, Option, Some, None, refl, sym, ap, ◌∙◌, subst, inl, inr, arith, true}
use Rattle.std.proofs.Math.ListN.{set}
use Rattle.std.proofs.lemmas.List.{get_or-set_same, get_or-set_other}
use Rattle.raw_pool.specs.Place.{Place, Empty, Value, Link}
use Rattle.raw_pool.specs.Slots.{spare_count, holds, IsLive}
use Rattle.raw_pool.specs.FreeList.{value_of, values, Chain, Among, Distinct, IsFree}

-- ---- the values of places
pub value_at : {X : Type 0} (ps : List (Place X)) (s : ℕ) → get_or (values ps) s None ≡ value_of (get_or ps s Empty)
value_at [] s = refl
value_at (p ∷ ps) zero = refl
value_at (p ∷ ps) (suc s) = value_at ps s

pub length-values : {X : Type 0} (ps : List (Place X)) → length (values ps) ≡ length ps
length-values [] = refl
length-values (p ∷ ps) = ap suc (length-values ps)

pub values-set : {X : Type 0} (ps : List (Place X)) (s : ℕ) (p : Place X)
    → values (set ps s p) ≡ set (values ps) s (value_of p)
values-set [] s p = refl
values-set (q ∷ ps) zero p = refl
values-set (q ∷ ps) (suc s) p = ap (λ (r : List (Option _)). value_of q ∷ r) (values-set ps s p)

pub values-append : {X : Type 0} (ps qs : List (Place X)) → values (ps ++ qs) ≡ values ps ++ values qs
values-append [] qs = refl
values-append (p ∷ ps) qs = ap (λ (r : List (Option _)). value_of p ∷ r) (values-append ps qs)

pub is_value : {X : Type 0} (p : Place X) (x : X) → value_of p ≡ Some x → p ≡ Value x
is_value Empty x e = cc
is_value (Value y) x e = cc
is_value (Link n) x e = cc

pub live_below : {X : Type 0} (xs : List (Option X)) (s : ℕ) (x : X) → get_or xs s None ≡ Some x → s < length xs
live_below [] s x e = cc
live_below (y ∷ ys) zero x e = omega arith
live_below (y ∷ ys) (suc s) x e = omega (arith, live_below ys s x e)

held : {X : Type 0} (o : Option X) → holds o ≡ true → (x : X) × (o ≡ Some x)
held None e = cc
held (Some x) e = (x, refl)

pub live_value : {X : Type 0} (xs : List (Option X)) (s : ℕ) → IsLive xs s → (x : X) × (get_or xs s None ≡ Some x)
live_value xs s h = held (get_or xs s None) h

pub link_below : {X : Type 0} (ps : List (Place X)) (s n : ℕ) → get_or ps s Empty ≡ Link n → s < length ps
link_below [] s n e = cc
link_below (p ∷ ps) zero n e = omega arith
link_below (p ∷ ps) (suc s) n e = omega (arith, link_below ps s n e)

-- ---- the spare slots
pub spare_less : {X : Type 0} (xs : List (Option X)) (s : ℕ) (x : X) → s < length xs → get_or xs s None ≡ None
    → spare_count (set xs s (Some x)) + 1 ≡ spare_count xs
spare_less [] s x lt e = absurd (omega arith)
spare_less (None ∷ xs) zero x lt e = refl
spare_less (Some y ∷ xs) zero x lt e = cc
spare_less (None ∷ xs) (suc s) x lt e = let h = spare_less xs s x (omega arith) e in omega arith
spare_less (Some y ∷ xs) (suc s) x lt e = spare_less xs s x (omega arith) e

pub spare_more : {X : Type 0} (xs : List (Option X)) (s : ℕ) (x : X) → get_or xs s None ≡ Some x
    → spare_count (set xs s None) ≡ spare_count xs + 1
spare_more [] s x e = cc
spare_more (None ∷ xs) zero x e = cc
spare_more (Some y ∷ xs) zero x e = refl
spare_more (None ∷ xs) (suc s) x e = let h = spare_more xs s x e in omega arith
spare_more (Some y ∷ xs) (suc s) x e = spare_more xs s x e

-- a value is written over a value
pub spare_same : {X : Type 0} (xs : List (Option X)) (s : ℕ) (x y : X) → get_or xs s None ≡ Some x
    → spare_count (set xs s (Some y)) ≡ spare_count xs
spare_same [] s x y e = cc
spare_same (None ∷ xs) zero x y e = cc
spare_same (Some z ∷ xs) zero x y e = refl
spare_same (None ∷ xs) (suc s) x y e = let h = spare_same xs s x y e in omega arith
spare_same (Some z ∷ xs) (suc s) x y e = spare_same xs s x y e

pub spare_le : {X : Type 0} (xs : List (Option X)) → spare_count xs ≤ length xs
spare_le [] = omega arith
spare_le (None ∷ xs) = let h = spare_le xs in omega arith
spare_le (Some y ∷ xs) = let h = spare_le xs in omega arith

-- ---- the chain
-- it does not see a write elsewhere
pub chain-set : {X : Type 0} (ps : List (Place X)) (s : ℕ) (p : Place X) (head : ℕ) (ss : List ℕ) → (Among ss s → ⊥)
    → Chain ps head ss → Chain (set ps s p) head ss
chain-set ps s p head [] out c = tt
chain-set ps s p head (t ∷ ts) out c =
    (c.0, c.1, get_or-set_other ps s t p Empty (λ e. out (inl e)) ∙ c.2, chain-set ps s p c.1 ts (λ a. out (inr a)) c.3)

-- it goes through links alone
chain_link : {X : Type 0} (ps : List (Place X)) (head : ℕ) (ss : List ℕ) (t : ℕ) (x : X) → Chain ps head ss
    → get_or ps t Empty ≡ Value x → Among ss t → ⊥
chain_link ps head [] t x c e a = a
chain_link ps head (s ∷ ss) t x c e a = elim a [
  | inl h ↦ (let f = sym c.2 ∙ ap (λ (i : ℕ). get_or ps i Empty) h ∙ e in cc)
  | inr r ↦ chain_link ps c.1 ss t x c.3 e r
]

-- where there is a spare place, the head is the number of a vacant one
pub record Head {X : Type 0} (ps : List (Place X)) (head spare : ℕ) : Type 0 where
  pub rest : List ℕ
  pub next : ℕ
  pub at : get_or ps head Empty ≡ Link next
  pub chain : Chain ps next rest
  pub fresh : Among rest head → ⊥
  pub distinct : Distinct rest
  pub count : suc (length rest) ≡ spare

head_at : {X : Type 0} (ps : List (Place X)) (head spare : ℕ) (free : List ℕ) → Chain ps head free → Distinct free
    → length free ≡ spare → 1 ≤ spare → Head ps head spare
head_at ps head spare [] c d n pos = absurd (omega arith)
head_at ps head spare (s ∷ ss) c d n pos = record {
  rest = ss;
  next = c.1;
  at = ap (λ (t : ℕ). get_or ps t Empty) c.0 ∙ c.2;
  chain = c.3;
  fresh = λ a. d.0 (let P = Among ss in subst P c.0 a);
  distinct = d.1;
  count = n;
}

pub head_of : {X : Type 0} (ps : List (Place X)) (head spare : ℕ) → IsFree ps head spare → 1 ≤ spare_count (values ps)
    → Head ps head spare
head_of ps head spare f pos = head_at ps head spare f.free f.chain f.distinct f.count (let a = f.all in omega arith)

-- the head is filled, and its link is the head now
pub free_filled : {X : Type 0} (ps : List (Place X)) (head spare link : ℕ) (x : X) → IsFree ps head spare
    → 1 ≤ spare_count (values ps) → get_or ps head Empty ≡ Link link → IsFree (set ps head (Value x)) link (spare - 1)
free_filled {X} ps head spare link x f pos at =
    let h = head_of ps head spare f pos in
    let same : h.next ≡ link = (let e = sym h.at ∙ at in cc) in
    let low = link_below ps head h.next h.at in
    let none : get_or (values ps) head None ≡ None = value_at ps head ∙ ap value_of h.at in
    let fewer : spare_count (set (values ps) head (Some x)) + 1 ≡ spare_count (values ps) =
    spare_less (values ps) head x (let l = length-values ps in omega arith) none in
    let P = λ (k : ℕ). Chain ps k h.rest in
    record {
      free = h.rest;
      chain = chain-set ps head (Value x) link h.rest h.fresh (subst P same h.chain);
      distinct = h.distinct;
      count = (let n = h.count in omega arith);
      all = ap spare_count (values-set ps head (Value x)) ∙ (let a = f.all in omega arith);
    }

-- a place is vacated, and is the head now
pub free_vacated : {X : Type 0} (ps : List (Place X)) (head spare s : ℕ) (x : X) → IsFree ps head spare
    → get_or ps s Empty ≡ Value x → IsFree (set ps s (Link head)) s (spare + 1)
free_vacated {X} ps head spare s x f at =
    let out = chain_link ps head f.free s x f.chain at in
    let some : get_or (values ps) s None ≡ Some x = value_at ps s ∙ ap value_of at in
    let more : spare_count (set (values ps) s None) ≡ spare_count (values ps) + 1 = spare_more (values ps) s x some in
    let low : s < length ps = (let l = live_below (values ps) s x some in let n = length-values ps in omega arith) in
    record {
      free = s ∷ f.free;
      chain = (
        refl,
        head,
        get_or-set_same ps s (Link head) Empty low,
        chain-set ps s (Link head) head f.free out f.chain,
      );
      distinct = (out, f.distinct);
      count = (let n = f.count in omega arith);
      all = ap spare_count (values-set ps s (Link head)) ∙ (let a = f.all in omega arith);
    }

-- a value is written over a value
pub free_kept : {X : Type 0} (ps : List (Place X)) (head spare s : ℕ) (x w : X) → IsFree ps head spare
    → get_or ps s Empty ≡ Value x → IsFree (set ps s (Value w)) head spare
free_kept ps head spare s x w f at = record {
  free = f.free;
  chain = chain-set ps s (Value w) head f.free (chain_link ps head f.free s x f.chain at) f.chain;
  distinct = f.distinct;
  count = f.count;
  all = ap spare_count (values-set ps s (Value w)) ∙ spare_same (values ps) s x w (value_at ps s ∙ ap value_of at)
      ∙ f.all;
}
