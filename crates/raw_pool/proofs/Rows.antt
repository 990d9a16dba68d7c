-- Places in chunks of one length: where a slot lies.
use Rattle.std.proofs.Common.{◌≡◌, ℕ, zero, suc, ◌+◌, ◌-◌, ◌*◌, ◌/◌, ◌<◌, ◌≤◌, List, [], ◌∷◌, ◌++◌, length, take, drop, get_or, refl, sym, ap, ◌∙◌, arith, length-append, append_assoc, append-nil, take-append-drop}
use Rattle.std.proofs.Math.ListN.{set}
use Rattle.std.proofs.Math.Nat.{div-lt_iff_lt-mul}
use Rattle.std.proofs.lemmas.List.{get_or_append_left, get_or-append-add, set-append_left, set-append_right}
use native.Mathlib.Nat.{suc-mul, zero-mul}
use Rattle.raw_pool.specs.Place.{Place, Empty}
use Rattle.raw_pool.specs.Inside.{rows, joined, all_places, Even}
use Rattle.raw_pool.specs.declared.chunk.Chunk.{Chunk}

module _ {X : Type 0} (n : ℕ) where
  pub length-joined : (pss : List (List (Place X))) → Even n pss → length (joined pss) ≡ length pss * n
  length-joined [] e = sym (zero-mul n)
  length-joined (ps ∷ pss) e = length-append ps (joined pss)
      ∙ (let h = length-joined pss e.1 in let g = e.0 in let m : suc (length pss) * n ≡ length pss * n + n =
      suc-mul (length pss) n in omega arith)

  -- place j of chunk k
  pub place_at : (pss : List (List (Place X))) (k j : ℕ) → Even n pss → k < length pss → j < n
      → get_or (joined pss) (k * n + j) Empty ≡ get_or (get_or pss k []) j Empty
  place_at [] k j e lt low = absurd (omega arith)
  place_at (ps ∷ pss) zero j e lt low =
      let long : j < length ps = (let g = e.0 in omega arith) in
      let here : zero * n + j ≡ j = omega (arith, zero-mul n) in
      rw here (get_or_append_left ps (joined pss) Empty j long)
  place_at (ps ∷ pss) (suc k) j e lt low =
      let there : suc k * n + j ≡ length ps + (k * n + j) = (let g = e.0 in let m = suc-mul k n in omega arith) in
      rw there (get_or-append-add ps (joined pss) (k * n + j) Empty ∙ place_at pss k j e.1 (omega arith) low)

  -- that place is written
  pub joined-set : (pss : List (List (Place X))) (k j : ℕ) (v : Place X) → Even n pss → k < length pss → j < n
      → joined (set pss k (set (get_or pss k []) j v)) ≡ set (joined pss) (k * n + j) v
  joined-set [] k j v e lt low = absurd (omega arith)
  joined-set (ps ∷ pss) zero j v e lt low =
      let long : j < length ps = (let g = e.0 in omega arith) in
      let here : zero * n + j ≡ j = omega (arith, zero-mul n) in
      sym (ap (λ (i : ℕ). set (ps ++ joined pss) i v) here ∙ set-append_left ps (joined pss) j v long)
  joined-set (ps ∷ pss) (suc k) j v e lt low =
      let there : suc k * n + j - n ≡ k * n + j = (let m = suc-mul k n in omega arith) in
      let past : n ≤ suc k * n + j = (let m = suc-mul k n in omega arith) in
      ap (λ (r : List (Place _)). ps ++ r) (joined-set pss k j v e.1 (omega arith) low)
      ∙ sym (set-append_right ps (joined pss) n (suc k * n + j) v e.0 past
      ∙ ap (λ (i : ℕ). ps ++ set (joined pss) i v) there)

  pub even-set : (pss : List (List (Place X))) (k : ℕ) (ps : List (Place X)) → Even n pss
      → (k < length pss → length ps ≡ n) → Even n (set pss k ps)
  even-set [] k ps e l = tt
  even-set (qs ∷ pss) zero ps e l = (l (omega arith), e.1)
  even-set (qs ∷ pss) (suc k) ps e l = (e.0, even-set pss k ps e.1 (λ h. l (omega arith)))

  pub even_at : (pss : List (List (Place X))) (k : ℕ) → Even n pss → k < length pss → length (get_or pss k []) ≡ n
  even_at [] k e l = absurd (omega arith)
  even_at (ps ∷ pss) zero e l = e.0
  even_at (ps ∷ pss) (suc k) e l = even_at pss k e.1 (omega arith)

  pub even_take : (pss : List (List (Place X))) (k : ℕ) → Even n pss → Even n (take k pss)
  even_take pss zero e = tt
  even_take [] (suc k) e = tt
  even_take (ps ∷ pss) (suc k) e = (e.0, even_take pss k e.1)

  pub even_last : (cs : List (Chunk X)) (c : Chunk X) → Even n (rows (cs ++ c ∷ []))
      → Even n (rows cs) × (length c.places ≡ n)
  even_last [] c e = (tt, e.0)
  even_last (d ∷ cs) c e = let r = even_last cs c e.1 in ((e.0, r.0), r.1)

  pub even_push : (cs : List (Chunk X)) (c : Chunk X) → Even n (rows cs) → length c.places ≡ n
      → Even n (rows (cs ++ c ∷ []))
  even_push [] c e l = (l, tt)
  even_push (d ∷ cs) c e l = (e.0, even_push cs c e.1 l)

  -- the chunk of a slot
  pub chunk_below : (pss : List (List (Place X))) (s : ℕ) → 1 ≤ n → Even n pss → s < length (joined pss)
      → s / n < length pss
  chunk_below pss s pos e lt =
      let l : length (joined pss) ≡ length pss * n = length-joined pss e in
      let below : s < length pss * n = omega arith in
      let pos' : zero < n = omega arith in
      (div-lt_iff_lt-mul {k = n} {x = s} {y = length pss} pos').1 below

-- the last chunk
pub joined_last : {X : Type 0} (cs : List (Chunk X)) (c : Chunk X)
    → all_places (cs ++ c ∷ []) ≡ all_places cs ++ c.places
joined_last [] c = append-nil c.places
joined_last (d ∷ cs) c = ap (λ (r : List (Place _)). d.places ++ r) (joined_last cs c)
    ∙ sym (append_assoc d.places (all_places cs) c.places)

pub joined_append : {A : Type 0} (xss yss : List (List A)) → joined (xss ++ yss) ≡ joined xss ++ joined yss
joined_append [] yss = refl
joined_append (xs ∷ xss) yss = ap (λ (r : List _). xs ++ r) (joined_append xss yss)
    ∙ sym (append_assoc xs (joined xss) (joined yss))

-- the places of the first chunks are the first places
pub joined_take : {A : Type 0} (xss : List (List A)) (k : ℕ) → joined xss ≡ joined (take k xss) ++ joined (drop k xss)
joined_take xss k = ap joined (sym (take-append-drop k xss)) ∙ joined_append (take k xss) (drop k xss)
