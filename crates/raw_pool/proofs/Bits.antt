-- A bit of the words, by its word and its place in it.
use Rattle.std.proofs.Common.{◌≡◌, ◌≢◌, ℕ, zero, suc, ◌+◌, ◌-◌, ◌*◌, ◌/◌, ◌%◌, ◌<◌, ◌≤◌, ◌^◌, List, [], ◌∷◌, length, get_or, slice_set, refl, sym, ap, ◌∙◌, inl, inr, arith, bit_and, bit_or, w64}
use Rattle.std.proofs.lemmas.List.{get_or-set_same, get_or-set_other}
use Rattle.std.proofs.lemmas.Bool.{cases_eq, cases_lt}
use Rattle.std.proofs.lemmas.Nat.Bits.{bit_at-lt, bit_at_and, bit_at_mask_inside, bit_at_mask_below, ones_shl, bit_at-trailing_zeros, bit_at_set_same, bit_at_set_other, bit_at_clear_same, bit_at_clear_other}
use Rattle.std.specs.Int.{bit_at, trailing_zeros}
use Rattle.raw_pool.specs.Tags.{tag_at, ChangesTag, IsFirstTag}

pub tag_in : (ws : List ℕ) (w j k : ℕ) → j < 64 → k ≡ w * 64 + j → tag_at ws k ≡ bit_at (get_or ws w 0) j
tag_in ws w j k l e =
    let q : k / 64 ≡ w = omega arith in let r : k % 64 ≡ j = omega arith in
    ap (λ (i : ℕ). bit_at (get_or ws i 0) (k % 64)) q ∙ ap (bit_at (get_or ws w 0)) r

-- a word is written, which changes one bit
pub tag_written : (ws : List ℕ) (at w b : ℕ) → at < length ws * 64 → bit_at w (at % 64) ≡ b
    → ((j : ℕ) → j < 64 → j ≢ at % 64 → bit_at w j ≡ bit_at (get_or ws (at / 64) 0) j)
    → ChangesTag ws (slice_set ws (at / 64) w) at b
tag_written ws at w b l here others = record {
  here = ap (λ (n : ℕ). bit_at n (at % 64)) (get_or-set_same ws (at / 64) w 0 (omega arith)) ∙ here;
  others = λ k n. elim (cases_eq (k / 64) (at / 64)) [
    | inl e ↦ ap (λ (i : ℕ). bit_at (get_or (slice_set ws (at / 64) w) i 0) (k % 64)) e
        ∙ ap (λ (v : ℕ). bit_at v (k % 64)) (get_or-set_same ws (at / 64) w 0 (omega arith))
        ∙ others (k % 64) (omega arith) (λ r. n (let q = e in omega arith))
        ∙ ap (λ (i : ℕ). bit_at (get_or ws i 0) (k % 64)) (sym e)
    | inr d ↦ ap (λ (v : ℕ). bit_at v (k % 64)) (get_or-set_other ws (at / 64) (k / 64) w 0 d)
  ];
}

-- the search has come to a word: no bit before it is set, and what is left of it has its bits from low on
pub record Scan (ws : List ℕ) (low index word : ℕ) : Type 0 where
  pub within : index < length ws
  pub small : word < 2 ^ 64
  pub past : (k : ℕ) → low ≤ k → k < index * 64 → tag_at ws k ≡ 0
  pub left : (j : ℕ) → j < 64 → low ≤ index * 64 + j → bit_at word j ≡ bit_at (get_or ws index 0) j
  pub below : (j : ℕ) → index * 64 + j < low → bit_at word j ≡ 0

-- a word from index on, and the place in it
split : (k index : ℕ) → index * 64 ≤ k → k < (index + 1) * 64 → (j : ℕ) × (j < 64) × (k ≡ index * 64 + j)
split k index l m = (k - index * 64, omega arith, omega arith)

pub scan_start : (ws : List ℕ) (low word : ℕ) → low / 64 < length ws → word < 2 ^ 64
    → word ≡ bit_and (get_or ws (low / 64) 0) (18446744073709551615 * 2 ^ (low % 64) % 18446744073709551616)
    → Scan ws low (low / 64) word
scan_start ws low word l small e =
    let at = low % 64 in let w = get_or ws (low / 64) 0 in
    let masked : word ≡ bit_and w (2 ^ 64 - 2 ^ at) = e ∙ ap (bit_and w) (ones_shl 64 at (omega arith)) in
    record {
      within = l;
      small = small;
      past = λ k h m. absurd (omega arith);
      left = λ j h m. ap (λ (n : ℕ). bit_at n j) masked ∙ bit_at_and w (2 ^ 64 - 2 ^ at) j
          ∙ (let one = bit_at_mask_inside at 64 j (omega arith) h in let b = bit_at-lt w j in omega arith);
      below = λ j m. ap (λ (n : ℕ). bit_at n j) masked ∙ bit_at_and w (2 ^ 64 - 2 ^ at) j
          ∙ (let none = bit_at_mask_below at 64 j (omega arith) in omega arith);
    }

pub scan_found : (ws : List ℕ) (low index word : ℕ) → Scan ws low index word → word ≢ 0
    → IsFirstTag ws low (index * 64 + trailing_zeros w64 word)
scan_found ws low index word s n =
    let t = bit_at-trailing_zeros w64 word (omega arith) s.small in
    let j = trailing_zeros w64 word in
    let from : low ≤ index * 64 + j = elim (cases_lt (index * 64 + j) low)
    [ inl m ↦ (let b = s.below j m in let c = t.1 in absurd (omega arith)) | inr m ↦ m ] in
    record {
      from = from;
      set = tag_in ws index j (index * 64 + j) t.0 refl ∙ sym (s.left j t.0 from) ∙ t.1;
      none = λ k h m. elim (cases_lt k (index * 64)) [
        | inl i ↦ s.past k h i
        | inr i ↦ let p = split k index i (let f = t.0 in omega arith) in
            tag_in ws index p.0 k p.1 p.2 ∙ sym (s.left p.0 p.1 (let q = p.2 in omega arith))
            ∙ t.2 p.0 (let q = p.2 in omega arith)
      ];
    }

same_read : (ws : List ℕ) (i d e : ℕ) → i < length ws → get_or ws i d ≡ get_or ws i e
same_read [] i d e l = absurd (omega arith)
same_read (w ∷ ws) zero d e l = refl
same_read (w ∷ ws) (suc i) d e l = same_read ws i d e (omega arith)

-- the value of a read, at the default 0
pub read_is : (ws : List ℕ) (i v : ℕ) → i < length ws → v ≡ get_or ws i v → v ≡ get_or ws i 0
read_is ws i v l e = e ∙ same_read ws i v 0 l

pub tag_set : (ws : List ℕ) (at v : ℕ) → at < length ws * 64 → v ≡ get_or ws (at / 64) v
    → ChangesTag ws (slice_set ws (at / 64) (bit_or v (1 * 2 ^ (at % 64) % 18446744073709551616))) at 1
tag_set ws at v l e =
    let k = at % 64 in let within : k < 64 = omega arith in let was = read_is ws (at / 64) v (omega arith) e in
    tag_written ws at (bit_or v (1 * 2 ^ k % 18446744073709551616)) 1 l (bit_at_set_same w64 v k within)
    (λ j m n. bit_at_set_other w64 v k within j n ∙ ap (λ (u : ℕ). bit_at u j) was)

pub tag_cleared : (ws : List ℕ) (at v : ℕ) → at < length ws * 64 → v ≡ get_or ws (at / 64) v
    → ChangesTag ws (slice_set ws (at / 64) (bit_and v (18446744073709551615 - 1 * 2 ^ (at % 64) %
    18446744073709551616))) at 0
tag_cleared ws at v l e =
    let k = at % 64 in let within : k < 64 = omega arith in let was = read_is ws (at / 64) v (omega arith) e in
    tag_written ws at (bit_and v (18446744073709551615 - 1 * 2 ^ k % 18446744073709551616)) 0 l
    (bit_at_clear_same w64 v k within) (λ j m n. bit_at_clear_other w64 v k within j m n
    ∙ ap (λ (u : ℕ). bit_at u j) was)
