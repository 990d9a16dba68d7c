-- What holds of a pool goes on holding when one of its places is written.
use Rattle.std.proofs.Common.{◌≡◌, ℕ, ◌+◌, ◌*◌, ◌/◌, ◌%◌, ◌<◌, ◌≤◌, ◌^◌, List, [], length, get_or, Some, None, refl, sym, ap, ◌∙◌, subst, inl, inr, arith, mul_comm}
use Rattle.std.proofs.Math.ListN.{set, length-set}
use Rattle.std.proofs.Math.Nat.{div-add-mod}
use Rattle.std.proofs.lemmas.Bool.{cases_eq, cases_lt}
use Rattle.std.proofs.lemmas.List.{map-set, get_or-map, length-map, get_or-set_same, get_or-set_other, get_or_past}
use Rattle.raw_pool.specs.Place.{Place, Empty, Value, Link}
use Rattle.raw_pool.specs.Slots.{holds, spare_count, IsLive, IsFirstLive}
use Rattle.raw_pool.specs.FreeList.{value_of, values, IsFree}
use Rattle.raw_pool.specs.Tags.{tag_at, ChangesTag, IsFirstTag}
use Rattle.raw_pool.specs.Inside.{places_of, rows, joined, all_places, slots_of, Even, TagOf, Tagged, PoolHolds}
use Rattle.raw_pool.specs.declared.chunk.Chunk.{Chunk}
use Rattle.raw_pool.proofs.Rows.{length-joined, place_at, joined-set, even-set, even_at, chunk_below}
use Rattle.raw_pool.proofs.Vacancy.{value_at, length-values, values-set, is_value, live_below, live_value, link_below, head_of}

-- a slot below the capacity lies in a chunk, at a place
pub record Lies {X : Type 0} (n : ℕ) (cs : List (Chunk X)) (s : ℕ) (c : Chunk X) : Type 0 where
  pub within : s / n < length cs
  pub row : get_or (rows cs) (s / n) [] ≡ c.places
  pub low : s % n < n
  pub whole : s / n * n + s % n ≡ s
  pub place : get_or c.places (s % n) Empty ≡ get_or (all_places cs) s Empty

module _ {X : Type 0} (n : ℕ) (cs : List (Chunk X)) (ws : List ℕ) (head spare : ℕ) (h : PoolHolds n cs ws head spare)
  where
    pub in_chunk : (s : ℕ) → s < length (all_places cs) → s / n < length cs
    in_chunk s low = let b = chunk_below n (rows cs) s h.positive h.even low in let l =
        length-map cs places_of in omega arith

    pub lies : (s : ℕ) (c : Chunk X) → s < length (all_places cs) → c ≡ get_or cs (s / n) c → Lies n cs s c
    lies s c low p =
        let k = s / n in
        let k_low : k < length cs = in_chunk s low in
        let k_row : k < length (rows cs) = (let l = length-map cs places_of in omega arith) in
        let j_low : s % n < n = (let q = h.positive in omega arith) in
        let sum : k * n + s % n ≡ s = (let q = div-add-mod s n in omega (arith, mul_comm n k)) in
        let row' : get_or (rows cs) k [] ≡ c.places = get_or-map places_of cs k c [] k_low ∙ ap places_of (sym p) in
        record {
          within = k_low;
          row = row';
          low = j_low;
          whole = sum;
          place = ap (λ (r : List (Place X)). get_or r (s % n) Empty) (sym row')
              ∙ sym (place_at n (rows cs) k (s % n) h.even k_row j_low)
              ∙ ap (λ (i : ℕ). get_or (all_places cs) i Empty) sum;
        }

    -- that place is written
    pub record Written (s : ℕ) (d : Chunk X) (v : Place X) : Type 0 where
      pub places : all_places (set cs (s / n) d) ≡ set (all_places cs) s v
      pub even : Even n (rows (set cs (s / n) d))
      pub slots : slots_of (set cs (s / n) d) ≡ set (slots_of cs) s (value_of v)

    pub written : (s : ℕ) (c d : Chunk X) (v : Place X) → Lies n cs s c → d.places ≡ set c.places (s % n) v
        → Written s d v
    written s c d v l e =
        let k = s / n in
        let k_row : k < length (rows cs) = (let w = l.within in let m = length-map cs places_of in omega arith) in
        let new : d.places ≡ set (get_or (rows cs) k []) (s % n) v =
        e ∙ ap (λ (r : List (Place X)). set r (s % n) v) (sym l.row) in
        let at : rows (set cs k d) ≡ set (rows cs) k (set (get_or (rows cs) k []) (s % n) v) =
        map-set places_of cs k d ∙ ap (λ (r : List (Place X)). set (rows cs) k r) new in
        let places : all_places (set cs k d) ≡ set (all_places cs) s v =
        ap (λ (r : List (List (Place X))). joined r) at ∙ joined-set n (rows cs) k (s % n) v h.even k_row l.low
        ∙ ap (λ (i : ℕ). set (all_places cs) i v) l.whole in
        let P = Even n in
        record {
          places = places;
          even = subst P (sym at) (even-set n (rows cs) k (set (get_or (rows cs) k []) (s % n) v) h.even
              (λ w. length-set (get_or (rows cs) k []) (s % n) v ∙ even_at n (rows cs) k h.even w));
          slots = ap values places ∙ values-set (all_places cs) s v;
        }

    -- what holds after it, given the bits and the free list
    pub holds_on : (s : ℕ) (d : Chunk X) (v : Place X) (vs : List ℕ) (head' spare' b : ℕ) → Written s d v
        → s < length (all_places cs) → ChangesTag ws vs s b → length vs ≡ length ws → TagOf v b
        → IsFree (set (all_places cs) s v) head' spare'
        → PoolHolds n (set cs (s / n) d) vs head' spare'
    holds_on s d v vs head' spare' b w low t long tag free =
        let ps = all_places cs in
        let same : length (all_places (set cs (s / n) d)) ≡ length ps = ap length w.places ∙ length-set ps s v in
        let P = λ (qs : List (Place X)). IsFree qs head' spare' in
        let Q = λ (qs : List (Place X)). Tagged qs vs in
        let tagged : Tagged (set ps s v) vs = λ k l. elim (cases_eq k s) [
          | inl e ↦ (let R = λ (i : ℕ). TagOf (get_or (set ps s v) i Empty) (tag_at vs i) in subst R (sym e)
              (let S = λ (r : Place X × ℕ). TagOf r.0 r.1 in subst S
              (λ i. (sym (get_or-set_same ps s v Empty low) i, sym t.here i)) tag))
          | inr o ↦ (let S = λ (r : Place X × ℕ). TagOf r.0 r.1 in subst S
              (λ i. (sym (get_or-set_other ps s k v Empty o) i, sym (t.others k o) i))
              (h.tagged k (let m = length-set ps s v in omega arith)))
        ] in
        record {
          positive = h.positive;
          even = w.even;
          small = (let m = h.small in omega arith);
          room = (let m = h.room in omega arith);
          tagged = subst Q (sym w.places) tagged;
          past = λ k l. t.others k (let m = l in omega arith) ∙ h.past k (omega arith);
          free = subst P (sym w.places) free;
        }

    -- a live slot
    pub live_low : (s : ℕ) (x : X) → get_or (slots_of cs) s None ≡ Some x → s < length (all_places cs)
    live_low s x e = let l = live_below (slots_of cs) s x e in let m = length-values (all_places cs) in omega arith

    pub live_place : (s : ℕ) (x : X) → get_or (slots_of cs) s None ≡ Some x → get_or (all_places cs) s Empty ≡ Value x
    live_place s x e = is_value _ x (sym (value_at (all_places cs) s) ∙ e)

    -- the bit of a live slot is set
    pub tag_kept : (s : ℕ) (x : X) → s < length (all_places cs) → get_or (all_places cs) s Empty ≡ Value x
        → ChangesTag ws ws s 1
    tag_kept s x low at = record {
      here = (let P = λ (p : Place X). TagOf p (tag_at ws s) in subst P at (h.tagged s low));
      others = λ k o. refl;
    }

    -- the head, where a slot is spare
    pub head_low : 1 ≤ spare_count (slots_of cs) → head < length (all_places cs)
    head_low pos = let f = head_of (all_places cs) head spare h.free pos in link_below (all_places cs) head f.next f.at

    -- ---- what the bits say of the slots
    tag_live : (s : ℕ) → tag_at ws s ≡ 1 → s < length (all_places cs)
    tag_live s e = elim (cases_lt s (length (all_places cs)))
        [ inl l ↦ l | inr l ↦ (let z = h.past s l in absurd (omega arith)) ]

    set_is : (p : Place X) (b : ℕ) → TagOf p b → b ≡ 1 → (x : X) × (p ≡ Value x)
    set_is Empty b t e = absurd t
    set_is (Value x) b t e = (x, refl)
    set_is (Link n) b t e = absurd (omega arith)

    clear_is : (p : Place X) (b : ℕ) → TagOf p b → b ≡ 0 → value_of p ≡ None
    clear_is Empty b t e = refl
    clear_is (Value x) b t e = absurd (omega arith)
    clear_is (Link n) b t e = refl

    pub vacant_at : (s : ℕ) → tag_at ws s ≡ 0 → get_or (slots_of cs) s None ≡ None
    vacant_at s e = elim (cases_lt s (length (all_places cs))) [
      | inl l ↦ value_at (all_places cs) s ∙ clear_is (get_or (all_places cs) s Empty) (tag_at ws s) (h.tagged s l) e
      | inr l ↦ get_or_past (slots_of cs) s None (let m = length-values (all_places cs) in omega arith)
    ]

    pub first_live : (low s : ℕ) → IsFirstTag ws low s → (s < 2 ^ 32) × IsFirstLive (slots_of cs) low s
    first_live low s f =
        let below = tag_live s f.set in
        let v = set_is (get_or (all_places cs) s Empty) (tag_at ws s) (h.tagged s below) f.set in (
          (let m = h.small in omega arith),
          record {
            from = f.from;
            live = ap holds (value_at (all_places cs) s ∙ ap value_of v.1);
            none = λ k l m. vacant_at k (f.none k l m);
          },
        )

    pub tag_says : (s : ℕ) → s < length (all_places cs) → tag_at ws s ≡ 1 → IsLive (slots_of cs) s
    tag_says s l e = let v = set_is (get_or (all_places cs) s Empty) (tag_at ws s) (h.tagged s l) e in ap holds
        (value_at (all_places cs) s ∙ ap value_of v.1)

    pub live_tag : (s : ℕ) → IsLive (slots_of cs) s → tag_at ws s ≡ 1
    live_tag s e = let v = live_value (slots_of cs) s e in (tag_kept s v.0 (live_low s v.0 v.1)
        (live_place s v.0 v.1)).here

    pub capacity_is : (count : ℕ) → count ≡ length cs → count * n ≡ length (slots_of cs)
    capacity_is count e = ap (λ (k : ℕ). k * n) (e ∙ sym (length-map cs places_of))
        ∙ sym (length-joined n (rows cs) h.even) ∙ sym (length-values (all_places cs))
