-- Entries of which the first few stand by rising name.
use Rattle.std.proofs.Common.{◌≡◌, ℕ, zero, suc, ◌-◌, ◌<◌, ◌≤◌, Bool, true, false, List, [], ◌∷◌, ◌++◌, length, take, inl, inr, refl, sym, ap, ◌∙◌, arith, Option, Some, None, is_some, get_or, ltb, length-append}
use Rattle.std.specs.Prelude.{slice_get}
use Rattle.std.specs.List.{filter}
use Rattle.std.specs.List.Sorted.{IsNonDecreasingBy, IsPartitionPoint}
use Rattle.std.specs.Option.{option_map}
use Rattle.std.specs.Cmp.{nat_cmp_total}
use Rattle.std.specs.FinMap.{get-from_entries}
use Rattle.std.proofs.lemmas.Bool.{cases_lt, ltb-true, ltb-false}
use Rattle.std.proofs.lemmas.List.{length-map, length-take-le, take_all, take-append-le}
use Rattle.std.proofs.lemmas.List.Kept.{IsNonDecreasingBy-filter}
use Rattle.std.proofs.lemmas.List.Sorted.{IsNonDecreasingBy-push, IsNonDecreasingBy-short}
use Rattle.std.proofs.lemmas.Option.{slice_get_within, slice_get-map, slice_get-get_or, get_or_from_slice_get, none-some, same_Some}
use Rattle.mesh_trail.specs.declared.note_map.Entry.{Entry}
use Rattle.mesh_trail.specs.Tree.{pair_of, pairs, with_pair, names_of, IsTree, AreNoted, IsFirstFrom, IsBehind, IsLeast}
use Rattle.mesh_trail.proofs.Growth.{AreApart, find_at, get-take, get-absent}

-- an entry by its pair
pub paired : {R : Type 0} (o : Option (Entry R)) (x : ℕ × Option R) → option_map pair_of o ≡ Some x
    → (d : Entry R) × (o ≡ Some d) × (d.name ≡ x.0)
paired None x is = absurd (none-some x is)
paired {R = R} (Some d) x is = (d, refl, ap (λ (y : ℕ × Option R). y.0) (same_Some (pair_of d) x is))

pair_stands : {R : Type 0} (es : List (Entry R)) (i : ℕ) (x : ℕ × Option R) → slice_get (pairs es) i ≡ Some x
    → (d : Entry R) × (slice_get es i ≡ Some d) × (d.name ≡ x.0)
pair_stands es i x at_i = paired (slice_get es i) x (sym (slice_get-map pair_of es i) ∙ at_i)

pub pairs_take : {R : Type 0} (n : ℕ) (es : List (Entry R)) → take n (pairs es) ≡ pairs (take n es)
pairs_take zero es = refl
pairs_take (suc n) [] = refl
pairs_take {R = R} (suc n) (e ∷ es) = ap (λ (ps : List (ℕ × Option R)). pair_of e ∷ ps) (pairs_take n es)

-- pairs rise where their entries do
pub rising_pairs : {R : Type 0} (es : List (Entry R)) → IsNonDecreasingBy (λ e. e.name) es
    → IsNonDecreasingBy (λ x. x.0) (pairs es)
rising_pairs {R = R} es h i j d le less =
    let wide : length (pairs es) ≡ length es = length-map es pair_of in
    let a = pair_stands es i (get_or (pairs es) i d) (slice_get-get_or (pairs es) i d (omega arith)) in
    let b = pair_stands es j (get_or (pairs es) j d) (slice_get-get_or (pairs es) j d less) in
    let is = h i j a.0 le (omega (arith, wide, less)) in
    let left = ap (λ (e : Entry R). e.name) (get_or_from_slice_get es i a.0 a.0 a.1) in
    let right = ap (λ (e : Entry R). e.name) (get_or_from_slice_get es j b.0 a.0 b.1) in
    omega (arith, is, left, right, a.2, b.2)

-- entries rise where their pairs do
pub rising_entries : {R : Type 0} (es : List (Entry R)) → IsNonDecreasingBy (λ x. x.0) (pairs es)
    → IsNonDecreasingBy (λ e. e.name) es
rising_entries {R = R} es h i j d le less =
    let wide : length (pairs es) ≡ length es = length-map es pair_of in
    let is = h i j (pair_of d) le (omega (arith, wide, less)) in
    let left = ap (λ (x : ℕ × Option R). x.0) (stands i (omega arith)) in
    let right = ap (λ (x : ℕ × Option R). x.0) (stands j less) in
    omega (arith, is, left, right)
  where
    stands : (k : ℕ) → k < length es → get_or (pairs es) k (pair_of d) ≡ pair_of (get_or es k d)
    stands k within = get_or_from_slice_get (pairs es) k (pair_of (get_or es k d)) (pair_of d)
        (slice_get-map pair_of es k ∙ ap (λ (o : Option (Entry R)). option_map pair_of o)
        (slice_get-get_or es k d within))

pub front_rises : {R : Type 0} (es : List (Entry R)) (front : ℕ) → IsNonDecreasingBy (λ x. x.0) (take front (pairs es))
    → IsNonDecreasingBy (λ e. e.name) (take front es)
front_rises es front h = rising_entries (take front es) (rw (pairs_take front es) at h)

-- what is left of sorted entries rises
pub kept_rises : {R : Type 0} (p : ℕ → Option R → Bool) (sorted : List (Entry R)) (left : List (ℕ × Option R))
    → IsNonDecreasingBy (λ e. e.name) sorted → left ≡ filter (λ x. p x.0 x.1) (pairs sorted)
    → IsNonDecreasingBy (λ x. x.0) left
kept_rises p sorted left h is = rw is (IsNonDecreasingBy-filter (λ x. x.0) (λ x. p x.0 x.1) (pairs sorted)
    (rising_pairs sorted h))

-- ---- THE LEAST NAME

-- a search by halves finds where the front reaches a number
pub first_of : {R : Type 0} (es : List (Entry R)) (front at least : ℕ) → front ≤ length es → at ≤ length (take front es)
    → IsPartitionPoint (λ (e : Entry R). ltb e.name least ≡ true) (λ (e : Entry R). ltb e.name least ≡ false)
    (take front es) at
    → IsFirstFrom es front least at
first_of {R = R} es front at least short within point =
    let long : length (take front es) ≡ front = length-take-le front es short in
    record {
      within = omega (arith, long, within);
      below = λ i e less at_i. ltb-true e.name least (rw (stands i e (omega (arith, long, within, less)) at_i) at
          (point.0 i e (omega arith) less));
      from = λ i e over below at_i. ltb-false e.name least (rw (stands i e below at_i) at
          (point.1 i e over (omega (arith, long, below))));
    }
  where
    stands : (i : ℕ) (e : Entry R) → i < front → slice_get es i ≡ Some e → get_or (take front es) i e ≡ e
    stands i e less at_i = get_or_from_slice_get (take front es) i e e (get-take front es i less ∙ at_i)

apart_front : {R : Type 0} (es : List (Entry R)) (front : ℕ) → front ≤ length es → AreApart es
    → AreApart (take front es)
apart_front es front short apart j k d e at_j at_k same =
    let long = length-take-le front es short in
    let one = slice_get_within (take front es) j d at_j in let two = slice_get_within (take front es) k e at_k in
    apart j k d e (sym (get-take front es j (omega arith)) ∙ at_j) (sym (get-take front es k (omega arith)) ∙ at_k) same

-- the entry there has the least name
pub front_least : {R : Type 0} (es : List (Entry R)) (front least at : ℕ) (e : Entry R) → IsTree es → front ≤ length es
    → IsNonDecreasingBy (λ x. x.0) (take front (pairs es)) → IsFirstFrom es front least at → slice_get es at ≡ Some e
    → at < front
    → IsLeast (names_of (take front es)) least (Some e.name)
front_least {R = R} es front least at e tree short ordered first at_e less = record {
  from = first.from at e (omega arith) less at_e;
  there = ap is_some (get-from_entries nat_cmp_total (pairs (take front es)) e.name
      ∙ find_at (take front es) at e (apart_front es front short tree.apart) in_front);
  first = λ q from below. get-absent (take front es) q (λ j d at_j same. missed q from below j d at_j same);
}
  where
    in_front : slice_get (take front es) at ≡ Some e
    in_front = get-take front es at less ∙ at_e

    missed : (q : ℕ) → least ≤ q → q < e.name → (j : ℕ) (d : Entry R) → slice_get (take front es) j ≡ Some d
        → d.name ≡ q → ⊥
    missed q from below j d at_j same =
        let long = length-take-le front es short in
        let within = slice_get_within (take front es) j d at_j in
        elim (cases_lt j at) [
          | inl before ↦ (let low = first.below j d before (sym (get-take front es j (omega arith)) ∙ at_j) in omega
              arith)
          | inr behind ↦ (let is = front_rises es front ordered at j e behind within in
              let left = ap (λ (x : Entry R). x.name) (get_or_from_slice_get (take front es) at e e in_front) in
              let right = ap (λ (x : Entry R). x.name) (get_or_from_slice_get (take front es) j d e at_j) in
              omega (arith, is, left, right, same, below))
        ]

-- no entry of the front has a name from there on
pub front_none : {R : Type 0} (es : List (Entry R)) (front least at : ℕ) → front ≤ length es → front ≤ at
    → IsFirstFrom es front least at → IsLeast (names_of (take front es)) least None
front_none {R = R} es front least at short over first q from =
    get-absent (take front es) q
    (λ j d at_j same. (let long = length-take-le front es short in
    let within = slice_get_within (take front es) j d at_j in
    let low = first.below j d (omega arith) (sym (get-take front es j (omega arith)) ∙ at_j) in absurd (omega arith)))

-- ---- A NAME BEHIND THE OTHERS

pub behind_none : {R : Type 0} (es : List (Entry R)) (name : ℕ) → length es ≡ 0 → IsBehind (pairs es) name
behind_none {R = R} es name none =
    let wide : length (pairs es) ≡ length es = length-map es pair_of in
    record {
      ordered = IsNonDecreasingBy-short (λ x. x.0) (pairs es) (omega arith);
      last = λ i x at_i. (let less = slice_get_within (pairs es) i x at_i in absurd (omega arith));
    }

pub behind_last : {R : Type 0} (es : List (Entry R)) (rising name : ℕ) (e : Entry R) → length es ≤ rising
    → IsNonDecreasingBy (λ x. x.0) (take rising (pairs es)) → slice_get es (length es - 1) ≡ Some e → e.name < name
    → IsBehind (pairs es) name
behind_last {R = R} es rising name e whole front at_e less = record {
  ordered = ordered;
  last = λ i x at_i. (let within = slice_get_within (pairs es) i x at_i in
      let is = ordered i (length es - 1) x (omega (arith, wide, within)) (omega (arith, wide, within)) in
      let left = ap (λ (y : ℕ × Option R). y.0) (get_or_from_slice_get (pairs es) i x x at_i) in
      let right = ap (λ (y : ℕ × Option R). y.0) (get_or_from_slice_get (pairs es) (length es - 1) (pair_of e) x
      (slice_get-map pair_of es (length es - 1) ∙ ap (λ (o : Option (Entry R)). option_map pair_of o) at_e)) in
      omega (arith, is, left, right, less));
}
  where
    wide : length (pairs es) ≡ length es
    wide = length-map es pair_of

    ordered : IsNonDecreasingBy (λ x. x.0) (pairs es)
    ordered = rw (take_all rising (pairs es) (omega (arith, wide, whole))) at front

-- ---- A NOTE MORE

longer : {R : Type 0} (b : Bool) (ps : List (ℕ × Option R)) (name : ℕ) (was : Option R)
    → length ps ≤ length (with_pair b ps name was)
longer true ps name was = omega arith
longer false ps name was = let more = length-append ps ((name, was) ∷ []) in omega arith

front_kept : {R : Type 0} (b : Bool) (front : ℕ) (ps : List (ℕ × Option R)) (name : ℕ) (was : Option R)
    → front ≤ length ps → take front (with_pair b ps name was) ≡ take front ps
front_kept true front ps name was within = refl
front_kept false front ps name was within = take-append-le front ps ((name, was) ∷ []) within

rising_more : {R : Type 0} (b : Bool) (ps : List (ℕ × Option R)) (name : ℕ) (was : Option R) → IsBehind ps name
    → IsNonDecreasingBy (λ x. x.0) (with_pair b ps name was)
rising_more true ps name was behind = behind.ordered
rising_more false ps name was behind = IsNonDecreasingBy-push (λ x. x.0) ps (name, was) behind.ordered
    (λ d some. behind.last (length ps - 1) (get_or ps (length ps - 1) d)
    (slice_get-get_or ps (length ps - 1) d (omega arith)))

-- entries of which all rise
pub noted_whole : {R : Type 0} (es : List (Entry R)) (count rising : ℕ) → IsTree es → count ≤ 4294967295
    → count ≡ length es → rising ≡ count → IsNonDecreasingBy (λ x. x.0) (pairs es) → AreNoted es count rising
noted_whole es count rising tree few long all ordered =
    let wide : length (pairs es) ≡ length es = length-map es pair_of in
    record {
      tree = tree;
      few = few;
      within = omega (arith, all);
      ordered = rw (take_all rising (pairs es) (omega (arith, wide, long, all))) ordered;
    }

module _ {R : Type 0} (es later : List (Entry R)) (count more rising name : ℕ) (was : Option R) (b : Bool)
    (long : count ≡ length es) (wide : more ≡ length later) (tree : IsTree later) (few : more ≤ 4294967295)
    (is : pairs later ≡ with_pair b (pairs es) name was) (noted : AreNoted es count rising) where
  grows : count ≤ more
  grows =
      let one : length (pairs es) ≡ length es = length-map es pair_of in
      let two : length (pairs later) ≡ length later = length-map later pair_of in
      let three = ap length is in
      let four = longer b (pairs es) name was in omega (arith, one, two, three, four, long, wide)

  -- behind a front that rises a note may come
  pub noted_more : AreNoted later more rising
  noted_more =
      let one : length (pairs es) ≡ length es = length-map es pair_of in
      let short = noted.within in
      record {
        tree = tree;
        few = few;
        within = (let g = grows in omega arith);
        ordered = rw (is, front_kept b rising (pairs es) name was (omega (arith, one, short, long))) noted.ordered;
      }

  -- and where all rise and it comes behind them, all still do
  pub noted_behind : (all : ℕ) → all ≡ more → IsBehind (pairs es) name → AreNoted later more all
  noted_behind all whole behind = noted_whole later more all tree few wide whole
      (rw is (rising_more b (pairs es) name was behind))

-- ---- PAIRS IN ORDER

pub pairs_there : {R : Type 0} (ps : List (ℕ × Option R)) (name : ℕ) (was : Option R) (o : Option (Option R))
    (w : Option R) → o ≡ Some w → ps ≡ with_pair (is_some o) ps name was
pairs_there ps name was o w is = ap (λ b. with_pair b ps name was) (sym (ap is_some is))

pub pairs_new : {R : Type 0} (ps later : List (ℕ × Option R)) (name : ℕ) (was : Option R) (o : Option (Option R))
    → o ≡ None → later ≡ ps ++ (name, was) ∷ [] → later ≡ with_pair (is_some o) ps name was
pairs_new ps later name was o none is = is ∙ ap (λ b. with_pair b ps name was) (sym (ap is_some none))

pub pairs-append : {R : Type 0} (es : List (Entry R)) (e : Entry R)
    → pairs (es ++ e ∷ []) ≡ pairs es ++ (e.name, e.was) ∷ []
pairs-append [] e = refl
pairs-append {R = R} (x ∷ xs) e = ap (λ (ps : List (ℕ × Option R)). (x.name, x.was) ∷ ps) (pairs-append xs e)
