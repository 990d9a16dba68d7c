-- Mappings: the pairs of one that are kept are of distinct sources.
use Rattle.std.proofs.Common.{◌≡◌, ℕ, zero, suc, ◌+◌, ◌<◌, ◌≤◌, Bool, true, false, cond, ◌||◌, eqb, nat_eq, List, []}
use Rattle.std.proofs.Common.{◌∷◌, ◌++◌, length, take, get_or, refl, sym, ap, ◌∙◌, arith, Option, Some, None}
use Rattle.std.proofs.Common.{is_some, true≢false}
use Rattle.std.specs.List.{filter, slice_get, AllZip}
use Rattle.std.specs.Option.{option_map}
use Rattle.std.specs.Map.{lookup, keys_of, values_of}
use Rattle.std.proofs.lemmas.Bool.{or_parts, or_from, ne_eqb, eqb-false, eq-eqb, eqb-true, false_from_ne_true}
use Rattle.std.proofs.lemmas.List.{take_more, take_all}
use Rattle.indexmap.specs.IndexMap.{insert_entry}
use Rattle.mesh_model.proofs.NameSets.{same_tests}
use Rattle.op_slots.proofs.Mappings.{distinct_more}
use Rattle.std.proofs.lemmas.Option.{slice_get_within, get_or_from_slice_get}
use Rattle.mesh_model.specs.Elements.{is_among}
use Rattle.mesh_model.specs.Valid.{are_distinct}
use Rattle.mesh_model.specs.declared.names.VertName.{VertName}
use Rattle.mesh_model.proofs.Distinct.{distinct-uncons}
use Rattle.op_slots.specs.Mapping.{sources, pair_of, pairs_of, mapping_of}
use Rattle.op_slots.specs.declared.mapping.Pair.{Pair}

-- the source at a position isn't one that is none of all
apart_at : (ps : List Pair) (u : VertName) (k : ℕ) (d : Pair) → is_among (sources ps) u ≡ false → k < length ps
    → eqb (get_or ps k d).source.0 u.0 ≡ false
apart_at [] u k d out less = absurd (omega arith)
apart_at (p ∷ ps) u zero d out less = (or_parts (eqb p.source.0 u.0) (is_among (sources ps) u) out).0
apart_at (p ∷ ps) u (suc k) d out less =
    apart_at ps u k d (or_parts (eqb p.source.0 u.0) (is_among (sources ps) u) out).1 (omega arith)

-- the source at a position is none of those before it
before_it : (ps : List Pair) (k : ℕ) (d : Pair) → are_distinct (sources ps) ≡ true → k < length ps
    → is_among (sources (take k ps)) (get_or ps k d).source ≡ false
before_it [] k d distinct less = absurd (omega arith)
before_it (p ∷ ps) zero d distinct less = refl
before_it (p ∷ ps) (suc k) d distinct less =
    let here = distinct-uncons p.source (sources ps) distinct in
    let v : VertName = (get_or ps k d).source in
    or_from (eqb p.source.0 v.0) (is_among (sources (take k ps)) v)
    (ne_eqb p.source.0 v.0 (λ same. eqb-false v.0 p.source.0 (apart_at ps p.source k d here.0 (omega arith))
    (sym same)))
    (before_it ps k d here.1 (omega arith))

-- nor of those among them that pass a test
kept_apart : (test : Pair → Bool) (ps : List Pair) (v : VertName) → is_among (sources ps) v ≡ false
    → is_among (sources (filter test ps)) v ≡ false
kept_apart test [] v out = refl
kept_apart test (p ∷ ps) v out = let apart =
    or_parts (eqb p.source.0 v.0) (is_among (sources ps) v) out in first (test p) apart.0 (kept_apart test ps v apart.1)
  where
    first : (b : Bool) → eqb p.source.0 v.0 ≡ false → is_among (sources (filter test ps)) v ≡ false
        → is_among (sources (cond b (p ∷ filter test ps) (filter test ps))) v ≡ false
    first true off rest = or_from (eqb p.source.0 v.0) (is_among (sources (filter test ps)) v) off rest
    first false off rest = rest

-- the pair at a position may follow those before it that pass
pub may_follow : (test : Pair → Bool) (ps : List Pair) (k : ℕ) (p : Pair) → are_distinct (sources ps) ≡ true
    → slice_get ps k ≡ Some p
    → is_among (sources (filter test (take k ps))) p.source ≡ false
may_follow test ps k p distinct at =
    kept_apart test (take k ps) p.source (sym (ap (λ (q : Pair). is_among (sources (take k ps)) q.source)
    (get_or_from_slice_get ps k p p at))
    ∙ before_it ps k p distinct (slice_get_within ps k p at))

-- ---- ENTRIES OF A MAP AS PAIRS

eqb-turned : (m n : ℕ) → eqb m n ≡ eqb n m
eqb-turned m n = same_tests (eqb m n) (eqb n m) (λ h. eq-eqb n m (sym (eqb-true m n h)))
    (λ h. eq-eqb m n (sym (eqb-true n m h)))

-- what is looked up is among the sources
pub looked_up : (es : List (ℕ × VertName)) (v : VertName)
    → is_some (lookup (nat_eq v.0) es) ≡ is_among (sources (pairs_of es)) v
looked_up [] v = refl
looked_up (e ∷ es) v = by (nat_eq v.0 e.0) (looked_up es v)
    ∙ ap (λ b. b || is_among (sources (pairs_of es)) v) (eqb-turned v.0 e.0)
  where
    by : (b : Bool) → is_some (lookup (nat_eq v.0) es) ≡ is_among (sources (pairs_of es)) v
        → is_some (cond b (Some e.1) (lookup (nat_eq v.0) es)) ≡ (b || is_among (sources (pairs_of es)) v)
    by true rest = refl
    by false rest = rest

-- a new source goes last
pub inserted : (es : List (ℕ × VertName)) (p : Pair) → is_among (sources (pairs_of es)) p.source ≡ false
    → pairs_of (insert_entry nat_eq es p.source.0 p.target) ≡ pairs_of es ++ p ∷ []
inserted [] p out = refl
inserted (e ∷ es) p out =
    let apart = or_parts (eqb e.0 p.source.0) (is_among (sources (pairs_of es)) p.source) out in
    by (nat_eq p.source.0 e.0) (eqb-turned p.source.0 e.0 ∙ apart.0) (inserted es p apart.1)
  where
    by : (b : Bool) → b ≡ false → pairs_of (insert_entry nat_eq es p.source.0 p.target) ≡ pairs_of es ++ p ∷ []
        → pairs_of (cond b ((e.0, p.target) ∷ es) (e ∷ insert_entry nat_eq es p.source.0 p.target))
        ≡ pair_of e ∷ pairs_of es ++ p ∷ []
    by true never rest = absurd (true≢false never)
    by false off rest = ap (λ ps. pair_of e ∷ ps) rest

-- the pair at a position, by its two parts
pub pair_at : (es : List (ℕ × VertName)) (k n : ℕ) (v : VertName) → slice_get (keys_of es) k ≡ Some n
    → slice_get (values_of es) k ≡ Some v
    → slice_get (pairs_of es) k ≡ Some (record { source = record { 0 = n }; target = v })
pair_at [] k n v at to = absurd (cc)
pair_at (e ∷ es) zero n v at to = ap (λ (o : Option ℕ). option_map
    (λ (m : ℕ). record { source = record { 0 = m }; target = e.1 }) o) at
    ∙ ap (λ (o : Option VertName). option_map (λ (t : VertName). record { source = record { 0 = n }; target = t }) o) to
pair_at (e ∷ es) (suc k) n v at to = pair_at es k n v at to

-- entries whose parts are equal are equal
pub same_entries : (es fs : List (ℕ × VertName)) → AllZip (λ p q. (q.0 ≡ p.0) × (q.1 ≡ p.1)) es fs → fs ≡ es
same_entries [] [] h = refl
same_entries [] (f ∷ fs) h = absurd h
same_entries (e ∷ es) [] h = absurd h
same_entries (e ∷ es) (f ∷ fs) h = λ j. (h.0.0 j, h.0.1 j) ∷ same_entries es fs h.1 j

-- the pairs so far, whose sources are distinct
pub record AreTaken (ps : List Pair) (k : ℕ) (es : List (ℕ × VertName)) : Type 0 where
  pub same : pairs_of es ≡ take k ps
  pub distinct : are_distinct (sources (take k ps)) ≡ true

-- one pair more, whose source is new
pub taken_more : (ps : List Pair) (k : ℕ) (d : Pair) (es new : List (ℕ × VertName)) (before : Option VertName)
    → k < length ps → AreTaken ps k es
    → before ≡ lookup (nat_eq (get_or ps k d).source.0) es → is_some before ≡ false
    → new ≡ insert_entry nat_eq es (get_or ps k d).source.0 (get_or ps k d).target → AreTaken ps (k + 1) new
taken_more ps k d es new before less so_far found fresh grown =
    let p : Pair = get_or ps k d in
    let out : is_among (sources (pairs_of es)) p.source ≡ false =
    sym (looked_up es p.source) ∙ ap is_some (sym found) ∙ fresh in
    let more : take (k + 1) ps ≡ take k ps ++ p ∷ [] = take_more ps k d less in record {
      same = ap pairs_of grown ∙ inserted es p out ∙ ap (λ (qs : List Pair). qs ++ p ∷ []) so_far.same ∙ sym more;
      distinct = ap (λ (qs : List Pair). are_distinct (sources qs)) more
          ∙ distinct_more (take k ps) p so_far.distinct (ap (λ (qs : List Pair). is_among (sources qs) p.source)
          (sym so_far.same) ∙ out);
    }

unmapped : (ps : List Pair) → are_distinct (sources ps) ≡ false → None ≡ mapping_of ps
unmapped ps twice = ap (λ b. cond b (Some ps) None) (sym twice)

-- a source that is there already
pub taken_twice : (ps : List Pair) (k : ℕ) (d : Pair) (es : List (ℕ × VertName)) (before : Option VertName)
    → k < length ps → AreTaken ps k es
    → before ≡ lookup (nat_eq (get_or ps k d).source.0) es → is_some before ≡ true → None ≡ mapping_of ps
taken_twice ps k d es before less so_far found old =
    let v : VertName = (get_or ps k d).source in
    let there : is_among (sources (take k ps)) v ≡ true =
    ap (λ (qs : List Pair). is_among (sources qs) v) (sym so_far.same) ∙ sym (looked_up es v) ∙ ap is_some (sym found)
    ∙ old in
    unmapped ps (false_from_ne_true (are_distinct (sources ps))
    (λ distinct. true≢false (sym there ∙ before_it ps k d distinct less)))

-- all pairs are taken
pub taken_all : (ps : List Pair) (k : ℕ) (es : List (ℕ × VertName)) → length ps ≤ k → AreTaken ps k es
    → Some (pairs_of es) ≡ mapping_of ps
taken_all ps k es past so_far =
    let all : take k ps ≡ ps = take_all k ps past in
    ap Some (so_far.same ∙ all) ∙ ap (λ b. cond b (Some ps) None)
    (sym (sym (ap (λ (qs : List Pair). are_distinct (sources qs)) all) ∙ so_far.distinct))

-- ---- PAIRS THAT ARE KEPT

filter_last : (test : Pair → Bool) (ps : List Pair) (p : Pair)
    → filter test (ps ++ p ∷ []) ≡ cond (test p) (filter test ps ++ p ∷ []) (filter test ps)
filter_last test [] p = refl
filter_last test (q ∷ ps) p = by (test q) (test p) (filter_last test ps p)
  where
    by : (b c : Bool) → filter test (ps ++ p ∷ []) ≡ cond c (filter test ps ++ p ∷ []) (filter test ps)
        → cond b (q ∷ filter test (ps ++ p ∷ [])) (filter test (ps ++ p ∷ []))
        ≡ cond c (cond b (q ∷ filter test ps) (filter test ps) ++ p ∷ [])
        (cond b (q ∷ filter test ps) (filter test ps))
    by true true h = ap (λ qs. q ∷ qs) h
    by true false h = ap (λ qs. q ∷ qs) h
    by false true h = h
    by false false h = h

-- one pair more, which is kept where it passes
pub kept_more : (test : Pair → Bool) (ps : List Pair) (k : ℕ) (p : Pair) (kept new : List Pair)
    → slice_get ps k ≡ Some p → kept ≡ filter test (take k ps)
    → new ≡ cond (test p) (kept ++ p ∷ []) kept → new ≡ filter test (take (k + 1) ps)
kept_more test ps k p kept new at so_far grown =
    let more : take (k + 1) ps ≡ take k ps ++ p ∷ [] =
    take_more ps k p (slice_get_within ps k p at)
    ∙ ap (λ q. take k ps ++ q ∷ []) (get_or_from_slice_get ps k p p at) in
    grown ∙ ap (λ (qs : List Pair). cond (test p) (qs ++ p ∷ []) qs) so_far ∙ sym (filter_last test (take k ps) p)
    ∙ ap (filter test) (sym more)
