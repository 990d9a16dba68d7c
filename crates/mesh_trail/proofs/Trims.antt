-- The loop that leaves out what hasn't note_between.
use Rattle.std.proofs.Common.{◌≡◌, ◌≢◌, ℕ, ◌+◌, ◌<◌, ◌≤◌, Bool, true, false, cond, List, [], ◌∷◌, ◌++◌, length, take, inl, inr, refl, sym, ap, ◌∙◌, arith, Option, Some, None, is_some, IfSome}
use Rattle.std.specs.Prelude.{slice_get}
use Rattle.std.specs.List.{filter}
use Rattle.std.specs.Option.{option_map}
use Rattle.std.specs.Ordering.{nat_cmp}
use Rattle.std.specs.Cmp.{nat_cmp_total}
use Rattle.std.specs.FinMap.{get, find, get-from_entries}
use Rattle.std.specs.List.Sorted.{IsPermutation, IsNonDecreasingBy}
use Rattle.std.proofs.lemmas.Bool.{cases_Bool, cases_lt}
use Rattle.std.proofs.lemmas.List.{take_more}
use Rattle.std.proofs.lemmas.List.Elements.{filter-append}
use Rattle.std.proofs.lemmas.Option.{slice_get_within, slice_get-map, get_or_from_slice_get, none-some, same_Some}
use Rattle.mesh_model.specs.Table.{at}
use Rattle.mesh_trail.specs.declared.note_map.Entry.{Entry}
use Rattle.mesh_model.specs.ChangeSetNotes.{Notes, note_between, note_if_changed, trimmed_notes}
use Rattle.mesh_trail.specs.Noted.{map_notes}
use Rattle.mesh_trail.specs.Kept.{IsTrimmed}
use Rattle.mesh_trail.proofs.MapNotes.{read_by, get-map_notes}
use Rattle.mesh_trail.specs.Tree.{pair_of, pairs, names_of, IsTree}
use Rattle.mesh_model.proofs.Leads.{Tells, same_notes, get-trimmed_notes}
use Rattle.mesh_trail.proofs.Growth.{AreApart, find_at, get-append_left, get-append_here}
use Rattle.mesh_trail.proofs.Rising.{paired, pairs-append, kept_rises}
use Rattle.mesh_trail.proofs.Sorting.{filtered, find-filtered, permuted_apart, permuted_names}

pub record IsTrimming {R : Type 0} (p : ℕ → Option R → Bool) (sorted es : List (Entry R)) (kept k : ℕ) : Type 0 where
  pub long : length es ≡ length sorted
  pub behind : kept ≤ k
  pub tree : IsTree (take kept es)
  pub rest : (i : ℕ) → k ≤ i → slice_get es i ≡ slice_get sorted i
  pub apart : (j i : ℕ) (d e : Entry R) → slice_get (take kept es) j ≡ Some d → slice_get sorted i ≡ Some e → k ≤ i
      → d.name ≢ e.name
  pub done : pairs (take kept es) ≡ filter (λ x. p x.0 x.1) (pairs (take k sorted))

none_in : {R : Type 0} {P : Type 0} (es : List (Entry R)) (j : ℕ) (d : Entry R) → slice_get (take 0 es) j ≡ Some d → P
none_in es j d at_j = let less = slice_get_within (take 0 es) j d at_j in absurd (omega arith)

pub trim_start : {R : Type 0} (p : ℕ → Option R → Bool) (sorted : List (Entry R)) → IsTrimming p sorted sorted 0 0
trim_start p sorted = record {
  long = refl;
  behind = omega arith;
  tree = record {
    up = λ i b linked. absurd (linked refl);
    reached = λ j e at_j. none_in sorted j e at_j;
    apart = λ j k d e at_j at_k same. none_in sorted j d at_j;
  };
  rest = λ i over. refl;
  apart = λ j i d e at_j at_i over. none_in sorted j d at_j;
  done = refl;
}

-- one entry more of the sorted list
more_pairs : {R : Type 0} (sorted : List (Entry R)) (k : ℕ) (e : Entry R) → slice_get sorted k ≡ Some e
    → pairs (take (k + 1) sorted) ≡ pairs (take k sorted) ++ (e.name, e.was) ∷ []
more_pairs {R = R} sorted k e at_k =
    ap (λ (xs : List (Entry R)). pairs xs) (take_more sorted k e (slice_get_within sorted k e at_k)
    ∙ ap (λ (x : Entry R). take k sorted ++ x ∷ []) (get_or_from_slice_get sorted k e e at_k))
    ∙ pairs-append (take k sorted) e

one_filtered : {R : Type 0} (p : ℕ → Option R → Bool) (ps : List (ℕ × Option R)) (n : ℕ) (w : Option R) (b : Bool)
    → p n w ≡ b → filter (λ x. p x.0 x.1) (ps ++ (n, w) ∷ []) ≡ filter (λ x. p x.0 x.1) ps ++ cond b ((n, w) ∷ []) []
one_filtered {R = R} p ps n w b is = filter-append (λ x. p x.0 x.1) ps ((n, w) ∷ [])
    ∙ ap (λ (c : Bool). filter (λ x. p x.0 x.1) ps ++ cond c ((n, w) ∷ []) []) is

append_none : {X : Type 0} (xs : List X) → xs ++ [] ≡ xs
append_none [] = refl
append_none {X = X} (x ∷ xs) = ap (λ (ys : List X). x ∷ ys) (append_none xs)

pub trim_skip : {R : Type 0} (p : ℕ → Option R → Bool) (sorted es : List (Entry R)) (kept k : ℕ) (e : Entry R)
    → slice_get es k ≡ Some e → p e.name e.was ≡ false → IsTrimming p sorted es kept k
    → IsTrimming p sorted es kept (k + 1)
trim_skip {R = R} p sorted es kept k e at_k out h =
    let in_sorted : slice_get sorted k ≡ Some e = sym (h.rest k (omega arith)) ∙ at_k in
    record {
      long = h.long;
      behind = let b = h.behind in omega arith;
      tree = h.tree;
      rest = λ i over. h.rest i (omega arith);
      apart = λ j i d f at_j at_i over. h.apart j i d f at_j at_i (omega arith);
      done = h.done ∙ sym (ap (λ (ps : List (ℕ × Option R)). filter (λ x. p x.0 x.1) ps)
          (more_pairs sorted k e in_sorted) ∙ one_filtered p (pairs (take k sorted)) e.name e.was false out
          ∙ append_none (filter (λ x. p x.0 x.1) (pairs (take k sorted))));
    }

pub trim_keep : {R : Type 0} (p : ℕ → Option R → Bool) (sorted es later : List (Entry R)) (kept k : ℕ) (e : Entry R)
    → AreApart sorted → slice_get es k ≡ Some e → p e.name e.was ≡ true → IsTrimming p sorted es kept k
    → length later ≡ length es → IsTree (take (kept + 1) later)
    → pairs (take (kept + 1) later) ≡ pairs (take kept es) ++ (e.name, e.was) ∷ []
    → ((i : ℕ) → kept < i → slice_get later i ≡ slice_get es i)
    → IsTrimming p sorted later (kept + 1) (k + 1)
trim_keep {R = R} p sorted es later kept k e distinct at_k stays h long tree more rest =
    let in_sorted : slice_get sorted k ≡ Some e = sym (h.rest k (omega arith)) ∙ at_k in
    record {
      long = long ∙ h.long;
      behind = let b = h.behind in omega arith;
      tree = tree;
      rest = λ i over. (let b = h.behind in rest i (omega arith) ∙ h.rest i (omega arith));
      apart = λ j i d f at_j at_i over same. go in_sorted j i d f at_j at_i over same;
      done = more ∙ ap (λ (ps : List (ℕ × Option R)). ps ++ (e.name, e.was) ∷ []) h.done
          ∙ sym (ap (λ (ps : List (ℕ × Option R)). filter (λ x. p x.0 x.1) ps) (more_pairs sorted k e in_sorted)
          ∙ one_filtered p (pairs (take k sorted)) e.name e.was true stays);
    }
  where
    go : slice_get sorted k ≡ Some e → (j i : ℕ) (d f : Entry R) → slice_get (take (kept + 1) later) j ≡ Some d
        → slice_get sorted i ≡ Some f → k + 1 ≤ i → d.name ≡ f.name → ⊥
    go in_sorted j i d f at_j at_i over same =
        let old : List (ℕ × Option R) = pairs (take kept es) in
        let pair_is : slice_get (old ++ (e.name, e.was) ∷ []) j ≡ Some (pair_of d) =
        ap (λ (ps : List (ℕ × Option R)). slice_get ps j) (sym more) ∙ slice_get-map pair_of (take (kept + 1) later) j
        ∙ ap (λ (o : Option (Entry R)). option_map pair_of o) at_j in
        elim (cases_lt j (length old)) [
          | inl less ↦ (let it = paired (slice_get (take kept es) j) (pair_of d)
              (sym (slice_get-map pair_of (take kept es) j) ∙ sym (get-append_left old ((e.name, e.was) ∷ []) j less)
              ∙ pair_is) in
              h.apart j i it.0 f it.1 at_i (omega arith) (it.2 ∙ same))
          | inr past ↦ (let within = slice_get_within (old ++ (e.name, e.was) ∷ []) j (pair_of d) pair_is in
              let last : j ≡ length old = omega (arith, length-one old) in
              let is : d.name ≡ e.name = ap (λ (y : ℕ × Option R). y.0)
              (sym (same_Some (e.name, e.was) (pair_of d)
              (sym (get-append_here old (e.name, e.was)) ∙ ap (slice_get (old ++ (e.name, e.was) ∷ [])) (sym last)
              ∙ pair_is))) in
              let one = distinct i k f e at_i in_sorted (sym same ∙ is) in absurd (omega arith))
        ]
      where
        length-one : (ps : List (ℕ × Option R)) → length (ps ++ (e.name, e.was) ∷ []) ≡ length ps + 1
        length-one [] = refl
        length-one (x ∷ ps) = let more = length-one ps in omega arith

take_whole : {X : Type 0} (xs : List X) → take (length xs) xs ≡ xs
take_whole [] = refl
take_whole {X = X} (x ∷ xs) = ap (λ (ys : List X). x ∷ ys) (take_whole xs)

-- ---- THE RESULT

-- a test of notes: whether a note differs from what stands now, where records are read in some form
abbrev pub differs_by : {A R : Type 0} → (A → R) → (R → R → Bool) → List (Option R) → ℕ → Option A → Bool
differs_by read same now n w = is_some (note_between same (option_map read w) (at now n))

pub kept_if : {R : Type 0} (same : R → R → Bool) (w now : Option R)
    → cond (is_some (note_between same w now)) (Some w) None ≡ note_between same w now
kept_if same None None = refl
kept_if same None (Some y) = refl
kept_if same (Some x) None = refl
kept_if same (Some x) (Some y) = kept (same x y)
  where
    kept : (b : Bool) → cond (is_some (cond b None (Some (Some x)))) (Some (Some x)) None ≡ cond b None (Some (Some x))
    kept true = refl
    kept false = refl

left_out : {A R : Type 0} (read : A → R) (b : Bool) (w : Option A)
    → read_by read (cond b (Some w) None) ≡ cond b (Some (option_map read w)) None
left_out read true w = refl
left_out read false w = refl

only : {A R : Type 0} (read : A → R) (same : R → R → Bool) (now : List (Option R)) (q : ℕ) (o : Option (Option A))
    → read_by read (filtered (differs_by read same now) q o) ≡ note_if_changed same (at now q) (read_by read o)
only read same now q None = refl
only read same now q (Some w) = left_out read (differs_by read same now q w) w
    ∙ kept_if same (option_map read w) (at now q)

unfiltered : {A : Type 0} (p : ℕ → Option A → Bool) (q : ℕ) (o : Option (Option A)) (x : Option A)
    → filtered p q o ≡ Some x → o ≡ Some x
unfiltered p q None x is = is
unfiltered {A = A} p q (Some w) x is = pick (p q w) is
  where
    pick : (b : Bool) → cond b (Some w) None ≡ Some x → Some w ≡ Some x
    pick true is = is
    pick false is = absurd (none-some x is)

get-kept : {A : Type 0} (p : ℕ → Option A → Bool) (sorted es : List (Entry A)) (kept : ℕ) → AreApart sorted
    → IsTrimming p sorted es kept (length sorted) → (q : ℕ)
    → get (names_of (take kept es)) q ≡ filtered p q (get (names_of sorted) q)
get-kept {A = A} p sorted es kept distinct h q =
    get-from_entries nat_cmp_total (pairs (take kept es)) q
    ∙ ap (λ (ps : List (ℕ × Option A)). find nat_cmp q ps) (h.done
    ∙ ap (λ (xs : List (Entry A)). filter (λ x. p x.0 x.1) (pairs xs)) (take_whole sorted))
    ∙ find-filtered p sorted q distinct
    ∙ ap (λ (o : Option (Option A)). filtered p q o) (sym (get-from_entries nat_cmp_total (pairs sorted) q))

trim_end : {A R : Type 0} (read : A → R) (same : R → R → Bool) (now : List (Option R)) (sorted es : List (Entry A))
    (kept : ℕ) → AreApart sorted → IsTrimming (differs_by read same now) sorted es kept (length sorted)
    → IsTrimmed read same now (names_of sorted) (names_of (take kept es))
trim_end {A = A} {R = R} read same now sorted es kept distinct h = record {
  notes = same_notes (map_notes read (names_of (take kept es)))
      (trimmed_notes same (map_notes read (names_of sorted)) now)
      (λ q. get-map_notes read (names_of (take kept es)) q
      ∙ ap (λ (o : Option (Option A)). read_by read o) (get-kept (differs_by read same now) sorted es kept distinct
      h q)
      ∙ only read same now q (get (names_of sorted) q)
      ∙ sym (get-trimmed_notes same (map_notes read (names_of sorted)) now q
      ∙ ap (λ (o : Option (Option R)). note_if_changed same (at now q) o)
      (get-map_notes read (names_of sorted) q)));
  left = λ q a at_q. unfiltered (differs_by read same now) q (get (names_of sorted) q) (Some a)
      (sym (get-kept (differs_by read same now) sorted es kept distinct h q) ∙ at_q);
}

-- the entries before were these in another order, and the entries that are left are the front
pub trimmed_whole : {A R : Type 0} (read : A → R) (same : R → R → Bool) (now : List (Option R))
    (before es sorted after : List (Entry A)) (kept k : ℕ) → IsPermutation before sorted → AreApart before
    → k ≡ length sorted
    → IsTrimming (differs_by read same now) sorted es kept k → after ≡ take kept es
    → IsTrimmed read same now (names_of before) (names_of after)
trimmed_whole {A = A} read same now before es sorted after kept k moved apart end h front =
    let distinct = permuted_apart before sorted moved apart in
    rw (front, ← permuted_names before sorted moved apart) (trim_end read same now sorted es kept distinct
    (rw end at h))

-- the names that are left rise
pub trimmed_rises : {A R : Type 0} (read : A → R) (same : R → R → Bool) (now : List (Option R))
    (es sorted after : List (Entry A)) (kept k : ℕ) → IsNonDecreasingBy (λ e. e.name) sorted → k ≡ length sorted
    → IsTrimming (differs_by read same now) sorted es kept k → after ≡ take kept es
    → IsNonDecreasingBy (λ x. x.0) (pairs after)
trimmed_rises {A = A} read same now es sorted after kept k rises end h front =
    kept_rises (differs_by read same now) sorted (pairs after) rises
    (ap (λ (xs : List (Entry A)). pairs xs) front ∙ h.done
    ∙ ap (λ (xs : List (Entry A)). filter (λ x. differs_by read same now x.0 x.1) (pairs xs))
    (ap (λ (n : ℕ). take n sorted) end ∙ take_whole sorted))

-- what an entry of the sorted list notes was noted before
pub noted_before : {A : Type 0} (before sorted : List (Entry A)) (k : ℕ) (e : Entry A) → IsPermutation before sorted
    → AreApart before → slice_get sorted k ≡ Some e → get (names_of before) e.name ≡ Some e.was
noted_before {A = A} before sorted k e moved apart at_k =
    ap (λ (m : Notes A). get m e.name) (sym (permuted_names before sorted moved apart))
    ∙ get-from_entries nat_cmp_total (pairs sorted) e.name
    ∙ find_at sorted k e (permuted_apart before sorted moved apart) at_k

-- a condition on a record that may be there
pub if_there : {A : Type 0} {P : A → Type 0} (o : Option A) → ((a : A) → o ≡ Some a → P a) → IfSome o P
if_there None h = tt
if_there (Some a) h = h a refl

-- ---- TELLING A DIFFERENCE

pub absent_differs : {R : Type 0} (same : R → R → Bool) (o : Option R) → is_some o ≡ is_some (note_between same None o)
absent_differs same None = refl
absent_differs same (Some r) = refl

-- an answer tells whether a record differs, if it is no just where the record stands there
pub told : {R : Type 0} (same : R → R → Bool) → Tells same → (r : R) (o : Option R) (b : Bool)
    → (b ≡ true → o ≡ Some r → ⊥) → (b ≡ false → o ≡ Some r) → b ≡ is_some (note_between same (Some r) o)
told same tells r None true so else_so = refl
told same tells r None false so else_so = absurd (none-some r (else_so refl))
told {R = R} same tells r (Some s) true so else_so = elim (cases_Bool (same r s)) [
  | inl t ↦ absurd (so refl (ap (λ (x : R). Some x) (sym (tells.sound r s t))))
  | inr f ↦ sym (ap (λ (b : Bool). is_some (cond b None (Some (Some r)))) f)
]
told {R = R} same tells r (Some s) false so else_so =
    let is : s ≡ r = same_Some s r (else_so refl) in
    sym (ap (λ (x : R). is_some (cond (same r x) None (Some (Some r)))) is
    ∙ ap (λ (b : Bool). is_some (cond b None (Some (Some r)))) (tells.itself r))
