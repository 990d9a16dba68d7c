-- Where the notes of one kind lead.
use Rattle.std.proofs.Common.{◌≡◌, ℕ, ◌<◌, ◌≤◌, Bool, true, false, cond, max, List, length, inl, inr, refl, sym, ap}
use Rattle.std.proofs.Common.{◌∙◌, arith, Option, Some, None, is_some}
use Rattle.std.specs.Ordering.{nat_cmp, eq_by_cmp}
use Rattle.std.specs.Cmp.{nat_cmp_total}
use Rattle.std.specs.FinMap.{get, insert, from_entries, find, get-insert, get-from_entries, get-retain_keys, same_map}
use Rattle.std.specs.FinMap.{nat_cmp-IsAntisymmetric}
use Rattle.std.proofs.lemmas.Bool.{cases_Bool, cases_lt}
use Rattle.mesh_model.specs.Table.{at, table_of}
use Rattle.mesh_model.proofs.Tables.{at-past, length-table_of, at-table_of, past-table_of, is_table_of, table_of-same}
use Rattle.mesh_model.specs.ChangeSetNotes.{Notes, put_back, led_back, note_between, notes_between, joined_notes}
use Rattle.mesh_model.specs.ChangeSetNotes.{opposite_notes, note_if_changed, trimmed_notes, IsWhole}
use Rattle.mesh_model.proofs.NoteMaps.{key_cases, get-map_of, first_of_two, get-joined, with_value, get-renewed}

-- a test that tells records apart
pub record Tells {R : Type 0} (same : R → R → Bool) : Type 0 where
  pub sound : (x y : R) → same x y ≡ true → x ≡ y
  pub itself : (x : R) → same x x ≡ true

pub same_notes : {R : Type 0} (m n : Notes R) → ((q : ℕ) → get m q ≡ get n q) → m ≡ n
same_notes m n is = same_map nat_cmp_total nat_cmp-IsAntisymmetric m n is

pub length-led_back : {R : Type 0} (next : ℕ) (notes : Notes R) (now : List (Option R))
    → length (led_back next notes now) ≡ next
length-led_back next notes now = length-table_of (λ n. put_back (get notes n) (at now n)) next

-- what stands at a name where the notes lead
pub at-led_back : {R : Type 0} (next : ℕ) (notes : Notes R) (now : List (Option R)) (q : ℕ) → q < next
    → at (led_back next notes now) q ≡ put_back (get notes q) (at now q)
at-led_back next notes now q less = at-table_of (λ n. put_back (get notes n) (at now n)) next q less

pub past-led_back : {R : Type 0} (next : ℕ) (notes : Notes R) (now : List (Option R)) (q : ℕ) → next ≤ q
    → at (led_back next notes now) q ≡ None
past-led_back next notes now q over = past-table_of (λ n. put_back (get notes n) (at now n)) next q over

-- the notes lead to a table that has their next name and, below it, what they put back
pub led_back_to : {R : Type 0} (table : List (Option R)) (notes : Notes R) (now : List (Option R))
    → ((q : ℕ) → q < length table → at table q ≡ put_back (get notes q) (at now q))
    → led_back (length table) notes now ≡ table
led_back_to table notes now is = sym (is_table_of (λ n. put_back (get notes n) (at now n)) table (length table) refl is)

pub led_back_same : {R : Type 0} (next : ℕ) (p q : Notes R) (now later : List (Option R))
    → ((k : ℕ) → k < next → put_back (get p k) (at now k) ≡ put_back (get q k) (at later k))
    → led_back next p now ≡ led_back next q later
led_back_same next p q now later is =
    table_of-same (λ n. put_back (get p n) (at now n)) (λ n. put_back (get q n) (at later n)) next is

-- where notes lead that are given as a list, in a form that computes
pub led_back-entries : {R : Type 0} (next : ℕ) (es : List (ℕ × Option R)) (now : List (Option R))
    → led_back next (from_entries es) now ≡ table_of (λ n. put_back (find nat_cmp n es) (at now n)) next
led_back-entries {R = R} next es now =
    table_of-same (λ n. put_back (get (from_entries es) n) (at now n)) (λ n. put_back (find nat_cmp n es) (at now n))
    next
    (λ n less. ap (λ (o : Option (Option R)). put_back o (at now n)) (get-from_entries nat_cmp_total es n))

-- ---- THE FIRST NOTE

put_back_noted : {R : Type 0} (notes : Notes R) (now : List (Option R)) (k : ℕ) → get notes k ≡ None → (q : ℕ)
    → put_back (get (insert notes k (at now k)) q) (at now q) ≡ put_back (get notes q) (at now q)
put_back_noted {R = R} notes now k none q =
    ap (λ (o : Option (Option R)). put_back o (at now q)) (get-insert nat_cmp_total notes k (at now k) q)
    ∙ elim (key_cases q k) [
      | inl e ↦ here e
      | inr off ↦ ap (λ (b : Bool). put_back (cond b (Some (at now k)) (get notes q)) (at now q)) off.1
    ]
  where
    split : (b : Bool) → at now k ≡ at now q → get notes q ≡ None
        → put_back (cond b (Some (at now k)) (get notes q)) (at now q) ≡ put_back (get notes q) (at now q)
    split true e is = e ∙ ap (λ (o : Option (Option R)). put_back o (at now q)) (sym is)
    split false e is = refl

    here : q ≡ k → put_back (cond (eq_by_cmp nat_cmp q k) (Some (at now k)) (get notes q)) (at now q)
        ≡ put_back (get notes q) (at now q)
    here e = split (eq_by_cmp nat_cmp q k) (ap (λ (n : ℕ). at now n) (sym e)) (ap (λ (n : ℕ). get notes n) e ∙ none)

-- a first note of a name with its record leads to the same
pub first_note : {R : Type 0} (next : ℕ) (notes : Notes R) (now : List (Option R)) (k : ℕ) → get notes k ≡ None
    → led_back next (insert notes k (at now k)) now ≡ led_back next notes now
first_note next notes now k none =
    led_back_same next (insert notes k (at now k)) notes now now (λ q less. put_back_noted notes now k none q)

-- ---- CHANGES AT NOTED NAMES

hides : {R : Type 0} (o : Option (Option R)) (a b : Option R) → (o ≡ None → a ≡ b) → put_back o a ≡ put_back o b
hides None a b f = f refl
hides (Some was) a b f = refl

-- where notes names alone have changed, the entries lead to the same
pub same_base : {R : Type 0} (next : ℕ) (notes : Notes R) (now later : List (Option R))
    → ((q : ℕ) → get notes q ≡ None → at later q ≡ at now q) → led_back next notes later ≡ led_back next notes now
same_base next notes now later same =
    led_back_same next notes notes later now (λ q less. hides (get notes q) (at later q) (at now q) (same q))

pub whole_note : {R : Type 0} (next : ℕ) (notes : Notes R) (now : List (Option R)) (k : ℕ) → get notes k ≡ None
    → IsWhole next notes now → IsWhole next (insert notes k (at now k)) now
whole_note next notes now k none whole q over = put_back_noted notes now k none q ∙ whole q over

pub whole_changed : {R : Type 0} (next : ℕ) (notes : Notes R) (now later : List (Option R))
    → ((q : ℕ) → get notes q ≡ None → at later q ≡ at now q) → IsWhole next notes now → IsWhole next notes later
whole_changed next notes now later same whole q over = hides (get notes q) (at later q) (at now q) (same q)
    ∙ whole q over

-- ---- THE CHANGE SET

pick : {R : Type 0} (b : Bool) (x : R) (y : R) → (b ≡ true → x ≡ y)
    → put_back (cond b None (Some (Some x))) (Some y) ≡ Some x
pick true x y e = ap (λ z. Some z) (sym (e refl))
pick false x y e = refl

put_back-note_between : {R : Type 0} (same : R → R → Bool) → Tells same → (b a : Option R)
    → put_back (note_between same b a) a ≡ b
put_back-note_between same tells None None = refl
put_back-note_between same tells None (Some y) = refl
put_back-note_between same tells (Some x) None = refl
put_back-note_between same tells (Some x) (Some y) = pick (same x y) x y (tells.sound x y)

neither : {R : Type 0} (same : R → R → Bool) (b a : Option R) → b ≡ None → a ≡ None → note_between same b a ≡ None
neither same None None eb ea = refl
neither same None (Some y) eb ea = absurd (cc)
neither same (Some x) a eb ea = absurd (cc)

pub get-notes_between : {R : Type 0} (same : R → R → Bool) (before after : List (Option R)) (q : ℕ)
    → get (notes_between same before after) q ≡ note_between same (at before q) (at after q)
get-notes_between same before after q =
    get-map_of (max (length before) (length after)) (λ n. note_between same (at before n) (at after n))
    (λ k over. neither same (at before k) (at after k) (at-past before k (omega (arith, over)))
    (at-past after k (omega (arith, over)))) q

-- a change set leads back
pub led_back-notes_between : {R : Type 0} (same : R → R → Bool) → Tells same → (before after : List (Option R))
    → led_back (length before) (notes_between same before after) after ≡ before
led_back-notes_between {R = R} same tells before after =
    led_back_to before (notes_between same before after) after
    (λ q less. sym (ap (λ (o : Option (Option R)). put_back o (at after q)) (get-notes_between same before after q)
    ∙ put_back-note_between same tells (at before q) (at after q)))

-- ---- JOINED PASTS

put_back_joined : {R : Type 0} (o p : Option (Option R)) (now : Option R)
    → put_back (first_of_two o p) now ≡ put_back o (put_back p now)
put_back_joined None p now = refl
put_back_joined (Some was) p now = refl

-- joined entries lead where the older ones lead from where the newer ones lead
pub led_back-joined : {R : Type 0} (next between : ℕ) (older newer : Notes R) (now : List (Option R)) → next ≤ between
    → led_back next (joined_notes older newer) now ≡ led_back next older (led_back between newer now)
led_back-joined {R = R} next between older newer now le =
    led_back_same next (joined_notes older newer) older now (led_back between newer now)
    (λ q less. ap (λ (o : Option (Option R)). put_back o (at now q)) (get-joined older newer q)
    ∙ put_back_joined (get older q) (get newer q) (at now q)
    ∙ ap (λ (o : Option R). put_back (get older q) o) (sym (at-led_back between newer now q (omega (arith, less)))))

-- ---- OPPOSITE

false_true : false ≡ true → ⊥
false_true e = cc

pub same_turned : {R : Type 0} (same : R → R → Bool) → Tells same → (x y : R) → same x y ≡ same y x
same_turned {R = R} same tells x y = elim (cases_Bool (same x y)) [
  | inl t ↦ ap (λ (z : R). same z y) (tells.sound x y t) ∙ ap (λ (z : R). same y z) (sym (tells.sound x y t))
  | inr f ↦ elim (cases_Bool (same y x)) [
    | inl u ↦ absurd (false_true (sym f ∙ ap (λ (z : R). same x z) (tells.sound y x u) ∙ tells.itself x))
    | inr g ↦ f ∙ sym g
  ]
]

turn : {R : Type 0} (b c : Bool) (x y : R) → b ≡ c
    → with_value (cond b None (Some (Some x))) (Some (Some y)) ≡ cond c None (Some (Some y))
turn true true x y e = refl
turn true false x y e = absurd (false_true (sym e))
turn false true x y e = absurd (false_true e)
turn false false x y e = refl

turned : {R : Type 0} (same : R → R → Bool) → Tells same → (b a : Option R)
    → with_value (note_between same b a) (Some a) ≡ note_between same a b
turned same tells None None = refl
turned same tells None (Some y) = refl
turned same tells (Some x) None = refl
turned same tells (Some x) (Some y) = turn (same x y) (same y x) x y (same_turned same tells x y)

-- the opposite of a change set is the change set the other way
pub opposite-notes_between : {R : Type 0} (same : R → R → Bool) → Tells same → (before now : List (Option R))
    → opposite_notes (notes_between same before now) now ≡ notes_between same now before
opposite-notes_between {R = R} same tells before now =
    same_notes (opposite_notes (notes_between same before now) now) (notes_between same now before)
    (λ q. get-renewed (λ n. at now n) (notes_between same before now) q
    ∙ ap (λ (o : Option (Option R)). with_value o (Some (at now q))) (get-notes_between same before now q)
    ∙ turned same tells (at before q) (at now q) ∙ sym (get-notes_between same now before q))

-- ---- TRIMMED

keep : {R : Type 0} (same : R → R → Bool) (was now : Option R)
    → cond (is_some (note_between same was now)) (Some was) None ≡ note_between same was now
keep same None None = refl
keep same None (Some y) = refl
keep same (Some x) None = refl
keep same (Some x) (Some y) = kept (same x y)
  where
    kept : (b : Bool) → cond (is_some (cond b None (Some (Some x)))) (Some (Some x)) None ≡ cond b None (Some (Some x))
    kept true = refl
    kept false = refl

keep_noted : {R : Type 0} (same : R → R → Bool) (now : Option R) (o : Option (Option R))
    → cond (is_some (note_if_changed same now o)) o None ≡ note_if_changed same now o
keep_noted same now None = refl
keep_noted same now (Some was) = keep same was now

pub get-trimmed_notes : {R : Type 0} (same : R → R → Bool) (notes : Notes R) (now : List (Option R)) (q : ℕ)
    → get (trimmed_notes same notes now) q ≡ note_if_changed same (at now q) (get notes q)
get-trimmed_notes same notes now q =
    get-retain_keys notes (λ n. is_some (note_if_changed same (at now n) (get notes n))) q
    (λ x tie. ap (λ (n : ℕ). is_some (note_if_changed same (at now n) (get notes n)))
    (sym (nat_cmp-IsAntisymmetric q x tie)))
    ∙ keep_noted same (at now q) (get notes q)

still : {R : Type 0} (same : R → R → Bool) → Tells same → (now : Option R) → note_between same now now ≡ None
still same tells None = refl
still same tells (Some x) = ap (λ (b : Bool). cond b None (Some (Some x))) (tells.itself x)

differs : {R : Type 0} (same : R → R → Bool) → Tells same → (o : Option (Option R)) (now : Option R)
    → note_if_changed same now o ≡ note_between same (put_back o now) now
differs same tells None now = sym (still same tells now)
differs same tells (Some was) now = refl

-- a trimmed past is the change set between where it leads and now
pub trimmed-notes_between : {R : Type 0} (same : R → R → Bool) → Tells same
    → (next : ℕ) (notes : Notes R) (now : List (Option R)) → IsWhole next notes now
    → trimmed_notes same notes now ≡ notes_between same (led_back next notes now) now
trimmed-notes_between {R = R} same tells next notes now whole =
    same_notes (trimmed_notes same notes now) (notes_between same (led_back next notes now) now)
    (λ q. get-trimmed_notes same notes now q ∙ differs same tells (get notes q) (at now q)
    ∙ ap (λ (o : Option R). note_between same o (at now q)) (sym (led q))
    ∙ sym (get-notes_between same (led_back next notes now) now q))
  where
    led : (q : ℕ) → at (led_back next notes now) q ≡ put_back (get notes q) (at now q)
    led q = elim (cases_lt q next) [
      | inl less ↦ at-led_back next notes now q less
      | inr over ↦ past-led_back next notes now q over ∙ sym (whole q over)
    ]

put_back_kept : {R : Type 0} (same : R → R → Bool) → Tells same → (o : Option (Option R)) (now : Option R)
    → put_back (note_if_changed same now o) now ≡ put_back o now
put_back_kept same tells None now = refl
put_back_kept same tells (Some was) now = put_back-note_between same tells was now

-- a trimmed past leads to the same
pub led_back-trimmed : {R : Type 0} (same : R → R → Bool) → Tells same
    → (next : ℕ) (notes : Notes R) (now : List (Option R))
    → led_back next (trimmed_notes same notes now) now ≡ led_back next notes now
led_back-trimmed {R = R} same tells next notes now =
    led_back_same next (trimmed_notes same notes now) notes now now
    (λ q less. ap (λ (o : Option (Option R)). put_back o (at now q)) (get-trimmed_notes same notes now q)
    ∙ put_back_kept same tells (get notes q) (at now q))
