-- Notes whose records are read in another form.
use Rattle.std.proofs.Common.{◌≡◌, ℕ, zero, suc, ◌+◌, ◌≤◌, Bool, true, false, cond, List, [], ◌∷◌, ◌++◌, length, map, take, drop, refl, sym, ap, ◌∙◌, subst, arith, Option, Some, None, is_some, IsSome, ◌&&◌, T, length-drop}
use Rattle.std.specs.Option.{option_map}
use Rattle.std.specs.Ordering.{nat_cmp, eq_by_cmp}
use Rattle.std.specs.Cmp.{nat_cmp_total}
use Rattle.std.specs.FinMap.{get, insert, find, empty, entries, entries_sorted, from_sorted, is_sorted, len, len-entries, entries-from_sorted, get-from_sorted, get-from_entries, get-insert, get-entries, get-empty}
use Rattle.std.specs.FinMap.Entries.{below_all}
use Rattle.std.specs.Ordering.{is_lt}
use Rattle.std.proofs.lemmas.List.{take-append-le, take_all, length-map}
use Rattle.std.proofs.lemmas.Option.{none-some, same_Some}
use Rattle.mesh_model.specs.ChangeSetNotes.{Notes, with_first_note}
use Rattle.mesh_model.proofs.Leads.{same_notes}
use Rattle.mesh_trail.specs.Noted.{map_notes, is_absent, record_in, noted}
use Rattle.mesh_trail.specs.Tree.{IsLeast}

-- a note in another form
abbrev pub read_by : {A B : Type 0} → (A → B) → Option (Option A) → Option (Option B)
read_by f o = option_map (option_map f) o

find-read : {A B : Type 0} (f : A → B) (es : List (ℕ × Option A)) (q : ℕ)
    → find nat_cmp q (map (λ e. (e.0, option_map f e.1)) es) ≡ read_by f (find nat_cmp q es)
find-read f [] q = refl
find-read {A = A} f ((k, v) ∷ es) q = split (eq_by_cmp nat_cmp q k) (find-read f es q)
  where
    split : (b : Bool) → find nat_cmp q (map (λ e. (e.0, option_map f e.1)) es) ≡ read_by f (find nat_cmp q es)
        → cond b (Some (option_map f v)) (find nat_cmp q (map (λ e. (e.0, option_map f e.1)) es))
        ≡ read_by f (cond b (Some v) (find nat_cmp q es))
    split true more = refl
    split false more = more

pub get-map_notes : {A B : Type 0} (f : A → B) (notes : Notes A) (q : ℕ)
    → get (map_notes f notes) q ≡ read_by f (get notes q)
get-map_notes {A = A} f notes q =
    get-from_entries nat_cmp_total (map (λ e. (e.0, option_map f e.1)) (entries notes)) q
    ∙ find-read f (entries notes) q
    ∙ ap (λ (o : Option (Option A)). read_by f o) (sym (get-entries notes q))

pub is_some-map_notes : {A B : Type 0} (f : A → B) (notes : Notes A) (q : ℕ)
    → is_some (get (map_notes f notes) q) ≡ is_some (get notes q)
is_some-map_notes f notes q = ap is_some (get-map_notes f notes q) ∙ kept (get notes q)
  where
    kept : (o : _) → is_some (read_by f o) ≡ is_some o
    kept None = refl
    kept (Some w) = refl

pub is_none : {X : Type 0} (o : Option X) → is_some o ≡ false → o ≡ None
is_none None h = refl
is_none (Some x) h = absurd (cc)

-- a name has no note in one form just where it has none in the other
pub none-map_notes : {A B : Type 0} (f : A → B) (notes : Notes A) (q : ℕ) → get (map_notes f notes) q ≡ None
    → get notes q ≡ None
none-map_notes f notes q none = is_none (get notes q) (sym (is_some-map_notes f notes q) ∙ ap is_some none)

pub map_notes-none : {A B : Type 0} (f : A → B) (notes : Notes A) (q : ℕ) → get notes q ≡ None
    → get (map_notes f notes) q ≡ None
map_notes-none {A = A} f notes q none = get-map_notes f notes q ∙ ap (λ (o : Option (Option A)). read_by f o) none

pub map_notes-empty : {A B : Type 0} (f : A → B) → map_notes f empty ≡ empty
map_notes-empty {A = A} f = same_notes (map_notes f empty) empty
    (λ q. get-map_notes f empty q ∙ ap (λ (o : Option (Option A)). read_by f o) (get-empty nat_cmp q)
    ∙ sym (get-empty nat_cmp q))

agree : {A B : Type 0} (f g : A → B) (o : Option (Option A)) → ((a : A) → o ≡ Some (Some a) → g a ≡ f a)
    → read_by g o ≡ read_by f o
agree f g None h = refl
agree f g (Some None) h = refl
agree {B = B} f g (Some (Some a)) h = ap (λ (b : B). Some (Some b)) (h a refl)

-- two forms that agree on what is noted give the same notes
pub map_notes-same : {A B : Type 0} (f g : A → B) (notes : Notes A)
    → ((q : ℕ) (a : A) → get notes q ≡ Some (Some a) → g a ≡ f a) → map_notes g notes ≡ map_notes f notes
map_notes-same f g notes h = same_notes (map_notes g notes) (map_notes f notes)
    (λ q. get-map_notes g notes q ∙ agree f g (get notes q) (h q) ∙ sym (get-map_notes f notes q))

-- a note more, where the form agrees with the earlier one on what was noted
pub map_notes-insert : {A B : Type 0} (f g : A → B) (notes : Notes A) (k : ℕ) (w : Option A)
    → ((q : ℕ) (a : A) → get notes q ≡ Some (Some a) → g a ≡ f a)
    → map_notes g (insert notes k w) ≡ insert (map_notes f notes) k (option_map g w)
map_notes-insert {A = A} {B = B} f g notes k w h =
    same_notes (map_notes g (insert notes k w)) (insert (map_notes f notes) k (option_map g w))
    (λ q. get-map_notes g (insert notes k w) q
    ∙ ap (λ (o : Option (Option A)). read_by g o) (get-insert nat_cmp_total notes k w q)
    ∙ split q (eq_by_cmp nat_cmp q k) ∙ sym (get-insert nat_cmp_total (map_notes f notes) k (option_map g w) q))
  where
    split : (q : ℕ) (b : Bool) → read_by g (cond b (Some w) (get notes q))
        ≡ cond b (Some (option_map g w)) (get (map_notes f notes) q)
    split q true = refl
    split q false = agree f g (get notes q) (h q) ∙ sym (get-map_notes f notes q)

twice : {A B C : Type 0} (f : A → B) (g : B → C) (o : Option (Option A))
    → read_by g (read_by f o) ≡ read_by (λ a. g (f a)) o
twice f g None = refl
twice f g (Some None) = refl
twice f g (Some (Some a)) = refl

-- one form after another
pub map_notes-twice : {A B C : Type 0} (f : A → B) (g : B → C) (notes : Notes A)
    → map_notes g (map_notes f notes) ≡ map_notes (λ a. g (f a)) notes
map_notes-twice {A = A} {B = B} f g notes =
    same_notes (map_notes g (map_notes f notes)) (map_notes (λ a. g (f a)) notes)
    (λ q. get-map_notes g (map_notes f notes) q ∙ ap (λ (o : Option (Option B)). read_by g o) (get-map_notes f notes q)
    ∙ twice f g (get notes q) ∙ sym (get-map_notes (λ a. g (f a)) notes q))

-- the first note at a name without one
pub first_at_none : {R : Type 0} (notes : Notes R) (k : ℕ) (w : Option R) → get notes k ≡ None
    → with_first_note notes k w ≡ insert notes k w
first_at_none {R = R} notes k w none = ap (λ (o : Option (Option R)). cond (is_some o) notes (insert notes k w)) none

-- and where there is one
pub first_at_some : {R : Type 0} (notes : Notes R) (k : ℕ) (w : Option R) → is_some (get notes k) ≡ true
    → with_first_note notes k w ≡ notes
first_at_some notes k w some = ap (λ (b : Bool). cond b notes (insert notes k w)) some

-- a note of the map with a note more
pub note_inserted : {R : Type 0} {P : R → Type 0} (notes : Notes R) (k : ℕ) (w : Option R)
    → ((a : R) → w ≡ Some a → P a) → ((q : ℕ) (a : R) → get notes q ≡ Some (Some a) → P a)
    → (q : ℕ) (a : R) → get (insert notes k w) q ≡ Some (Some a) → P a
note_inserted {R = R} {P = P} notes k w new old q a at_q =
    split (eq_by_cmp nat_cmp q k) (sym (get-insert nat_cmp_total notes k w q) ∙ at_q)
  where
    split : (b : Bool) → cond b (Some w) (get notes q) ≡ Some (Some a) → P a
    split true is = new a (same_Some w (Some a) is)
    split false is = old q a is

-- ---- PARTS OF A LIST THAT GROWS

pub drop_within : {X : Type 0} (n : ℕ) (xs ys : List X) → n ≤ length xs → drop n (xs ++ ys) ≡ drop n xs ++ ys
drop_within zero xs ys le = refl
drop_within (suc n) [] ys le = absurd (omega arith)
drop_within (suc n) (x ∷ xs) ys le = drop_within n xs ys (omega arith)

-- a part stays where the list grows behind it
pub part_kept : {X : Type 0} (from count : ℕ) (xs ys : List X) → from + count ≤ length xs
    → take count (drop from (xs ++ ys)) ≡ take count (drop from xs)
part_kept {X = X} from count xs ys le =
    ap (λ (zs : List X). take count zs) (drop_within from xs ys (omega arith))
    ∙ take-append-le count (drop from xs) ys (let cut = length-drop from xs in omega arith)

-- the part that was put at the end
pub part_new : {X : Type 0} (from count : ℕ) (xs ys : List X) → from ≡ length xs → count ≡ length ys
    → take count (drop from (xs ++ ys)) ≡ ys
part_new {X = X} from count xs ys start long =
    ap (λ (n : ℕ). take count (drop n (xs ++ ys))) start ∙ ap (λ (zs : List X). take count zs) (drop-all xs)
    ∙ take_all count ys (omega arith)
  where
    drop-all : (zs : List X) → drop (length zs) (zs ++ ys) ≡ ys
    drop-all [] = refl
    drop-all (z ∷ zs) = drop-all zs

-- the least name of the notes in another form
pub least-map_notes : {A B : Type 0} (f : A → B) (notes : Notes A) (least : ℕ) (o : Option ℕ) → IsLeast notes least o
    → IsLeast (map_notes f notes) least o
least-map_notes f notes least None h = λ q from. map_notes-none f notes q (h q from)
least-map_notes f notes least (Some name) h = record {
  from = h.from;
  there = is_some-map_notes f notes name ∙ h.there;
  first = λ q from below. map_notes-none f notes q (h.first q from below);
}

-- ---- HOW MANY

below_all-read : {A B : Type 0} (f : A → B) (n : ℕ) (es : List (ℕ × Option A))
    → below_all nat_cmp n (map (λ e. (e.0, option_map f e.1)) es) ≡ below_all nat_cmp n es
below_all-read f n [] = refl
below_all-read f n (e ∷ es) = ap (λ (b : Bool). is_lt (nat_cmp n e.0) && b) (below_all-read f n es)

is_sorted-read : {A B : Type 0} (f : A → B) (es : List (ℕ × Option A))
    → is_sorted nat_cmp (map (λ e. (e.0, option_map f e.1)) es) ≡ is_sorted nat_cmp es
is_sorted-read f [] = refl
is_sorted-read {A = A} f (e ∷ es) =
    ap (λ (b : Bool). b && is_sorted nat_cmp (map (λ e. (e.0, option_map f e.1)) es)) (below_all-read f e.0 es)
    ∙ ap (λ (b : Bool). below_all nat_cmp e.0 es && b) (is_sorted-read f es)

-- as many notes in one form as in the other
pub len-map_notes : {A B : Type 0} (f : A → B) (notes : Notes A) → len (map_notes f notes) ≡ len notes
len-map_notes {A = A} {B = B} f notes =
    let es : List (ℕ × Option B) = map (λ e. (e.0, option_map f e.1)) (entries notes) in
    let sorted : T (is_sorted nat_cmp es) = subst T (sym (is_sorted-read f (entries notes))) (entries_sorted notes) in
    let same : map_notes f notes ≡ from_sorted {R = nat_cmp} es =
    same_notes (map_notes f notes) (from_sorted {R = nat_cmp} es)
    (λ q. get-from_entries nat_cmp_total es q ∙ sym (get-from_sorted nat_cmp es q sorted)) in
    ap len same ∙ len-entries (from_sorted {R = nat_cmp} es) ∙ ap length (entries-from_sorted nat_cmp es sorted)
    ∙ length-map (entries notes) (λ e. (e.0, option_map f e.1)) ∙ sym (len-entries notes)

-- a note that nothing stood there is one in each form
pub absent-map_notes : {A B : Type 0} (f : A → B) (notes : Notes A) (q : ℕ)
    → is_absent (get (map_notes f notes) q) ≡ is_absent (get notes q)
absent-map_notes f notes q = ap is_absent (get-map_notes f notes q) ∙ kept (get notes q)
  where
    kept : (o : _) → is_absent (read_by f o) ≡ is_absent o
    kept None = refl
    kept (Some None) = refl
    kept (Some (Some a)) = refl

-- the record of a note in another form
pub noted-map_notes : {A B : Type 0} (f : A → B) (notes : Notes A) (q : ℕ)
    → noted (map_notes f notes) q ≡ option_map f (noted notes q)
noted-map_notes f notes q = ap record_in (get-map_notes f notes q) ∙ kept (get notes q)
  where
    kept : (o : _) → record_in (read_by f o) ≡ option_map f (record_in o)
    kept None = refl
    kept (Some None) = refl
    kept (Some (Some a)) = refl

-- a name has a record in one form where it has one in the other
pub some-map_notes : {A B : Type 0} (f : A → B) (notes : Notes A) (q : ℕ) → IsSome (noted (map_notes f notes) q)
    → IsSome (noted notes q)
some-map_notes f notes q some = kept (noted notes q) (rw (noted-map_notes f notes q) at some)
  where
    kept : (o : _) → IsSome (option_map f o) → IsSome o
    kept None h = h
    kept (Some a) h = refl

-- what is read of a record in another form
pub mapped-map_notes : {A B C : Type 0} (f : A → B) (g : B → C) (notes : Notes A) (q : ℕ) (o : Option C)
    → option_map (λ a. g (f a)) (noted notes q) ≡ o → option_map g (noted (map_notes f notes) q) ≡ o
mapped-map_notes {B = B} f g notes q o is =
    ap (λ (x : Option B). option_map g x) (noted-map_notes f notes q) ∙ both (noted notes q) ∙ is
  where
    both : (x : _) → option_map g (option_map f x) ≡ option_map (λ a. g (f a)) x
    both None = refl
    both (Some a) = refl

-- a name without a note has none
pub none_not : {X : Type 0} {P : Type 0} (o : Option X) → o ≡ None → IsSome o → P
none_not None none some = absurd (cc)
none_not (Some x) none some = absurd (cc)

-- a record that is noted
pub noted_is : {R : Type 0} (notes : Notes R) (q : ℕ) (r : R) → noted notes q ≡ Some r → get notes q ≡ Some (Some r)
noted_is {R = R} notes q r is = go (get notes q) is
  where
    go : (o : Option (Option R)) → record_in o ≡ Some r → o ≡ Some (Some r)
    go None is = absurd (none-some r is)
    go (Some w) is = ap (λ (x : Option R). Some x) is

-- what is read of what was read
pub mapped_as : {A B C : Type 0} (f : A → B) (g : B → C) (o : Option A) (b : B) → option_map f o ≡ Some b
    → option_map (λ a. g (f a)) o ≡ Some (g b)
mapped_as f g None b is = absurd (none-some b is)
mapped_as {B = B} {C = C} f g (Some a) b is = ap (λ (x : B). Some (g x)) (same_Some (f a) b is)

pub mapped_none : {A B : Type 0} {P : Type 0} (f : A → B) (o : Option A) → option_map f o ≡ None → IsSome o → P
mapped_none f None is some = absurd (cc)
mapped_none f (Some a) is some = absurd (none-some (f a) (sym is))
