-- What is read in a walk: the first name from a number on, and the corners of a face one after another.
use Rattle.std.proofs.Common.{◌≡◌, ℕ, zero, suc, ◌+◌, ◌-◌, ◌*◌, ◌<◌, ◌≤◌, Bool, true, false, cond, List, [], ◌∷◌, ◌++◌}
use Rattle.std.proofs.Common.{length, get_or, set, map, take, drop, refl, sym, ap, subst, ◌∙◌, append_assoc, arith}
use Rattle.std.proofs.Common.{Option, Some, None, is_some}
use Rattle.std.specs.List.{All, position, position_from, slice_get, flat_map}
use Rattle.std.specs.Option.{option_map}
use borrow.Rule.Slice.PartMut.{put_mid}
use Rattle.std.proofs.lemmas.Iterator.Adapters.{position_from-zero}
use Rattle.std.proofs.lemmas.Option.{slice_get_within, get_or_from_slice_get}
use Rattle.std.proofs.lemmas.List.{get_or-drop, length-drop, length-take, length-append, take_more, take_more_set}
use Rattle.std.proofs.lemmas.List.{map-append, take-append-drop, append-nil, take_at}
use Rattle.std.proofs.lemmas.List.Concat.{flat_map-append}
use Rattle.std.proofs.lemmas.List.Elements.{All-head, All-tail}
use Rattle.std.proofs.Math.Nat.{suc-mul, zero-mul}
use Rattle.mesh_model.specs.Table.{at, IsThere, least_from}
use Rattle.mesh_model.specs.Complex.{Complex, corners_of, width}
use Rattle.mesh_model.specs.Valid.{IsLinked}
use Rattle.mesh_model.specs.declared.names.Kind.TheVariants.{Corners}
use Rattle.mesh_model.specs.declared.records.CornerRec.{CornerRec}
use Rattle.mesh_model.proofs.Tables.{stands}

-- ---- THE FIRST NAME FROM A NUMBER ON

first_at : {X : Type 0} (p : X → Bool) (i : ℕ) (xs : List X) (j : ℕ) (d : X) → j < length xs → p (get_or xs j d) ≡ true
    → ((k : ℕ) → k < j → p (get_or xs k d) ≡ false) → position_from p i xs ≡ Some (i + j)
first_at p i [] j d less here before = absurd (omega arith)
first_at p i (x ∷ xs) zero d less here before = ap (λ (b : Bool). cond b (Some i) (position_from p (i + 1) xs)) here
    ∙ ap (λ (n : ℕ). Some n) (omega arith)
first_at p i (x ∷ xs) (suc j) d less here before =
    ap (λ (b : Bool). cond b (Some i) (position_from p (i + 1) xs)) (before 0 (omega arith))
    ∙ first_at p (i + 1) xs j d (omega arith) here (λ k under. before (suc k) (omega arith))
    ∙ ap (λ (n : ℕ). Some n) (omega arith)

pub none_at : {X : Type 0} (p : X → Bool) (i : ℕ) (xs : List X) (d : X)
    → ((k : ℕ) → k < length xs → p (get_or xs k d) ≡ false) → position_from p i xs ≡ None
none_at p i [] d none = refl
none_at p i (x ∷ xs) d none = ap (λ (b : Bool). cond b (Some i) (position_from p (i + 1) xs)) (none 0 (omega arith))
    ∙ none_at p (i + 1) xs d (λ k less. none (suc k) (omega arith))

-- something stands at a name, and nothing between
pub least_from-found : {X : Type 0} (table : List (Option X)) (least name : ℕ) → least ≤ name → name < length table
    → is_some (at table name) ≡ true → ((n : ℕ) → least ≤ n → n < name → is_some (at table n) ≡ false)
    → least_from table least ≡ Some name
least_from-found table least name from less here before =
    let rest = drop least table in
    let there : (k : ℕ) → at rest k ≡ at table (least + k) = λ k. get_or-drop least table k None in
    let gap : least + (name - least) ≡ name = omega arith in
    let found : position is_some rest ≡ Some (name - least) = position_from-zero is_some rest
    ∙ first_at is_some 0 rest (name - least) None (omega (arith, length-drop least table))
    (ap is_some (there (name - least) ∙ ap (λ (n : ℕ). at table n) gap) ∙ here)
    (λ k under. ap is_some (there k) ∙ before (least + k) (omega arith) (omega arith))
    ∙ ap (λ (n : ℕ). Some n) (omega arith) in
    ap (option_map (λ (k : ℕ). least + k)) found ∙ ap (λ (n : ℕ). Some n) gap

-- nothing stands from a number on
pub least_from-none : {X : Type 0} (table : List (Option X)) (least : ℕ)
    → ((n : ℕ) → least ≤ n → n < length table → is_some (at table n) ≡ false) → least_from table least ≡ None
least_from-none table least none =
    let rest = drop least table in
    ap (option_map (λ (k : ℕ). least + k)) (position_from-zero is_some rest ∙ none_at is_some 0 rest None
    (λ k less. ap is_some (get_or-drop least table k None)
    ∙ none (least + k) (omega arith) (omega (arith, length-drop least table))))

-- ---- ONE AFTER ANOTHER

pub take_more_get : {X : Type 0} (xs : List X) (i : ℕ) (x : X) → slice_get xs i ≡ Some x
    → take (i + 1) xs ≡ take i xs ++ x ∷ []
take_more_get {X = X} xs i x h = take_more xs i x (slice_get_within xs i x h)
    ∙ ap (λ (y : X). take i xs ++ y ∷ []) (get_or_from_slice_get xs i x x h)

-- what was read of an element
read_of : {X Y : Type 0} (f : X → Y) (o : Option X) (y : Y) → option_map f o ≡ Some y
    → (x : X) × (o ≡ Some x) × (f x ≡ y)
read_of f None y h = absurd (cc)
read_of f (Some x) y h = (x, refl, cc)

-- a list into which what is read of each element is written
pub written-more : {X Y : Type 0} (f : X → Y) (xs : List X) (into : List Y) (i : ℕ) (y : Y)
    → take i into ≡ map f (take i xs) → option_map f (slice_get xs i) ≡ Some y → i < length into
    → take (i + 1) (set into i y) ≡ map f (take (i + 1) xs)
written-more {Y = Y} f xs into i y before read less =
    let it = read_of f (slice_get xs i) y read in
    take_more_set into i y less ∙ ap (λ (ys : List Y). ys ++ y ∷ []) before
    ∙ ap (λ (z : Y). map f (take i xs) ++ z ∷ []) (sym it.2)
    ∙ sym (map-append f (take i xs) (it.0 ∷ [])) ∙ ap (map f) (sym (take_more_get xs i it.0 it.1))

-- a piece of each element
pub pieces-more : {X Y : Type 0} (f : X → List Y) (xs : List X) (i : ℕ) (ys : List Y)
    → option_map f (slice_get xs i) ≡ Some ys → flat_map f (take (i + 1) xs) ≡ flat_map f (take i xs) ++ ys
pieces-more {Y = Y} f xs i ys read =
    let it = read_of f (slice_get xs i) ys read in
    ap (flat_map f) (take_more_get xs i it.0 it.1) ∙ flat_map-append f (take i xs) (it.0 ∷ [])
    ∙ ap (λ (zs : List Y). flat_map f (take i xs) ++ zs) (append-nil (f it.0) ∙ it.2)

-- the pieces so far and the next one are within the whole
pub pieces-within : {X Y : Type 0} (f : X → List Y) (xs : List X) (i : ℕ) (ys : List Y)
    → option_map f (slice_get xs i) ≡ Some ys → length (flat_map f (take i xs)) + length ys ≤ length (flat_map f xs)
pieces-within f xs i ys read =
    let whole : flat_map f xs ≡ flat_map f (take (i + 1) xs) ++ flat_map f (drop (i + 1) xs) =
    ap (flat_map f) (sym (take-append-drop (i + 1) xs)) ∙ flat_map-append f (take (i + 1) xs) (drop (i + 1) xs) in
    omega (
      arith,
      ap length whole,
      length-append (flat_map f (take (i + 1) xs)) (flat_map f (drop (i + 1) xs)),
      ap length (pieces-more f xs i ys read),
      length-append (flat_map f (take i xs)) ys,
    )

-- a part of a list overwritten
pub take-put : {X : Type 0} (a w : ℕ) (xs ys : List X) → length ys ≡ w → a + w ≤ length xs
    → take (a + w) (put_mid a w xs ys) ≡ take a xs ++ ys
take-put {X = X} a w xs ys long within =
    let rest = drop w (drop a xs) in
    ap (take (a + w)) (sym (append_assoc (take a xs) ys rest))
    ∙ take_at (take a xs ++ ys) rest (a + w) (omega (arith, length-append (take a xs) ys, length-take a xs))

-- ---- ROWS OF CORNERS

abbrev pub AreWide : ℕ → List CornerRec → Type 0
AreWide w ks = All (λ (k : CornerRec). length k.vals ≡ w) ks

-- rows of the same width, one behind another
pub length-rows : (ks : List CornerRec) (w : ℕ) → AreWide w ks
    → length (flat_map (λ (k : CornerRec). k.vals) ks) ≡ length ks * w
length-rows [] w wide = omega (arith, zero-mul w)
length-rows (k ∷ ks) w wide =
    let rest = length-rows ks w (All-tail (λ (x : CornerRec). length x.vals ≡ w) k ks wide) in
    let here = All-head (λ (x : CornerRec). length x.vals ≡ w) k ks wide in
    length-append k.vals (flat_map (λ (x : CornerRec). x.vals) ks) ∙ omega (arith, here, rest, suc-mul (length ks) w)

-- the corners of a linked face are as wide as their layers
pub wide-linked : (c : Complex) (n : ℕ) → IsLinked c → IsThere c.faces n
    → AreWide (width c Corners) (corners_of (at c.faces n))
wide-linked c n h there =
    let it = stands (at c.faces n) there in
    let linked = (h.faces n it.0 it.1).corners in
    subst (AreWide (width c Corners)) (sym (ap corners_of it.1)) (λ k d less. (linked k d less).vals)
