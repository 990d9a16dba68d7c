-- What is copied of a shape, piece by piece.
use Rattle.std.proofs.Common.{◌≡◌, ℕ, zero, suc, ◌+◌, ◌-◌, ◌*◌, ◌<◌, ◌≤◌, ℤ, Bool, true, false, not, cond, List, []}
use Rattle.std.proofs.Common.{◌∷◌, ◌++◌, length, get_or, map, take, drop, ◌||◌, eqb, append_assoc, nat_le, refl, sym}
use Rattle.std.proofs.Common.{ap, ◌∙◌, arith, Option, Some, None, inl, inr}
use Rattle.std.specs.List.{slice_get, flat_map, list_any, sum_by}
use Rattle.std.proofs.lemmas.List.FromFn.{take-map-range_with_len, sum_by-map-range_with_len_more}
use Rattle.std.proofs.lemmas.List.Sums.{sum_by-take-le}
use Rattle.std.proofs.Math.Nat.{mul-le-mul_left}
use Rattle.std.specs.Option.{option_map}
use Rattle.std.proofs.lemmas.Iterator.Adapters.{position_from-zero}
use Rattle.std.proofs.lemmas.Option.{slice_get_within, get_or_from_slice_get}
use Rattle.std.proofs.lemmas.List.{length-take, get_or-take, take_all, get_or_append_left, get_or-append_right}
use Rattle.std.proofs.lemmas.List.{take-append-drop, drop_at, take_at, get_or-map}
use Rattle.std.proofs.lemmas.List.Concat.{flat_map-append}
use Rattle.std.proofs.lemmas.List.Folds.{list_any-append}
use Rattle.std.proofs.Math.Bool.{or-false}
use Rattle.std.proofs.lemmas.Bool.{cases_lt}
use Rattle.std.proofs.lemmas.Bool.Decides.{nat_tests}
use Rattle.mesh_model.specs.NameSet.{is_in}
use Rattle.cust_data.specs.Layers.{Layer, same_name, find_layer, is_layer_name, is_width}
use Rattle.cust_data.specs.declared.rule.Rule.{Rule}
use Rattle.cust_data.specs.Faults.{refusal_of}
use Rattle.mesh_model.specs.Table.{at, passes, only_if, table_of}
use Rattle.mesh_model.specs.Incidence.{uses_edge, is_along}
use Rattle.mesh_model.specs.Columns.{EdgeTable, FaceTable, face_of}
use Rattle.mesh_model.specs.Copying.{keeps_face, face_left}
use Rattle.mesh_model.specs.Complex.{Complex, corners_of, corner_sum}
use Rattle.cust_data.specs.Layers.{AreLayers}
use Rattle.mesh_model.specs.declared.records.CornerRec.{CornerRec}
use Rattle.mesh_model.specs.declared.names.VertName.{VertName}
use Rattle.mesh_model.specs.declared.names.EdgeName.{EdgeName}
use Rattle.mesh_model.specs.declared.records.FaceRec.{FaceRec}
use Rattle.mesh_model.proofs.Tables.{only_if-Some, length-table_of, at-table_of, at-below}
use Rattle.mesh_model.proofs.Parts.{corner_sum-within}
use Rattle.mesh_model.proofs.Reading.{AreWide, none_at, take_more_get, pieces-more}
use Rattle.mesh_model.proofs.MadePolygons.{used-more}

-- ---- ROWS

-- the first numbers of a record's row
pub told-long : {R : Type 0} (vals : R → List ℤ) (o : Option R) (k w : ℕ) (row : List ℤ)
    → ((r : R) → o ≡ Some r → length (vals r) ≡ w) → k ≤ w → option_map (λ r. take k (vals r)) o ≡ Some row
    → length row ≡ k
told-long vals None k w row wide few told = absurd (cc)
told-long vals (Some r) k w row wide few told = let same : take k (vals r) ≡ row = cc in
    omega (arith, ap length same, length-take k (vals r), wide r refl)

pub told-more : {R : Type 0} (vals : R → List ℤ) (o : Option R) (k : ℕ) (row : List ℤ) (x : ℤ)
    → option_map (λ r. slice_get (vals r) k) o ≡ Some (Some x) → option_map (λ r. take k (vals r)) o ≡ Some row
    → option_map (λ r. take (k + 1) (vals r)) o ≡ Some (row ++ x ∷ [])
told-more vals None k row x read told = absurd (cc)
told-more vals (Some r) k row x read told =
    let here : slice_get (vals r) k ≡ Some x = cc in
    let same : take k (vals r) ≡ row = cc in
    ap (λ (xs : List ℤ). Some xs) (take_more_get (vals r) k x here ∙ ap (λ (xs : List ℤ). xs ++ x ∷ []) same)

pub told-all : {R : Type 0} (vals : R → List ℤ) (o : Option R) (k w : ℕ) (row : List ℤ)
    → ((r : R) → o ≡ Some r → length (vals r) ≡ w) → w ≤ k → option_map (λ r. take k (vals r)) o ≡ Some row
    → option_map vals o ≡ Some row
told-all vals None k w row wide few told = absurd (cc)
told-all vals (Some r) k w row wide few told =
    let same : take k (vals r) ≡ row = cc in
    let whole : take k (vals r) ≡ vals r = take_all k (vals r) (omega (arith, wide r refl)) in
    ap (λ (xs : List ℤ). Some xs) (sym whole ∙ same)

-- ---- LAYERS

-- the next of some layers can be added to those before it
pub refusal-next : (layers : List Layer) (k : ℕ) (l : Layer) → AreLayers layers → slice_get layers k ≡ Some l
    → refusal_of (take k layers) l.name l.width ≡ None
refusal-next layers k l are here =
    let less = slice_get_within layers k l here in
    let same : get_or layers k l ≡ l = get_or_from_slice_get layers k l l here in
    let named : is_layer_name l.name ≡ true = ap (λ (x : Layer). is_layer_name x.name) (sym same)
    ∙ are.named k l less in
    let wide : is_width l.width ≡ true = ap (λ (x : Layer). is_width x.width) (sym same) ∙ are.widths k l less in
    let few = are.few in
    let long : length (take k layers) ≡ k = omega (arith, length-take k layers) in
    let new : find_layer (take k layers) l.name ≡ None =
    position_from-zero (λ (x : Layer). same_name x.name l.name) (take k layers)
    ∙ none_at (λ (x : Layer). same_name x.name l.name) 0 (take k layers) l (λ i under.
    let below : i < k = omega arith in
    ap (λ (x : Layer). same_name x.name l.name) (get_or-take k layers i l below)
    ∙ ap (λ (x : Layer). same_name (get_or layers i l).name x.name) (sym same) ∙ are.distinct i k l below less) in
    let room : nat_le 16 (length (take k layers)) ≡ false = rw long (grind (arith, nat_tests)) in
    rw (named, wide, new, room) refl

some_same : {X : Type 0} (x y : X) → ◌≡◌ {A = Option X} (Some x) (Some y) → x ≡ y
some_same x y h = cc

-- a layer as it is read
pub layer-told : (layers : List Layer) (k : ℕ) (l : Layer) (name : List ℕ) (wide : ℕ) (rule : Rule)
    → slice_get layers k ≡ Some l
    → option_map (λ (x : Layer). x.name) (slice_get layers k) ≡ Some name
    → option_map (λ (x : Layer). x.width) (slice_get layers k) ≡ Some wide
    → option_map (λ (x : Layer). x.rule) (slice_get layers k) ≡ Some rule
    → record { name = name; width = wide; rule = rule } ≡ l
layer-told layers k l name wide rule here n w r =
    let a : l.name ≡ name = some_same l.name name (sym (ap (option_map (λ (x : Layer). x.name)) here) ∙ n) in
    let b : l.width ≡ wide = some_same l.width wide (sym (ap (option_map (λ (x : Layer). x.width)) here) ∙ w) in
    let d : l.rule ≡ rule = some_same l.rule rule (sym (ap (option_map (λ (x : Layer). x.rule)) here) ∙ r) in
    rw (← a, ← b, ← d) refl

-- a flag more that isn't set
pub is_in-push : (flags : List Bool) (n : ℕ) → is_in flags n ≡ false → is_in (flags ++ false ∷ []) n ≡ false
is_in-push flags n h = elim (cases_lt n (length flags)) [
  | inl less ↦ get_or_append_left flags (false ∷ []) false n less ∙ h
  | inr over ↦ get_or-append_right flags (false ∷ []) (length flags) n false refl over ∙ unset (n - length flags)
]
  where
    unset : (k : ℕ) → get_or (false ∷ []) k false ≡ false
    unset zero = refl
    unset (suc k) = refl

-- a row that was read is as wide as those of all records
pub told-wide : {R : Type 0} (vals : R → List ℤ) (o : Option R) (w : ℕ) (row : List ℤ)
    → ((r : R) → o ≡ Some r → length (vals r) ≡ w) → option_map vals o ≡ Some row → length row ≡ w
told-wide vals None w row wide told = absurd (cc)
told-wide vals (Some r) w row wide told = let same : vals r ≡ row = cc in ap length (sym same) ∙ wide r refl

-- ---- CORNERS

pub few-wide : (count w : ℕ) → count < 4294967296 → w ≤ 64 → count * w < 18446744073709551616
few-wide count w few narrow = omega (arith, mul-le-mul_left count narrow)

-- ---- FACES THAT ARE LEFT

abbrev pub pair : CornerRec → VertName × EdgeName
pair k = (k.vert, k.edge)

any-map : {X Y : Type 0} (p : Y → Bool) (f : X → Y) (xs : List X) → list_any p (map f xs) ≡ list_any (λ x. p (f x)) xs
any-map p f [] = refl
any-map p f (x ∷ xs) = ap (λ (b : Bool). p (f x) || b) (any-map p f xs)

-- a face with a corner in the set isn't left, and one without is
pub left-none : (gone : List Bool) (o : Option FaceRec)
    → list_any (λ (s : VertName × EdgeName). is_in gone s.0.0) (map pair (corners_of o)) ≡ true
    → only_if (keeps_face gone) o ≡ None
left-none gone None h = refl
left-none gone (Some f) h =
    ap (λ (b : Bool). cond (not b) (Some f) None)
    (sym (any-map (λ (s : VertName × EdgeName). is_in gone s.0.0) pair f.corners) ∙ h)

pub left-same : (gone : List Bool) (o : Option FaceRec)
    → list_any (λ (s : VertName × EdgeName). is_in gone s.0.0) (map pair (corners_of o)) ≡ false
    → only_if (keeps_face gone) o ≡ o
left-same gone None h = refl
left-same gone (Some f) h =
    ap (λ (b : Bool). cond (not b) (Some f) None)
    (sym (any-map (λ (s : VertName × EdgeName). is_in gone s.0.0) pair f.corners) ∙ h)

-- a face that is put together again
pub face-again : (o : Option FaceRec) (row : List ℤ) → ((r : FaceRec) → o ≡ Some r → 0 < length r.corners)
    → option_map (λ (r : FaceRec). r.vals) o ≡ Some row → face_of (corners_of o) row ≡ o
face-again None row some told = absurd (cc)
face-again (Some r) row some told = let same : row ≡ r.vals = cc in rw same (again r.corners r.vals (some r refl))
  where
    again : (ks : List CornerRec) (vals : List ℤ) → 0 < length ks
        → face_of ks vals ≡ Some (record { corners = ks; vals = vals })
    again [] vals less = absurd (omega arith)
    again (k ∷ ks) vals less = refl

-- which edges it uses
pub uses-corners : (e : EdgeName) (o : Option FaceRec) → passes (uses_edge e) o ≡ list_any (is_along e) (corners_of o)
uses-corners e None = refl
uses-corners e (Some f) = refl

was_left : {X : Type 0} (test : X → Bool) (o : Option X) (x : X) → only_if test o ≡ Some x → o ≡ Some x
was_left test o x h = (only_if-Some test o x h).0

-- the faces that are left have no more corners than all
pub left-sum : (gone : List Bool) (c : Complex) (n : ℕ) → n < length c.faces
    → corner_sum (table_of (face_left gone c) n) + length (corners_of (face_left gone c n)) ≤ corner_sum c.faces
left-sum gone c n less =
    let f = face_left gone c in
    let all = length c.faces in
    let count : Option FaceRec → ℕ = λ o. length (corners_of o) in
    let whole : corner_sum (table_of f all) ≤ corner_sum c.faces =
    corner_sum-within (table_of f all) c.faces (length-table_of f all)
    (λ k x is. was_left (keeps_face gone) (at c.faces k) x
    (sym (at-table_of f all k (rw (length-table_of f all) at (at-below (table_of f all) k x is))) ∙ is)) in
    let part : corner_sum (table_of f (n + 1)) ≤ corner_sum (table_of f all) =
    let front : take (n + 1) (table_of f all) ≡ table_of f (n + 1) =
    take-map-range_with_len f 0 all (n + 1) (omega arith) in
    omega (arith, sum_by-take-le count (table_of f all) (n + 1), ap (sum_by count) front) in
    let more : corner_sum (table_of f (n + 1)) ≡ corner_sum (table_of f n) + count (f n) =
    sum_by-map-range_with_len_more count f 0 n n (omega arith) in
    omega arith

-- the corner at a position, as its side and its piece of numbers tell
pub corner-piece : (ks : List CornerRec) (i from w : ℕ) (k : CornerRec) → slice_get ks i ≡ Some k → length k.vals ≡ w
    → from ≡ length (flat_map (λ (x : CornerRec). x.vals) (take i ks))
    → take w (drop from (flat_map (λ (x : CornerRec). x.vals) ks)) ≡ k.vals
corner-piece ks i from w k here wide start =
    let vals : CornerRec → List ℤ = λ x. x.vals in
    let front = flat_map vals (take i ks) in
    let back = flat_map vals (drop (i + 1) ks) in
    let whole : flat_map vals ks ≡ front ++ (k.vals ++ back) =
    ap (flat_map vals) (sym (take-append-drop (i + 1) ks)) ∙ flat_map-append vals (take (i + 1) ks) (drop (i + 1) ks)
    ∙ ap (λ (xs : List ℤ). xs ++ back) (pieces-more vals ks i k.vals (ap (option_map vals) here))
    ∙ append_assoc front k.vals back in
    ap (λ (xs : List ℤ). take w (drop from xs)) whole ∙ ap (take w) (drop_at front (k.vals ++ back) from (sym start))
    ∙ take_at k.vals back w wide

pub corner-at : (ks : List CornerRec) (i : ℕ) → i < length ks → (k : CornerRec) × (slice_get ks i ≡ Some k)
corner-at [] i less = absurd (omega arith)
corner-at (k ∷ ks) zero less = (k, refl)
corner-at (k ∷ ks) (suc i) less = corner-at ks i (omega arith)

pub side-at : (ks : List CornerRec) (i : ℕ) (k : CornerRec) (d : VertName × EdgeName) → slice_get ks i ≡ Some k
    → get_or (map pair ks) i d ≡ pair k
side-at ks i k d here = get_or-map pair ks i k d (slice_get_within ks i k here)
    ∙ ap pair (get_or_from_slice_get ks i k k here)

-- which edges have a corner, with one corner more
pub used-next : (a : Bool) (ks : List CornerRec) (i : ℕ) (k : CornerRec) (e : EdgeName) → slice_get ks i ≡ Some k
    → ((a || list_any (is_along e) (take i ks)) || eqb k.edge.0 e.0) ≡ (a || list_any (is_along e) (take (i + 1) ks))
used-next a ks i k e here = used-more a (take i ks) k e
    ∙ ap (λ (xs : List CornerRec). a || list_any (is_along e) xs) (sym (take_more_get ks i k here))

-- the width of a corner that was found
pub wide-found : (w : ℕ) (ks : List CornerRec) (i : ℕ) (k : CornerRec) → AreWide w ks → slice_get ks i ≡ Some k
    → length k.vals ≡ w
wide-found w ks i k wide here = ap (λ (x : CornerRec). length x.vals) (sym (get_or_from_slice_get ks i k k here))
    ∙ wide i k (slice_get_within ks i k here)

-- faces with other open corners, one corner further
pub open-further : (h f g : FaceTable) (o p : List CornerRec) (r n : ℕ)
    → h ≡ record f { «open» = f.open ++ o; corner_room = f.corner_room - 1 }
    → f ≡ record g { «open» = p; corner_room = r - n } → h ≡ record g { «open» = p ++ o; corner_room = r - (n + 1) }
open-further h f g o p r n first second =
    let table : f.table ≡ g.table = ap (λ (x : FaceTable). x.table) second in
    let opened : f.open ≡ p = ap (λ (x : FaceTable). x.open) second in
    let clayers : f.corner_layers ≡ g.corner_layers = ap (λ (x : FaceTable). x.corner_layers) second in
    let layers : f.layers ≡ g.layers = ap (λ (x : FaceTable). x.layers) second in
    let room : f.room ≡ g.room = ap (λ (x : FaceTable). x.room) second in
    let left : f.corner_room - 1 ≡ r - (n + 1) = omega (arith, ap (λ (x : FaceTable). x.corner_room) second) in
    rw first (rw (table, opened, clayers, layers, room, left) refl)

pub used-twice : (h f g : EdgeTable) → h ≡ record f { used = h.used } → f ≡ record g { used = f.used }
    → h ≡ record g { used = h.used }
used-twice h f g first second =
    let table : f.table ≡ g.table = ap (λ (x : EdgeTable). x.table) second in
    let layers : f.layers ≡ g.layers = ap (λ (x : EdgeTable). x.layers) second in
    let room : f.room ≡ g.room = ap (λ (x : EdgeTable). x.room) second in
    first ∙ rw (table, layers, room) refl

-- one more of a list with which a test holds of some
pub any-more : {X : Type 0} (p : X → Bool) (a : Bool) (xs : List X) (x : X)
    → ((a || list_any p xs) || p x) ≡ (a || list_any p (xs ++ x ∷ []))
any-more p true xs x = refl
any-more p false xs x = ap (λ (b : Bool). list_any p xs || b) (sym (or-false (p x)))
    ∙ sym (list_any-append p xs (x ∷ []))
