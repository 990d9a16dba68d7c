-- Rows in which some layers are given: how long they are, and one layer more.
use Rattle.std.proofs.Common.{◌≡◌, ℕ, zero, suc, ◌+◌, ◌*◌, ◌<◌, ◌≤◌, ℤ, Bool, true, false, cond, ◌&&◌, List, [], ◌∷◌}
use Rattle.std.proofs.Common.{◌++◌, length, take, refl, ap, ◌∙◌, arith, Option, Some, IsTrue, eqb}
use Rattle.std.specs.Option.{option_map_or}
use Rattle.std.specs.List.{All, find, slice_get}
use Rattle.std.proofs.lemmas.Bool.{and_parts, eqb-true}
use Rattle.std.proofs.lemmas.Bool.Decides.{nat_tests}
use Rattle.std.proofs.lemmas.List.{length-replicate, length-append, take_more, length-take, append-nil}
use Rattle.std.proofs.lemmas.Option.{get_or_from_slice_get}
use Rattle.std.proofs.lemmas.List.Concat.{flat_map-append}
use Rattle.std.proofs.lemmas.List.Sums.{sum_by-cons}
use Rattle.std.proofs.lemmas.List.Elements.{All-cons, All-head, All-tail, All-take}
use Rattle.cust_data.specs.Layers.{Layer, total, zeros, same_name, is_width}
use Rattle.mesh_model.specs.Values.{same_layer, same_rule, numbers_for, row_given}
use Rattle.cust_data.specs.Layers.{AreLayers}

same-width : (l m : Layer) → same_layer l m ≡ true → l.width ≡ m.width
same-width l m h =
    let both = and_parts (same_name l.name m.name) (eqb l.width m.width && same_rule l.rule m.rule) h in
    eqb-true l.width m.width (and_parts (eqb l.width m.width) (same_rule l.rule m.rule) both.1).0

-- numbers that are given for a layer are as many as its width
abbrev pub AreGiven : List (Layer × List ℤ) → Type 0
AreGiven given = All (λ (g : Layer × List ℤ). length g.1 ≡ g.0.width) given

chosen : (g : Layer × List ℤ) (l : Layer) (b : Bool) (o : Option (Layer × List ℤ)) → same_layer g.0 l ≡ b
    → length g.1 ≡ g.0.width → length (option_map_or (λ (h : Layer × List ℤ). h.1) o (zeros l.width)) ≡ l.width
    → length (option_map_or (λ (h : Layer × List ℤ). h.1) (cond b (Some g) o) (zeros l.width)) ≡ l.width
chosen g l true o same long rest = long ∙ same-width g.0 l same
chosen g l false o other long rest = rest

pub length-numbers_for : (given : List (Layer × List ℤ)) (l : Layer) → AreGiven given
    → length (numbers_for given l) ≡ l.width
length-numbers_for [] l are = length-replicate l.width _
length-numbers_for (g ∷ gs) l are =
    chosen g l (same_layer g.0 l) (find (λ (h : Layer × List ℤ). same_layer h.0 l) gs) refl
    (All-head (λ (h : Layer × List ℤ). length h.1 ≡ h.0.width) g gs are)
    (length-numbers_for gs l (All-tail (λ (h : Layer × List ℤ). length h.1 ≡ h.0.width) g gs are))

pub length-row_given : (given : List (Layer × List ℤ)) (layers : List Layer) → AreGiven given
    → length (row_given given layers) ≡ total layers
length-row_given given [] are = refl
length-row_given given (l ∷ ls) are =
    length-append (numbers_for given l) (row_given given ls)
    ∙ omega (
      arith,
      length-numbers_for given l are,
      length-row_given given ls are,
      sum_by-cons (λ (m : Layer). m.width) l ls,
    )

-- one layer more
pub row_given-more : (given : List (Layer × List ℤ)) (layers : List Layer) (k : ℕ) (l : Layer) → k < length layers
    → slice_get layers k ≡ Some l
    → row_given given (take (k + 1) layers) ≡ row_given given (take k layers) ++ numbers_for given l
row_given-more given layers k l less here =
    ap (row_given given) (take_more layers k l less
    ∙ ap (λ (m : Layer). take k layers ++ m ∷ []) (get_or_from_slice_get layers k l l here))
    ∙ flat_map-append (numbers_for given) (take k layers) (l ∷ [])
    ∙ ap (λ (r : List ℤ). row_given given (take k layers) ++ r) (append-nil (numbers_for given l))

-- layers are narrow
width-le : (l : Layer) → IsTrue (is_width l.width) → l.width ≤ 4
width-le l h = grind (arith, nat_tests)

total-le : (layers : List Layer) → All (λ (l : Layer). IsTrue (is_width l.width)) layers
    → total layers ≤ 4 * length layers
total-le [] h = omega arith
total-le (l ∷ ls) h =
    let here = width-le l (All-head (λ (m : Layer). IsTrue (is_width m.width)) l ls h) in
    let rest = total-le ls (All-tail (λ (m : Layer). IsTrue (is_width m.width)) l ls h) in
    omega (arith, here, rest, sum_by-cons (λ (m : Layer). m.width) l ls)

pub total-few : (layers : List Layer) → AreLayers layers → total layers ≤ 64
total-few layers are = let few = are.few in omega (arith, total-le layers are.widths)

pub total-take : (layers : List Layer) (k : ℕ) → k < length layers → AreLayers layers → total (take k layers) + 4 ≤ 64
total-take layers k less are =
    let few = are.few in
    let narrow = total-le (take k layers) (All-take (λ (l : Layer). IsTrue (is_width l.width)) k layers are.widths) in
    omega (arith, narrow, length-take k layers)

-- the layer at a position
pub layer-at : (layers : List Layer) (k : ℕ) → k < length layers → (l : Layer) × (slice_get layers k ≡ Some l)
layer-at [] k less = absurd (omega arith)
layer-at (l ∷ ls) zero less = (l, refl)
layer-at (l ∷ ls) (suc k) less = layer-at ls k (omega arith)

pub given_one : (l : Layer) (row : List ℤ) → length row ≡ l.width → AreGiven ((l, row) ∷ [])
given_one l row long =
    All-cons (λ (g : Layer × List ℤ). length g.1 ≡ g.0.width) (l, row) [] long (λ k d less. absurd (omega arith))

pub given_two : (l m : Layer) (row other : List ℤ) → length row ≡ l.width → length other ≡ m.width
    → AreGiven ((l, row) ∷ (m, other) ∷ [])
given_two l m row other long long' =
    All-cons (λ (g : Layer × List ℤ). length g.1 ≡ g.0.width) (l, row) ((m, other) ∷ []) long (given_one m other long')
