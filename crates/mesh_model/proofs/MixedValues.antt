-- What lies between two elements: its numbers are as many as theirs, and in range.
use Rattle.std.proofs.Common.{◌≡◌, Bool, true, false, ◌&&◌, T, ℤ, pos, int_le, int_lt, neg_ℤ, ◌*ℤ◌, ◌-ℤ◌, List, [], ◌∷◌}
use Rattle.std.proofs.Common.{length, map, replicate, refl, ◌∙◌, arith}
use Rattle.std.specs.Prelude.{◌≤ℤ◌, ◌<ℤ◌}
use Rattle.std.specs.List.{list_all, zip}
use Rattle.std.proofs.lemmas.Int.{ints, clamps}
use Rattle.std.proofs.lemmas.List.{length-map, length-append, length-replicate}
use Rattle.std.proofs.lemmas.List.Sums.{sum_by-cons}
use Rattle.std.proofs.lemmas.Slice.Zip.{length-zip}
use Rattle.std.proofs.lemmas.Bool.{and_parts, and_from}
use Rattle.cust_data.specs.Layers.{Layer, total}
use Rattle.cust_data.specs.Mixing.{mix, mix_by, mix_row, rules, floor_div, IsBetween}
use Rattle.cust_data.specs.declared.rule.Rule.{Rule}
use Rattle.cust_data.specs.declared.rule.Rule.TheVariants.{Mix, Copy}
use Rattle.cust_data.proofs.Mixes.{share_between, mixed_between}
use Rattle.mesh_model.specs.Valid.{is_in_range, is_on_grid}
use Rattle.mesh_model.specs.Euler.{mixed_point, is_inner_share}
use Rattle.mesh_model.specs.declared.limits.TheConstants.{MAX_VALUE}
use Rattle.mesh_model.specs.declared.records.Point.{Point}

-- ---- ORDER OF NUMBERS, AS A TEST AND AS A FACT

told : (b : Bool) → T b → b ≡ true
told true h = refl
told false h = absurd h

tested : (b : Bool) → b ≡ true → T b
tested true h = tt
tested false h = absurd (cc)

pub int_le-true : (x y : ℤ) → int_le x y ≡ true → x ≤ℤ y
int_le-true x y h = record { le = tested (int_le x y) h }

pub le-int_le : (x y : ℤ) → x ≤ℤ y → int_le x y ≡ true
le-int_le x y h = told (int_le x y) h.le

pub int_lt-true : (x y : ℤ) → int_lt x y ≡ true → x <ℤ y
int_lt-true x y h = record { lt = tested (int_lt x y) h }

-- ---- SHARES

-- a share of a way: from none of it to the whole
pub record IsShare (num den : ℤ) : Type 0 where
  pub from : pos 0 ≤ℤ num
  pub until : num ≤ℤ den
  pub parts : pos 0 <ℤ den

pub IsShare-from_inner : (num den : ℤ) → is_inner_share num den ≡ true → IsShare num den
IsShare-from_inner num den h =
    let low = and_parts (int_lt (pos 0) num) (int_lt num den && int_le den (pos 1000000)) h in
    let high = and_parts (int_lt num den) (int_le den (pos 1000000)) low.1 in
    let above = int_lt-true (pos 0) num low.0 in
    let below = int_lt-true num den high.0 in
    record { from = omega (arith, ints); until = omega (arith, ints); parts = omega (arith, ints) }

-- the rest of the way
pub IsShare-rest : (num den : ℤ) → IsShare num den → IsShare (den -ℤ num) den
IsShare-rest num den h = record { from = omega (arith, ints); until = omega (arith, ints); parts = h.parts }

-- ---- RANGES

within : (low high a b r : ℤ) → low ≤ℤ a → a ≤ℤ high → low ≤ℤ b → b ≤ℤ high → IsBetween a b r → (low ≤ℤ r) × (r ≤ℤ high)
within low high a b r low_a high_a low_b high_b h = (omega (arith, ints, clamps), omega (arith, ints, clamps))

pub mix-in_range : (a b num den : ℤ) → IsShare num den → is_in_range a ≡ true → is_in_range b ≡ true
    → is_in_range (mix a b num den) ≡ true
mix-in_range a b num den share in_a in_b =
    let low = neg_ℤ MAX_VALUE in
    let range_a = and_parts (int_le (neg_ℤ MAX_VALUE) a) (int_le a MAX_VALUE) in_a in
    let range_b = and_parts (int_le (neg_ℤ MAX_VALUE) b) (int_le b MAX_VALUE) in_b in
    let between = mixed_between a b (floor_div ((b -ℤ a) *ℤ num) den)
    (share_between (b -ℤ a) num den share.from share.until share.parts) in
    let range = within (neg_ℤ MAX_VALUE) MAX_VALUE a b (mix a b num den) (int_le-true (neg_ℤ MAX_VALUE) a range_a.0)
    (int_le-true a MAX_VALUE range_a.1) (int_le-true (neg_ℤ MAX_VALUE) b range_b.0)
    (int_le-true b MAX_VALUE range_b.1) between in
    and_from (int_le (neg_ℤ MAX_VALUE) (mix a b num den)) (int_le (mix a b num den) MAX_VALUE)
    (le-int_le (neg_ℤ MAX_VALUE) (mix a b num den) range.0) (le-int_le (mix a b num den) MAX_VALUE range.1)

pub mixed_point-on_grid : (p q : Point) (num den : ℤ) → IsShare num den → is_on_grid p ≡ true → is_on_grid q ≡ true
    → is_on_grid (mixed_point p q num den) ≡ true
mixed_point-on_grid p q num den share on_p on_q =
    let xp = and_parts (is_in_range p.x) (is_in_range p.y && is_in_range p.z) on_p in
    let yp = and_parts (is_in_range p.y) (is_in_range p.z) xp.1 in
    let xq = and_parts (is_in_range q.x) (is_in_range q.y && is_in_range q.z) on_q in
    let yq = and_parts (is_in_range q.y) (is_in_range q.z) xq.1 in
    let m = mixed_point p q num den in
    and_from (is_in_range m.x) (is_in_range m.y && is_in_range m.z) (mix-in_range p.x q.x num den share xp.0 xq.0)
    (and_from (is_in_range m.y) (is_in_range m.z) (mix-in_range p.y q.y num den share yp.0 yq.0)
    (mix-in_range p.z q.z num den share yp.1 yq.1))

-- ---- ROWS

length-rules : (layers : List Layer) → length (rules layers) ≡ total layers
length-rules [] = refl
length-rules (l ∷ ls) = length-append (replicate l.width l.rule) (rules ls)
    ∙ omega (arith, length-replicate l.width l.rule, length-rules ls, sum_by-cons (λ (m : Layer). m.width) l ls)

-- as many numbers as the layers have
pub length-mix_row : (layers : List Layer) (a b : List ℤ) (num den : ℤ) → length a ≡ total layers
    → length b ≡ total layers → length (mix_row layers a b num den) ≡ total layers
length-mix_row layers a b num den count_a count_b =
    length-map (zip (rules layers) (zip a b)) (λ ((rule, (x, y)) : Rule × (ℤ × ℤ)). mix_by rule x y num den)
    ∙ omega (arith, length-zip (rules layers) (zip a b), length-zip a b, length-rules layers)

mix_by-in_range : (rule : Rule) (a b num den : ℤ) → IsShare num den → is_in_range a ≡ true → is_in_range b ≡ true
    → is_in_range (mix_by rule a b num den) ≡ true
mix_by-in_range Mix a b num den share in_a in_b = mix-in_range a b num den share in_a in_b
mix_by-in_range Copy a b num den share in_a in_b = in_a

rows-in_range : (rs : List Rule) (a b : List ℤ) (num den : ℤ) → IsShare num den → list_all is_in_range a ≡ true
    → list_all is_in_range b ≡ true
    → list_all is_in_range (map (λ ((rule, (x, y)) : Rule × (ℤ × ℤ)). mix_by rule x y num den) (zip rs (zip a b)))
    ≡ true
rows-in_range [] a b num den share in_a in_b = refl
rows-in_range (r ∷ rs) [] b num den share in_a in_b = refl
rows-in_range (r ∷ rs) (x ∷ xs) [] num den share in_a in_b = refl
rows-in_range (r ∷ rs) (x ∷ xs) (y ∷ ys) num den share in_a in_b =
    let both_a = and_parts (is_in_range x) (list_all is_in_range xs) in_a in
    let both_b = and_parts (is_in_range y) (list_all is_in_range ys) in_b in
    and_from (is_in_range (mix_by r x y num den)) _ (mix_by-in_range r x y num den share both_a.0 both_b.0)
    (rows-in_range rs xs ys num den share both_a.1 both_b.1)

pub mix_row-in_range : (layers : List Layer) (a b : List ℤ) (num den : ℤ) → IsShare num den
    → list_all is_in_range a ≡ true → list_all is_in_range b ≡ true
    → list_all is_in_range (mix_row layers a b num den) ≡ true
mix_row-in_range layers a b num den share in_a in_b = rows-in_range (rules layers) a b num den share in_a in_b
