-- The numbers in rows of which some layers are given: their ranges, and those of the layers that are given.
use Rattle.std.proofs.Common.{◌≡◌, ℕ, ◌<◌, ℤ, pos, Bool, true, false, cond, ◌&&◌, eqb, codes, List, [], ◌∷◌, length}
use Rattle.std.proofs.Common.{get_or, take, refl, ap, ◌∙◌, arith, Option, Some, None}
use Rattle.std.specs.List.{All, list_all, find, position, flat_map}
use Rattle.std.specs.Option.{option_map, option_map_or}
use lib.Pointwise.{pointwise_long}
use Rattle.std.proofs.lemmas.Bool.{and_parts, eqb-true}
use Rattle.std.proofs.lemmas.List.Folds.{list_all-append}
use Rattle.std.proofs.lemmas.List.Concat.{get_or-flat_map}
use Rattle.std.proofs.lemmas.List.Quantifiers.{position-Some}
use Rattle.std.proofs.lemmas.List.Elements.{All-head, All-tail}
use Rattle.cust_data.specs.Layers.{Layer, total, zeros, same_name}
use Rattle.mesh_model.specs.Table.{allows}
use Rattle.mesh_model.specs.Complex.{material_layer, smooth_layer}
use Rattle.mesh_model.specs.Values.{same_layer, same_rule, number_in, numbers_for, row_given}
use Rattle.mesh_model.specs.Valid.{is_in_range}
use Rattle.mesh_model.proofs.Zeros.{in_range-zeros}
use Rattle.mesh_model.proofs.GivenRows.{AreGiven, length-numbers_for, length-row_given}

-- ---- RANGES

abbrev pub AreInRange : List (Layer × List ℤ) → Type 0
AreInRange given = All (λ (g : Layer × List ℤ). list_all is_in_range g.1 ≡ true) given

picked : (g : Layer × List ℤ) (n : ℕ) (b : Bool) (o : Option (Layer × List ℤ)) → list_all is_in_range g.1 ≡ true
    → list_all is_in_range (option_map_or (λ (h : Layer × List ℤ). h.1) o (zeros n)) ≡ true
    → list_all is_in_range (option_map_or (λ (h : Layer × List ℤ). h.1) (cond b (Some g) o) (zeros n)) ≡ true
picked g n true o here rest = here
picked g n false o here rest = rest

in_range-numbers_for : (given : List (Layer × List ℤ)) (l : Layer) → AreInRange given
    → list_all is_in_range (numbers_for given l) ≡ true
in_range-numbers_for [] l are = in_range-zeros l.width
in_range-numbers_for (g ∷ gs) l are =
    picked g l.width (same_layer g.0 l) (find (λ (h : Layer × List ℤ). same_layer h.0 l) gs)
    (All-head (λ (h : Layer × List ℤ). list_all is_in_range h.1 ≡ true) g gs are)
    (in_range-numbers_for gs l (All-tail (λ (h : Layer × List ℤ). list_all is_in_range h.1 ≡ true) g gs are))

pub in_range-row_given : (given : List (Layer × List ℤ)) (layers : List Layer) → AreInRange given
    → list_all is_in_range (row_given given layers) ≡ true
in_range-row_given given [] are = refl
in_range-row_given given (l ∷ ls) are =
    list_all-append is_in_range (numbers_for given l) (row_given given ls)
    ∙ ap (λ (b : Bool). b && list_all is_in_range (row_given given ls)) (in_range-numbers_for given l are)
    ∙ in_range-row_given given ls are

-- ---- THE NUMBER OF A LAYER

-- a test that holds of the first number that is given for a layer allows the number in the row
allows-found : (test : ℤ → Bool) (given : List (Layer × List ℤ)) (layers : List Layer) (l : Layer) (x : ℤ)
    (o : Option ℕ) → position (same_layer l) layers ≡ o → AreGiven given → 0 < l.width → test x ≡ true
    → ((m : Layer) → same_layer l m ≡ true → get_or (numbers_for given m) 0 (pos 0) ≡ x)
    → ((m : Layer) → same_layer l m ≡ true → l.width ≡ m.width)
    → allows test (option_map (λ (k : ℕ). get_or (row_given given layers) (total (take k layers)) (pos 0)) o) ≡ true
allows-found test given layers l x None none are wide pass here width = refl
allows-found test given layers l x (Some k) some are wide pass here width =
    let found = position-Some (same_layer l) layers k l some in
    let m = get_or layers k l in
    let long : length (numbers_for given m) ≡ m.width = length-numbers_for given m are in
    let same = width m found.1 in
    let before : length (flat_map (numbers_for given) (take k layers)) ≡ total (take k layers) =
    length-row_given given (take k layers) are in
    let here_at : get_or (row_given given layers) (total (take k layers)) (pos 0) ≡ x =
    ap (λ (n : ℕ). get_or (row_given given layers) n (pos 0)) (omega (arith, before))
    ∙ get_or-flat_map (numbers_for given) layers k 0 l (pos 0) found.0 (omega arith) ∙ here m found.1 in
    ap test here_at ∙ pass

same-width : (l m : Layer) → same_layer l m ≡ true → l.width ≡ m.width
same-width l m h =
    let both = and_parts (same_name l.name m.name) (eqb l.width m.width && same_rule l.rule m.rule) h in
    eqb-true l.width m.width (and_parts (eqb l.width m.width) (same_rule l.rule m.rule) both.1).0

pub allows-given : (test : ℤ → Bool) (given : List (Layer × List ℤ)) (layers : List Layer) (l : Layer) (x : ℤ)
    → AreGiven given → 0 < l.width → test x ≡ true
    → ((m : Layer) → same_layer l m ≡ true → get_or (numbers_for given m) 0 (pos 0) ≡ x)
    → allows test (number_in layers l (row_given given layers)) ≡ true
allows-given test given layers l x are wide pass here =
    allows-found test given layers l x (position (same_layer l) layers) refl are wide pass here (same-width l)

-- the first of two layers that are given
abbrev pub material_and_smooth : ℤ → ℤ → List (Layer × List ℤ)
material_and_smooth material smooth = (material_layer, material ∷ []) ∷ (smooth_layer, smooth ∷ []) ∷ []

pub material-given : (material smooth : ℤ) (m : Layer) → same_layer material_layer m ≡ true
    → get_or (numbers_for (material_and_smooth material smooth) m) 0 (pos 0) ≡ material
material-given material smooth m h =
    ap (λ (b : Bool). get_or
    (option_map_or (λ (g : Layer × List ℤ). g.1)
    (cond b (Some (material_layer, material ∷ []))
    (find (λ (g : Layer × List ℤ). same_layer g.0 m) ((smooth_layer, smooth ∷ []) ∷ []))) (zeros m.width)) 0
    (pos 0)) h

-- a name is not two
two_names : (name : List ℕ) → same_name (codes "smooth") name ≡ true → same_name (codes "material") name ≡ false
two_names name h = other (same_name (codes "material") name) refl
  where
    other : (b : Bool) → same_name (codes "material") name ≡ b → same_name (codes "material") name ≡ false
    other true same =
        let six : 6 ≡ length name = pointwise_long eqb (codes "smooth") name h in
        let eight : 8 ≡ length name = pointwise_long eqb (codes "material") name same in
        absurd (omega arith)
    other false same = same

other_layer : (m : Layer) → same_layer smooth_layer m ≡ true → same_layer material_layer m ≡ false
other_layer m h =
    let both = and_parts (same_name (codes "smooth") m.name) (eqb 1 m.width && same_rule smooth_layer.rule m.rule) h in
    ap (λ (b : Bool). b && (eqb 1 m.width && same_rule material_layer.rule m.rule)) (two_names m.name both.0)

pub smooth-given : (material smooth : ℤ) (m : Layer) → same_layer smooth_layer m ≡ true
    → get_or (numbers_for (material_and_smooth material smooth) m) 0 (pos 0) ≡ smooth
smooth-given material smooth m h =
    ap (λ (b : Bool). get_or
    (option_map_or (λ (g : Layer × List ℤ). g.1)
    (cond b (Some (material_layer, material ∷ []))
    (cond (same_layer smooth_layer m) (Some (smooth_layer, smooth ∷ [])) None)) (zeros m.width)) 0 (pos 0))
    (other_layer m h)
    ∙ ap (λ (b : Bool). get_or
    (option_map_or (λ (g : Layer × List ℤ). g.1) (cond b (Some (smooth_layer, smooth ∷ [])) None) (zeros m.width)) 0
    (pos 0)) h
