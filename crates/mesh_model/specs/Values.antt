-- Rows of values: the numbers that layers have in them, and rows in which some layers are given.
use Rattle.std.specs.Prelude.{ℕ, ◌+◌, ℤ, pos, Bool, true, false, ◌&&◌, nat_eq, List, [], ◌∷◌, ◌++◌, length, take, drop}
use Rattle.std.specs.Prelude.{slice_get, slice_index_or}
use Rattle.std.specs.declared.option.Option.{Option}
use Rattle.std.specs.Option.{option_map, option_map_or}
use Rattle.std.specs.List.{position, find, flat_map}
use Rattle.cust_data.specs.Layers.{Layer, total, zeros, same_name}
use Rattle.cust_data.specs.declared.rule.Rule.{Rule}
use Rattle.cust_data.specs.declared.rule.Rule.TheVariants.{Mix, Copy}
use Rattle.mesh_model.specs.Complex.{Complex, uv_layer, material_layer, smooth_layer}

-- two rules agree
abbrev pub same_rule : Rule → Rule → Bool
same_rule Mix Mix = true
same_rule Copy Copy = true
same_rule Mix Copy = false
same_rule Copy Mix = false

-- two declarations agree in name, width and rule
abbrev pub same_layer : Layer → Layer → Bool
same_layer l m = same_name l.name m.name && (nat_eq l.width m.width && same_rule l.rule m.rule)

-- where the numbers of the k-th layer begin in a row
abbrev pub offset : List Layer → ℕ → ℕ
offset layers k = total (take k layers)

-- the numbers of the k-th layer in a row
abbrev pub numbers_at : List Layer → ℕ → List ℤ → List ℤ
numbers_at layers k row =
    option_map_or (λ (l : Layer). take l.width (drop (offset layers k) row)) (slice_get layers k) []

-- a row with other numbers of the k-th layer
abbrev pub with_numbers : List Layer → ℕ → List ℤ → List ℤ → List ℤ
with_numbers layers k numbers row =
    take (offset layers k) row ++ (numbers ++ drop (offset layers k + length numbers) row)

-- the first number of a layer in a row, if a layer of this name, width and rule is there
abbrev pub number_in : List Layer → Layer → List ℤ → Option ℤ
number_in layers l row = option_map (λ k. slice_index_or row (offset layers k) (pos 0)) (position (same_layer l) layers)

-- the numbers that are given for a layer, or zeros
abbrev pub numbers_for : List (Layer × List ℤ) → Layer → List ℤ
numbers_for given l = option_map_or (λ g. g.1) (find (λ g. same_layer g.0 l) given) (zeros l.width)

-- the row that has the given numbers where a layer is there for them, and else zeros
abbrev pub row_given : List (Layer × List ℤ) → List Layer → List ℤ
row_given given layers = flat_map (numbers_for given) layers

-- the values of a corner that lies here in the texture
abbrev pub corner_vals : Complex → List ℤ → List ℤ
corner_vals c uv = row_given ((uv_layer, uv) ∷ []) c.layers.corners

-- the values of a face of a material and a smoothing group
abbrev pub face_vals : Complex → ℤ → ℤ → List ℤ
face_vals c material smooth =
    row_given ((material_layer, material ∷ []) ∷ (smooth_layer, smooth ∷ []) ∷ []) c.layers.faces
