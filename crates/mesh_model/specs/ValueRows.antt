-- Layers and rows of values, worked out.
use Rattle.std.specs.Prelude.{◌≡◌, ℕ, ℤ, pos, true, false, List, [], ◌∷◌, map, codes, replicate}
use Rattle.std.specs.declared.option.Option.TheVariants.{None, Some}
use Rattle.cust_data.specs.Layers.{Layer, total}
use Rattle.cust_data.specs.declared.rule.Rule.TheVariants.{Mix, Copy}
use Rattle.cust_data.specs.declared.fault.LayerFault.TheVariants.{LayerExists, BadWidth}
use Rattle.std.specs.Option.{option_map}
use Rattle.mesh_model.specs.Complex.{Complex, no_complex, no_layers, fixed_layers, uv_layer, material_layer}
use Rattle.mesh_model.specs.Complex.{smooth_layer}
use Rattle.mesh_model.specs.Values.{number_in, numbers_at, with_numbers, row_given, corner_vals, face_vals}
use Rattle.mesh_model.specs.Tests.{are_layers, is_sound}
use Rattle.mesh_model.specs.Table.{at}
use Rattle.mesh_model.specs.Declaring.{with_all_declared, first_declaration_fault}
use Rattle.mesh_model.specs.Models.{weight, mark, point, square}
use Rattle.mesh_model.specs.declared.layer_decl.LayerDecl.{LayerDecl}
use Rattle.mesh_model.specs.declared.names.Kind.TheVariants.{Verts, Edges, Corners, Faces}
use Rattle.mesh_model.specs.declared.records.CornerRec.{CornerRec}
use Rattle.mesh_model.specs.declared.records.FaceRec.{FaceRec}

-- a layer of so many numbers, whose name has so many bytes
abbrev pub wide : ℕ → Layer
wide n = record { name = codes "wide"; width = n; rule = Mix }

abbrev pub long_name : ℕ → Layer
long_name n = record { name = replicate n 97; width = 1; rule = Copy }

-- layers of each width, and a row of theirs
abbrev pub all_widths : List Layer
all_widths = wide 1 ∷ wide 2 ∷ wide 3 ∷ wide 4 ∷ []

abbrev pub ten : List ℤ
ten = pos 10 ∷ pos 20 ∷ pos 21 ∷ pos 30 ∷ pos 31 ∷ pos 32 ∷ pos 40 ∷ pos 41 ∷ pos 42 ∷ pos 43 ∷ []

-- the numbers of a layer in a row
abbrev pub NumbersFound : Type 0
NumbersFound = (total all_widths ≡ 10) × (number_in all_widths (wide 4) ten ≡ Some (pos 40))
    × (numbers_at all_widths 2 ten ≡ pos 30 ∷ pos 31 ∷ pos 32 ∷ [])
    × (numbers_at all_widths 4 ten ≡ [])
    × (with_numbers all_widths 1 (pos 1 ∷ pos 2 ∷ []) ten
    ≡ pos 10 ∷ pos 1 ∷ pos 2 ∷ pos 30 ∷ pos 31 ∷ pos 32 ∷ pos 40 ∷ pos 41 ∷ pos 42 ∷ pos 43 ∷ [])
    × (number_in (weight ∷ mark ∷ []) mark (pos 5 ∷ pos 6 ∷ pos 7 ∷ []) ≡ Some (pos 7))
    × (number_in (weight ∷ []) mark (pos 5 ∷ pos 6 ∷ []) ≡ None)
    × (number_in (wide 1 ∷ []) (record (wide 1) { rule = Copy }) (pos 10 ∷ []) ≡ None)

-- a complex with these layers of corners, or of faces
abbrev pub cornered : List Layer → Complex
cornered layers = record no_complex { layers = record no_layers { corners = layers } }

abbrev pub faced : List Layer → Complex
faced layers = record no_complex { layers = record no_layers { faces = layers } }

-- rows of which some layers are given: a layer of another width or rule isn't there, and takes zeros
abbrev pub RowsGiven : Type 0
RowsGiven = (row_given ((mark, pos 9 ∷ []) ∷ []) (weight ∷ mark ∷ []) ≡ pos 0 ∷ pos 0 ∷ pos 9 ∷ [])
    × (row_given ((mark, pos 9 ∷ []) ∷ []) (weight ∷ []) ≡ pos 0 ∷ pos 0 ∷ [])
    × (corner_vals (cornered (uv_layer ∷ [])) (pos 7 ∷ pos 8 ∷ []) ≡ pos 7 ∷ pos 8 ∷ [])
    × (corner_vals (cornered []) (pos 7 ∷ pos 8 ∷ []) ≡ [])
    × (corner_vals (cornered (record uv_layer { width = 3 } ∷ [])) (pos 7 ∷ pos 8 ∷ []) ≡ pos 0 ∷ pos 0 ∷ pos 0 ∷ [])
    × (corner_vals (cornered (record uv_layer { rule = Copy } ∷ [])) (pos 7 ∷ pos 8 ∷ []) ≡ pos 0 ∷ pos 0 ∷ [])
    × (corner_vals (cornered (mark ∷ uv_layer ∷ [])) (pos 7 ∷ pos 8 ∷ []) ≡ pos 0 ∷ pos 7 ∷ pos 8 ∷ [])
    × (face_vals (faced fixed_layers.faces) (pos 1) (pos 2) ≡ pos 1 ∷ pos 2 ∷ [])
    × (face_vals (faced (smooth_layer ∷ material_layer ∷ [])) (pos 1) (pos 2) ≡ pos 2 ∷ pos 1 ∷ [])
    × (face_vals (faced []) (pos 1) (pos 2) ≡ [])

-- what a layer set can hold: widths of 1 to 4, names of 1 to 63 bytes, sixteen layers, and no name twice
abbrev pub LayersHeld : Type 0
LayersHeld = (are_layers (wide 0 ∷ []) ≡ false) × (are_layers (wide 1 ∷ []) ≡ true) × (are_layers (wide 4 ∷ []) ≡ true)
    × (are_layers (wide 5 ∷ []) ≡ false)
    × (are_layers (long_name 0 ∷ []) ≡ false) × (are_layers (long_name 1 ∷ []) ≡ true)
    × (are_layers (long_name 63 ∷ []) ≡ true) × (are_layers (long_name 64 ∷ []) ≡ false)
    × (are_layers (mark ∷ weight ∷ mark ∷ []) ≡ false) × (are_layers (mark ∷ weight ∷ []) ≡ true)
    × (are_layers (long_name 1 ∷ long_name 2 ∷ long_name 3 ∷ long_name 4 ∷ long_name 5 ∷ long_name 6 ∷ long_name 7 ∷
    long_name 8
    ∷ long_name 9 ∷ long_name 10 ∷ long_name 11 ∷ long_name 12 ∷ long_name 13 ∷ long_name 14 ∷ long_name 15 ∷ long_name
    16 ∷ []) ≡ true)
    × (are_layers (long_name 1 ∷ long_name 2 ∷ long_name 3 ∷ long_name 4 ∷ long_name 5 ∷ long_name 6 ∷ long_name 7 ∷
    long_name 8 ∷ long_name 9
    ∷ long_name 10 ∷ long_name 11 ∷ long_name 12 ∷ long_name 13 ∷ long_name 14 ∷ long_name 15 ∷ long_name 16 ∷ long_name
    17 ∷ []) ≡ false)

-- declarations of a weight of vertices, a mark of corners, and the fixed layer of faces once more
abbrev pub weight_of_verts : LayerDecl
weight_of_verts = record { kind = Verts; name = codes "weight"; width = 2; rule = Mix }

abbrev pub mark_of_corners : LayerDecl
mark_of_corners = record { kind = Corners; name = codes "mark"; width = 1; rule = Copy }

abbrev pub smooth_of_faces : LayerDecl
smooth_of_faces = record { kind = Faces; name = codes "smooth"; width = 1; rule = Copy }

-- the square with two layers more
abbrev pub declared_square : Complex
declared_square = with_all_declared square (weight_of_verts ∷ mark_of_corners ∷ [])

-- each vertex and each corner has zeros in them, a layer of that name can't be declared twice, and a name may serve for
-- two kinds
abbrev pub LayersDeclared : Type 0
LayersDeclared = (declared_square.layers ≡ record fixed_layers { verts = weight ∷ []; corners = uv_layer ∷ mark ∷ [] })
    × (at declared_square.verts 1 ≡ Some (record (point (pos 4) (pos 0)) { vals = pos 0 ∷ pos 0 ∷ [] }))
    × (option_map (λ (f : FaceRec). map (λ (k : CornerRec). k.vals) f.corners) (at declared_square.faces 0)
    ≡ Some (replicate 4 (pos 0 ∷ pos 0 ∷ pos 0 ∷ [])))
    × (is_sound declared_square ≡ true) × (first_declaration_fault fixed_layers (weight_of_verts ∷ mark_of_corners ∷ [])
    ≡ None)
    × (first_declaration_fault fixed_layers (weight_of_verts ∷ smooth_of_faces ∷ weight_of_verts ∷ [])
    ≡ Some LayerExists)
    × (first_declaration_fault fixed_layers (record smooth_of_faces { kind = Edges } ∷ []) ≡ None)
    × (first_declaration_fault fixed_layers (record weight_of_verts { width = 5 } ∷ []) ≡ Some BadWidth)
