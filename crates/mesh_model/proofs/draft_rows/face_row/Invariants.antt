use Rattle.std.proofs.Common.{◌≡◌, [], ◌∷◌, take}
use Rattle.mesh_model.specs.Complex.{material_layer, smooth_layer}
use Rattle.mesh_model.specs.Values.{row_given}
use Rattle.mesh_model.proofs.draft_rows.face_row.Given as goal

abbrev pub invariant-loop-k : goal.invariant-loop-k
invariant-loop-k l =
    l.row ≡ row_given ((material_layer, l.material ∷ []) ∷ (smooth_layer, l.smooth ∷ []) ∷ [])
    (take l.k l.layers.layers)
