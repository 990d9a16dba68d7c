use Rattle.std.proofs.Common.{◌≡◌, [], ◌∷◌, take}
use Rattle.mesh_model.specs.Complex.{uv_layer}
use Rattle.mesh_model.specs.Values.{row_given}
use Rattle.mesh_model.proofs.draft_rows.corner_row.Given as goal

abbrev pub invariant-loop-k : goal.invariant-loop-k
invariant-loop-k l = l.row ≡ row_given ((uv_layer, l.uv) ∷ []) (take l.k l.layers.layers)
