-- Rows of layers, the first of which may be still to be made.
use Rattle.std.proofs.Common.{◌≡◌, ℕ, ◌<◌, ℤ, pos, [], length, get_or, sym, ap, ◌∙◌, arith, Some}
use Rattle.std.specs.List.{slice_get}
use Rattle.std.proofs.lemmas.Option.{slice_get-get_or}
use Rattle.cust_data.specs.Layers.{LayerTable, total, row_of, IsTable}
use Rattle.mesh_model.specs.LayerRows.{with_due}
use Rattle.mesh_model.specs.declared.layer_rows.Due.{Due}
use Rattle.mesh_model.specs.declared.layer_rows.Due.TheVariants.{Nothing, CornerLayers, FaceLayers}

-- a number of a row that is there
pub number-due : (due : Due) (made : LayerTable) (place k : ℕ) (v : ℤ) → place < length (with_due due made).rows
    → k < total (with_due due made).layers → IsTable made → v ≡ get_or (row_of made place) k (pos 0)
    → slice_get (row_of (with_due due made) place) k ≡ Some v
number-due Nothing made place k v less within is read =
    let long : length (row_of made place) ≡ total made.layers = is.fitted place [] less in
    slice_get-get_or (row_of made place) k (pos 0) (omega arith) ∙ ap (λ (x : ℤ). Some x) (sym read)
number-due CornerLayers made place k v less within is read = absurd (omega arith)
number-due FaceLayers made place k v less within is read = absurd (omega arith)
