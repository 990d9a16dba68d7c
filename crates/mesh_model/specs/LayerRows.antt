-- Rows of layers, the first of which may be still to be made.
use Rattle.std.specs.Prelude.{◌≡◌, List, []}
use Rattle.cust_data.specs.Layers.{Layer, LayerTable}
use Rattle.mesh_model.specs.Complex.{fixed_layers}
use Rattle.mesh_model.specs.declared.layer_rows.Due.{Due}
use Rattle.mesh_model.specs.declared.layer_rows.Due.TheVariants.{Nothing, CornerLayers, FaceLayers}

-- the layers that are still to be made
abbrev pub due_layers : Due → List Layer
due_layers Nothing = []
due_layers CornerLayers = fixed_layers.corners
due_layers FaceLayers = fixed_layers.faces

abbrev pub no_rows : LayerTable
no_rows = record { layers = []; rows = [] }

-- the table with the layers that are still to be made
abbrev pub with_due : Due → LayerTable → LayerTable
with_due Nothing made = made
with_due CornerLayers made = record { layers = due_layers CornerLayers; rows = [] }
with_due FaceLayers made = record { layers = due_layers FaceLayers; rows = [] }

-- where layers are still to be made, no other is there
abbrev pub IsDue : Due → LayerTable → Type 0
IsDue Nothing made = Unit {0}
IsDue CornerLayers made = made ≡ no_rows
IsDue FaceLayers made = made ≡ no_rows
