-- Why a layer is refused.
use Rattle.std.specs.Prelude.{ℕ, nat_le, not, cond, is_some, List, length}
use Rattle.std.specs.declared.option.Option.{Option}
use Rattle.std.specs.declared.option.Option.TheVariants.{None, Some}
use Rattle.cust_data.specs.Layers.{Layer, find_layer, is_layer_name, is_width}
use Rattle.cust_data.specs.declared.fault.LayerFault.{LayerFault}
use Rattle.cust_data.specs.declared.fault.LayerFault.TheVariants.{LayerExists, TooManyLayers, BadName, BadWidth, NoMemory}

-- the number of a fault
abbrev pub code_of : LayerFault → ℕ
code_of LayerExists = 1
code_of TooManyLayers = 2
code_of BadName = 3
code_of BadWidth = 4
code_of NoMemory = 0

-- why a new layer is refused: the first of four causes that holds, and none where it may be added
abbrev pub refusal_of : List Layer → List ℕ → ℕ → Option LayerFault
refusal_of layers name width =
    cond (not (is_layer_name name)) (Some BadName)
    (cond (not (is_width width)) (Some BadWidth)
    (cond (is_some (find_layer layers name)) (Some LayerExists)
    (cond (nat_le 16 (length layers)) (Some TooManyLayers) None)))
