-- Elements of each kind, by name.
use Rattle.std.specs.Prelude.{◌==◌, Bool, List, []}
use Rattle.std.specs.List.{list_any}
use Rattle.mesh_model.specs.declared.names.VertName.{VertName}
use Rattle.mesh_model.specs.declared.names.EdgeName.{EdgeName}
use Rattle.mesh_model.specs.declared.names.FaceName.{FaceName}

-- names of each kind
pub record Elements : Type 0 where
  pub verts : List VertName
  pub edges : List EdgeName
  pub faces : List FaceName

-- no name of any kind
abbrev pub no_elements : Elements
no_elements = record { verts = []; edges = []; faces = [] }

-- a vertex is among some others
abbrev pub is_among : List VertName → VertName → Bool
is_among vs v = list_any (λ (w : VertName). w.0 == v.0) vs
