-- What an index of edges knows.
use Rattle.std.specs.Prelude.{◌≡◌, ◌==◌, ◌≤◌, Bool, ◌&&◌, min, max, List, length, take}
use Rattle.std.specs.HashMap.{get}
use Rattle.std.specs.declared.option.Option.{Option}
use Rattle.mesh_model.specs.Incidence.{edge_joining}
use Rattle.mesh_model.specs.declared.names.VertName.{VertName}
use Rattle.mesh_model.specs.declared.records.EdgeRec.{EdgeRec}
use Rattle.mesh_model.specs.declared.edge_index.EdgeKey.{EdgeKey}
use Rattle.mesh_model.specs.declared.edge_index.EdgeIndex.{EdgeIndex}

-- the key of two vertices, whichever comes first
abbrev pub key_of : VertName → VertName → EdgeKey
key_of a b = record { lesser = min a.0 b.0; greater = max a.0 b.0 }

abbrev pub same_key : EdgeKey → EdgeKey → Bool
same_key k l = (k.lesser == l.lesser) && (k.greater == l.greater)

-- an index tells the least edge between any two vertices, of the first edges of a table
pub record Knows (index : EdgeIndex) (edges : List (Option EdgeRec)) : Type 0 where
  pub known : index.known ≤ length edges
  pub least : (v w : VertName) → get same_key index.least (key_of v w) ≡ edge_joining (take index.known edges) v w
