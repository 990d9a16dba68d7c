-- Pairs of vertices.
use Rattle.std.specs.Prelude.{ℕ, List, map, if◌then◌else◌}
use Rattle.std.specs.declared.option.Option.{Option}
use Rattle.std.specs.declared.option.Option.TheVariants.{None, Some}
use Rattle.mesh_model.specs.Valid.{are_distinct}
use Rattle.mesh_model.specs.declared.names.VertName.{VertName}
use Rattle.op_slots.specs.declared.mapping.Pair.{Pair}

-- a source's number and its target as a pair
abbrev pub pair_of : ℕ × VertName → Pair
pair_of e = record { source = record { 0 = e.0 }; target = e.1 }

abbrev pub pairs_of : List (ℕ × VertName) → List Pair
pairs_of es = map pair_of es

-- the vertices that went somewhere
abbrev pub sources : List Pair → List VertName
sources pairs = map (λ (p : Pair). p.source) pairs

-- where they went
abbrev pub targets : List Pair → List VertName
targets pairs = map (λ (p : Pair). p.target) pairs

-- pairs as a mapping, or None where a source stands twice
abbrev pub mapping_of : List Pair → Option (List Pair)
mapping_of pairs = if are_distinct (sources pairs) then Some pairs else None
