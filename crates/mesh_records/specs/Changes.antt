-- How a complex and its disk lists change.
use Rattle.std.specs.Prelude.{ℕ, ◌==◌, Bool, not, List, [], ◌∷◌, ◌++◌, map, take, drop, reverse, slice_set, slice_index_or}
use Rattle.std.specs.List.{filter, list_any}
use Rattle.mesh_model.specs.Table.{at, passes, erase}
use Rattle.mesh_model.specs.Complex.{Complex}
use Rattle.mesh_model.specs.Incidence.{has_end, uses_vert}
use Rattle.mesh_model.specs.declared.names.VertName.{VertName}
use Rattle.mesh_model.specs.declared.names.EdgeName.{EdgeName}
use Rattle.mesh_model.specs.declared.records.CornerRec.{CornerRec}

-- the lists with x last in one of them
abbrev pub with_last : {X : Type 0} → List (List X) → ℕ → X → List (List X)
with_last lists k x = slice_set lists k (slice_index_or lists k [] ++ x ∷ [])

-- the complex without an edge that no face uses; its name stays given
abbrev pub only_without_edge : Complex → EdgeName → Complex
only_without_edge c e = record c { edges = erase c.edges e.0 }

-- the lists, each without an edge
abbrev pub without_name : EdgeName → List (List EdgeName) → List (List EdgeName)
without_name e lists = map (filter (λ (x : EdgeName). not (x.0 == e.0))) lists

-- the complex without a vertex that nothing names; its name stays given
abbrev pub only_without_vert : Complex → VertName → Complex
only_without_vert c v = record c { verts = erase c.verts v.0 }

-- no face has a corner at a vertex
abbrev pub has_no_corner : Complex → VertName → Bool
has_no_corner c v = not (list_any (passes (uses_vert v)) c.faces)

-- the lists, each without the edges that a complex has at a vertex
abbrev pub without_edges_at : Complex → VertName → List (List EdgeName) → List (List EdgeName)
without_edges_at c v lists = map (filter (λ (x : EdgeName). not (passes (has_end v) (at c.edges x.0)))) lists

-- a list from a position on, and then what stands before it
abbrev pub turned : {X : Type 0} → ℕ → List X → List X
turned i xs = drop i xs ++ take i xs

-- a corner along another edge
abbrev pub along_edge : EdgeName → CornerRec → CornerRec
along_edge e k = record k { edge = e }

-- the first corner put behind the others, along another edge
abbrev pub shifted_once : EdgeName → List CornerRec → List CornerRec
shifted_once e corners = drop 1 corners ++ map (along_edge e) (take 1 corners)

-- a list the other way round, whose first element stays first
abbrev pub backwards : {X : Type 0} → List X → List X
backwards xs = take 1 xs ++ reverse (drop 1 xs)
