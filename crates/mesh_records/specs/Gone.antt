-- Of the records of a table, some that pass a test are gone.
use Rattle.std.specs.Prelude.{◌≡◌, ◌⊎◌, ◌&&◌, ℕ, Bool, true, not, is_some, List, map, length}
use Rattle.std.specs.declared.option.Option.{Option}
use Rattle.std.specs.declared.option.Option.TheVariants.{None}
use Rattle.std.specs.List.{filter}
use Rattle.mesh_model.specs.Table.{at, passes}
use Rattle.mesh_model.specs.Complex.{Complex}
use Rattle.mesh_model.specs.Incidence.{has_end, uses_edge}
use Rattle.mesh_model.specs.Kernel.{uses_edge_at}
use Rattle.mesh_model.specs.declared.names.VertName.{VertName}
use Rattle.mesh_model.specs.declared.names.EdgeName.{EdgeName}

-- each record is as before, or passed the test and is gone
pub record SomeGone {X : Type 0} (test : X → Bool) (old new : List (Option X)) : Type 0 where
  pub long : length new ≡ length old
  pub each : (k : ℕ) → (at new k ≡ at old k) ⊎ ((at new k ≡ None) × (passes test (at old k) ≡ true))

-- of the edges at a vertex some are gone, and the faces along them; no face that is left has lost an edge, and all else
-- is as before
pub record EdgesGone (v : VertName) (old new : Complex) : Type 0 where
  pub rest : new ≡ record old { edges = new.edges; faces = new.faces }
  pub edges : SomeGone (has_end v) old.edges new.edges
  pub faces : SomeGone (uses_edge_at old v) old.faces new.faces
  pub used : (k : ℕ) (e : EdgeName) → passes (uses_edge e) (at new.faces k) ≡ true
      → at new.edges e.0 ≡ at old.edges e.0

-- an edge at a vertex is gone
abbrev pub is_gone : VertName → Complex → Complex → EdgeName → Bool
is_gone v old new e = passes (has_end v) (at old.edges e.0) && not (is_some (at new.edges e.0))

-- the lists, each without the edges at a vertex that are gone
abbrev pub without_gone : VertName → Complex → Complex → List (List EdgeName) → List (List EdgeName)
without_gone v old new lists = map (filter (λ (e : EdgeName). not (is_gone v old new e))) lists
