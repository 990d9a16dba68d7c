-- Lists of different members: one more, one less, and what leads once around a ring.
use Rattle.std.specs.Prelude.{◌==◌, ◌&&◌, ℕ, Bool, not, if◌then◌else◌, List, [], ◌∷◌, ◌++◌, reverse}
use Rattle.std.specs.declared.option.Option.{Option}
use Rattle.std.specs.declared.option.Option.TheVariants.{None, Some}
use Rattle.std.specs.List.{filter}
use Rattle.link_ring.specs.Ring.{LinkMap}
use Rattle.link_ring.specs.Walk.{path}
use Rattle.mesh_store.specs.declared.cells.Dart.{Dart}
use Rattle.mesh_store.specs.declared.cells.Radial.{Radial}
use Rattle.mesh_store.specs.declared.cells.Round.{Round}

-- two darts are one
abbrev pub same_dart : Dart → Dart → Bool
same_dart a b = (a.edge.0 == b.edge.0) && (a.side == b.side)

-- two loops around edges are one
abbrev pub same_radial : Radial → Radial → Bool
same_radial a b = a.0.0 == b.0.0

-- two loops around faces are one
abbrev pub same_round : Round → Round → Bool
same_round a b = a.0.0 == b.0.0

-- what a ring's links lead through from its first member on, once around, and at most one member more than a number
abbrev pub ring_list : {K : Type 0} → (K → K → Bool) → LinkMap K → ℕ → Option K → List K
ring_list same m limit None = []
ring_list same m limit (Some k) = k ∷ path same m k limit k

-- the list without a member
abbrev pub without : {K : Type 0} → (K → K → Bool) → K → List K → List K
without same k xs = filter (λ x. not (same x k)) xs

-- the list with k right behind a member
abbrev pub with_behind : {K : Type 0} → (K → K → Bool) → K → K → List K → List K
with_behind same place k [] = []
with_behind same place k (x ∷ xs) = if same x place then x ∷ k ∷ xs else x ∷ with_behind same place k xs

-- the list from a member on
abbrev pub from_member : {K : Type 0} → (K → K → Bool) → K → List K → List K
from_member same k [] = []
from_member same k (x ∷ xs) = if same x k then x ∷ xs else from_member same k xs

-- the list up to a member
abbrev pub before_member : {K : Type 0} → (K → K → Bool) → K → List K → List K
before_member same k [] = []
before_member same k (x ∷ xs) = if same x k then [] else x ∷ before_member same k xs

-- a circle's list, read from a member on
abbrev pub turned_to : {K : Type 0} → (K → K → Bool) → K → List K → List K
turned_to same k xs = from_member same k xs ++ before_member same k xs

-- a circle's list, read from its first member on the other way round
abbrev pub reversed : {K : Type 0} → List K → List K
reversed [] = []
reversed (x ∷ xs) = x ∷ reverse xs
