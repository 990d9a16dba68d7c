use Rattle.std.proofs.Common.{◌≡◌, true, take}
use Rattle.std.specs.List.{list_all}
use Rattle.mesh_model.specs.Table.{allows}
use Rattle.mesh_core.specs.Seen.{now}
use Rattle.mesh_core.proofs.Losing.{lets_go}
use Rattle.mesh_core.proofs.mesh.Mesh.can_lose_vert.Given as goal

-- no face so far keeps the vertex
abbrev pub invariant-loop-f : goal.invariant-loop-f
invariant-loop-f l = list_all (allows (lets_go (now l.self) l.v)) (take l.f (now l.self).faces) ≡ true
