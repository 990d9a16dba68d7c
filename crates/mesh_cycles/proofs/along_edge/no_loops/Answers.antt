use Rattle.std.proofs.Common.{[], refl, ap, List}
use Rattle.std.specs.Prelude.{map}
use Rattle.mesh_store.specs.declared.cells.Radial.{Radial}
use Rattle.mesh_cycles.proofs.along_edge.no_loops.Goals as goal

pub returns-clause-none : goal.returns-clause-none
returns-clause-none c = ap (λ (rs : List Radial). map (λ (r : Radial). r.0) rs)
    (c.members_of.ensures.items [] (record { ring = tt; start = refl }))
