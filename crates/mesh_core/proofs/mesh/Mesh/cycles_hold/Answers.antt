use Rattle.std.proofs.Common.{subst}
use Rattle.mesh_records.specs.ReadOff.{NameLists}
use Rattle.mesh_core.specs.Seen.{CyclesHold}
use Rattle.mesh_records.proofs.Stands.{stands_for}
use Rattle.mesh_core.proofs.mesh.Mesh.cycles_hold.Goals as goal

pub returns : goal.returns
returns c =
    let lists : NameLists = record { materials = c.self.inside.materials; libraries = c.self.inside.libraries } in
    subst CyclesHold c.self.view_is (stands_for c.self.inside.store c.self.inside.next lists c.self.invariant.whole)
