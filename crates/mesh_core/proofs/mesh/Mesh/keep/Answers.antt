use Rattle.std.proofs.Common.{ap}
use Rattle.mesh_model.specs.Complex.{Complex}
use Rattle.mesh_records.specs.ReadOff.{NameLists}
use Rattle.mesh_core.specs.Seen.{now}
use Rattle.mesh_core.proofs.Kept.{kept_becomes, widths_same}
use Rattle.mesh_core.proofs.mesh.Mesh.keep.Goals as goal

pub between-requires : goal.between-requires
between-requires c =
    let lists : NameLists = record { materials = c.self.inside.materials; libraries = c.self.inside.libraries } in
    let b = kept_becomes c.self.inside.base c.in-Some.base c.self.invariant.back c.in-Some.is in
    widths_same c.self.inside.store lists c.in-Some.base (now c.args.self.now) b
    (ap (λ (x : Complex). x.layers) (ap now c.self.view_is))
