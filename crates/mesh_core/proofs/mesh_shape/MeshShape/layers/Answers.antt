use Rattle.std.proofs.Common.{List, length, ap, ◌∙◌}
use Rattle.cust_data.specs.Layers.{Layer}
use Rattle.mesh_core.specs.Seen.{now}
use Rattle.mesh_records.proofs.ReadBack.{kind_layers}
use Rattle.mesh_core.proofs.mesh_shape.MeshShape.layers.Goals as goal

pub returns : goal.returns
returns c = c.layers.ensures ∙ ap (λ (ls : List Layer). length ls)
    (kind_layers c.self.inside.store c.self.inside.next (record
    { materials = c.self.inside.materials; libraries = c.self.inside.libraries }) (now c.args.self.now) c.args.kind
    c.part_of.result (ap now c.self.view_is) c.part_of.ensures)
