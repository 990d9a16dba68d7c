use Rattle.std.proofs.Common.{◌<◌, List, length, sym, ap, ◌∙◌, subst}
use Rattle.std.specs.List.{slice_get}
use Rattle.std.specs.Option.{option_map}
use Rattle.cust_data.specs.Layers.{Layer}
use Rattle.mesh_core.specs.Seen.{now}
use Rattle.mesh_records.proofs.ReadBack.{kind_layers}
use Rattle.mesh_core.proofs.mesh_shape.MeshShape.layer_rule.Goals as goal

pub layer_rule-requires : goal.layer_rule-requires
layer_rule-requires c =
    let P = λ (ls : List Layer). c.args.k < length ls in
    subst P (sym (kind_layers c.self.inside.store c.self.inside.next
    (record { materials = c.self.inside.materials; libraries = c.self.inside.libraries }) (now c.args.self.now)
    c.args.kind c.part_of.result (ap now c.self.view_is) c.part_of.ensures)) c.requires

pub returns : goal.returns
returns c =
    sym (ap (λ (ls : List Layer). option_map (λ (l : Layer). l.rule) (slice_get ls c.args.k))
    (kind_layers c.self.inside.store c.self.inside.next
    (record { materials = c.self.inside.materials; libraries = c.self.inside.libraries }) (now c.args.self.now)
    c.args.kind c.part_of.result (ap now c.self.view_is) c.part_of.ensures))
    ∙ c.layer_rule.ensures
