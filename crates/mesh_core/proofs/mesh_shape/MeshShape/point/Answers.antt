use Rattle.std.proofs.Common.{Some, sym, ap, ◌∙◌}
use Rattle.std.specs.Option.{option_map}
use Rattle.mesh_model.specs.Table.{at}
use Rattle.mesh_model.specs.Complex.{Complex}
use Rattle.mesh_model.specs.declared.records.Point.{Point}
use Rattle.mesh_model.specs.declared.records.VertRec.{VertRec}
use Rattle.mesh_records.specs.ReadOff.{NameLists}
use Rattle.mesh_core.specs.Seen.{now}
use Rattle.mesh_records.proofs.Elements.{name_live}
use Rattle.mesh_records.proofs.Examples.{vert_of_name}
use Rattle.mesh_records.proofs.ReadBack.{point_read}
use Rattle.mesh_core.proofs.mesh_shape.MeshShape.point.Goals as goal

pub slot_of_vert-vert-requires : goal.slot_of_vert-vert-requires
slot_of_vert-vert-requires c = vert_of_name c.self.inside.store c.self.inside.next _ (now c.args.self.now) c.args.v.0
    (ap now c.self.view_is) c.requires

pub point-requires : goal.point-requires
point-requires c = name_live c.self.invariant.whole.records.named.verts c.args.v.0 c.slot_of_vert-vert.result
    c.slot_of_vert-vert.ensures

pub returns : goal.returns
returns c =
    let lists : NameLists = record { materials = c.self.inside.materials; libraries = c.self.inside.libraries } in
    sym (ap (λ (x : Complex). option_map (λ (r : VertRec). r.point) (at x.verts c.args.v.0)) (ap now c.self.view_is))
    ∙ point_read c.self.inside.store c.self.inside.next lists c.self.invariant.whole c.args.v.0 c.slot_of_vert-vert.result
    c.point.result c.slot_of_vert-vert.ensures c.point.ensures
    ∙ ap (λ (p : Point). Some p) (sym c.point_of.ensures)
