use Rattle.std.proofs.Common.{sym, ap, ◌∙◌}
use Rattle.mesh_model.specs.Table.{least_from}
use Rattle.mesh_model.specs.Complex.{Complex}
use Rattle.mesh_records.specs.ReadOff.{NameLists}
use Rattle.mesh_core.specs.Seen.{now}
use Rattle.mesh_records.specs.ReadOff.{read_off}
use Rattle.mesh_records.proofs.Elements.{name_live}
use Rattle.mesh_records.proofs.ReadBack.{least_none, least_some}
use Rattle.mesh_records.proofs.Stands.{stands_for}
use Rattle.mesh_core.proofs.mesh_shape.MeshShape.edge_from.Goals as goal

pub edge_number-requires : goal.edge_number-requires
edge_number-requires c = name_live c.in-Some.ensures.named c.in-Some.ensures.slot.name c.in-Some.s
    c.in-Some.ensures.slot.here

pub returns-in-None : goal.returns-in-None
returns-in-None c =
    let st = c.self.inside.store in
    let lists : NameLists = record { materials = c.self.inside.materials; libraries = c.self.inside.libraries } in
    let same = (stands_for st c.self.inside.next lists c.self.invariant.whole).edges.same in
    sym (least_none st.edges.names (read_off st c.self.inside.next lists).edges same c.args.least
    c.in-None.ensures.slot)
    ∙ ap (λ (x : Complex). least_from x.edges c.args.least) (ap now c.self.view_is)

pub returns-in-Some : goal.returns-in-Some
returns-in-Some c =
    let st = c.self.inside.store in
    let lists : NameLists = record { materials = c.self.inside.materials; libraries = c.self.inside.libraries } in
    let same = (stands_for st c.self.inside.next lists c.self.invariant.whole).edges.same in
    let l = c.in-Some.ensures.slot in
    sym c.edge_number.ensures ∙ c.in-Some.ensures.named.live l.name c.in-Some.s l.here
    ∙ sym (least_some st.edges.names (read_off st c.self.inside.next lists).edges same c.args.least c.in-Some.s l)
    ∙ ap (λ (x : Complex). least_from x.edges c.args.least) (ap now c.self.view_is)
