use Rattle.std.proofs.Common.{ℕ, sym, ap, ◌∙◌}
use Rattle.mesh_cycles.proofs.Around.{edge_live}
use Rattle.mesh_model.specs.Table.{at, passes}
use Rattle.mesh_model.specs.Incidence.{is_bare, has_end}
use Rattle.mesh_model.specs.Complex.{Complex}
use Rattle.mesh_records.specs.ReadOff.{NameLists}
use Rattle.mesh_records.specs.AtSlots.{StoredEdge, edge_in}
use Rattle.mesh_core.specs.Seen.{now}
use Rattle.mesh_records.specs.ReadOff.{read_off}
use Rattle.mesh_records.proofs.AtVert.{first_around, first_passes, none_bare}
use Rattle.mesh_records.proofs.ByName.{told_number}
use Rattle.mesh_records.proofs.Elements.{name_live, edge_number}
use Rattle.mesh_records.proofs.Examples.{vert_of_name}
use Rattle.mesh_core.proofs.mesh.Mesh.edge_at.Goals as goal

pub slot_of_vert-vert-requires : goal.slot_of_vert-vert-requires
slot_of_vert-vert-requires c = vert_of_name c.self.inside.store c.self.inside.next _ (now c.args.self.now) c.args.v.0
    (ap now c.self.view_is) c.requires

pub first_edge-requires : goal.first_edge-requires
first_edge-requires c = name_live c.self.invariant.whole.records.named.verts c.args.v.0 c.slot_of_vert-vert.result
    c.slot_of_vert-vert.ensures

pub edge_number-requires : goal.edge_number-requires
edge_number-requires c =
    let lists : NameLists = record { materials = c.self.inside.materials; libraries = c.self.inside.libraries } in
    edge_live c.self.inside.store c.self.invariant.whole.cycles.cycles c.slot_of_vert-vert.result.0 c.in-Some.e
    (first_around c.self.inside.store c.self.inside.next lists c.self.invariant.whole c.args.v c.slot_of_vert-vert.result
    c.slot_of_vert-vert.ensures c.in-Some.e c.in-Some.ensures)

pub returns-in-None : goal.returns-in-None
returns-in-None c =
    let lists : NameLists = record { materials = c.self.inside.materials; libraries = c.self.inside.libraries } in
    sym (ap (λ (x : Complex). is_bare x c.args.v) (ap now c.self.view_is))
    ∙ none_bare c.self.inside.store c.self.inside.next lists c.self.invariant.whole c.args.v c.slot_of_vert-vert.result
    c.slot_of_vert-vert.ensures c.in-None.ensures

pub returns-in-Some : goal.returns-in-Some
returns-in-Some c =
    let st = c.self.inside.store in
    let lists : NameLists = record { materials = c.self.inside.materials; libraries = c.self.inside.libraries } in
    let named = told_number (λ (y : StoredEdge). y.number) (edge_in st c.in-Some.e.0) c.edge_number.result
    (edge_number st c.in-Some.e.0 ∙ c.edge_number.ensures) in
    sym (ap (λ (x : Complex). passes (has_end c.args.v) (at x.edges c.edge_number.result)) (ap now c.self.view_is))
    ∙ ap (λ (k : ℕ). passes (has_end c.args.v) (at (read_off st c.self.inside.next lists).edges k)) (sym named)
    ∙ first_passes st c.self.inside.next lists c.self.invariant.whole c.args.v c.slot_of_vert-vert.result
    c.slot_of_vert-vert.ensures c.in-Some.e c.in-Some.ensures
