use Rattle.std.proofs.Common.{sym, ap, ◌∙◌}
use Rattle.mesh_model.specs.Complex.{Complex}
use Rattle.mesh_model.specs.Incidence.{edge_joining}
use Rattle.mesh_core.specs.Seen.{now}
use Rattle.mesh_records.proofs.Elements.{name_live}
use Rattle.mesh_records.proofs.Examples.{vert_of_name}
use Rattle.mesh_records.proofs.FindEdge.{joined_live, none_joining, first_joining}
use Rattle.mesh_core.proofs.mesh.Mesh.find_edge.Goals as goal

pub slot_of_vert-from-requires : goal.slot_of_vert-from-requires
slot_of_vert-from-requires c = vert_of_name c.self.inside.store c.self.inside.next _ (now c.args.self.now) c.args.a.0
    (ap now c.self.view_is) c.requires.a

pub slot_of_vert-to-requires : goal.slot_of_vert-to-requires
slot_of_vert-to-requires c = vert_of_name c.self.inside.store c.self.inside.next _ (now c.args.self.now) c.args.b.0
    (ap now c.self.view_is) c.requires.b

pub edge_between-requires-clause-cycles : goal.edge_between-requires-clause-cycles
edge_between-requires-clause-cycles c = c.self.invariant.whole.cycles.cycles

pub edge_between-requires-clause-live_a : goal.edge_between-requires-clause-live_a
edge_between-requires-clause-live_a c =
    name_live c.self.invariant.whole.records.named.verts c.args.a.0 c.slot_of_vert-from.result c.slot_of_vert-from.ensures

pub edge_between-requires-clause-live_b : goal.edge_between-requires-clause-live_b
edge_between-requires-clause-live_b c =
    name_live c.self.invariant.whole.records.named.verts c.args.b.0 c.slot_of_vert-to.result c.slot_of_vert-to.ensures

pub edge_between-requires-clause-whole_a : goal.edge_between-requires-clause-whole_a
edge_between-requires-clause-whole_a c = c.self.invariant.whole.cycles.complete.disks c.slot_of_vert-from.result.0

pub edge_between-requires-clause-whole_b : goal.edge_between-requires-clause-whole_b
edge_between-requires-clause-whole_b c = c.self.invariant.whole.cycles.complete.disks c.slot_of_vert-to.result.0

pub edge_number-requires : goal.edge_number-requires
edge_number-requires c = joined_live c.self.inside.store c.slot_of_vert-from.result.0 c.slot_of_vert-to.result.0
    c.in-Some.e c.in-Some.ensures.joined

pub returns-in-None : goal.returns-in-None
returns-in-None c =
    sym (none_joining c.self.inside.store c.self.inside.next c.self.invariant.whole c.args.a c.args.b
    c.slot_of_vert-from.result c.slot_of_vert-to.result c.slot_of_vert-from.ensures c.slot_of_vert-to.ensures
    c.in-None.ensures)
    ∙ ap (λ (x : Complex). edge_joining x.edges c.args.a c.args.b) (ap now c.self.view_is)

pub returns-in-Some : goal.returns-in-Some
returns-in-Some c =
    sym (first_joining c.self.inside.store c.self.inside.next c.self.invariant.whole c.args.a c.args.b
    c.slot_of_vert-from.result c.slot_of_vert-to.result c.slot_of_vert-from.ensures c.slot_of_vert-to.ensures
    c.in-Some.e c.edge_number.result c.in-Some.ensures c.edge_number.ensures)
    ∙ ap (λ (x : Complex). edge_joining x.edges c.args.a c.args.b) (ap now c.self.view_is)
