use Rattle.std.proofs.Common.{◌≡◌, true, sym, ap, ◌∙◌, subst}
use Rattle.mesh_model.specs.Complex.{Complex}
use Rattle.mesh_model.specs.Incidence.{is_loose}
use Rattle.mesh_records.specs.ReadOff.{NameLists}
use Rattle.mesh_records.specs.Changes.{only_without_edge, without_name}
use Rattle.mesh_core.specs.Seen.{now, disks}
use Rattle.mesh_records.proofs.Along.{loose_empty}
use Rattle.mesh_records.proofs.Drops.{DropsAnEdge, drops_an_edge}
use Rattle.mesh_records.proofs.Elements.{name_live}
use Rattle.mesh_records.proofs.Examples.{edge_of_name}
use Rattle.mesh_records.specs.Room.{none_of_all}
use Rattle.mesh_records.proofs.Places.{keeps_without_edge}
use Rattle.mesh_core.proofs.Kept.{mesh_kept}
use Rattle.mesh_core.proofs.mesh.Mesh.remove_edge.Goals as goal

pub slot_of_edge-edge-requires : goal.slot_of_edge-edge-requires
slot_of_edge-edge-requires c = edge_of_name c.self.inside.store c.self.inside.next _ (now c.args.self.now) c.args.e.0
    (ap now c.self.view_is) c.requires.there

pub take_edge-requires-clause-live : goal.take_edge-requires-clause-live
take_edge-requires-clause-live c = name_live c.self.invariant.whole.records.named.edges c.args.e.0 c.slot_of_edge-edge.result
    c.slot_of_edge-edge.ensures

pub take_edge-requires-clause-loose : goal.take_edge-requires-clause-loose
take_edge-requires-clause-loose c =
    let P = λ (x : Complex). is_loose x c.args.e ≡ true in
    let lists : NameLists = record { materials = c.self.inside.materials; libraries = c.self.inside.libraries } in
    loose_empty c.self.inside.store c.self.inside.next lists c.self.invariant.whole c.args.e c.slot_of_edge-edge.result
    c.slot_of_edge-edge.ensures (subst P (sym (ap now c.self.view_is)) c.requires.loose)

dropped : (c : goal.After-take_edge) → DropsAnEdge c.self.inside.store c.take_edge.new.st c.self.inside.next c.args.e
dropped c =
    let P = λ (x : Complex). is_loose x c.args.e ≡ true in
    let lists : NameLists = record { materials = c.self.inside.materials; libraries = c.self.inside.libraries } in
    let empty = loose_empty c.self.inside.store c.self.inside.next lists c.self.invariant.whole c.args.e
    c.slot_of_edge-edge.result c.slot_of_edge-edge.ensures (subst P (sym (ap now c.self.view_is)) c.requires.loose)
    in
    drops_an_edge c.self.inside.store c.take_edge.new.st c.self.inside.next c.args.e c.slot_of_edge-edge.result
    c.self.invariant.whole c.slot_of_edge-edge.ensures empty c.take_edge.ensures

pub invariant_of-self : goal.invariant_of-self
invariant_of-self c =
    let lists : NameLists = record { materials = c.self.inside.materials; libraries = c.self.inside.libraries } in
    mesh_kept none_of_all c.self.invariant (dropped c).whole
    (keeps_without_edge c.self.inside.store c.take_edge.new.st c.slot_of_edge-edge.result c.take_edge.ensures)
    (ap (λ (x : Complex). x.layers) ((dropped c).read lists))

pub returns-clause-now : goal.returns-clause-now
returns-clause-now c =
    let lists : NameLists = record { materials = c.self.inside.materials; libraries = c.self.inside.libraries } in
    (dropped c).read lists ∙ ap (λ (x : Complex). only_without_edge x c.args.e) (ap now c.self.view_is)

pub returns-clause-disks : goal.returns-clause-disks
returns-clause-disks c = (dropped c).disks ∙ ap (without_name c.args.e) (ap disks c.self.view_is)
