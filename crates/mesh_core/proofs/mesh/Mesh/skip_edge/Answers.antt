use Rattle.std.proofs.Common.{None, length, refl, ap, ◌∙◌, arith}
use Rattle.mesh_model.specs.Complex.{Complex}
use Rattle.mesh_core.specs.Seen.{Seen, now}
use Rattle.mesh_records.specs.Loading.{with_edge_name}
use Rattle.mesh_records.specs.ReadOff.{NameLists, edge_at}
use Rattle.mesh_records.specs.Room.{none_of_all}
use Rattle.mesh_records.proofs.Places.{keeps_same}
use Rattle.mesh_records.proofs.Skipped.{skips_edge}
use Rattle.mesh_records.proofs.Tables.{length_table}
use Rattle.mesh_core.proofs.Kept.{mesh_kept}
use Rattle.mesh_core.proofs.mesh.Mesh.skip_edge.Goals as goal

pub invariant_of-self : goal.invariant_of-self
invariant_of-self c =
    let long = length_table (edge_at c.args.self.now.stored) c.args.self.now.next.edges in
    let same = ap (λ (m : Seen). m.next.edges) c.self.view_is in
    let names = ap (λ (m : Seen). length m.stored.edges.names) c.self.view_is in
    let limit = c.requires.limit in
    let reach = c.requires.reach in
    mesh_kept none_of_all c.self.invariant
    (skips_edge c.self.inside.store c.self.inside.next c.self.invariant.whole (omega arith) (omega arith)).whole
    (keeps_same c.self.inside.store c.self.inside.store refl) refl

pub returns-clause-now : goal.returns-clause-now
returns-clause-now c =
    let lists : NameLists = record { materials = c.self.inside.materials; libraries = c.self.inside.libraries } in
    let long = length_table (edge_at c.args.self.now.stored) c.args.self.now.next.edges in
    let same = ap (λ (m : Seen). m.next.edges) c.self.view_is in
    let names = ap (λ (m : Seen). length m.stored.edges.names) c.self.view_is in
    let limit = c.requires.limit in
    let reach = c.requires.reach in
    (skips_edge c.self.inside.store c.self.inside.next c.self.invariant.whole (omega arith) (omega arith)).read lists
    ∙ ap (λ (x : Complex). with_edge_name x None) (ap now c.self.view_is)
