use Rattle.std.proofs.Common.{◌≢◌, ◌-◌, Option, sym, ap, ◌∙◌, subst}
use Rattle.mesh_model.specs.Table.{at}
use Rattle.mesh_model.specs.Complex.{Complex}
use Rattle.mesh_model.specs.Kernel.{with_end}
use Rattle.mesh_model.specs.declared.records.EdgeRec.{EdgeRec}
use Rattle.mesh_records.specs.MovesEnd.{end_name, with_moved}
use Rattle.mesh_records.specs.ReadOff.{NameLists, table, disk_at}
use Rattle.mesh_core.specs.Seen.{now, disks}
use Rattle.mesh_records.proofs.ByName.{edges_all}
use Rattle.mesh_records.proofs.Examples.{edge_of_name, vert_of_name}
use Rattle.mesh_records.specs.Room.{none_of_all}
use Rattle.mesh_core.proofs.Kept.{mesh_kept}
use Rattle.mesh_core.proofs.mesh.Mesh.set_end.Goals as goal

pub set_end-requires-clause-edge : goal.set_end-requires-clause-edge
set_end-requires-clause-edge c = edge_of_name c.self.inside.store c.self.inside.next _ (now c.args.self.now) c.args.e.0
    (ap now c.self.view_is) c.requires.edge

pub set_end-requires-clause-vert : goal.set_end-requires-clause-vert
set_end-requires-clause-vert c = vert_of_name c.self.inside.store c.self.inside.next _ (now c.args.self.now) c.args.v.0
    (ap now c.self.view_is) c.requires.vert

pub set_end-requires-clause-differ : goal.set_end-requires-clause-differ
set_end-requires-clause-differ c =
    let P = λ (x : Complex). end_name (1 - c.args.side) (at x.edges c.args.e.0) ≢ c.args.v.0 in
    let Q = λ (o : Option EdgeRec). end_name (1 - c.args.side) o ≢ c.args.v.0 in
    subst Q (edges_all c.self.inside.store c.self.inside.next c.self.invariant.whole.records c.args.e.0)
    (subst P (sym (ap now c.self.view_is)) c.requires.differ)

pub invariant_of-self : goal.invariant_of-self
invariant_of-self c =
    let lists : NameLists = record { materials = c.self.inside.materials; libraries = c.self.inside.libraries } in
    mesh_kept none_of_all c.self.invariant c.set_end.ensures.sets.whole c.set_end.ensures.places
    (ap (λ (x : Complex). x.layers) (c.set_end.ensures.sets.read lists))

pub returns-clause-now : goal.returns-clause-now
returns-clause-now c =
    let lists : NameLists = record { materials = c.self.inside.materials; libraries = c.self.inside.libraries } in
    c.set_end.ensures.sets.read lists
    ∙ ap (λ (x : Complex). with_end x c.args.e c.args.side c.args.v) (ap now c.self.view_is)

pub returns-clause-disks : goal.returns-clause-disks
returns-clause-disks c =
    let before = ap now c.self.view_is in
    let lists = ap disks c.self.view_is in
    let all = edges_all c.self.inside.store c.self.inside.next c.self.invariant.whole.records c.args.e.0 in
    c.set_end.ensures.sets.disks
    ∙ ap (λ (o : Option EdgeRec). with_moved (table (disk_at c.self.inside.store) c.self.inside.next.verts) c.args.e (end_name c.args.side o) c.args.v.0) (sym all)
    ∙ (λ i. with_moved (lists i) c.args.e (end_name c.args.side (at (before i).edges c.args.e.0)) c.args.v.0)
