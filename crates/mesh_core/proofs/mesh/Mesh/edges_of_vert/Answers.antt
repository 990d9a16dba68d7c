use Rattle.std.proofs.Common.{[], sym, ap, ◌∙◌}
use Rattle.mesh_core.specs.Seen.{Seen}
use Rattle.mesh_core.specs.Seen.{now}
use Rattle.mesh_records.specs.ReadOff.{disk_at, vert_at}
use Rattle.mesh_records.proofs.Tables.{at_table, below_bound}
use Rattle.mesh_records.proofs.Examples.{vert_of_name}
use Rattle.mesh_core.proofs.mesh.Mesh.edges_of_vert.Goals as goal

pub edges_at-requires-clause-named : goal.edges_at-requires-clause-named
edges_at-requires-clause-named c = vert_of_name c.self.inside.store c.self.inside.next _ (now c.args.self.now)
    c.args.v.0 (ap now c.self.view_is) c.requires

pub returns-clause-items : goal.returns-clause-items
returns-clause-items c =
    let m = c.args.self.now in
    let low = (below_bound (vert_at m.stored) m.next.verts c.args.v.0 c.requires).0 in
    c.edges_at.ensures.items ∙ ap (λ (x : Seen). disk_at x.stored c.args.v.0) c.self.view_is
    ∙ sym (at_table [] (disk_at m.stored) m.next.verts c.args.v.0 low)
