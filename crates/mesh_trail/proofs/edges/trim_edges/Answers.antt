use Rattle.mesh_model.specs.ChangeSet.{same_edge}
use Rattle.mesh_trail.specs.Kept.{edge_of}
use Rattle.mesh_trail.proofs.Tables.{trim_names}
use Rattle.mesh_trail.proofs.edges.trim_edges.Goals as goal

pub returns-clause-names : goal.returns-clause-names
returns-clause-names g c =
    let t = c.table.inside in
    rw (← c.table.view_is) (trim_names edge_of t.width t.values.items same_edge (g.S.Shape.complex c.args.now.now).edges
    t.map.names c.trim_map.new.map.names (rw c.deref.ensures.value at c.trim_map.ensures.trimmed))
