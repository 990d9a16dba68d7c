use Rattle.mesh_model.specs.ChangeSet.{same_vert}
use Rattle.mesh_trail.specs.Kept.{vert_of}
use Rattle.mesh_trail.proofs.Tables.{trim_names}
use Rattle.mesh_trail.proofs.verts.trim_verts.Goals as goal

pub returns-clause-names : goal.returns-clause-names
returns-clause-names g c =
    let t = c.table.inside in
    rw (← c.table.view_is) (trim_names vert_of t.width t.values.items same_vert (g.S.Shape.complex c.args.now.now).verts
    t.map.names c.trim_map.new.map.names (rw c.deref.ensures.value at c.trim_map.ensures.trimmed))
