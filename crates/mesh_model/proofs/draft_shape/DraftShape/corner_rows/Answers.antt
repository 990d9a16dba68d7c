use Rattle.std.proofs.Common.{◌∙◌, sym}
use Rattle.cust_data.specs.Layers.{total}
use Rattle.mesh_model.specs.Table.{at}
use Rattle.mesh_model.specs.Complex.{Complex, corners_of}
use Rattle.mesh_model.specs.Draft.{complex_of}
use Rattle.mesh_model.proofs.Reading.{length-rows, wide-linked}
use Rattle.mesh_model.proofs.draft_shape.DraftShape.corner_rows.Goals as goal

pub corner_rows-requires-clause-room : goal.corner_rows-requires-clause-room
corner_rows-requires-clause-room c =
    let old = c.self.inside in
    let whole : Complex = complex_of old.verts old.edges old.faces old.materials old.libraries in
    let wide = wide-linked whole c.args.f.0 c.self.invariant.linked (rw (← c.self.view_is) at c.requires.there) in
    (rw (← c.self.view_is) at c.requires.room)
    ∙ sym (length-rows (corners_of (at old.faces.table c.args.f.0)) (total old.faces.corner_layers) wide)
