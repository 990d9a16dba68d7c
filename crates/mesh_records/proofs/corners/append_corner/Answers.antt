use Rattle.std.proofs.Common.{ℤ, List, ap, ◌∙◌}
use Rattle.cust_data.specs.Layers.{LayerTable, with_row}
use Rattle.mesh_store.specs.Parts.{change_table}
use Rattle.mesh_store.specs.declared.layers.Part.TheVariants.{Loop}
use Rattle.mesh_records.proofs.Appended.{whole_but, appends_corner}
use Rattle.mesh_records.proofs.Elements.{name_live}
use Rattle.mesh_records.proofs.Places.{keeps_corner}
use Rattle.mesh_records.proofs.corners.append_corner.Goals as goal

pub put_corner-requires-clause-edge : goal.put_corner-requires-clause-edge
put_corner-requires-clause-edge c = name_live c.requires.whole.records.named.edges c.args.corner.now.edge.0
    c.slot_of_edge-e.result c.slot_of_edge-e.ensures

pub put_corner-requires-clause-face : goal.put_corner-requires-clause-face
put_corner-requires-clause-face c = name_live c.requires.whole.records.named.faces c.args.f.0 c.slot_of_face-face.result
    c.slot_of_face-face.ensures

pub returns-clause-appends : goal.returns-clause-appends
returns-clause-appends c =
    let p = c.put_corner.ensures in
    appends_corner c.args.st.now p.bare c.args.next c.args.f c.slot_of_face-face.result c.slot_of_vert-v.result
    c.slot_of_edge-e.result c.put_corner.result (whole_but c.args.st.now c.args.next c.args.f c.requires.whole)
    c.slot_of_face-face.ensures c.requires.few c.args.corner.now c.slot_of_vert-v.ensures c.slot_of_edge-e.ensures
    p.puts c.requires.wide c.put_corner.new.st (p.writes ∙ ap (λ (row : List ℤ). change_table Loop
    (λ (t : LayerTable). with_row t c.put_corner.result.0 row) p.bare) c.as_slice.ensures)

pub returns-clause-places : goal.returns-clause-places
returns-clause-places c = keeps_corner c.args.st.now c.put_corner.new.st c.slot_of_face-face.result
    c.slot_of_vert-v.result c.slot_of_edge-e.result _ c.put_corner.result c.put_corner.ensures
