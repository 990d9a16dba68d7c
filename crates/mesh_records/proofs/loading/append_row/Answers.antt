use Rattle.raw_pool.specs.declared.pool.Slot.{Slot}
use Rattle.mesh_model.specs.declared.records.CornerRec.{CornerRec}
use Rattle.mesh_records.specs.Corners.{IsWholeBut}
use Rattle.mesh_records.proofs.Appended.{appends_corner}
use Rattle.mesh_records.proofs.Elements.{name_live}
use Rattle.mesh_records.proofs.Faces.{read_some}
use Rattle.mesh_records.proofs.Places.{keeps_corner}
use Rattle.mesh_records.proofs.loading.append_row.Goals as goal

pub slot_of_face-face-requires : goal.slot_of_face-face-requires
slot_of_face-face-requires c = c.requires.there

pub slot_of_vert-v-requires : goal.slot_of_vert-v-requires
slot_of_vert-v-requires c = c.requires.vert

pub slot_of_edge-e-requires : goal.slot_of_edge-e-requires
slot_of_edge-e-requires c = c.requires.edge

pub put_corner-requires-clause-edge : goal.put_corner-requires-clause-edge
put_corner-requires-clause-edge c = name_live c.requires.whole.records.named.edges c.args.edge.0 c.slot_of_edge-e.result
    c.slot_of_edge-e.ensures

pub put_corner-requires-clause-face : goal.put_corner-requires-clause-face
put_corner-requires-clause-face c = name_live c.requires.whole.records.named.faces c.args.f.0
    c.slot_of_face-face.result c.slot_of_face-face.ensures

pub returns-clause-appends : goal.returns-clause-appends
returns-clause-appends c =
    let w = c.requires.whole in
    let corner : CornerRec = record { vert = c.args.vert; edge = c.args.edge; vals = c.args.row.now } in
    let but : IsWholeBut c.args.f c.args.st.now c.args.next = record {
      nearly = record { records = w.records; cycles = w.cycles; values = w.values; sizes = w.sizes };
      others = λ j r ne is. read_some c.args.st.now w.records.named.faces w.some j r is;
      corners = w.corners;
    } in
    let p = c.put_corner.ensures in
    appends_corner c.args.st.now p.bare c.args.next c.args.f c.slot_of_face-face.result c.slot_of_vert-v.result
    c.slot_of_edge-e.result c.put_corner.result but c.slot_of_face-face.ensures c.requires.few corner
    c.slot_of_vert-v.ensures c.slot_of_edge-e.ensures p.puts c.requires.wide c.put_corner.new.st p.writes

pub returns-clause-places : goal.returns-clause-places
returns-clause-places c = keeps_corner c.args.st.now c.put_corner.new.st c.slot_of_face-face.result
    c.slot_of_vert-v.result c.slot_of_edge-e.result _ c.put_corner.result c.put_corner.ensures
