use Rattle.mesh_records.proofs.Elements.{loop_live}
use Rattle.mesh_records.proofs.Owners.{loop_vert, loop_edge}
use Rattle.mesh_records.proofs.ReadBack.{corner_names}
use Rattle.mesh_records.proofs.readers.corner_at.Goals as goal

pub loop_vert-v-requires : goal.loop_vert-v-requires
loop_vert-v-requires c = loop_live c.args.st.now c.args.l.0 c.requires.live

pub loop_edge-e-requires : goal.loop_edge-e-requires
loop_edge-e-requires c = loop_live c.args.st.now c.args.l.0 c.requires.live

pub vert_number-requires : goal.vert_number-requires
vert_number-requires c = loop_vert c.args.st.now c.requires.linked c.args.l c.loop_vert-v.result c.loop_vert-v.ensures

pub edge_number-requires : goal.edge_number-requires
edge_number-requires c = loop_edge c.args.st.now c.requires.linked c.args.l c.loop_edge-e.result c.loop_edge-e.ensures

pub returns : goal.returns
returns c = corner_names c.args.st.now c.args.l c.loop_vert-v.result c.loop_edge-e.result c.vert_number.result
    c.edge_number.result c.loop_vert-v.ensures c.loop_edge-e.ensures c.vert_number.ensures c.edge_number.ensures
