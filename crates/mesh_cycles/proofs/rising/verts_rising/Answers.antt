use Rattle.mesh_store.specs.declared.cells.VertCell.{VertCell}
use Rattle.mesh_cycles.proofs.ByName.{names_once}
use Rattle.mesh_cycles.proofs.rising.verts_rising.Goals as goal

pub returns-clause-once : goal.returns-clause-once
returns-clause-once c = names_once (λ (x : VertCell). x.number) c.args.st.now.verts.cells c.args.st.now.verts.names
    c.vert_slot.ensures.named
