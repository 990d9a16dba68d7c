use Rattle.mesh_store.specs.declared.cells.FaceCell.{FaceCell}
use Rattle.mesh_cycles.proofs.ByName.{names_once}
use Rattle.mesh_cycles.proofs.rising.faces_rising.Goals as goal

pub returns-clause-once : goal.returns-clause-once
returns-clause-once c = names_once (λ (x : FaceCell). x.number) c.args.st.now.faces.cells c.args.st.now.faces.names
    c.face_slot.ensures.named
