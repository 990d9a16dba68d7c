use Rattle.mesh_store.specs.declared.cells.EdgeCell.{EdgeCell}
use Rattle.mesh_cycles.proofs.ByName.{names_once}
use Rattle.mesh_cycles.proofs.rising.edges_rising.Goals as goal

pub returns-clause-once : goal.returns-clause-once
returns-clause-once c = names_once (λ (x : EdgeCell). x.number) c.args.st.now.edges.cells c.args.st.now.edges.names
    c.edge_slot.ensures.named
