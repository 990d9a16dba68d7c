use Rattle.std.proofs.Common.{length, ap, arith}
use Rattle.mesh_store.proofs.Names.{first_live}
use Rattle.mesh_store.specs.declared.cells.EdgeCell.{EdgeCell}
use Rattle.mesh_cycles.specs.Left.{edges_rising_left}
use Rattle.mesh_cycles.proofs.ByName.{none_by_name, next_by_name, yields_none}
use Rattle.mesh_cycles.proofs.rising.EdgesRisingIterator.next.Goals as goal

pub returns-in_err-slot-clause-steps : goal.returns-in_err-slot-clause-steps
returns-in_err-slot-clause-steps c =
    yields_none edges_rising_left c.args.self.now c.from_residual.result (cc)
    (none_by_name c.args.self.now.st.now.edges.names c.args.self.now.from c.in_err-slot.ensures.slot)

pub edge_number-requires : goal.edge_number-requires
edge_number-requires c = first_live c.in_ok-slot.ensures.named c.args.self.now.from c.in_ok-slot.slot
    c.in_ok-slot.ensures.slot

pub returns-clause-steps : goal.returns-clause-steps
returns-clause-steps c =
    let st = c.args.self.now.st.now in
    next_by_name (λ (x : EdgeCell). x.number) st.edges.cells st.edges.names c.args.self.now.from c.in_ok-slot.slot
    c.edge_number.result
    c.in_ok-slot.ensures.named c.in_ok-slot.ensures.slot c.edge_number.ensures

pub returns-clause-goes : goal.returns-clause-goes
returns-clause-goes c =
    let st = c.args.self.now.st.now in
    let step = next_by_name (λ (x : EdgeCell). x.number) st.edges.cells st.edges.names c.args.self.now.from
    c.in_ok-slot.slot c.edge_number.result
    c.in_ok-slot.ensures.named c.in_ok-slot.ensures.slot c.edge_number.ensures in
    record { on = λ h. (tt, tt, (let n = ap length step in omega arith)); keeps = tt; rests = λ h. tt }
