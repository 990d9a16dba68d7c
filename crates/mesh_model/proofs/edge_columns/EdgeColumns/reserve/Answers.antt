use Rattle.std.proofs.Common.{arith}
use Rattle.std.proofs.Common.{refl}
use Rattle.mesh_model.proofs.FlatTables.{table_of-edge_grown, kept-more}
use Rattle.mesh_model.proofs.edge_columns.EdgeColumns.reserve.Goals as goal

pub returns-in_err-resize-2-clause-table : goal.returns-in_err-resize-2-clause-table
returns-in_err-resize-2-clause-table c =
    let old = c.self.inside in
    let few = c.self.invariant.few in
    rw (← c.self.view_is, c.in_ok-reserve.ensures.ok, c.in_err-resize-2.ensures.items)
    (table_of-edge_grown old.states.items old.states.items old.ends.items c.resize.new.self.items old.values.rows _
    old.count c.self.invariant
    (omega (arith, c.in_ok-resize.ensures.len))
    (λ k d less. refl)
    (λ k d less. c.in_ok-resize.ensures.by_index.0 k d (omega arith) (let placed = c.self.invariant.placed in
    omega arith))
    (λ k d less. kept-more old.values.rows _ old.count k d (let valued = c.self.invariant.valued in omega arith) less))

pub returns-in_ok-resize-2-clause-table : goal.returns-in_ok-resize-2-clause-table
returns-in_ok-resize-2-clause-table c =
    let old = c.self.inside in
    let few = c.self.invariant.few in
    rw (← c.self.view_is, c.in_ok-reserve.ensures.ok)
    (table_of-edge_grown old.states.items c.resize-then-len-places.new.self.items old.ends.items
    c.resize.new.self.items old.values.rows _ old.count c.self.invariant
    (omega (arith, c.in_ok-resize.ensures.len))
    (λ k d less. c.in_ok-resize-2.ensures.by_index.0 k d (omega arith) (omega arith))
    (λ k d less. c.in_ok-resize.ensures.by_index.0 k d (omega arith) (let placed = c.self.invariant.placed in
    omega arith))
    (λ k d less. kept-more old.values.rows _ old.count k d (let valued = c.self.invariant.valued in omega arith) less))
