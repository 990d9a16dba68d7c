use Rattle.std.proofs.Common.{◌≡◌, rules, List, length, ap, sym, ◌∙◌}
use Rattle.std.specs.Prelude.{slice_set}
use Rattle.raw_pool.specs.declared.pool.Slot.{Slot}
use Rattle.mesh_store.specs.Stored.{change_edge, with_ends}
use Rattle.mesh_cycles.proofs.Besides.{bare_pools}
use Rattle.mesh_records.proofs.EndMoved.{EndCell, end_cell, cycles_two, end_two, alone_two, moves_end}
use Rattle.mesh_records.proofs.Owners.{end_live}
use Rattle.mesh_records.proofs.moving.move_end.Goals as goal

pub disk_remove-requires-clause-live : goal.disk_remove-requires-clause-live
disk_remove-requires-clause-live c = end_live c.args.st.now c.requires.linked c.args.e c.args.side c.requires.side
    c.args.from.0 c.requires.from

pub ends-ends-requires : goal.ends-ends-requires
ends-ends-requires c =
    (bare_pools c.args.st.now c.disk_remove.new.st c.disk_remove.ensures.edits.stays).edges.live c.args.e.0
    ∙ c.requires.edge

-- the edge
cell : (c : goal.After-disk_add-arg-1) → EndCell c.args.st.now c.args.e c.args.side c.args.from.0 c.args.to
    c.ends-ends.result
cell c = end_cell c.args.st.now c.disk_remove.new.st c.args.e c.args.side c.args.from.0 c.args.to c.ends-ends.result
    c.disk_remove.ensures.edits.stays c.requires.side c.ends-ends.ensures c.requires.from c.requires.differ

long : (c : goal.After-disk_add-arg-1) → length (cell c).cell.ends ≡ 2
long c =
    let two : length c.ends-ends.result ≡ 2 = search rules in
    ap (λ (es : List Slot). length es) (cell c).same ∙ two

written : (c : goal.After-disk_add-arg-1) → c.set_ends.new.self
    ≡ change_edge (with_ends (slice_set (cell c).cell.ends c.args.side c.args.to)) c.disk_remove.new.st c.args.e.0
written c = c.set_ends.ensures
    ∙ ap (λ (es : List Slot). change_edge (with_ends (slice_set es c.args.side c.args.to)) c.disk_remove.new.st
    c.args.e.0) (sym (cell c).same)

pub disk_add-requires-clause-cycles : goal.disk_add-requires-clause-cycles
disk_add-requires-clause-cycles c =
    let k = cell c in
    (cycles_two c.args.st.now c.requires.cycles c.args.e k.cell k.is (long c) c.args.side c.requires.side c.args.from.0
    k.ends_at c.args.to c.requires.moves k.differ c.disk_remove.new.st c.disk_remove.ensures.edits
    c.disk_remove.ensures.out c.set_ends.new.self (written c)).cycles

pub disk_add-requires-clause-end : goal.disk_add-requires-clause-end
disk_add-requires-clause-end c =
    let k = cell c in
    end_two c.args.st.now c.requires.cycles c.args.e k.cell k.is (long c) c.args.side c.requires.side c.args.from.0
    k.ends_at c.args.to c.requires.moves k.differ c.disk_remove.new.st c.disk_remove.ensures.edits
    c.disk_remove.ensures.out c.set_ends.new.self (written c)

pub disk_add-requires-clause-apart : goal.disk_add-requires-clause-apart
disk_add-requires-clause-apart c =
    let k = cell c in
    alone_two c.args.st.now c.requires.cycles c.args.e k.cell k.is (long c) c.args.side c.requires.side c.args.from.0
    k.ends_at c.args.to c.requires.moves k.differ c.disk_remove.new.st c.disk_remove.ensures.edits
    c.disk_remove.ensures.out c.set_ends.new.self (written c)

pub returns : goal.returns
returns c =
    let k = end_cell c.args.st.now c.disk_remove.new.st c.args.e c.args.side c.args.from.0 c.args.to c.ends-ends.result
    c.disk_remove.ensures.edits.stays c.requires.side c.ends-ends.ensures c.requires.from c.requires.differ in
    let long : length k.cell.ends ≡ 2 =
    ap (λ (es : List Slot). length es) k.same ∙ (let two : length c.ends-ends.result ≡ 2 = search rules in two) in
    let written = c.set_ends.ensures
    ∙ ap (λ (es : List Slot). change_edge (with_ends (slice_set es c.args.side c.args.to)) c.disk_remove.new.st
    c.args.e.0) (sym k.same) in
    moves_end c.args.st.now c.requires.cycles c.args.e k.cell k.is long c.args.side c.requires.side c.args.from.0
    k.ends_at c.args.to c.requires.moves k.differ c.disk_remove.new.st c.disk_remove.ensures.edits
    c.disk_remove.ensures.out c.set_ends.new.self written c.disk_add.new.st c.disk_add.ensures
