use Rattle.std.proofs.Common.{◌+◌, ap, ◌∙◌}
use Rattle.raw_pool.specs.Slots.{spare_count}
use Rattle.mesh_store.specs.Stored.{Stored}
use Rattle.mesh_records.proofs.Joins.{filled, joined, second_there, second_end, second_apart, puts_edge}
use Rattle.mesh_records.proofs.putting.put_edge.Goals as goal

pub disk_add-requires-clause-cycles : goal.disk_add-requires-clause-cycles
disk_add-requires-clause-cycles c = (joined c.args.st.now c.fill_row.new.st c.args.name c.args.from c.args.to
    c.add_edge-edge.result c.args.like c.requires.cycles c.requires.differ c.add_edge-edge.ensures.vacant
    (filled c.args.st.now c.add_edge-edge.new.self c.fill_row.new.st c.args.name c.args.from c.args.to
    c.add_edge-edge.result c.args.like c.add_edge-edge.ensures.adds c.fill_row.ensures)).same.cycles

pub disk_add-requires-clause-apart : goal.disk_add-requires-clause-apart
disk_add-requires-clause-apart c = (joined c.args.st.now c.fill_row.new.st c.args.name c.args.from c.args.to
    c.add_edge-edge.result c.args.like c.requires.cycles c.requires.differ c.add_edge-edge.ensures.vacant
    (filled c.args.st.now c.add_edge-edge.new.self c.fill_row.new.st c.args.name c.args.from c.args.to
    c.add_edge-edge.result c.args.like c.add_edge-edge.ensures.adds c.fill_row.ensures)).alone 0

pub disk_add-requires-2-clause-dart : goal.disk_add-requires-2-clause-dart
disk_add-requires-2-clause-dart c = second_there c.args.st.now c.fill_row.new.st c.args.name c.args.from c.args.to
    c.add_edge-edge.result c.args.like c.requires.cycles c.requires.differ c.add_edge-edge.ensures.vacant
    (filled c.args.st.now c.add_edge-edge.new.self c.fill_row.new.st c.args.name c.args.from c.args.to
    c.add_edge-edge.result c.args.like c.add_edge-edge.ensures.adds c.fill_row.ensures) c.disk_add.new.st
    c.disk_add.ensures

pub disk_add-requires-2-clause-end : goal.disk_add-requires-2-clause-end
disk_add-requires-2-clause-end c = second_end c.args.st.now c.fill_row.new.st c.args.name c.args.from c.args.to
    c.add_edge-edge.result c.args.like c.requires.cycles c.requires.differ c.add_edge-edge.ensures.vacant
    (filled c.args.st.now c.add_edge-edge.new.self c.fill_row.new.st c.args.name c.args.from c.args.to
    c.add_edge-edge.result c.args.like c.add_edge-edge.ensures.adds c.fill_row.ensures) c.disk_add.new.st
    c.disk_add.ensures

pub disk_add-requires-2-clause-apart : goal.disk_add-requires-2-clause-apart
disk_add-requires-2-clause-apart c = second_apart c.args.st.now c.fill_row.new.st c.args.name c.args.from c.args.to
    c.add_edge-edge.result c.args.like c.requires.cycles c.requires.differ c.add_edge-edge.ensures.vacant
    (filled c.args.st.now c.add_edge-edge.new.self c.fill_row.new.st c.args.name c.args.from c.args.to
    c.add_edge-edge.result c.args.like c.add_edge-edge.ensures.adds c.fill_row.ensures) c.disk_add.new.st
    c.disk_add.ensures

pub returns : goal.returns
returns c = puts_edge c.args.st.now c.fill_row.new.st c.args.name c.args.from c.args.to c.add_edge-edge.result
    c.args.like c.requires.cycles c.requires.differ c.add_edge-edge.ensures.vacant
    (filled c.args.st.now c.add_edge-edge.new.self c.fill_row.new.st c.args.name c.args.from c.args.to
    c.add_edge-edge.result c.args.like c.add_edge-edge.ensures.adds c.fill_row.ensures) c.disk_add.new.st
    c.disk_add.ensures
    c.disk_add-2.new.st c.disk_add-2.ensures
    (ap (λ (t : Stored). spare_count t.edges.cells + 1) c.fill_row.ensures ∙ c.add_edge-edge.ensures.spare)
