use Rattle.std.proofs.Common.{List, sym, ◌∙◌, subst}
use Rattle.std.specs.Prelude.{slice_index_or}
use Rattle.raw_pool.specs.declared.pool.Slot.{Slot}
use Rattle.mesh_store.specs.Slots.{at}
use Rattle.mesh_store.specs.Stored.{no_slot}
use Rattle.mesh_store.specs.declared.cells.EdgeCell.{EdgeCell}
use Rattle.mesh_cycles.specs.Cycles.{disk_of}
use Rattle.mesh_cycles.specs.Edits.{EditsDisk}
use Rattle.mesh_cycles.specs.Lists.{same_dart, without}
use Rattle.mesh_records.specs.Puts.{dart_on}
use Rattle.mesh_records.proofs.Options.{has_key}
use Rattle.mesh_records.proofs.TakesEdge.{takes_edge}
use Rattle.mesh_cycles.proofs.Besides.{bare_pools}
use Rattle.mesh_records.proofs.Owners.{first_end, second_end}
use Rattle.mesh_records.proofs.taking.take_edge.Goals as goal

pub returns : goal.returns
returns c =
    let st = c.args.st.now in
    let e = c.args.e in
    let one = c.disk_remove.new.st in
    let two = c.disk_remove-2.new.st in
    let k = has_key (λ (x : EdgeCell). x.ends) (at st.edges.cells e.0) c.ends-ends.result c.ends-ends.ensures in
    let P = λ (es : List Slot). EditsDisk st one (slice_index_or es 0 no_slot).0
    (disk_of st (slice_index_or es 0 no_slot).0) (without same_dart (dart_on e 0)
    (disk_of st (slice_index_or es 0 no_slot).0)) in
    let Q = λ (es : List Slot). EditsDisk one two (slice_index_or es 1 no_slot).0
    (disk_of one (slice_index_or es 1 no_slot).0) (without same_dart (dart_on e 1)
    (disk_of one (slice_index_or es 1 no_slot).0)) in
    takes_edge st e k.cell c.requires.cycles k.is one (subst P (sym k.same) c.disk_remove.ensures.edits) two
    (subst Q (sym k.same) c.disk_remove-2.ensures.edits)
    c.drop_edge.new.self c.requires.loose c.drop_edge.ensures.drops c.drop_edge.ensures.spare

pub disk_remove-requires-clause-live : goal.disk_remove-requires-clause-live
disk_remove-requires-clause-live c = first_end c.args.st.now c.requires.linked c.args.e c.ends-ends.result
    c.ends-ends.ensures

pub disk_remove-requires-2-clause-live : goal.disk_remove-requires-2-clause-live
disk_remove-requires-2-clause-live c =
    let st = c.args.st.now in
    (bare_pools st c.disk_remove.new.st c.disk_remove.ensures.edits.stays).verts.live
    (slice_index_or c.ends-ends.result 1 no_slot).0
    ∙ second_end st c.requires.linked c.args.e c.ends-ends.result c.ends-ends.ensures
