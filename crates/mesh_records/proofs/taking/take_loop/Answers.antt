use Rattle.std.proofs.Common.{Some, ap, ◌∙◌}
use Rattle.std.specs.Option.{option_map}
use Rattle.raw_pool.specs.declared.pool.Slot.{Slot}
use Rattle.mesh_store.specs.Slots.{at}
use Rattle.mesh_store.specs.declared.cells.LoopCell.{LoopCell}
use Rattle.mesh_store.proofs.Places.{below}
use Rattle.mesh_cycles.proofs.Besides.{bare_pools}
use Rattle.mesh_records.proofs.Options.{has_key, holds_by}
use Rattle.mesh_records.proofs.Takes.{takes_loop}
use Rattle.mesh_records.proofs.taking.take_loop.Goals as goal

pub drop_loop-requires : goal.drop_loop-requires
drop_loop-requires c =
    (bare_pools c.radial_remove.new.st c.loop_remove_counted.new.st
    c.loop_remove_counted.ensures.edits.stays).loops.live c.args.l.0
    ∙ (bare_pools c.args.st.now c.radial_remove.new.st c.radial_remove.ensures.edits.stays).loops.live c.args.l.0
    ∙ holds_by (λ (k : LoopCell). k.edge) (at c.args.st.now.loops c.args.l.0) c.loop_edge-e.result c.loop_edge-e.ensures

pub returns : goal.returns
returns c =
    let st = c.args.st.now in
    let e = c.loop_edge-e.result in
    let x = c.radial_remove.ensures in
    let y = c.loop_remove_counted.ensures in
    let k = has_key (λ (z : LoopCell). z.edge) (at st.loops c.args.l.0) e c.loop_edge-e.ensures in
    takes_loop st c.radial_remove.new.st c.args.f c.args.l e.0 c.requires.cycles x.edits x.out
    c.loop_remove_counted.new.st y.edits y.out c.drop_loop.new.self
    (ap (option_map (λ (z : LoopCell). z.edge.0)) k.is ∙ ap (λ (s : Slot). Some s.0) k.same)
    (below st.loops c.args.l.0 k.cell k.is) c.drop_loop.ensures.drops c.drop_loop.ensures.spare
