use Rattle.std.proofs.Common.{ℕ, List, Option, Some, is_some, sym, ap, ◌∙◌, subst}
use Rattle.std.proofs.lemmas.Option.{same_Some}
use Rattle.raw_pool.specs.declared.pool.Slot.{Slot}
use Rattle.raw_pool.specs.Slots.{IsLive}
use Rattle.mesh_store.specs.Stored.{Stored}
use Rattle.mesh_store.specs.Slots.{at}
use Rattle.mesh_store.specs.declared.cells.LoopCell.{LoopCell}
use Rattle.mesh_model.specs.declared.names.VertName.{VertName}
use Rattle.mesh_model.specs.declared.names.EdgeName.{EdgeName}
use Rattle.mesh_records.specs.AtSlots.{StoredEdge}
use Rattle.mesh_records.proofs.CornersLost.{placed}
use Rattle.mesh_records.proofs.Elements.{name_live, edge_live, edge_is_at}
use Rattle.mesh_records.proofs.LoopCounts.{some_loops}
use Rattle.mesh_records.proofs.Loses.{loop_of, cycles_left}
use Rattle.mesh_records.proofs.Options.{has_key}
use Rattle.mesh_records.proofs.Shifts.{shifts_corner, first_edge, corner_edge_there}
use Rattle.mesh_records.proofs.Places.{keeps_shifted}
use Rattle.mesh_records.proofs.corners.shift_corner.Goals as goal

pub loop_at-corner-requires-clause-live : goal.loop_at-corner-requires-clause-live
loop_at-corner-requires-clause-live c = name_live c.requires.whole.records.named.faces c.args.f.0
    c.slot_of_face-face.result c.slot_of_face-face.ensures

pub loop_at-corner-requires-clause-within : goal.loop_at-corner-requires-clause-within
loop_at-corner-requires-clause-within c = some_loops c.args.st.now c.args.next c.requires.whole c.args.f.0
    c.slot_of_face-face.result c.slot_of_face-face.ensures

pub take_loop-requires-clause-edge_live : goal.take_loop-requires-clause-edge_live
take_loop-requires-clause-edge_live c =
    let m = placed c.args.st.now c.slot_of_face-face.result c.loop_at-corner.result 0 c.loop_at-corner.ensures in
    let o = loop_of c.args.st.now c.slot_of_face-face.result c.loop_at-corner.result c.requires.whole.cycles.cycles
    c.requires.whole.records.linked m in
    λ e p. (let P = λ (k : ℕ). IsLive c.args.st.now.edges.cells k in
    subst P (same_Some o.edge e (sym o.of_edge ∙ p)) o.live)

pub put_corner-requires-clause-cycles : goal.put_corner-requires-clause-cycles
put_corner-requires-clause-cycles c =
    let m = placed c.args.st.now c.slot_of_face-face.result c.loop_at-corner.result 0 c.loop_at-corner.ensures in
    let o = loop_of c.args.st.now c.slot_of_face-face.result c.loop_at-corner.result c.requires.whole.cycles.cycles
    c.requires.whole.records.linked m in
    cycles_left c.args.st.now c.take_loop.new.st c.slot_of_face-face.result c.loop_at-corner.result o.low
    c.take_loop.ensures o.edge o.of_edge c.requires.whole.cycles

pub put_corner-requires-clause-edge : goal.put_corner-requires-clause-edge
put_corner-requires-clause-edge c =
    let live = name_live c.requires.whole.records.named.edges c.args.edge.0 c.slot_of_edge-along.result
    c.slot_of_edge-along.ensures in
    edge_live c.take_loop.new.st c.slot_of_edge-along.result.0
    (ap (λ (o : Option StoredEdge). is_some o) (c.take_loop.ensures.elements.edges c.slot_of_edge-along.result.0)
    ∙ edge_is_at c.args.st.now c.slot_of_edge-along.result.0 live)

pub returns-clause-shifts : goal.returns-clause-shifts
returns-clause-shifts c =
    let st = c.args.st.now in
    let l = c.loop_at-corner.result in
    let k = has_key (λ (x : LoopCell). x.vert) (at st.loops l.0) c.loop_vert-v.result c.loop_vert-v.ensures in
    shifts_corner st c.take_loop.new.st c.put_corner.new.st c.args.next c.requires.whole c.args.f
    c.slot_of_face-face.result l c.loop_vert-v.result c.slot_of_edge-along.result c.put_corner.result
    c.slot_of_face-face.ensures c.loop_at-corner.ensures c.take_loop.ensures k.cell k.is k.same c.args.edge
    c.slot_of_edge-along.ensures _ c.row.ensures c.put_corner.ensures

pub returns-clause-own : goal.returns-clause-own
returns-clause-own c = first_edge c.args.st.now c.args.next c.requires.whole c.args.f c.slot_of_face-face.result
    c.loop_at-corner.result c.slot_of_face-face.ensures c.loop_at-corner.ensures
    ∙ ap (λ (p : VertName × EdgeName). Some p.1) (sym c.corner_at.ensures)

pub returns-clause-faces : goal.returns-clause-faces
returns-clause-faces c = λ j.
    ap (λ (s : Stored). at s.faces.names j) c.put_corner.ensures.writes
    ∙ ap (λ (xs : List (Option Slot)). at xs j) c.put_corner.ensures.puts.face_names
    ∙ ap (λ (xs : List (Option Slot)). at xs j) c.take_loop.ensures.face_names

pub returns-clause-there : goal.returns-clause-there
returns-clause-there c =
    let there = corner_edge_there c.args.st.now c.args.next c.requires.whole c.slot_of_face-face.result
    c.loop_at-corner.result 0 c.loop_at-corner.ensures in
    ap (λ (s : Stored). is_some (at s.edges.names c.corner_at.result.1.0)) c.put_corner.ensures.writes
    ∙ ap (λ (xs : List (Option Slot)). is_some (at xs c.corner_at.result.1.0)) c.put_corner.ensures.puts.edge_names
    ∙ ap (λ (xs : List (Option Slot)). is_some (at xs c.corner_at.result.1.0)) c.take_loop.ensures.edge_names
    ∙ ap (λ (p : VertName × EdgeName). is_some (at c.args.st.now.edges.names p.1.0)) c.corner_at.ensures ∙ there

pub returns-clause-places : goal.returns-clause-places
returns-clause-places c = keeps_shifted c.args.st.now c.take_loop.new.st c.put_corner.new.st c.slot_of_face-face.result
    c.loop_at-corner.result c.slot_of_face-face.result c.loop_vert-v.result c.slot_of_edge-along.result _
    c.put_corner.result c.take_loop.ensures c.put_corner.ensures
