use Rattle.std.proofs.Common.{◌≡◌, ◌-◌, ℕ, rules, List, length, refl, ap, sym, ◌∙◌, arith}
use Rattle.std.specs.Prelude.{slice_index_or}
use Rattle.std.specs.Option.{option_map}
use Rattle.mesh_store.specs.Stored.{no_slot}
use Rattle.std.proofs.lemmas.Option.{same_Some}
use Rattle.raw_pool.specs.declared.pool.Slot.{Slot}
use Rattle.mesh_store.specs.Slots.{at}
use Rattle.mesh_store.specs.declared.cells.EdgeCell.{EdgeCell}
use Rattle.mesh_cycles.specs.Owners.{end_on}
use Rattle.mesh_records.specs.MovesEnd.{end_name}
use Rattle.mesh_records.specs.ReadOff.{edge_at, vert_name}
use Rattle.mesh_records.proofs.ByName.{vert_named}
use Rattle.mesh_records.proofs.Elements.{name_live}
use Rattle.mesh_records.proofs.EndSet.{sets_end, sets_none, end_named, end_leads}
use Rattle.mesh_records.proofs.Options.{HasKey, has_key}
use Rattle.mesh_records.proofs.Places.{keeps_same, keeps_moved}
use Rattle.mesh_records.proofs.moving.set_end.Goals as goal

pub ends-ends-requires : goal.ends-ends-requires
ends-ends-requires c = name_live c.requires.whole.records.named.edges c.args.e.0 c.slot_of_edge-edge.result
    c.slot_of_edge-edge.ensures

pub move_end-requires-clause-to : goal.move_end-requires-clause-to
move_end-requires-clause-to c = name_live c.requires.whole.records.named.verts c.args.v.0 c.slot_of_vert-to.result
    c.slot_of_vert-to.ensures

-- the edge's cell
cell : (c : goal.After-move_end-arg-1) → HasKey (λ (x : EdgeCell). x.ends)
    (at c.args.st.now.edges.cells c.slot_of_edge-edge.result.0) c.ends-ends.result
cell c = has_key (λ (x : EdgeCell). x.ends) (at c.args.st.now.edges.cells c.slot_of_edge-edge.result.0)
    c.ends-ends.result c.ends-ends.ensures

pub move_end-requires-clause-differ : goal.move_end-requires-clause-differ
move_end-requires-clause-differ c = λ e.
    let k = cell c in
    let side = c.requires.side in
    let at_to = same_Some _ _ (sym (ap (option_map (end_on (1 - c.args.side))) k.is) ∙ e) in
    c.requires.differ (end_named c.args.st.now c.args.next c.requires.whole c.args.e c.slot_of_edge-edge.result
    c.slot_of_edge-edge.ensures k.cell k.is (1 - c.args.side) (omega arith)
    ∙ ap (λ (j : ℕ). (vert_name c.args.st.now j).0) at_to
    ∙ vert_named c.args.st.now c.args.next c.requires.whole.records c.args.v.0 c.slot_of_vert-to.result
    c.slot_of_vert-to.ensures)

pub returns-then-from-to-clause-sets : goal.returns-then-from-to-clause-sets
returns-then-from-to-clause-sets c =
    let st = c.args.st.now in
    let n = c.args.next in
    let w = c.requires.whole in
    let e = c.slot_of_edge-edge.result in
    let k = has_key (λ (x : EdgeCell). x.ends) (at st.edges.cells e.0) c.ends-ends.result c.ends-ends.ensures in
    let long : length k.cell.ends ≡ 2 =
    ap (λ (es : List Slot). length es) k.same ∙ (let two : length c.ends-ends.result ≡ 2 = search rules in two) in
    let from = slice_index_or c.ends-ends.result c.args.side no_slot in
    let ends_at = ap (λ (es : List Slot). (slice_index_or es c.args.side no_slot).0) k.same in
    let leads = end_leads st n w c.args.e e c.slot_of_edge-edge.ensures k.cell k.is c.args.side c.requires.side from
    ends_at in
    let to = c.slot_of_vert-to in
    sets_end st c.move_end.new.st n w c.args.e e (end_name c.args.side (edge_at st c.args.e.0)) from c.args.v to.result
    c.args.side c.requires.side c.slot_of_edge-edge.ensures leads to.ensures
    (λ q. c.if-from-to.true (ap (λ (s : Slot). s.0) (same_Some _ _ (sym leads
    ∙ ap (λ (j : ℕ). at st.verts.names j) q ∙ to.ensures)))) k.cell k.is long ends_at c.move_end.ensures

pub returns-else-from-to-clause-sets : goal.returns-else-from-to-clause-sets
returns-else-from-to-clause-sets c =
    let st = c.args.st.now in
    let n = c.args.next in
    let w = c.requires.whole in
    let e = c.slot_of_edge-edge.result in
    let k = has_key (λ (x : EdgeCell). x.ends) (at st.edges.cells e.0) c.ends-ends.result c.ends-ends.ensures in
    let from = slice_index_or c.ends-ends.result c.args.side no_slot in
    let ends_at = ap (λ (es : List Slot). (slice_index_or es c.args.side no_slot).0) k.same in
    let to = c.slot_of_vert-to in
    sets_none st n w c.args.e e c.slot_of_edge-edge.ensures k.cell k.is c.args.side c.requires.side c.args.v
    (end_named st n w c.args.e e c.slot_of_edge-edge.ensures k.cell k.is c.args.side c.requires.side
    ∙ ap (λ (j : ℕ). (vert_name st j).0) (ends_at ∙ c.if-from-to.false)
    ∙ vert_named st n w.records c.args.v.0 to.result to.ensures)

pub returns-then-from-to-clause-places : goal.returns-then-from-to-clause-places
returns-then-from-to-clause-places c = keeps_moved c.args.st.now c.move_end.new.st c.slot_of_edge-edge.result
    c.args.side _ c.slot_of_vert-to.result c.move_end.ensures

pub returns-else-from-to-clause-places : goal.returns-else-from-to-clause-places
returns-else-from-to-clause-places c = keeps_same c.args.st.now c.args.st.now refl
