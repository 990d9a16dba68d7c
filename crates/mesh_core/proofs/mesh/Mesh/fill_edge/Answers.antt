use Rattle.std.proofs.Common.{ℤ, List, length, get_or, subst, sym, ap, ◌∙◌, arith, rules}
use Rattle.cust_data.specs.Layers.{total}
use Rattle.mesh_model.specs.Table.{at, IsThere}
use Rattle.mesh_model.specs.Complex.{KindLayers, Complex, width}
use Rattle.mesh_model.specs.Kernel.{with_edge_vals}
use Rattle.mesh_model.specs.declared.names.Kind.TheVariants.{Edges}
use Rattle.mesh_model.specs.declared.names.VertName.{VertName}
use Rattle.mesh_model.specs.declared.records.EdgeRec.{EdgeRec}
use Rattle.mesh_model.proofs.Copies.{told-wide}
use Rattle.mesh_core.specs.Seen.{now}
use Rattle.mesh_core.proofs.Filled.{on_ok_at, can_note, edge_limit, edge_reach, edge_covers, edge_skipped, edge_filled}
use Rattle.mesh_core.proofs.Loaded.{edge_made, ends_told, ends_linked}
use Rattle.mesh_core.proofs.mesh.Mesh.fill_edge.Goals as goal

pub skip_edge-requires-clause-limit : goal.skip_edge-requires-clause-limit
skip_edge-requires-clause-limit c =
    edge_limit c.args.self.now c.args.draft.now c.args.e.0 c.requires.so_far c.requires.low

pub skip_edge-requires-clause-reach : goal.skip_edge-requires-clause-reach
skip_edge-requires-clause-reach c =
    edge_reach c.args.self.now c.args.draft.now c.args.e.0 c.requires.so_far c.requires.low

pub make_edge-requires-clause-limit : goal.make_edge-requires-clause-limit
make_edge-requires-clause-limit c =
    edge_limit c.args.self.now c.args.draft.now c.args.e.0 c.requires.so_far c.requires.low

pub make_edge-requires-clause-a : goal.make_edge-requires-clause-a
make_edge-requires-clause-a c =
    let d = c.args.draft.now in
    let there : IsThere d.edges c.args.e.0 = search rules in
    let none : VertName = record { 0 = 0 } in
    let ends = ends_linked d c.args.e.0 c.ends-ends.result none c.requires.linked there c.ends-ends.ensures in
    let P = λ (x : Complex). IsThere x.verts (get_or c.ends-ends.result 0 none).0 in
    subst P (sym c.requires.so_far.now) ends.0

pub make_edge-requires-clause-b : goal.make_edge-requires-clause-b
make_edge-requires-clause-b c =
    let d = c.args.draft.now in
    let there : IsThere d.edges c.args.e.0 = search rules in
    let none : VertName = record { 0 = 0 } in
    let ends = ends_linked d c.args.e.0 c.ends-ends.result none c.requires.linked there c.ends-ends.ensures in
    let P = λ (x : Complex). IsThere x.verts (get_or c.ends-ends.result 1 none).0 in
    subst P (sym c.requires.so_far.now) ends.1

pub make_edge-requires-clause-differ : goal.make_edge-requires-clause-differ
make_edge-requires-clause-differ c =
    let d = c.args.draft.now in
    let there : IsThere d.edges c.args.e.0 = search rules in
    let none : VertName = record { 0 = 0 } in
    let ends = ends_linked d c.args.e.0 c.ends-ends.result none c.requires.linked there c.ends-ends.ensures in
    ends.2

pub set_edge_vals-requires-clause-there : goal.set_edge_vals-requires-clause-there
set_edge_vals-requires-clause-there c =
    let d = c.args.draft.now in
    let there : IsThere d.edges c.args.e.0 = search rules in
    let notes = can_note c.args.self.now.notes c.notes_are.ensures in
    let first = notes.edges in
    let like = on_ok_at c.make_edge.result (c.make_edge.ensures.enough
    (edge_covers c.args.self.now d c.args.e.0 c.requires.so_far c.requires.low there)
    (record { verts = omega arith; edges = omega arith; corners = omega arith; faces = omega arith }))
    c.make_edge.ensures.now in
    let made = edge_made d c.args.e.0 c.requires.low _ _ _ _ c.requires.so_far.now like in
    made.0

pub set_edge_vals-requires-clause-wide : goal.set_edge_vals-requires-clause-wide
set_edge_vals-requires-clause-wide c =
    let d = c.args.draft.now in
    let there : IsThere d.edges c.args.e.0 = search rules in
    let notes = can_note c.args.self.now.notes c.notes_are.ensures in
    let first = notes.edges in
    let like = on_ok_at c.make_edge.result (c.make_edge.ensures.enough
    (edge_covers c.args.self.now d c.args.e.0 c.requires.so_far c.requires.low there)
    (record { verts = omega arith; edges = omega arith; corners = omega arith; faces = omega arith }))
    c.make_edge.ensures.now in
    let made = edge_made d c.args.e.0 c.requires.low _ _ _ _ c.requires.so_far.now like in
    let wide = told-wide (λ (r : EdgeRec). r.vals) (at d.edges c.args.e.0) (width d Edges) c.edge_row-row.result
    (λ r is. (c.requires.linked.edges c.args.e.0 r is).vals) c.edge_row-row.ensures in
    ap length c.as_slice.ensures ∙ wide ∙ sym (ap (λ (ls : KindLayers). total ls.edges) made.1)

pub returns-clause-so_far : goal.returns-clause-so_far
returns-clause-so_far c =
    let d = c.args.draft.now in
    let there : IsThere d.edges c.args.e.0 = search rules in
    let notes = can_note c.args.self.now.notes c.notes_are.ensures in
    let first = notes.edges in
    let used = c.make_edge.ensures.notes.edges in
    let made = on_ok_at c.make_edge.result (c.make_edge.ensures.enough
    (edge_covers c.args.self.now d c.args.e.0 c.requires.so_far c.requires.low there)
    (record { verts = omega arith; edges = omega arith; corners = omega arith; faces = omega arith }))
    c.make_edge.ensures.now in
    let valued = on_ok_at c.set_edge_vals.result (c.set_edge_vals.ensures.enough
    (record { verts = omega arith; edges = omega arith; corners = omega arith; faces = omega arith }))
    c.set_edge_vals.ensures.now in
    let none : VertName = record { 0 = 0 } in
    let told = ends_told (at d.edges c.args.e.0) c.ends-ends.result none c.ends-ends.ensures in
    edge_filled c.args.self.now d c.args.e.0 c.requires.so_far c.requires.low c.make_edge.new.self
    c.set_edge_vals.new.self _ _ c.edge_row-row.result there made
    (valued ∙ ap (λ (row : List ℤ). with_edge_vals (now c.make_edge.new.self) c.args.e row) c.as_slice.ensures)
    told c.edge_row-row.ensures c.make_edge.ensures.places c.set_edge_vals.ensures.places

pub returns-then-not-has-clause-so_far : goal.returns-then-not-has-clause-so_far
returns-then-not-has-clause-so_far c =
    edge_skipped c.args.self.now c.args.draft.now c.args.e.0 c.requires.so_far c.requires.low
    c.skip_edge.new.self (sym c.has.ensures ∙ c.if-not-has.true) c.skip_edge.ensures.now c.skip_edge.ensures.stored
