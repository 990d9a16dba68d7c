use Rattle.std.proofs.Common.{ℤ, List, length, sym, ap, ◌∙◌, arith, rules}
use Rattle.cust_data.specs.Layers.{total}
use Rattle.mesh_model.specs.Table.{at, IsThere}
use Rattle.mesh_model.specs.Complex.{KindLayers, width}
use Rattle.mesh_model.specs.Kernel.{with_vert_vals}
use Rattle.mesh_model.specs.declared.names.Kind.TheVariants.{Verts}
use Rattle.mesh_model.specs.declared.records.VertRec.{VertRec}
use Rattle.mesh_model.proofs.Copies.{told-wide}
use Rattle.mesh_core.specs.Seen.{now}
use Rattle.mesh_core.proofs.Filled.{on_ok_at, can_note, vert_limit, vert_reach, vert_covers, vert_skipped, vert_filled}
use Rattle.mesh_core.proofs.Loaded.{vert_made}
use Rattle.mesh_core.proofs.mesh.Mesh.fill_vert.Goals as goal

pub skip_vert-requires-clause-limit : goal.skip_vert-requires-clause-limit
skip_vert-requires-clause-limit c =
    vert_limit c.args.self.now c.args.draft.now c.args.v.0 c.requires.so_far c.requires.low

pub skip_vert-requires-clause-reach : goal.skip_vert-requires-clause-reach
skip_vert-requires-clause-reach c =
    vert_reach c.args.self.now c.args.draft.now c.args.v.0 c.requires.so_far c.requires.low

pub make_vert-requires-clause-limit : goal.make_vert-requires-clause-limit
make_vert-requires-clause-limit c =
    vert_limit c.args.self.now c.args.draft.now c.args.v.0 c.requires.so_far c.requires.low

pub set_vert_vals-requires-clause-there : goal.set_vert_vals-requires-clause-there
set_vert_vals-requires-clause-there c =
    let d = c.args.draft.now in
    let there : IsThere d.verts c.args.v.0 = search rules in
    let notes = can_note c.args.self.now.notes c.notes_are.ensures in
    let first = notes.verts in
    let like = on_ok_at c.make_vert.result (c.make_vert.ensures.enough
    (vert_covers c.args.self.now d c.args.v.0 c.requires.so_far c.requires.low there)
    (record { verts = omega arith; edges = omega arith; corners = omega arith; faces = omega arith }))
    c.make_vert.ensures.now in
    let made = vert_made d c.args.v.0 c.requires.low _ _ _ c.requires.so_far.now like in
    made.0

pub set_vert_vals-requires-clause-wide : goal.set_vert_vals-requires-clause-wide
set_vert_vals-requires-clause-wide c =
    let d = c.args.draft.now in
    let there : IsThere d.verts c.args.v.0 = search rules in
    let notes = can_note c.args.self.now.notes c.notes_are.ensures in
    let first = notes.verts in
    let like = on_ok_at c.make_vert.result (c.make_vert.ensures.enough
    (vert_covers c.args.self.now d c.args.v.0 c.requires.so_far c.requires.low there)
    (record { verts = omega arith; edges = omega arith; corners = omega arith; faces = omega arith }))
    c.make_vert.ensures.now in
    let made = vert_made d c.args.v.0 c.requires.low _ _ _ c.requires.so_far.now like in
    let wide = told-wide (λ (r : VertRec). r.vals) (at d.verts c.args.v.0) (width d Verts) c.vert_row-row.result
    (λ r is. (c.requires.linked.verts c.args.v.0 r is).vals) c.vert_row-row.ensures in
    ap length c.as_slice.ensures ∙ wide ∙ sym (ap (λ (ls : KindLayers). total ls.verts) made.1)

pub returns-clause-so_far : goal.returns-clause-so_far
returns-clause-so_far c =
    let d = c.args.draft.now in
    let there : IsThere d.verts c.args.v.0 = search rules in
    let notes = can_note c.args.self.now.notes c.notes_are.ensures in
    let first = notes.verts in
    let used = c.make_vert.ensures.notes.verts in
    let made = on_ok_at c.make_vert.result (c.make_vert.ensures.enough
    (vert_covers c.args.self.now d c.args.v.0 c.requires.so_far c.requires.low there)
    (record { verts = omega arith; edges = omega arith; corners = omega arith; faces = omega arith }))
    c.make_vert.ensures.now in
    let valued = on_ok_at c.set_vert_vals.result (c.set_vert_vals.ensures.enough
    (record { verts = omega arith; edges = omega arith; corners = omega arith; faces = omega arith }))
    c.set_vert_vals.ensures.now in
    vert_filled c.args.self.now d c.args.v.0 c.requires.so_far c.requires.low c.make_vert.new.self c.set_vert_vals.new.self
    c.point.result c.vert_row-row.result there made
    (valued ∙ ap (λ (row : List ℤ). with_vert_vals (now c.make_vert.new.self) c.args.v row) c.as_slice.ensures)
    c.point.ensures c.vert_row-row.ensures c.make_vert.ensures.places c.set_vert_vals.ensures.places

pub returns-then-not-has-clause-so_far : goal.returns-then-not-has-clause-so_far
returns-then-not-has-clause-so_far c =
    vert_skipped c.args.self.now c.args.draft.now c.args.v.0 c.requires.so_far c.requires.low
    c.skip_vert.new.self (sym c.has.ensures ∙ c.if-not-has.true) c.skip_vert.ensures.now c.skip_vert.ensures.stored
