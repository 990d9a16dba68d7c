use Rattle.std.proofs.Common.{◌≡◌, ◌<◌, ◌+◌, ◌∙◌, length, ap, sym, arith, Some}
use Rattle.mesh_model.specs.Columns.{start_of}
use Rattle.mesh_model.proofs.FlatFaces.{has-corners, corner-within, vals-corner}
use Rattle.mesh_model.proofs.face_columns.FaceColumns.corner_row.Goals as goal

pub bounds-start-requires : goal.bounds-start-requires
bounds-start-requires c =
    let less : c.args.name < c.self.inside.count =
    has-corners _ _ _ c.args.i (rw (← c.self.view_is) at c.requires.there) in
    let few = c.self.invariant.few in
    rw c.deref.ensures.value (omega arith)

pub row-requires-clause-place : goal.row-requires-clause-place
row-requires-clause-place c =
    let old = c.self.inside in
    let start : c.bounds-start.result.0 ≡ start_of old.ends.items c.args.name =
    rw c.deref.ensures.value at c.bounds-start.ensures.start in
    let within : start_of old.ends.items c.args.name + c.args.i < length old.sides.items =
    corner-within old.ends.items old.sides.items old.corner_values.rows old.values.rows old.count old.corner_count
    c.args.name c.args.i c.self.invariant (rw (← c.self.view_is) at c.requires.there) in
    let valued = c.self.invariant.corners_valued in
    rw start (omega arith)

pub returns : goal.returns
returns c =
    let old = c.self.inside in
    let start : c.bounds-start.result.0 ≡ start_of old.ends.items c.args.name =
    rw c.deref.ensures.value at c.bounds-start.ensures.start in
    let read = vals-corner old.ends.items old.sides.items old.corner_values.rows old.values.rows old.count
    old.corner_count c.args.name c.args.i c.self.invariant (rw (← c.self.view_is) at c.requires.there) in
    rw (← c.self.view_is) (read ∙ ap (λ r. Some r) (sym (rw start at c.row.ensures)))
