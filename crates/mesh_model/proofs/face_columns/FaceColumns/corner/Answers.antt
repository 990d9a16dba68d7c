use Rattle.std.proofs.Common.{◌≡◌, ◌<◌, ◌+◌, length, arith}
use Rattle.mesh_model.specs.Columns.{start_of}
use Rattle.mesh_model.proofs.FlatFaces.{has-corners, corner-within, side-face}
use Rattle.mesh_model.proofs.face_columns.FaceColumns.corner.Goals as goal

pub bounds-start-requires : goal.bounds-start-requires
bounds-start-requires c =
    let less : c.args.name < c.self.inside.count = has-corners _ _ _ c.args.i (rw (← c.self.view_is) at c.requires) in
    let few = c.self.invariant.few in
    rw c.deref.ensures.value (omega arith)

pub index-requires : goal.index-requires
index-requires c =
    let old = c.self.inside in
    let start : c.bounds-start.result.0 ≡ start_of old.ends.items c.args.name =
    rw c.deref.ensures.value at c.bounds-start.ensures.start in
    let within : start_of old.ends.items c.args.name + c.args.i < length old.sides.items =
    corner-within old.ends.items old.sides.items old.corner_values.rows old.values.rows old.count old.corner_count
    c.args.name c.args.i c.self.invariant (rw (← c.self.view_is) at c.requires) in
    rw start (omega arith)

pub returns : goal.returns
returns c =
    let old = c.self.inside in
    let start : c.bounds-start.result.0 ≡ start_of old.ends.items c.args.name =
    rw c.deref.ensures.value at c.bounds-start.ensures.start in
    rw (← c.self.view_is)
    (side-face old.ends.items old.sides.items old.corner_values.rows old.values.rows old.count old.corner_count
    c.args.name c.args.i c.index.result.now c.self.invariant (rw (← c.self.view_is) at c.requires)
    (rw start at c.index.ensures))
