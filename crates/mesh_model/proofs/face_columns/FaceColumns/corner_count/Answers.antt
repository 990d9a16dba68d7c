use Rattle.std.proofs.Common.{◌≡◌, ◌<◌, get_or, sym, arith}
use Rattle.mesh_model.specs.Columns.{start_of}
use Rattle.mesh_model.proofs.FlatTables.{there-within}
use Rattle.mesh_model.proofs.FlatFaces.{corner_count-face}
use Rattle.mesh_model.proofs.face_columns.FaceColumns.corner_count.Goals as goal

pub bounds-start-requires : goal.bounds-start-requires
bounds-start-requires c =
    let less : c.args.name < c.self.inside.count = there-within _ _ _ (rw (← c.self.view_is) at c.requires) in
    let few = c.self.invariant.few in
    rw c.deref.ensures.value (omega arith)

pub overflow_sub-result : goal.overflow_sub-result
overflow_sub-result c =
    let old = c.self.inside in
    let less : c.args.name < c.self.inside.count = there-within _ _ _ (rw (← c.self.view_is) at c.requires) in
    let start : c.bounds-start.result.0 ≡ start_of old.ends.items c.args.name =
    rw c.deref.ensures.value at c.bounds-start.ensures.start in
    let end : c.bounds-start.result.1 ≡ get_or old.ends.items c.args.name 0 =
    rw c.deref.ensures.value at c.bounds-start.ensures.end in
    let rising = c.self.invariant.rising c.args.name less in
    omega arith

pub returns : goal.returns
returns c =
    let old = c.self.inside in
    let less : c.args.name < c.self.inside.count = there-within _ _ _ (rw (← c.self.view_is) at c.requires) in
    let start : c.bounds-start.result.0 ≡ start_of old.ends.items c.args.name =
    rw c.deref.ensures.value at c.bounds-start.ensures.start in
    let end : c.bounds-start.result.1 ≡ get_or old.ends.items c.args.name 0 =
    rw c.deref.ensures.value at c.bounds-start.ensures.end in
    rw (
      ← c.self.view_is,
      start,
      end,
    ) (sym (corner_count-face old.ends.items old.sides.items old.corner_values.rows old.values.rows old.count
    old.corner_count c.args.name c.self.invariant less))
