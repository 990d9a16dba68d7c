use Rattle.std.proofs.Common.{◌≡◌, get_or, sym}
use Rattle.mesh_model.specs.Columns.{start_of}
use Rattle.mesh_model.proofs.FlatTables.{is_there-past}
use Rattle.mesh_model.proofs.FlatFaces.{is_there-face}
use Rattle.mesh_model.proofs.face_columns.FaceColumns.has.Goals as goal

pub returns-then-name-self : goal.returns-then-name-self
returns-then-name-self c =
    let old = c.self.inside in
    let start : c.bounds-start.result.0 ≡ start_of old.ends.items c.args.name =
    rw c.deref.ensures.value at c.bounds-start.ensures.start in
    let end : c.bounds-start.result.1 ≡ get_or old.ends.items c.args.name 0 =
    rw c.deref.ensures.value at c.bounds-start.ensures.end in
    rw (
      ← c.self.view_is,
      start,
      end,
    ) (sym (is_there-face old.ends.items old.sides.items old.corner_values.rows old.values.rows old.count
    old.corner_count c.args.name c.self.invariant c.if-name-self.true))

pub returns-else-name-self : goal.returns-else-name-self
returns-else-name-self c =
    rw (← c.self.view_is) (sym (is_there-past _ c.self.inside.count c.args.name c.if-name-self.false))
