use Rattle.std.proofs.Common.{◌∙◌, arith, false, sym}
use Rattle.std.proofs.lemmas.List.{get_or_default}
use Rattle.std.proofs.lemmas.Bool.{le-ltb}
use Rattle.mesh_model.proofs.FlatTables.{is_there-vert, is_there-past}
use Rattle.mesh_model.proofs.vert_columns.VertColumns.has.Goals as goal

pub returns-then-name-self : goal.returns-then-name-self
returns-then-name-self c =
    let old = c.self.inside in
    let few = c.self.invariant.few in
    rw (← c.self.view_is) (c.index.ensures
    ∙ get_or_default old.there.items c.args.name c.index.result.now false (omega arith)
    ∙ sym (is_there-vert old.there.items old.points.items old.values.rows old.count c.args.name c.self.invariant
    c.if-name-self.true))

pub returns-else-name-self : goal.returns-else-name-self
returns-else-name-self c =
    rw (← c.self.view_is, le-ltb c.args.name c.self.inside.count c.if-name-self.false)
    (sym (is_there-past _ c.self.inside.count c.args.name c.if-name-self.false))
