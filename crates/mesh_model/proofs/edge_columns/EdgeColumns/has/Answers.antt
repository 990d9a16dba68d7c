use Rattle.std.proofs.Common.{◌∙◌, ap, sym, arith}
use Rattle.std.proofs.lemmas.Bool.{le-ltb}
use Rattle.std.proofs.lemmas.List.{get_or_default}
use Rattle.mesh_model.specs.Columns.{stands}
use Rattle.mesh_model.specs.declared.edge_columns.EdgeState.TheVariants.{Absent}
use Rattle.mesh_model.proofs.FlatTables.{is_there-past, is_there-edge}
use Rattle.mesh_model.proofs.edge_columns.EdgeColumns.has.Goals as goal

pub returns-then-name-self : goal.returns-then-name-self
returns-then-name-self c =
    let old = c.self.inside in
    let few = c.self.invariant.few in
    rw (← c.self.view_is, c.stands.ensures) (ap stands (c.index.ensures
    ∙ get_or_default old.states.items c.args.name c.index.result.now Absent (omega arith))
    ∙ sym (is_there-edge old.states.items old.ends.items old.values.rows old.count c.args.name c.self.invariant
    c.if-name-self.true))

pub returns-else-name-self : goal.returns-else-name-self
returns-else-name-self c =
    rw (← c.self.view_is, le-ltb c.args.name c.self.inside.count c.if-name-self.false)
    (sym (is_there-past _ c.self.inside.count c.args.name c.if-name-self.false))
