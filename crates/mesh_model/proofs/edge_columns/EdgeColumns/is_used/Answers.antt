use Rattle.std.proofs.Common.{◌∙◌, ap, sym, arith}
use Rattle.std.proofs.lemmas.Bool.{le-ltb}
use Rattle.std.proofs.lemmas.List.{get_or_default}
use Rattle.mesh_model.specs.Columns.{is_used}
use Rattle.mesh_model.specs.declared.edge_columns.EdgeState.TheVariants.{Absent}
use Rattle.mesh_model.proofs.FlatTables.{used-within, used-past}
use Rattle.mesh_model.proofs.edge_columns.EdgeColumns.is_used.Goals as goal

pub returns-then-name-self : goal.returns-then-name-self
returns-then-name-self c =
    let old = c.self.inside in
    let few = c.self.invariant.few in
    rw (← c.self.view_is, c.is_used.ensures) (ap is_used (c.index.ensures
    ∙ get_or_default old.states.items c.args.name c.index.result.now Absent (omega arith))
    ∙ sym (used-within old.states.items old.count c.args.name few c.if-name-self.true))

pub returns-else-name-self : goal.returns-else-name-self
returns-else-name-self c =
    rw (← c.self.view_is, le-ltb c.args.name c.self.inside.count c.if-name-self.false)
    (sym (used-past c.self.inside.states.items c.self.inside.count c.args.name c.if-name-self.false))
