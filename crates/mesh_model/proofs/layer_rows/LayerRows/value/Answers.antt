use Rattle.std.proofs.Common.{rules}
use Rattle.mesh_model.proofs.DueLayers.{number-due}
use Rattle.mesh_model.proofs.layer_rows.LayerRows.value.Goals as goal

pub returns : goal.returns
returns c =
    let read = number-due c.self.inside.due c.self.inside.made c.args.place c.args.k c.value.result
    (rw (← c.self.view_is) at c.requires.place) (rw (← c.self.view_is) at c.requires.within)
    c.total.ensures.table c.value.ensures in
    rw (← c.self.view_is) (search (rules, read))
