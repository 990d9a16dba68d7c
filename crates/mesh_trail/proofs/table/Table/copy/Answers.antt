use Rattle.std.proofs.Common.{◌∙◌}
use Rattle.mesh_trail.proofs.table.Table.copy.Goals as goal

pub returns-clause-names : goal.returns-clause-names
returns-clause-names g c = rw (← c.self.view_is) (c.shrink.ensures.names
    ∙ rw (c.deref.ensures.value, c.new-table.ensures.width) at c.in_ok-copy_map.ensures.names)
