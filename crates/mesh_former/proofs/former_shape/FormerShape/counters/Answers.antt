use Rattle.mesh_former.proofs.former_shape.FormerShape.counters.Goals as goal

pub returns-clause-linked : goal.returns-clause-linked
returns-clause-linked g c = rw (← c.self.view_is) c.self.invariant.linked
