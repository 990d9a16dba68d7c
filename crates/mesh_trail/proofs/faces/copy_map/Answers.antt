use Rattle.mesh_trail.proofs.faces.copy_map.Goals as goal

pub copy_entries-requires-clause-within : goal.copy_entries-requires-clause-within
copy_entries-requires-clause-within c = rw c.deref.ensures.value (rw (← c.map.view_is) at c.requires.within)

pub copy_entries-requires-clause-stored : goal.copy_entries-requires-clause-stored
copy_entries-requires-clause-stored c = rw c.deref.ensures.value (rw (← c.map.view_is) at c.requires.stored)
