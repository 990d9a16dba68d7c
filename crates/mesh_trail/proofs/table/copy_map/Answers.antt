use Rattle.mesh_trail.proofs.table.copy_map.Goals as goal

pub copy_entries-requires-clause-within : goal.copy_entries-requires-clause-within
copy_entries-requires-clause-within g c = rw c.deref.ensures.value (rw (← c.map.view_is) at c.requires.within)

pub returns-clause-names : goal.returns-clause-names
returns-clause-names g c = rw (← c.map.view_is) (rw c.deref.ensures.value at c.in_ok-copy_entries.ensures.names)
