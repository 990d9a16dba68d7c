use Rattle.std.proofs.Common.{arith}
use Rattle.mesh_trail.proofs.Rising.{noted_whole}
use Rattle.mesh_trail.proofs.edges.trim_map.Goals as goal

pub trim_entries-requires-clause-within : goal.trim_entries-requires-clause-within
trim_entries-requires-clause-within g c = rw (← c.map.view_is) at c.requires.within

pub invariant_of-map : goal.invariant_of-map
invariant_of-map g c = noted_whole c.trim_entries.new.entries.items _ _ c.trim_entries.ensures.tree (omega arith)
    (omega arith) (omega arith) c.trim_entries.ensures.rising
