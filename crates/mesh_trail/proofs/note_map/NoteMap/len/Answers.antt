use Rattle.std.proofs.Common.{arith}
use Rattle.mesh_trail.proofs.Counting.{len-names_of}
use Rattle.mesh_trail.proofs.note_map.NoteMap.len.Goals as goal

pub returns : goal.returns
returns g c = rw (← c.self.view_is, len-names_of c.self.inside.entries.items c.self.invariant.tree.apart) (omega arith)
