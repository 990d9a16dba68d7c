use Rattle.std.proofs.Common.{◌≡◌, map, take}
use Rattle.mesh_model.specs.declared.names.VertName.{VertName}
use Rattle.op_slots.specs.declared.mapping.Pair.{Pair}
use Rattle.mesh_copies.specs.CopyingSteps.{vert_after}
use Rattle.mesh_copies.proofs.slots.pairs_after.Given as goal

abbrev pub invariant-loop-v : goal.invariant-loop-v
invariant-loop-v l = l.pairs
    ≡ map (λ (v : VertName). let p : Pair = record { source = v; target = vert_after l.next l.set v } in p)
    (take l.v-index l.verts)
