use Rattle.std.proofs.Common.{◌≡◌, ◌≤◌, ◌+◌, ℕ, None, length}
use Rattle.raw_pool.specs.Slots.{spare_count}
use Rattle.mesh_store.specs.Slots.{at}
use Rattle.kernel_tests.proofs.stores.elements.add_and_drop.Given as goal

abbrev pub invariant-loop-name : goal.invariant-loop-name
invariant-loop-name l =
    (l.fn.count ≤ spare_count l.st.verts.cells + l.name)
    × (l.fn.count ≤ length l.st.verts.names)
    × ((name : ℕ) → l.name ≤ name → at l.st.verts.names name ≡ None)
