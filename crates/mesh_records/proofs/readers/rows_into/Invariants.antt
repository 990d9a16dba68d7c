use Rattle.std.proofs.Common.{◌≡◌, ◌++◌, ◌*◌, length, take}
use Rattle.std.specs.List.{flat_map}
use Rattle.raw_pool.specs.declared.pool.Slot.{Slot}
use Rattle.cust_data.specs.Layers.{row_of, total}
use Rattle.mesh_cycles.specs.Found.{loops_in}
use Rattle.mesh_cycles.specs.Left.{loops_in_left}
use Rattle.mesh_records.proofs.readers.rows_into.Given as goal

-- what is written so far is the rows of the loops passed
abbrev pub invariant-loop-l : goal.invariant-loop-l
invariant-loop-l l = record {
  ready : goal.iterator-loop-l.can_next l.l-iterator;
  seen : l.yielded ++ loops_in_left l.l-iterator ≡ loops_in l.st l.fn.f.0;
  count : length l.yielded * total l.st.values.loops.layers ≡ l.start;
  long : length l.into ≡ length l.fn.into;
  written : take l.start l.into ≡ flat_map (λ (s : Slot). row_of l.st.values.loops s.0) l.yielded;
}
