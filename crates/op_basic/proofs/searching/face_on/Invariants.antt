use Rattle.std.proofs.Common.{◌++◌, map}
use Rattle.mesh_model.specs.Table.{at, passes}
use Rattle.mesh_model.specs.declared.names.FaceName.{FaceName}
use Rattle.mesh_records.specs.Order.{faces_of_vert}
use Rattle.mesh_records.specs.StandsFor.{ListsOnce}
use Rattle.mesh_core.specs.Left.{faces_at_vert_left}
use Rattle.mesh_core.specs.Seen.{now}
use Rattle.op_basic.specs.Making.{has_just}
use Rattle.op_basic.proofs.Searched.{IsLeast}
use Rattle.op_basic.proofs.searching.face_on.Given as goal

abbrev pub invariant-loop-f : goal.invariant-loop-f
invariant-loop-f s = record {
  ready : goal.iterator-loop-f.can_next s.f-iterator;
  given : ListsOnce (s.yielded ++ faces_at_vert_left s.f-iterator) (faces_of_vert (now s.fn.mesh) s.fn.v);
  least : IsLeast (λ (f : FaceName). passes (has_just (map (λ n. record { 0 = n }) s.fn.numbers))
      (at (now s.fn.mesh).faces f.0)) s.yielded s.least;
}
