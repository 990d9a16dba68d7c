use Rattle.std.proofs.Common.{◌≡◌, true, is_some, take}
use Rattle.mesh_store.specs.Slots.{at}
use Rattle.mesh_model.specs.Complex.{Complex, corners_of}
use Rattle.mesh_model.specs.Kernel.{with_corners_by}
use Rattle.mesh_records.specs.ReadOff.{face_at}
use Rattle.mesh_records.specs.Places.{KeepsPlaces}
use Rattle.mesh_records.specs.Rewrites.{Rewrites}
use Rattle.mesh_records.specs.Room.{none_of_all}
use Rattle.mesh_records.proofs.Reversals.{half_shifted, last_edge}
use Rattle.mesh_records.proofs.corners.reverse_face.Given as goal

abbrev pub invariant-loop-step : goal.invariant-loop-step
invariant-loop-step l = record {
  rewrites : Rewrites l.fn.st l.st l.fn.next (λ (c : Complex). with_corners_by c l.fn.f (half_shifted l.initial.edge
      l._step));
  edge : l.edge ≡ last_edge l.initial.edge (take l._step (corners_of (face_at l.fn.st l.fn.f.0)));
  there : is_some (at l.st.faces.names l.fn.f.0) ≡ true;
  edge_there : is_some (at l.st.edges.names l.edge.0) ≡ true;
  places : KeepsPlaces none_of_all l.fn.st l.st;
}
