use Rattle.std.proofs.Common.{◌≡◌, take}
use Rattle.std.specs.List.{zip}
use Rattle.mesh_model.specs.Incidence.{sides}
use Rattle.mesh_model.specs.Making.{edges_along}
use Rattle.mesh_core.specs.Seen.{now}
use Rattle.op_basic.proofs.siding.make_sides.Given as goal

abbrev pub invariant-loop-i : goal.invariant-loop-i
invariant-loop-i l = record {
  made : now l.mesh ≡ (edges_along (now l.fn.mesh) (take l.i (sides l.verts))).0;
  corners : l.corners.items ≡ zip (take l.i l.verts) (edges_along (now l.fn.mesh) (take l.i (sides l.verts))).1;
  base : l.mesh.base ≡ l.fn.mesh.base;
}
