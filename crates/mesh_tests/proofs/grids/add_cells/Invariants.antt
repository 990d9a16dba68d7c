use Rattle.mesh_model.specs.Valid.{IsValid}
use Rattle.mesh_tests.proofs.grids.add_cells.Given as goal

abbrev pub invariant-loop-a : goal.invariant-loop-a
invariant-loop-a l = IsValid l.initial.draft → IsValid l.draft
