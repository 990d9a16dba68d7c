use Rattle.std.proofs.Common.{◌≡◌, ◌≤◌, ◌&&◌, take, is_some}
use Rattle.std.specs.List.{count_by, enumerate_from}
use Rattle.mesh_model.specs.Incidence.{is_loose}
use Rattle.bmesh_run.proofs.write.report.loose_count.Given as goal

abbrev pub invariant-loop-n : goal.invariant-loop-n
invariant-loop-n g l = record {
  told : l.count ≡ count_by (λ e. is_some e.1 && is_loose (g.S.Shape.complex l.shape) (record { 0 = e.0 }))
      (take l.n (enumerate_from 0 (g.S.Shape.complex l.shape).edges));
  few : l.count ≤ l.n;
}
