use Rattle.std.proofs.Common.{◌≡◌, Some, take}
use Rattle.std.specs.Option.{option_map}
use Rattle.mesh_model.specs.Table.{at}
use Rattle.mesh_model.specs.declared.records.EdgeRec.{EdgeRec}
use Rattle.mesh_model.proofs.copying.edge_row.Given as goal

abbrev pub invariant-loop-k : goal.invariant-loop-k
invariant-loop-k g l = option_map (λ (r : EdgeRec). take l.k r.vals) (at (g.S.Shape.complex l.shape).edges l.e.0)
    ≡ Some l.row
