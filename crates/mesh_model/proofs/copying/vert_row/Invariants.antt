use Rattle.std.proofs.Common.{◌≡◌, Some, take}
use Rattle.std.specs.Option.{option_map}
use Rattle.mesh_model.specs.Table.{at}
use Rattle.mesh_model.specs.declared.records.VertRec.{VertRec}
use Rattle.mesh_model.proofs.copying.vert_row.Given as goal

abbrev pub invariant-loop-k : goal.invariant-loop-k
invariant-loop-k g l = option_map (λ (r : VertRec). take l.k r.vals) (at (g.S.Shape.complex l.shape).verts l.v.0)
    ≡ Some l.row
