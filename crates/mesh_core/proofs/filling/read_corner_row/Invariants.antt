use Rattle.std.proofs.Common.{◌≡◌, Some, length, take}
use Rattle.std.specs.List.{slice_get}
use Rattle.std.specs.Option.{option_map}
use Rattle.mesh_model.specs.Table.{at}
use Rattle.mesh_model.specs.Complex.{corners_of}
use Rattle.mesh_model.specs.declared.records.CornerRec.{CornerRec}
use Rattle.mesh_core.proofs.filling.read_corner_row.Given as goal

abbrev pub invariant-loop-k : goal.invariant-loop-k
invariant-loop-k l = record {
  long : length l.into ≡ length l.fn.into;
  told : option_map (λ (r : CornerRec). take l.k r.vals) (slice_get (corners_of (at l.draft.faces l.f.0)) l.i)
      ≡ Some (take l.k l.into);
}
