use Rattle.std.proofs.Common.{◌≡◌, ◌++◌, ℕ, List, map, ap, ◌∙◌}
use Rattle.std.proofs.lemmas.List.{take_all}
use Rattle.mesh_model.specs.Table.{at}
use Rattle.mesh_model.specs.Complex.{corners_of}
use Rattle.mesh_model.specs.declared.names.VertName.{VertName}
use Rattle.mesh_model.specs.declared.names.EdgeName.{EdgeName}
use Rattle.mesh_core.specs.Seen.{now}
use Rattle.mesh_passes.proofs.Reached.{sides_named}
use Rattle.mesh_passes.proofs.closing.push_sides.Goals as goal

pub returns : goal.returns
returns c =
    c.loop-k.invariant
    ∙ ap (λ (ns : List ℕ). c.args.numbers.now.items ++ ns)
    (ap (map (λ (k : VertName × EdgeName). k.1.0)) (take_all c.loop-k.k-index c.as_slice-k-items.result.now c.loop-k-test.false
    ∙ c.as_slice-k-items.ensures.value ∙ c.in_ok-corners.ensures)
    ∙ sides_named (corners_of (at (now c.args.mesh.now).faces c.args.f.0)))
