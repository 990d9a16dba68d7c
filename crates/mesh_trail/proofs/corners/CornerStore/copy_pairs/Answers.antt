use Rattle.std.proofs.Common.{◌≤◌, ◌+◌, List, length, take, drop, refl, ap, ◌∙◌, arith}
use Rattle.mesh_model.specs.declared.names.VertName.{VertName}
use Rattle.mesh_model.specs.declared.names.EdgeName.{EdgeName}
use Rattle.mesh_trail.specs.Kept.{corner_recs}
use Rattle.mesh_trail.proofs.CornerRows.{length-corner_recs, part_pairs}
use Rattle.mesh_trail.proofs.corners.CornerStore.copy_pairs.Goals as goal

pub copy_part-requires : goal.copy_part-requires
copy_part-requires c =
    let s = c.self.inside in
    let within : c.args.from + length c.args.into.now ≤ length s.pairs.items =
    rw (← c.self.view_is, length-corner_recs s.width s.pairs.items s.values.items) at c.requires in
    omega (arith, within, c.deref.ensures.len)

pub returns : goal.returns
returns c =
    let s = c.self.inside in
    let count = length c.args.into.now in
    rw (← c.self.view_is) (c.copy_part.ensures
    ∙ ap (λ (xs : List (VertName × EdgeName)). take count (drop c.args.from xs)) c.deref.ensures.value
    ∙ part_pairs s.width c.args.from count s.pairs.items s.values.items
    (take count (drop c.args.from (corner_recs s.width s.pairs.items s.values.items))) refl)
