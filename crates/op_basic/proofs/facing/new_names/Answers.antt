use Rattle.std.proofs.Common.{ℕ, map, ap, ◌∙◌, [], ◌∷◌}
use Rattle.std.specs.List.{range_with_len}
use Rattle.mesh_model.specs.declared.names.EdgeName.{EdgeName}
use Rattle.mesh_model.specs.declared.names.FaceName.{FaceName}
use Rattle.mesh_model.specs.declared.records.Counters.{Counters}
use Rattle.mesh_core.specs.Seen.{now}
use Rattle.op_basic.proofs.NewNames.{rising_parts}
use Rattle.op_basic.proofs.facing.new_names.Goals as goal

pub of-requires : goal.of-requires
of-requires c =
    rising_parts (now c.args.mesh.now) c.count_missing-count.result c.new.result c.from.result c.from-2.result
    c.new.ensures
    (c.from.ensures ∙ c.in_ok-edges.ensures ∙ ap (map (λ (n : ℕ). let e : EdgeName = record { 0 = n } in e))
    (c.deref.ensures.value ∙ c.in_ok-numbers.ensures
    ∙ ap (λ (n : Counters). range_with_len n.edges c.count_missing-count.result) c.counters-before.ensures.counters))
    (c.from-2.ensures ∙ c.in_ok-faces.ensures.items
    ∙ ap (λ (n : Counters). let f : FaceName = record { 0 = n.faces } in f ∷ []) c.counters-before.ensures.counters)
