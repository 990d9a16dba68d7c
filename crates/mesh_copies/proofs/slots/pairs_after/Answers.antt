use Rattle.std.proofs.Common.{List, take, get_or, ap, ◌∙◌}
use Rattle.mesh_model.specs.Elements.{is_among}
use Rattle.mesh_model.specs.Naming.{is_rising, vert_numbers}
use Rattle.mesh_model.specs.declared.names.VertName.{VertName}
use Rattle.op_slots.specs.Mapping.{sources}
use Rattle.op_slots.specs.declared.mapping.Pair.{Pair}
use Rattle.mesh_passes.proofs.Rising.{not_before}
use Rattle.mesh_copies.specs.CopyingSteps.{vert_after}
use Rattle.mesh_copies.proofs.Copied.{no_vert}
use Rattle.mesh_copies.proofs.Copyings.{sources-paired}
use Rattle.mesh_copies.proofs.slots.pairs_after.Goals as goal

pub push-requires : goal.push-requires
push-requires c =
    let vs = c.verts-verts.result.now in
    let i = c.loop-v.v-index in
    let v = get_or vs i no_vert in
    ap (λ (ps : List Pair). is_among (sources ps) v) c.loop-v.invariant
    ∙ ap (λ (ws : List VertName). is_among ws v)
    (sources-paired (vert_after c.args.next c.args.set.now) (take i vs))
    ∙ not_before (λ (w : VertName). w.0) vs i no_vert
    (ap (λ (ws : List VertName). is_rising (vert_numbers ws)) c.verts-verts.ensures.names ∙ c.verts-verts.ensures.rising)
    c.loop-v-test.true
