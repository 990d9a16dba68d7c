use Rattle.std.proofs.Common.{◌∙◌, ap}
use Rattle.op_slots.specs.Values.{is_live_pair}
use Rattle.op_slots.specs.Mapping.{sources}
use Rattle.mesh_model.specs.Elements.{is_among}
use Rattle.op_slots.proofs.Pairing.{may_follow, kept_more}
use Rattle.op_slots.proofs.resolving.listed.live_pairs.Goals as goal

pub add_live_pair-requires : goal.add_live_pair-requires
add_live_pair-requires g c =
    ap (λ ps. is_among (sources ps) c.get.result.source) c.loop-k.invariant
    ∙ may_follow (is_live_pair (g.S.Shape.complex c.args.shape.now)) c.args.pairs.now c.loop-k.k c.get.result
    c.len-k-end.ensures.distinct c.get.ensures

pub loop-k-preserved : goal.loop-k-preserved
loop-k-preserved g c =
    kept_more (is_live_pair (g.S.Shape.complex c.args.shape.now)) c.args.pairs.now c.loop-k.k c.get.result c.loop-k.live
    _ c.get.ensures c.loop-k.invariant c.in_ok-add_live_pair.ensures
