use Rattle.std.proofs.Common.{◌∙◌, length, ap}
use Rattle.bmesh_run.proofs.Listing.{row_long}
use Rattle.bmesh_run.proofs.write.layers.push_layer.Goals as goal

pub numbers_named-sums-requires : goal.numbers_named-sums-requires
numbers_named-sums-requires g c =
    ap length c.requires.whole ∙ row_long (g.S.Shape.complex c.args.shape.now) c.requires.valid c.args.layer.now.kind
