use Rattle.std.proofs.Common.{◌<◌, length, arith}
use Rattle.mesh_model.specs.Table.{at}
use Rattle.mesh_model.specs.Complex.{corners_of}
use Rattle.mesh_model.specs.declared.records.CornerRec.{CornerRec}
use Rattle.mesh_model.proofs.Reading.{written-more}
use Rattle.mesh_model.proofs.draft_shape.DraftShape.corners.Goals as goal

pub loop-i-preserved : goal.loop-i-preserved
loop-i-preserved c =
    let less : c.loop-i.i < length c.loop-i.into = omega (arith, c.requires.room, c.corner_count-i-end.ensures) in
    written-more (λ (k : CornerRec). (k.vert, k.edge)) (corners_of (at c.args.self.now.faces c.args.f.0))
    c.loop-i.into c.loop-i.i c.corner.result c.loop-i.invariant c.corner.ensures less
