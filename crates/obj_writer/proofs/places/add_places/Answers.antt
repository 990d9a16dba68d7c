use Rattle.obj_writer.specs.Whole.{origin}
use Rattle.obj_writer.proofs.PlaceLemmas.{insert_next, insert_done}
use Rattle.obj_writer.proofs.places.add_places.Goals as goal

pub loop-uv-preserved : goal.loop-uv-preserved
loop-uv-preserved c =
    insert_next c.args.found.now.keys c.loop-uv.found.keys _ c.args.uvs.now c.loop-uv.uv-index origin
    c.loop-uv-test.true c.loop-uv.invariant c.in_ok-insert.ensures.keys

pub returns : goal.returns
returns c = insert_done c.args.found.now.keys c.loop-uv.found.keys c.args.uvs.now c.loop-uv.uv-index
    c.loop-uv-test.false c.loop-uv.invariant
