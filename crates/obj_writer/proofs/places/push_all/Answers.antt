use Rattle.std.proofs.Common.{◌++◌, ◌∙◌, [], get_or, take, refl, ap}
use Rattle.std.specs.List.{flat_map}
use Rattle.std.proofs.lemmas.List.{take_all}
use Rattle.obj_writer.specs.Whole.{origin, place_line}
use Rattle.obj_writer.proofs.WritingLemmas.{flat_map_next, onto, no_piece}
use Rattle.obj_writer.proofs.places.push_all.Goals as goal

pub loop-uv-init : goal.loop-uv-init
loop-uv-init c = no_piece c.args.out.now.items [] refl

pub loop-uv-preserved : goal.loop-uv-preserved
loop-uv-preserved c =
    let mid = flat_map place_line (take c.loop-uv.uv-index c.args.uvs.now) in
    onto c.args.out.now.items mid c.loop-uv.out.items c.push_place.new.out.items
    (place_line (get_or c.args.uvs.now c.loop-uv.uv-index origin)) _ c.loop-uv.invariant c.in_ok-push_place.ensures
    (flat_map_next place_line c.args.uvs.now c.loop-uv.uv-index origin mid _ c.loop-uv-test.true refl refl)

pub returns : goal.returns
returns c = c.loop-uv.invariant
    ∙ ap (λ us. c.args.out.now.items ++ flat_map place_line us)
    (take_all c.loop-uv.uv-index c.args.uvs.now c.loop-uv-test.false)
