use Rattle.std.proofs.Common.{◌≡◌, ◌<◌, ◌++◌, ◌∙◌, None, [], length, take, refl, ap, arith}
use Rattle.std.specs.List.{flat_map}
use Rattle.std.proofs.lemmas.List.{take_all}
use Rattle.mesh_model.specs.Table.{at}
use Rattle.obj_writer.specs.Written.{vert_entry}
use Rattle.obj_writer.proofs.WritingLemmas.{flat_map_next, onto, no_piece}
use Rattle.obj_writer.proofs.vert_lines.push_verts.Goals as goal

pub loop-n-init : goal.loop-n-init
loop-n-init g c = no_piece c.args.out.now.items [] refl

pub loop-n-preserved : goal.loop-n-preserved
loop-n-preserved g c =
    let shape = g.S.Shape.complex c.args.shape.now in
    let verts : c.counters-n-end.result.verts ≡ length shape.verts =
    ap (λ k. k.verts) c.counters-n-end.ensures.counters in
    let here : c.loop-n.n < length shape.verts = omega (arith, c.loop-n-test.true) in
    let mid = flat_map (vert_entry c.args.scale) (take c.loop-n.n shape.verts) in
    onto c.args.out.now.items mid c.loop-n.out.items c.push_entry.new.out.items
    (vert_entry c.args.scale (at shape.verts c.loop-n.n)) _
    c.loop-n.invariant c.in_ok-push_entry.ensures
    (flat_map_next (vert_entry c.args.scale) shape.verts c.loop-n.n None mid _ here refl refl)

pub returns : goal.returns
returns g c =
    let shape = g.S.Shape.complex c.args.shape.now in
    let verts : c.counters-n-end.result.verts ≡ length shape.verts =
    ap (λ k. k.verts) c.counters-n-end.ensures.counters in
    c.loop-n.invariant
    ∙ ap (λ vs. c.args.out.now.items ++ flat_map (vert_entry c.args.scale) vs)
    (take_all c.loop-n.n shape.verts (omega (arith, c.loop-n-test.false)))
