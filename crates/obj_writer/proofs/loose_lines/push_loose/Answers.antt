use Rattle.std.proofs.Common.{arith, ap, ◌∙◌, ◌≡◌, ◌<◌, ◌++◌, [], length, take, refl, None}
use Rattle.std.specs.List.{flat_map, enumerate_from}
use Rattle.mesh_model.specs.Table.{at}
use Rattle.obj_writer.specs.Written.{loose_entry}
use Rattle.obj_writer.proofs.WritingLemmas.{flat_map_more_named, flat_map_all_named, onto, no_piece}
use Rattle.obj_writer.proofs.loose_lines.push_loose.Goals as goal

pub loop-n-init : goal.loop-n-init
loop-n-init g c = no_piece c.args.out.now.items [] refl

pub loop-n-preserved : goal.loop-n-preserved
loop-n-preserved g c =
    let shape = g.S.Shape.complex c.args.shape.now in
    let edges : c.counters-n-end.result.edges ≡ length shape.edges =
    ap (λ k. k.edges) c.counters-n-end.ensures.counters in
    let here : c.loop-n.n < length shape.edges = omega (arith, c.loop-n-test.true) in
    let mid = flat_map (loose_entry shape) (take c.loop-n.n (enumerate_from 0 shape.edges)) in
    onto c.args.out.now.items mid c.loop-n.out.items c.push_entry.new.out.items
    (loose_entry shape (c.loop-n.n, at shape.edges c.loop-n.n)) _ c.loop-n.invariant c.in_ok-push_entry.ensures
    (flat_map_more_named (loose_entry shape) shape.edges c.loop-n.n None mid _ here refl refl)

pub returns : goal.returns
returns g c =
    let shape = g.S.Shape.complex c.args.shape.now in
    let edges : c.counters-n-end.result.edges ≡ length shape.edges =
    ap (λ k. k.edges) c.counters-n-end.ensures.counters in
    c.loop-n.invariant
    ∙ ap (λ t. c.args.out.now.items ++ t)
    (flat_map_all_named (loose_entry shape) shape.edges c.loop-n.n _ (omega (arith, c.loop-n-test.false)) refl)
