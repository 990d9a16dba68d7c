use Rattle.std.proofs.Common.{◌≡◌, ◌∙◌, ◌<◌, ◌≤◌, ℤ, List, [], length, get_or, take, drop, refl, sym, ap, subst, arith}
use Rattle.std.specs.List.{All}
use Rattle.std.proofs.lemmas.List.{length-map}
use Rattle.mesh_model.specs.Complex.{Complex, corners_of, width}
use Rattle.mesh_model.specs.Table.{at}
use Rattle.mesh_model.specs.declared.names.Kind.TheVariants.{Corners}
use Rattle.mesh_model.specs.declared.records.CornerRec.{CornerRec}
use Rattle.mesh_model.specs.declared.records.FaceRec.{FaceRec}
use Rattle.std.proofs.Common.{Option}
use Rattle.layer_sums.specs.Sums.{corner_rows, plus, AreWithin}
use Rattle.layer_sums.proofs.Summing.{right_at, corners_joined, next_row, first_part, fold_next, corners_within, few_corners}
use Rattle.layer_sums.proofs.rows.add_corners.Goals as goal

count_rows : (o : Option FaceRec) → length (corner_rows o) ≡ length (corners_of o)
count_rows o = length-map (corners_of o) (λ (k : CornerRec). k.vals)

pub loop-corner-init : goal.loop-corner-init
loop-corner-init g c =
    let whole : Complex = g.S.Shape.complex c.args.shape.now in
    record {
      rest = c.as_slice-rest.ensures.value ∙ c.in_ok-read_corners.ensures.numbers
          ∙ corners_joined (corners_of (at whole.faces c.args.f.0));
      added = refl;
    }

pub split_at-requires : goal.split_at-requires
split_at-requires g c =
    let whole : Complex = g.S.Shape.complex c.args.shape.now in
    let rows = corner_rows (at whole.faces c.args.f.0) in
    let less : c.loop-corner.corner < length rows =
    omega (arith, c.loop-corner-test.true, c.corner_count-corner-end.ensures, count_rows (at whole.faces c.args.f.0)) in
    let next = next_row rows c.loop-corner.corner (width whole Corners) c.loop-corner.rest.now less
    (right_at whole c.requires.valid Corners c.args.f.0) c.loop-corner.invariant.rest in
    let part = first_part (width whole Corners) _ _ c.loop-corner.rest.now next.0 next.1 in
    omega (arith, part.2, c.requires.wide)

pub add_row-requires-clause-room : goal.add_row-requires-clause-room
add_row-requires-clause-room g c =
    let whole : Complex = g.S.Shape.complex c.args.shape.now in
    let rows = corner_rows (at whole.faces c.args.f.0) in
    let less : c.loop-corner.corner < length rows =
    omega (arith, c.loop-corner-test.true, c.corner_count-corner-end.ensures, count_rows (at whole.faces c.args.f.0)) in
    corners_within (width whole Corners) c.loop-corner.corner c.args.sums.now c.loop-corner.sums rows c.requires.wide
    (right_at whole c.requires.valid Corners c.args.f.0) c.requires.room (omega arith)
    (few_corners whole c.requires.valid c.args.f.0) c.loop-corner.invariant.added

pub add_row-requires-clause-small : goal.add_row-requires-clause-small
add_row-requires-clause-small g c =
    let whole : Complex = g.S.Shape.complex c.args.shape.now in
    let rows = corner_rows (at whole.faces c.args.f.0) in
    let less : c.loop-corner.corner < length rows =
    omega (arith, c.loop-corner-test.true, c.corner_count-corner-end.ensures, count_rows (at whole.faces c.args.f.0)) in
    let right = right_at whole c.requires.valid Corners c.args.f.0 in
    let next = next_row rows c.loop-corner.corner (width whole Corners) c.loop-corner.rest.now less right
    c.loop-corner.invariant.rest in
    let part = first_part (width whole Corners) _ _ c.loop-corner.rest.now next.0 next.1 in
    let front = c.split_at.ensures.front ∙ ap (λ n. take n c.loop-corner.rest.now) c.requires.wide ∙ part.0 in
    subst (AreWithin 1) (sym front) (right c.loop-corner.corner [] less).small

pub loop-corner-preserved : goal.loop-corner-preserved
loop-corner-preserved g c =
    let whole : Complex = g.S.Shape.complex c.args.shape.now in
    let rows = corner_rows (at whole.faces c.args.f.0) in
    let less : c.loop-corner.corner < length rows =
    omega (arith, c.loop-corner-test.true, c.corner_count-corner-end.ensures, count_rows (at whole.faces c.args.f.0)) in
    let right = right_at whole c.requires.valid Corners c.args.f.0 in
    let next = next_row rows c.loop-corner.corner (width whole Corners) c.loop-corner.rest.now less right
    c.loop-corner.invariant.rest in
    let part = first_part (width whole Corners) _ _ c.loop-corner.rest.now next.0 next.1 in
    let front = c.split_at.ensures.front ∙ ap (λ n. take n c.loop-corner.rest.now) c.requires.wide ∙ part.0 in
    record {
      rest = c.split_at.ensures.back ∙ ap (λ n. drop n c.loop-corner.rest.now) c.requires.wide ∙ part.1;
      added = fold_next c.args.sums.now rows c.loop-corner.corner c.loop-corner.sums c.add_row.new.sums less
          c.loop-corner.invariant.added
          (c.add_row.ensures ∙ ap (plus c.loop-corner.sums) front);
    }
