use Rattle.std.proofs.Common.{◌≡◌, ◌≤◌, ◌<◌, ◌+◌, ◌-◌, ℤ, List, length, take, drop, ap, sym, subst, ◌∙◌, arith, rules}
use Rattle.std.specs.List.{flat_map}
use Rattle.std.specs.Option.{option_map}
use Rattle.std.proofs.lemmas.List.{length-append}
use Rattle.mesh_model.specs.Table.{at}
use Rattle.mesh_model.specs.Complex.{Complex, corners_of}
use Rattle.mesh_model.specs.Kernel.{with_corner_vals}
use Rattle.mesh_model.specs.declared.records.CornerRec.{CornerRec}
use Rattle.mesh_model.proofs.Reading.{wide-linked, pieces-more, pieces-within}
use Rattle.mesh_model.proofs.Copies.{wide-found, corner-piece, corner-at}
use Rattle.mesh_core.specs.Seen.{now}
use Rattle.op_values.specs.Putting.{put_from}
use Rattle.op_values.proofs.CornerRows.{half-more, half-all, half-long}
use Rattle.op_values.proofs.putting.put_at_corners_of.Goals as goal

pub overflow_add-start : goal.overflow_add-start
overflow_add-start c =
    let whole : Complex = now c.args.mesh.now in
    let corners = corners_of (at whole.faces c.args.f.0) in
    let vals : CornerRec → List ℤ = λ x. x.vals in
    let i = c.loop-i.i in
    let less : i < length corners = omega (arith, c.corner_count-i-end.ensures) in
    let k = corner-at corners i less in
    let wide : length (k.0).vals ≡ c.width-width.result =
    wide-found _ corners i k.0 (wide-linked whole c.args.f.0 c.counters.ensures.linked c.requires.there) k.1
    ∙ sym c.width-width.ensures in
    let within = pieces-within vals corners i (k.0).vals (ap (option_map vals) k.1) in
    let rows : c.deref.result.now ≡ flat_map vals corners =
    c.deref.ensures.value ∙ c.in_ok-read_corners.ensures.numbers in
    let fits : c.loop-i.start + c.width-width.result ≤ length c.deref.result.now =
    omega (arith, c.loop-i.invariant.start, ap length rows) in
    search rules

pub offset_bounds-deref-start : goal.offset_bounds-deref-start
offset_bounds-deref-start c =
    let whole : Complex = now c.args.mesh.now in
    let corners = corners_of (at whole.faces c.args.f.0) in
    let vals : CornerRec → List ℤ = λ x. x.vals in
    let i = c.loop-i.i in
    let less : i < length corners = omega (arith, c.corner_count-i-end.ensures) in
    let k = corner-at corners i less in
    let wide : length (k.0).vals ≡ c.width-width.result =
    wide-found _ corners i k.0 (wide-linked whole c.args.f.0 c.counters.ensures.linked c.requires.there) k.1
    ∙ sym c.width-width.ensures in
    let within = pieces-within vals corners i (k.0).vals (ap (option_map vals) k.1) in
    let rows : c.deref.result.now ≡ flat_map vals corners =
    c.deref.ensures.value ∙ c.in_ok-read_corners.ensures.numbers in
    let fits : c.loop-i.start + c.width-width.result ≤ length c.deref.result.now =
    omega (arith, c.loop-i.invariant.start, ap length rows) in
    search rules

pub slice_bounds-changed_row-end : goal.slice_bounds-changed_row-end
slice_bounds-changed_row-end c =
    let whole : Complex = now c.args.mesh.now in
    let corners = corners_of (at whole.faces c.args.f.0) in
    let vals : CornerRec → List ℤ = λ x. x.vals in
    let i = c.loop-i.i in
    let less : i < length corners = omega (arith, c.corner_count-i-end.ensures) in
    let k = corner-at corners i less in
    let wide : length (k.0).vals ≡ c.width-width.result =
    wide-found _ corners i k.0 (wide-linked whole c.args.f.0 c.counters.ensures.linked c.requires.there) k.1
    ∙ sym c.width-width.ensures in
    let within = pieces-within vals corners i (k.0).vals (ap (option_map vals) k.1) in
    let rows : c.deref.result.now ≡ flat_map vals corners =
    c.deref.ensures.value ∙ c.in_ok-read_corners.ensures.numbers in
    let fits : c.loop-i.start + c.width-width.result ≤ length c.deref.result.now =
    omega (arith, c.loop-i.invariant.start, ap length rows) in
    search rules

pub set_corner_vals-requires-clause-within : goal.set_corner_vals-requires-clause-within
set_corner_vals-requires-clause-within c =
    let whole : Complex = now c.args.mesh.now in
    let corners = corners_of (at whole.faces c.args.f.0) in
    let less : c.loop-i.i < length corners = omega (arith, c.corner_count-i-end.ensures) in
    subst (λ (x : Complex). c.loop-i.i < length (corners_of (at x.faces c.args.f.0))) (sym c.loop-i.invariant.now)
    (half-long (put_from c.args.from c.args.numbers.now) whole c.args.f c.loop-i.i less)

pub loop-i-preserved : goal.loop-i-preserved
loop-i-preserved c =
    let whole : Complex = now c.args.mesh.now in
    let corners = corners_of (at whole.faces c.args.f.0) in
    let vals : CornerRec → List ℤ = λ x. x.vals in
    let i = c.loop-i.i in
    let less : i < length corners = omega (arith, c.corner_count-i-end.ensures) in
    let k = corner-at corners i less in
    let wide : length (k.0).vals ≡ c.width-width.result =
    wide-found _ corners i k.0 (wide-linked whole c.args.f.0 c.counters.ensures.linked c.requires.there) k.1
    ∙ sym c.width-width.ensures in
    let rows : c.deref.result.now ≡ flat_map vals corners =
    c.deref.ensures.value ∙ c.in_ok-read_corners.ensures.numbers in
    let f = put_from c.args.from c.args.numbers.now in
    let gap : c.loop-i.start + c.width-width.result - c.loop-i.start ≡ c.width-width.result = omega arith in
    let piece : take c.width-width.result (drop c.loop-i.start c.deref.result.now) ≡ (k.0).vals =
    ap (λ (xs : List ℤ). take c.width-width.result (drop c.loop-i.start xs)) rows
    ∙ corner-piece corners i c.loop-i.start c.width-width.result k.0 k.1 wide c.loop-i.invariant.start in
    let told = rw (gap, piece) at c.in_ok-row.ensures in
    let made : c.deref-in-loop-i.result.now ≡ f (k.0).vals = c.deref-in-loop-i.ensures.value ∙ told in
    let more = pieces-more vals corners i (k.0).vals (ap (option_map vals) k.1) in
    record {
      start = omega (
        arith,
        c.loop-i.invariant.start,
        ap length more,
        length-append (flat_map vals (take i corners)) (k.0).vals,
        wide,
      );
      now = c.in_ok-set_corner_vals.ensures.now
          ∙ ap (λ (x : Complex). with_corner_vals x c.args.f i c.deref-in-loop-i.result.now) c.loop-i.invariant.now
          ∙ half-more f whole c.args.f i k.0 c.deref-in-loop-i.result.now k.1 made;
      base = c.set_corner_vals.ensures.base ∙ c.loop-i.invariant.base;
    }

pub returns-clause-now : goal.returns-clause-now
returns-clause-now c =
    c.loop-i.invariant.now
    ∙ half-all (put_from c.args.from c.args.numbers.now) (now c.args.mesh.now) c.args.f c.loop-i.i
    (omega (arith, c.corner_count-i-end.ensures))
