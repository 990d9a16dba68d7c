use Rattle.std.proofs.Common.{◌≡◌, ◌∙◌, ◌<◌, ◌≤◌, ◌+◌, ◌*◌, ◌++◌, ℕ, ℤ, List, [], ◌∷◌, length, ap, arith}
use Rattle.mesh_model.specs.Table.{at, IsThere}
use Rattle.mesh_model.specs.Complex.{Complex, corners_of, width}
use Rattle.mesh_model.specs.Valid.{IsLinked}
use Rattle.mesh_model.specs.declared.names.Kind.TheVariants.{Corners}
use Rattle.mesh_model.specs.declared.records.CornerRec.{CornerRec}
use Rattle.mesh_model.proofs.Reading.{AreWide, wide-linked}
use Rattle.obj_format.specs.Fixed.{BeginsFixed}
use Rattle.obj_writer.proofs.PlaceLemmas.{rows_of, row_within, uvs_next, uvs_all, wide_fixed}
use Rattle.obj_writer.proofs.places.face_places.Goals as goal

-- no corner
abbrev none : CornerRec
none = record { vert = record { 0 = 0 }; edge = record { 0 = 0 }; vals = [] }

-- both numbers of a corner stand in the rows
both_within : (whole : Complex) (f w i : ℕ) (rows : List ℤ) → IsLinked whole → IsThere whole.faces f
    → BeginsFixed whole → w ≡ width whole Corners → rows ≡ rows_of (corners_of (at whole.faces f))
    → i < length (corners_of (at whole.faces f)) → i * w + 1 < length rows
both_within whole f w i rows linked there fixed is same here =
    let ks = corners_of (at whole.faces f) in
    let wide : AreWide w ks = rw is (wide-linked whole f linked there) in
    let two : 2 ≤ w = rw is (wide_fixed whole fixed) in
    row_within ks w i 1 rows same wide here (omega arith)

pub overflow_mul-start : goal.overflow_mul-start
overflow_mul-start g c =
    let whole = g.S.Shape.complex c.args.shape.now in
    let ks = corners_of (at whole.faces c.args.f.0) in
    let here : c.loop-i.i < length ks = omega (arith, c.loop-i-test.true, c.corner_count-i-end.ensures) in
    let within = both_within whole c.args.f.0 c.width-width.result c.loop-i.i c.as_slice-rows.result.now
    c.requires.linked c.requires.there c.requires.fixed c.width-width.ensures
    (c.as_slice-rows.ensures.value ∙ c.in_ok-numbers.ensures) here in
    omega arith

pub place_at-place-requires : goal.place_at-place-requires
place_at-place-requires g c =
    let whole = g.S.Shape.complex c.args.shape.now in
    let ks = corners_of (at whole.faces c.args.f.0) in
    let here : c.loop-i.i < length ks = omega (arith, c.loop-i-test.true, c.corner_count-i-end.ensures) in
    both_within whole c.args.f.0 c.width-width.result c.loop-i.i c.as_slice-rows.result.now
    c.requires.linked c.requires.there c.requires.fixed c.width-width.ensures
    (c.as_slice-rows.ensures.value ∙ c.in_ok-numbers.ensures) here

pub loop-i-preserved : goal.loop-i-preserved
loop-i-preserved g c =
    let whole = g.S.Shape.complex c.args.shape.now in
    let ks = corners_of (at whole.faces c.args.f.0) in
    let w : c.width-width.result ≡ width whole Corners = c.width-width.ensures in
    let wide : AreWide c.width-width.result ks =
    rw w (wide-linked whole c.args.f.0 c.requires.linked c.requires.there) in
    let two : 2 ≤ c.width-width.result = rw w (wide_fixed whole c.requires.fixed) in
    let here : c.loop-i.i < length ks = omega (arith, c.loop-i-test.true, c.corner_count-i-end.ensures) in
    let rows = c.as_slice-rows.result.now in
    uvs_next whole ks c.width-width.result c.loop-i.i none rows c.loop-i.uvs.items c.push.new.self.items
    c.requires.fixed (c.as_slice-rows.ensures.value ∙ c.in_ok-numbers.ensures) wide here two
    c.loop-i.invariant (c.in_ok-push.ensures.items
    ∙ ap (λ u. c.loop-i.uvs.items ++ u ∷ []) c.place_at-place.ensures)

pub returns : goal.returns
returns g c =
    let whole = g.S.Shape.complex c.args.shape.now in
    let ks = corners_of (at whole.faces c.args.f.0) in
    uvs_all whole ks c.loop-i.i _ (omega (arith, c.loop-i-test.false, c.corner_count-i-end.ensures)) c.loop-i.invariant
