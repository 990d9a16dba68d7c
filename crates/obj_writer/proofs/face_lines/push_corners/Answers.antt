use Rattle.std.proofs.Common.{◌≡◌, ◌<◌, ◌++◌, ◌∙◌, [], length, map, take, refl, ap, arith, get_or}
use Rattle.std.specs.List.{flat_map}
use Rattle.std.proofs.lemmas.List.{take_all, length-map}
use Rattle.mesh_model.specs.Table.{at}
use Rattle.mesh_model.specs.Complex.{corners_of}
use Rattle.mesh_model.specs.declared.names.EdgeName.{EdgeName}
use Rattle.mesh_model.specs.declared.names.VertName.{VertName}
use Rattle.mesh_model.specs.declared.records.CornerRec.{CornerRec}
use Rattle.obj_writer.specs.Whole.{corner_word, origin, uv_of}
use Rattle.obj_writer.proofs.WritingLemmas.{flat_map_next, onto, no_piece}
use Rattle.obj_writer.proofs.FaceTextLemmas.{pair, corner_here, corner_past, corner_at, vert_below, uv_at, word_told}
use Rattle.obj_writer.proofs.face_lines.push_corners.Goals as goal

-- no corner
abbrev none : CornerRec
none = record { vert = record { 0 = 0 }; edge = record { 0 = 0 }; vals = [] }

-- no vertex and no edge
abbrev nowhere : VertName × EdgeName
nowhere = (record { 0 = 0 }, record { 0 = 0 })

pub loop-i-init : goal.loop-i-init
loop-i-init g c = no_piece c.args.out.now.items [] refl

pub bounds-indices-v : goal.bounds-indices-v
bounds-indices-v g c =
    let whole = g.S.Shape.complex c.args.shape.now in
    let ks = corners_of (at whole.faces c.args.f.0) in
    let sides = c.as_slice-corners.result.now in
    let are : sides ≡ map pair ks = c.as_slice-corners.ensures.value ∙ c.in_ok-sides.ensures in
    let here : c.loop-i.i < length ks = corner_here ks sides c.loop-i.i are c.loop-i-test.true in
    let same = ap (λ (v : VertName). v.0) (corner_at ks sides c.loop-i.i none nowhere are c.loop-i-test.true) in
    let below = vert_below whole c.args.f.0 c.loop-i.i none c.requires.linked here in
    let long = c.requires.indices.long in
    omega arith

pub bounds-places-i : goal.bounds-places-i
bounds-places-i g c =
    let whole = g.S.Shape.complex c.args.shape.now in
    let ks = corners_of (at whole.faces c.args.f.0) in
    let sides = c.as_slice-corners.result.now in
    let are : sides ≡ map pair ks = c.as_slice-corners.ensures.value ∙ c.in_ok-sides.ensures in
    let here : c.loop-i.i < length ks = corner_here ks sides c.loop-i.i are c.loop-i-test.true in
    let all : c.as_slice-places.result.now ≡ map (uv_of whole) ks =
    c.as_slice-places.ensures.value ∙ c.in_ok-uvs.ensures in
    omega (arith, ap length all, length-map ks (uv_of whole))

pub loop-i-preserved : goal.loop-i-preserved
loop-i-preserved g c =
    let whole = g.S.Shape.complex c.args.shape.now in
    let ks = corners_of (at whole.faces c.args.f.0) in
    let k = get_or ks c.loop-i.i none in
    let sides = c.as_slice-corners.result.now in
    let are : sides ≡ map pair ks = c.as_slice-corners.ensures.value ∙ c.in_ok-sides.ensures in
    let uvs = c.as_slice-places.result.now in
    let all : uvs ≡ map (uv_of whole) ks = c.as_slice-places.ensures.value ∙ c.in_ok-uvs.ensures in
    let here : c.loop-i.i < length ks = corner_here ks sides c.loop-i.i are c.loop-i-test.true in
    let vert = corner_at ks sides c.loop-i.i none nowhere are c.loop-i-test.true in
    let place = uv_at whole ks uvs c.loop-i.i none origin all here in
    let word = word_told whole k c.args.indices.now (get_or sides c.loop-i.i nowhere).0 (get_or uvs c.loop-i.i origin)
    c.args.all.now _ _ c.requires.indices (vert_below whole c.args.f.0 c.loop-i.i none c.requires.linked here)
    vert refl place c.requires.places c.number.ensures in
    let mid = flat_map (corner_word whole) (take c.loop-i.i ks) in
    onto c.args.out.now.items mid c.loop-i.out.items c.push_corner.new.out.items (corner_word whole k) _
    c.loop-i.invariant (c.in_ok-push_corner.ensures ∙ ap (λ t. c.loop-i.out.items ++ t) word)
    (flat_map_next (corner_word whole) ks c.loop-i.i none mid _ here refl refl)

pub returns : goal.returns
returns g c =
    let whole = g.S.Shape.complex c.args.shape.now in
    let ks = corners_of (at whole.faces c.args.f.0) in
    let sides = c.as_slice-corners.result.now in
    let are : sides ≡ map pair ks = c.as_slice-corners.ensures.value ∙ c.in_ok-sides.ensures in
    c.loop-i.invariant
    ∙ ap (λ xs. c.args.out.now.items ++ flat_map (corner_word whole) xs)
    (take_all c.loop-i.i ks (corner_past ks sides c.loop-i.i are c.loop-i-test.false))
