use Rattle.std.proofs.Common.{◌≡◌, ◌<◌, ◌+◌, ◌-◌, ◌*◌, [], ◌∷◌, ◌++◌, List, length, ap, ◌∙◌, arith, rules}
use Rattle.std.proofs.lemmas.List.{length-map}
use Rattle.mesh_model.specs.Table.{at}
use Rattle.mesh_model.specs.Complex.{corners_of}
use Rattle.mesh_model.specs.declared.names.VertName.{VertName}
use Rattle.mesh_model.specs.declared.names.EdgeName.{EdgeName}
use Rattle.mesh_model.specs.declared.records.CornerRec.{CornerRec}
use Rattle.mesh_model.proofs.Reading.{AreWide, wide-linked}
use Rattle.mesh_core.specs.Seen.{now}
use Rattle.mesh_copies.specs.CopyingSteps.{vert_after, edge_after}
use Rattle.mesh_copies.proofs.Copied.{no_vert, no_edge}
use Rattle.mesh_copies.proofs.Copyings.{row_fits, corner_told, corners_more}
use Rattle.mesh_copies.proofs.faces.corners_with.Goals as goal

abbrev pair : CornerRec → VertName × EdgeName
pair k = (k.vert, k.edge)

abbrev none : CornerRec
none = record { vert = no_vert; edge = no_edge; vals = [] }

pub overflow_mul-start : goal.overflow_mul-start
overflow_mul-start c =
    let ks = corners_of (at (now c.args.mesh.now).faces c.args.f.0) in
    let wide : AreWide c.width-width.result ks =
    rw c.width-width.ensures (wide-linked (now c.args.mesh.now) c.args.f.0 c.requires.linked c.requires.live) in
    let less : c.loop-i.i < length ks = omega (arith, ap length c.requires.sides, length-map ks pair) in
    let fits = row_fits ks c.width-width.result c.loop-i.i c.args.numbers.now wide c.requires.numbers less in
    omega arith

pub overflow_add-start : goal.overflow_add-start
overflow_add-start c =
    let ks = corners_of (at (now c.args.mesh.now).faces c.args.f.0) in
    let wide : AreWide c.width-width.result ks =
    rw c.width-width.ensures (wide-linked (now c.args.mesh.now) c.args.f.0 c.requires.linked c.requires.live) in
    let less : c.loop-i.i < length ks = omega (arith, ap length c.requires.sides, length-map ks pair) in
    let fits = row_fits ks c.width-width.result c.loop-i.i c.args.numbers.now wide c.requires.numbers less in
    omega arith

pub offset_bounds-numbers-start : goal.offset_bounds-numbers-start
offset_bounds-numbers-start c =
    let ks = corners_of (at (now c.args.mesh.now).faces c.args.f.0) in
    let wide : AreWide c.width-width.result ks =
    rw c.width-width.ensures (wide-linked (now c.args.mesh.now) c.args.f.0 c.requires.linked c.requires.live) in
    let less : c.loop-i.i < length ks = omega (arith, ap length c.requires.sides, length-map ks pair) in
    let fits = row_fits ks c.width-width.result c.loop-i.i c.args.numbers.now wide c.requires.numbers less in
    search rules

pub slice_bounds-copied_corner-end : goal.slice_bounds-copied_corner-end
slice_bounds-copied_corner-end c =
    let ks = corners_of (at (now c.args.mesh.now).faces c.args.f.0) in
    let wide : AreWide c.width-width.result ks =
    rw c.width-width.ensures (wide-linked (now c.args.mesh.now) c.args.f.0 c.requires.linked c.requires.live) in
    let less : c.loop-i.i < length ks = omega (arith, ap length c.requires.sides, length-map ks pair) in
    let fits = row_fits ks c.width-width.result c.loop-i.i c.args.numbers.now wide c.requires.numbers less in
    search rules

pub loop-i-preserved : goal.loop-i-preserved
loop-i-preserved c =
    let ks = corners_of (at (now c.args.mesh.now).faces c.args.f.0) in
    let rv = vert_after c.args.next c.args.set.now in
    let re = edge_after c.args.next c.args.set.now in
    let wide : AreWide c.width-width.result ks =
    rw c.width-width.ensures (wide-linked (now c.args.mesh.now) c.args.f.0 c.requires.linked c.requires.live) in
    let less : c.loop-i.i < length ks = omega (arith, ap length c.requires.sides, length-map ks pair) in
    let told = corner_told rv re ks c.args.sides.now c.args.numbers.now c.width-width.result c.loop-i.i none
    (no_vert, no_edge) c.requires.sides c.requires.numbers wide less in
    let gap : c.loop-i.i * c.width-width.result + c.width-width.result - c.loop-i.i * c.width-width.result
    ≡ c.width-width.result = omega arith in
    let made = rw gap at c.in_ok-corner.ensures in
    c.in_ok-push.ensures.items
    ∙ ap (λ (xs : List CornerRec). xs ++ c.in_ok-corner.corner ∷ []) c.loop-i.invariant
    ∙ corners_more rv re ks c.loop-i.i none c.in_ok-corner.corner less (made ∙ told)
