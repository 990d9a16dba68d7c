use Rattle.std.proofs.Common.{◌≡◌, ◌∙◌, sym}
use Rattle.obj_reader.specs.Holding.{told_sides}
use Rattle.obj_reader.proofs.FaceLemmas.{made_fits, made_ready}
use Rattle.obj_reader.proofs.RoomLemmas.{room_now, ready_now}
use Rattle.obj_reader.proofs.FitLemmas.{face_fits, corners_left}
use Rattle.obj_reader.proofs.ToldLemmas.{sides_told}
use Rattle.obj_reader.proofs.faces.has_face_room.Goals as goal

pub returns-then-has_room-clause-fits : goal.returns-then-has_room-clause-fits
returns-then-has_room-clause-fits c = λ m s.
    sym (face_fits c.args.draft.now c.args.corners.now m s c.requires.sound
    (room_now c.args.draft.now c.args.corners.now (sym c.has_room.ensures.same ∙ c.if-has_room.true)))

pub returns-then-has_room-clause-ready : goal.returns-then-has_room-clause-ready
returns-then-has_room-clause-ready c = λ _.
    ready_now c.args.draft.now c.args.corners.now c.requires.sound (sym c.has_room.ensures.same ∙ c.if-has_room.true)

pub returns-then-not-has_corner_room-clause-fits : goal.returns-then-not-has_corner_room-clause-fits
returns-then-not-has_corner_room-clause-fits c = λ m s.
    sym (corners_left c.args.draft.now c.args.corners.now m s
    (sym c.has_corner_room.ensures ∙ c.if-not-has_corner_room.true))

pub make_edges-requires : goal.make_edges-requires
make_edges-requires c =
    let same : c.deref.result.now ≡ told_sides c.args.corners.now = c.deref.ensures.value ∙ c.in_ok-sides.ensures in
    record {
      sides = rw same (sides_told c.args.draft.now c.args.corners.now c.requires.polygon);
      sound = c.requires.sound;
    }

pub returns-clause-fits : goal.returns-clause-fits
returns-clause-fits c = λ m s.
    let same : c.deref.result.now ≡ told_sides c.args.corners.now = c.deref.ensures.value ∙ c.in_ok-sides.ensures in
    c.in_ok-fits.ensures.fits
    ∙ made_fits c.args.draft.now c.args.corners.now c.deref.result.now m s same c.requires.sound
    (sym c.has_corner_room.ensures ∙ c.if-not-has_corner_room.false)

pub returns-clause-ready : goal.returns-clause-ready
returns-clause-ready c = λ fits.
    let same : c.deref.result.now ≡ told_sides c.args.corners.now = c.deref.ensures.value ∙ c.in_ok-sides.ensures in
    made_ready c.args.draft.now c.make_edges.new.draft c.args.corners.now c.deref.result.now same
    (c.in_ok-fits.ensures.made fits) (c.in_ok-fits.ensures.sound fits)
    (sym c.has_corner_room.ensures ∙ c.if-not-has_corner_room.false)
