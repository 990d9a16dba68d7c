use Rattle.std.proofs.Common.{◌∙◌, ℤ, sym, ap₂, arith}
use mir.Syntax.{w64}
use mir.Val.{to_z, of_z}
use Rattle.mesh_model.specs.Making.{with_face_told}
use Rattle.obj_reader.proofs.FitLemmas.{limited_over, limited_within}
use Rattle.obj_reader.proofs.HoldingLemmas.{sound_of}
use Rattle.obj_reader.proofs.ToldLemmas.{polygon_ready, parts_told, parts_with_face, coded_same, range_of}
use Rattle.obj_reader.proofs.faces.add_polygon.Goals as goal

pub returns-then-not-fits-clause-told : goal.returns-then-not-fits-clause-told
returns-then-not-fits-clause-told c =
    let s = c.args.parts.now in
    limited_over (with_face_told s.draft c.args.corners.now s.material s.smooth) s
    (sym (c.in_ok-fits.ensures.fits s.material s.smooth) ∙ c.if-not-fits.true)

pub add_face-requires : goal.add_face-requires
add_face-requires c =
    let s = c.args.parts.now in
    let ready = c.in_ok-fits.ensures.ready c.if-not-fits.false in
    let polygon = polygon_ready s.draft _ c.args.corners.now ready.kept c.requires.polygon in
    let told = parts_told 268435457 s _ ready.kept (omega arith) c.requires.parts in
    let m = coded_same s.material told.material_in_range in
    let g = coded_same s.smooth told.smooth_in_range in
    record {
      faces = ready.room.faces;
      edges = ready.room.edges (to_z w64 (of_z w64 s.material)) (to_z w64 (of_z w64 s.smooth));
      corners = ready.room.corners;
      least = polygon.least;
      most = polygon.most;
      distinct = polygon.distinct;
      there = polygon.there;
      uv = polygon.uv;
      material = rw m told.material;
      material_in_range = rw m told.material_in_range;
      smooth = rw g told.smooth;
      smooth_in_range = rw g told.smooth_in_range;
    }

pub returns-clause-told : goal.returns-clause-told
returns-clause-told c =
    let s = c.args.parts.now in
    let ready = c.in_ok-fits.ensures.ready c.if-not-fits.false in
    let m = coded_same s.material (range_of 268435457 s (omega arith) c.requires.parts) in
    let g = coded_same s.smooth c.requires.parts.smooth_in_range in
    let made = c.in_ok-add_face.ensures.ok
    ∙ ap₂ (λ (x y : ℤ). with_face_told c.has_face_room.new.draft c.args.corners.now x y) m g
    ∙ ready.same s.material s.smooth in
    limited_within (with_face_told s.draft c.args.corners.now s.material s.smooth) _ s made
    (sym (c.in_ok-fits.ensures.fits s.material s.smooth) ∙ c.if-not-fits.false)

pub returns-clause-keeps : goal.returns-clause-keeps
returns-clause-keeps c = λ n h.
    let s = c.args.parts.now in
    let ready = c.in_ok-fits.ensures.ready c.if-not-fits.false in
    let m = coded_same s.material (range_of 268435457 s (omega arith) c.requires.parts) in
    let g = coded_same s.smooth c.requires.parts.smooth_in_range in
    let made = c.in_ok-add_face.ensures.ok
    ∙ ap₂ (λ (x y : ℤ). with_face_told c.has_face_room.new.draft c.args.corners.now x y) m g
    ∙ ready.same s.material s.smooth in
    parts_with_face n s _ c.args.corners.now s.material s.smooth made
    (sound_of _ (c.add_face.ensures.valid ready.sound.valid) (c.add_face.ensures.simple ready.sound.simple)) h
