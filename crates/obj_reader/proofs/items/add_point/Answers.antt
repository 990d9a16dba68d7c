use Rattle.std.proofs.Common.{◌∙◌, sym, map}
use Rattle.mesh_model.specs.Making.{vert_at_point}
use Rattle.obj_reader.proofs.HoldingLemmas.{sound_of}
use Rattle.obj_reader.proofs.ToldLemmas.{point_told, parts_with_vert}
use Rattle.obj_reader.proofs.items.add_point.Goals as goal

pub returns-clause-told : goal.returns-clause-told
returns-clause-told c =
    let s = c.args.parts.now in
    let ws = map (λ w. w.now) c.args.words.now in
    point_told c.args.scale ws s c.in_ok-point.point _ (sym c.point_of.ensures.same ∙ c.in_ok-point.ensures)
    c.requires.sound
    (c.has_vert_room.ensures.0 c.if-not-has_vert_room.false) c.in_ok-add_vert.ensures.ok

pub returns-clause-keeps : goal.returns-clause-keeps
returns-clause-keeps c = λ n h.
    let s = c.args.parts.now in
    parts_with_vert n s (vert_at_point s.draft c.in_ok-point.point) _ c.in_ok-add_vert.ensures.ok
    (sound_of _ (c.add_vert.ensures.valid h.sound.valid) (c.add_vert.ensures.simple h.sound.simple)) h
