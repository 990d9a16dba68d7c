use Rattle.std.proofs.Common.{◌∙◌, ap, sym}
use Rattle.link_ring.proofs.Members.{member_of}
use Rattle.mesh_store.specs.Stored.{Stored}
use Rattle.mesh_cycles.specs.Owners.{face_of}
use Rattle.mesh_cycles.proofs.Elements.{face_len_written}
use Rattle.kernel_tests.proofs.Sound.{misstated, sound_mended}
use Rattle.kernel_tests.proofs.cycles.edits.add_second_uncounted.Goals as goal

pub loop_insert-requires : goal.loop_insert-requires
loop_insert-requires g c =
    let face = c.face-face.result in
    let first = c.some_round-first.result in
    let s = c.put_loop-l.ensures in
    let same = face_len_written c.put_loop-l.new.st c.set_face_len.new.self face s.sound.cycles 1_000_000_000
    c.set_face_len.ensures in
    let member = c.some_round-first.ensures.member in
    record {
      cycles = same.cycles;
      member = (face.0, member_of first member (sym (same.rounds face.0)));
      same = ap (λ (t : Stored). face_of t c.put_loop-l.result) c.set_face_len.ensures ∙ s.face
          ∙ sym (s.sound.cycles.round_faces face.0 first member)
          ∙ sym (ap (λ (t : Stored). face_of t first.0) c.set_face_len.ensures);
      apart = λ f m. s.apart f (member_of (record { 0 = c.put_loop-l.result }) m (same.rounds f));
    }

pub returns : goal.returns
returns g c =
    let face = c.face-face.result in
    let first = c.some_round-first.result in
    let s = c.put_loop-l.ensures in
    let is = ap (λ (t : Stored). face_of t first.0) c.set_face_len.ensures
    ∙ s.sound.cycles.round_faces face.0 first c.some_round-first.ensures.member in
    sound_mended (c.loop_insert.ensures face.0 is) (misstated c.put_loop-l.new.st c.set_face_len.new.self face
    1_000_000_000 c.set_face_len.ensures s.sound)
