use Rattle.std.proofs.Common.{sym}
use Rattle.link_ring.proofs.Members.{member_of}
use Rattle.mesh_cycles.proofs.Besides.{round_pools, still_live}
use Rattle.mesh_cycles.proofs.Counts.{len_beside}
use Rattle.mesh_cycles.proofs.Elements.{face_len_written}
use Rattle.kernel_tests.proofs.Sound.{misstated, sound_mended}
use Rattle.kernel_tests.proofs.cycles.edits.take_uncounted.Goals as goal

pub loop_remove-requires : goal.loop_remove-requires
loop_remove-requires g c =
    let st = c.args.st.now in
    let mid = c.set_face_len.new.self in
    let face = c.face-face.result in
    let same = face_len_written st mid face c.requires.cycles 1_000_000_000 c.set_face_len.ensures in
    let pools = round_pools st mid face.0 (len_beside st mid face.0 1_000_000_000 c.set_face_len.ensures) in
    record {
      cycles = same.cycles;
      live = still_live face.0 pools.faces c.face-face.ensures;
      member = member_of c.some_round-first.result c.some_round-first.ensures.member (sym (same.rounds face.0));
    }

pub returns : goal.returns
returns g c =
    sound_mended c.loop_remove.ensures.edits (misstated c.args.st.now c.set_face_len.new.self c.face-face.result
    1_000_000_000 c.set_face_len.ensures c.requires)
