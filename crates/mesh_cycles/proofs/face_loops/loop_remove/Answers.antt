use Rattle.std.proofs.Common.{sym}
use Rattle.link_ring.proofs.Members.{member_of}
use Rattle.mesh_cycles.specs.Lists.{same_round, without}
use Rattle.mesh_cycles.proofs.Counts.{recounted, edited_through}
use Rattle.mesh_cycles.proofs.face_loops.loop_remove.Goals as goal

pub loop_remove_counted-requires : goal.loop_remove_counted-requires
loop_remove_counted-requires c =
    let r = recounted c.args.st.now c.count_loops.new.st c.args.f c.requires.cycles c.requires.live
    c.count_loops.ensures in
    record {
      cycles = r.same.cycles;
      live = r.live;
      member = member_of (record { 0 = c.args.l }) c.requires.member (sym (r.same.rounds c.args.f.0));
      counted = r.counted;
    }

pub returns : goal.returns
returns c =
    let r = recounted c.args.st.now c.count_loops.new.st c.args.f c.requires.cycles c.requires.live
    c.count_loops.ensures in
    record {
      edits = edited_through c.loop_remove_counted.new.st (λ ls. ls) (without same_round (record { 0 = c.args.l })) r
          c.loop_remove_counted.ensures.edits;
      out = c.loop_remove_counted.ensures.out;
    }
