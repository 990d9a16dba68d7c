use Rattle.mesh_cycles.proofs.Disks.{disk_removed}
use Rattle.mesh_cycles.proofs.disk.disk_remove.Goals as goal

pub returns : goal.returns
returns c =
    let removed = disk_removed c.args.st.now c.take_member-head.new.links c.set_first_dart.new.st c.args.v.0 c.args.d
    c.requires.cycles c.requires.live c.requires.member c.first_dart-first.ensures c.take_member-head.ensures.reads
    c.take_member-head.ensures.others
    (record { rest = c.take_member-head.ensures.rest; write = c.set_first_dart.ensures }) in
    record { edits = removed.0; out = removed.1 }
