use Rattle.mesh_cycles.proofs.Disks.{disk_added}
use Rattle.mesh_cycles.proofs.disk.disk_add.Goals as goal

pub returns : goal.returns
returns c =
    disk_added c.args.st.now c.push_last-head.new.links c.set_first_dart.new.st c.args.v.0 c.args.d c.requires.cycles
    c.requires.live c.requires.end c.first_dart-first.ensures c.push_last-head.ensures.reads
    c.push_last-head.ensures.others
    (record { rest = c.push_last-head.ensures.rest; write = c.set_first_dart.ensures })
