use Rattle.mesh_cycles.proofs.Radials.{radial_added}
use Rattle.mesh_cycles.proofs.radial.radial_add.Goals as goal

pub returns : goal.returns
returns c =
    radial_added c.args.st.now c.push_last-head.new.links c.set_first_radial.new.st c.args.e.0 (record { 0 = c.args.l })
    c.requires.cycles c.requires.live c.requires.edge c.first_radial-first.ensures c.push_last-head.ensures.reads
    c.push_last-head.ensures.others
    (record { rest = c.push_last-head.ensures.rest; write = c.set_first_radial.ensures })
