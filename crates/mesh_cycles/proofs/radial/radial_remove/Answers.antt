use Rattle.mesh_cycles.proofs.Radials.{radial_removed}
use Rattle.mesh_cycles.proofs.radial.radial_remove.Goals as goal

pub returns : goal.returns
returns c =
    let removed = radial_removed c.args.st.now c.take_member-head.new.links c.set_first_radial.new.st c.args.e.0
    (record { 0 = c.args.l }) c.requires.cycles c.requires.live c.requires.member c.first_radial-first.ensures
    c.take_member-head.ensures.reads c.take_member-head.ensures.others
    (record { rest = c.take_member-head.ensures.rest; write = c.set_first_radial.ensures }) in
    record { edits = removed.0; out = removed.1 }
