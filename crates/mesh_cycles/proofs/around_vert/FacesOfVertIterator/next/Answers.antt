use Rattle.std.proofs.Common.{sym, inl, refl}
use Rattle.link_ring.proofs.Members.{member_of}
use Rattle.mesh_cycles.proofs.Around.{around_live}
use Rattle.mesh_cycles.proofs.around_vert.FacesOfVertIterator.next.Goals as goal

pub loop_face-requires : goal.loop_face-requires
loop_face-requires c =
    let ready = c.loop-l.invariant.ready in
    around_live c.loop-l.self.st.now ready.cycles c.loop-l.self.vert.0 c.in-Some.l
    (ready.among c.in-Some.l (member_of c.in-Some.l (inl refl) (sym c.in-Some.ensures.steps)))
