use Rattle.std.proofs.Common.{sym, ◌∙◌}
use Rattle.link_ring.proofs.Members.{member_of}
use Rattle.link_ring.proofs.Reading.{reads_at, reads_unique, member_in_ring, first_moves_on, first_stays}
use Rattle.mesh_cycles.proofs.RingLists.{first_is, first_isnt, taken_outside}
use Rattle.mesh_cycles.proofs.members.take_member.Goals as goal

pub take_out-follower-requires : goal.take_out-follower-requires
take_out-follower-requires g c = member_in_ring c.args.k c.requires.1 c.requires.2

pub returns-then-eq-clause-reads : goal.returns-then-eq-clause-reads
returns-then-eq-clause-reads g c = λ xs ys r.
    let is = first_is g.K.PartialEq.eq (record { one = g.met.L.Links.one_key; same = g.met.K.Eq.laws.refl })
    c.args.first c.args.k (sym c.eq.ensures ∙ c.if-eq.true) in
    first_moves_on (g.L.Links.links c.take_out-follower.new.links) c.take_out-follower.result xs c.args.k ys
    (reads_at r is) c.take_out-follower.ensures.ring c.take_out-follower.ensures.follower

pub returns-then-eq-clause-others : goal.returns-then-eq-clause-others
returns-then-eq-clause-others g c = λ xs r.
    taken_outside c.args.k r (member_of c.args.k c.requires.2 (reads_unique c.requires.1 r))
    c.take_out-follower.ensures.others

pub returns-else-eq-clause-reads : goal.returns-else-eq-clause-reads
returns-else-eq-clause-reads g c = λ xs ys r.
    let isnt = first_isnt g.K.PartialEq.eq (record { one = g.met.L.Links.one_key; same = g.met.K.Eq.laws.refl })
    c.args.first c.args.k (sym c.eq.ensures ∙ c.if-eq.false) in
    first_stays (g.L.Links.links c.take_out-follower.new.links) xs c.args.k ys r isnt c.take_out-follower.ensures.ring

pub returns-else-eq-clause-others : goal.returns-else-eq-clause-others
returns-else-eq-clause-others g c = λ xs r.
    taken_outside c.args.k r (member_of c.args.k c.requires.2 (reads_unique c.requires.1 r))
    c.take_out-follower.ensures.others
