use Rattle.std.proofs.Common.{length, sym, ap, ◌∙◌, arith}
use Rattle.link_ring.proofs.Walks.{Follows, follows_none, follows_some, stepped}
use Rattle.link_ring.proofs.iter.RingIterIterator.next.Goals as goal
use Rattle.link_ring.proofs.iter.RingIterIterator.next.Goals.{then-eq, else-eq}

pub returns-clause-steps : goal.returns-clause-steps
returns-clause-steps g c =
    let eq = g.K.PartialEq.eq in let m = g.L.Links.links c.args.self.now.links.now in
    let first = c.args.self.now.first in let at = c.in_ok-member.member in let after = c.next-after.result in
    let f : Follows eq m first at c.if-eq.self =
    elim c.if-eq.branch [
      | then-eq w ↦ follows_none eq m first at after c.if-eq.self c.next-after.ensures (sym c.eq.ensures ∙ w.if-eq.true)
          w.self-is
      | else-eq w ↦ follows_some eq m first at after c.if-eq.self c.next-after.ensures
          (sym c.eq.ensures ∙ w.if-eq.false) w.self-is
    ] in
    (stepped eq (record { one = g.met.L.Links.one_key; same = g.met.K.Eq.laws.refl }) m
    (g.L.Links.key_limit c.args.self.now.links.now) first at c.args.self.now.at c.if-eq.self (cc) c.requires
    f).gives

pub returns-clause-goes : goal.returns-clause-goes
returns-clause-goes g c =
    let eq = g.K.PartialEq.eq in let m = g.L.Links.links c.args.self.now.links.now in
    let first = c.args.self.now.first in let at = c.in_ok-member.member in let after = c.next-after.result in
    let f : Follows eq m first at c.if-eq.self =
    elim c.if-eq.branch [
      | then-eq w ↦ follows_none eq m first at after c.if-eq.self c.next-after.ensures (sym c.eq.ensures ∙ w.if-eq.true)
          w.self-is
      | else-eq w ↦ follows_some eq m first at after c.if-eq.self c.next-after.ensures
          (sym c.eq.ensures ∙ w.if-eq.false) w.self-is
    ] in
    let s = stepped eq (record { one = g.met.L.Links.one_key; same = g.met.K.Eq.laws.refl }) m
    (g.L.Links.key_limit c.args.self.now.links.now) first at c.args.self.now.at c.if-eq.self (cc) c.requires f in
    record { on = λ h. (s.stands, tt, (let n = ap length s.gives in omega arith)); keeps = s.stands; rests = λ h. tt }
