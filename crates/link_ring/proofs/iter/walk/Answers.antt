use Rattle.std.proofs.Common.{List, ◌∷◌, sym, ap, subst}
use Rattle.link_ring.specs.Walk.{GoesOn}
use Rattle.link_ring.proofs.Walks.{path-goes_on, walk_start}
use Rattle.link_ring.proofs.iter.walk.Goals as goal

pub returns-clause-items : goal.returns-clause-items
returns-clause-items g c = λ xs r.
    let m = g.L.Links.links c.args.links.now in let limit = g.L.Links.key_limit c.args.links.now in
    ap (λ (zs : List g.row.K.Denot). c.args.first ∷ zs)
    (path-goes_on g.K.PartialEq.eq (record { one = g.met.L.Links.one_key; same = g.met.K.Eq.laws.refl }) m limit
    c.args.first c.args.first xs
    (walk_start xs r (g.met.L.Links.limited c.args.links.now)))

pub returns-clause-ready : goal.returns-clause-ready
returns-clause-ready g c =
    let m = g.L.Links.links c.args.links.now in let limit = g.L.Links.key_limit c.args.links.now in
    let l = walk_start {limit = limit} c.requires.0 c.requires.1 (g.met.L.Links.limited c.args.links.now) in
    let P = GoesOn m limit c.args.first c.args.first in
    subst P (sym (path-goes_on g.K.PartialEq.eq (record { one = g.met.L.Links.one_key; same = g.met.K.Eq.laws.refl }) m
    limit c.args.first c.args.first c.requires.0 l)) l
