use Rattle.std.proofs.Common.{◌≡◌, length}
use Rattle.link_ring.specs.Changes.{SameKeys}
use Rattle.link_ring.specs.Walk.{path}
use Rattle.link_ring.proofs.Turning.{Turning}
use Rattle.link_ring.proofs.ring.reverse.Given as goal

abbrev pub invariant-loop-first : goal.invariant-loop-first
invariant-loop-first g l = record {
  turning : Turning (g.L.Links.links l.initial.links) (g.L.Links.links l.links) l.first l.at;
  keys : SameKeys (g.L.Links.links l.initial.links) (g.L.Links.links l.links);
  rest : g.L.Links.rest l.links ≡ g.L.Links.rest l.initial.links;
}

-- the keys ahead, by the links as they were
abbrev pub decreases-loop-first : goal.decreases-loop-first
decreases-loop-first g l = length (path g.K.PartialEq.eq (g.L.Links.links l.initial.links) l.first
    (g.L.Links.key_limit l.initial.links) l.at)
