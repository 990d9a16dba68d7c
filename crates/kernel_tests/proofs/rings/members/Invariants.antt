use Rattle.std.proofs.Common.{◌≡◌, ◌++◌}
use Rattle.link_ring.specs.Walk.{items_left}
use Rattle.kernel_tests.proofs.rings.members.Given as goal

-- what is taken, and then what is left, is what the walk began with
abbrev pub invariant-loop-k : goal.invariant-loop-k
invariant-loop-k g l =
    l.all.items ++ items_left g.K.PartialEq.eq g.L.Links.links g.L.Links.key_limit l.k-iterator ≡
    items_left g.K.PartialEq.eq g.L.Links.links g.L.Links.key_limit l.initial.k-iterator
