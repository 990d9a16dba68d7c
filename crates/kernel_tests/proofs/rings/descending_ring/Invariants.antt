use Rattle.std.proofs.Common.{ℕ, ◌<◌, List, ◌∷◌, IsTrue}
use Rattle.link_ring.specs.Members.{HasMember}
use Rattle.link_ring.specs.Ring.{IsRingFrom}
use Rattle.kernel_tests.proofs.rings.descending_ring.Given as goal

-- the ring so far is of keys below k
abbrev pub invariant-loop-k : goal.invariant-loop-k
invariant-loop-k g l = record {
  ring : (xs : List ℕ) × IsRingFrom (g.L.Links.links l.links) 0 xs × ((j : ℕ) → HasMember (0 ∷ xs) j → j < l.k);
  keys : (k : ℕ) → k < l.count → IsTrue ((g.L.Links.links l.links).has k);
}
