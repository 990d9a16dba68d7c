use Rattle.std.proofs.Common.{[], ◌∷◌, refl}
use Rattle.link_ring.proofs.Segments.{is_key_along}
use Rattle.link_ring.proofs.Rings.{turned}
use Rattle.link_ring.proofs.Numbers.{no_member}
use Rattle.kernel_tests.proofs.rings.take_apart.Goals as goal

pub take_out-follower-requires : goal.take_out-follower-requires
take_out-follower-requires g c = (
  1 ∷ 3 ∷ 0 ∷ [],
  turned (g.L.Links.links c.args.links.now) (0 ∷ []) (2 ∷ 1 ∷ 3 ∷ []) c.requires.ring,
)

-- 1, 3 and 0
pub swap_member-requires-clause-apart : goal.swap_member-requires-clause-apart
swap_member-requires-clause-apart g c =
    let four = turned (g.L.Links.links c.args.links.now) (0 ∷ []) (2 ∷ 1 ∷ 3 ∷ []) c.requires.ring in
    (3 ∷ 0 ∷ [], c.take_out-follower.ensures.ring (1 ∷ 3 ∷ 0 ∷ []) four, no_member (1 ∷ 3 ∷ 0 ∷ []) 4 refl)

pub swap_member-requires-clause-key : goal.swap_member-requires-clause-key
swap_member-requires-clause-key g c = is_key_along (c.take_out-follower.ensures.keys 4) c.requires.keys.1.1.1.1.0

-- 0, 4 and 3
pub members-requires : goal.members-requires
members-requires g c =
    let four = turned (g.L.Links.links c.args.links.now) (0 ∷ []) (2 ∷ 1 ∷ 3 ∷ []) c.requires.ring in
    let three = c.swap_member.ensures.ring (3 ∷ 0 ∷ []) (c.take_out-follower.ensures.ring (1 ∷ 3 ∷ 0 ∷ []) four) in
    (4 ∷ 3 ∷ [], turned (g.L.Links.links c.swap_member.new.links) (4 ∷ 3 ∷ []) (0 ∷ []) three)

pub take_out-follower-requires-2 : goal.take_out-follower-requires-2
take_out-follower-requires-2 g c =
    let four = turned (g.L.Links.links c.args.links.now) (0 ∷ []) (2 ∷ 1 ∷ 3 ∷ []) c.requires.ring in
    (3 ∷ 0 ∷ [], c.swap_member.ensures.ring (3 ∷ 0 ∷ []) (c.take_out-follower.ensures.ring (1 ∷ 3 ∷ 0 ∷ []) four))

pub take_out-follower-requires-3 : goal.take_out-follower-requires-3
take_out-follower-requires-3 g c =
    let four = turned (g.L.Links.links c.args.links.now) (0 ∷ []) (2 ∷ 1 ∷ 3 ∷ []) c.requires.ring in
    let three = c.swap_member.ensures.ring (3 ∷ 0 ∷ []) (c.take_out-follower.ensures.ring (1 ∷ 3 ∷ 0 ∷ []) four) in
    (0 ∷ [], c.take_out-follower-2.ensures.ring (3 ∷ 0 ∷ []) three)

pub take_out-follower-requires-4 : goal.take_out-follower-requires-4
take_out-follower-requires-4 g c =
    let four = turned (g.L.Links.links c.args.links.now) (0 ∷ []) (2 ∷ 1 ∷ 3 ∷ []) c.requires.ring in
    let three = c.swap_member.ensures.ring (3 ∷ 0 ∷ []) (c.take_out-follower.ensures.ring (1 ∷ 3 ∷ 0 ∷ []) four) in
    ([], c.take_out-follower-3.ensures.ring (0 ∷ []) (c.take_out-follower-2.ensures.ring (3 ∷ 0 ∷ []) three))

pub walk_alone-requires : goal.walk_alone-requires
walk_alone-requires g c =
    let four = turned (g.L.Links.links c.args.links.now) (0 ∷ []) (2 ∷ 1 ∷ 3 ∷ []) c.requires.ring in
    let three = c.swap_member.ensures.ring (3 ∷ 0 ∷ []) (c.take_out-follower.ensures.ring (1 ∷ 3 ∷ 0 ∷ []) four) in
    c.take_out-follower-3.ensures.ring (0 ∷ []) (c.take_out-follower-2.ensures.ring (3 ∷ 0 ∷ []) three)
