use Rattle.std.proofs.Common.{[], ◌∷◌, refl, ◌∙◌}
use Rattle.link_ring.proofs.Segments.{is_key_along, keys_same}
use Rattle.link_ring.proofs.Rings.{turned}
use Rattle.link_ring.proofs.Numbers.{no_member}
use Rattle.kernel_tests.proofs.rings.insert_three.Goals as goal

-- 1 and 0
pub insert_after-requires-2-clause-apart : goal.insert_after-requires-2-clause-apart
insert_after-requires-2-clause-apart g c =
    let n = g.L.Links.links c.insert_after.new.links in (
      0 ∷ [],
      turned n (0 ∷ []) (1 ∷ []) (c.insert_after.ensures.ring [] c.start_ring.ensures.ring),
      no_member (1 ∷ 0 ∷ []) 2 refl,
    )

pub insert_after-requires-2-clause-key : goal.insert_after-requires-2-clause-key
insert_after-requires-2-clause-key g c =
    is_key_along (c.insert_after.ensures.keys 2 ∙ c.start_ring.ensures.keys 2) c.requires.keys.1.1.0

-- 0, 1 and 2
pub insert_after-requires-3-clause-apart : goal.insert_after-requires-3-clause-apart
insert_after-requires-3-clause-apart g c =
    let m = g.L.Links.links c.insert_after.new.links in let n = g.L.Links.links c.insert_after-2.new.links in
    let two = turned m (0 ∷ []) (1 ∷ []) (c.insert_after.ensures.ring [] c.start_ring.ensures.ring) in (
      1 ∷ 2 ∷ [],
      turned n (1 ∷ 2 ∷ []) (0 ∷ []) (c.insert_after-2.ensures.ring (0 ∷ []) two),
      no_member (0 ∷ 1 ∷ 2 ∷ []) 3 refl,
    )

pub insert_after-requires-3-clause-key : goal.insert_after-requires-3-clause-key
insert_after-requires-3-clause-key g c =
    is_key_along (c.insert_after-2.ensures.keys 3 ∙ c.insert_after.ensures.keys 3 ∙ c.start_ring.ensures.keys 3)
    c.requires.keys.1.1.1.0

pub returns-clause-ring : goal.returns-clause-ring
returns-clause-ring g c =
    let m = g.L.Links.links c.insert_after.new.links in let n = g.L.Links.links c.insert_after-2.new.links in
    let two = turned m (0 ∷ []) (1 ∷ []) (c.insert_after.ensures.ring [] c.start_ring.ensures.ring) in
    c.insert_after-3.ensures.ring (1 ∷ 2 ∷ []) (turned n (1 ∷ 2 ∷ []) (0 ∷ [])
    (c.insert_after-2.ensures.ring (0 ∷ []) two))

pub returns-clause-keys : goal.returns-clause-keys
returns-clause-keys g c =
    keys_same (g.L.Links.links c.args.links.now) (g.L.Links.links c.insert_after-3.new.links) (0 ∷ 1 ∷ 2 ∷ 3 ∷ 4 ∷ [])
    (λ j. c.insert_after-3.ensures.keys j ∙ c.insert_after-2.ensures.keys j ∙ c.insert_after.ensures.keys j
    ∙ c.start_ring.ensures.keys j) c.requires.keys
