use Rattle.std.proofs.Common.{◌∷◌, inl, inr}
use Rattle.link_ring.proofs.Rings.{outside_then}
use Rattle.link_ring.proofs.ring.swap_member.Goals as goal

pub returns-clause-ring : goal.returns-clause-ring
returns-clause-ring g c = λ xs r. c.take_out.ensures.ring (c.args.new ∷ xs) (c.insert_after.ensures.ring xs r)

pub returns-clause-others : goal.returns-clause-others
returns-clause-others g c = λ xs r.
    outside_then (c.args.new ∷ c.args.old ∷ xs) (c.insert_after.ensures.others xs r)
    (c.take_out.ensures.others (c.args.new ∷ xs) (c.insert_after.ensures.ring xs r))
    (λ j h. h)
    (λ j h. elim h [ inl e ↦ inr (inl e) | inr t ↦ elim t [ inl e ↦ inl e | inr u ↦ inr (inr u) ] ])
