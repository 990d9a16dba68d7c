use Rattle.sample_drafts.proofs.shapes.add_verts.Goals as goal

pub returns-in_err-vert-3-clause-simple : goal.returns-in_err-vert-3-clause-simple
returns-in_err-vert-3-clause-simple c =
    λ s. c.vert-3.ensures.simple (c.vert-2.ensures.simple (c.vert.ensures.simple s))

pub returns-in_err-vert-4-clause-simple : goal.returns-in_err-vert-4-clause-simple
returns-in_err-vert-4-clause-simple c =
    λ s. c.vert-4.ensures.simple (c.vert-3.ensures.simple (c.vert-2.ensures.simple (c.vert.ensures.simple s)))

pub returns-clause-simple : goal.returns-clause-simple
returns-clause-simple c =
    λ s. c.vert-4.ensures.simple (c.vert-3.ensures.simple (c.vert-2.ensures.simple (c.vert.ensures.simple s)))
