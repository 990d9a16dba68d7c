use Rattle.sample_drafts.proofs.shapes.add_square.Goals as goal

pub returns-in_err-face-clause-simple : goal.returns-in_err-face-clause-simple
returns-in_err-face-clause-simple c =
    λ s. c.face.ensures.simple (c.material-2.ensures.simple (c.material.ensures.simple s))

pub returns-clause-simple : goal.returns-clause-simple
returns-clause-simple c =
    λ s. c.face.ensures.simple (c.material-2.ensures.simple (c.material.ensures.simple s))
