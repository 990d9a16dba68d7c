use Rattle.std.proofs.Common.{◌∙◌, sym}
use Rattle.mesh_model.specs.Making.{edges_along}
use Rattle.obj_reader.proofs.FaceLemmas.{edges_fit}
use Rattle.obj_reader.proofs.FitLemmas.{limited_over, limited_within}
use Rattle.obj_reader.proofs.ToldLemmas.{parts_along}
use Rattle.obj_reader.proofs.edges.add_edges.Goals as goal

pub returns-then-not-fits-clause-told : goal.returns-then-not-fits-clause-told
returns-then-not-fits-clause-told c =
    let s = c.args.parts.now in
    limited_over (edges_along s.draft c.args.sides.now).0 s
    (sym (edges_fit s.draft c.args.sides.now c.requires.sound) ∙ sym c.in_ok-fits.ensures.fits ∙ c.if-not-fits.true)

pub returns-clause-told : goal.returns-clause-told
returns-clause-told c =
    let s = c.args.parts.now in
    limited_within (edges_along s.draft c.args.sides.now).0 _ s (c.in_ok-fits.ensures.made c.if-not-fits.false)
    (sym (edges_fit s.draft c.args.sides.now c.requires.sound) ∙ sym c.in_ok-fits.ensures.fits ∙ c.if-not-fits.false)

pub returns-clause-keeps : goal.returns-clause-keeps
returns-clause-keeps c = λ n h.
    let s = c.args.parts.now in
    parts_along n s _ c.args.sides.now (c.in_ok-fits.ensures.made c.if-not-fits.false)
    (c.in_ok-fits.ensures.sound c.if-not-fits.false) h
