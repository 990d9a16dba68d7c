use Rattle.std.proofs.Common.{sym, ◌∙◌}
use Rattle.sample_drafts.proofs.Apart.{apart_first}
use Rattle.sample_drafts.proofs.faces.are_apart.Goals as goal

pub loop-first-preserved : goal.loop-first-preserved
loop-first-preserved c =
    λ yes. c.loop-first.invariant (apart_first c.loop-first.rest.now c.in-Some.behind.now c.in-Some.first.now
    c.in-Some.ensures.cases.0 (sym c.stands_in.ensures ∙ c.if-stands_in.false) yes)
