use Rattle.std.proofs.Common.{◌∙◌, sym}
use Rattle.std.specs.FinMap.{get}
use Rattle.trail_tests.proofs.Recorded.{recorded}
use Rattle.trail_tests.proofs.told.has_edge.Goals as goal

pub returns : goal.returns
returns c =
    λ _. recorded (get c.args.past.now.changes.edges c.args.e.0) (sym c.has.ensures ∙ c.if-not-has.false) (sym c.was_absent.ensures ∙ c.if-was_absent.false)
