use Rattle.std.proofs.Common.{◌∙◌, [], ◌∷◌, codes, refl, arith}
use Rattle.std.specs.Fmt.{digits}
use Rattle.command_line.proofs.PlainLemmas.{no_number}
use Rattle.bmesh_run.specs.Rows.{files, square_text}
use Rattle.bmesh_run.proofs.Rows.{run_at, run_at_zero, run_refused}
use Rattle.bmesh_run.proofs.laws.refused.Goals as goal

pub returns-clause-inputs : goal.returns-clause-inputs
unfolding digits
returns-clause-inputs c = (
  run_at_zero (files (codes "v 0 0 0\nl 1 2\n") (codes "poke")) ∙ refl,
  run_at_zero (files square_text (codes "poke")) ∙ refl,
)

pub returns-clause-words : goal.returns-clause-words
unfolding digits
returns-clause-words c = (
  run_refused (codes "model" ∷ codes "script" ∷ codes "out" ∷ codes "--scale" ∷ []) (files [] [])
      (no_number (codes "model") (codes "script") (codes "out") refl refl refl),
  run_at 0 (codes "@grid:4") (codes "script") (codes "out") (files [] []) (omega arith) refl refl refl ∙ refl,
  run_at 0 (codes "model") (codes "@tour") (codes "out") (files [] []) (omega arith) refl refl refl ∙ refl,
)
