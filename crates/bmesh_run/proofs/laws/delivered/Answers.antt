use Rattle.std.proofs.Common.{◌∙◌, [], codes, refl, arith}
use Rattle.std.specs.Fmt.{digits}
use Rattle.bmesh_run.specs.Rows.{files, square_text, vertex_text}
use Rattle.bmesh_run.proofs.Rows.{run_at, run_at_zero, run_plain}
use Rattle.bmesh_run.proofs.laws.delivered.Goals as goal

pub returns-clause-cut : goal.returns-clause-cut
unfolding digits
returns-clause-cut c = run_at_zero (files square_text (codes "delete geom=v0 context=verts\n")) ∙ refl

pub returns-clause-nothing : goal.returns-clause-nothing
unfolding digits
returns-clause-nothing c = run_at_zero (files [] []) ∙ refl

pub returns-clause-missing : goal.returns-clause-missing
unfolding digits
returns-clause-missing c = run_at_zero (files square_text (codes "delete geom=v9 context=verts\n")) ∙ refl

pub returns-clause-layers : goal.returns-clause-layers
unfolding digits
returns-clause-layers c =
    run_at_zero (files square_text (codes "layer corners tint width=2 rule=mix\nlayer verts w width=1 rule=copy\n")) ∙ refl

pub returns-clause-sums : goal.returns-clause-sums
unfolding digits
returns-clause-sums c = refl

pub returns-clause-scale : goal.returns-clause-scale
unfolding digits
returns-clause-scale c =
    run_at 2 (codes "model") (codes "script") (codes "out") (files vertex_text []) (omega arith) refl refl refl ∙ refl

pub returns-clause-six : goal.returns-clause-six
unfolding digits
returns-clause-six c =
    run_plain (codes "model") (codes "script") (codes "out") (files vertex_text []) refl refl refl ∙ refl
