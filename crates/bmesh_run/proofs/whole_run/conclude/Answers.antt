use Rattle.std.proofs.Common.{◌∙◌, ap}
use Rattle.worlds.specs.Told.{Told}
use Rattle.bmesh_run.specs.Job.{out_starts}
use Rattle.bmesh_run.proofs.Asking.{ends_by_print}
use Rattle.bmesh_run.proofs.whole_run.conclude.Goals as goal

pub returns-in-Ok-clause-by_status : goal.returns-in-Ok-clause-by_status
returns-in-Ok-clause-by_status g c =
    let tells = g.W.World.told in
    ends_by_print (out_starts c.args.out.now) c.print_report.result _ (tells c.args.world.now)
    (tells c.print_report.new.world) c.print_report.ensures.goes_on
    (ap (λ (t : Told). t.started) c.print_report.ensures.part.1 ∙ c.in-Ok.ensures.started)

pub returns-in-Ok-clause-rest : goal.returns-in-Ok-clause-rest
returns-in-Ok-clause-rest g c = ap (λ (t : Told). t.rest) c.print_report.ensures.part.1
    ∙ ap (λ (t : Told). t.rest) c.in-Ok.ensures.only

pub returns-in-Err-Failed-clause-by_status : goal.returns-in-Err-Failed-clause-by_status
returns-in-Err-Failed-clause-by_status g c = (1, rw c.in-Err-Failed.field-0-is at c.in-Err-Failed.ensures.started)
