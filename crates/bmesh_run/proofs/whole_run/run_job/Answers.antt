use Rattle.std.proofs.Common.{◌≡◌, true, ◌∙◌, sym, Ok, Err, Result}
use Rattle.mesh_model.specs.Complex.{Complex}
use Rattle.obj_format.specs.declared.obj_fault.ObjRefusal.{ObjRefusal}
use Rattle.bmesh_run.specs.declared.stop.Stop.TheVariants as stop
use Rattle.bmesh_run.specs.Job.{Job, is_grid, model_starts}
use Rattle.bmesh_run.specs.Run.{model_of, model_most, model_line, grid_refusal}
use Rattle.bmesh_run.proofs.Levels.{ReadsInput, left_starts, after_model, refused_model, failed_model, unread_model}
use Rattle.bmesh_run.proofs.Levels.{usage_refused}
use Rattle.bmesh_run.proofs.whole_run.run_job.Goals as goal

pub returns-in-Ok-clause-runs : goal.returns-in-Ok-clause-runs
returns-in-Ok-clause-runs g c =
    let tells = g.W.World.told in
    let job : Job = record {
      model = c.args.job.model.now;
      script = c.args.job.script.now;
      out = c.args.job.out.now;
      scale = c.args.job.scale;
    } in
    let old = tells c.args.world.now in
    let mid = tells c.read_model.new.world in
    let reads : ReadsInput {T = Complex} {R = ObjRefusal} (Ok c.in-Ok.draft) (model_of job.scale job.model) model_most
    (model_starts job.model) old mid = record {
      judged = c.in-Ok.ensures.judged;
      only = c.in-Ok.ensures.only;
      asked = c.in-Ok.ensures.asked;
      left = λ files told. left_starts model_most (is_grid job.model) job.model files old mid c.in-Ok.ensures.still
          (λ no. c.in-Ok.ensures.left no files told);
      cause = c.in-Ok.ensures.cause;
    } in
    after_model job c.in-Ok.draft c.run_model.result c.run_model.new.session.state old mid (tells c.run_model.new.world)
    reads c.run_model.ensures.accepted c.run_model.ensures.runs

pub returns-in-Err-Refused-clause-runs : goal.returns-in-Err-Refused-clause-runs
returns-in-Err-Refused-clause-runs g c =
    let tells = g.W.World.told in
    let job : Job = record {
      model = c.args.job.model.now;
      script = c.args.job.script.now;
      out = c.args.job.out.now;
      scale = c.args.job.scale;
    } in
    let old = tells c.args.world.now in
    let mid = tells c.read_model.new.world in
    let reads : ReadsInput {T = Complex} {R = ObjRefusal} (Err (stop.Refused c.in-Err-Refused.refusal))
    (model_of job.scale job.model) model_most (model_starts job.model) old mid = record {
      judged = λ files told. rw c.in-Err-Refused.field-0-is at (c.in-Err-Refused.ensures.judged files told);
      only = c.in-Err-Refused.ensures.only;
      asked = rw c.in-Err-Refused.field-0-is at c.in-Err-Refused.ensures.asked;
      left = λ files told. left_starts model_most (is_grid job.model)
          job.model files old mid c.in-Err-Refused.ensures.still
          (λ no. (rw c.in-Err-Refused.field-0-is at (c.in-Err-Refused.ensures.left no)) files told);
      cause = rw c.in-Err-Refused.field-0-is at c.in-Err-Refused.ensures.cause;
    } in
    rw c.requires.fresh (refused_model job c.in-Err-Refused.refusal c.refuse_model.result old mid
    (tells c.refuse_model.new.world) reads c.refuse_model.ensures)

pub returns-in-Err-Refused-clause-usage : goal.returns-in-Err-Refused-clause-usage
returns-in-Err-Refused-clause-usage g c =
    let tells = g.W.World.told in
    let job : Job = record {
      model = c.args.job.model.now;
      script = c.args.job.script.now;
      out = c.args.job.out.now;
      scale = c.args.job.scale;
    } in
    let old = tells c.args.world.now in
    let mid = tells c.read_model.new.world in
    usage_refused job c.in-Err-Refused.refusal (model_line c.in-Err-Refused.refusal) c.refuse_model.result mid
    (tells c.refuse_model.new.world) c.refuse_model.ensures
    (λ grid. let same = (rw c.in-Err-Refused.field-0-is at c.in-Err-Refused.ensures.grid) grid in cc)

pub returns-in-Err-Failed-clause-runs : goal.returns-in-Err-Failed-clause-runs
returns-in-Err-Failed-clause-runs g c =
    let tells = g.W.World.told in
    let job : Job = record {
      model = c.args.job.model.now;
      script = c.args.job.script.now;
      out = c.args.job.out.now;
      scale = c.args.job.scale;
    } in
    let old = tells c.args.world.now in
    let mid = tells c.read_model.new.world in
    let reads : ReadsInput {T = Complex} {R = ObjRefusal} (Err stop.Failed) (model_of job.scale job.model) model_most
    (model_starts job.model) old mid = record {
      judged = λ files told. rw c.in-Err-Failed.field-0-is at (c.in-Err-Failed.ensures.judged files told);
      only = c.in-Err-Failed.ensures.only;
      asked = rw c.in-Err-Failed.field-0-is at c.in-Err-Failed.ensures.asked;
      left = λ files told. tt;
      cause = rw c.in-Err-Failed.field-0-is at c.in-Err-Failed.ensures.cause;
    } in
    rw c.requires.fresh (failed_model job old mid reads)

pub returns-in-Err-NoMemory-clause-runs : goal.returns-in-Err-NoMemory-clause-runs
returns-in-Err-NoMemory-clause-runs g c =
    let tells = g.W.World.told in
    let job : Job = record {
      model = c.args.job.model.now;
      script = c.args.job.script.now;
      out = c.args.job.out.now;
      scale = c.args.job.scale;
    } in
    let old = tells c.args.world.now in
    let mid = tells c.read_model.new.world in
    let reads : ReadsInput {T = Complex} {R = ObjRefusal} (Err stop.NoMemory) (model_of job.scale job.model) model_most
    (model_starts job.model) old mid = record {
      judged = λ files told. rw c.in-Err-NoMemory.field-0-is at (c.in-Err-NoMemory.ensures.judged files told);
      only = c.in-Err-NoMemory.ensures.only;
      asked = rw c.in-Err-NoMemory.field-0-is at c.in-Err-NoMemory.ensures.asked;
      left = λ files told. tt;
      cause = rw c.in-Err-NoMemory.field-0-is at c.in-Err-NoMemory.ensures.cause;
    } in
    rw c.requires.fresh (unread_model job old mid reads)
