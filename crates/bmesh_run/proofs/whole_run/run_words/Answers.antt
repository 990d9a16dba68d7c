use Rattle.std.proofs.Common.{map, ap, Err}
use Rattle.std.specs.String.{string_bytes}
use Rattle.bmesh_run.specs.Job.{Job}
use Rattle.bmesh_run.proofs.Levels.{is_run_job, is_run_unread, is_run_usage}
use Rattle.bmesh_run.proofs.whole_run.run_words.Goals as goal

pub returns-in-Ok : goal.returns-in-Ok
returns-in-Ok g c =
    let tells = g.W.World.told in
    let job : Job = record {
      model = c.in-Ok.job.model.now;
      script = c.in-Ok.job.script.now;
      out =
          c.in-Ok.job.out.now;
      scale = c.in-Ok.job.scale;
    } in
    is_run_job (map string_bytes c.args.words.now) job c.run_job.result c.run_job.new.session.state
    (tells c.args.world.now) (tells c.run_job.new.world) c.in-Ok.ensures.told
    c.run_job.ensures.runs c.run_job.ensures.usage

pub returns-in-Err-Refused : goal.returns-in-Err-Refused
returns-in-Err-Refused g c =
    let tells = g.W.World.told in
    rw c.requires (is_run_usage (map string_bytes c.args.words.now) c.refuse_words.result (tells c.args.world.now)
    (tells c.refuse_words.new.world) (c.in-Err-Refused.ensures.refused (ap Err c.in-Err-Refused.field-0-is)) c.refuse_words.ensures)

pub returns-in-Err-NoMemory : goal.returns-in-Err-NoMemory
returns-in-Err-NoMemory g c =
    let tells = g.W.World.told in
    rw c.requires (is_run_unread (map string_bytes c.args.words.now) (tells c.args.world.now))
