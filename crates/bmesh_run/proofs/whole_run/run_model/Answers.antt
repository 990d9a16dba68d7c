use Rattle.std.proofs.Common.{Ok, Err}
use Rattle.script_text.specs.declared.script.Script.{Script}
use Rattle.script_text.specs.declared.fault.ScriptRefusal.{ScriptRefusal}
use Rattle.bmesh_run.specs.declared.stop.Stop.TheVariants as stop
use Rattle.bmesh_run.specs.Job.{is_tour, script_starts}
use Rattle.bmesh_run.specs.Run.{script_named, script_most}
use Rattle.bmesh_run.proofs.Levels.{ReadsInput, left_starts, after_script, refused_script, failed_script, unread_script}
use Rattle.bmesh_run.proofs.whole_run.run_model.Goals as goal

pub returns-in-Ok-clause-runs : goal.returns-in-Ok-clause-runs
returns-in-Ok-clause-runs g c =
    let tells = g.W.World.told in
    let draft = c.args.draft.now in
    let script = c.args.script.now in
    let out = c.args.out.now in
    let old = tells c.args.world.now in
    let mid = tells c.read_script.new.world in
    let reads : ReadsInput {T = Script} {R = ScriptRefusal} (Ok c.in-Ok.script) (script_named script) script_most
    (script_starts script) old mid = record {
      judged = c.in-Ok.ensures.judged;
      only = c.in-Ok.ensures.only;
      asked = c.in-Ok.ensures.asked;
      left = λ files told. left_starts script_most (is_tour script) script files old mid c.in-Ok.ensures.still
          (λ no. c.in-Ok.ensures.left no files told);
      cause = c.in-Ok.ensures.cause;
    } in
    let done = c.deliver.ensures in
    after_script c.args.scale draft c.in-Ok.script script out c.deliver.result c.deliver.new.session.state old mid
    (tells c.deliver.new.world) reads done.goes_on done.ends done.no_memory done.cause done.by_status done.rest
    done.finished done.sound

pub returns-in-Err-Refused-clause-runs : goal.returns-in-Err-Refused-clause-runs
returns-in-Err-Refused-clause-runs g c =
    let tells = g.W.World.told in
    let draft = c.args.draft.now in
    let script = c.args.script.now in
    let out = c.args.out.now in
    let old = tells c.args.world.now in
    let mid = tells c.read_script.new.world in
    let reads : ReadsInput {T = Script} {R = ScriptRefusal} (Err (stop.Refused c.in-Err-Refused.refusal))
    (script_named script) script_most (script_starts script) old mid = record {
      judged = λ files told. rw c.in-Err-Refused.field-0-is at (c.in-Err-Refused.ensures.judged files told);
      only = c.in-Err-Refused.ensures.only;
      asked = rw c.in-Err-Refused.field-0-is at c.in-Err-Refused.ensures.asked;
      left = λ files told. left_starts script_most (is_tour script) script files old mid c.in-Err-Refused.ensures.still
          (λ no. (rw c.in-Err-Refused.field-0-is at (c.in-Err-Refused.ensures.left no)) files told);
      cause = rw c.in-Err-Refused.field-0-is at c.in-Err-Refused.ensures.cause;
    } in
    rw c.requires.fresh (refused_script c.args.scale draft c.in-Err-Refused.refusal script out c.refuse_script.result
    old mid
    (tells c.refuse_script.new.world) reads c.refuse_script.ensures)

pub returns-in-Err-Failed-clause-runs : goal.returns-in-Err-Failed-clause-runs
returns-in-Err-Failed-clause-runs g c =
    let tells = g.W.World.told in
    let draft = c.args.draft.now in
    let script = c.args.script.now in
    let out = c.args.out.now in
    let old = tells c.args.world.now in
    let mid = tells c.read_script.new.world in
    let reads : ReadsInput {T = Script} {R = ScriptRefusal} (Err stop.Failed) (script_named script) script_most
    (script_starts script) old mid = record {
      judged = λ files told. rw c.in-Err-Failed.field-0-is at (c.in-Err-Failed.ensures.judged files told);
      only = c.in-Err-Failed.ensures.only;
      asked = rw c.in-Err-Failed.field-0-is at c.in-Err-Failed.ensures.asked;
      left = λ files told. tt;
      cause = rw c.in-Err-Failed.field-0-is at c.in-Err-Failed.ensures.cause;
    } in
    rw c.requires.fresh (failed_script c.args.scale draft script out old mid reads)

pub returns-in-Err-NoMemory-clause-runs : goal.returns-in-Err-NoMemory-clause-runs
returns-in-Err-NoMemory-clause-runs g c =
    let tells = g.W.World.told in
    let draft = c.args.draft.now in
    let script = c.args.script.now in
    let out = c.args.out.now in
    let old = tells c.args.world.now in
    let mid = tells c.read_script.new.world in
    let reads : ReadsInput {T = Script} {R = ScriptRefusal} (Err stop.NoMemory) (script_named script) script_most
    (script_starts script) old mid = record {
      judged = λ files told. rw c.in-Err-NoMemory.field-0-is at (c.in-Err-NoMemory.ensures.judged files told);
      only = c.in-Err-NoMemory.ensures.only;
      asked = rw c.in-Err-NoMemory.field-0-is at c.in-Err-NoMemory.ensures.asked;
      left = λ files told. tt;
      cause = rw c.in-Err-NoMemory.field-0-is at c.in-Err-NoMemory.ensures.cause;
    } in
    rw c.requires.fresh (unread_script c.args.scale draft script out old mid reads)
