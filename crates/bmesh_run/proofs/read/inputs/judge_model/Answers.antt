use Rattle.std.proofs.Common.{[]}
use Rattle.bmesh_run.proofs.read.inputs.judge_model.Goals as goal

pub returns-in-Ok-end-clause-judged : goal.returns-in-Ok-end-clause-judged
returns-in-Ok-end-clause-judged c = c.in-Ok-end.ensures.told c.args.scale _
    (c.in-Ok.ensures.ok c.args.scale [] c.new-reader.ensures)

pub returns-in-Err-Refused-clause-judged : goal.returns-in-Err-Refused-clause-judged
returns-in-Err-Refused-clause-judged c =
    rw c.in-Err-Refused.field-0-is at (c.in-Err-Refused.ensures.told c.args.scale _
    (c.in-Ok.ensures.ok c.args.scale [] c.new-reader.ensures))
