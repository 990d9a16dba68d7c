use Rattle.obj_reader.proofs.ProgressLemmas.{gives_same, read_done, read_stopped}
use Rattle.obj_reader.proofs.reader.read_lines.Goals as goal

pub returns-in-Err-clause-told : goal.returns-in-Err-clause-told
returns-in-Err-clause-told c = read_stopped c.in-Err.stop c.args.scale c.args.text.now c.in-Err.ensures.told

pub returns-in-Ok-clause-told : goal.returns-in-Ok-clause-told
returns-in-Ok-clause-told c =
    gives_same c.finish.result _ _
    (read_done c.args.scale c.args.text.now c.in-Ok.progress c.in-Ok.ensures.told) c.finish.ensures.told
