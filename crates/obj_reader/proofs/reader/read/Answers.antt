use Rattle.obj_reader.proofs.FixedLemmas.{model_fixed}
use Rattle.obj_reader.proofs.reader.read.Goals as goal

pub returns-in-Ok-clause-fixed : goal.returns-in-Ok-clause-fixed
returns-in-Ok-clause-fixed c = model_fixed c.args.scale c.args.text.now c.in-Ok.draft c.in-Ok.ensures.told
