use Rattle.std.proofs.Common.{◌∙◌}
use Rattle.script_text.proofs.LayerLemmas.{unfit}
use Rattle.script_text.proofs.layers.is_refused.Goals as goal

pub returns : goal.returns
returns c = c.is_unfit.ensures ∙ unfit c.args.layer.now c.args.layers.now
