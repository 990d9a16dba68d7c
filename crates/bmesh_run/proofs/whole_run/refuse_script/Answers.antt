use Rattle.std.proofs.Common.{◌∙◌}
use Rattle.bmesh_run.proofs.whole_run.refuse_script.Goals as goal

pub returns : goal.returns
returns g c = rw (c.as_bytes.ensures.value ∙ c.in-Ok.ensures.ok) at c.refuse.ensures
