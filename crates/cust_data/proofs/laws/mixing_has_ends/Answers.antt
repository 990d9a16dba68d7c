use Rattle.cust_data.proofs.Floors.{mix_has_ends}
use Rattle.cust_data.proofs.laws.mixing_has_ends.Goals as goal

pub returns : goal.returns
returns c = mix_has_ends
