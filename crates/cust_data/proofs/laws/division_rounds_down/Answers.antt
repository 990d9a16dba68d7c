use Rattle.cust_data.proofs.Floors.{quotient_is_floor}
use Rattle.cust_data.proofs.laws.division_rounds_down.Goals as goal

pub returns : goal.returns
returns c = quotient_is_floor
