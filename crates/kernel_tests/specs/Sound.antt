-- What the stores of the tests keep.
use Rattle.mesh_store.specs.Stored.{Stored}
use Rattle.mesh_cycles.specs.Cycles.{AreCycles, AreCounted}

-- all cycles hold, and lengths are right; elements may be left out of cycles
pub record IsSound (st : Stored) : Type 0 where
  pub cycles : AreCycles st
  pub counted : AreCounted st
