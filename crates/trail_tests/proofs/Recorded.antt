-- Notes that have a record.
use Rattle.std.proofs.Common.{◌≡◌, true, false, Option, Some, None, is_some, IsSome, refl}
use Rattle.mesh_trail.specs.Noted.{is_absent, record_in}

-- a note of what was there has a record
pub recorded : {R : Type 0} (o : Option (Option R)) → is_some o ≡ true → is_absent o ≡ false → IsSome (record_in o)
recorded None there present = cc
recorded (Some None) there present = cc
recorded (Some (Some r)) there present = refl
