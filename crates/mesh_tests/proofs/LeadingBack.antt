-- A square is led back from its changes.
use Rattle.std.proofs.Common.{◌≡◌, refl}
use Rattle.mesh_model.specs.Complex.{Complex}
use Rattle.mesh_model.specs.ChangeSet.{ChangeSet, AreAlike, change_set, leads}
use Rattle.mesh_model.specs.ChangeSetLaws.{LeadsBack}
use Rattle.mesh_model.specs.Valid.{IsValid}
use Rattle.mesh_tests.specs.Grown.{with_sides, grown}

-- the changes leave what a complex has beside its elements
alike : (c : Complex) → AreAlike c (grown c)
unfolding with_sides grown
alike c = record { layers = refl; materials = refl; libraries = refl }

-- where a change set leads back from them is as valid as what was before
pub led_back : (before after : Complex) (changes : ChangeSet) → after ≡ grown before
    → changes ≡ change_set before (grown before) → LeadsBack → IsValid before → IsValid (leads changes after)
led_back before after changes grew kept back valid =
    let led : leads changes after ≡ before = rw (grew, kept) (back before (grown before) (alike before)) in
    rw led valid
