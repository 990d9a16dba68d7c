-- What holds of change sets.
use Rattle.std.specs.Prelude.{◌≡◌}
use Rattle.mesh_model.specs.Complex.{Complex}
use Rattle.mesh_model.specs.ChangeSet.{ChangeSet, change_set, leads, join, opposite, trim, AreAlike, AreBelow}
use Rattle.mesh_model.specs.ChangeSet.{IsWholePast}

-- a change set leads back
abbrev pub LeadsBack : Type 0
LeadsBack = (before after : Complex) → AreAlike before after → leads (change_set before after) after ≡ before

-- joined pasts lead where the older one leads from where the newer one leads, if its next names are at most those of
-- the newer one
abbrev pub JoinedLeads : Type 0
JoinedLeads = (older newer : ChangeSet) (now : Complex) → AreBelow older newer
    → leads (join older newer) now ≡ leads older (leads newer now)

-- the opposite of a change set is the change set the other way
abbrev pub OppositeTurns : Type 0
OppositeTurns = (before now : Complex) → opposite (change_set before now) now ≡ change_set now before

-- a whole past that is trimmed is the change set of where it leads
abbrev pub TrimmedIsChangeSet : Type 0
TrimmedIsChangeSet = (past : ChangeSet) (now : Complex) → IsWholePast past now
    → trim past now ≡ change_set (leads past now) now

-- and leads where it led
abbrev pub TrimmedLeads : Type 0
TrimmedLeads = (past : ChangeSet) (now : Complex) → leads (trim past now) now ≡ leads past now
