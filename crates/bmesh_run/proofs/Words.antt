-- Plain words are never refused.
use Rattle.std.proofs.Common.{◌≡◌, ℕ, List, Some}
use Rattle.command_line.specs.Plain.{Spells}
use Rattle.command_line.proofs.PlainLemmas.{spelled_read}
use Rattle.bmesh_run.specs.Job.{Job, job_of}
use Rattle.bmesh_run.specs.Ends.{RefusesWords}
use Rattle.bmesh_run.specs.declared.status.Status.{Status}
use Rattle.bmesh_run.specs.declared.status.Status.TheVariants.{Usage}

pub never_usage : (words : List (List ℕ)) (job : Job) (status : Status) → Spells job words
    → RefusesWords (job_of words) status → status ≡ Usage → ⊥
never_usage words job status plain refuses =
    let taken : RefusesWords (Some job) status = rw (spelled_read job words plain) at refuses in
    taken.0
