-- A run in which nothing fails ends as its outcome says.
use Rattle.std.proofs.Common.{inl, inr, refl, List, ℕ}
use Rattle.mesh_session.specs.State.{State}
use Rattle.worlds.specs.Told.{Told}
use Rattle.bmesh_run.specs.Run.{Outcome}
use Rattle.bmesh_run.specs.Ends.{Ends, Caused, Completes}
use Rattle.bmesh_run.specs.declared.status.Status.{Status}
use Rattle.bmesh_run.specs.declared.status.Status.TheVariants.{Done, SomeRefused, Usage, ModelRefused, ScriptRefused}
use Rattle.bmesh_run.specs.declared.status.Status.TheVariants.{InFault, OutFault, NoMemory}

pub completes : (o : Outcome) (out : List ℕ) (status : Status) (final : State) (old new : Told) → Caused status old new
    → Ends o out status final old new → Completes o status old new
completes o out Done final old new cause h risen = inl (h.answer refl)
completes o out SomeRefused final old new cause h risen = inl (h.answer refl)
completes o out Usage final old new cause h risen = inl (h.answer refl)
completes o out (ModelRefused r) final old new cause h risen = inl (h.answer refl)
completes o out (ScriptRefused r) final old new cause h risen = inl (h.answer refl)
completes o out InFault final old new cause h risen = absurd (risen (inl cause.0))
completes o out OutFault final old new cause h risen = absurd (risen (inr cause.0))
completes o out NoMemory final old new cause h risen = inr refl
