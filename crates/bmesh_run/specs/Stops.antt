-- What an input gives, or why it gives nothing.
use Rattle.std.specs.Prelude.{◌≡◌, ℕ, ◌++◌, List, Result, Ok, Err}
use Rattle.byte_sink.specs.Causes.{Rose}
use Rattle.worlds.specs.Told.{Told}
use Rattle.bmesh_run.specs.Whole.{KeepsCounts, AsksFor, IsLeft}
use Rattle.worlds.specs.declared.start.Start.{Start}
use Rattle.bmesh_run.specs.declared.stop.Stop.{Stop}
use Rattle.bmesh_run.specs.declared.stop.Stop.TheVariants.{Refused, Failed, NoMemory}

-- a refusal is the input's; a fault and want of memory say nothing of it
abbrev pub StopsAs : {T R : Type 0} → Stop R → Result T R → Type 0
StopsAs (Refused r) verdict = verdict ≡ Err r
StopsAs Failed verdict = Unit {0}
StopsAs NoMemory verdict = Unit {0}

-- what is given is the input's, and so is a refusal
abbrev pub Judges : {T R : Type 0} → Result T (Stop R) → Result T R → Type 0
Judges (Ok x) verdict = verdict ≡ Ok x
Judges (Err stop) verdict = StopsAs stop verdict

-- a fault comes only where the count of faults of input rose, and every other answer leaves both counts
abbrev pub CausesStop : {T R : Type 0} → Result T (Stop R) → Told → Told → Type 0
CausesStop (Ok _) old new = KeepsCounts old new
CausesStop (Err (Refused _)) old new = KeepsCounts old new
CausesStop (Err Failed) old new = Rose old.in_faults new.in_faults × (new.out_faults ≡ old.out_faults)
CausesStop (Err NoMemory) old new = KeepsCounts old new

-- the files were asked for where they were judged, and else the first so many of them
abbrev pub AsksBefore : {T R : Type 0} → Result T (Stop R) → List Start → Told → Told → Type 0
AsksBefore (Ok _) starts old new = new.started ≡ old.started ++ starts
AsksBefore (Err (Refused _)) starts old new = new.started ≡ old.started ++ starts
AsksBefore (Err Failed) starts old new = AsksFor starts old new
AsksBefore (Err NoMemory) starts old new = AsksFor starts old new

-- where an input was judged, all but the first so many bytes of its file are left to read
abbrev pub LeavesRest : {T R : Type 0} → Result T (Stop R) → Told → Told → List ℕ → ℕ → Type 0
LeavesRest (Ok _) old new name taken = IsLeft old new name taken
LeavesRest (Err (Refused _)) old new name taken = IsLeft old new name taken
LeavesRest (Err Failed) old new name taken = Unit {0}
LeavesRest (Err NoMemory) old new name taken = Unit {0}
