-- What a run promises, whatever its status, and what each of its levels does over what is known there.
use Rattle.std.specs.Prelude.{ℕ, ◌≡◌, ◌⊎◌, ◌++◌, true, List, [], ◌∷◌, take, drop, Result, Ok, Err}
use Rattle.std.specs.declared.option.Option.{Option}
use Rattle.std.specs.declared.option.Option.TheVariants.{None, Some}
use Rattle.mesh_model.specs.Complex.{Complex}
use Rattle.mesh_session.specs.State.{State, fresh_state, IsSoundState}
use Rattle.byte_sink.specs.Wrote.{with_after}
use Rattle.byte_sink.specs.Causes.{Rose}
use Rattle.obj_format.specs.declared.obj_fault.ObjRefusal.{ObjRefusal}
use Rattle.script_text.specs.declared.script.Script.{Script}
use Rattle.script_text.specs.declared.fault.ScriptRefusal.{ScriptRefusal}
use Rattle.worlds.specs.Files.{Files, bytes_of}
use Rattle.worlds.specs.Told.{Told}
use Rattle.worlds.specs.declared.start.Start.{Start}
use Rattle.command_line.specs.Plain.{Spells}
use Rattle.bmesh_run.specs.Job.{Job, job_of, starts_of, out_of, model_starts, script_starts, out_starts}
use Rattle.bmesh_run.specs.Run.{model_of, script_named, model_most, script_most, with_model, due_by_model, due, outcome}
use Rattle.bmesh_run.specs.Whole.{AsksFor, PrintsPart}
use Rattle.bmesh_run.specs.Ends.{is_delivered, Ends, LeavesAll, Caused, EndsBy, EndsRunBy, IsPartOf, IsPartOfRun}
use Rattle.bmesh_run.specs.Ends.{RefusesWords, Completes}
use Rattle.bmesh_run.specs.declared.status.Status.{Status}
use Rattle.bmesh_run.specs.declared.status.Status.TheVariants.{Done, SomeRefused, Usage, ModelRefused, ScriptRefused}
use Rattle.bmesh_run.specs.declared.status.Status.TheVariants.{InFault, OutFault, NoMemory}

-- what is left to read once so many bytes at most of these files were read, one after the other
abbrev pub left_after : ℕ → List Start → Files → Option (List ℕ) → Option (List ℕ)
left_after most [] files rest = rest
left_after most (s ∷ ss) files rest = left_after most ss files (Some (drop most (bytes_of s.name files)))

-- a refusal's line was printed, or a part of it before a fault or want of memory
abbrev pub PrintsRefusal : Status → List ℕ → Status → Told → Told → Type 0
PrintsRefusal refusal line status old new =
    ((status ≡ refusal) × (new ≡ record old { printed = with_after old.printed line }))
    ⊎ ((status ≡ OutFault) × PrintsPart old new line × Rose old.out_faults new.out_faults)
    ⊎ ((status ≡ NoMemory) × PrintsPart old new line × (new.out_faults ≡ old.out_faults))

-- what is known of the inputs: the scale of the grid; the verdicts on the model and on the script, by the files that
-- the world tells; the
-- files that are
-- still to be read for them; and the name of the file to write
pub record Task : Type 0 where
  pub scale : ℕ
  pub model : Files → Result Complex ObjRefusal
  pub script : Files → Result Script ScriptRefusal
  pub models : List Start
  pub scripts : List Start
  pub out : List ℕ

-- accepted words: nothing is read yet
abbrev pub named : Job → Task
named job = record {
  scale = job.scale;
  model = model_of job.scale job.model;
  script = script_named job.script;
  models = model_starts job.model;
  scripts = script_starts job.script;
  out = job.out;
}

-- an accepted model: the script is to be read
abbrev pub modelled : ℕ → Complex → List ℕ → List ℕ → Task
modelled scale c script out = record {
  scale = scale;
  model = λ _. Ok c;
  script = script_named script;
  models = [];
  scripts =
      script_starts script;
  out = out;
}

-- an accepted model and script: nothing more is to be read
abbrev pub scripted : ℕ → Complex → Script → List ℕ → Task
scripted scale c s out = record {
  scale = scale;
  model = λ _. Ok c;
  script = λ _. Ok s;
  models = [];
  scripts = [];
  out = out;
}

-- what is left to read after the model
abbrev pub left_of_model : Task → Files → Told → Option (List ℕ)
left_of_model t files old = left_after model_most t.models files old.rest

-- what is left to read after the model and the script
abbrev pub left_of_script : Task → Files → Told → Option (List ℕ)
left_of_script t files old = left_after script_most t.scripts files (left_of_model t files old)

-- what is left to read after each answer
abbrev pub LeavesRead : Task → Files → Status → Told → Told → Type 0
LeavesRead t files Done old new = new.rest ≡ left_of_script t files old
LeavesRead t files SomeRefused old new = new.rest ≡ left_of_script t files old
LeavesRead t files Usage old new = new.rest ≡ old.rest
LeavesRead t files (ModelRefused r) old new = new.rest ≡ left_of_model t files old
LeavesRead t files (ScriptRefused r) old new = new.rest ≡ left_of_script t files old
LeavesRead t files InFault old new = Unit {0}
LeavesRead t files OutFault old new = Unit {0}
LeavesRead t files NoMemory old new = Unit {0}

-- what each level of a run promises
pub record RunsAs (t : Task) (status : Status) (final : State) (old new : Told) : Type 0 where
  pub ends : (files : Files) → old.files ≡ Some files
      → Ends (with_model t.scale (t.model files) (t.script files)) t.out status final old new
  pub in_fault : status ≡ InFault → LeavesAll final old new
  pub no_memory : status ≡ NoMemory → (files : Files) → old.files ≡ Some files
      → IsPartOf (t.model files) (t.script files) final
  pub cause : Caused status old new
  pub due : (files : Files) → old.files ≡ Some files
      → AsksFor (due_by_model (t.model files) (t.script files) t.models t.scripts (out_starts t.out)) old new
  pub by_status : EndsBy t.models t.scripts (out_starts t.out) status final old new
  pub read : (files : Files) → old.files ≡ Some files → LeavesRead t files status old new
  pub finished : is_delivered status ≡ true → new.begun ≡ None
  pub sound : IsSoundState final

-- what is left to read after each answer, for the words of a command line
abbrev pub LeavesRunRead : Option Job → Files → Status → Told → Told → Type 0
LeavesRunRead None files status old new = new.rest ≡ old.rest
LeavesRunRead (Some job) files status old new = LeavesRead (named job) files status old new

-- What a whole run promises.
pub record IsRun (words : List (List ℕ)) (status : Status) (final : State) (old new : Told) : Type 0 where
  -- where the world tells its files, the run ends as the outcome of the words and the files
  pub ends : (files : Files) → old.files ≡ Some files
      → Ends (outcome words files) (out_of (job_of words)) status final old new
  -- a fault of input leaves all as it was
  pub in_fault : status ≡ InFault → LeavesAll final old new
  -- after want of memory some of the commands were given
  pub no_memory : status ≡ NoMemory → (files : Files) → old.files ≡ Some files → IsPartOfRun (job_of words) files final
  -- words that are not accepted, and only they, are answered by Usage
  pub usage : RefusesWords (job_of words) status
  -- three plain words, and the option anywhere with a digit from 0 to 6, are never answered by Usage
  pub plain : (job : Job) → Spells job words → status ≡ Usage → ⊥
  -- a fault comes only where its count rose in this run
  pub cause : Caused status old new
  -- of the files that the words name the first so many were asked for
  pub asked : AsksFor (starts_of (job_of words)) old new
  -- SCRIPT is asked for only where the model is accepted, and OUT only where the script is
  pub due : (files : Files) → old.files ≡ Some files → AsksFor (due (job_of words) files) old new
  -- what each status says of files, lines and session in every world
  pub by_status : EndsRunBy (job_of words) status final old new
  -- what is left to read after each answer
  pub read : (files : Files) → old.files ≡ Some files → LeavesRunRead (job_of words) files status old new
  -- a done run has ended OUT
  pub finished : is_delivered status ≡ true → new.begun ≡ None
  -- where neither count rose the run ends as its outcome says, or memory ran out
  pub complete : (files : Files) → old.files ≡ Some files → Completes (outcome words files) status old new
  -- each complex of the session is valid and simple
  pub sound : IsSoundState final
