-- What stands after a run, whatever its status.
use Rattle.std.specs.Prelude.{ℕ, ◌≡◌, ◌⊎◌, ◌++◌, Bool, true, false, List, [], take, drop, Result, Ok}
use Rattle.std.specs.Option.{option_map}
use Rattle.std.specs.declared.option.Option.{Option}
use Rattle.std.specs.declared.option.Option.TheVariants.{None, Some}
use Rattle.mesh_model.specs.Complex.{Complex}
use Rattle.mesh_session.specs.State.{State, fresh_state}
use Rattle.mesh_session.specs.Steps.{steps}
use Rattle.byte_sink.specs.Wrote.{with_after}
use Rattle.byte_sink.specs.Causes.{Rose}
use Rattle.obj_format.specs.declared.obj_fault.ObjRefusal.{ObjRefusal}
use Rattle.script_text.specs.declared.script.Script.{Script}
use Rattle.script_text.specs.declared.fault.ScriptRefusal.{ScriptRefusal}
use Rattle.worlds.specs.Files.{Files, bytes_of, put}
use Rattle.worlds.specs.Told.{Told}
use Rattle.bmesh_run.specs.Whole.{KeepsCounts, AsksFor}
use Rattle.bmesh_run.specs.Job.{Job, is_grid, is_tour, model_starts, script_starts, out_starts}
use Rattle.bmesh_run.specs.Run.{Outcome, loaded, model_of, script_named, grid_refusal, usage_line, model_line}
use Rattle.bmesh_run.specs.Run.{script_line}
use Rattle.worlds.specs.declared.start.Start.{Start}
use Rattle.bmesh_run.specs.declared.status.Status.{Status}
use Rattle.bmesh_run.specs.declared.status.Status.TheVariants.{Done, SomeRefused, Usage, ModelRefused, ScriptRefused}
use Rattle.bmesh_run.specs.declared.status.Status.TheVariants.{InFault, OutFault, NoMemory}

-- the number that the program exits with
abbrev pub code_of : Status → ℕ
code_of Done = 0
code_of SomeRefused = 1
code_of Usage = 2
code_of (ModelRefused r) = 3
code_of (ScriptRefused r) = 4
code_of InFault = 5
code_of OutFault = 6
code_of NoMemory = 7

-- neither the world nor memory failed
abbrev pub is_answer : Status → Bool
is_answer Done = true
is_answer SomeRefused = true
is_answer Usage = true
is_answer (ModelRefused r) = true
is_answer (ScriptRefused r) = true
is_answer InFault = false
is_answer OutFault = false
is_answer NoMemory = false

-- the commands were given, and OUT and the report are whole
abbrev pub is_delivered : Status → Bool
is_delivered Done = true
is_delivered SomeRefused = true
is_delivered Usage = false
is_delivered (ModelRefused r) = false
is_delivered (ScriptRefused r) = false
is_delivered InFault = false
is_delivered OutFault = false
is_delivered NoMemory = false

-- the model was accepted, or a fault or want of memory came first
abbrev pub is_past_model : Status → Bool
is_past_model Done = true
is_past_model SomeRefused = true
is_past_model Usage = false
is_past_model (ModelRefused r) = false
is_past_model (ScriptRefused r) = true
is_past_model InFault = true
is_past_model OutFault = true
is_past_model NoMemory = true

-- model and script were accepted, or a fault of output or want of memory came first
abbrev pub is_past_script : Status → Bool
is_past_script Done = true
is_past_script SomeRefused = true
is_past_script Usage = false
is_past_script (ModelRefused r) = false
is_past_script (ScriptRefused r) = false
is_past_script InFault = false
is_past_script OutFault = true
is_past_script NoMemory = true

-- what was made has this text under OUT, if there is one
abbrev pub made_with : List ℕ → Option (List ℕ) → Option Files → Option Files
made_with out None made = made
made_with out (Some text) made = option_map (put out text) made

-- once there is a text under OUT, no file is begun
abbrev pub begun_after : Option (List ℕ) → Option (List ℕ) → Option (List ℕ)
begun_after None begun = begun
begun_after (Some text) begun = None

-- all that an outcome says was made and printed, and OUT is ended
pub record MeetsAll (o : Outcome) (out : List ℕ) (old new : Told) : Type 0 where
  pub made : new.made ≡ made_with out o.made old.made
  pub begun : new.begun ≡ begun_after o.made old.begun
  pub printed : new.printed ≡ with_after old.printed o.printed

-- a prefix of the text under OUT may have been made, and nothing was printed
pub record MadePart (o : Outcome) (out : List ℕ) (old new : Told) : Type 0 where
  pub made : (new.made ≡ old.made)
      ⊎ ((text : List ℕ) × (o.made ≡ Some text) × ((n : ℕ) × (new.made ≡ option_map (put out (take n text)) old.made)))
  pub printed : new.printed ≡ old.printed

-- all of OUT was made and ended, and a prefix of the text to print was printed
pub record PrintedPart (o : Outcome) (out : List ℕ) (old new : Told) : Type 0 where
  pub made : new.made ≡ made_with out o.made old.made
  pub begun : new.begun ≡ begun_after o.made old.begun
  pub printed : (n : ℕ) × (new.printed ≡ with_after old.printed (take n o.printed))

-- OUT is made and ended before anything is printed, and each is made in order from its front
abbrev pub MeetsPart : Outcome → List ℕ → Told → Told → Type 0
MeetsPart o out old new = MadePart o out old new ⊎ PrintedPart o out old new

-- a fault comes only where its count rose in this run, and no other answer leaves a count raised
abbrev pub Caused : Status → Told → Told → Type 0
Caused Done old new = KeepsCounts old new
Caused SomeRefused old new = KeepsCounts old new
Caused Usage old new = KeepsCounts old new
Caused (ModelRefused r) old new = KeepsCounts old new
Caused (ScriptRefused r) old new = KeepsCounts old new
Caused InFault old new = Rose old.in_faults new.in_faults × (new.out_faults ≡ old.out_faults)
Caused OutFault old new = Rose old.out_faults new.out_faults × (new.in_faults ≡ old.in_faults)
Caused NoMemory old new = KeepsCounts old new

-- one line was printed and nothing made, the session is fresh, and these files were asked for
pub record PrintsLine (line : List ℕ) (starts : List Start) (final : State) (old new : Told) : Type 0 where
  pub made : new.made ≡ old.made
  pub printed : new.printed ≡ with_after old.printed line
  pub session : final ≡ fresh_state
  pub started : new.started ≡ old.started ++ starts

-- what each status says in every world, by the files of the model, of the script and of OUT: a refusal prints its line,
-- and the
-- next file is asked for only once what was read is accepted
abbrev pub EndsBy : List Start → List Start → List Start → Status → State → Told → Told → Type 0
EndsBy model script out Done final old new = new.started ≡ old.started ++ (model ++ (script ++ out))
EndsBy model script out SomeRefused final old new = new.started ≡ old.started ++ (model ++ (script ++ out))
EndsBy model script out Usage final old new = PrintsLine usage_line [] final old new
EndsBy model script out (ModelRefused r) final old new = PrintsLine (model_line r) model final old new
EndsBy model script out (ScriptRefused r) final old new = PrintsLine (script_line r) (model ++ script) final old new
EndsBy model script out InFault final old new = AsksFor (model ++ script) old new
EndsBy model script out OutFault final old new = AsksFor (model ++ (script ++ out)) old new
EndsBy model script out NoMemory final old new = AsksFor (model ++ (script ++ out)) old new

-- the same for the words of a command line
abbrev pub EndsRunBy : Option Job → Status → State → Told → Told → Type 0
EndsRunBy None status final old new = EndsBy [] [] [] status final old new
EndsRunBy (Some job) status final old new =
    EndsBy (model_starts job.model) (script_starts job.script) (out_starts job.out) status final old new

-- the state after the first so many commands of a script on a complex with the script's layers
abbrev pub IsOnTheWay : Complex → Script → State → Type 0
IsOnTheWay c s final = (n : ℕ) × (final ≡ (steps (loaded c s) (take n s.commands)).1)

-- what an outcome says of a run: where the run ends with an answer, it is the outcome's, with the session and all that
-- is made and
-- printed; where a fault ends it, a part was made and printed, and after a fault of output the session is the outcome's
pub record Ends (o : Outcome) (out : List ℕ) (status : Status) (final : State) (old new : Told) : Type 0 where
  pub answer : is_answer status ≡ true → status ≡ o.status
  pub session : is_answer status ≡ true → final ≡ o.session
  pub all : is_answer status ≡ true → MeetsAll o out old new
  pub part : MeetsPart o out old new
  pub out_fault : status ≡ OutFault → final ≡ o.session

-- nothing was made or printed, and the session is fresh
pub record LeavesAll (final : State) (old new : Told) : Type 0 where
  pub made : new.made ≡ old.made
  pub printed : new.printed ≡ old.printed
  pub session : final ≡ fresh_state

-- the session is fresh, or some of the script's commands were given on the model's complex
abbrev pub IsPartOf : Result Complex ObjRefusal → Result Script ScriptRefusal → State → Type 0
IsPartOf model script final =
    (final ≡ fresh_state) ⊎ ((c : Complex) × (s : Script) × (model ≡ Ok c) × (script ≡ Ok s) × IsOnTheWay c s final)

-- the same for the words of a command line
abbrev pub IsPartOfRun : Option Job → Files → State → Type 0
IsPartOfRun None files final = final ≡ fresh_state
IsPartOfRun (Some job) files final =
    IsPartOf (model_of job.scale job.model files) (script_named job.script files) final

-- this status, unless its one line can't be printed
abbrev pub IsRefusal : Status → Status → Type 0
IsRefusal refusal status = (status ≡ refusal) ⊎ (status ≡ OutFault) ⊎ (status ≡ NoMemory)

-- words that are not accepted are answered by Usage, and a model that is made from a number is refused
abbrev pub RefusesWords : Option Job → Status → Type 0
RefusesWords None status = IsRefusal Usage status
RefusesWords (Some job) status =
    (status ≡ Usage → ⊥) × (is_grid job.model ≡ true → IsRefusal (ModelRefused grid_refusal) status)

-- a count rose in this run
abbrev pub HasRisen : Told → Told → Type 0
HasRisen old new = Rose old.in_faults new.in_faults ⊎ Rose old.out_faults new.out_faults

-- where neither count rose the run ends as its outcome says, or memory ran out
abbrev pub Completes : Outcome → Status → Told → Told → Type 0
Completes o status old new = ¬ HasRisen old new → (status ≡ o.status) ⊎ (status ≡ NoMemory)
