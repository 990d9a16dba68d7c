-- What a whole run gives, from its words and the files' bytes.
use Rattle.std.specs.Prelude.{ℕ, if◌then◌else◌, codes, List, [], ◌++◌, Result, Ok, Err}
use Rattle.std.specs.Fmt.{decimal}
use Rattle.std.specs.List.{list_any}
use Rattle.std.specs.declared.option.Option.{Option}
use Rattle.std.specs.declared.option.Option.TheVariants.{None, Some}
use Rattle.mesh_model.specs.Complex.{Complex}
use Rattle.mesh_model.specs.Declaring.{with_all_declared}
use Rattle.mesh_model.specs.declared.layer_decl.LayerDecl.{LayerDecl}
use Rattle.op_slots.specs.declared.command.Command.{Command}
use Rattle.mesh_session.specs.State.{State, fresh_state, first_state}
use Rattle.mesh_session.specs.Steps.{steps}
use Rattle.mesh_session.specs.declared.reply.Reply.{Reply}
use Rattle.obj_reader.specs.Obj.{read_text}
use Rattle.obj_writer.specs.Whole.{text}
use Rattle.obj_format.specs.Words as obj
use Rattle.obj_format.specs.declared.obj_fault.ObjRefusal.{ObjRefusal}
use Rattle.obj_format.specs.declared.obj_fault.ObjWhy.TheVariants as obj_why
use Rattle.script_text.specs.Script.{script_of}
use Rattle.script_text.specs.Words as script
use Rattle.script_text.specs.declared.script.Script.{Script}
use Rattle.script_text.specs.declared.fault.ScriptRefusal.{ScriptRefusal}
use Rattle.script_text.specs.declared.fault.ScriptWhy.TheVariants as script_why
use Rattle.worlds.specs.Files.{Files, bytes_of}
use Rattle.bmesh_run.specs.Job.{Job, job_of, is_grid, is_tour, model_starts, script_starts, out_starts}
use Rattle.bmesh_run.specs.Report.{report, is_refused}
use Rattle.worlds.specs.declared.start.Start.{Start}
use Rattle.bmesh_run.specs.declared.status.Status.{Status}
use Rattle.bmesh_run.specs.declared.status.Status.TheVariants.{Done, SomeRefused, Usage, ModelRefused, ScriptRefused}

-- the refusal of a model that is made from a number
abbrev pub grid_refusal : ObjRefusal
grid_refusal = record { line = 0; why = obj_why.NotYet }

-- the complex of a model at a scale, or its first fault
abbrev pub model_of : ℕ → List ℕ → Files → Result Complex ObjRefusal
model_of scale name files = if is_grid name then Err grid_refusal else read_text scale (bytes_of name files)

-- the script of a name, or its first fault
abbrev pub script_named : List ℕ → Files → Result Script ScriptRefusal
script_named name files =
    if is_tour name then Err (record { line = 0; why = script_why.NotYet }) else script_of (bytes_of name files)

-- how many bytes of a model are read at most: one past the limit
abbrev pub model_most : ℕ
model_most = 268435457

-- how many bytes of a script are read at most, likewise
abbrev pub script_most : ℕ
script_most = 1048577

-- the line for words that are not accepted
abbrev pub usage_line : List ℕ
usage_line = codes "usage: bmesh MODEL SCRIPT OUT [--scale N]\n"

-- the line for a model that is refused
abbrev pub model_line : ObjRefusal → List ℕ
model_line r = codes "model line " ++ (decimal r.line ++ (codes ": " ++ (obj.why_text r.why ++ codes "\n")))

-- the line for a script that is refused
abbrev pub script_line : ScriptRefusal → List ℕ
script_line r = codes "script line " ++ (decimal r.line ++ (codes ": " ++ (script.why_text r.why ++ codes "\n")))

-- the status, the text of the written file if one is written, what is printed, and the session
pub record Outcome : Type 0 where
  pub status : Status
  pub made : Option (List ℕ)
  pub printed : List ℕ
  pub session : State

-- nothing is written, one line is printed, and the session stays fresh
abbrev pub refusal_outcome : Status → List ℕ → Outcome
refusal_outcome status line = record { status = status; made = None; printed = line; session = fresh_state }

-- the state before the first command: the model's complex with the script's layers, in which each element has zeros
abbrev pub loaded : Complex → Script → State
loaded c s = first_state (with_all_declared c s.layers)

-- some replies and the last state: the text of its complex is written, and the report printed
abbrev pub replies_outcome : ℕ → List Command → List LayerDecl → List Reply → State → Outcome
replies_outcome scale commands layers replies s = record {
  status = if list_any is_refused replies then SomeRefused else Done;
  made = Some (text scale s.now);
  printed = report commands replies layers s;
  session = s;
}

-- the commands of a script in order on the model's complex with the script's layers
abbrev pub commands_outcome : ℕ → Complex → Script → Outcome
commands_outcome scale c s =
    let all = steps (loaded c s) s.commands in replies_outcome scale s.commands s.layers all.0 all.1

-- with the model's complex: the script is refused, or delivered
abbrev pub with_script : ℕ → Complex → Result Script ScriptRefusal → Outcome
with_script scale c (Err r) = refusal_outcome (ScriptRefused r) (script_line r)
with_script scale c (Ok s) = commands_outcome scale c s

-- with the words: the model is refused, or goes on to the script
abbrev pub with_model : ℕ → Result Complex ObjRefusal → Result Script ScriptRefusal → Outcome
with_model scale (Err r) script = refusal_outcome (ModelRefused r) (model_line r)
with_model scale (Ok c) script = with_script scale c script

-- the words are refused, or name the model and the script
abbrev pub with_job : Files → Option Job → Outcome
with_job files None = refusal_outcome Usage usage_line
with_job files (Some job) =
    with_model job.scale (model_of job.scale job.model files) (script_named job.script files)

-- the files that are due once a model is accepted: SCRIPT, and OUT where the script is accepted
abbrev pub due_by_script : Result Script ScriptRefusal → List Start → List Start → List Start
due_by_script (Err r) script out = script
due_by_script (Ok s) script out = script ++ out

-- the files that are due: MODEL, and the others where the model is accepted
abbrev pub due_by_model : Result Complex ObjRefusal → Result Script ScriptRefusal → List Start → List Start → List Start
    → List Start
due_by_model (Err r) verdict model script out = model
due_by_model (Ok c) verdict model script out = model ++ due_by_script verdict script out

-- the files that are due for the words of a command line, by what the files have
abbrev pub due : Option Job → Files → List Start
due None files = []
due (Some job) files =
    due_by_model (model_of job.scale job.model files) (script_named job.script files) (model_starts job.model)
    (script_starts job.script) (out_starts job.out)

-- what a run gives
abbrev pub outcome : List (List ℕ) → Files → Outcome
outcome words files = with_job files (job_of words)
