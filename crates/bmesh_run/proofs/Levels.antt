-- How each level of a run keeps its promise, by what it reads and what the next one does.
use Rattle.std.proofs.Common.{◌≡◌, ℕ, ◌⊎◌, Bool, true, false, inl, inr, List, [], ◌∷◌, ◌++◌, length, take, drop, refl}
use Rattle.std.proofs.Common.{sym, ap, ◌∙◌, Option, Some, None, Result, Ok, Err, true≢false, rules, if◌then◌else◌}
use Rattle.std.proofs.Math.Seq.{take-length}
use Rattle.std.proofs.lemmas.List.{append-nil}
use Rattle.mesh_model.specs.Complex.{Complex}
use Rattle.mesh_session.specs.State.{State, fresh_state, IsSoundState}
use Rattle.byte_sink.specs.Wrote.{with_after}
use Rattle.byte_sink.specs.Causes.{Rose}
use Rattle.obj_format.specs.declared.obj_fault.ObjRefusal.{ObjRefusal}
use Rattle.script_text.specs.declared.script.Script.{Script}
use Rattle.script_text.specs.declared.fault.ScriptRefusal.{ScriptRefusal}
use Rattle.worlds.specs.Files.{Files, bytes_of}
use Rattle.worlds.specs.Told.{Told}
use Rattle.worlds.specs.declared.start.Start.{Start}
use Rattle.worlds.specs.declared.start.Purpose.TheVariants.{Reading}
use Rattle.bmesh_run.specs.Job.{Job, is_grid, job_of, out_of, model_starts, script_starts, out_starts}
use Rattle.bmesh_run.specs.Run.{Outcome, grid_refusal, model_of, script_named, model_most, script_most, refusal_outcome}
use Rattle.bmesh_run.specs.Run.{commands_outcome, model_line, script_line, usage_line, outcome}
use Rattle.bmesh_run.specs.Whole.{KeepsCounts, OnlyReads, PrintsPart}
use Rattle.bmesh_run.specs.Stops.{Judges, CausesStop, AsksBefore}
use Rattle.bmesh_run.specs.Ends.{is_answer, is_delivered, is_past_model, is_past_script, Ends, LeavesAll, Caused}
use Rattle.bmesh_run.specs.Ends.{EndsBy, IsOnTheWay, IsPartOf, RefusesWords}
use Rattle.bmesh_run.specs.Promise.{left_after, PrintsRefusal, Task, named, modelled, scripted, LeavesRead, RunsAs}
use Rattle.bmesh_run.specs.Promise.{IsRun}
use Rattle.bmesh_run.specs.declared.status.Status.{Status}
use Rattle.bmesh_run.specs.declared.status.Status.TheVariants.{Done, SomeRefused, Usage, ModelRefused, ScriptRefused}
use Rattle.bmesh_run.specs.declared.status.Status.TheVariants.{InFault, OutFault, NoMemory}
use Rattle.bmesh_run.specs.declared.stop.Stop.{Stop}
use Rattle.bmesh_run.specs.declared.stop.Stop.TheVariants as stop
use Rattle.bmesh_run.proofs.Running.{ends_after, ends_model, ends_model_refused, ends_script, ends_script_refused}
use Rattle.bmesh_run.proofs.Running.{ends_unprinted, ends_refused, ends_job, ends_words, asks_first}
use Rattle.bmesh_run.proofs.Asking.{asks_all, asks_out, asks_job, asks_no_job, asks_refused, prints_line}
use Rattle.bmesh_run.proofs.Asking.{prints_refused, due_model, due_script, due_early_model, due_early_script}
use Rattle.bmesh_run.proofs.Asking.{ends_by_model, ends_by_script}
use Rattle.bmesh_run.proofs.Completing.{completes}
use Rattle.bmesh_run.proofs.Words.{never_usage}

-- where an input was judged, what is left is what its file leaves
abbrev pub LeavesJudged : {T R : Type 0} → Result T (Stop R) → ℕ → List Start → Files → Told → Told → Type 0
LeavesJudged (Ok _) most starts files old new = new.rest ≡ left_after most starts files old.rest
LeavesJudged (Err (stop.Refused _)) most starts files old new = new.rest ≡ left_after most starts files old.rest
LeavesJudged (Err stop.Failed) most starts files old new = Unit {0}
LeavesJudged (Err stop.NoMemory) most starts files old new = Unit {0}

-- an input is read and judged: its verdict by the files that the world tells, and the files that are read for it
pub record ReadsInput {T R : Type 0} (result : Result T (Stop R)) (verdict : Files
    → Result T R) (most : ℕ) (starts : List Start) (old new : Told) : Type 0 where
  pub judged : (files : Files) → old.files ≡ Some files → Judges result (verdict files)
  pub only : OnlyReads old new
  pub asked : AsksBefore result starts old new
  pub left : (files : Files) → old.files ≡ Some files → LeavesJudged result most starts files old new
  pub cause : CausesStop result old new

-- of no file, or of one that was read up to one byte past the limit
pub left_starts : (most : ℕ) (b : Bool) (name : List ℕ) (files : Files) (old new : Told) → (b ≡ true → new ≡ old)
    → (b ≡ false → new.rest ≡ Some (drop most (bytes_of name files)))
    → new.rest ≡ left_after most (if b then [] else record { name = name; purpose = Reading } ∷ []) files old.rest
left_starts most true name files old new same read = ap (λ (t : Told). t.rest) (same refl)
left_starts most false name files old new same read = read refl

pub sound_fresh : IsSoundState fresh_state
sound_fresh = search rules

still : (old mid : Told) (files : Files) → OnlyReads old mid → old.files ≡ Some files → mid.files ≡ Some files
still old mid files only told = ap (λ (t : Told). t.files) only ∙ told

kept : (old mid new : Told) → KeepsCounts old mid → KeepsCounts mid new → KeepsCounts old new
kept old mid new a b = record { input = b.input ∙ a.input; output = b.output ∙ a.output }

rose_after : (a b c : ℕ) → b ≡ a → Rose b c → Rose a c
rose_after a b c is h = rw (← is) h

caused_after : (status : Status) (old mid new : Told) → KeepsCounts old mid → Caused status mid new
    → Caused status old new
caused_after Done old mid new keeps h = kept old mid new keeps h
caused_after SomeRefused old mid new keeps h = kept old mid new keeps h
caused_after Usage old mid new keeps h = kept old mid new keeps h
caused_after (ModelRefused r) old mid new keeps h = kept old mid new keeps h
caused_after (ScriptRefused r) old mid new keeps h = kept old mid new keeps h
caused_after InFault old mid new keeps h = (
  rose_after old.in_faults mid.in_faults new.in_faults keeps.input h.0,
  h.1
      ∙ keeps.output,
)
caused_after OutFault old mid new keeps h =
    (rose_after old.out_faults mid.out_faults new.out_faults keeps.output h.0, h.1 ∙ keeps.input)
caused_after NoMemory old mid new keeps h = kept old mid new keeps h

leaves_after : (final : State) (old mid new : Told) → OnlyReads old mid → LeavesAll final mid new
    → LeavesAll final old new
leaves_after final old mid new only l = record {
  made = l.made ∙ ap (λ (t : Told). t.made) only;
  printed = l.printed
      ∙ ap (λ (t : Told). t.printed) only;
  session = l.session;
}

part_model : (c : Complex) (model : Result Complex ObjRefusal) (script : Result Script ScriptRefusal) (final : State)
    → model ≡ Ok c → IsPartOf (Ok c) script final → IsPartOf model script final
part_model c model script final is h = rw is h

part_script : (c : Complex) (s : Script) (script : Result Script ScriptRefusal) (final : State) → script ≡ Ok s
    → IsPartOf (Ok c) (Ok s) final → IsPartOf (Ok c) script final
part_script c s script final is h = rw is h

read_after_model : (job : Job) (c : Complex) (files : Files) (status : Status) (old mid new : Told)
    → is_past_model status ≡ true → mid.rest ≡ left_after model_most (model_starts job.model) files old.rest
    → LeavesRead (modelled job.scale c job.script job.out) files status mid new
    → LeavesRead (named job) files status old new
read_after_model job c files Done old mid new past left h = h
    ∙ ap (left_after script_most (script_starts job.script) files) left
read_after_model job c files SomeRefused old mid new past left h = h
    ∙ ap (left_after script_most (script_starts job.script) files) left
read_after_model job c files Usage old mid new past left h = absurd (true≢false (sym past))
read_after_model job c files (ModelRefused r) old mid new past left h = absurd (true≢false (sym past))
read_after_model job c files (ScriptRefused r) old mid new past left h = h
    ∙ ap (left_after script_most (script_starts job.script) files) left
read_after_model job c files InFault old mid new past left h = tt
read_after_model job c files OutFault old mid new past left h = tt
read_after_model job c files NoMemory old mid new past left h = tt

read_after_script : (scale : ℕ) (c : Complex) (script out : List ℕ) (files : Files) (status : Status)
    (old mid new : Told)
    → is_past_script status ≡ true → mid.rest ≡ left_after script_most (script_starts script) files old.rest
    → new.rest ≡ mid.rest
    → LeavesRead (modelled scale c script out) files status old new
read_after_script scale c script out files Done old mid new past left same = same ∙ left
read_after_script scale c script out files SomeRefused old mid new past left same = same ∙ left
read_after_script scale c script out files Usage old mid new past left same = absurd (true≢false (sym past))
read_after_script scale c script out files (ModelRefused r) old mid new past left same = absurd (true≢false (sym past))
read_after_script scale c script out files (ScriptRefused r) old mid new past left same = absurd (true≢false (sym past))
read_after_script scale c script out files InFault old mid new past left same = tt
read_after_script scale c script out files OutFault old mid new past left same = tt
read_after_script scale c script out files NoMemory old mid new past left same = tt

-- an accepted model was read before
pub after_model : (job : Job) (c : Complex) (status : Status) (final : State) (old mid new : Told)
    → ReadsInput {T = Complex} {R = ObjRefusal} (Ok c) (model_of job.scale job.model) model_most
    (model_starts job.model) old mid
    → is_past_model status ≡ true
    → RunsAs (modelled job.scale c job.script job.out) status final mid new → RunsAs (named job) status final old new
after_model job c status final old mid new reads past h = record {
  ends = λ files told. ends_model job.scale c (model_of job.scale job.model files) (script_named job.script files)
      job.out status final old new (reads.judged files told)
      (ends_after _ job.out status final old mid new reads.only (h.ends files (still old mid files reads.only told)));
  in_fault = λ is. leaves_after final old mid new reads.only (h.in_fault is);
  no_memory = λ is files told. part_model c (model_of job.scale job.model files) (script_named job.script files) final
      (reads.judged files told) (h.no_memory is files (still old mid files reads.only told));
  cause = caused_after status old mid new reads.cause h.cause;
  due = λ files told. due_model c (model_of job.scale job.model files) (script_named job.script files)
      (model_starts job.model)
      (script_starts job.script) (out_starts job.out) old mid new (reads.judged files told) reads.asked
      (h.due files (still old mid files reads.only told));
  by_status = ends_by_model (model_starts job.model) (script_starts job.script) (out_starts job.out)
      status final old mid new past reads.only reads.asked h.by_status;
  read = λ files told. read_after_model job c files status old mid new past (reads.left files told)
      (h.read files (still old mid files reads.only told));
  finished = h.finished;
  sound = h.sound;
}

-- an accepted script was read before, and its commands were given
pub after_script : (scale : ℕ) (c : Complex) (s : Script) (script out : List ℕ) (status : Status) (final : State)
    (old mid new : Told)
    → ReadsInput {T = Script} {R = ScriptRefusal} (Ok s) (script_named script) script_most (script_starts script)
    old mid → is_past_script status ≡ true
    → Ends (commands_outcome scale c s) out status final mid new
    → (status ≡ NoMemory → (final ≡ fresh_state) ⊎ IsOnTheWay c s final)
    → Caused status mid new → EndsBy [] [] (out_starts out) status final mid new → new.rest ≡ mid.rest
    → (is_delivered status ≡ true → new.begun ≡ None) → IsSoundState final
    → RunsAs (modelled scale c script out) status final old new
after_script scale c s script out status final old mid new reads past ends way cause by same finished sound = record {
  ends = λ files told. ends_script scale c s (script_named script files) out status final old new
      (reads.judged files told)
      (ends_after _ out status final old mid new reads.only ends);
  in_fault = λ is. absurd (true≢false (sym past ∙ ap is_past_script is));
  no_memory = λ is files told. part_script c s (script_named script files) final (reads.judged files told)
      (elim (way is) [ inl all ↦ inl all | inr some ↦ inr (c, s, refl, refl, some) ]);
  cause = caused_after status old mid new reads.cause cause;
  due = λ files told. due_script s (script_named script files) (script_starts script) (out_starts out) old mid new
      (reads.judged files told) reads.asked (asks_out (out_starts out) status final mid new by);
  by_status = ends_by_script (script_starts script) (out_starts out) status final old mid new past reads.asked by;
  read = λ files told. read_after_script scale c script out files status old mid new past (reads.left files told) same;
  finished = finished;
  sound = sound;
}

-- a line was printed whole in place of a report
ends_printed : (refused : Status) (line out : List ℕ) (old new : Told)
    → new ≡ record old { printed = with_after old.printed line } → PrintsPart old new line
    → Ends (refusal_outcome refused line) out refused fresh_state old new
ends_printed refused line out old new all part =
    ends_refused refused refused line out old new (λ _. refl) (λ _. all) part

all_is_part : (line : List ℕ) (old new : Told) → new ≡ record old { printed = with_after old.printed line }
    → PrintsPart old new line
all_is_part line old new all = (
  length line,
  all ∙ ap (λ (b : List ℕ). record old { printed = with_after old.printed b }) (sym (take-length line))
      ∙ ap (λ (n : ℕ). record old { printed = with_after old.printed (take (length line) line); out_faults = n })
      (sym (ap (λ (t : Told). t.out_faults) all)),
)

-- a model was refused
pub refused_model : (job : Job) (r : ObjRefusal) (status : Status) (old mid new : Told)
    → ReadsInput {T = Complex} {R = ObjRefusal} (Err (stop.Refused r)) (model_of job.scale job.model) model_most
    (model_starts job.model) old mid
    → PrintsRefusal (ModelRefused r) (model_line r) status mid new → RunsAs (named job) status fresh_state old new
refused_model job r status old mid new reads prints =
    let models = model_starts job.model in
    let scripts = script_starts job.script in
    let outs = out_starts job.out in
    let line = model_line r in
    elim prints [
      | inl a ↦ rw a.0 (record {
        ends = λ files told. ends_model_refused job.scale r (model_of job.scale job.model files)
            (script_named job.script files) job.out
            (ModelRefused r) fresh_state old new (reads.judged files told)
            (ends_after _ job.out (ModelRefused r) fresh_state old mid new reads.only
            (ends_printed (ModelRefused r) line job.out mid new a.1 (all_is_part line mid new a.1)));
        in_fault = λ is. cc;
        no_memory = λ is. cc;
        cause = kept old mid new reads.cause (record {
          input = ap (λ (t : Told). t.in_faults) a.1;
          output =
              ap (λ (t : Told). t.out_faults) a.1;
        });
        due = λ files told. due_early_model (model_of job.scale job.model files) (script_named job.script files)
            models scripts outs old new (asks_all models old new (ap (λ (t : Told). t.started) a.1 ∙ reads.asked));
        by_status = prints_refused line models old mid new reads.only reads.asked
            (prints_line line line mid new refl a.1);
        read = λ files told. ap (λ (t : Told). t.rest) a.1 ∙ reads.left files told;
        finished = λ is. absurd (true≢false (sym is));
        sound = sound_fresh;
      })
      | inr f ↦ elim f [
        | inl b ↦ rw b.0 (record {
          ends = λ files told. ends_model_refused job.scale r (model_of job.scale job.model files)
              (script_named job.script files)
              job.out OutFault fresh_state old new (reads.judged files told)
              (ends_after _ job.out OutFault fresh_state old mid new reads.only
              (ends_unprinted (ModelRefused r) OutFault line line job.out mid new refl refl b.1));
          in_fault = λ is. cc;
          no_memory = λ is. cc;
          cause = (
            rose_after old.out_faults mid.out_faults new.out_faults reads.cause.output b.2,
            ap (λ (t : Told). t.in_faults) b.1.1 ∙ reads.cause.input,
          );
          due = λ files told. due_early_model (model_of job.scale job.model files) (script_named job.script files)
              models scripts outs old new (asks_all models old new (ap (λ (t : Told). t.started) b.1.1 ∙ reads.asked));
          by_status = asks_refused models (scripts ++ outs) old mid new reads.asked
              (ap (λ (t : Told). t.started) b.1.1);
          read = λ files told. tt;
          finished = λ is. absurd (true≢false (sym is));
          sound = sound_fresh;
        })
        | inr d ↦ rw d.0 (record {
          ends = λ files told. ends_model_refused job.scale r (model_of job.scale job.model files)
              (script_named job.script files)
              job.out NoMemory fresh_state old new (reads.judged files told)
              (ends_after _ job.out NoMemory fresh_state old mid new reads.only
              (ends_unprinted (ModelRefused r) NoMemory line line job.out mid new refl refl d.1));
          in_fault = λ is. cc;
          no_memory = λ is files told. inl refl;
          cause = kept old mid new reads.cause (record { input = ap (λ (t : Told). t.in_faults) d.1.1; output = d.2 });
          due = λ files told. due_early_model (model_of job.scale job.model files) (script_named job.script files)
              models scripts outs old new (asks_all models old new (ap (λ (t : Told). t.started) d.1.1 ∙ reads.asked));
          by_status = asks_refused models (scripts ++ outs) old mid new reads.asked
              (ap (λ (t : Told). t.started) d.1.1);
          read = λ files told. tt;
          finished = λ is. absurd (true≢false (sym is));
          sound = sound_fresh;
        })
      ]
    ]

-- a script was refused
pub refused_script : (scale : ℕ) (c : Complex) (r : ScriptRefusal) (script out : List ℕ) (status : Status)
    (old mid new : Told)
    → ReadsInput {T = Script} {R = ScriptRefusal} (Err (stop.Refused r)) (script_named script) script_most
    (script_starts script) old mid
    → PrintsRefusal (ScriptRefused r) (script_line r) status mid new
    → RunsAs (modelled scale c script out) status fresh_state old new
refused_script scale c r script out status old mid new reads prints =
    let scripts = script_starts script in
    let outs = out_starts out in
    let line = script_line r in
    elim prints [
      | inl a ↦ rw a.0 (record {
        ends = λ files told. ends_script_refused scale c r (script_named script files) out (ScriptRefused r)
            fresh_state old new (reads.judged files told)
            (ends_after _ out (ScriptRefused r) fresh_state old mid new reads.only
            (ends_printed (ScriptRefused r) line out mid new a.1 (all_is_part line mid new a.1)));
        in_fault = λ is. cc;
        no_memory = λ is. cc;
        cause = kept old mid new reads.cause (record {
          input = ap (λ (t : Told). t.in_faults) a.1;
          output =
              ap (λ (t : Told). t.out_faults) a.1;
        });
        due = λ files told. due_early_script (script_named script files) scripts outs old new
            (asks_all scripts old new (ap (λ (t : Told). t.started) a.1 ∙ reads.asked));
        by_status = prints_refused line scripts old mid new reads.only reads.asked
            (prints_line line line mid new refl a.1);
        read = λ files told. ap (λ (t : Told). t.rest) a.1 ∙ reads.left files told;
        finished = λ is. absurd (true≢false (sym is));
        sound = sound_fresh;
      })
      | inr f ↦ elim f [
        | inl b ↦ rw b.0 (record {
          ends = λ files told. ends_script_refused scale c r (script_named script files) out OutFault fresh_state old
              new
              (reads.judged files told)
              (ends_after _ out OutFault fresh_state old mid new reads.only
              (ends_unprinted (ScriptRefused r) OutFault line line out mid new refl refl b.1));
          in_fault = λ is. cc;
          no_memory = λ is. cc;
          cause = (
            rose_after old.out_faults mid.out_faults new.out_faults reads.cause.output b.2,
            ap (λ (t : Told). t.in_faults) b.1.1 ∙ reads.cause.input,
          );
          due = λ files told. due_early_script (script_named script files) scripts outs old new
              (asks_all scripts old new (ap (λ (t : Told). t.started) b.1.1 ∙ reads.asked));
          by_status = asks_refused scripts outs old mid new reads.asked (ap (λ (t : Told). t.started) b.1.1);
          read = λ files told. tt;
          finished = λ is. absurd (true≢false (sym is));
          sound = sound_fresh;
        })
        | inr d ↦ rw d.0 (record {
          ends = λ files told. ends_script_refused scale c r (script_named script files) out NoMemory fresh_state old
              new
              (reads.judged files told)
              (ends_after _ out NoMemory fresh_state old mid new reads.only
              (ends_unprinted (ScriptRefused r) NoMemory line line out mid new refl refl d.1));
          in_fault = λ is. cc;
          no_memory = λ is files told. inl refl;
          cause = kept old mid new reads.cause (record { input = ap (λ (t : Told). t.in_faults) d.1.1; output = d.2 });
          due = λ files told. due_early_script (script_named script files) scripts outs old new
              (asks_all scripts old new (ap (λ (t : Told). t.started) d.1.1 ∙ reads.asked));
          by_status = asks_refused scripts outs old mid new reads.asked (ap (λ (t : Told). t.started) d.1.1);
          read = λ files told. tt;
          finished = λ is. absurd (true≢false (sym is));
          sound = sound_fresh;
        })
      ]
    ]

-- reading alone ends a run before anything is made or printed
ends_early : (o : Outcome) (out : List ℕ) (status : Status) (old new : Told) → is_answer status ≡ false
    → (status ≡ OutFault → ⊥) → OnlyReads old new → Ends o out status fresh_state old new
ends_early o out status old new fault other only = record {
  answer = λ is. absurd (true≢false (sym is ∙ fault));
  session = λ is. absurd (true≢false (sym is ∙ fault));
  all = λ is. absurd (true≢false (sym is ∙ fault));
  part = inl (record { made = inl (ap (λ (t : Told). t.made) only); printed = ap (λ (t : Told). t.printed) only });
  out_fault = λ is. absurd (other is);
}

-- a model could not be read
pub failed_model : (job : Job) (old new : Told)
    → ReadsInput {T = Complex} {R = ObjRefusal} (Err stop.Failed) (model_of job.scale job.model) model_most
    (model_starts job.model) old new → RunsAs (named job) InFault fresh_state old new
failed_model job old new reads = record {
  ends = λ files told. ends_early _ job.out InFault old new refl (λ is. cc) reads.only;
  in_fault = λ is. record {
    made = ap (λ (t : Told). t.made) reads.only;
    printed =
        ap (λ (t : Told). t.printed) reads.only;
    session = refl;
  };
  no_memory = λ is. cc;
  cause = reads.cause;
  due = λ files told. due_early_model (model_of job.scale job.model files) (script_named job.script files)
      (model_starts job.model) (script_starts job.script) (out_starts job.out) old new reads.asked;
  by_status = asks_first (model_starts job.model) (script_starts job.script) old new reads.asked;
  read = λ files told. tt;
  finished = λ is. absurd (true≢false (sym is));
  sound = sound_fresh;
}

-- there was no memory to read a model
pub unread_model : (job : Job) (old new : Told)
    → ReadsInput {T = Complex} {R = ObjRefusal} (Err stop.NoMemory) (model_of job.scale job.model) model_most
    (model_starts job.model) old new → RunsAs (named job) NoMemory fresh_state old new
unread_model job old new reads = record {
  ends = λ files told. ends_early _ job.out NoMemory old new refl (λ is. cc) reads.only;
  in_fault = λ is. cc;
  no_memory = λ is files told. inl refl;
  cause = reads.cause;
  due = λ files told. due_early_model (model_of job.scale job.model files) (script_named job.script files)
      (model_starts job.model) (script_starts job.script) (out_starts job.out) old new reads.asked;
  by_status = asks_first (model_starts job.model) (script_starts job.script ++ out_starts job.out) old new reads.asked;
  read = λ files told. tt;
  finished = λ is. absurd (true≢false (sym is));
  sound = sound_fresh;
}

-- a script could not be read
pub failed_script : (scale : ℕ) (c : Complex) (script out : List ℕ) (old new : Told)
    → ReadsInput {T = Script} {R = ScriptRefusal} (Err stop.Failed) (script_named script) script_most
    (script_starts script) old new → RunsAs (modelled scale c script out) InFault fresh_state old new
failed_script scale c script out old new reads = record {
  ends = λ files told. ends_early _ out InFault old new refl (λ is. cc) reads.only;
  in_fault = λ is. record {
    made = ap (λ (t : Told). t.made) reads.only;
    printed =
        ap (λ (t : Told). t.printed) reads.only;
    session = refl;
  };
  no_memory = λ is. cc;
  cause = reads.cause;
  due = λ files told. due_early_script (script_named script files) (script_starts script) (out_starts out)
      old new reads.asked;
  by_status = reads.asked;
  read = λ files told. tt;
  finished = λ is. absurd (true≢false (sym is));
  sound = sound_fresh;
}

-- there was no memory to read a script
pub unread_script : (scale : ℕ) (c : Complex) (script out : List ℕ) (old new : Told)
    → ReadsInput {T = Script} {R = ScriptRefusal} (Err stop.NoMemory) (script_named script) script_most
    (script_starts script) old new → RunsAs (modelled scale c script out) NoMemory fresh_state old new
unread_script scale c script out old new reads = record {
  ends = λ files told. ends_early _ out NoMemory old new refl (λ is. cc) reads.only;
  in_fault = λ is. cc;
  no_memory = λ is files told. inl refl;
  cause = reads.cause;
  due = λ files told. due_early_script (script_named script files) (script_starts script) (out_starts out)
      old new reads.asked;
  by_status = asks_first (script_starts script) (out_starts out) old new reads.asked;
  read = λ files told. tt;
  finished = λ is. absurd (true≢false (sym is));
  sound = sound_fresh;
}

-- a refusal's line says why the words were refused
pub usage_refused : (job : Job) (r : ObjRefusal) (line : List ℕ) (status : Status) (old new : Told)
    → PrintsRefusal (ModelRefused r) line status old new → (is_grid job.model ≡ true → r ≡ grid_refusal)
    → RefusesWords (Some job) status
usage_refused job r line status old new prints same = elim prints [
  | inl a ↦ rw a.0 (λ is. cc, λ grid. inl (ap ModelRefused (same grid)))
  | inr f ↦ elim f [
    | inl b ↦ rw b.0 (λ is. cc, λ grid. inr (inl refl))
    | inr d ↦ rw d.0 (λ is. cc, λ grid. inr (inr refl))
  ]
]

after_nothing : (told : Option (List ℕ)) → told ≡ with_after told []
after_nothing None = refl
after_nothing (Some had) = ap Some (sym (append-nil had))

-- nothing of a line was printed
pub nothing_printed : (line : List ℕ) (old : Told) → PrintsPart old old line
nothing_printed line old = (0, ap (λ (p : Option (List ℕ)). record old { printed = p }) (after_nothing old.printed))

-- the words were accepted
pub is_run_job : (words : List (List ℕ)) (job : Job) (status : Status) (final : State) (old new : Told)
    → job_of words ≡ Some job → RunsAs (named job) status final old new → RefusesWords (Some job) status
    → IsRun words status final old new
is_run_job words job status final old new is h usage = record {
  ends = λ files told. ends_job words job files status final old new is (h.ends files told);
  in_fault = h.in_fault;
  no_memory = λ out files told. rw is (h.no_memory out files told);
  usage = rw is usage;
  plain = λ other spelled. never_usage words other status spelled (rw is usage);
  cause = h.cause;
  asked = asks_job (job_of words) job status final old new is h.by_status;
  due = λ files told. rw is (h.due files told);
  by_status = rw is h.by_status;
  read = λ files told. rw is (h.read files told);
  finished = h.finished;
  complete = λ files told. completes _ _ _ _ _ _ h.cause
      (ends_job words job files status final old new is (h.ends files told));
  sound = h.sound;
}

-- the words were not accepted
pub is_run_usage : (words : List (List ℕ)) (status : Status) (old new : Told) → job_of words ≡ None
    → PrintsRefusal Usage usage_line status old new → IsRun words status fresh_state old new
is_run_usage words status old new is prints = elim prints [
  | inl a ↦
      let ends : (out : List ℕ) → Ends (refusal_outcome Usage usage_line) out Usage fresh_state old new =
      λ out. ends_printed Usage usage_line out old new a.1 (all_is_part usage_line old new a.1) in
      let cause : Caused Usage old new =
      record { input = ap (λ (t : Told). t.in_faults) a.1; output = ap (λ (t : Told). t.out_faults) a.1 } in
      let by : EndsBy [] [] [] Usage fresh_state old new = prints_line usage_line usage_line old new refl a.1 in
      rw a.0 (record {
        ends = λ files told. ends_words words files Usage fresh_state old new is (ends []);
        in_fault = λ no. cc;
        no_memory = λ no. cc;
        usage = rw is (inl refl);
        plain = λ job spelled. never_usage words job Usage spelled (rw is (inl refl));
        cause = cause;
        asked = asks_no_job (job_of words) Usage fresh_state old new is by;
        due = λ files told. rw is (0, by.started);
        by_status = rw is by;
        read = λ files told. rw is (ap (λ (t : Told). t.rest) a.1);
        finished = λ no. absurd (true≢false (sym no));
        complete = λ files told. completes _ _ _ _ _ _ cause
            (ends_words words files Usage fresh_state old new is (ends []));
        sound = sound_fresh;
      })
  | inr f ↦ elim f [
    | inl b ↦
        let ends : (out : List ℕ) → Ends (refusal_outcome Usage usage_line) out OutFault fresh_state old new =
        λ out. ends_unprinted Usage OutFault usage_line usage_line out old new refl refl b.1 in
        let cause : Caused OutFault old new = (b.2, ap (λ (t : Told). t.in_faults) b.1.1) in
        let by : EndsBy [] [] [] OutFault fresh_state old new = asks_all [] old new (ap (λ (t : Told). t.started) b.1.1
        ∙ sym (append-nil old.started)) in
        rw b.0 (record {
          ends = λ files told. ends_words words files OutFault fresh_state old new is (ends []);
          in_fault = λ no. cc;
          no_memory = λ no. cc;
          usage = rw is (inr (inl refl));
          plain = λ job spelled. never_usage words job OutFault spelled (rw is (inr (inl refl)));
          cause = cause;
          asked = asks_no_job (job_of words) OutFault fresh_state old new is by;
          due = λ files told. rw is by;
          by_status = rw is by;
          read = λ files told. rw is (ap (λ (t : Told). t.rest) b.1.1);
          finished = λ no. absurd (true≢false (sym no));
          complete = λ files told. completes _ _ _ _ _ _ cause
              (ends_words words files OutFault fresh_state old new is (ends []));
          sound = sound_fresh;
        })
    | inr d ↦
        let ends : (out : List ℕ) → Ends (refusal_outcome Usage usage_line) out NoMemory fresh_state old new =
        λ out. ends_unprinted Usage NoMemory usage_line usage_line out old new refl refl d.1 in
        let cause : Caused NoMemory old new = record { input = ap (λ (t : Told). t.in_faults) d.1.1; output = d.2 } in
        let by : EndsBy [] [] [] NoMemory fresh_state old new = asks_all [] old new (ap (λ (t : Told). t.started) d.1.1
        ∙ sym (append-nil old.started)) in
        rw d.0 (record {
          ends = λ files told. ends_words words files NoMemory fresh_state old new is (ends []);
          in_fault = λ no. cc;
          no_memory = λ no files told. rw is refl;
          usage = rw is (inr (inr refl));
          plain = λ job spelled. never_usage words job NoMemory spelled (rw is (inr (inr refl)));
          cause = cause;
          asked = asks_no_job (job_of words) NoMemory fresh_state old new is by;
          due = λ files told. rw is by;
          by_status = rw is by;
          read = λ files told. rw is (ap (λ (t : Told). t.rest) d.1.1);
          finished = λ no. absurd (true≢false (sym no));
          complete = λ files told. completes _ _ _ _ _ _ cause
              (ends_words words files NoMemory fresh_state old new is (ends []));
          sound = sound_fresh;
        })
  ]
]

-- memory ran out before the words were read
pub is_run_unread : (words : List (List ℕ)) (old : Told) → IsRun words NoMemory fresh_state old old
is_run_unread words old = go (job_of words) refl
  where
    go : (read : Option Job) → job_of words ≡ read → IsRun words NoMemory fresh_state old old
    go None is = is_run_usage words NoMemory old old is (inr (inr (refl, nothing_printed usage_line old, refl)))
    go (Some job) is =
        is_run_job words job NoMemory fresh_state old old is
        (unread_model job old old (record {
          judged = λ files told. tt;
          only = refl;
          asked = (0, sym (append-nil old.started));
          left = λ files told. tt;
          cause = record { input = refl; output = refl };
        }))
        ((λ no. cc), (λ grid. inr (inr refl)))
