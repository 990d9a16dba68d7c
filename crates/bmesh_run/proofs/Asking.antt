-- Which files each stage of a run asks for, and what each status says of it.
use Rattle.std.proofs.Common.{◌≡◌, ℕ, true, inl, inr, List, [], ◌++◌, length, refl, sym, ap, ◌∙◌, append_assoc, Option}
use Rattle.std.proofs.Common.{Some, None, Result, Ok, Err, true≢false}
use Rattle.std.proofs.Math.Seq.{take-length}
use Rattle.std.proofs.lemmas.List.{append-nil}
use Rattle.mesh_model.specs.Complex.{Complex}
use Rattle.mesh_session.specs.State.{State, fresh_state}
use Rattle.byte_sink.specs.Wrote.{with_after}
use Rattle.obj_format.specs.declared.obj_fault.ObjRefusal.{ObjRefusal}
use Rattle.script_text.specs.declared.script.Script.{Script}
use Rattle.script_text.specs.declared.fault.ScriptRefusal.{ScriptRefusal}
use Rattle.worlds.specs.Told.{Told}
use Rattle.bmesh_run.specs.Whole.{AsksFor, OnlyReads}
use Rattle.bmesh_run.specs.Job.{Job, starts_of, model_starts, script_starts, out_starts}
use Rattle.bmesh_run.specs.Run.{due_by_script, due_by_model}
use Rattle.bmesh_run.specs.Ends.{is_past_model, is_past_script, PrintsLine, EndsBy, EndsRunBy, IsRefusal}
use Rattle.worlds.specs.declared.start.Start.{Start}
use Rattle.bmesh_run.specs.declared.status.Status.{Status}
use Rattle.bmesh_run.specs.declared.status.Status.TheVariants.{Done, SomeRefused, Usage, ModelRefused, ScriptRefused}
use Rattle.bmesh_run.specs.declared.status.Status.TheVariants.{InFault, OutFault, NoMemory}
use Rattle.bmesh_run.proofs.Running.{asks_after, asks_first}

-- all of these files were asked for
pub asks_all : (starts : List Start) (old new : Told) → new.started ≡ old.started ++ starts → AsksFor starts old new
asks_all starts old new h = (length starts, h ∙ ap (λ (s : List Start). old.started ++ s) (sym (take-length starts)))

-- a line was printed
pub prints_line : (line bytes : List ℕ) (old new : Told) → bytes ≡ line
    → new ≡ record old { printed = with_after old.printed bytes } → PrintsLine line [] fresh_state old new
prints_line line bytes old new is h = record {
  made = ap (λ (t : Told). t.made) h;
  printed = ap (λ (t : Told). t.printed) h ∙ ap (with_after old.printed) is;
  session = refl;
  started = ap (λ (t : Told). t.started) h ∙ sym (append-nil old.started);
}

-- where the last stage prints alone, OUT was asked for before it
pub ends_by_print : (out : List Start) (status : Status) (final : State) (old new : Told) → is_past_script status ≡ true
    → new.started ≡ old.started ++ out → EndsBy [] [] out status final old new
ends_by_print out Done final old new past h = h
ends_by_print out SomeRefused final old new past h = h
ends_by_print out Usage final old new past h = absurd (true≢false (sym past))
ends_by_print out (ModelRefused r) final old new past h = absurd (true≢false (sym past))
ends_by_print out (ScriptRefused r) final old new past h = absurd (true≢false (sym past))
ends_by_print out InFault final old new past h = absurd (true≢false (sym past))
ends_by_print out OutFault final old new past h = asks_all out old new h
ends_by_print out NoMemory final old new past h = asks_all out old new h

-- two lists of files were asked for, one after the other
two_stages : (a b : List Start) (old mid new : Told) → mid.started ≡ old.started ++ a → new.started ≡ mid.started ++ b
    → new.started ≡ old.started ++ (a ++ b)
two_stages a b old mid new first then = then ∙ ap (λ (s : List Start). s ++ b) first ∙ append_assoc old.started a b

-- an accepted script was read before
pub ends_by_script : (script out : List Start) (status : Status) (final : State) (old mid new : Told)
    → is_past_script status ≡ true → mid.started ≡ old.started ++ script → EndsBy [] [] out status final mid new
    → EndsBy [] script out status final old new
ends_by_script script out Done final old mid new past first h = two_stages script out old mid new first h
ends_by_script script out SomeRefused final old mid new past first h = two_stages script out old mid new first h
ends_by_script script out Usage final old mid new past first h = absurd (true≢false (sym past))
ends_by_script script out (ModelRefused r) final old mid new past first h = absurd (true≢false (sym past))
ends_by_script script out (ScriptRefused r) final old mid new past first h = absurd (true≢false (sym past))
ends_by_script script out InFault final old mid new past first h = absurd (true≢false (sym past))
ends_by_script script out OutFault final old mid new past first h = asks_after script out old mid new first h
ends_by_script script out NoMemory final old mid new past first h = asks_after script out old mid new first h

-- a line was printed after reading
prints_after : (line : List ℕ) (a b : List Start) (final : State) (old mid new : Told) → OnlyReads old mid
    → mid.started ≡ old.started ++ a → PrintsLine line b final mid new → PrintsLine line (a ++ b) final old new
prints_after line a b final old mid new only first h = record {
  made = h.made ∙ ap (λ (t : Told). t.made) only;
  printed = h.printed ∙ ap (λ (t : Told). with_after t.printed line) only;
  session = h.session;
  started = two_stages a b old mid new first h.started;
}

-- an accepted model was read before
pub ends_by_model : (model script out : List Start) (status : Status) (final : State) (old mid new : Told)
    → is_past_model status ≡ true → OnlyReads old mid → mid.started ≡ old.started ++ model
    → EndsBy [] script out status final mid new
    → EndsBy model script out status final old new
ends_by_model model script out Done final old mid new past only first h =
    two_stages model (script ++ out) old mid new first h
ends_by_model model script out SomeRefused final old mid new past only first h =
    two_stages model (script ++ out) old mid new first h
ends_by_model model script out Usage final old mid new past only first h = absurd (true≢false (sym past))
ends_by_model model script out (ModelRefused r) final old mid new past only first h = absurd (true≢false (sym past))
ends_by_model model script out (ScriptRefused r) final old mid new past only first h =
    prints_after _ model script final old mid new only first h
ends_by_model model script out InFault final old mid new past only first h = asks_after model script old mid new first h
ends_by_model model script out OutFault final old mid new past only first h =
    asks_after model (script ++ out) old mid new first h
ends_by_model model script out NoMemory final old mid new past only first h =
    asks_after model (script ++ out) old mid new first h

-- a refusal's line, or a part of it, was printed after reading
pub asks_refused : (a b : List Start) (old mid new : Told) → mid.started ≡ old.started ++ a → new.started ≡ mid.started
    → AsksFor (a ++ b) old new
asks_refused a b old mid new first same = asks_first a b old new (asks_all a old new (same ∙ first))

pub prints_refused : (line : List ℕ) (a : List Start) (old mid new : Told) → OnlyReads old mid
    → mid.started ≡ old.started ++ a → PrintsLine line [] fresh_state mid new → PrintsLine line a fresh_state old new
prints_refused line a old mid new only first h =
    rw (← append-nil a) (prints_after line a [] fresh_state old mid new only first h)

-- whatever the status, the first so many of all files were asked for
asks_by : (model script out : List Start) (status : Status) (final : State) (old new : Told)
    → EndsBy model script out status final old new → AsksFor (model ++ (script ++ out)) old new
asks_by model script out Done final old new h = asks_all (model ++ (script ++ out)) old new h
asks_by model script out SomeRefused final old new h = asks_all (model ++ (script ++ out)) old new h
asks_by model script out Usage final old new h = (0, h.started)
asks_by model script out (ModelRefused r) final old new h =
    asks_first model (script ++ out) old new (asks_all model old new h.started)
asks_by model script out (ScriptRefused r) final old new h =
    rw (← append_assoc model script out)
    (asks_first (model ++ script) out old new (asks_all (model ++ script) old new h.started))
asks_by model script out InFault final old new h =
    rw (← append_assoc model script out) (asks_first (model ++ script) out old new h)
asks_by model script out OutFault final old new h = h
asks_by model script out NoMemory final old new h = h

pub asks_out : (out : List Start) (status : Status) (final : State) (old new : Told)
    → EndsBy [] [] out status final old new → AsksFor out old new
asks_out out status final old new h = asks_by [] [] out status final old new h

asks_run : (job : Option Job) (status : Status) (final : State) (old new : Told) → EndsRunBy job status final old new
    → AsksFor (starts_of job) old new
asks_run None status final old new h = asks_by [] [] [] status final old new h
asks_run (Some job) status final old new h =
    asks_by (model_starts job.model) (script_starts job.script) (out_starts job.out) status final old new h

-- the same of words that are accepted
pub asks_job : (words : Option Job) (job : Job) (status : Status) (final : State) (old new : Told) → words ≡ Some job
    → EndsBy (model_starts job.model) (script_starts job.script) (out_starts job.out) status final old new
    → AsksFor (starts_of words) old new
asks_job words job status final old new is h = rw is (asks_run (Some job) status final old new h)

-- the same of words that are not accepted
pub asks_no_job : (words : Option Job) (status : Status) (final : State) (old new : Told) → words ≡ None
    → EndsBy [] [] [] status final old new → AsksFor (starts_of words) old new
asks_no_job words status final old new is h = rw is (asks_run None status final old new h)

-- before a verdict on the script only its file is asked for
pub due_early_script : (verdict : Result Script ScriptRefusal) (script out : List Start) (old new : Told)
    → AsksFor script old new → AsksFor (due_by_script verdict script out) old new
due_early_script (Err r) script out old new h = h
due_early_script (Ok s) script out old new h = asks_first script out old new h

-- before a verdict on the model only its file is asked for
pub due_early_model : (model_verdict : Result Complex ObjRefusal) (verdict : Result Script ScriptRefusal)
    (model script out : List Start) (old new : Told) → AsksFor model old new
    → AsksFor (due_by_model model_verdict verdict model script out) old new
due_early_model (Err r) verdict model script out old new h = h
due_early_model (Ok c) verdict model script out old new h =
    asks_first model (due_by_script verdict script out) old new h

-- after an accepted script OUT is due
pub due_script : (s : Script) (verdict : Result Script ScriptRefusal) (script out : List Start) (old mid new : Told)
    → verdict ≡ Ok s → mid.started ≡ old.started ++ script → AsksFor out mid new
    → AsksFor (due_by_script verdict script out) old new
due_script s verdict script out old mid new is first h = rw is (asks_after script out old mid new first h)

-- after an accepted model the others are due
pub due_model : (c : Complex) (model_verdict : Result Complex ObjRefusal) (verdict : Result Script ScriptRefusal)
    (model script out : List Start) (old mid new : Told) → model_verdict ≡ Ok c → mid.started ≡ old.started ++ model
    → AsksFor (due_by_script verdict script out) mid new
    → AsksFor (due_by_model model_verdict verdict model script out) old new
due_model c model_verdict verdict model script out old mid new is first h =
    rw is (asks_after model (due_by_script verdict script out) old mid new first h)
