-- How the stages of a run make the whole.
use Rattle.std.proofs.Common.{◌≡◌, ℕ, ◌+◌, min, inl, inr, true, false, List, [], ◌++◌, length, take, refl, sym, ap, ◌∙◌}
use Rattle.std.proofs.Common.{arith, append_assoc, Some, None, Result, Ok, Err, true≢false}
use Rattle.std.proofs.Math.Seq.{take-append-add}
use Rattle.std.proofs.lemmas.List.{take-append-le, take_min}
use Rattle.std.specs.Option.{option_map}
use Rattle.op_slots.specs.declared.command.Command.{Command}
use Rattle.mesh_session.specs.State.{State, fresh_state}
use Rattle.mesh_session.specs.Steps.{steps}
use Rattle.mesh_session.specs.declared.reply.Reply.{Reply}
use Rattle.byte_sink.specs.Wrote.{with_after}
use Rattle.worlds.specs.Files.{Files, put}
use Rattle.worlds.specs.Told.{Told}
use Rattle.mesh_model.specs.Complex.{Complex}
use Rattle.obj_format.specs.declared.obj_fault.ObjRefusal.{ObjRefusal}
use Rattle.script_text.specs.declared.script.Script.{Script}
use Rattle.script_text.specs.declared.fault.ScriptRefusal.{ScriptRefusal}
use Rattle.bmesh_run.specs.Job.{Job, job_of, out_of}
use Rattle.bmesh_run.specs.Run.{Outcome, model_of, script_named, refusal_outcome, replies_outcome, commands_outcome, with_script, with_model}
use Rattle.bmesh_run.specs.Run.{outcome, loaded, model_line, script_line, usage_line}
use Rattle.bmesh_run.specs.Ends.{is_answer, made_with, begun_after, Ends}
use Rattle.bmesh_run.specs.Whole.{AsksFor, OnlyReads, PrintsPart}
use Rattle.worlds.specs.declared.start.Start.{Start}
use Rattle.bmesh_run.specs.declared.status.Status.{Status}
use Rattle.bmesh_run.specs.declared.status.Status.TheVariants.{Usage, ModelRefused, ScriptRefused}

-- reading before a stage changes nothing that an end speaks of
pub ends_after : (o : Outcome) (out : List ℕ) (status : Status) (final : State) (old mid new : Told) → OnlyReads old mid
    → Ends o out status final mid new → Ends o out status final old new
ends_after o out status final old mid new only h =
    let made : mid.made ≡ old.made = ap (λ (t : Told). t.made) only in
    let printed : mid.printed ≡ old.printed = ap (λ (t : Told). t.printed) only in
    let begun : mid.begun ≡ old.begun = ap (λ (t : Told). t.begun) only in
    record {
      answer = h.answer;
      session = h.session;
      all = λ is. let all = h.all is in record {
        made = all.made ∙ ap (made_with out o.made) made;
        begun = all.begun ∙ ap (begun_after o.made) begun;
        printed = all.printed ∙ ap (λ p. with_after p o.printed) printed;
      };
      part = elim h.part [
        | inl early ↦ inl (record {
          made = elim early.made [
            | inl same ↦ inl (same ∙ made)
            | inr some ↦ inr (
              some.0,
              some.1,
              (some.2.0, some.2.1 ∙ ap (option_map (put out (take some.2.0 some.0))) made),
            )
          ];
          printed = early.printed ∙ printed;
        })
        | inr late ↦ inr (record {
          made = late.made ∙ ap (made_with out o.made) made;
          begun = late.begun ∙ ap (begun_after o.made) begun;
          printed = (late.printed.0, late.printed.1 ∙ ap (λ p. with_after p (take late.printed.0 o.printed)) printed);
        })
      ];
      out_fault = h.out_fault;
    }

-- the files of a stage were asked for, and then some of the next one's
pub asks_after : (a b : List Start) (old mid new : Told) → mid.started ≡ old.started ++ a → AsksFor b mid new
    → AsksFor (a ++ b) old new
asks_after a b old mid new first then = (
  length a + then.0,
  then.1 ∙ ap (λ (s : List Start). s ++ take then.0 b) first
      ∙ append_assoc old.started a (take then.0 b)
      ∙ ap (λ (s : List Start). old.started ++ s) (sym (take-append-add a b then.0)),
)

take_least : (a b : List Start) (n : ℕ) → take (min n (length a)) (a ++ b) ≡ take n a
take_least a b n = take-append-le (min n (length a)) a b (omega arith) ∙ take_min n a

-- of a stage's files some were asked for
pub asks_first : (a b : List Start) (old new : Told) → AsksFor a old new → AsksFor (a ++ b) old new
asks_first a b old new h =
    (min h.0 (length a), h.1 ∙ ap (λ (s : List Start). old.started ++ s) (sym (take_least a b h.0)))

-- one line was printed in place of a report, or a part of it
pub ends_refused : (refused status : Status) (line out : List ℕ) (old new : Told)
    → (is_answer status ≡ true → status ≡ refused)
    → (is_answer status ≡ true → new ≡ record old { printed = with_after old.printed line }) → PrintsPart old new line
    → Ends (refusal_outcome refused line) out status fresh_state old new
ends_refused refused status line out old new answer all part = record {
  answer = answer;
  session = λ _. refl;
  all = λ is. record {
    made = ap (λ (t : Told). t.made) (all is);
    begun = ap (λ (t : Told). t.begun) (all is);
    printed =
        ap (λ (t : Told). t.printed) (all is);
  };
  part = inr (record {
    made = ap (λ (t : Told). t.made) part.1;
    begun = ap (λ (t : Told). t.begun) part.1;
    printed =
        (part.0, ap (λ (t : Told). t.printed) part.1);
  });
  out_fault = λ _. refl;
}

-- a fault kept the line from being printed whole
pub ends_unprinted : (refused status : Status) (line bytes out : List ℕ) (old new : Told) → is_answer status ≡ false
    → bytes ≡ line → PrintsPart old new bytes → Ends (refusal_outcome refused line) out status fresh_state old new
ends_unprinted refused status line bytes out old new fault is part =
    ends_refused refused status line out old new (λ answer. absurd (true≢false (sym answer ∙ fault)))
    (λ answer. absurd (true≢false (sym answer ∙ fault))) (rw is at part)

-- an accepted script
pub ends_script : (scale : ℕ) (c : Complex) (s : Script) (script : Result Script ScriptRefusal) (out : List ℕ)
    (status : Status)
    (final : State) (old new : Told) → script ≡ Ok s → Ends (commands_outcome scale c s) out status final old new
    → Ends (with_script scale c script) out status final old new
ends_script scale c s script out status final old new is h = rw is h

-- a script that is refused
pub ends_script_refused : (scale : ℕ) (c : Complex) (r : ScriptRefusal) (script : Result Script ScriptRefusal)
    (out : List ℕ)
    (status : Status) (final : State) (old new : Told) → script ≡ Err r
    → Ends (refusal_outcome (ScriptRefused r) (script_line r)) out status final old new
    → Ends (with_script scale c script) out status final old new
ends_script_refused scale c r script out status final old new is h = rw is h

-- an accepted model
pub ends_model : (scale : ℕ) (c : Complex) (model : Result Complex ObjRefusal) (script : Result Script ScriptRefusal)
    (out : List ℕ)
    (status : Status) (final : State) (old new : Told) → model ≡ Ok c
    → Ends (with_script scale c script) out status final old new
    → Ends (with_model scale model script) out status final old new
ends_model scale c model script out status final old new is h = rw is h

-- a model that is refused
pub ends_model_refused : (scale : ℕ) (r : ObjRefusal) (model : Result Complex ObjRefusal)
    (script : Result Script ScriptRefusal)
    (out : List ℕ) (status : Status) (final : State) (old new : Told) → model ≡ Err r
    → Ends (refusal_outcome (ModelRefused r) (model_line r)) out status final old new
    → Ends (with_model scale model script) out status final old new
ends_model_refused scale r model script out status final old new is h = rw is h

-- words that are not accepted
pub ends_words : (words : List (List ℕ)) (files : Files) (status : Status) (final : State) (old new : Told)
    → job_of words ≡ None → Ends (refusal_outcome Usage usage_line) [] status final old new
    → Ends (outcome words files) (out_of (job_of words)) status final old new
ends_words words files status final old new is h = rw is h

-- words that are accepted
pub ends_job : (words : List (List ℕ)) (job : Job) (files : Files) (status : Status) (final : State) (old new : Told)
    → job_of words ≡ Some job
    → Ends (with_model job.scale (model_of job.scale job.model files) (script_named job.script files)) job.out status
    final old new
    → Ends (outcome words files) (out_of (job_of words)) status final old new
ends_job words job files status final old new is h = rw is h

-- the commands of a script were given, and their replies concluded
pub ends_delivered : (scale : ℕ) (c : Complex) (s : Script) (start : State) (commands : List Command)
    (replies : List Reply)
    (out : List ℕ) (status : Status) (final : State) (old new : Told) → start ≡ loaded c s → commands ≡ s.commands
    → (replies, final) ≡ steps start commands
    → Ends (replies_outcome scale s.commands s.layers replies final) out status final old new
    → Ends (commands_outcome scale c s) out status final old new
ends_delivered scale c s start commands replies out status final old new is_loaded are told h =
    let all : steps (loaded c s) s.commands ≡ (replies, final) = sym (rw (is_loaded, are) at told) in
    rw all h
