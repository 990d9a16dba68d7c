-- The words of the runs that are worked out.
use Rattle.std.proofs.Common.{◌≡◌, ◌≤◌, ◌+◌, ℕ, ap, refl, inl, inr, arith, codes, true, List, [], ◌∷◌, Some, None}
use Rattle.worlds.specs.Files.{Files}
use Rattle.command_line.specs.Plain.{is_plain}
use Rattle.command_line.proofs.PlainLemmas.{spelled_read}
use Rattle.bmesh_run.specs.Job.{Job, job_of}
use Rattle.bmesh_run.specs.Run.{outcome, refusal_outcome, usage_line, with_job}
use Rattle.bmesh_run.specs.Rows.{words_at, plain_words, plain_job}
use Rattle.bmesh_run.specs.declared.status.Status.TheVariants.{Usage}

-- a job of these names
abbrev pub job_at : ℕ → List ℕ → List ℕ → List ℕ → Job
job_at scale model script out = record { model = model; script = script; out = out; scale = scale }

-- three plain names at a scale
pub run_at : (n : ℕ) (model script out : List ℕ) (files : Files) → n ≤ 6 → is_plain model ≡ true
    → is_plain script ≡ true → is_plain out ≡ true
    → outcome (words_at ((48 + n) ∷ []) model script out) files ≡ with_job files (Some (job_at n model script out))
run_at n model script out files few pm ps po = ap (with_job files) (spelled_read (job_at n model script out) _ (record {
  model = pm;
  script = ps;
  out = po;
  spelled = inr (3, omega arith, few, inl refl);
}))

-- the plain words at scale 0
pub run_at_zero : (given : Files) → outcome plain_words given ≡ with_job given (Some plain_job)
run_at_zero given = run_at 0 (codes "model") (codes "script") (codes "out") given (omega arith) refl refl refl

-- and without the option
pub run_plain : (model script out : List ℕ) (files : Files) → is_plain model ≡ true → is_plain script ≡ true
    → is_plain out ≡ true
    → outcome (model ∷ script ∷ out ∷ []) files ≡ with_job files (Some (job_at 6 model script out))
run_plain model script out files pm ps po = ap (with_job files) (spelled_read (job_at 6 model script out) _ (record {
  model = pm;
  script = ps;
  out = po;
  spelled = inl (refl, refl);
}))

-- words that clap refuses
pub run_refused : (words : List (List ℕ)) (files : Files) → job_of words ≡ None
    → outcome words files ≡ refusal_outcome Usage usage_line
run_refused words files is = ap (with_job files) is
