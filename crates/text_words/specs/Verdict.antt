-- What a call answers, beside the verdict of its definition: a value or a refusal.
use Rattle.std.specs.Prelude.{◌≡◌, Result, Ok, Err}
use Rattle.std.specs.declared.option.Option.{Option}
use Rattle.std.specs.declared.option.Option.TheVariants.{None, Some}

-- a fault that is a refusal is the verdict's; any other says nothing of it
abbrev pub FailsAs : {X R : Type 0} → Option R → Result X R → Type 0
FailsAs None verdict = Unit {0}
FailsAs (Some r) verdict = verdict ≡ Err r

-- a value is the verdict's, and so is a fault that is a refusal, by what refusal a fault is
abbrev pub Answers : {X R F : Type 0} → (F → Option R) → Result X F → Result X R → Type 0
Answers refusal_of (Ok x) verdict = verdict ≡ Ok x
Answers refusal_of (Err e) verdict = FailsAs (refusal_of e) verdict
