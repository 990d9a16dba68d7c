-- Laws of scripts.
use Rattle.std.specs.Prelude.{◌≡◌, ℕ, Bool, true, List, Result, Ok, Err}
use Rattle.script_text.specs.declared.script.Script.{Script}
use Rattle.script_text.specs.Built.{are_built}
use Rattle.script_text.specs.Script.{script_of}

-- what a result has passes a test, if it has anything
abbrev pub passes : {A E : Type 0} → (A → Bool) → Result A E → Bool
passes test (Ok a) = test a
passes test (Err e) = true

-- a session can do each command of a script so far
abbrev pub OnlyWhatIsBuilt : Type 0
OnlyWhatIsBuilt = (text : List ℕ) → passes (λ (s : Script). are_built s.commands) (script_of text) ≡ true
