-- Lemmas on the lines that are left of a script.
use Rattle.std.proofs.Common.{◌≡◌, ℕ, ◌+◌, ◌<◌, List, [], ◌∷◌, length, drop, get_or, ap, sym, ◌∙◌, Result, Ok}
use Rattle.std.proofs.lemmas.List.{drop_more}
use Rattle.script_text.specs.declared.script.Script.{Script}
use Rattle.script_text.specs.declared.fault.ScriptWhy.{ScriptWhy}
use Rattle.script_text.specs.declared.fault.ScriptRefusal.{ScriptRefusal}
use Rattle.text_words.specs.declared.outcome.Stop.{Stop}
use Rattle.text_words.specs.declared.outcome.Stop.TheVariants.{Fault, NoMemory}
use Rattle.text_words.specs.Outcome.{StopsAs}
use Rattle.text_words.specs.Verdict.{FailsAs}
use Rattle.script_text.specs.Faults.{refusal_of}
use Rattle.script_text.specs.Lines.{line}
use Rattle.script_text.specs.Script.{at_line, script_of_lines, stopped}

-- the lines left begin with this one
lines_here : (ls : List (List ℕ)) (k : ℕ) (l : List ℕ) (s : Script) → k < length ls → get_or ls k [] ≡ l
    → script_of_lines k s (drop k ls) ≡ at_line (k + 1) (line (k + 1) l s)
    (λ t. script_of_lines (k + 1) t (drop (k + 1) ls))
lines_here ls k l s here at = ap (script_of_lines k s) (drop_more ls k [] here ∙ ap (λ x. x ∷ drop (k + 1) ls) at)

-- a line that is read
pub lines_more : (ls : List (List ℕ)) (k : ℕ) (l : List ℕ) (s t : Script) (all : Result Script ScriptRefusal)
    → k < length ls → get_or ls k [] ≡ l → line (k + 1) l s ≡ Ok t
    → script_of_lines k s (drop k ls) ≡ all → script_of_lines (k + 1) t (drop (k + 1) ls) ≡ all
lines_more ls k l s t all here at done before =
    sym (ap (λ r. at_line (k + 1) r (λ u. script_of_lines (k + 1) u (drop (k + 1) ls))) done)
    ∙ sym (lines_here ls k l s here at) ∙ before

-- a line with a fault
pub lines_stop : (e : Stop ScriptWhy) (ls : List (List ℕ)) (k : ℕ) (l : List ℕ) (s : Script)
    (all : Result Script ScriptRefusal) → k < length ls → get_or ls k [] ≡ l → StopsAs e (line (k + 1) l s)
    → script_of_lines k s (drop k ls) ≡ all → FailsAs (refusal_of (stopped (k + 1) e)) all
lines_stop NoMemory ls k l s all here at fault before = tt
lines_stop (Fault why) ls k l s all here at fault before =
    sym before ∙ lines_here ls k l s here at
    ∙ ap (λ r. at_line (k + 1) r (λ u. script_of_lines (k + 1) u (drop (k + 1) ls))) fault
