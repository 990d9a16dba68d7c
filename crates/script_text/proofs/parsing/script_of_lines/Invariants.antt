use Rattle.std.proofs.Common.{◌≡◌, drop, map}
use Rattle.script_text.specs.Script.{empty, script_of_lines}
use Rattle.script_text.proofs.parsing.script_of_lines.Given as goal

-- the lines that are left, after the script so far, make what all lines make
abbrev pub invariant-loop-k : goal.invariant-loop-k
invariant-loop-k l =
    let ls = map (λ x. x.now) l.lines in
    script_of_lines l.k l.script (drop l.k ls) ≡ script_of_lines 0 empty ls
