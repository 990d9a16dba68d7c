use Rattle.std.proofs.Common.{◌≡◌, take}
use Rattle.std.specs.List.{flat_map, zip}
use Rattle.std.specs.String.{string_bytes}
use Rattle.bmesh_run.specs.Report.{reply_line}
use Rattle.bmesh_run.proofs.write.report.reply_lines.Given as goal

-- the lines of the commands so far
abbrev pub invariant-loop-i : goal.invariant-loop-i
invariant-loop-i l = string_bytes l.text ≡ flat_map (λ p. reply_line p.0.line p.1) (take l.i (zip l.commands l.replies))
