-- Lemmas on what a world in memory keeps.
use Rattle.std.proofs.Common.{◌≡◌, ℕ, List, ap, ◌∙◌}
use Rattle.byte_sink.specs.Wrote.{with_after}
use Rattle.worlds.specs.Told.{wrote_of}
use Rattle.worlds.specs.Stored.{Stored, told_of, append_begun}
use Rattle.worlds.proofs.FileLemmas.{wrote_append}

-- what is written is at the end of the begun file, if any
pub wrote_of_written : (s s' : Stored) (in_faults out_faults : ℕ) (bytes : List ℕ)
    → s' ≡ record s { made = append_begun s.begun bytes s.made }
    → wrote_of (told_of s' in_faults out_faults) ≡ with_after (wrote_of (told_of s in_faults out_faults)) bytes
wrote_of_written s s' in_faults out_faults bytes h =
    ap (λ (x : Stored). wrote_of (told_of x in_faults out_faults)) h ∙ wrote_append s.begun bytes s.made
