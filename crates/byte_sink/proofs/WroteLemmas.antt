-- Lemmas on the bytes that a sink took.
use Rattle.std.proofs.Common.{◌≡◌, ℕ, ◌+◌, ◌-◌, ◌≤◌, length, List, ◌++◌, take, drop, refl, sym, ap, ◌∙◌, append_assoc, Option, Some, None}
use Rattle.std.proofs.lemmas.List.{take_rest}
use Rattle.std.proofs.Math.Seq.{take-add}
use Rattle.byte_sink.specs.Wrote.{with_after}

after_twice : (told : Option (List ℕ)) (a b : List ℕ) → with_after (with_after told a) b ≡ with_after told (a ++ b)
after_twice None a b = refl
after_twice (Some had) a b = ap Some (append_assoc had a b)

pub with_after_more : (told mid new : Option (List ℕ)) (i n : ℕ) (bytes : List ℕ) → i ≤ length bytes
    → mid ≡ with_after told (take i bytes) → new ≡ with_after mid (take n (take (length bytes - i) (drop i bytes)))
    → new ≡ with_after told (take (i + n) bytes)
with_after_more told mid new i n bytes h before step =
    step ∙ ap (λ (rest : List ℕ). with_after mid (take n rest)) (take_rest bytes i)
    ∙ ap (λ (m : Option (List ℕ)). with_after m (take n (drop i bytes))) before
    ∙ after_twice told (take i bytes) (take n (drop i bytes)) ∙ ap (with_after told) (sym (take-add i n bytes))
