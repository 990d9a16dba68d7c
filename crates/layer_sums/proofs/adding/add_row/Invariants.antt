use Rattle.std.proofs.Common.{◌≡◌, ◌≤◌, ℕ, pos, ◌+ℤ◌, get_or, map, take}
use Rattle.std.specs.List.{zip}
use Rattle.layer_sums.proofs.adding.add_row.Given as goal

-- the numbers so far are added, and the others are as before
abbrev pub invariant-loop-k : goal.invariant-loop-k
invariant-loop-k l = record {
  added : take l.k l.sums ≡ map (λ p. p.0 +ℤ p.1) (take l.k (zip l.fn.sums l.row));
  rest : (j : ℕ) → l.k ≤ j → get_or l.sums j (pos 0) ≡ get_or l.fn.sums j (pos 0);
}
