-- One bit for each place, in words of 64.
use Rattle.std.specs.Prelude.{◌≡◌, ◌≢◌, ◌≤◌, ◌<◌, ◌/◌, ◌%◌, ℕ, List, get_or}
use Rattle.std.specs.Int.{bit_at}

-- the bit of place k, which is 0 past the last word
abbrev pub tag_at : List ℕ → ℕ → ℕ
tag_at ws k = bit_at (get_or ws (k / 64) 0) (k % 64)

-- each bit is as it was
abbrev pub SameTags : List ℕ → List ℕ → Type 0
SameTags old new = (k : ℕ) → tag_at new k ≡ tag_at old k

-- the bit of the place is b now, and all others are as they were
pub record ChangesTag (old new : List ℕ) (at b : ℕ) : Type 0 where
  pub here : tag_at new at ≡ b
  pub others : (k : ℕ) → k ≢ at → tag_at new k ≡ tag_at old k

-- no bit from low on is 1
abbrev pub NoTagFrom : List ℕ → ℕ → Type 0
NoTagFrom ws low = (k : ℕ) → low ≤ k → tag_at ws k ≡ 0

-- the first bit from low on that is 1
pub record IsFirstTag (ws : List ℕ) (low at : ℕ) : Type 0 where
  pub from : low ≤ at
  pub set : tag_at ws at ≡ 1
  pub none : (k : ℕ) → low ≤ k → k < at → tag_at ws k ≡ 0
