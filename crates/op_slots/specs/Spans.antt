-- Spans of numbers, and the numbers in them of elements that are there.
use Rattle.std.specs.Prelude.{◌≡◌, ℕ, ◌≤◌, ◌<◌, ◌^◌, ◌&&◌, ◌||◌, Bool, false, nat_le, List, filter}
use Rattle.std.specs.List.{list_any, range_with_len}
use Rattle.mesh_model.specs.Complex.{Complex}
use Rattle.mesh_model.specs.declared.names.Kind.{Kind}
use Rattle.op_slots.specs.declared.resolving.spans.Span.{Span}
use Rattle.op_slots.specs.Values.{is_live}

-- a number is in a span, both ends included
abbrev pub is_in : ℕ → Span → Bool
is_in n s = nat_le s.first n && nat_le n s.last

-- a number is in one of some spans, and its element is there
abbrev pub is_found : Complex → Kind → List Span → ℕ → Bool
is_found c k spans n = is_live c k n && list_any (is_in n) spans

-- the numbers below a count that are found
abbrev pub found_below : Complex → Kind → List Span → ℕ → List ℕ
found_below c k spans count = filter (is_found c k spans) (range_with_len 0 count)

-- no number from a bound on, below the next one, is in one of some spans
abbrev pub ArePassed : List Span → ℕ → ℕ → Type 0
ArePassed spans bound next = (n : ℕ) → bound ≤ n → n < next → list_any (is_in n) spans ≡ false

-- the spans grew by what passes a test, among numbers of names
abbrev pub Adds : List Span → List Span → (ℕ → Bool) → Type 0
Adds old new test = (n : ℕ) → n < 2 ^ 32 → list_any (is_in n) new ≡ (list_any (is_in n) old || test n)

-- some spans hold what passes a test, among numbers of names
abbrev pub Hold : List Span → (ℕ → Bool) → Type 0
Hold spans test = (n : ℕ) → n < 2 ^ 32 → list_any (is_in n) spans ≡ test n
