-- A text is its first line and the lines behind it.
use Rattle.std.proofs.Common.{◌≡◌, ◌<◌, ◌≤◌, ◌+◌, ◌==◌, ◌∙◌, ℕ, Bool, true, false, cond, List, [], ◌∷◌, length, take, drop}
use Rattle.std.proofs.Common.{length-drop, nat_lt, refl, sym, ap, ap₂, arith, Some, None, Result, Ok, Err}
use Rattle.std.specs.List.{position_or_len}
use Rattle.std.specs.Option.{option_map}
use Rattle.std.proofs.lemmas.Bool.Decides.{nat_tests}
use Rattle.std.proofs.lemmas.List.Splits.{slice_split_first, slice_split_none}
use Rattle.std.proofs.lemmas.List.Sums.{fails_before_first}
use Rattle.text_words.specs.Text.{cut, lines}
use Rattle.text_words.specs.Outcome.{◌>>=◌, StopsAs, steps}
use Rattle.text_words.proofs.OutcomeLemmas.{stops_on, stops_same}
use Rattle.text_words.specs.declared.outcome.Stop.{Stop}

-- a line feed
abbrev is_feed : ℕ → Bool
is_feed b = b == 10

-- where the first line feed stands
abbrev feed_at : List ℕ → ℕ
feed_at t = position_or_len is_feed t

pair_of : (p q : List ℕ × List ℕ) → Some p ≡ Some q → p ≡ q
pair_of p q same = cc

first_of : (q : Bool) (t a b : List ℕ) → nat_lt (feed_at t) (length t) ≡ q
    → option_map {U = List ℕ × List ℕ} (λ (k : ℕ). (take k t, drop (k + 1) t)) (cond q (Some (feed_at t)) None)
    ≡ Some (a, b)
    → (lines t ≡ a ∷ lines b) × (length b + 1 ≤ length t)
first_of false t a b is told = absurd (cc)
first_of true t a b is told =
    let here : feed_at t < length t = grind (arith, nat_tests) in
    let both = pair_of (take (feed_at t) t, drop (feed_at t + 1) t) (a, b) told in
    let front : take (feed_at t) t ≡ a = ap (λ (p : List ℕ × List ℕ). p.0) both in
    let rest : drop (feed_at t + 1) t ≡ b = ap (λ (p : List ℕ × List ℕ). p.1) both in (
      slice_split_first is_feed t 0 here ∙ ap₂ (λ (x y : List ℕ). x ∷ lines y) front rest,
      omega (arith, ap length rest, length-drop (feed_at t + 1) t),
    )

none_of : (q : Bool) (t : List ℕ) → nat_lt (feed_at t) (length t) ≡ q
    → option_map {U = List ℕ × List ℕ} (λ (k : ℕ). (take k t, drop (k + 1) t)) (cond q (Some (feed_at t)) None) ≡ None
    → lines t ≡ t ∷ []
none_of true t is told = absurd (cc)
none_of false t is told =
    let past : length t ≤ feed_at t = grind (arith, nat_tests) in
    slice_split_none is_feed t (λ i d here. fails_before_first is_feed t i d (omega arith))

-- a text that is cut at its first line feed
pub lines_cut : (t a b : List ℕ) → cut 10 t ≡ Some (a, b) → lines t ≡ a ∷ lines b
lines_cut t a b told = (first_of (nat_lt (feed_at t) (length t)) t a b refl told).0

-- what is left is shorter
pub cut_shorter : (t a b : List ℕ) → cut 10 t ≡ Some (a, b) → length b + 1 ≤ length t
cut_shorter t a b told = (first_of (nat_lt (feed_at t) (length t)) t a b refl told).1

-- a text without a line feed
pub lines_whole : (t : List ℕ) → cut 10 t ≡ None → lines t ≡ t ∷ []
lines_whole t told = none_of (nat_lt (feed_at t) (length t)) t refl told

bind_ok : {A W : Type 0} (r : Result A W) → (r >>= (λ a. Ok a)) ≡ r
bind_ok (Err w) = refl
bind_ok (Ok a) = refl

-- the first line was read
pub lines_more : {A W : Type 0} (f : List ℕ → A → Result A W) (s t : A) (text a b : List ℕ) (all : Result A W)
    → cut 10 text ≡ Some (a, b) → f a s ≡ Ok t → steps f s (lines text) ≡ all → steps f t (lines b) ≡ all
lines_more f s t text a b all told done before =
    sym (ap (λ r. r >>= (λ c. steps f c (lines b))) done) ∙ sym (ap (steps f s) (lines_cut text a b told)) ∙ before

-- the first line stops
pub lines_stop : {A W : Type 0} (e : Stop W) (f : List ℕ → A → Result A W) (s : A) (text a b : List ℕ)
    (all : Result A W)
    → cut 10 text ≡ Some (a, b) → StopsAs e (f a s) → steps f s (lines text) ≡ all → StopsAs e all
lines_stop e f s text a b all told stop before =
    stops_same e (f a s >>= (λ c. steps f c (lines b))) all (sym before ∙ ap (steps f s) (lines_cut text a b told))
    (stops_on e (f a s) (λ c. steps f c (lines b)) stop)

-- the last line
pub lines_last : {A W : Type 0} (f : List ℕ → A → Result A W) (s : A) (text : List ℕ) (all : Result A W)
    → cut 10 text ≡ None → steps f s (lines text) ≡ all → all ≡ f text s
lines_last f s text all told before = sym before ∙ ap (steps f s) (lines_whole text told) ∙ bind_ok (f text s)
