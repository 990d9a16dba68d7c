-- Lemmas on reading a file to its end.
use Rattle.std.proofs.Common.{◌≡◌, ℕ, ◌+◌, ◌<◌, ◌≤◌, List, [], ◌++◌, length, take, drop, sym, ap, ◌∙◌, arith, Some, Ok}
use Rattle.std.proofs.Common.{Err}
use Rattle.std.proofs.lemmas.List.{append-nil, length-append, take_all}
use Rattle.std.proofs.Math.Seq.{take-append_seam, drop-append_seam}
use Rattle.std.proofs.Math.ListN.{drop_of_length-le}
use Rattle.std.specs.Option.{option_map}
use Rattle.worlds.specs.Files.{Files, bytes_of}
use Rattle.worlds.specs.Told.{Told, with_start}
use Rattle.worlds.specs.Calls.{ReadsNext}
use Rattle.bmesh_run.specs.Whole.{IsUpTo, IsWhole, IsLeft}
use Rattle.worlds.specs.declared.world_fault.WorldFault.{WorldFault}
use Rattle.worlds.specs.declared.world_fault.WorldFault.TheVariants.{Failed, NoMemory}
use Rattle.worlds.specs.declared.start.Purpose.TheVariants.{Reading}

-- a file was asked for, and only what is left of it may have changed
abbrev pub IsAsked : Told → Told → List ℕ → Type 0
IsAsked old t name = t ≡ record (with_start old name Reading) { rest = t.rest }

-- all of a file is the file, and one past the limit is past it
is_up_to_all : (limit : ℕ) (out all : List ℕ) → length out ≤ limit + 1 → out ≡ all → IsUpTo limit out all
is_up_to_all limit out all few h =
    let same : length out ≡ length all = ap length h in
    record {
      first = h ∙ sym (take_all (limit + 1) all (omega (arith, same)));
      short = λ _. h;
      long = (λ more. omega (arith, same), λ more. omega (arith, same));
    }

is_up_to_past : (limit : ℕ) (out r all : List ℕ) → length out ≤ limit + 1 → limit < length out → out ++ r ≡ all
    → IsUpTo limit out all
is_up_to_past limit out r all few more h =
    let long : length out + length r ≡ length all = sym (length-append out r) ∙ ap length h in
    let one : limit + 1 ≡ length out = omega arith in
    record {
      first = sym (take-append_seam out r) ∙ ap (λ (n : ℕ). take n (out ++ r)) (sym one) ∙ ap (take (limit + 1)) h;
      short = λ few. absurd (omega arith);
      long = (λ _. omega (arith, long), λ _. more);
    }

-- what was read, and what is told to be left, are the file
abbrev pub AndLeft : Told → Told → List ℕ → List ℕ → Type 0
AndLeft old t name out = (files : Files) → old.files ≡ Some files
    → (r : List ℕ) × (t.rest ≡ Some r) × (out ++ r ≡ bytes_of name files)

-- nothing was given, though there was room: the file is read
pub is_whole_at_end : (old t t' : Told) (name out into : List ℕ) (limit n : ℕ) → length out ≤ limit + 1
    → 0 < length into → n ≡ 0 → AndLeft old t name out → ReadsNext t t' into (Ok n) → IsWhole old name limit out
is_whole_at_end old t t' name out into limit n few room zero left h = (
  few,
  λ files told.
      let was = left files told in
      let none : was.0 ≡ [] = (h.2 was.0 was.1).2 zero room in
      let all : out ≡ bytes_of name files = sym (append-nil out) ∙ ap (λ (r : List ℕ). out ++ r) (sym none) ∙ was.2 in
      is_up_to_all limit out (bytes_of name files) few all,
)

-- more than the limit was given
pub is_whole_past : (old t : Told) (name out : List ℕ) (limit : ℕ) → length out ≤ limit + 1 → limit < length out
    → AndLeft old t name out → IsWhole old name limit out
is_whole_past old t name out limit few more left = (
  few,
  λ files told.
      let was = left files told in
      is_up_to_past limit out was.0 (bytes_of name files) few more was.2,
)

-- a fault of reading leaves what was asked for
pub fault_leaves_started : (old t t' : Told) (name into : List ℕ) (fault : WorldFault) → IsAsked old t name
    → ReadsNext t t' into (Err fault) → t'.started ≡ (with_start old name Reading).started
fault_leaves_started old t t' name into Failed only h = ap (λ (x : Told). x.started) h.1
    ∙ ap (λ (x : Told). x.started) only
fault_leaves_started old t t' name into NoMemory only h = ap (λ (x : Told). x.started) h
    ∙ ap (λ (x : Told). x.started) only

pub ok_leaves_started : (old t t' : Told) (name into : List ℕ) (n : ℕ) → IsAsked old t name → ReadsNext t t' into (Ok n)
    → t'.started ≡ (with_start old name Reading).started
ok_leaves_started old t t' name into n only h = ap (λ (x : Told). x.started) h.1 ∙ ap (λ (x : Told). x.started) only

-- nothing was given, though there was room: nothing is left
pub is_left_at_end : (old t t' : Told) (name out into : List ℕ) (limit n : ℕ) → length out ≤ limit + 1 → 0 < length into
    → n ≡ 0 → AndLeft old t name out → ReadsNext t t' into (Ok n) → IsLeft old t' name (limit + 1)
is_left_at_end old t t' name out into limit n few room zero left h files told =
    let was = left files told in
    let none : was.0 ≡ [] = (h.2 was.0 was.1).2 zero room in
    let all : out ≡ bytes_of name files = sym (append-nil out) ∙ ap (λ (r : List ℕ). out ++ r) (sym none) ∙ was.2 in
    let same : length out ≡ length (bytes_of name files) = ap length all in
    let short : length (bytes_of name files) ≤ limit + 1 = omega (arith, same) in
    ap (λ (x : Told). x.rest) h.1 ∙ ap (option_map (drop n)) (was.1 ∙ ap Some none)
    ∙ ap Some (drop_of_length-le [] (omega arith) ∙ sym (drop_of_length-le (bytes_of name files) short))

-- more than the limit was given: the rest is left
pub is_left_past : (old t : Told) (name out : List ℕ) (limit : ℕ) → length out ≤ limit + 1 → limit < length out
    → AndLeft old t name out → IsLeft old t name (limit + 1)
is_left_past old t name out limit few more left files told =
    let was = left files told in
    let one : length out ≡ limit + 1 = omega arith in
    was.1 ∙ ap Some (sym (drop-append_seam out was.0) ∙ ap (λ (n : ℕ). drop n (out ++ was.0)) one
    ∙ ap (drop (limit + 1)) was.2)
