-- What each call of a world does to what is told. Each answer has one equation, which says what
-- changes, and that all else stays.
use Rattle.std.specs.Prelude.{ℕ, ◌≡◌, ◌<◌, ◌≤◌, ◌⊎◌, List, [], length, take, drop, Result, Ok, Err}
use Rattle.std.specs.Option.{option_map}
use Rattle.std.specs.declared.option.Option.TheVariants.{None, Some}
use Rattle.byte_sink.specs.Wrote.{with_after}
use Rattle.byte_sink.specs.Causes.{Rose}
use Rattle.worlds.specs.Faults.{has_failed, CountsOneIf}
use Rattle.worlds.specs.Files.{bytes_of, put}
use Rattle.worlds.specs.Told.{Told, with_start}
use Rattle.worlds.specs.declared.world_fault.WorldFault.{WorldFault}
use Rattle.worlds.specs.declared.world_fault.WorldFault.TheVariants.{Failed, NoMemory}
use Rattle.worlds.specs.declared.start.Purpose.TheVariants.{Reading, Writing}

-- only the count of faults of input rose
abbrev pub FailsIn : Told → Told → Type 0
FailsIn old new = Rose old.in_faults new.in_faults × (new ≡ record old { in_faults = new.in_faults })

-- only the count of faults of output rose
abbrev pub FailsOut : Told → Told → Type 0
FailsOut old new = Rose old.out_faults new.out_faults × (new ≡ record old { out_faults = new.out_faults })

-- an empty piece is answered by 0, and changes nothing
abbrev pub IsIdle : Told → Told → List ℕ → Result ℕ WorldFault → Type 0
IsIdle old new piece result = length piece ≡ 0 → (result ≡ Ok 0) × (new ≡ old)

-- a file is read from its beginning
abbrev pub StartsRead : Told → Told → List ℕ → Result (Unit {0}) WorldFault → Type 0
StartsRead old new name (Ok _) = new ≡
    record (with_start old name Reading) { rest = option_map (bytes_of name) old.files }
StartsRead old new name (Err Failed) = FailsIn (with_start old name Reading) new
StartsRead old new name (Err NoMemory) = new ≡ old

-- the first bytes of the piece are the next of the file, and none only at its end
abbrev pub IsNext : List ℕ → ℕ → List ℕ → Type 0
IsNext into n left = (take n into ≡ take n left) × (n ≤ length left) × (n ≡ 0 → 0 < length into → left ≡ [])

-- the next bytes of the file are read
abbrev pub ReadsNext : Told → Told → List ℕ → Result ℕ WorldFault → Type 0
ReadsNext old new into (Ok n) = (n ≤ length into)
    × (new ≡ record old { rest = option_map (drop n) old.rest })
    × ((left : List ℕ) → old.rest ≡ Some left → IsNext into n left)
ReadsNext old new into (Err Failed) = FailsIn old new
ReadsNext old new into (Err NoMemory) = new ≡ old

-- a start of writing failed: the file is as before, or there with no bytes
abbrev pub FailsStart : Told → Told → List ℕ → Type 0
FailsStart old new name = Rose old.out_faults new.out_faults
    × (new ≡ record old { made = new.made; out_faults = new.out_faults })
    × ((new.made ≡ old.made) ⊎ (new.made ≡ option_map (put name []) old.made))

-- a file is begun, and has no bytes
abbrev pub StartsWrite : Told → Told → List ℕ → Result (Unit {0}) WorldFault → Type 0
StartsWrite old new name (Ok _) = new ≡ record (with_start old name Writing)
    { made = option_map (put name []) old.made; begun = Some name }
StartsWrite old new name (Err Failed) = FailsStart (with_start old name Writing) new name
StartsWrite old new name (Err NoMemory) = new ≡ old

-- an end of writing failed: the file is still begun, or no file is
abbrev pub FailsFinish : Told → Told → Type 0
FailsFinish old new = Rose old.out_faults new.out_faults
    × (new ≡ record old { begun = new.begun; out_faults = new.out_faults })
    × ((new.begun ≡ old.begun) ⊎ (new.begun ≡ None))

-- the begun file is ended
abbrev pub Finishes : Told → Told → Result (Unit {0}) WorldFault → Type 0
Finishes old new (Ok _) = new ≡ record old { begun = None }
Finishes old new (Err Failed) = FailsFinish old new
Finishes old new (Err NoMemory) = new ≡ old

-- some of the first bytes are printed
abbrev pub Prints : Told → Told → List ℕ → Result ℕ WorldFault → Type 0
Prints old new from (Ok n) = (n ≤ length from) × (0 < length from → 0 < n)
    × (new ≡ record old { printed = with_after old.printed (take n from) })
Prints old new from (Err Failed) = FailsOut old new
Prints old new from (Err NoMemory) = new ≡ old

-- a call that fails counts one fault of input, and no other call counts any
abbrev pub CountsIn : {T : Type 0} → Result T WorldFault → Told → Told → Type 0
CountsIn result old new = CountsOneIf (has_failed result) old.in_faults new.in_faults

-- a call that fails counts one fault of output, and no other call counts any
abbrev pub CountsOut : {T : Type 0} → Result T WorldFault → Told → Told → Type 0
CountsOut result old new = CountsOneIf (has_failed result) old.out_faults new.out_faults
