-- What reading a whole file, writing one, and printing a whole text do.
use Rattle.std.specs.Prelude.{ℕ, ◌≡◌, ◌+◌, ◌<◌, ◌≤◌, ◌⊎◌, ◌↔◌, List, [], ◌∷◌, ◌++◌, length, take, drop, Result, Ok, Err}
use Rattle.std.specs.Option.{option_map}
use Rattle.std.specs.declared.option.Option.TheVariants.{Some}
use Rattle.byte_sink.specs.Wrote.{with_after}
use Rattle.byte_sink.specs.Causes.{Rose}
use Rattle.worlds.specs.Files.{Files, bytes_of, put}
use Rattle.worlds.specs.Told.{Told, with_start}
use Rattle.worlds.specs.declared.world_fault.WorldFault.{WorldFault}
use Rattle.worlds.specs.declared.world_fault.WorldFault.TheVariants.{Failed, NoMemory}
use Rattle.worlds.specs.declared.start.Start.{Start}
use Rattle.worlds.specs.declared.start.Purpose.{Purpose}

-- both counts are as before
pub record KeepsCounts (old new : Told) : Type 0 where
  pub input : new.in_faults ≡ old.in_faults
  pub output : new.out_faults ≡ old.out_faults

-- Failed comes only where the count of faults of input rose, and every other answer leaves both
abbrev pub CausesIn : {T : Type 0} → Result T WorldFault → Told → Told → Type 0
CausesIn (Ok _) old new = KeepsCounts old new
CausesIn (Err Failed) old new = Rose old.in_faults new.in_faults × (new.out_faults ≡ old.out_faults)
CausesIn (Err NoMemory) old new = KeepsCounts old new

-- Failed comes only where the count of faults of output rose, and every other answer leaves both
abbrev pub CausesOut : {T : Type 0} → Result T WorldFault → Told → Told → Type 0
CausesOut (Ok _) old new = KeepsCounts old new
CausesOut (Err Failed) old new = Rose old.out_faults new.out_faults × (new.in_faults ≡ old.in_faults)
CausesOut (Err NoMemory) old new = KeepsCounts old new

-- of these files the first so many were asked for, in order
abbrev pub AsksFor : List Start → Told → Told → Type 0
AsksFor starts old new = (n : ℕ) × (new.started ≡ old.started ++ take n starts)

-- the file was asked for, or there was no memory and the file was asked for or not
abbrev pub GainsStart : {T : Type 0} → Result T WorldFault → Told → Told → List ℕ → Purpose → Type 0
GainsStart (Ok _) old new name purpose = new.started ≡ (with_start old name purpose).started
GainsStart (Err Failed) old new name purpose = new.started ≡ (with_start old name purpose).started
GainsStart (Err NoMemory) old new name purpose = AsksFor (record { name = name; purpose = purpose } ∷ []) old new

-- the bytes are a file's first, one past a limit at most; so up to the limit they are all of them
pub record IsUpTo (limit : ℕ) (bytes file : List ℕ) : Type 0 where
  pub first : bytes ≡ take (limit + 1) file
  pub short : length bytes ≤ limit → bytes ≡ file
  pub long : (limit < length bytes) ↔ (limit < length file)

-- the bytes are one past a limit at most, and where files are told, those of the named one
abbrev pub IsWhole : Told → List ℕ → ℕ → List ℕ → Type 0
IsWhole t name limit bytes = (length bytes ≤ limit + 1) × ((files : Files) → t.files ≡ Some files
    → IsUpTo limit bytes (bytes_of name files))

-- where files are told, all but the first so many bytes of the named one are left to read
abbrev pub IsLeft : Told → Told → List ℕ → ℕ → Type 0
IsLeft old new name taken = (files : Files) → old.files ≡ Some files
    → new.rest ≡ Some (drop taken (bytes_of name files))

-- a read changes only what is left to read, what was asked for and the count of faults of input
abbrev pub OnlyReads : Told → Told → Type 0
OnlyReads old new = new ≡ record old { rest = new.rest; started = new.started; in_faults = new.in_faults }

-- a write changes only what was made, is begun and was asked for, and the count of faults of output
abbrev pub OnlyWrites : Told → Told → Type 0
OnlyWrites old new = new ≡ record old {
  made = new.made;
  begun = new.begun;
  started = new.started;
  out_faults =
      new.out_faults;
}

-- what was made is as before, or has the name with a prefix of the bytes
abbrev pub MakesPart : Told → Told → List ℕ → List ℕ → Type 0
MakesPart old new name bytes =
    (new.made ≡ old.made) ⊎ ((n : ℕ) × (new.made ≡ option_map (put name (take n bytes)) old.made))

-- a prefix of the bytes is printed, and only the count of faults of output may change besides
abbrev pub PrintsPart : Told → Told → List ℕ → Type 0
PrintsPart old new bytes =
    (n : ℕ) × (new ≡ record old { printed = with_after old.printed (take n bytes); out_faults = new.out_faults })

-- a print changes only what was printed and the count of faults of output
abbrev pub OnlyPrints : Told → Told → Type 0
OnlyPrints old new = new ≡ record old { printed = new.printed; out_faults = new.out_faults }
