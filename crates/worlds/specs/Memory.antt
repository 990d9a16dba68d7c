-- The worlds in memory: what they are seen as, and which of their calls fail.
use Rattle.std.specs.Prelude.{ℕ, ◌≡◌, ◌⊎◌, List, Contains, Result, Ok, Err, IsSome}
use Rattle.byte_sink.specs.declared.write_fault.WriteFault.{WriteFault}
use Rattle.worlds.specs.Faults.{fault_of, one_more}
use Rattle.worlds.specs.Files.{entry_of}
use Rattle.worlds.specs.Told.{Told}
use Rattle.worlds.specs.Stored.{Stored, told_of}
use Rattle.worlds.specs.declared.world_fault.WorldFault.{WorldFault}
use Rattle.worlds.specs.declared.world_fault.WorldFault.TheVariants.{Failed, NoMemory}

-- what is kept, how many calls were counted, the numbers of the calls that fail, and the counts of faults
pub record MemoryState : Type 0 where
  pub store : Stored
  pub calls : ℕ
  pub fails : List ℕ
  pub in_faults : ℕ
  pub out_faults : ℕ

-- what it tells
abbrev pub memory_told : MemoryState → Told
memory_told s = told_of s.store s.in_faults s.out_faults

-- what the world that never fails tells: its counts are 0
abbrev pub sure_told : Stored → Told
sure_told s = told_of s 0 0

-- the next call that is counted is to fail
abbrev pub IsToFail : MemoryState → Type 0
IsToFail s = Contains s.fails s.calls

-- there is a file to read under a name
abbrev pub HasFile : MemoryState → List ℕ → Type 0
HasFile s name = IsSome (entry_of name s.store.files)

-- a call was counted, and all but what is told is as before
pub record CountsCall (old new : MemoryState) : Type 0 where
  pub calls : new.calls ≡ one_more old.calls
  pub fails : new.fails ≡ old.fails
  pub piece : new.store.piece ≡ old.store.piece

-- a call that is answered is counted, and one that finds no memory changes nothing
abbrev pub Counts : {T : Type 0} → Result T WorldFault → MemoryState → MemoryState → Type 0
Counts (Ok _) old new = CountsCall old new
Counts (Err Failed) old new = CountsCall old new
Counts (Err NoMemory) old new = new ≡ old

-- a call fails exactly where its number is to fail
abbrev pub FailsByNumber : {T : Type 0} → Result T WorldFault → MemoryState → Type 0
FailsByNumber (Ok _) s = ¬ IsToFail s
FailsByNumber (Err Failed) s = IsToFail s
FailsByNumber (Err NoMemory) s = Unit {0}

-- a start of reading fails exactly where its number is to fail, or the name isn't there
abbrev pub FailsByName : {T : Type 0} → Result T WorldFault → MemoryState → List ℕ → Type 0
FailsByName (Ok _) s name = ¬ IsToFail s × HasFile s name
FailsByName (Err Failed) s name = IsToFail s ⊎ ¬ HasFile s name
FailsByName (Err NoMemory) s name = Unit {0}

-- a sink's answer as a world's
abbrev pub as_world : {T : Type 0} → Result T WriteFault → Result T WorldFault
as_world (Ok x) = Ok x
as_world (Err fault) = Err (fault_of fault)
