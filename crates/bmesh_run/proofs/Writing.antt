-- Lemmas on a file that is begun and written, and on a text that is printed.
use Rattle.std.proofs.Common.{◌≡◌, ℕ, ◌+◌, ◌-◌, ◌≤◌, List, [], length, take, drop, refl, sym, ap, ◌∙◌, inr, Option}
use Rattle.std.proofs.Common.{Some, None, Result, Ok, Err}
use Rattle.std.proofs.Math.Seq.{take-length}
use Rattle.std.specs.Option.{option_map, option_and_then}
use Rattle.byte_sink.specs.Wrote.{with_after}
use Rattle.byte_sink.proofs.WroteLemmas.{with_after_more}
use Rattle.worlds.specs.Files.{Files, entry_of, put}
use Rattle.worlds.specs.Calls.{Finishes}
use Rattle.worlds.specs.Told.{Told, with_start, put_begun, wrote_of, rest_of}
use Rattle.bmesh_run.specs.Whole.{GainsStart, MakesPart}
use Rattle.worlds.specs.declared.world_fault.WorldFault.{WorldFault}
use Rattle.worlds.specs.declared.world_fault.WorldFault.TheVariants.{Failed, NoMemory}
use Rattle.worlds.specs.declared.start.Purpose.{Purpose}
use Rattle.worlds.specs.declared.start.Purpose.TheVariants.{Writing}
use Rattle.worlds.proofs.FileLemmas.{entry_of_put, put_put, put_same}

-- a file was asked for, whatever came after
pub gains_start : {T : Type 0} (r : Result T WorldFault) (old new : Told) (name : List ℕ) (purpose : Purpose)
    → new.started ≡ (with_start old name purpose).started → GainsStart r old new name purpose
gains_start (Ok _) old new name purpose h = h
gains_start (Err Failed) old new name purpose h = h
gains_start (Err NoMemory) old new name purpose h = (1, h)

-- all the bytes are a prefix of them
pub makes_all : (old new : Told) (name bytes : List ℕ) → new.made ≡ option_map (put name bytes) old.made
    → MakesPart old new name bytes
makes_all old new name bytes h =
    inr (length bytes, h ∙ ap (λ (b : List ℕ). option_map (put name b) old.made) (sym (take-length bytes)))

-- where but one file's bytes are known, and those are known
same_file : (name piece : List ℕ) (fs gs : Files) → put name [] gs ≡ put name [] (put name [] fs)
    → entry_of name gs ≡ Some piece → gs ≡ put name piece fs
same_file name piece fs gs rest here =
    sym (put_same name piece gs here) ∙ sym (put_put name [] piece gs) ∙ ap (put name piece) rest
    ∙ put_put name [] piece (put name [] fs) ∙ put_put name [] piece fs

-- the begun file has what was written
made_written : (made made' : Option Files) (name piece : List ℕ)
    → option_map (put name []) made' ≡ option_map (put name []) (option_map (put name []) made)
    → option_and_then (entry_of name) made'
    ≡ with_after (option_and_then (entry_of name) (option_map (put name []) made)) piece
    → made' ≡ option_map (put name piece) made
made_written None None name piece rest wrote = refl
made_written None (Some gs) name piece rest wrote = cc
made_written (Some fs) None name piece rest wrote = cc
made_written (Some fs) (Some gs) name piece rest wrote =
    let here : entry_of name gs ≡ Some piece = wrote
    ∙ ap (λ (o : Option (List ℕ)). with_after o piece) (entry_of_put name [] fs) in
    let same : put name [] gs ≡ put name [] (put name [] fs) = cc in
    ap Some (same_file name piece fs gs same here)

pub file_written : (t0 t1 t2 : Told) (name piece : List ℕ)
    → t1 ≡ record (with_start t0 name Writing) { made = option_map (put name []) t0.made; begun = Some name }
    → rest_of t2 ≡ rest_of t1 → wrote_of t2 ≡ with_after (wrote_of t1) piece
    → t2 ≡ record (with_start t0 name Writing) {
      made = option_map (put name piece) t0.made;
      begun = Some name;
      out_faults =
          t2.out_faults;
    }
file_written t0 t1 t2 name piece start rest wrote =
    let fresh : Told =
    record (with_start t0 name Writing) { made = option_map (put name []) t0.made; begun = Some name } in
    let kept : rest_of t2 ≡ rest_of fresh = rest ∙ ap rest_of start in
    let begun : t2.begun ≡ Some name = ap (λ (t : Told). t.begun) kept in
    let others : option_map (put name []) t2.made ≡ option_map (put name []) (option_map (put name []) t0.made) =
    ap (λ (b : Option (List ℕ)). put_begun b [] t2.made) (sym begun) ∙ ap (λ (t : Told). t.made) kept in
    let bytes : option_and_then (entry_of name) t2.made
    ≡ with_after (option_and_then (entry_of name) (option_map (put name []) t0.made)) piece =
    ap (option_and_then (λ n. option_and_then (entry_of n) t2.made)) (sym begun) ∙ wrote
    ∙ ap (λ (t : Told). with_after (wrote_of t) piece) start in
    ap (λ (t : Told). record t { made = t2.made; out_faults = t2.out_faults }) kept
    ∙ ap (λ (m : Option Files). record fresh { made = m; out_faults = t2.out_faults })
    (made_written t0.made t2.made name piece others bytes)

-- the file of that name is the only one made, and was asked for
pub made_begun : (t0 t1 t2 : Told) (name piece : List ℕ)
    → t1 ≡ record (with_start t0 name Writing) { made = option_map (put name []) t0.made; begun = Some name }
    → rest_of t2 ≡ rest_of t1 → wrote_of t2 ≡ with_after (wrote_of t1) piece
    → t2.made ≡ option_map (put name piece) t0.made
made_begun t0 t1 t2 name piece start rest wrote =
    ap (λ (t : Told). t.made) (file_written t0 t1 t2 name piece start rest wrote)

pub started_begun : (t0 t1 t2 : Told) (name : List ℕ)
    → t1 ≡ record (with_start t0 name Writing) { made = option_map (put name []) t0.made; begun = Some name }
    → rest_of t2 ≡ rest_of t1 → t2.started ≡ (with_start t0 name Writing).started
started_begun t0 t1 t2 name start rest = ap (λ (t : Told). t.started) rest ∙ ap (λ (t : Told). t.started) start

-- bytes printed after bytes
pub printed_more : (t0 t t' : Told) (bytes : List ℕ) (i n : ℕ) → i ≤ length bytes
    → t ≡ record t0 { printed = with_after t0.printed (take i bytes) }
    → t' ≡ record t { printed = with_after t.printed (take n (take (length bytes - i) (drop i bytes))) }
    → t' ≡ record t0 { printed = with_after t0.printed (take (i + n) bytes) }
printed_more t0 t t' bytes i n h was step =
    step ∙ ap (λ (x : Told). record x {
      printed =
          with_after x.printed (take n (take (length bytes - i) (drop i bytes)));
    }) was
    ∙ ap (λ (p : Option (List ℕ)). record t0 { printed = p })
    (with_after_more t0.printed (with_after t0.printed (take i bytes)) _ i n bytes h refl refl)

-- the end of writing asks for no file
pub finished_started : (r : Result (Unit {0}) WorldFault) (old new : Told) → Finishes old new r
    → new.started ≡ old.started
finished_started (Ok _) old new h = ap (λ (t : Told). t.started) h
finished_started (Err Failed) old new h = ap (λ (t : Told). t.started) h.1
finished_started (Err NoMemory) old new h = ap (λ (t : Told). t.started) h
