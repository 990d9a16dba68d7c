-- All names of a kind are noted, with what stands there.
use Rattle.std.specs.Prelude.{◌≡◌, ◌<◌, ℕ, IsSome}
use Rattle.std.specs.declared.option.Option.{Option}
use Rattle.std.specs.declared.option.Option.TheVariants.{None, Some}
use Rattle.std.specs.FinMap.{get}
use Rattle.mesh_model.specs.Complex.{Complex}
use Rattle.mesh_model.specs.ChangeSet.{ChangeSet, leads, IsWholePast}
use Rattle.mesh_model.specs.ChangeSetNotes.{Notes, with_first_note}

-- each name below a bound has a note
abbrev pub AreNoted : {R : Type 0} → Notes R → ℕ → Type 0
AreNoted notes bound = (n : ℕ) → n < bound → IsSome (get notes n)

-- a past leads from a complex to that complex, and is whole
pub record StaysAt (past : ChangeSet) (c : Complex) : Type 0 where
  pub leads : leads past c ≡ c
  pub whole : IsWholePast past c

-- so it does with more notes of vertices, those below a bound among them
pub record NotesVerts (old new : ChangeSet) (c : Complex) (bound : ℕ) : Type 0 where
  pub stays : StaysAt new c
  pub noted : AreNoted new.verts bound
  pub rest : new ≡ record old { verts = new.verts }

-- the same of edges
pub record NotesEdges (old new : ChangeSet) (c : Complex) (bound : ℕ) : Type 0 where
  pub stays : StaysAt new c
  pub noted : AreNoted new.edges bound
  pub rest : new ≡ record old { edges = new.edges }

-- the same of faces
pub record NotesFaces (old new : ChangeSet) (c : Complex) (bound : ℕ) : Type 0 where
  pub stays : StaysAt new c
  pub noted : AreNoted new.faces bound
  pub rest : new ≡ record old { faces = new.faces }

-- a note that an element wasn't there, if it is there now
abbrev pub with_new : {R : Type 0} → Notes R → ℕ → Option R → Notes R
with_new notes n None = notes
with_new notes n (Some x) = with_first_note notes n None
