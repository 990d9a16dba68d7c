-- What holds of a past while what it leads back to stays: how it begins, a note more, and changes at noted names.
use Rattle.std.specs.Prelude.{◌≡◌, ℕ}
use Rattle.std.specs.declared.option.Option.TheVariants.{None}
use Rattle.std.specs.FinMap.{get}
use Rattle.mesh_model.specs.Table.{at}
use Rattle.mesh_model.specs.Complex.{Complex}
use Rattle.mesh_model.specs.ChangeSet.{ChangeSet, leads, AreAlike, IsWholePast}
use Rattle.mesh_model.specs.ChangeSetNotes.{with_first_note}
use Rattle.mesh_model.specs.declared.names.Elem.{Elem}
use Rattle.mesh_model.specs.declared.names.Elem.TheVariants.{Vert, Edge, Face}
use Rattle.mesh_trail.specs.Pasts.{no_changes}

-- what stands at an element's name noted, where it has no note
abbrev pub with_note : ChangeSet → Complex → Elem → ChangeSet
with_note past now (Vert v) = record past { verts = with_first_note past.verts v.0 (at now.verts v.0) }
with_note past now (Edge e) = record past { edges = with_first_note past.edges e.0 (at now.edges e.0) }
with_note past now (Face f) = record past { faces = with_first_note past.faces f.0 (at now.faces f.0) }

-- two complexes have the same at each name without a note, and the same layers, materials and libraries
pub record DifferAtNotes (past : ChangeSet) (now later : Complex) : Type 0 where
  pub verts : (name : ℕ) → get past.verts name ≡ None → at later.verts name ≡ at now.verts name
  pub edges : (name : ℕ) → get past.edges name ≡ None → at later.edges name ≡ at now.edges name
  pub faces : (name : ℕ) → get past.faces name ≡ None → at later.faces name ≡ at now.faces name
  pub alike : AreAlike later now

-- a past without notes leads to now, and is whole
abbrev pub BeginsAtNow : Type 0
BeginsAtNow = (now : Complex) → (leads (no_changes now) now ≡ now) × IsWholePast (no_changes now) now

-- the first note of an element leaves where a past leads, and a whole past whole
abbrev pub NoteLeads : Type 0
NoteLeads = (past : ChangeSet) (now : Complex) (x : Elem) → leads (with_note past now x) now ≡ leads past now

abbrev pub NoteStaysWhole : Type 0
NoteStaysWhole = (past : ChangeSet) (now : Complex) (x : Elem) → IsWholePast past now
    → IsWholePast (with_note past now x) now

-- changes at noted names leave where a past leads, and a whole past whole
abbrev pub ChangeLeads : Type 0
ChangeLeads = (past : ChangeSet) (now later : Complex) → DifferAtNotes past now later
    → leads past later ≡ leads past now

abbrev pub ChangeStaysWhole : Type 0
ChangeStaysWhole = (past : ChangeSet) (now later : Complex) → DifferAtNotes past now later → IsWholePast past now
    → IsWholePast past later
