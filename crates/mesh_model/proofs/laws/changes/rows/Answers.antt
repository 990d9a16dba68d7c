-- What `get` answers of a change set is the note between two records, and that computes.
use Rattle.std.proofs.Common.{◌≡◌, ℕ, pos, Bool, refl, ◌∙◌, List, Option, Some, None}
use Rattle.std.specs.FinMap.{get}
use Rattle.mesh_model.specs.ChangeSetNotes.{Notes, note_if_changed, joined_notes, opposite_notes, trimmed_notes}
use Rattle.mesh_model.specs.ChangeSetRows.{moved, crossed, textured, vert_notes, edge_notes, face_notes}
use Rattle.mesh_model.specs.ChangeSet.{same_vert, same_edge, same_face, change_set}
use Rattle.mesh_model.specs.Complex.{Complex}
use Rattle.mesh_model.specs.Kernel.{without_face, without_edge}
use Rattle.mesh_model.specs.Models.{edge, face, point, ends, square, strip}
use Rattle.mesh_model.specs.Table.{at}
use Rattle.mesh_model.proofs.NoteMaps.{first_of_two, get-joined, with_value, get-renewed}
use Rattle.mesh_model.proofs.Leads.{get-notes_between, get-trimmed_notes, led_back-entries}
use Rattle.mesh_model.proofs.laws.changes.rows.Goals as goal

abbrev killed : Complex
killed = without_edge crossed (edge 4)

pub returns-clause-moved : goal.returns-clause-moved
returns-clause-moved c = (
  get-notes_between same_vert square.verts moved.verts 2,
  get-notes_between same_vert square.verts moved.verts 1,
  get-notes_between same_vert square.verts moved.verts 4,
  get-notes_between same_edge square.edges moved.edges 2,
  get-notes_between same_face square.faces moved.faces 0,
  refl,
)

pub returns-clause-crossed : goal.returns-clause-crossed
returns-clause-crossed c = (
  get-notes_between same_edge square.edges crossed.edges 4,
  get-notes_between same_edge square.edges crossed.edges 3,
  refl,
  get-notes_between same_edge crossed.edges square.edges 4,
  refl,
)

pub returns-clause-face : goal.returns-clause-face
returns-clause-face c = (
  get-notes_between same_face strip.faces (without_face strip (face 0)).faces 0,
  get-notes_between same_face strip.faces (without_face strip (face 0)).faces 1,
  get-notes_between same_face square.faces textured.faces 0,
)

joined_to : {R : Type 0} (older newer : Notes R) (q : ℕ) (o p : Option (Option R)) → get older q ≡ o → get newer q ≡ p
    → get (joined_notes older newer) q ≡ first_of_two o p
joined_to older newer q o p a b = get-joined older newer q ∙ rw (a, b) refl

trimmed_to : {R : Type 0} (same : R → R
    → Bool) (notes : Notes R) (now : List (Option R)) (q : ℕ) (o : Option (Option R)) → get notes q ≡ o
    → get (trimmed_notes same notes now) q ≡ note_if_changed same (at now q) o
trimmed_to same notes now q o a = get-trimmed_notes same notes now q ∙ rw a refl

opposite_to : {R : Type 0} (notes : Notes R) (now : List (Option R)) (q : ℕ) (o : Option (Option R)) → get notes q ≡ o
    → get (opposite_notes notes now) q ≡ with_value o (Some (at now q))
opposite_to notes now q o a = get-renewed (λ n. at now n) notes q ∙ rw a refl

made_and_killed : get (joined_notes (change_set square crossed).edges (change_set crossed killed).edges) 4 ≡ Some None
made_and_killed = joined_to (change_set square crossed).edges (change_set crossed killed).edges 4 (Some None)
    (Some (Some (ends 0 2)))
    (get-notes_between same_edge square.edges crossed.edges 4)
    (get-notes_between same_edge crossed.edges killed.edges 4)

pub returns-clause-joined : goal.returns-clause-joined
returns-clause-joined c = (
  made_and_killed,
  joined_to (change_set square crossed).verts (change_set crossed moved).verts 2 None
      (Some (Some (point (pos 4) (pos 4))))
      (get-notes_between same_vert square.verts crossed.verts 2)
      (get-notes_between same_vert crossed.verts moved.verts 2),
  trimmed_to same_edge (joined_notes (change_set square crossed).edges (change_set crossed killed).edges) killed.edges 4
      (Some None) made_and_killed,
  opposite_to (change_set square moved).verts moved.verts 2 (Some (Some (point (pos 4) (pos 4))))
      (get-notes_between same_vert square.verts moved.verts 2),
)

pub returns-clause-leads : goal.returns-clause-leads
returns-clause-leads c = λ i. record square {
  verts = led_back-entries 3 vert_notes square.verts i;
  edges = led_back-entries 3 edge_notes square.edges i;
  faces = led_back-entries 1 face_notes square.faces i;
}
