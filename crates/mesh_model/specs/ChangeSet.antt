-- Change sets: what differs between two complexes with the same layers and names, and where it leads.
use Rattle.std.specs.Prelude.{◌≡◌, ◌≤◌, ℕ, ℤ, ◌==◌, Bool, ◌&&◌, List, length}
use Rattle.std.specs.Ordering.{int_eq}
use lib.Pointwise.{pointwise}
use Rattle.mesh_model.specs.Complex.{Complex}
use Rattle.mesh_model.specs.ChangeSetNotes.{Notes, led_back, notes_between, joined_notes, opposite_notes, trimmed_notes}
use Rattle.mesh_model.specs.ChangeSetNotes.{IsWhole}
use Rattle.mesh_model.specs.declared.records.Point.{Point}
use Rattle.mesh_model.specs.declared.records.VertRec.{VertRec}
use Rattle.mesh_model.specs.declared.records.EdgeRec.{EdgeRec}
use Rattle.mesh_model.specs.declared.records.CornerRec.{CornerRec}
use Rattle.mesh_model.specs.declared.records.FaceRec.{FaceRec}

-- ---- RECORDS THAT AGREE

abbrev pub same_vals : List ℤ → List ℤ → Bool
same_vals a b = pointwise int_eq a b

abbrev pub same_point : Point → Point → Bool
same_point p q = int_eq p.x q.x && (int_eq p.y q.y && int_eq p.z q.z)

abbrev pub same_vert : VertRec → VertRec → Bool
same_vert r s = same_point r.point s.point && same_vals r.vals s.vals

abbrev pub same_edge : EdgeRec → EdgeRec → Bool
same_edge r s = (r.a.0 == s.a.0) && ((r.b.0 == s.b.0) && same_vals r.vals s.vals)

abbrev pub same_corner : CornerRec → CornerRec → Bool
same_corner r s = (r.vert.0 == s.vert.0) && ((r.edge.0 == s.edge.0) && same_vals r.vals s.vals)

abbrev pub same_face : FaceRec → FaceRec → Bool
same_face r s = pointwise same_corner r.corners s.corners && same_vals r.vals s.vals

-- ---- CHANGE SETS

-- the next names of the three kinds
pub record NextNames : Type 0 where
  pub verts : ℕ
  pub edges : ℕ
  pub faces : ℕ

abbrev pub next_of : Complex → NextNames
next_of c = record { verts = length c.verts; edges = length c.edges; faces = length c.faces }

-- the notes of each kind, and the earlier next names
pub record ChangeSet : Type 0 where
  pub verts : Notes VertRec
  pub edges : Notes EdgeRec
  pub faces : Notes FaceRec
  pub next : NextNames

-- a note for each name whose records differ or that stands in one of the two only, and the next names of the earlier
-- one
abbrev pub change_set : Complex → Complex → ChangeSet
change_set before after = record {
  verts = notes_between same_vert before.verts after.verts;
  edges = notes_between same_edge before.edges after.edges;
  faces = notes_between same_face before.faces after.faces;
  next = next_of before;
}

-- a complex with each note put back, and with the earlier next names
abbrev pub leads : ChangeSet → Complex → Complex
leads past now = record now {
  verts = led_back past.next.verts past.verts now.verts;
  edges = led_back past.next.edges past.edges now.edges;
  faces = led_back past.next.faces past.faces now.faces;
}

-- the older past, and the notes of the newer one at further names
abbrev pub join : ChangeSet → ChangeSet → ChangeSet
join older newer = record {
  verts = joined_notes older.verts newer.verts;
  edges = joined_notes older.edges newer.edges;
  faces = joined_notes older.faces newer.faces;
  next = older.next;
}

-- the same names with what stands now, and the next names of now
abbrev pub opposite : ChangeSet → Complex → ChangeSet
opposite past now = record {
  verts = opposite_notes past.verts now.verts;
  edges = opposite_notes past.edges now.edges;
  faces = opposite_notes past.faces now.faces;
  next = next_of now;
}

-- the notes that differ from what stands now
abbrev pub trim : ChangeSet → Complex → ChangeSet
trim past now = record {
  verts = trimmed_notes same_vert past.verts now.verts;
  edges = trimmed_notes same_edge past.edges now.edges;
  faces = trimmed_notes same_face past.faces now.faces;
  next = past.next;
}

-- two complexes have the same layers, materials and libraries
pub record AreAlike (b c : Complex) : Type 0 where
  pub layers : b.layers ≡ c.layers
  pub materials : b.materials ≡ c.materials
  pub libraries : b.libraries ≡ c.libraries

-- the next names of one past are at most those of another
pub record AreBelow (older newer : ChangeSet) : Type 0 where
  pub verts : older.next.verts ≤ newer.next.verts
  pub edges : older.next.edges ≤ newer.next.edges
  pub faces : older.next.faces ≤ newer.next.faces

-- what stands at or past the earlier next names is noted as not there
pub record IsWholePast (past : ChangeSet) (now : Complex) : Type 0 where
  pub verts : IsWhole past.next.verts past.verts now.verts
  pub edges : IsWhole past.next.edges past.edges now.edges
  pub faces : IsWhole past.next.faces past.faces now.faces
