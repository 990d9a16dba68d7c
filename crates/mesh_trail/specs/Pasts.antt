-- What is seen of a past.
use Rattle.std.specs.Prelude.{ℕ, ℤ, ◌≤◌, Bool, is_some, List, refl}
use Rattle.std.specs.Coded.{Coded, code_by, coded×, coded_ℕ, coded_ℤ, coded_list}
use Rattle.std.specs.FinMap.{get, empty, len}
use Rattle.mesh_model.specs.Complex.{Complex, width}
use Rattle.mesh_model.specs.ChangeSet.{ChangeSet, NextNames, next_of}
use Rattle.mesh_model.specs.ChangeSetNotes.{Notes}
use Rattle.mesh_model.specs.declared.names.Elem.{Elem}
use Rattle.mesh_model.specs.declared.names.Elem.TheVariants.{Vert, Edge, Face}
use Rattle.mesh_model.specs.declared.names.Kind.{Kind}
use Rattle.mesh_model.specs.declared.names.Kind.TheVariants.{Verts, Edges, Corners, Faces}
use Rattle.mesh_model.specs.declared.records.Point.{Point}
use Rattle.mesh_model.specs.declared.records.VertRec.{VertRec}
use Rattle.mesh_model.specs.declared.records.EdgeRec.{EdgeRec}
use Rattle.mesh_model.specs.declared.records.FaceRec.{FaceRec}
use Rattle.mesh_trail.specs.Noted.{notes_code, is_absent}
use Rattle.mesh_trail.specs.Kept.{face_code}

-- a number for each kind
pub record ByKind : Type 0 where
  pub verts : ℕ
  pub edges : ℕ
  pub corners : ℕ
  pub faces : ℕ

-- what a past notes, how wide the rows of values are, and how many more of each kind are noted without memory
pub record NotedPast : Type 0 where
  pub changes : ChangeSet
  pub widths : ByKind
  pub room : ByKind

-- the widths of a complex's rows of values
abbrev pub widths_of : Complex → ByKind
widths_of c = record { verts = width c Verts; edges = width c Edges; corners = width c Corners; faces = width c Faces }

-- nothing is noted yet
abbrev pub no_changes : Complex → ChangeSet
no_changes c = record { verts = empty; edges = empty; faces = empty; next = next_of c }

-- no more of any kind
abbrev pub no_room : ByKind
no_room = record { verts = 0; edges = 0; corners = 0; faces = 0 }

-- no number is more than another one of its kind
pub record IsAtMost (few many : ByKind) : Type 0 where
  pub verts : few.verts ≤ many.verts
  pub edges : few.edges ≤ many.edges
  pub corners : few.corners ≤ many.corners
  pub faces : few.faces ≤ many.faces

-- the number of a kind
abbrev pub number_of : ByKind → Kind → ℕ
number_of n Verts = n.verts
number_of n Edges = n.edges
number_of n Corners = n.corners
number_of n Faces = n.faces

-- how many notes of a kind there are
abbrev pub count_of : ChangeSet → Kind → ℕ
count_of p Verts = len p.verts
count_of p Edges = len p.edges
count_of p Corners = 0
count_of p Faces = len p.faces

-- whether an element has a note
abbrev pub is_noted : ChangeSet → Elem → Bool
is_noted p (Vert v) = is_some (get p.verts v.0)
is_noted p (Edge e) = is_some (get p.edges e.0)
is_noted p (Face f) = is_some (get p.faces f.0)

-- whether an element's note is that it wasn't there
abbrev pub was_absent : ChangeSet → Elem → Bool
was_absent p (Vert v) = is_absent (get p.verts v.0)
was_absent p (Edge e) = is_absent (get p.edges e.0)
was_absent p (Face f) = is_absent (get p.faces f.0)

-- ---- CODES

abbrev pub point_code : Coded Point
point_code = code_by (ℤ × (ℤ × ℤ)) (coded× coded_ℤ (coded× coded_ℤ coded_ℤ)) (λ p. (p.x, (p.y, p.z)))
    (λ t. record { x = t.0; y = t.1.0; z = t.1.1 }) (λ _. refl)

abbrev pub vert_code : Coded VertRec
vert_code = code_by (Point × List ℤ) (coded× point_code (coded_list coded_ℤ)) (λ r. (r.point, r.vals))
    (λ t. record { point = t.0; vals = t.1 }) (λ _. refl)

abbrev pub edge_code : Coded EdgeRec
edge_code = code_by (ℕ × (ℕ × List ℤ)) (coded× coded_ℕ (coded× coded_ℕ (coded_list coded_ℤ)))
    (λ r. (r.a.0, (r.b.0, r.vals))) (λ t. record { a = record { 0 = t.0 }; b = record { 0 = t.1.0 }; vals = t.1.1 })
    (λ _. refl)

abbrev pub kinds_code : Coded ByKind
kinds_code = code_by (ℕ × (ℕ × (ℕ × ℕ))) (coded× coded_ℕ (coded× coded_ℕ (coded× coded_ℕ coded_ℕ)))
    (λ n. (n.verts, (n.edges, (n.corners, n.faces)))) (λ t.
    record { verts = t.0; edges = t.1.0; corners = t.1.1.0; faces = t.1.1.1 }) (λ _. refl)

abbrev pub next_code : Coded NextNames
next_code = code_by (ℕ × (ℕ × ℕ)) (coded× coded_ℕ (coded× coded_ℕ coded_ℕ)) (λ n. (n.verts, (n.edges, n.faces)))
    (λ t. record { verts = t.0; edges = t.1.0; faces = t.1.1 }) (λ _. refl)

abbrev pub changes_code : Coded ChangeSet
changes_code =
    code_by (Notes VertRec × (Notes EdgeRec × (Notes FaceRec × NextNames)))
    (coded× (notes_code vert_code) (coded× (notes_code edge_code) (coded× (notes_code face_code) next_code)))
    (λ c. (c.verts, (c.edges, (c.faces, c.next)))) (λ t.
    record { verts = t.0; edges = t.1.0; faces = t.1.1.0; next = t.1.1.1 }) (λ _. refl)

abbrev pub past_code : Coded NotedPast
past_code = code_by (ChangeSet × (ByKind × ByKind)) (coded× changes_code (coded× kinds_code kinds_code))
    (λ p. (p.changes, (p.widths, p.room))) (λ t. record { changes = t.0; widths = t.1.0; room = t.1.1 }) (λ _. refl)
