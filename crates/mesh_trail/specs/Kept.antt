-- Records as a past keeps them: bodies at names, and rows of numbers in one list.
use Rattle.std.specs.Prelude.{◌≡◌, ℕ, Bool, ◌+◌, ◌*◌, ◌≤◌, ℤ, List, [], ◌∷◌, take, drop, refl}
use Rattle.std.specs.declared.option.Option.{Option}
use Rattle.std.specs.declared.option.Option.TheVariants.{None, Some}
use Rattle.std.specs.Coded.{Coded, code_by, coded×, coded_ℕ, coded_ℤ, coded_list}
use Rattle.std.specs.FinMap.{get}
use Rattle.mesh_model.specs.Table.{at}
use Rattle.mesh_model.specs.Complex.{Complex, width}
use Rattle.mesh_model.specs.ChangeSetNotes.{Notes, trimmed_notes}
use Rattle.mesh_model.specs.declared.names.Kind.TheVariants.{Verts, Edges, Faces}
use Rattle.mesh_model.specs.declared.names.VertName.{VertName}
use Rattle.mesh_model.specs.declared.names.EdgeName.{EdgeName}
use Rattle.mesh_model.specs.declared.records.Point.{Point}
use Rattle.mesh_model.specs.declared.records.VertRec.{VertRec}
use Rattle.mesh_model.specs.declared.records.EdgeRec.{EdgeRec}
use Rattle.mesh_model.specs.declared.records.CornerRec.{CornerRec}
use Rattle.mesh_model.specs.declared.records.FaceRec.{FaceRec}
use Rattle.mesh_trail.specs.Noted.{Noted, notes_code, map_notes}
use Rattle.mesh_trail.specs.declared.table.Kept.{Kept}
use Rattle.mesh_trail.specs.declared.edges.Ends.{Ends}
use Rattle.mesh_trail.specs.declared.faces.Span.{Span}

-- ---- ROWS OF VALUES

-- the row that stands at a place of a list of numbers
abbrev pub row_at : ℕ → List ℤ → ℕ → List ℤ
row_at width values place = take width (drop place values)

-- the values of what stands at a name, and none where nothing does
abbrev pub vert_vals : Option VertRec → List ℤ
vert_vals None = []
vert_vals (Some r) = r.vals

abbrev pub edge_vals : Option EdgeRec → List ℤ
edge_vals None = []
edge_vals (Some r) = r.vals

abbrev pub face_vals : Option FaceRec → List ℤ
face_vals None = []
face_vals (Some r) = r.vals

-- the row of an element of a complex, as wide as its layers are
abbrev pub vert_row : Complex → ℕ → List ℤ
vert_row c name = take (width c Verts) (vert_vals (at c.verts name))

abbrev pub edge_row : Complex → ℕ → List ℤ
edge_row c name = take (width c Edges) (edge_vals (at c.edges name))

abbrev pub face_row : Complex → ℕ → List ℤ
face_row c name = take (width c Faces) (face_vals (at c.faces name))

-- ---- TABLES

-- a kept record: its body, and its row
abbrev pub kept_row : {B : Type 0} → ℕ → List ℤ → Kept B → B × List ℤ
kept_row width values k = (k.body, row_at width values k.row)

-- each kept row lies within the numbers
abbrev pub AreWithin : {B : Type 0} → ℕ → ℕ → Notes (Kept B) → Type 0
AreWithin {B} width count notes = (name : ℕ) (k : Kept B) → get notes name ≡ Some (Some k) → k.row + width ≤ count

-- what is seen of a table: the notes with their rows, the width of a row, and how many more are made without memory
pub record KeptRows (B : Type 0) : Type 0 where
  pub names : Notes (B × List ℤ)
  pub width : ℕ
  pub room : ℕ

abbrev pub kept_code : {B : Type 0} → Coded B → Coded (KeptRows B)
kept_code {B} b =
    code_by (Notes (B × List ℤ) × (ℕ × ℕ)) (coded× (notes_code (coded× b (coded_list coded_ℤ)))
    (coded× coded_ℕ coded_ℕ))
    (λ t. (t.names, (t.width, t.room))) (λ p. record { names = p.0; width = p.1.0; room = p.1.1 }) (λ _. refl)

-- rows lie within the numbers, and what is told of room is there
pub record IsTable {B : Type 0} (width spare : ℕ) (map : Noted (Kept B)) (count capacity : ℕ) : Type 0 where
  pub within : AreWithin width count map.names
  pub names_room : spare ≤ map.room
  pub values_room : count + spare * width ≤ capacity

-- ---- RECORDS OF EACH KIND

abbrev pub vert_of : Point × List ℤ → VertRec
vert_of r = record { point = r.0; vals = r.1 }

-- the record that a kept body and its row give
abbrev pub vert_in : ℕ → List ℤ → Kept Point → VertRec
vert_in width values k = vert_of (kept_row width values k)

abbrev pub edge_of : Ends × List ℤ → EdgeRec
edge_of r = record { a = r.0.a; b = r.0.b; vals = r.1 }

abbrev pub edge_in : ℕ → List ℤ → Kept Ends → EdgeRec
edge_in width values k = edge_of (kept_row width values k)

abbrev pub face_of : List CornerRec → Span × List ℤ → FaceRec
face_of corners r = record { corners = take r.0.count (drop r.0.from corners); vals = r.1 }

abbrev pub face_in : List CornerRec → ℕ → List ℤ → Kept Span → FaceRec
face_in corners width values k = face_of corners (kept_row width values k)

-- a corner by its vertex and edge, and its row
abbrev pub corner_at : VertName × EdgeName → List ℤ → CornerRec
corner_at k row = record { vert = k.0; edge = k.1; vals = row }

-- corners of which the vertices and edges stand in one list and the rows of values in another
abbrev pub corner_recs : ℕ → List (VertName × EdgeName) → List ℤ → List CornerRec
corner_recs width [] values = []
corner_recs width (k ∷ ks) values = corner_at k (take width values) ∷ corner_recs width ks (drop width values)

-- ---- TRIMMING

-- notes whose records equal what stands now are taken away, where records are read in some form; no other note changes
pub record IsTrimmed {A R : Type 0} (read : A → R) (same : R → R → Bool) (now : List (Option R))
    (before after : Notes A) : Type 0 where
  pub notes : map_notes read after ≡ trimmed_notes same (map_notes read before) now
  pub left : (name : ℕ) (k : A) → get after name ≡ Some (Some k) → get before name ≡ Some (Some k)

-- ---- CORNERS AND FACES

-- what is seen of a store of corners: them, the width of a row, how many more are stored without memory, and the most
-- that a face may have to be compared
pub record KeptCorners : Type 0 where
  pub corners : List CornerRec
  pub width : ℕ
  pub room : ℕ
  pub longest : ℕ

abbrev pub corner_code : Coded CornerRec
corner_code = code_by (ℕ × (ℕ × List ℤ)) (coded× coded_ℕ (coded× coded_ℕ (coded_list coded_ℤ)))
    (λ k. (k.vert.0, (k.edge.0, k.vals))) (λ p.
    record { vert = record { 0 = p.0 }; edge = record { 0 = p.1.0 }; vals = p.1.1 }) (λ _. refl)

abbrev pub face_code : Coded FaceRec
face_code = code_by (List CornerRec × List ℤ) (coded× (coded_list corner_code) (coded_list coded_ℤ))
    (λ f. (f.corners, f.vals)) (λ p. record { corners = p.0; vals = p.1 }) (λ _. refl)

abbrev pub corners_code : Coded KeptCorners
corners_code =
    code_by (List CornerRec × (ℕ × (ℕ × ℕ))) (coded× (coded_list corner_code) (coded× coded_ℕ (coded× coded_ℕ coded_ℕ)))
    (λ s. (s.corners, (s.width, (s.room, s.longest)))) (λ p.
    record { corners = p.0; width = p.1.0; room = p.1.1.0; longest = p.1.1.1 }) (λ _. refl)

-- each corner has its row, the buffers hold the longest face, and what is told of room is there
pub record AreStored (width spare pairs values longest buffer pair_capacity value_capacity : ℕ) : Type 0 where
  pub rows : values ≡ pairs * width
  pub buffer_rows : longest * width ≤ buffer
  pub pair_room : pairs + spare ≤ pair_capacity
  pub value_room : values + spare * width ≤ value_capacity
  pub enough : spare ≤ longest

-- what is seen of the faces of a past
pub record KeptFaces : Type 0 where
  pub names : Notes FaceRec
  pub width : ℕ
  pub corner_width : ℕ
  pub room : ℕ
  pub corner_room : ℕ

abbrev pub faces_code : Coded KeptFaces
faces_code =
    code_by (Notes FaceRec × (ℕ × (ℕ × (ℕ × ℕ)))) (coded× (notes_code face_code)
    (coded× coded_ℕ (coded× coded_ℕ (coded× coded_ℕ coded_ℕ))))
    (λ f. (f.names, (f.width, (f.corner_width, (f.room, f.corner_room)))))
    (λ p. record { names = p.0; width = p.1.0; corner_width = p.1.1.0; room = p.1.1.1.0; corner_room = p.1.1.1.1 })
    (λ _. refl)

-- the corners of each noted face are stored, and there are at most as many as a buffer takes
abbrev pub AreSpans : ℕ → ℕ → Notes (Span × List ℤ) → Type 0
AreSpans count longest notes = (name : ℕ) (r : Span × List ℤ) → get notes name ≡ Some (Some r)
    → (r.0.from + r.0.count ≤ count) × (r.0.count ≤ longest)

-- the same of kept records
abbrev pub AreKeptSpans : ℕ → ℕ → Notes (Kept Span) → Type 0
AreKeptSpans count longest notes = (name : ℕ) (k : Kept Span) → get notes name ≡ Some (Some k)
    → (k.body.from + k.body.count ≤ count) × (k.body.count ≤ longest)
