-- Tables of records that lie in flat columns: one column for each field, and rows of values beside them.
use Rattle.std.specs.Prelude.{◌≡◌, ℕ, ℤ, ◌<◌, ◌≤◌, Bool, true, false, List, [], ◌∷◌, length, map, take, drop}
use Rattle.std.specs.Prelude.{slice_index_or}
use Rattle.std.specs.declared.option.Option.{Option}
use Rattle.std.specs.declared.option.Option.TheVariants.{None, Some}
use Rattle.std.specs.List.{slice_get, zip}
use Rattle.std.specs.Option.{option_map}
use Rattle.cust_data.specs.Layers.{Layer}
use Rattle.mesh_model.specs.declared.edge_columns.EdgeState.{EdgeState}
use Rattle.mesh_model.specs.declared.edge_columns.EdgeState.TheVariants.{Absent, Loose, Used}
use Rattle.mesh_model.specs.declared.edge_columns.Ends.{Ends}
use Rattle.mesh_model.specs.declared.face_columns.Side.{Side}
use Rattle.mesh_model.specs.declared.records.Point.{Point}
use Rattle.mesh_model.specs.declared.records.VertRec.{VertRec}
use Rattle.mesh_model.specs.declared.records.EdgeRec.{EdgeRec}
use Rattle.mesh_model.specs.declared.records.CornerRec.{CornerRec}
use Rattle.mesh_model.specs.declared.records.FaceRec.{FaceRec}

-- what stands if a flag is set
abbrev pub if_set : {X : Type 0} → Bool → Option X → Option X
if_set false x = None
if_set true x = x

-- the row of values at a name
abbrev pub row_at : List (List ℤ) → ℕ → List ℤ
row_at rows k = slice_index_or rows k []

-- ---- VERTICES

pub record VertTable : Type 0 where
  pub table : List (Option VertRec)
  pub layers : List Layer
  -- how many more can be pushed without memory
  pub room : ℕ

abbrev pub vert_at : List Bool → List Point → List (List ℤ) → ℕ → Option VertRec
vert_at there points rows k =
    if_set (slice_index_or there k false)
    (option_map (λ p. record { point = p; vals = row_at rows k }) (slice_get points k))

-- each place that is made has its point and its row
pub record AreVertColumns (there : List Bool) (points : List Point) (rows : List (List ℤ)) (count : ℕ) : Type 0 where
  pub few : count ≤ length there
  pub placed : length there ≤ length points
  pub valued : length there ≤ length rows

-- ---- EDGES

pub record EdgeTable : Type 0 where
  pub table : List (Option EdgeRec)
  -- for each name whether the edge has a corner
  pub used : List Bool
  pub layers : List Layer
  -- how many more can be pushed without memory
  pub room : ℕ

abbrev pub stands : EdgeState → Bool
stands Absent = false
stands Loose = true
stands Used = true

abbrev pub is_used : EdgeState → Bool
is_used Absent = false
is_used Loose = false
is_used Used = true

abbrev pub edge_at : List EdgeState → List Ends → List (List ℤ) → ℕ → Option EdgeRec
edge_at states ends rows k =
    if_set (stands (slice_index_or states k Absent))
    (option_map (λ e. record { a = e.a; b = e.b; vals = row_at rows k }) (slice_get ends k))

-- each place that is made has its ends and its row
pub record AreEdgeColumns (states : List EdgeState) (ends : List Ends) (rows : List (List ℤ)) (count : ℕ) : Type 0 where
  pub few : count ≤ length states
  pub placed : length states ≤ length ends
  pub valued : length states ≤ length rows

-- ---- FACES

pub record FaceTable : Type 0 where
  pub table : List (Option FaceRec)
  -- the corners behind the last face
  pub «open» : List CornerRec
  pub corner_layers : List Layer
  pub layers : List Layer
  -- how many more corners can be pushed without memory, and faces
  pub corner_room : ℕ
  pub room : ℕ

-- where a face's corners start: at the end of those of the face before it
abbrev pub start_of : List ℕ → ℕ → ℕ
start_of ends k = slice_index_or (0 ∷ ends) k 0

-- a corner with its row of values
abbrev pub corner_of : Side × List ℤ → CornerRec
corner_of k = record { vert = k.0.vert; edge = k.0.edge; vals = k.1 }

-- the corners at all places
abbrev pub corners_at : List Side → List (List ℤ) → List CornerRec
corners_at sides rows = map corner_of (zip sides rows)

-- a corner without its values
abbrev pub side_of : CornerRec → Side
side_of k = record { vert = k.vert; edge = k.edge }

-- the elements from one place up to another
abbrev pub span : {X : Type 0} → List X → ℕ → ℕ → List X
span xs from until = drop from (take until xs)

-- the face of some corners; without corners there is none
abbrev pub face_of : List CornerRec → List ℤ → Option FaceRec
face_of [] row = None
face_of (k ∷ ks) row = Some (record { corners = k ∷ ks; vals = row })

abbrev pub face_at : List ℕ → List CornerRec → List (List ℤ) → ℕ → Option FaceRec
face_at ends corners rows k = face_of (span corners (start_of ends k) (slice_index_or ends k 0)) (row_at rows k)

-- each place that is made has its row, and the faces' corners follow each other
pub record AreFaceColumns (ends : List ℕ) (sides : List Side) (corner_rows rows : List (List ℤ)) (count corners : ℕ)
    : Type 0 where
  pub few : count ≤ length ends
  pub valued : length ends ≤ length rows
  pub few_corners : corners ≤ length sides
  pub corners_valued : length sides ≤ length corner_rows
  pub rising : (k : ℕ) → k < count → start_of ends k ≤ slice_index_or ends k 0
  pub last : start_of ends count ≤ corners

-- ---- ROWS

-- a buffer of numbers that are there up to a count
pub record FillsRow (numbers : List ℤ) (filled : ℕ) : Type 0 where
  pub long : length numbers ≡ 64
  pub within : filled ≤ 64
