-- The changes that a mesh makes, each as one equation of whole tables. What is not named stays.
use Rattle.std.specs.Prelude.{ℕ, zero, suc, ℤ, Bool, not, ◌||◌, List, ◌++◌, map, take, drop, reverse}
use Rattle.std.specs.declared.option.Option.{Option}
use Rattle.std.specs.declared.option.Option.TheVariants.{None, Some}
use Rattle.std.specs.Option.{option_map_or}
use Rattle.std.specs.List.{list_any, list_all, zip, insert, remove}
use Rattle.cust_data.specs.Layers.{zeros}
use Rattle.mesh_model.specs.Table.{at, passes, allows, kept, erase, update}
use Rattle.mesh_model.specs.Complex.{Complex, width}
use Rattle.mesh_model.specs.Incidence.{has_end, uses_edge, uses_vert}
use Rattle.mesh_model.specs.Making.{with_vert, with_edge, with_face}
use Rattle.mesh_model.specs.declared.names.Kind.TheVariants.{Verts, Edges, Corners, Faces}
use Rattle.mesh_model.specs.declared.names.VertName.{VertName}
use Rattle.mesh_model.specs.declared.names.EdgeName.{EdgeName}
use Rattle.mesh_model.specs.declared.names.FaceName.{FaceName}
use Rattle.mesh_model.specs.declared.records.Point.{Point}
use Rattle.mesh_model.specs.declared.records.VertRec.{VertRec}
use Rattle.mesh_model.specs.declared.records.EdgeRec.{EdgeRec}
use Rattle.mesh_model.specs.declared.records.CornerRec.{CornerRec}
use Rattle.mesh_model.specs.declared.records.FaceRec.{FaceRec}

-- ---- MAKING

-- the values of a vertex that is an example, or zeros
abbrev pub vert_vals_like : Complex → Option VertName → List ℤ
vert_vals_like c None = zeros (width c Verts)
vert_vals_like c (Some v) = option_map_or (λ (r : VertRec). r.vals) (at c.verts v.0) (zeros (width c Verts))

-- the values of an edge that is an example, or zeros
abbrev pub edge_vals_like : Complex → Option EdgeName → List ℤ
edge_vals_like c None = zeros (width c Edges)
edge_vals_like c (Some e) = option_map_or (λ (r : EdgeRec). r.vals) (at c.edges e.0) (zeros (width c Edges))

-- the values of a face that is an example, or zeros
abbrev pub face_vals_like : Complex → Option FaceName → List ℤ
face_vals_like c None = zeros (width c Faces)
face_vals_like c (Some f) = option_map_or (λ (r : FaceRec). r.vals) (at c.faces f.0) (zeros (width c Faces))

-- a corner at a vertex along an edge, whose values are 0
abbrev pub corner_from : Complex → VertName × EdgeName → CornerRec
corner_from c k = record { vert = k.0; edge = k.1; vals = zeros (width c Corners) }

-- a vertex more at a point, with an example's values
abbrev pub with_vert_like : Complex → Point → Option VertName → Complex
with_vert_like c p like = with_vert c (record { point = p; vals = vert_vals_like c like })

-- an edge more from one vertex to another, with an example's values
abbrev pub with_edge_like : Complex → VertName → VertName → Option EdgeName → Complex
with_edge_like c v w like = with_edge c (record { a = v; b = w; vals = edge_vals_like c like })

-- a face more on a polygon of vertices and edges, with an example's values, and zeros at its corners
abbrev pub with_face_like : Complex → List (VertName × EdgeName) → Option FaceName → Complex
with_face_like c polygon like =
    with_face c (record { corners = map (corner_from c) polygon; vals = face_vals_like c like })

-- ---- KILLING

-- a face less; its name stays given
abbrev pub without_face : Complex → FaceName → Complex
without_face c f = record c { faces = erase c.faces f.0 }

-- an edge less, and the faces along it
abbrev pub without_edge : Complex → EdgeName → Complex
without_edge c e = record c { edges = erase c.edges e.0; faces = kept (λ f. not (uses_edge e f)) c.faces }

-- a face has a corner along an edge with this end
abbrev pub uses_edge_at : Complex → VertName → FaceRec → Bool
uses_edge_at c v f = list_any (λ (k : CornerRec). passes (has_end v) (at c.edges k.edge.0)) f.corners

-- a vertex less, its edges, and the faces along these
abbrev pub without_vert : Complex → VertName → Complex
without_vert c v = record c {
  verts = erase c.verts v.0;
  edges = kept (λ e. not (has_end v e)) c.edges;
  faces = kept (λ f. not (uses_edge_at c v f)) c.faces;
}

-- each face with a corner at a vertex has a corner along an edge of that vertex
abbrev pub can_lose_vert : Complex → VertName → Bool
can_lose_vert c v = list_all (allows (λ f. not (uses_vert v f) || uses_edge_at c v f)) c.faces

-- ---- REWIRING

-- an edge with another end: side 0 is where it begins, and each other side where it ends
abbrev pub with_side : ℕ → VertName → EdgeRec → EdgeRec
with_side zero v e = record e { a = v }
with_side (suc side) v e = record e { b = v }

-- an edge's end replaced
abbrev pub with_end : Complex → EdgeName → ℕ → VertName → Complex
with_end c e side v = record c { edges = update c.edges e.0 (with_side side v) }

-- a face's corners changed
abbrev pub with_corners_by : Complex → FaceName → (List CornerRec → List CornerRec) → Complex
with_corners_by c f change =
    record c { faces = update c.faces f.0 (λ (r : FaceRec). record r { corners = change r.corners }) }

-- a face's corners replaced
abbrev pub with_corners : Complex → FaceName → List CornerRec → Complex
with_corners c f corners = with_corners_by c f (λ _. corners)

-- a face with a corner more at a position; those from there on follow
abbrev pub with_corner : Complex → FaceName → ℕ → CornerRec → Complex
with_corner c f i k = with_corners_by c f (λ corners. insert corners i k)

-- a face with the corner at a position less
abbrev pub without_corner : Complex → FaceName → ℕ → Complex
without_corner c f i = with_corners_by c f (λ corners. remove corners i)

-- a corner along another edge
abbrev pub along : CornerRec × EdgeName → CornerRec
along k = record k.0 { edge = k.1 }

-- corners in the other order: the first stays first, and each goes along the edge that led to it
abbrev pub reversed : List CornerRec → List CornerRec
reversed corners = map along
    (zip (take 1 corners ++ reverse (drop 1 corners)) (reverse (map (λ (k : CornerRec). k.edge) corners)))

-- a face turned over
abbrev pub reversed_face : Complex → FaceName → Complex
reversed_face c f = with_corners_by c f reversed

-- ---- POINTS AND VALUES

-- a vertex moved to a point
abbrev pub with_point : Complex → VertName → Point → Complex
with_point c v p = record c { verts = update c.verts v.0 (λ (r : VertRec). record r { point = p }) }

-- a vertex's row of values replaced
abbrev pub with_vert_vals : Complex → VertName → List ℤ → Complex
with_vert_vals c v vals = record c { verts = update c.verts v.0 (λ (r : VertRec). record r { vals = vals }) }

-- an edge's row of values replaced
abbrev pub with_edge_vals : Complex → EdgeName → List ℤ → Complex
with_edge_vals c e vals = record c { edges = update c.edges e.0 (λ (r : EdgeRec). record r { vals = vals }) }

-- a face's row of values replaced
abbrev pub with_face_vals : Complex → FaceName → List ℤ → Complex
with_face_vals c f vals = record c { faces = update c.faces f.0 (λ (r : FaceRec). record r { vals = vals }) }

-- the element at a position changed
abbrev pub changed_at : {X : Type 0} → List X → ℕ → (X → X) → List X
changed_at xs i change = take i xs ++ map change (take 1 (drop i xs)) ++ drop 1 (drop i xs)

-- the row of values of a face's corner replaced
abbrev pub with_corner_vals : Complex → FaceName → ℕ → List ℤ → Complex
with_corner_vals c f i vals =
    with_corners_by c f (λ corners. changed_at corners i (λ (k : CornerRec). record k { vals = vals }))
