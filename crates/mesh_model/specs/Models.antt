-- The small models on which definitions are worked out.
use Rattle.std.specs.Prelude.{ℕ, ℤ, pos, negsuc, List, [], ◌∷◌, map, codes}
use Rattle.std.specs.List.{fold}
use Rattle.cust_data.specs.Layers.{Layer}
use Rattle.cust_data.specs.declared.rule.Rule.TheVariants.{Mix, Copy}
use Rattle.mesh_model.specs.Complex.{Complex, new_model}
use Rattle.mesh_model.specs.Making.{with_vert, with_face_told}
use Rattle.mesh_model.specs.declared.draft.DraftCorner.{DraftCorner}
use Rattle.mesh_model.specs.declared.names.VertName.{VertName}
use Rattle.mesh_model.specs.declared.names.EdgeName.{EdgeName}
use Rattle.mesh_model.specs.declared.names.FaceName.{FaceName}
use Rattle.mesh_model.specs.declared.records.VertRec.{VertRec}
use Rattle.mesh_model.specs.declared.records.EdgeRec.{EdgeRec}
use Rattle.mesh_model.specs.declared.records.CornerRec.{CornerRec}
use Rattle.mesh_model.specs.declared.records.FaceRec.{FaceRec}

-- a layer of two numbers that are mixed, and one of a number that is copied
abbrev pub weight : Layer
weight = record { name = codes "weight"; width = 2; rule = Mix }

abbrev pub mark : Layer
mark = record { name = codes "mark"; width = 1; rule = Copy }

-- names from their numbers
abbrev pub vert : ℕ → VertName
vert n = record { 0 = n }

abbrev pub edge : ℕ → EdgeName
edge n = record { 0 = n }

abbrev pub face : ℕ → FaceName
face n = record { 0 = n }

-- a vertex at a point in the plane, with no layer of vertices
abbrev pub point : ℤ → ℤ → VertRec
point x y = record { point = record { x = x; y = y; z = pos 0 }; vals = [] }

-- an edge from one number to another, with no layer of edges
abbrev pub ends : ℕ → ℕ → EdgeRec
ends a b = record { a = vert a; b = vert b; vals = [] }

-- a corner at a vertex along an edge, that lies nowhere in the texture
abbrev pub corner : ℕ → ℕ → CornerRec
corner v e = record { vert = vert v; edge = edge e; vals = pos 0 ∷ pos 0 ∷ [] }

-- the face of these corners, without material and smoothing group
abbrev pub face_of : List CornerRec → FaceRec
face_of corners = record { corners = corners; vals = pos 0 ∷ pos 0 ∷ [] }

-- a corner at the vertex of a number
abbrev pub told : ℕ → DraftCorner
told n = record { vert = vert n; uv = pos 0 ∷ pos 0 ∷ [] }

-- the model with these vertices, and then with faces on these polygons
abbrev pub model : List VertRec → List (List ℕ) → Complex
model points polygons =
    fold (λ c polygon. with_face_told c (map told polygon) (pos 0) (pos 0)) (fold with_vert new_model points) polygons

-- a square of side 4
abbrev pub square : Complex
square = model (point (pos 0) (pos 0) ∷ point (pos 4) (pos 0) ∷ point (pos 4) (pos 4) ∷ point (pos 0) (pos 4) ∷ [])
    ((0 ∷ 1 ∷ 2 ∷ 3 ∷ []) ∷ [])

-- two squares side by side, which share the edge e1
abbrev pub strip : Complex
strip = model (point (pos 0) (pos 0) ∷ point (pos 4) (pos 0) ∷ point (pos 8) (pos 0) ∷ point (pos 0) (pos 4) ∷ point
    (pos 4) (pos 4) ∷ point (pos 8) (pos 4) ∷ []) ((0 ∷ 1 ∷ 4 ∷ 3 ∷ []) ∷ (1 ∷ 2 ∷ 5 ∷ 4 ∷ []) ∷ [])

-- three triangles on the edge e0
abbrev pub fin : Complex
fin = model (point (pos 0) (pos 0) ∷ record {
  point = record { x = pos 0; y = pos 0; z = pos 4 };
  vals =
      [];
} ∷ point (pos 4) (pos 0) ∷ point (pos 0) (pos 4) ∷ point (negsuc 3) (pos 0) ∷ [])
    ((0 ∷ 1 ∷ 2 ∷ []) ∷ (0 ∷ 1 ∷ 3 ∷ []) ∷ (0 ∷ 1 ∷ 4 ∷ []) ∷ [])

-- two triangles that share the vertex v0
abbrev pub bow : Complex
bow = model (point (pos 0) (pos 0) ∷ point (pos 4) (pos 0) ∷ point (pos 4) (pos 4) ∷ point (negsuc 3) (pos 0) ∷ point
    (negsuc 3) (negsuc 3) ∷ []) ((0 ∷ 1 ∷ 2 ∷ []) ∷ (0 ∷ 3 ∷ 4 ∷ []) ∷ [])
