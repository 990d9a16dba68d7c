-- The small models, worked out: what stands in them, what meets what, and what is refused.
use Rattle.std.specs.Prelude.{◌≡◌, ℤ, pos, negsuc, nat_eq, true, false, List, [], ◌∷◌, map, codes}
use Rattle.std.specs.declared.option.Option.TheVariants.{None, Some}
use Rattle.cust_data.specs.Layers.{Layer}
use Rattle.cust_data.specs.declared.rule.Rule.TheVariants.{Mix}
use Rattle.mesh_model.specs.Table.{at, least_from, live, table_of, erase, update, changed, changed_names}
use Rattle.mesh_model.specs.Complex.{Complex, has, counters_of, new_model, no_complex, no_layers, fixed_layers}
use Rattle.mesh_model.specs.Complex.{material_layer}
use Rattle.mesh_model.specs.Incidence.{edges_at, corners_at_edge, corners_at_vert, is_loose, is_bare, edge_joining}
use Rattle.mesh_model.specs.Incidence.{sides}
use Rattle.mesh_model.specs.Naming.{rank, fresh, is_rising, numbers_in}
use Rattle.mesh_model.specs.Making.{with_vert, with_edge, with_face, with_face_told, edge_between}
use Rattle.mesh_model.specs.Deleting.{without_verts}
use Rattle.mesh_model.specs.Valid.{is_on_grid, are_distinct}
use Rattle.mesh_model.specs.Tests.{is_linked, is_valid, is_simple, is_side_count, are_within_limits}
use Rattle.mesh_model.specs.Models.{vert, edge, face, point, ends, corner, face_of, told, weight, mark, square, strip}
use Rattle.mesh_model.specs.Models.{fin, bow}
use Rattle.mesh_model.specs.declared.names.Elem.TheVariants.{Vert}
use Rattle.mesh_model.specs.declared.records.EdgeRec.{EdgeRec}
use Rattle.mesh_model.specs.declared.records.CornerRec.{CornerRec}
use Rattle.mesh_model.specs.declared.records.FaceRec.{FaceRec}

-- the square has four edges, from each vertex to the next, and one face on them
abbrev pub SquareTables : Type 0
SquareTables = (square.edges ≡ Some (ends 0 1) ∷ Some (ends 1 2) ∷ Some (ends 2 3) ∷ Some (ends 3 0) ∷ [])
    × (square.faces ≡ Some (face_of (corner 0 0 ∷ corner 1 1 ∷ corner 2 2 ∷ corner 3 3 ∷ [])) ∷ [])

-- without its first vertex it keeps three points and two edges
abbrev pub SquareCut : Type 0
SquareCut = without_verts square (vert 0 ∷ []) ≡ record new_model {
  verts = None ∷ Some (point (pos 4) (pos 0)) ∷ Some (point (pos 4) (pos 4)) ∷ Some (point (pos 0) (pos 4)) ∷ [];
  edges = None ∷ Some (ends 1 2) ∷ Some (ends 2 3) ∷ None ∷ [];
  faces = None ∷ [];
}

-- both edges that are left are loose, and the vertex between them has both
abbrev pub SquareLoose : Type 0
SquareLoose = (is_loose square (edge 1) ≡ false) × (is_loose (without_verts square (vert 0 ∷ [])) (edge 1) ≡ true)
    × (is_loose (without_verts square (vert 0 ∷ [])) (edge 2) ≡ true)
    × (edges_at (without_verts square (vert 0 ∷ [])) (vert 2) ≡ edge 1 ∷ edge 2 ∷ [])

-- without all its vertices no edge and no corner is left, and the next names stay
abbrev pub SquareGone : Type 0
SquareGone = (counters_of (without_verts square (vert 3 ∷ vert 1 ∷ vert 0 ∷ vert 2 ∷ [])) ≡ record {
  verts = 4;
  edges =
      4;
  faces = 1;
  corners = 0;
})
    × (live (without_verts square (vert 3 ∷ vert 1 ∷ vert 0 ∷ vert 2 ∷ [])).edges ≡ 0)

-- the second face of the strip runs back along the edge that the two share
abbrev pub StripTables : Type 0
StripTables = (strip.edges ≡ Some (ends 0 1) ∷ Some (ends 1 4) ∷ Some (ends 4 3) ∷ Some (ends 3 0) ∷ Some (ends 1 2)
    ∷ Some (ends 2 5) ∷ Some (ends 5 4) ∷ [])
    × (corners_at_edge strip (edge 1) ≡ (face 0, 1) ∷ (face 1, 3) ∷ [])

-- the three triangles of the fin share their first edge, and each uses it from its first corner
abbrev pub FinEdge : Type 0
FinEdge = (corners_at_edge fin (edge 0) ≡ (face 0, 0) ∷ (face 1, 0) ∷ (face 2, 0) ∷ [])
    × (counters_of fin ≡ record { verts = 5; edges = 7; faces = 3; corners = 9 })

-- without one of the fin's outer vertices the other two triangles stay
abbrev pub FinCut : Type 0
FinCut = (corners_at_edge (without_verts fin (vert 2 ∷ [])) (edge 0) ≡ (face 1, 0) ∷ (face 2, 0) ∷ [])
    × (edges_at (without_verts fin (vert 2 ∷ [])) (vert 0) ≡ edge 0 ∷ edge 4 ∷ edge 6 ∷ [])

-- without all its outer vertices the edge that they shared stays, and is loose then
abbrev pub FinBare : Type 0
FinBare = let bare : Complex = without_verts fin (vert 2 ∷ vert 3 ∷ vert 4 ∷ []) in
    (is_loose fin (edge 0) ≡ false) × (is_loose bare (edge 0) ≡ true) × (live bare.edges ≡ 1) × (live bare.faces ≡ 0)

-- the middle of the bow has four edges and two corners
abbrev pub BowMiddle : Type 0
BowMiddle = (edges_at bow (vert 0) ≡ edge 0 ∷ edge 2 ∷ edge 3 ∷ edge 5 ∷ [])
    × (corners_at_vert bow (vert 0) ≡ (face 0, 0) ∷ (face 1, 0) ∷ [])

-- without its middle the bow has two edges and no face, and the end of an edge is bare only once the other end goes too
abbrev pub BowCut : Type 0
BowCut = (live (without_verts bow (vert 0 ∷ [])).edges ≡ 2) × (live (without_verts bow (vert 0 ∷ [])).faces ≡ 0)
    × (is_bare (without_verts bow (vert 0 ∷ [])) (vert 4) ≡ false)
    × (is_bare (without_verts bow (vert 0 ∷ vert 3 ∷ [])) (vert 4) ≡ true)

-- an edge is found in either direction, and is made at the end where there is none; of two edges the least is found
abbrev pub EdgesFound : Type 0
EdgesFound = (edge_joining square.edges (vert 1) (vert 0) ≡ Some (edge 0))
    × (edge_joining square.edges (vert 0) (vert 2) ≡ None)
    × ((edge_between square (vert 0) (vert 2)).1 ≡ edge 4) × ((edge_between square (vert 0) (vert 3)).1 ≡ edge 3)
    × (edge_joining (with_edge fin (ends 1 0)).edges (vert 0) (vert 1) ≡ Some (edge 0))

-- the least name from a number on, ranks, and new names after an earlier group of two
abbrev pub NamesGiven : Type 0
NamesGiven = (least_from (without_verts square (vert 0 ∷ [])).verts 0 ≡ Some 1)
    × (least_from (without_verts square (vert 0 ∷ [])).edges 3 ≡ None)
    × (numbers_in (without_verts square (vert 0 ∷ [])).edges ≡ 1 ∷ 2 ∷ []) × (rank (2 ∷ 5 ∷ 9 ∷ []) 9 ≡ 2)
    × (fresh 10 2 (2 ∷ 5 ∷ 9 ∷ []) 5 ≡ 13)

-- names past the end name nothing
abbrev pub PastTheEnd : Type 0
PastTheEnd = (at square.verts 9 ≡ None) × (has square (Vert (vert 9)) ≡ false) × (least_from square.verts 9 ≡ None)
    × (edges_at square (vert 9) ≡ [])
    × (is_loose square (edge 9) ≡ true) × (is_bare square (vert 9) ≡ true) × (erase square.edges 9 ≡ square.edges)
    × (update square.edges 9 (λ (e : EdgeRec). e) ≡ square.edges) × (without_verts square (vert 9 ∷ []) ≡ square)

-- nothing is in the empty complex
abbrev pub NothingThere : Type 0
NothingThere = (counters_of no_complex ≡ record { verts = 0; edges = 0; faces = 0; corners = 0 })
    × (least_from no_complex.verts 0 ≡ None)
    × (without_verts no_complex (vert 0 ∷ []) ≡ no_complex)

-- tables: made by a function, with one entry erased, with the entries of some names changed
abbrev pub TablesChanged : Type 0
TablesChanged = (table_of (at square.edges) 2 ≡ Some (ends 0 1) ∷ Some (ends 1 2) ∷ [])
    × (erase square.faces 0 ≡ None ∷ [])
    × (changed_names (nat_eq 1) (λ (e : EdgeRec). record e { a = e.b; b = e.a })
    (Some (ends 0 1) ∷ Some (ends 1 2) ∷ []) ≡ Some (ends 0 1) ∷ Some (ends 2 1) ∷ [])

-- the sides of a polygon, and vertices that repeat
abbrev pub SidesGiven : Type 0
SidesGiven = (sides (vert 7 ∷ vert 8 ∷ vert 9 ∷ []) ≡ (vert 7, vert 8) ∷ (vert 8, vert 9) ∷ (vert 9, vert 7) ∷ [])
    × (are_distinct (vert 7 ∷ vert 8 ∷ vert 7 ∷ []) ≡ false) × (are_distinct (vert 7 ∷ vert 8 ∷ vert 9 ∷ []) ≡ true)

-- the grid ends at a thousand million
abbrev pub GridEnds : Type 0
GridEnds = (is_on_grid (point (pos 1000000000) (negsuc 999999999)).point ≡ true)
    × (is_on_grid (point (pos 0) (pos 1000000001)).point ≡ false)
    × (is_on_grid (point (negsuc 1000000000) (pos 0)).point ≡ false)
    × (is_on_grid (record { x = pos 0; y = pos 0; z = pos 1000000001 }) ≡ false)

-- names that rise, that stand still and that fall
abbrev pub NamesRise : Type 0
NamesRise = (is_rising (2 ∷ 5 ∷ 9 ∷ []) ≡ true) × (is_rising (2 ∷ 5 ∷ 5 ∷ []) ≡ false)
    × (is_rising (2 ∷ 9 ∷ 5 ∷ []) ≡ false) × (is_rising [] ≡ true)

-- ---- WHAT IS LINKED, VALID AND SIMPLE, AND WHAT ISN'T

abbrev pub AreGood : Type 0
AreGood = (is_valid square ≡ true) × (is_valid strip ≡ true) × (is_valid fin ≡ true) × (is_valid bow ≡ true)
    × (is_simple fin ≡ true) × (is_valid new_model ≡ true) × (is_valid no_complex ≡ true)
    × (is_valid (without_verts bow (vert 0 ∷ [])) ≡ true)

-- the square with a face more, which runs along e0 and back and comes to the first vertex twice
abbrev pub twice : Complex
twice = with_face square (face_of (corner 0 0 ∷ corner 1 0 ∷ corner 0 3 ∷ corner 3 3 ∷ []))

-- each of its corners there is found
abbrev pub CornersFound : Type 0
CornersFound = (corners_at_vert twice (vert 0) ≡ (face 0, 0) ∷ (face 1, 0) ∷ (face 1, 2) ∷ [])
    × (corners_at_edge twice (edge 0) ≡ (face 0, 0) ∷ (face 1, 0) ∷ (face 1, 1) ∷ [])

-- not linked: equal ends, an end that isn't there, a face without corners, a corner along an edge or at a vertex that
-- isn't there, a row that is too long, layers that can't be held, a polygon that comes straight back
abbrev pub AreUnlinked : Type 0
AreUnlinked = (is_linked (with_edge square (ends 1 1)) ≡ false) × (is_linked (with_edge square (ends 1 9)) ≡ false)
    × (is_linked (with_face square (face_of [])) ≡ false)
    × (is_linked (with_face square (face_of (corner 0 4 ∷ []))) ≡ false)
    × (is_linked (with_face square (face_of (corner 9 0 ∷ []))) ≡ false)
    × (is_linked (with_vert square (record (point (pos 0) (pos 0)) { vals = pos 1 ∷ [] })) ≡ false)
    × (is_linked (record no_complex { layers = record no_layers { verts = mark ∷ weight ∷ mark ∷ [] } }) ≡ false)
    × (is_linked (with_face_told square (told 0 ∷ told 1 ∷ told 0 ∷ []) (pos 0) (pos 0)) ≡ false)

-- the square's face with other values
abbrev pub valued : List ℤ → Complex
valued vals = record square { faces = update square.faces 0 (λ (f : FaceRec). record f { vals = vals }) }

-- linked and not valid: two corners, a vertex twice, corners that don't close, a point off the grid, values out of
-- range, a material that isn't there, a negative smoothing group
abbrev pub AreInvalid : Type 0
AreInvalid = (is_linked (with_face square (face_of (corner 0 0 ∷ corner 1 0 ∷ []))) ≡ true)
    × (is_valid (with_face square (face_of (corner 0 0 ∷ corner 1 0 ∷ []))) ≡ false)
    × (is_linked twice ≡ true) × (is_valid twice ≡ false)
    × (is_linked (with_face square (face_of (corner 0 0 ∷ corner 1 1 ∷ corner 2 2 ∷ []))) ≡ true)
    × (is_valid (with_face square (face_of (corner 0 0 ∷ corner 1 1 ∷ corner 2 2 ∷ []))) ≡ false)
    × (is_valid (with_vert square (point (pos 1000000001) (pos 0))) ≡ false)
    × (is_valid (valued (pos 0 ∷ pos 1000000001 ∷ [])) ≡ false)
    × (is_valid (valued (pos 0 ∷ pos 1000000000 ∷ [])) ≡ true)
    × (is_valid (valued (pos 1 ∷ pos 0 ∷ [])) ≡ false)
    × (is_valid (record (valued (pos 1 ∷ pos 0 ∷ [])) { materials = codes "wood" ∷ [] }) ≡ true)
    × (is_valid (valued (pos 0 ∷ negsuc 0 ∷ [])) ≡ false)

-- not valid: a value out of range of a vertex, of an edge and of a corner
abbrev pub AreOutOfRange : Type 0
AreOutOfRange =
    (is_valid (record no_complex {
      layers = record no_layers { verts = mark ∷ [] };
      verts =
          Some (record (point (pos 0) (pos 0)) { vals = negsuc 1000000000 ∷ [] }) ∷ [];
    }) ≡ false)
    × (is_valid (record square {
      layers = record fixed_layers { edges = mark ∷ [] };
      edges =
          changed (λ (e : EdgeRec). record e { vals = pos 1000000001 ∷ [] }) square.edges;
    }) ≡ false)
    × (is_valid (record square {
      layers = record fixed_layers { edges = mark ∷ [] };
      edges =
          changed (λ (e : EdgeRec). record e { vals = pos 1000000000 ∷ [] }) square.edges;
    }) ≡ true)
    × (is_valid (record square {
      faces =
          changed (λ (f : FaceRec). record f {
            corners =
                map (λ (k : CornerRec). record k { vals = pos 0 ∷ pos 1000000001 ∷ [] }) f.corners;
          }) square.faces;
    }) ≡ false)

-- the square with this layer of faces alone, and 1 as the face's number
abbrev pub marked : Layer → Complex
marked l = record square {
  layers = record no_layers { faces = l ∷ [] };
  faces = changed (λ (f : FaceRec). record f {
    corners = map (λ (k : CornerRec). record k { vals = [] }) f.corners;
    vals = pos 1 ∷ [];
  }) square.faces;
}

-- a layer that only has the name of a fixed one is an ordinary layer
abbrev pub MaterialsTold : Type 0
MaterialsTold = (is_valid (marked material_layer) ≡ false)
    × (is_valid (record (marked material_layer) { materials = codes "wood" ∷ [] }) ≡ true)
    × (is_valid (marked (record material_layer { rule = Mix })) ≡ true)

-- faces of 3 to 4,096 corners, and the limits on names and live corners
abbrev pub LimitsTold : Type 0
LimitsTold = (is_side_count 2 ≡ false) × (is_side_count 3 ≡ true) × (is_side_count 4096 ≡ true)
    × (is_side_count 4097 ≡ false)
    × (are_within_limits (record { verts = 1048576; edges = 2097152; faces = 1048576; corners = 4194304 }) ≡ true)
    × (are_within_limits (record { verts = 1048577; edges = 0; faces = 0; corners = 0 }) ≡ false)
    × (are_within_limits (record { verts = 0; edges = 2097153; faces = 0; corners = 0 }) ≡ false)
    × (are_within_limits (record { verts = 0; edges = 0; faces = 1048577; corners = 0 }) ≡ false)
    × (are_within_limits (record { verts = 0; edges = 0; faces = 0; corners = 4194305 }) ≡ false)

-- not simple: a second edge between two vertices, in the same direction or the other one
abbrev pub AreDoubled : Type 0
AreDoubled = (is_simple (with_edge square (ends 0 1)) ≡ false) × (is_simple (with_edge square (ends 0 3)) ≡ false)
    × (is_simple (with_edge square (ends 0 2)) ≡ true)
