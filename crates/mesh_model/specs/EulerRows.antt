-- The Euler calls worked out on small models: names, lists, values, and each refusal in order.
use Rattle.std.specs.Prelude.{◌≡◌, ℕ, ℤ, pos, negsuc, true, List, [], ◌∷◌, ◌++◌, replicate}
use Rattle.std.specs.declared.option.Option.{Option}
use Rattle.std.specs.declared.option.Option.TheVariants.{None, Some}
use Rattle.mesh_model.specs.Table.{changed}
use Rattle.mesh_model.specs.Complex.{Complex, fixed_layers, uv_layer}
use Rattle.mesh_model.specs.Making.{with_edge}
use Rattle.mesh_model.specs.Deleting.{without_verts}
use Rattle.mesh_model.specs.Tests.{is_valid, is_simple}
use Rattle.mesh_model.specs.Models.{vert, edge, face, point, ends, corner, face_of, model, square, strip, fin, bow}
use Rattle.mesh_model.specs.Models.{weight, mark}
use Rattle.mesh_model.specs.Refusals.{limit_passed, unless_too_many}
use Rattle.mesh_model.specs.Euler.{split_edge, split_edge_refusal, join_edge, join_edge_refusal, split_face}
use Rattle.mesh_model.specs.Euler.{split_face_refusal, join_face, join_face_refusal, loop_reverse, loop_reverse_refusal}
use Rattle.mesh_model.specs.declared.names.Elem.{Elem}
use Rattle.mesh_model.specs.declared.names.Elem.TheVariants.{Vert, Edge, Face}
use Rattle.mesh_model.specs.declared.names.Kind.TheVariants.{Verts, Edges, Corners, Faces}
use Rattle.mesh_model.specs.declared.records.VertRec.{VertRec}
use Rattle.mesh_model.specs.declared.records.EdgeRec.{EdgeRec}
use Rattle.mesh_model.specs.declared.records.CornerRec.{CornerRec}
use Rattle.mesh_model.specs.declared.records.FaceRec.{FaceRec}
use Rattle.mesh_model.specs.declared.refusal.Refusal.{Refusal}
use Rattle.mesh_model.specs.declared.refusal.Why.{Why}
use Rattle.mesh_model.specs.declared.refusal.Why.TheVariants.{NoSuch, BadValue, TooLong, Apart, Valence, Repeated}
use Rattle.mesh_model.specs.declared.refusal.Why.TheVariants.{TooShort, Adjacent, NonManifold, Winding, Pinched}
use Rattle.mesh_model.specs.declared.refusal.Place.TheVariants.{Nowhere, Elem as AtElem}

-- a refusal without an element, and one at an element
abbrev pub refused : Why → Option Refusal
refused why = Some (record { why = why; place = Nowhere })

abbrev pub refused_for : Why → Elem → Option Refusal
refused_for why x = Some (record { why = why; place = AtElem x })

-- ---- THE SQUARE: split and joined, cut and fused, reversed

-- its first edge split in the middle
abbrev pub square_split : Complex
square_split = record square {
  verts = square.verts ++ Some (point (pos 2) (pos 0)) ∷ [];
  edges = Some (ends 0 4) ∷ Some (ends 1 2) ∷ Some (ends 2 3) ∷ Some (ends 3 0) ∷ Some (ends 4 1) ∷ [];
  faces = Some (face_of (corner 0 0 ∷ corner 4 4 ∷ corner 1 1 ∷ corner 2 2 ∷ corner 3 3 ∷ [])) ∷ [];
}

-- the same records as before the split; the names stay given
abbrev pub square_joined : Complex
square_joined = record square { verts = square.verts ++ None ∷ []; edges = square.edges ++ None ∷ [] }

-- cut from its first corner to its third
abbrev pub square_cut : Complex
square_cut = record square_joined {
  edges = square.edges ++ None ∷ Some (ends 0 2) ∷ [];
  faces = Some (face_of (corner 0 5 ∷ corner 2 2 ∷ corner 3 3 ∷ [])) ∷ Some
      (face_of (corner 0 0 ∷ corner 1 1 ∷ corner 2 5 ∷ [])) ∷ [];
}

-- the same records as before the cut
abbrev pub square_fused : Complex
square_fused = record square_joined { edges = square.edges ++ None ∷ None ∷ []; faces = square.faces ++ None ∷ [] }

-- split in the middle of its first edge, the square has a fifth corner there, and joined again it is as before
abbrev pub SquareSplit : Type 0
SquareSplit = (split_edge square (edge 0) (pos 1) (pos 2) ≡ (square_split, (vert 4, edge 4)))
    × (join_edge square_split (edge 4) (vert 4) ≡ square_joined)

-- joined the other way, the new edge takes the place of the old one
abbrev pub SquareJoinedBack : Type 0
SquareJoinedBack = join_edge square_split (edge 0) (vert 4) ≡ record square {
  verts = square.verts ++ None ∷ [];
  edges = None ∷ Some (ends 1 2) ∷ Some (ends 2 3) ∷ Some (ends 3 0) ∷ Some (ends 0 1) ∷ [];
  faces = Some (face_of (corner 0 4 ∷ corner 1 1 ∷ corner 2 2 ∷ corner 3 3 ∷ [])) ∷ [];
}

-- cut from either end it has the same two parts, and joined at the cut it is as before
abbrev pub SquareCutAndFused : Type 0
SquareCutAndFused = (split_face square_joined (face 0) 0 2 ≡ (square_cut, (edge 5, face 1)))
    × (split_face square_joined (face 0) 2 0 ≡ (square_cut, (edge 5, face 1)))
    × (join_face square_cut (face 0) (face 1) (edge 5) ≡ square_fused)

-- turned over, and turned over again
abbrev pub SquareReversed : Type 0
SquareReversed = (loop_reverse square (face 0) ≡ record square {
  faces =
      Some (face_of (corner 0 3 ∷ corner 3 2 ∷ corner 2 1 ∷ corner 1 0 ∷ [])) ∷ [];
})
    × (loop_reverse (loop_reverse square (face 0)) (face 0) ≡ square)

-- ---- AN EDGE WITH THREE FACES: each has a corner more, at the new vertex along the new edge

-- a quarter of the way up
abbrev pub FinSplit : Type 0
FinSplit = split_edge fin (edge 0) (pos 1) (pos 4) ≡ (
  record fin {
    verts = fin.verts ++ Some (record { point = record { x = pos 0; y = pos 0; z = pos 1 }; vals = [] }) ∷ [];
    edges = Some (ends 0 5) ∷ Some (ends 1 2) ∷ Some (ends 2 0) ∷ Some (ends 1 3) ∷ Some (ends 3 0) ∷ Some (ends 1 4)
        ∷ Some (ends 4 0) ∷ Some (ends 5 1) ∷ [];
    faces = Some (face_of (corner 0 0 ∷ corner 5 7 ∷ corner 1 1 ∷ corner 2 2 ∷ []))
        ∷ Some (face_of (corner 0 0 ∷ corner 5 7 ∷ corner 1 3 ∷ corner 3 4 ∷ []))
        ∷ Some (face_of (corner 0 0 ∷ corner 5 7 ∷ corner 1 5 ∷ corner 4 6 ∷ [])) ∷ [];
  },
  (vert 5, edge 7),
)

-- ---- VALUES: the strip with a mark and two weights at each vertex, a mark at each edge, and texture places and a mark
-- at each corner

-- a corner with its place in the texture and its mark
abbrev pub mapped : ℕ → ℕ → ℕ → ℕ → ℕ → CornerRec
mapped v e x y m = record { vert = vert v; edge = edge e; vals = pos x ∷ pos y ∷ pos m ∷ [] }

-- a face with a smoothing group
abbrev pub smoothed : List CornerRec → FaceRec
smoothed corners = record { corners = corners; vals = pos 0 ∷ pos 5 ∷ [] }

-- a vertex of the strip with its values
abbrev pub weighted : ℕ → ℕ → List ℤ → VertRec
weighted x y vals = record (point (pos x) (pos y)) { vals = vals }

-- an edge with its mark
abbrev pub marked : EdgeRec → EdgeRec
marked e = record e { vals = pos 3 ∷ [] }

-- three zeros
abbrev pub nothing : List ℤ
nothing = pos 0 ∷ pos 0 ∷ pos 0 ∷ []

-- the strip with its values
abbrev pub strip_mapped : Complex
strip_mapped = record strip {
  layers = record fixed_layers { verts = mark ∷ weight ∷ []; edges = mark ∷ []; corners = uv_layer ∷ mark ∷ [] };
  verts = Some (weighted 0 0 nothing) ∷ Some (weighted 4 0 (pos 7 ∷ pos 10 ∷ pos 0 ∷ [])) ∷ Some (weighted 8 0 nothing)
      ∷ Some (weighted 0 4 nothing) ∷ Some (weighted 4 4 (pos 9 ∷ pos 20 ∷ negsuc 2 ∷ [])) ∷ Some (weighted 8 4 nothing)
      ∷ [];
  edges = changed marked strip.edges;
  faces = Some (smoothed (mapped 0 0 0 0 0 ∷ mapped 1 1 100 0 5 ∷ mapped 4 2 200 8 6 ∷ mapped 3 3 0 0 0 ∷ []))
      ∷ Some (smoothed (mapped 1 4 400 4 2 ∷ mapped 2 5 0 0 0 ∷ mapped 5 6 0 0 0 ∷ mapped 4 1 300 0 1 ∷ [])) ∷ [];
}

-- a quarter of the way from v1 to v4: weights are mixed and rounded down, marks are those of the end a, or of the
-- corner before; the first face runs from v1 to v4, and the second one back, at three quarters
abbrev pub StripSplit : Type 0
StripSplit = split_edge strip_mapped (edge 1) (pos 1) (pos 4) ≡ (
  record strip_mapped {
    verts = strip_mapped.verts ++ Some (weighted 4 1 (pos 7 ∷ pos 12 ∷ negsuc 0 ∷ [])) ∷ [];
    edges = Some (marked (ends 0 1)) ∷ Some (marked (ends 1 6)) ∷ Some (marked (ends 4 3)) ∷ Some (marked (ends 3 0))
        ∷ Some (marked (ends 1 2)) ∷ Some (marked (ends 2 5)) ∷ Some (marked (ends 5 4)) ∷ Some (marked (ends 6 4))
        ∷ [];
    faces = Some (smoothed
        (mapped 0 0 0 0 0 ∷ mapped 1 1 100 0 5 ∷ mapped 6 7 125 2 5 ∷ mapped 4 2 200 8 6 ∷ mapped 3 3 0 0 0 ∷ []))
        ∷ Some (smoothed (mapped 1 4 400 4 2 ∷ mapped 2 5 0 0 0 ∷ mapped 5 6 0 0 0 ∷ mapped 4 7 300 0 1 ∷ mapped 6 1 375
        3 1 ∷ [])) ∷ [];
  },
  (vert 6, edge 7),
)

-- doubled corners keep their values, the new face has those of the old one, and the new edge has zeros
abbrev pub StripCut : Type 0
StripCut = split_face strip_mapped (face 0) 3 1 ≡ (
  record strip_mapped {
    edges = strip_mapped.edges ++ Some (record (ends 1 3) { vals = pos 0 ∷ [] }) ∷ [];
    faces = Some (smoothed (mapped 0 0 0 0 0 ∷ mapped 1 7 100 0 5 ∷ mapped 3 3 0 0 0 ∷ []))
        ∷ Some (smoothed (mapped 1 4 400 4 2 ∷ mapped 2 5 0 0 0 ∷ mapped 5 6 0 0 0 ∷ mapped 4 1 300 0 1 ∷ []))
        ∷ Some (smoothed (mapped 1 1 100 0 5 ∷ mapped 4 2 200 8 6 ∷ mapped 3 7 0 0 0 ∷ [])) ∷ [];
  },
  (edge 7, face 2),
)

-- the list of the face that stays begins where it began, and the corner in the place of the one along the edge keeps
-- that one's values
abbrev pub StripFused : Type 0
StripFused = (join_face strip_mapped (face 0) (face 1) (edge 1) ≡ record strip_mapped {
  edges = Some (marked (ends 0 1)) ∷ None ∷ Some (marked (ends 4 3)) ∷ Some (marked (ends 3 0)) ∷ Some
      (marked (ends 1 2)) ∷ Some (marked (ends 2 5)) ∷ Some (marked (ends 5 4)) ∷ [];
  faces = Some (smoothed
      (mapped 0 0 0 0 0 ∷ mapped 1 4 100 0 5 ∷ mapped 2 5 0 0 0 ∷ mapped 5 6 0 0 0 ∷ mapped 4 2 200 8 6 ∷ mapped 3 3 0 0
      0 ∷ [])) ∷ None ∷ [];
}) × ((join_face strip_mapped (face 1) (face 0) (edge 1)).faces
    ≡ None ∷ Some (smoothed
    (mapped 1 4 400 4 2 ∷ mapped 2 5 0 0 0 ∷ mapped 5 6 0 0 0 ∷ mapped 4 2 300 0 1 ∷ mapped 3 3 0 0 0 ∷ mapped 0 0 0
    0 0 ∷ [])) ∷ [])

-- each corner keeps its values when the face is reversed
abbrev pub StripReversed : Type 0
StripReversed = ((loop_reverse strip_mapped (face 0)).faces
    ≡ Some (smoothed (mapped 0 3 0 0 0 ∷ mapped 3 2 0 0 0 ∷ mapped 4 1 200 8 6 ∷ mapped 1 0 100 0 5 ∷ []))
    ∷ Some (smoothed (mapped 1 4 400 4 2 ∷ mapped 2 5 0 0 0 ∷ mapped 5 6 0 0 0 ∷ mapped 4 1 300 0 1 ∷ [])) ∷ [])
    × (loop_reverse (loop_reverse strip_mapped (face 0)) (face 0) ≡ strip_mapped)

-- the results are valid and simple
abbrev pub EulerResults : Type 0
EulerResults = (is_valid strip_mapped ≡ true) × (is_valid (split_edge strip_mapped (edge 1) (pos 1) (pos 4)).0 ≡ true)
    × (is_simple (split_edge fin (edge 0) (pos 1) (pos 4)).0 ≡ true)
    × (is_valid square_joined ≡ true) × (is_valid (split_face strip_mapped (face 0) 3 1).0 ≡ true)
    × (is_valid (join_face strip_mapped (face 1) (face 0) (edge 1)) ≡ true)
    × (is_valid (loop_reverse strip_mapped (face 0)) ≡ true)

-- ---- REFUSALS

-- of names, then of the share, then of the room in a face
abbrev pub SplitEdgeRefusals : Type 0
SplitEdgeRefusals = (split_edge_refusal square (edge 9) (pos 0) (pos 0) ≡ refused_for NoSuch (Edge (edge 9)))
    × (split_edge_refusal square (edge 0) (pos 0) (pos 2) ≡ refused BadValue)
    × (split_edge_refusal square (edge 0) (pos 2) (pos 2) ≡ refused BadValue)
    × (split_edge_refusal square (edge 0) (negsuc 0) (pos 2) ≡ refused BadValue)
    × (split_edge_refusal square (edge 0) (pos 1) (pos 1000001) ≡ refused BadValue)
    × (split_edge_refusal square (edge 0) (pos 1) (pos 1000000) ≡ None)
    × (split_edge_refusal fin (edge 0) (pos 1) (pos 4) ≡ None)

-- a face of so many corners, one of them along the edge e0
abbrev pub many_corners : ℕ → Complex
many_corners more = record square { faces = Some (face_of (corner 0 0 ∷ replicate more (corner 2 2))) ∷ [] }

abbrev pub SplitEdgeTooLong : Type 0
SplitEdgeTooLong = (split_edge_refusal (many_corners 4095) (edge 0) (pos 1) (pos 2)
    ≡ refused_for TooLong (Face (face 0)))
    × (split_edge_refusal (many_corners 4094) (edge 0) (pos 1) (pos 2) ≡ None)
    × (split_edge_refusal (many_corners 4095) (edge 1) (pos 1) (pos 2) ≡ None)

-- two edges between two vertices, and two triangles back to back
abbrev pub doubled : Complex
doubled = with_edge (with_edge (model (point (pos 0) (pos 0) ∷ point (pos 4) (pos 0) ∷ []) []) (ends 0 1)) (ends 1 0)

abbrev pub pillow : Complex
pillow = model (point (pos 0) (pos 0) ∷ point (pos 4) (pos 0) ∷ point (pos 4) (pos 4) ∷ [])
    ((0 ∷ 1 ∷ 2 ∷ []) ∷ (2 ∷ 1 ∷ 0 ∷ []) ∷ [])

abbrev pub JoinEdgeRefusals : Type 0
JoinEdgeRefusals = (join_edge_refusal square (edge 9) (vert 9) ≡ refused_for NoSuch (Edge (edge 9)))
    × (join_edge_refusal square (edge 0) (vert 9) ≡ refused_for NoSuch (Vert (vert 9)))
    × (join_edge_refusal strip (edge 0) (vert 4) ≡ refused_for Apart (Edge (edge 0)))
    × (join_edge_refusal strip (edge 1) (vert 1) ≡ refused_for Valence (Vert (vert 1)))
    × (join_edge_refusal doubled (edge 0) (vert 0) ≡ refused_for Repeated (Vert (vert 1)))
    × (join_edge_refusal bow (edge 4) (vert 4) ≡ refused_for TooShort (Face (face 1)))
    × (join_edge_refusal square_split (edge 4) (vert 4) ≡ None) × (join_edge_refusal square (edge 0) (vert 0) ≡ None)

abbrev pub SplitFaceRefusals : Type 0
SplitFaceRefusals = (split_face_refusal square (face 9) 0 4 ≡ refused_for NoSuch (Face (face 9)))
    × (split_face_refusal square (face 0) 0 4 ≡ refused BadValue)
    × (split_face_refusal square (face 0) 1 1 ≡ refused BadValue)
    × (split_face_refusal square (face 0) 0 1 ≡ refused Adjacent)
    × (split_face_refusal square (face 0) 0 3 ≡ refused Adjacent)
    × (split_face_refusal square (face 0) 3 0 ≡ refused Adjacent) × (split_face_refusal square (face 0) 3 1 ≡ None)

-- the second face of the strip cut, so that the edge e7 has both its corners in the second and the third face
abbrev pub strip_cut : Complex
strip_cut = (split_face strip (face 1) 0 2).0

-- faces of so many corners, back to back along the edge e0
abbrev pub two_long : ℕ → List CornerRec → Complex
two_long more others =
    record square {
      faces =
          Some (face_of (corner 0 0 ∷ replicate more (corner 2 2))) ∷ Some (face_of (corner 1 0 ∷ others)) ∷ [];
    }

abbrev pub JoinFaceRefusals : Type 0
JoinFaceRefusals = (join_face_refusal strip (face 9) (face 8) (edge 9) ≡ refused_for NoSuch (Face (face 9)))
    × (join_face_refusal strip (face 0) (face 8) (edge 9) ≡ refused_for NoSuch (Face (face 8)))
    × (join_face_refusal strip (face 0) (face 0) (edge 9) ≡ refused_for NoSuch (Edge (edge 9)))
    × (join_face_refusal strip (face 0) (face 0) (edge 0) ≡ refused_for Apart (Face (face 0)))
    × (join_face_refusal strip (face 0) (face 1) (edge 0) ≡ refused_for NonManifold (Edge (edge 0)))
    × (join_face_refusal fin (face 0) (face 1) (edge 0) ≡ refused_for NonManifold (Edge (edge 0)))
    × (join_face_refusal strip_cut (face 0) (face 1) (edge 7) ≡ refused_for Apart (Edge (edge 7)))
    × (join_face_refusal strip_cut (face 2) (face 0) (edge 7) ≡ refused_for Apart (Edge (edge 7)))
    × (join_face_refusal (without_verts fin (vert 4 ∷ [])) (face 0) (face 1) (edge 0)
    ≡ refused_for Winding (Edge (edge 0)))
    × (join_face_refusal pillow (face 0) (face 1) (edge 1) ≡ refused_for Pinched (Face (face 1)))
    × (join_face_refusal strip (face 1) (face 0) (edge 1) ≡ None)

abbrev pub JoinFaceTooLong : Type 0
JoinFaceTooLong = (join_face_refusal (two_long 4094 (corner 0 1 ∷ corner 3 1 ∷ corner 3 1 ∷ [])) (face 0) (face 1)
    (edge 0) ≡ refused_for TooLong (Face (face 0)))
    × (join_face_refusal (two_long 4094 (corner 0 1 ∷ corner 3 1 ∷ [])) (face 0) (face 1) (edge 0) ≡ None)

abbrev pub ReverseRefusals : Type 0
ReverseRefusals = (loop_reverse_refusal square (face 1) ≡ refused_for NoSuch (Face (face 1)))
    × (loop_reverse_refusal square (face 0) ≡ None)

-- the first limit that is passed, in the order of vertices, edges, faces and corners
abbrev pub LimitsPassed : Type 0
LimitsPassed = (limit_passed (record { verts = 1048576; edges = 2097152; faces = 1048576; corners = 4194304 }) ≡ None)
    × (limit_passed (record { verts = 1048577; edges = 2097153; faces = 1048577; corners = 4194305 }) ≡ Some Verts)
    × (limit_passed (record { verts = 0; edges = 2097153; faces = 1048577; corners = 4194305 }) ≡ Some Edges)
    × (limit_passed (record { verts = 0; edges = 0; faces = 1048577; corners = 4194305 }) ≡ Some Faces)
    × (limit_passed (record { verts = 0; edges = 0; faces = 0; corners = 4194305 }) ≡ Some Corners)
    × (unless_too_many strip ≡ None)
