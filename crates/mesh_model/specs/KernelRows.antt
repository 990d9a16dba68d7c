-- The changes that a mesh makes, worked out on the small models.
use Rattle.std.specs.Prelude.{◌≡◌, pos, negsuc, true, false, [], ◌∷◌, codes}
use Rattle.std.specs.declared.option.Option.TheVariants.{None, Some}
use Rattle.cust_data.specs.Layers.{Layer}
use Rattle.cust_data.specs.declared.rule.Rule.TheVariants.{Copy}
use Rattle.mesh_model.specs.Table.{at, live}
use Rattle.mesh_model.specs.Complex.{Complex, counters_of, fixed_layers}
use Rattle.mesh_model.specs.Incidence.{corners_at_edge}
use Rattle.mesh_model.specs.Deleting.{without_verts}
use Rattle.mesh_model.specs.Tests.{is_linked, is_valid}
use Rattle.mesh_model.specs.Models.{vert, edge, face, point, ends, corner, face_of, square, strip, fin, bow}
use Rattle.mesh_model.specs.Kernel.{with_vert_like, with_edge_like, with_face_like, without_face, without_edge}
use Rattle.mesh_model.specs.Kernel.{without_vert, can_lose_vert, with_end, with_corner, without_corner, with_corners}
use Rattle.mesh_model.specs.Kernel.{reversed, reversed_face, with_point, with_vert_vals, with_edge_vals, with_face_vals}
use Rattle.mesh_model.specs.Kernel.{with_corner_vals}

-- a layer of one number of edges
abbrev pub crease : Layer
crease = record { name = codes "crease"; width = 1; rule = Copy }

-- the square with a layer of edges, in which its first edge has 7
abbrev pub creased : Complex
creased = record square {
  layers = record fixed_layers { edges = crease ∷ [] };
  edges = Some (record (ends 0 1) { vals = pos 7 ∷ [] }) ∷ Some (record (ends 1 2) { vals = pos 0 ∷ [] }) ∷ Some
      (record (ends 2 3) { vals = pos 0 ∷ [] }) ∷ Some (record (ends 3 0) { vals = pos 0 ∷ [] }) ∷ [];
}

-- a diagonal with the values of an example, with zeros, and with those of an edge that isn't there
abbrev pub Made : Type 0
Made = (at (with_edge_like creased (vert 0) (vert 2) (Some (edge 0))).edges 4
    ≡ Some (record (ends 0 2) { vals = pos 7 ∷ [] }))
    × (at (with_edge_like creased (vert 0) (vert 2) None).edges 4 ≡ Some (record (ends 0 2) { vals = pos 0 ∷ [] }))
    × (at (with_edge_like creased (vert 0) (vert 2) (Some (edge 9))).edges 4
    ≡ Some (record (ends 0 2) { vals = pos 0 ∷ [] }))
    × (at (with_vert_like square (point (pos 5) (pos 0)).point (Some (vert 0))).verts 4 ≡ Some (point (pos 5) (pos 0)))
    × (is_valid (with_edge_like creased (vert 0) (vert 2) (Some (edge 0))) ≡ true)

-- a triangle on the diagonal of the square, with the values of its face
abbrev pub MadeFace : Type 0
MadeFace = (at (with_face_like (with_edge_like square (vert 2) (vert 0) None)
    ((vert 0, edge 0) ∷ (vert 1, edge 1) ∷ (vert 2, edge 4) ∷ []) (Some (face 0))).faces 1
    ≡ Some (face_of (corner 0 0 ∷ corner 1 1 ∷ corner 2 4 ∷ [])))
    × (is_valid (with_face_like (with_edge_like square (vert 2) (vert 0) None)
    ((vert 0, edge 0) ∷ (vert 1, edge 1) ∷ (vert 2, edge 4) ∷ []) (Some (face 0))) ≡ true)

-- without its first face the strip keeps all edges and the other face
abbrev pub FaceKilled : Type 0
FaceKilled = (without_face strip (face 0)
    ≡ record strip { faces = None ∷ Some (face_of (corner 1 4 ∷ corner 2 5 ∷ corner 5 6 ∷ corner 4 1 ∷ [])) ∷ [] })
    × (counters_of (without_face strip (face 0)) ≡ record { verts = 6; edges = 7; faces = 2; corners = 4 })

-- without the edge that they share, the strip loses both faces and the fin all three; without an outer edge the strip
-- keeps one
abbrev pub EdgeKilled : Type 0
EdgeKilled = (counters_of (without_edge strip (edge 1)) ≡ record { verts = 6; edges = 7; faces = 2; corners = 0 })
    × (live (without_edge strip (edge 1)).edges ≡ 6)
    × (live (without_edge fin (edge 0)).faces ≡ 0)
    × (without_edge strip (edge 0) ≡ record strip {
      edges = None ∷ Some (ends 1 4) ∷ Some (ends 4 3) ∷ Some (ends 3 0) ∷ Some (ends 1 2) ∷ Some (ends 2 5) ∷ Some
          (ends 5 4) ∷ [];
      faces = None ∷ Some (face_of (corner 1 4 ∷ corner 2 5 ∷ corner 5 6 ∷ corner 4 1 ∷ [])) ∷ [];
    })

-- the middle of the bow goes with four edges and both triangles, and an outer vertex of the fin with two edges and one
-- triangle
abbrev pub VertKilled : Type 0
VertKilled = (without_vert bow (vert 0) ≡ record bow {
  verts = None ∷ Some (point (pos 4) (pos 0)) ∷ Some (point (pos 4) (pos 4)) ∷ Some (point (negsuc 3) (pos 0)) ∷ Some
      (point (negsuc 3) (negsuc 3)) ∷ [];
  edges = None ∷ Some (ends 1 2) ∷ None ∷ None ∷ Some (ends 3 4) ∷ None ∷ [];
  faces = None ∷ None ∷ [];
})
    × (without_vert bow (vert 0) ≡ without_verts bow (vert 0 ∷ []))
    × (without_vert fin (vert 2) ≡ without_verts fin (vert 2 ∷ []))
    × (live (without_vert fin (vert 2)).edges ≡ 5)
    × (corners_at_edge (without_vert fin (vert 2)) (edge 0) ≡ (face 1, 0) ∷ (face 2, 0) ∷ [])

-- a vertex can go where each face at it has an edge at it: always in a valid complex, not where a face stands along
-- edges elsewhere
abbrev pub VertCanGo : Type 0
VertCanGo = (can_lose_vert bow (vert 0) ≡ true) × (can_lose_vert square (vert 2) ≡ true)
    × (can_lose_vert (with_corners square (face 0) (corner 2 0 ∷ corner 1 0 ∷ [])) (vert 2) ≡ false)
    × (can_lose_vert (with_corners square (face 0) (corner 2 0 ∷ corner 1 0 ∷ [])) (vert 1) ≡ true)

-- the end of an edge replaced at either side
abbrev pub EndSet : Type 0
EndSet = (at (with_end square (edge 3) 0 (vert 1)).edges 3 ≡ Some (ends 1 0))
    × (at (with_end square (edge 3) 1 (vert 1)).edges 3 ≡ Some (ends 3 1))
    × (is_linked (with_end square (edge 3) 1 (vert 1)) ≡ true)
    × (is_valid (with_end square (edge 3) 1 (vert 1)) ≡ false)
    × (is_linked (with_end square (edge 3) 1 (vert 3)) ≡ false)

-- a corner put in first, in the middle and last, and taken out first and last
abbrev pub CornerSet : Type 0
CornerSet = (at (with_corner square (face 0) 0 (corner 3 1)).faces 0
    ≡ Some (face_of (corner 3 1 ∷ corner 0 0 ∷ corner 1 1 ∷ corner 2 2 ∷ corner 3 3 ∷ [])))
    × (at (with_corner square (face 0) 2 (corner 3 1)).faces 0
    ≡ Some (face_of (corner 0 0 ∷ corner 1 1 ∷ corner 3 1 ∷ corner 2 2 ∷ corner 3 3 ∷ [])))
    × (at (with_corner square (face 0) 4 (corner 3 1)).faces 0
    ≡ Some (face_of (corner 0 0 ∷ corner 1 1 ∷ corner 2 2 ∷ corner 3 3 ∷ corner 3 1 ∷ [])))
    × (at (without_corner square (face 0) 0).faces 0 ≡ Some (face_of (corner 1 1 ∷ corner 2 2 ∷ corner 3 3 ∷ [])))
    × (at (without_corner square (face 0) 3).faces 0 ≡ Some (face_of (corner 0 0 ∷ corner 1 1 ∷ corner 2 2 ∷ [])))

-- a face turned over: four corners, three corners, and twice
abbrev pub Reversed : Type 0
Reversed = (at (reversed_face square (face 0)).faces 0
    ≡ Some (face_of (corner 0 3 ∷ corner 3 2 ∷ corner 2 1 ∷ corner 1 0 ∷ [])))
    × (at (reversed_face bow (face 1)).faces 1 ≡ Some (face_of (corner 0 5 ∷ corner 4 4 ∷ corner 3 3 ∷ [])))
    × (is_valid (reversed_face strip (face 1)) ≡ true) × (reversed_face (reversed_face strip (face 1)) (face 1) ≡ strip)
    × (reversed [] ≡ []) × (reversed (corner 4 9 ∷ []) ≡ corner 4 9 ∷ [])

-- a corner that is turned over keeps its values
abbrev pub ReversedValues : Type 0
ReversedValues = (at (reversed_face (with_corner_vals square (face 0) 1 (pos 8 ∷ pos 9 ∷ [])) (face 0)).faces 0
    ≡ Some (face_of (corner 0 3 ∷ corner 3 2 ∷ corner 2 1 ∷ record (corner 1 0) { vals = pos 8 ∷ pos 9 ∷ [] } ∷ [])))

-- a point, and each kind of row of values
abbrev pub PartsSet : Type 0
PartsSet = (at (with_point square (vert 2) (point (pos 9) (negsuc 0)).point).verts 2 ≡ Some (point (pos 9) (negsuc 0)))
    × (at (with_edge_vals creased (edge 2) (pos 3 ∷ [])).edges 2 ≡ Some (record (ends 2 3) { vals = pos 3 ∷ [] }))
    × (at (with_face_vals strip (face 1) (pos 0 ∷ pos 2 ∷ [])).faces 1
    ≡ Some (record { corners = corner 1 4 ∷ corner 2 5 ∷ corner 5 6 ∷ corner 4 1 ∷ []; vals = pos 0 ∷ pos 2 ∷ [] }))
    × (at (with_corner_vals square (face 0) 3 (pos 8 ∷ pos 9 ∷ [])).faces 0
    ≡ Some (face_of (corner 0 0 ∷ corner 1 1 ∷ corner 2 2 ∷ record (corner 3 3) {
      vals =
          pos 8 ∷ pos 9 ∷ [];
    } ∷ [])))
    × (is_linked (with_vert_vals square (vert 0) (pos 1 ∷ [])) ≡ false)
    × (is_valid (with_face_vals strip (face 1) (pos 1 ∷ pos 0 ∷ [])) ≡ false)
