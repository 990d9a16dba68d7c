-- Change sets of the small models, worked out.
use Rattle.std.specs.declared.option.Option.{Option}
use Rattle.mesh_model.specs.declared.records.VertRec.{VertRec}
use Rattle.mesh_model.specs.declared.records.EdgeRec.{EdgeRec}
use Rattle.mesh_model.specs.declared.records.FaceRec.{FaceRec}
use Rattle.std.specs.Prelude.{◌≡◌, ℕ, pos, negsuc, List, [], ◌∷◌}
use Rattle.std.specs.declared.option.Option.TheVariants.{None, Some}
use Rattle.std.specs.FinMap.{get, from_entries}
use Rattle.mesh_model.specs.Complex.{Complex}
use Rattle.mesh_model.specs.Making.{with_edge}
use Rattle.mesh_model.specs.Kernel.{without_face, without_edge, with_point, with_corner_vals}
use Rattle.mesh_model.specs.ChangeSet.{ChangeSet, change_set, leads, join, opposite, trim}
use Rattle.mesh_model.specs.Models.{vert, edge, face, point, ends, corner, face_of, square, strip}

-- the square with a vertex moved, with a diagonal, and with new values at a corner
abbrev pub moved : Complex
moved = with_point square (vert 2) (point (pos 9) (negsuc 0)).point

abbrev pub crossed : Complex
crossed = with_edge square (ends 0 2)

abbrev pub textured : Complex
textured = with_corner_vals square (face 0) 1 (pos 8 ∷ pos 9 ∷ [])

-- exactly the moved vertex is noted, with where it was
abbrev pub MovedNotes : Type 0
MovedNotes = (get (change_set square moved).verts 2 ≡ Some (Some (point (pos 4) (pos 4))))
    × (get (change_set square moved).verts 1 ≡ None)
    × (get (change_set square moved).verts 4 ≡ None) × (get (change_set square moved).edges 2 ≡ None)
    × (get (change_set square moved).faces 0 ≡ None)
    × ((change_set square moved).next ≡ record { verts = 4; edges = 4; faces = 1 })

-- a new edge is noted as not there, the other way with its record
abbrev pub CrossedNotes : Type 0
CrossedNotes = (get (change_set square crossed).edges 4 ≡ Some None) × (get (change_set square crossed).edges 3 ≡ None)
    × ((change_set square crossed).next ≡ record { verts = 4; edges = 4; faces = 1 })
    × (get (change_set crossed square).edges 4 ≡ Some (Some (ends 0 2)))
    × ((change_set crossed square).next ≡ record { verts = 4; edges = 5; faces = 1 })

-- a face that is killed is noted with its record, and so is one that differs in the values of a corner alone
abbrev pub FaceNotes : Type 0
FaceNotes = (get (change_set strip (without_face strip (face 0))).faces 0
    ≡ Some (Some (face_of (corner 0 0 ∷ corner 1 1 ∷ corner 4 2 ∷ corner 3 3 ∷ []))))
    × (get (change_set strip (without_face strip (face 0))).faces 1 ≡ None)
    × (get (change_set square textured).faces 0
    ≡ Some (Some (face_of (corner 0 0 ∷ corner 1 1 ∷ corner 2 2 ∷ corner 3 3 ∷ []))))

-- an edge that is made and then killed: joined, it is noted as not there; trimmed, it isn't noted
abbrev pub JoinedNotes : Type 0
JoinedNotes = (get (join (change_set square crossed) (change_set crossed (without_edge crossed (edge 4)))).edges 4
    ≡ Some None)
    × (get (join (change_set square crossed) (change_set crossed moved)).verts 2 ≡ Some (Some (point (pos 4) (pos 4))))
    × (get (trim (join (change_set square crossed) (change_set crossed (without_edge crossed (edge 4))))
    (without_edge crossed (edge 4))).edges 4 ≡ None)
    × (get (opposite (change_set square moved) moved).verts 2 ≡ Some (Some (point (pos 9) (negsuc 0))))

-- notes that are written out: a vertex was elsewhere and one wasn't there, an edge ran the other way and one wasn't
-- there, nor was the face
abbrev pub vert_notes : List (ℕ × Option VertRec)
vert_notes = (1, Some (point (pos 7) (pos 7))) ∷ (0, None) ∷ []

abbrev pub edge_notes : List (ℕ × Option EdgeRec)
edge_notes = (2, None) ∷ (1, Some (ends 1 0)) ∷ []

abbrev pub face_notes : List (ℕ × Option FaceRec)
face_notes = (0, None) ∷ []

-- the past with these notes, before the last vertex and the last edge of the square were named
abbrev pub written : ChangeSet
written = record {
  verts = from_entries vert_notes;
  edges = from_entries edge_notes;
  faces = from_entries face_notes;
  next = record { verts = 3; edges = 3; faces = 1 };
}

-- and where it leads
abbrev pub Leads : Type 0
Leads = leads written square ≡ record square {
  verts = None ∷ Some (point (pos 7) (pos 7)) ∷ Some (point (pos 4) (pos 4)) ∷ [];
  edges = Some (ends 0 1) ∷ Some (ends 1 0) ∷ None ∷ [];
  faces = None ∷ [];
}
