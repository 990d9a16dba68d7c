-- Splicing and separating worked out on small models: names, records, and each refusal in order.
use Rattle.std.specs.Prelude.{◌≡◌, pos, true, false, [], ◌∷◌, ◌++◌}
use Rattle.std.specs.declared.option.Option.TheVariants.{None, Some}
use Rattle.mesh_model.specs.Complex.{Complex}
use Rattle.mesh_model.specs.Making.{with_edge}
use Rattle.mesh_model.specs.Tests.{is_valid, is_simple}
use Rattle.mesh_model.specs.Models.{vert, edge, face, point, ends, corner, face_of, square, strip, bow}
use Rattle.mesh_model.specs.EulerRows.{refused, refused_for, strip_cut, strip_mapped, weighted, marked, smoothed}
use Rattle.mesh_model.specs.EulerRows.{mapped}
use Rattle.mesh_model.specs.Splice.{splice_vert, splice_vert_refusal, splice_edge, splice_edge_refusal, separate_corner}
use Rattle.mesh_model.specs.Splice.{separate_corner_refusal, separate_vert, separate_vert_refusal}
use Rattle.mesh_model.specs.declared.names.Elem.TheVariants.{Vert, Edge, Face}
use Rattle.mesh_model.specs.declared.refusal.Why.TheVariants.{NoSuch, Repeated, Exists, Pinched, Apart, BadValue}
use Rattle.mesh_model.specs.declared.refusal.Why.TheVariants.{Valence, Empty}

-- ---- THE BOW: separated in its middle and spliced

-- its second triangle with a middle of its own
abbrev pub bow_separate : Complex
bow_separate = record bow {
  verts = bow.verts ++ Some (point (pos 0) (pos 0)) ∷ [];
  edges = Some (ends 0 1) ∷ Some (ends 1 2) ∷ Some (ends 2 0) ∷ Some (ends 5 3) ∷ Some (ends 3 4) ∷ Some (ends 4 5)
      ∷ [];
  faces = Some (face_of (corner 0 0 ∷ corner 1 1 ∷ corner 2 2 ∷ [])) ∷ Some
      (face_of (corner 5 3 ∷ corner 3 4 ∷ corner 4 5 ∷ [])) ∷ [];
}

-- the same records as before; the name stays given
abbrev pub bow_spliced : Complex
bow_spliced = record bow { verts = bow.verts ++ None ∷ [] }

-- a corner separated and spliced back, and the same by its two edges
abbrev pub BowSeparated : Type 0
BowSeparated = (separate_corner bow (face 1) 0 ≡ (bow_separate, vert 5))
    × (splice_vert bow_separate (vert 5) (vert 0) ≡ bow_spliced)
    × (separate_vert bow (vert 0) (edge 5 ∷ edge 3 ∷ []) ≡ (bow_separate, vert 5))
    × (separate_vert bow_spliced (vert 0) (edge 3 ∷ edge 5 ∷ []) ≡ (
      record bow_spliced {
        verts = bow.verts ++ None ∷ Some (point (pos 0) (pos 0)) ∷ [];
        edges = Some (ends 0 1) ∷ Some (ends 1 2) ∷ Some (ends 2 0) ∷ Some (ends 6 3) ∷ Some (ends 3 4) ∷ Some
            (ends 4 6) ∷ [];
        faces = Some (face_of (corner 0 0 ∷ corner 1 1 ∷ corner 2 2 ∷ [])) ∷ Some
            (face_of (corner 6 3 ∷ corner 3 4 ∷ corner 4 5 ∷ [])) ∷ [];
      },
      vert 6,
    ))

-- ---- EDGES WITH THE SAME ENDS

-- a second edge between two vertices, spliced into the first, and the first into the second
abbrev pub SquareSpliced : Type 0
SquareSpliced = (splice_edge (with_edge square (ends 0 1)) (edge 4) (edge 0) ≡ record square {
  edges =
      square.edges ++ None ∷ [];
})
    × (splice_edge (with_edge square (ends 1 0)) (edge 0) (edge 4) ≡ record square {
      edges = None ∷ Some (ends 1 2) ∷ Some (ends 2 3) ∷ Some (ends 3 0) ∷ Some (ends 1 0) ∷ [];
      faces = Some (face_of (corner 0 4 ∷ corner 1 1 ∷ corner 2 2 ∷ corner 3 3 ∷ [])) ∷ [];
    })

-- ---- THE STRIP: an edge that another face uses is copied, with its values and those of the vertex

-- the corner of the second face at v1: its edge from v4 is copied, and its edge to v2 is its own
abbrev pub StripSeparated : Type 0
StripSeparated = separate_corner strip_mapped (face 1) 0 ≡ (
  record strip_mapped {
    verts = strip_mapped.verts ++ Some (weighted 4 0 (pos 7 ∷ pos 10 ∷ pos 0 ∷ [])) ∷ [];
    edges = Some (marked (ends 0 1)) ∷ Some (marked (ends 1 4)) ∷ Some (marked (ends 4 3)) ∷ Some (marked (ends 3 0))
        ∷ Some (marked (ends 6 2)) ∷ Some (marked (ends 2 5)) ∷ Some (marked (ends 5 4)) ∷ Some (marked (ends 6 4))
        ∷ [];
    faces = Some (smoothed (mapped 0 0 0 0 0 ∷ mapped 1 1 100 0 5 ∷ mapped 4 2 200 8 6 ∷ mapped 3 3 0 0 0 ∷ []))
        ∷ Some (smoothed (mapped 6 4 400 4 2 ∷ mapped 2 5 0 0 0 ∷ mapped 5 6 0 0 0 ∷ mapped 4 7 300 0 1 ∷ [])) ∷ [];
  },
  vert 6,
)

-- where both edges are copied, the edge of the corner before has the first new name
abbrev pub BothCopied : Type 0
BothCopied = separate_corner strip_cut (face 1) 0 ≡ (
  record strip_cut {
    verts = strip.verts ++ Some (point (pos 4) (pos 0)) ∷ [];
    edges = strip.edges ++ Some (ends 1 5) ∷ Some (ends 6 4) ∷ Some (ends 6 5) ∷ [];
    faces = Some (face_of (corner 0 0 ∷ corner 1 1 ∷ corner 4 2 ∷ corner 3 3 ∷ [])) ∷ Some
        (face_of (corner 6 9 ∷ corner 5 6 ∷ corner 4 8 ∷ []))
        ∷ Some (face_of (corner 1 4 ∷ corner 2 5 ∷ corner 5 7 ∷ [])) ∷ [];
  },
  vert 6,
)

-- the results are valid, but a splice may leave two edges with the same ends
abbrev pub SpliceResults : Type 0
SpliceResults = (is_valid bow_separate ≡ true) × (is_valid (separate_corner strip_mapped (face 1) 0).0 ≡ true)
    × (is_simple (separate_corner strip_cut (face 1) 0).0 ≡ true)
    × (is_valid (splice_vert strip (vert 0) (vert 2)) ≡ true)
    × (is_simple (splice_vert strip (vert 0) (vert 2)) ≡ false)

-- ---- REFUSALS

abbrev pub SpliceVertRefusals : Type 0
SpliceVertRefusals = (splice_vert_refusal square (vert 9) (vert 8) ≡ refused_for NoSuch (Vert (vert 9)))
    × (splice_vert_refusal square (vert 0) (vert 8) ≡ refused_for NoSuch (Vert (vert 8)))
    × (splice_vert_refusal square (vert 0) (vert 0) ≡ refused_for Repeated (Vert (vert 0)))
    × (splice_vert_refusal square (vert 1) (vert 0) ≡ refused_for Exists (Edge (edge 0)))
    × (splice_vert_refusal square (vert 0) (vert 2) ≡ refused_for Pinched (Face (face 0)))
    × (splice_vert_refusal strip (vert 0) (vert 2) ≡ None)

abbrev pub SpliceEdgeRefusals : Type 0
SpliceEdgeRefusals = (splice_edge_refusal square (edge 9) (edge 8) ≡ refused_for NoSuch (Edge (edge 9)))
    × (splice_edge_refusal square (edge 0) (edge 8) ≡ refused_for NoSuch (Edge (edge 8)))
    × (splice_edge_refusal square (edge 0) (edge 0) ≡ refused_for Apart (Edge (edge 0)))
    × (splice_edge_refusal square (edge 0) (edge 1) ≡ refused_for Apart (Edge (edge 0)))
    × (splice_edge_refusal (with_edge square (ends 1 0)) (edge 4) (edge 0) ≡ None)

abbrev pub SeparateCornerRefusals : Type 0
SeparateCornerRefusals = (separate_corner_refusal square (face 1) 4 ≡ refused_for NoSuch (Face (face 1)))
    × (separate_corner_refusal square (face 0) 4 ≡ refused BadValue)
    × (separate_corner_refusal square (face 0) 0 ≡ refused_for Valence (Vert (vert 0)))
    × (separate_corner_refusal strip (face 1) 1 ≡ refused_for Valence (Vert (vert 2)))
    × (separate_corner_refusal strip (face 1) 0 ≡ None) × (separate_corner_refusal bow (face 1) 0 ≡ None)

-- names are tried in the order in which they are given; of the edges that aren't at the vertex the least is named
abbrev pub SeparateVertRefusals : Type 0
SeparateVertRefusals = (separate_vert_refusal bow (vert 9) [] ≡ refused_for NoSuch (Vert (vert 9)))
    × (separate_vert_refusal bow (vert 0) (edge 3 ∷ edge 9 ∷ edge 8 ∷ []) ≡ refused_for NoSuch (Edge (edge 9)))
    × (separate_vert_refusal bow (vert 0) [] ≡ refused Empty)
    × (separate_vert_refusal bow (vert 0) (edge 4 ∷ edge 1 ∷ edge 0 ∷ []) ≡ refused_for Apart (Edge (edge 1)))
    × (separate_vert_refusal bow (vert 0) (edge 5 ∷ edge 0 ∷ edge 3 ∷ edge 2 ∷ [])
    ≡ refused_for Valence (Vert (vert 0)))
    × (separate_vert_refusal bow (vert 0) (edge 5 ∷ edge 3 ∷ edge 0 ∷ []) ≡ refused_for Pinched (Face (face 0)))
    × (separate_vert_refusal bow (vert 0) (edge 5 ∷ edge 3 ∷ []) ≡ None)
