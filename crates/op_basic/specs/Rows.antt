-- Operators on small models, worked out by hand.
use Rattle.std.specs.Prelude.{◌≡◌, ℕ, ℤ, pos, negsuc, List, [], ◌∷◌, ◌++◌, map, replicate, Result, Ok, Err}
use Rattle.std.specs.declared.option.Option.{Option}
use Rattle.std.specs.declared.option.Option.TheVariants.{None, Some}
use Rattle.std.specs.List.{fold}
use Rattle.mesh_model.specs.Table.{at, erase}
use Rattle.mesh_model.specs.Complex.{Complex, new_model, fixed_layers}
use Rattle.mesh_model.specs.Elements.{Elements, no_elements}
use Rattle.mesh_model.specs.Making.{with_vert}
use Rattle.mesh_model.specs.Kernel.{reversed_face}
use Rattle.mesh_model.specs.Models.{weight, mark, vert, edge, face, point, ends, corner, face_of, model, square, strip}
use Rattle.mesh_model.specs.Models.{fin}
use Rattle.mesh_model.specs.declared.names.Elem.TheVariants.{Vert, Edge, Face}
use Rattle.mesh_model.specs.declared.records.Point.{Point}
use Rattle.mesh_model.specs.declared.records.VertRec.{VertRec}
use Rattle.mesh_model.specs.declared.refusal.Refusal.{Refusal}
use Rattle.mesh_model.specs.declared.refusal.Why.{Why}
use Rattle.mesh_model.specs.declared.refusal.Why.TheVariants.{BadValue, Repeated, Exists, TooShort, TooLong}
use Rattle.mesh_model.specs.declared.refusal.Why.TheVariants.{OutOfGrid}
use Rattle.mesh_model.specs.declared.refusal.Place.TheVariants as place
use Rattle.op_slots.specs.declared.op.Context.TheVariants as context
use Rattle.op_slots.specs.declared.op.Axis.TheVariants as axis
use Rattle.op_slots.specs.declared.slots.Slots.{Slots}
use Rattle.mesh_passes.specs.Row.{only, no_slots}
use Rattle.op_basic.specs.Making.{make_vert_row, make_edge_refusal, make_edge_row, make_face_refusal, make_face_row}
use Rattle.op_basic.specs.Motions.{translate_refusal, translate_row, scale_refusal, scale_result, mirror_refusal}
use Rattle.op_basic.specs.Motions.{mirror_result}
use Rattle.op_basic.specs.Turning.{reverse_result, reverse_row}
use Rattle.op_basic.specs.Deleting.{remaining, delete_result}

-- the point of three coordinates
abbrev pub place_at : ℤ → ℤ → ℤ → Point
place_at x y z = record { x = x; y = y; z = z }

-- a vertex at a point, with no layer of vertices
abbrev pub vert_rec_at : ℤ → ℤ → ℤ → VertRec
vert_rec_at x y z = record { point = place_at x y z; vals = [] }

-- some vertices and nothing else, some edges, some faces
abbrev pub verts_only : List ℕ → Elements
verts_only ns = record no_elements { verts = map vert ns }

abbrev pub edges_only : List ℕ → Elements
edges_only ns = record no_elements { edges = map edge ns }

abbrev pub faces_only : List ℕ → Elements
faces_only ns = record no_elements { faces = map face ns }

-- refused without an element
abbrev pub refused : Why → Result (Slots × Complex) Refusal
refused why = Err (record { why = why; place = place.Nowhere })

-- a model with three vertices and nothing else
abbrev pub three_verts : Complex
three_verts = fold with_vert new_model
    (point (pos 0) (pos 0) ∷ point (pos 4) (pos 0) ∷ point (pos 0) (pos 4) ∷ [])

-- a vertex one step from the end of the grid
abbrev pub at_the_end : Complex
at_the_end = with_vert new_model (vert_rec_at (pos 999999999) (pos 0) (pos 0))

-- two vertices at the point 1, 2, 3
abbrev pub two_verts : Complex
two_verts = with_vert (with_vert new_model (vert_rec_at (pos 1) (pos 2) (pos 3))) (vert_rec_at (pos 1) (pos 2) (pos 3))

-- ---- MAKING

-- the triangle on the three vertices: its edges are made in the order of the list
abbrev pub triangle : Complex
triangle = record three_verts {
  edges = Some (ends 0 1) ∷ Some (ends 1 2) ∷ Some (ends 2 0) ∷ [];
  faces = Some (face_of (corner 0 0 ∷ corner 1 1 ∷ corner 2 2 ∷ [])) ∷ [];
}

-- a vertex, and one off the grid
abbrev pub MakesVerts : Type 0
MakesVerts =
    (make_vert_row (place_at (pos 0) (pos 0) (pos 0)) new_model
    ≡ Ok (only (verts_only (0 ∷ [])), with_vert new_model (point (pos 0) (pos 0))))
    × (make_vert_row (place_at (pos 0) (pos 1000000001) (pos 0)) new_model ≡ refused BadValue)

-- a face with its edges; the same vertices again, in the other order; an edge that is there; an edge with one end; two
-- vertices for a face; three for an edge
abbrev pub MakesFaces : Type 0
MakesFaces =
    (make_face_row (vert 0 ∷ vert 1 ∷ vert 2 ∷ []) three_verts
    ≡ Ok (only (record (edges_only (0 ∷ 1 ∷ 2 ∷ [])) { faces = face 0 ∷ [] }), triangle))
    × (make_face_refusal (vert 2 ∷ vert 1 ∷ vert 0 ∷ []) triangle ≡ Some (record { why = Exists; place = place.Elem (Face (face 0)) }))
    × (make_edge_refusal (vert 0 ∷ vert 1 ∷ []) triangle ≡ Some (record { why = Exists; place = place.Elem (Edge (edge 0)) }))
    × (make_edge_refusal (vert 0 ∷ vert 0 ∷ []) triangle ≡ Some (record { why = Repeated; place = place.Elem (Vert (vert 0)) }))
    × (make_face_refusal (vert 0 ∷ vert 1 ∷ []) square ≡ Some (record { why = TooShort; place = place.Nowhere }))
    × (make_edge_refusal (vert 0 ∷ vert 1 ∷ vert 2 ∷ []) square ≡ Some (record { why = BadValue; place = place.Nowhere }))

-- a diagonal of the square
abbrev pub MakesEdges : Type 0
MakesEdges = make_edge_row (vert 2 ∷ vert 0 ∷ []) square
    ≡ Ok (only (edges_only (4 ∷ [])), record square { edges = square.edges ++ Some (ends 2 0) ∷ [] })

-- ---- MOTIONS

-- to the end of the grid, and not past it
abbrev pub Translates : Type 0
Translates =
    (translate_row (vert 0 ∷ []) (place_at (pos 1) (pos 0) (pos 0)) at_the_end
    ≡ Ok (only (verts_only (0 ∷ [])), with_vert new_model (vert_rec_at (pos 1000000000) (pos 0) (pos 0))))
    × (translate_refusal (vert 0 ∷ []) (place_at (pos 2) (pos 0) (pos 0)) at_the_end
    ≡ Some (record { why = OutOfGrid; place = place.Elem (Vert (vert 0)) }))

-- the second vertex is mirror_result, and then scaled by three halves, rounded down; a denominator 0; a mirror image off the
-- grid
abbrev pub MirrorsAndScales : Type 0
MirrorsAndScales =
    let turned = (mirror_result (vert 1 ∷ []) axis.X (pos 0) two_verts).1 in
    (turned ≡ with_vert (with_vert new_model (vert_rec_at (pos 1) (pos 2) (pos 3))) (vert_rec_at (negsuc 0) (pos 2) (pos 3)))
    × (scale_result (vert 1 ∷ []) (place_at (pos 0) (pos 0) (pos 0)) (pos 3) (pos 2) turned
    ≡ (
      only (verts_only (1 ∷ [])),
      with_vert (with_vert new_model (vert_rec_at (pos 1) (pos 2) (pos 3)))
          (vert_rec_at (negsuc 1) (pos 3) (pos 4)),
    ))
    × (scale_refusal (vert 1 ∷ []) (place_at (pos 0) (pos 0) (pos 0)) (pos 1) (pos 0) two_verts
    ≡ Some (record { why = BadValue; place = place.Nowhere }))
    × (mirror_refusal (vert 0 ∷ []) axis.X (negsuc 0) at_the_end
    ≡ Some (record { why = OutOfGrid; place = place.Elem (Vert (vert 0)) }))

-- ---- FACES TURNED OVER

abbrev pub Reverses : Type 0
Reverses = reverse_row (face 0 ∷ []) square
    ≡ Ok (
      only (faces_only (0 ∷ [])),
      record square {
        faces = Some (face_of (corner 0 3 ∷ corner 3 2 ∷ corner 2 1 ∷ corner 1 0 ∷ [])) ∷ [];
      },
    )

-- ---- DELETING

-- one triangle of the fin: with its own two edges and its vertex; alone; with no edge, since the shared one has other
-- corners. Both squares of the strip with the edge between them; one of them with its own edges and vertices
abbrev pub DeletesFaces : Type 0
DeletesFaces =
    (delete_result context.Faces (faces_only (1 ∷ [])) fin ≡ (
      no_slots,
      record fin {
        verts = erase fin.verts 3;
        edges = erase (erase fin.edges 3) 4;
        faces = erase fin.faces 1;
      },
    ))
    × (remaining context.FacesOnly (faces_only (1 ∷ [])) fin ≡ record fin { faces = erase fin.faces 1 })
    × (remaining context.FacesKeepBoundary (faces_only (1 ∷ [])) fin ≡ record fin { faces = erase fin.faces 1 })
    × (remaining context.FacesKeepBoundary (faces_only (0 ∷ 1 ∷ [])) strip ≡ record strip {
      edges = erase strip.edges 1;
      faces = None ∷ None ∷ [];
    })
    × (remaining context.Faces (faces_only (0 ∷ [])) strip ≡ record strip {
      verts = erase (erase strip.verts 0) 3;
      edges = erase (erase (erase strip.edges 0) 2) 3;
      faces = erase strip.faces 0;
    })

-- two edges of one triangle of the fin: with the vertex between them; alone. The shared edge takes
-- all three triangles, and no vertex
abbrev pub DeletesEdges : Type 0
DeletesEdges =
    (remaining context.Edges (edges_only (1 ∷ 2 ∷ [])) fin ≡ record fin {
      verts = erase fin.verts 2;
      edges = erase (erase fin.edges 1) 2;
      faces = erase fin.faces 0;
    })
    × (remaining context.EdgesFaces (edges_only (1 ∷ 2 ∷ [])) fin ≡ record fin {
      edges = erase (erase fin.edges 1) 2;
      faces = erase fin.faces 0;
    })
    × (remaining context.Edges (edges_only (0 ∷ [])) fin ≡ record fin {
      edges = erase fin.edges 0;
      faces = None ∷ None ∷ None ∷ [];
    })

-- a vertex of the fin takes its edges and its triangle
abbrev pub DeletesVerts : Type 0
DeletesVerts = remaining context.Verts (verts_only (3 ∷ [])) fin ≡ record fin {
  verts = erase fin.verts 3;
  edges = erase (erase fin.edges 3) 4;
  faces = erase fin.faces 1;
}

-- ---- MORE OF EACH

-- two vertices and the edge between them, with layers of vertices and of edges
abbrev pub layered : Complex
layered = record new_model {
  layers = record fixed_layers { verts = mark ∷ weight ∷ []; edges = mark ∷ [] };
  verts = Some (record (point (pos 0) (pos 0)) { vals = pos 1 ∷ pos 2 ∷ pos 3 ∷ [] })
      ∷ Some (record (point (pos 4) (pos 0)) { vals = pos 4 ∷ pos 5 ∷ pos 6 ∷ [] }) ∷ [];
  edges = Some (record (ends 0 1) { vals = pos 7 ∷ [] }) ∷ [];
}

-- three triangles round a vertex
abbrev pub wheel : Complex
wheel = model (point (pos 0) (pos 0) ∷ point (pos 4) (pos 0) ∷ point (pos 0) (pos 4) ∷ point (pos 1) (pos 1) ∷ [])
    ((0 ∷ 1 ∷ 3 ∷ []) ∷ (1 ∷ 2 ∷ 3 ∷ []) ∷ (2 ∷ 0 ∷ 3 ∷ []) ∷ [])

-- a refusal without an element, and one at a vertex
abbrev pub plainly : Why → Option Refusal
plainly why = Some (record { why = why; place = place.Nowhere })

abbrev pub at_vert : Why → ℕ → Option Refusal
at_vert why n = Some (record { why = why; place = place.Elem (Vert (vert n)) })

-- the least vertex that repeats; fewer vertices than a face has, with two edges that are there; more than a face has;
-- one vertex 4,097 times, and once less
abbrev pub MakesOtherFaces : Type 0
MakesOtherFaces =
    (make_face_refusal (vert 2 ∷ vert 1 ∷ vert 2 ∷ vert 1 ∷ []) square ≡ at_vert Repeated 1)
    × (make_face_row (vert 2 ∷ vert 1 ∷ vert 0 ∷ []) square
    ≡ Ok (
      only (record (edges_only (4 ∷ [])) { faces = face 1 ∷ [] }),
      record square {
        edges = square.edges ++ Some (ends 0 2) ∷ [];
        faces = square.faces ++ Some (face_of (corner 2 1 ∷ corner 1 0 ∷ corner 0 4 ∷ [])) ∷ [];
      },
    ))
    × (make_face_refusal (vert 0 ∷ vert 1 ∷ vert 4 ∷ vert 3 ∷ vert 2 ∷ []) strip ≡ None)
    × (make_face_refusal (replicate 4097 (vert 0)) square ≡ Some (record { why = TooLong; place = place.Nowhere }))
    × (make_face_refusal (replicate 4096 (vert 0)) square ≡ at_vert Repeated 0)

-- the least vertex that leaves, past one that stays; a way longer than the grid
abbrev pub LeavesTheGrid : Type 0
LeavesTheGrid =
    (translate_refusal (vert 0 ∷ vert 1 ∷ vert 2 ∷ []) (place_at (pos 1000000000) (pos 0) (pos 0)) three_verts
    ≡ at_vert OutOfGrid 1)
    × (translate_refusal (vert 1 ∷ vert 2 ∷ []) (place_at (pos 0) (pos 0) (pos 1000000001)) three_verts
    ≡ at_vert OutOfGrid 1)
    × (translate_refusal (vert 0 ∷ []) (place_at (negsuc 1999999998) (pos 0) (pos 0)) at_the_end ≡ None)

-- about 2, 0, 3 by minus a quarter; the bounds of the factor and of the centre
abbrev pub ScalesAbout : Type 0
ScalesAbout =
    ((scale_result (vert 1 ∷ []) (place_at (pos 2) (pos 0) (pos 3)) (negsuc 0) (pos 4) two_verts).1
    ≡ with_vert (with_vert new_model (vert_rec_at (pos 1) (pos 2) (pos 3))) (vert_rec_at (pos 2) (negsuc 0) (pos 3)))
    × (scale_refusal (vert 1 ∷ []) (place_at (pos 0) (pos 0) (pos 0)) (negsuc 999999) (pos 1000000) two_verts ≡ None)
    × (scale_refusal (vert 1 ∷ []) (place_at (pos 0) (pos 0) (pos 0)) (negsuc 1000000) (pos 1) two_verts
    ≡ plainly BadValue)
    × (scale_refusal (vert 1 ∷ []) (place_at (pos 0) (pos 0) (pos 0)) (pos 1000001) (pos 1000000) two_verts
    ≡ plainly BadValue)
    × (scale_refusal (vert 1 ∷ []) (place_at (pos 0) (pos 0) (pos 0)) (pos 1) (pos 1000001) two_verts ≡ plainly BadValue)
    × (scale_refusal (vert 1 ∷ []) (place_at (pos 0) (pos 1000000001) (pos 0)) (pos 1) (pos 1) two_verts
    ≡ plainly BadValue)

-- the other two axes; a plane off the grid
abbrev pub MirrorsOthers : Type 0
MirrorsOthers =
    ((mirror_result (vert 0 ∷ []) axis.Y (pos 3) two_verts).1
    ≡ with_vert (with_vert new_model (vert_rec_at (pos 1) (pos 4) (pos 3))) (vert_rec_at (pos 1) (pos 2) (pos 3)))
    × ((mirror_result (vert 0 ∷ []) axis.Z (negsuc 0) two_verts).1
    ≡ with_vert (with_vert new_model (vert_rec_at (pos 1) (pos 2) (negsuc 4))) (vert_rec_at (pos 1) (pos 2) (pos 3)))
    × (mirror_refusal (vert 0 ∷ []) axis.X (pos 1000000001) two_verts ≡ plainly BadValue)

-- one face of two is turned over
abbrev pub ReversesOne : Type 0
ReversesOne = (reverse_result (face 1 ∷ []) strip).1 ≡ reversed_face strip (face 1)

-- the boundary stays: all triangles round a vertex, two of them; an edge of three corners with two of them, and with all
abbrev pub KeepsBoundary : Type 0
KeepsBoundary =
    (remaining context.FacesKeepBoundary (faces_only (0 ∷ 1 ∷ 2 ∷ [])) wheel ≡ record wheel {
      verts = erase wheel.verts 3;
      edges = erase (erase (erase wheel.edges 1) 2) 4;
      faces = None ∷ None ∷ None ∷ [];
    })
    × (remaining context.FacesKeepBoundary (faces_only (0 ∷ 1 ∷ [])) wheel
    ≡ record wheel { edges = erase wheel.edges 1; faces = None ∷ None ∷ at wheel.faces 2 ∷ [] })
    × (remaining context.FacesKeepBoundary (faces_only (0 ∷ 1 ∷ [])) fin
    ≡ record fin { faces = None ∷ None ∷ at fin.faces 2 ∷ [] })
    × (remaining context.FacesKeepBoundary (faces_only (0 ∷ 1 ∷ 2 ∷ [])) fin
    ≡ record fin { edges = erase fin.edges 0; faces = None ∷ None ∷ None ∷ [] })

-- two triangles of the fin with the edges and vertices that are theirs alone; a loose edge with its ends, and alone
abbrev pub DeletesMore : Type 0
DeletesMore =
    (remaining context.Faces (faces_only (0 ∷ 1 ∷ [])) fin ≡ record fin {
      verts = erase (erase fin.verts 2) 3;
      edges = erase (erase (erase (erase fin.edges 1) 2) 3) 4;
      faces = None ∷ None ∷ at fin.faces 2 ∷ [];
    })
    × (remaining context.Edges (edges_only (0 ∷ [])) layered
    ≡ record layered { verts = None ∷ None ∷ []; edges = None ∷ [] })
    × (remaining context.EdgesFaces (edges_only (0 ∷ [])) layered ≡ record layered { edges = None ∷ [] })
