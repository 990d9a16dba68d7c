-- Values of layers set on small models, worked out by hand.
use Rattle.std.specs.Prelude.{◌≡◌, ℕ, ℤ, pos, negsuc, List, [], ◌∷◌, map, codes, Result, Ok, Err}
use Rattle.std.specs.declared.option.Option.{Option}
use Rattle.std.specs.declared.option.Option.TheVariants.{None, Some}
use Rattle.cust_data.specs.declared.rule.Rule.TheVariants.{Mix}
use Rattle.mesh_model.specs.Table.{at}
use Rattle.mesh_model.specs.Complex.{Complex, new_model, no_layers, fixed_layers, material_layer}
use Rattle.mesh_model.specs.Elements.{Elements, no_elements}
use Rattle.mesh_model.specs.Kernel.{with_face_vals}
use Rattle.mesh_model.specs.Models.{weight, mark, vert, edge, face, point, ends, corner, face_of, square, strip}
use Rattle.mesh_model.specs.declared.names.Kind.TheVariants as kind
use Rattle.mesh_model.specs.declared.records.CornerRec.{CornerRec}
use Rattle.mesh_model.specs.declared.refusal.Refusal.{Refusal}
use Rattle.mesh_model.specs.declared.refusal.Why.{Why}
use Rattle.mesh_model.specs.declared.refusal.Why.TheVariants.{BadValue, NoLayer}
use Rattle.mesh_model.specs.declared.refusal.Place.TheVariants as place
use Rattle.mesh_passes.specs.Row.{only}
use Rattle.op_values.specs.Setting.{set_refusal, set_result, set_row}

-- some vertices and nothing else, some edges, some faces
abbrev pub verts_only : List ℕ → Elements
verts_only ns = record no_elements { verts = map vert ns }

abbrev pub edges_only : List ℕ → Elements
edges_only ns = record no_elements { edges = map edge ns }

abbrev pub faces_only : List ℕ → Elements
faces_only ns = record no_elements { faces = map face ns }

-- a refusal without an element
abbrev pub plainly : Why → Option Refusal
plainly why = Some (record { why = why; place = place.Nowhere })

-- two vertices and the edge between them, with layers of vertices and of edges
abbrev pub layered : Complex
layered = record new_model {
  layers = record fixed_layers { verts = mark ∷ weight ∷ []; edges = mark ∷ [] };
  verts = Some (record (point (pos 0) (pos 0)) { vals = pos 1 ∷ pos 2 ∷ pos 3 ∷ [] })
      ∷ Some (record (point (pos 4) (pos 0)) { vals = pos 4 ∷ pos 5 ∷ pos 6 ∷ [] }) ∷ [];
  edges = Some (record (ends 0 1) { vals = pos 7 ∷ [] }) ∷ [];
}

-- a face put into the smoothing group 3, whose material stays; no layer of that name; two numbers for one; a material
-- that isn't there; a group below 0
abbrev pub SetsValues : Type 0
SetsValues =
    (set_row kind.Faces (faces_only (0 ∷ [])) (codes "smooth") (pos 3 ∷ []) square
    ≡ Ok (
      only (faces_only (0 ∷ [])),
      record square {
        faces = Some (record (face_of (corner 0 0 ∷ corner 1 1 ∷ corner 2 2 ∷ corner 3 3 ∷ [])) {
          vals = pos 0 ∷ pos 3 ∷ [];
        }) ∷ [];
      },
    ))
    × (set_refusal kind.Faces (faces_only (0 ∷ [])) (codes "weight") (pos 1 ∷ []) square
    ≡ plainly NoLayer)
    × (set_refusal kind.Faces (faces_only (0 ∷ [])) (codes "smooth") (pos 1 ∷ pos 2 ∷ []) square
    ≡ plainly BadValue)
    × (set_refusal kind.Faces (faces_only (0 ∷ [])) (codes "material") (pos 1 ∷ []) square
    ≡ plainly BadValue)
    × (set_refusal kind.Faces (faces_only (0 ∷ [])) (codes "smooth") (negsuc 0 ∷ []) square
    ≡ plainly BadValue)

-- a corner with a place in the texture
abbrev pub textured : ℕ → ℕ → CornerRec
textured v e = record (corner v e) { vals = pos 7 ∷ pos 8 ∷ [] }

-- a place in the texture for each corner of a face
abbrev pub SetsCorners : Type 0
SetsCorners = set_result kind.Corners (faces_only (0 ∷ [])) (codes "uv") (pos 7 ∷ pos 8 ∷ []) square
    ≡ (
      only (faces_only (0 ∷ [])),
      record square { faces = Some (face_of (textured 0 0 ∷ textured 1 1 ∷ textured 2 2 ∷ textured 3 3 ∷ [])) ∷ [] },
    )

-- the second layer of one vertex, an edge's, one face of two; the range; a material that is there, one past the last,
-- and a layer that only has its name
abbrev pub SetsLayers : Type 0
SetsLayers =
    ((set_result kind.Verts (verts_only (1 ∷ [])) (codes "weight") (pos 8 ∷ pos 9 ∷ []) layered).1 ≡ record layered {
      verts = at layered.verts 0 ∷ Some (record (point (pos 4) (pos 0)) { vals = pos 4 ∷ pos 8 ∷ pos 9 ∷ [] }) ∷ [];
    })
    × ((set_result kind.Edges (edges_only (0 ∷ [])) (codes "mark") (negsuc 0 ∷ []) layered).1
    ≡ record layered { edges = Some (record (ends 0 1) { vals = negsuc 0 ∷ [] }) ∷ [] })
    × ((set_result kind.Faces (faces_only (1 ∷ [])) (codes "smooth") (pos 2 ∷ []) strip).1
    ≡ with_face_vals strip (face 1) (pos 0 ∷ pos 2 ∷ []))
    × (set_refusal kind.Edges (edges_only (0 ∷ [])) (codes "mark") (pos 1000000000 ∷ []) layered ≡ None)
    × (set_refusal kind.Edges (edges_only (0 ∷ [])) (codes "mark") (pos 1000000001 ∷ []) layered ≡ plainly BadValue)
    × (set_refusal kind.Faces (faces_only (0 ∷ [])) (codes "material") (pos 1 ∷ [])
    (record square { materials = codes "wood" ∷ [] }) ≡ None)
    × (set_refusal kind.Faces (faces_only (0 ∷ [])) (codes "material") (pos 2 ∷ [])
    (record square { materials = codes "wood" ∷ [] }) ≡ plainly BadValue)
    × (set_refusal kind.Faces (faces_only (0 ∷ [])) (codes "material") (pos 1 ∷ [])
    (record square { layers = record no_layers { faces = record material_layer { rule = Mix } ∷ [] } }) ≡ None)
