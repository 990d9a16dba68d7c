-- Copies on small models, worked out by hand.
use Rattle.std.specs.Prelude.{◌≡◌, ℕ, pos, [], ◌∷◌, ◌++◌, Ok}
use Rattle.std.specs.declared.option.Option.TheVariants.{None, Some}
use Rattle.mesh_model.specs.Table.{at, erase}
use Rattle.mesh_model.specs.Complex.{Complex, new_model, fixed_layers}
use Rattle.mesh_model.specs.Elements.{no_elements}
use Rattle.mesh_model.specs.Kernel.{with_face_vals, with_corner_vals}
use Rattle.mesh_model.specs.Models.{weight, mark, vert, edge, face, point, ends, corner, face_of, model, strip, fin}
use Rattle.op_slots.specs.declared.slots.Slots.{Slots}
use Rattle.op_slots.specs.declared.mapping.Pair.{Pair}
use Rattle.op_copies.specs.Duplicating.{duplicate_result, duplicate_row, split_result, split_row}

-- a vertex with its copy
abbrev pub copy_of : ℕ → ℕ → Pair
copy_of a b = record { source = vert a; target = vert b }

-- the three triangles of the fin, on a copy of their edge
abbrev pub Duplicates : Type 0
Duplicates = duplicate_row (record no_elements { faces = face 0 ∷ face 1 ∷ face 2 ∷ [] }) fin
    ≡ Ok (
      record {
        geom = record {
          verts = vert 5 ∷ vert 6 ∷ vert 7 ∷ vert 8 ∷ vert 9 ∷ [];
          edges = edge 7 ∷ edge 8 ∷ edge 9 ∷ edge 10 ∷ edge 11 ∷ edge 12 ∷ edge 13 ∷ [];
          faces = face 3 ∷ face 4 ∷ face 5 ∷ [];
        };
        map = copy_of 0 5 ∷ copy_of 1 6 ∷ copy_of 2 7 ∷ copy_of 3 8 ∷ copy_of 4 9 ∷ [];
      },
      record fin {
        verts = fin.verts ++ fin.verts;
        edges = fin.edges ++ Some (ends 5 6) ∷ Some (ends 6 7) ∷ Some (ends 7 5) ∷ Some (ends 6 8) ∷ Some (ends 8 5)
            ∷ Some (ends 6 9) ∷ Some (ends 9 5) ∷ [];
        faces = fin.faces ++ Some (face_of (corner 5 7 ∷ corner 6 8 ∷ corner 7 9 ∷ []))
            ∷ Some (face_of (corner 5 7 ∷ corner 6 10 ∷ corner 8 11 ∷ []))
            ∷ Some (face_of (corner 5 7 ∷ corner 6 12 ∷ corner 9 13 ∷ [])) ∷ [];
      },
    )

-- the first square of the strip goes to copies of its own; the edge between the squares stays with the second one
abbrev pub Splits : Type 0
Splits = split_row (record no_elements { faces = face 0 ∷ [] }) strip
    ≡ Ok (
      record {
        geom = record {
          verts = vert 6 ∷ vert 7 ∷ vert 8 ∷ vert 9 ∷ [];
          edges = edge 7 ∷ edge 8 ∷ edge 9 ∷ edge 10 ∷ [];
          faces = face 2 ∷ [];
        };
        map = copy_of 0 6 ∷ copy_of 1 7 ∷ copy_of 3 8 ∷ copy_of 4 9 ∷ [];
      },
      record strip {
        verts = erase (erase strip.verts 0) 3 ++ at strip.verts 0 ∷ at strip.verts 1 ∷ at strip.verts 3 ∷ at strip.verts 4
            ∷ [];
        edges = erase (erase (erase strip.edges 0) 2) 3
            ++ Some (ends 6 7) ∷ Some (ends 7 9) ∷ Some (ends 9 8) ∷ Some (ends 8 6) ∷ [];
        faces = erase strip.faces 0 ++ Some (face_of (corner 6 7 ∷ corner 7 8 ∷ corner 9 9 ∷ corner 8 10 ∷ [])) ∷ [];
      },
    )

-- a model with three vertices and nothing else
abbrev pub lone_verts : Complex
lone_verts = model (point (pos 0) (pos 0) ∷ point (pos 4) (pos 0) ∷ point (pos 0) (pos 4) ∷ []) []

-- a vertex alone, without edges, is copied and goes
abbrev pub SplitsAVert : Type 0
SplitsAVert = split_result (record no_elements { verts = vert 1 ∷ [] }) lone_verts
    ≡ (
      record { geom = record no_elements { verts = vert 3 ∷ [] }; map = copy_of 1 3 ∷ [] },
      record lone_verts { verts = erase lone_verts.verts 1 ++ at lone_verts.verts 1 ∷ [] },
    )

-- two vertices and the edge between them, with a layer of vertices and one of edges
abbrev pub marked : Complex
marked = record new_model {
  layers = record fixed_layers { verts = weight ∷ []; edges = mark ∷ [] };
  verts = Some (record (point (pos 0) (pos 0)) { vals = pos 1 ∷ pos 2 ∷ [] })
      ∷ Some (record (point (pos 4) (pos 0)) { vals = pos 3 ∷ pos 4 ∷ [] }) ∷ [];
  edges = Some (record (ends 0 1) { vals = pos 7 ∷ [] }) ∷ [];
}

-- copies keep values; a loose edge is copied, and split off it goes with both ends
abbrev pub CopiesValues : Type 0
CopiesValues =
    let slots : Slots = record {
      geom = record { verts = vert 2 ∷ vert 3 ∷ []; edges = edge 1 ∷ []; faces = [] };
      map = copy_of 0 2 ∷ copy_of 1 3 ∷ [];
    } in
    (duplicate_result (record no_elements { edges = edge 0 ∷ [] }) marked ≡ (
      slots,
      record marked {
        verts = marked.verts ++ marked.verts;
        edges = marked.edges ++ Some (record (ends 2 3) { vals = pos 7 ∷ [] }) ∷ [];
      },
    ))
    × (split_result (record no_elements { edges = edge 0 ∷ [] }) marked ≡ (
      slots,
      record marked {
        verts = None ∷ None ∷ marked.verts;
        edges = None ∷ Some (record (ends 2 3) { vals = pos 7 ∷ [] }) ∷ [];
      },
    ))

-- a triangle, whose corners have places in the texture and whose face has a smoothing group
abbrev pub smooth_triangle : Complex
smooth_triangle = with_face_vals
    (with_corner_vals (model (point (pos 0) (pos 0) ∷ point (pos 4) (pos 0) ∷ point (pos 0) (pos 4) ∷ [])
    ((0 ∷ 1 ∷ 2 ∷ []) ∷ [])) (face 0) 1 (pos 7 ∷ pos 8 ∷ [])) (face 0) (pos 0 ∷ pos 3 ∷ [])

-- and so do faces and corners
abbrev pub CopiesCorners : Type 0
CopiesCorners = (duplicate_result (record no_elements { faces = face 0 ∷ [] }) smooth_triangle).1.faces
    ≡ Some (record {
      corners = corner 0 0 ∷ record (corner 1 1) { vals = pos 7 ∷ pos 8 ∷ [] } ∷ corner 2 2 ∷ [];
      vals = pos 0 ∷ pos 3 ∷ [];
    }) ∷ Some (record {
      corners = corner 3 3 ∷ record (corner 4 4) { vals = pos 7 ∷ pos 8 ∷ [] } ∷ corner 5 5 ∷ [];
      vals = pos 0 ∷ pos 3 ∷ [];
    }) ∷ []
