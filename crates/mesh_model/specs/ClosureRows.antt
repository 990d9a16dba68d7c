-- Closures and new elements, worked out on the fin and the strip.
use Rattle.std.specs.Prelude.{◌≡◌, pos, true, false, [], ◌∷◌}
use Rattle.mesh_model.specs.Elements.{no_elements}
use Rattle.mesh_model.specs.Naming.{are_rising, fresh_vert, fresh_edge, fresh_face}
use Rattle.mesh_model.specs.Making.{with_vert, with_edge}
use Rattle.mesh_model.specs.Kernel.{without_face, without_vert}
use Rattle.mesh_model.specs.Closure.{is_edge_among, closure, new_between}
use Rattle.mesh_model.specs.Models.{vert, edge, face, point, ends, square, strip, fin}

-- one triangle of the fin has three edges and three vertices; a set's own edges and vertices are taken besides, and
-- their names rise
abbrev pub FinClosure : Type 0
FinClosure = (closure fin (record no_elements { faces = face 1 ∷ [] }) ≡ record {
  verts = vert 0 ∷ vert 1 ∷ vert 3 ∷ [];
  edges = edge 0 ∷ edge 3 ∷ edge 4 ∷ [];
  faces = face 1 ∷ [];
})
    × (closure fin (record { verts = vert 4 ∷ []; edges = edge 1 ∷ []; faces = face 1 ∷ [] })
    ≡ record {
      verts = vert 0 ∷ vert 1 ∷ vert 2 ∷ vert 3 ∷ vert 4 ∷ [];
      edges = edge 0 ∷ edge 1 ∷ edge 3 ∷ edge 4 ∷ [];
      faces = face 1 ∷ [];
    })
    × (closure fin (record no_elements { edges = edge 6 ∷ [] }) ≡ record no_elements {
      verts = vert 0 ∷ vert 4 ∷ [];
      edges = edge 6 ∷ [];
    })

-- a set that names an element twice, or not in order, has the same closure
abbrev pub StripClosure : Type 0
StripClosure = (closure strip (record no_elements { verts = vert 5 ∷ vert 0 ∷ []; faces = face 1 ∷ face 1 ∷ [] })
    ≡ record {
      verts = vert 0 ∷ vert 1 ∷ vert 2 ∷ vert 4 ∷ vert 5 ∷ [];
      edges = edge 1 ∷ edge 4 ∷ edge 5 ∷ edge 6 ∷ [];
      faces = face 1 ∷ [];
    })
    × (closure strip (closure strip (record no_elements { faces = face 0 ∷ [] }))
    ≡ closure strip (record no_elements { faces = face 0 ∷ [] }))
    × (are_rising (closure strip (record no_elements { faces = face 1 ∷ face 0 ∷ [] })) ≡ true)
    × (closure strip no_elements ≡ no_elements)
    × (is_edge_among (edge 3 ∷ edge 5 ∷ []) (edge 5) ≡ true) × (is_edge_among (edge 3 ∷ edge 5 ∷ []) (edge 4) ≡ false)

-- an element that is made is new, one that is killed isn't, and one that is made and killed isn't
abbrev pub NewElements : Type 0
NewElements = (new_between square (with_edge square (ends 0 2)) ≡ record no_elements { edges = edge 4 ∷ [] })
    × (new_between square square ≡ no_elements) × (new_between strip (without_face strip (face 0)) ≡ no_elements)
    × (new_between square (without_vert (with_vert (with_vert square (point (pos 1) (pos 1))) (point (pos 2) (pos 2)))
    (vert 4)) ≡ record no_elements { verts = vert 5 ∷ [] })

-- the new elements for members of sets: next name, offset, rank
abbrev pub FreshNames : Type 0
FreshNames = (fresh_vert 6 0 (vert 1 ∷ vert 2 ∷ vert 4 ∷ vert 5 ∷ []) (vert 4) ≡ vert 8)
    × (fresh_edge 7 4 (edge 1 ∷ edge 4 ∷ []) (edge 1) ≡ edge 11)
    × (fresh_face 2 0 (face 1 ∷ []) (face 1) ≡ face 2)
