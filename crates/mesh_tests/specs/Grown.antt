-- The changes of a square that are kept and led back from.
use Rattle.std.specs.Prelude.{pos, [], ◌∷◌}
use Rattle.std.specs.declared.option.Option.TheVariants.{None}
use Rattle.mesh_model.specs.Complex.{Complex}
use Rattle.mesh_model.specs.Kernel.{with_vert_like, with_edge_like, with_face_like, without_edge}
use Rattle.mesh_model.specs.Models.{vert, edge}

-- with a vertex, and the two edges of a triangle there
unfoldable pub with_sides : Complex → Complex
with_sides c =
    with_edge_like
    (with_edge_like (with_vert_like c (record { x = pos 0; y = pos 0; z = pos 4 }) None) (vert 1) (vert 4) None)
    (vert 4) (vert 0) None

-- with the triangle, over the first edge, and then without that edge and all faces along it
unfoldable pub grown : Complex → Complex
grown c =
    without_edge
    (with_face_like (with_sides c) ((vert 0, edge 0) ∷ (vert 1, edge 4) ∷ (vert 4, edge 5) ∷ []) None)
    (edge 0)
