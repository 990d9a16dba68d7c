-- Room for a face.
use Rattle.std.specs.Prelude.{ℕ, ◌+◌, ◌&&◌, Bool, nat_lt, nat_le, length}
use Rattle.mesh_model.specs.Complex.{Complex, corner_sum}
use Rattle.mesh_model.specs.declared.limits.TheConstants.{MAX_EDGES, MAX_FACES, MAX_CORNERS}

-- the limits leave room for a face of so many corners, whichever of its edges are there
abbrev pub has_room : Complex → ℕ → Bool
has_room c n =
    nat_lt (length c.faces) MAX_FACES
    && (nat_le (length c.edges + n) MAX_EDGES && nat_le (corner_sum c.faces + n) MAX_CORNERS)
