-- What holds of the changes that a mesh makes.
use Rattle.std.specs.Prelude.{◌≡◌, ℕ, ◌-◌, ◌<◌, List, [], ◌∷◌, length, slice_index_or}
use Rattle.mesh_model.specs.Complex.{Complex}
use Rattle.mesh_model.specs.Deleting.{without_verts}
use Rattle.mesh_model.specs.Kernel.{without_vert, reversed, reversed_face}
use Rattle.mesh_model.specs.Valid.{IsValid}
use Rattle.mesh_model.specs.declared.names.VertName.{VertName}
use Rattle.mesh_model.specs.declared.names.FaceName.{FaceName}
use Rattle.mesh_model.specs.declared.records.CornerRec.{CornerRec}

-- of corners turned over the first is the first, with the last one's edge; and each other one is as far from the end as
-- it stood from the beginning, with the edge of the corner before it
abbrev pub TurnedOver : Type 0
TurnedOver = (corners : List CornerRec) (d : CornerRec) → 0 < length corners
    → (slice_index_or (reversed corners) 0 d ≡ record (slice_index_or corners 0 d) {
      edge =
          (slice_index_or corners (length corners - 1) d).edge;
    })
    × ((t : ℕ) → 0 < t → t < length corners
    → slice_index_or (reversed corners) t d ≡ record (slice_index_or corners (length corners - t) d) {
      edge =
          (slice_index_or corners (length corners - t - 1) d).edge;
    })

-- a face that is turned over twice is as before
abbrev pub TurnedTwice : Type 0
TurnedTwice = (c : Complex) (f : FaceName) → reversed_face (reversed_face c f) f ≡ c

-- to kill a vertex of a valid complex is to delete the list of that vertex
abbrev pub KilledAlone : Type 0
KilledAlone = (c : Complex) (v : VertName) → IsValid c → without_vert c v ≡ without_verts c (v ∷ [])
