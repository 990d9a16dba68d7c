-- What the Euler and the splice calls keep: where the test of one answers None on a valid complex, the result is valid.
use Rattle.std.specs.Prelude.{◌≡◌, ℕ, ℤ, min, max, List}
use Rattle.std.specs.declared.option.Option.TheVariants.{None}
use Rattle.mesh_model.specs.Complex.{Complex}
use Rattle.mesh_model.specs.Valid.{IsValid, IsSimple, IsSound}
use Rattle.mesh_model.specs.Incidence.{edge_joining}
use Rattle.mesh_model.specs.Lookups.{edge_rec, corner_rec}
use Rattle.mesh_model.specs.Euler.{split_edge, split_edge_refusal, far_end, other_edge, join_edge, join_edge_refusal}
use Rattle.mesh_model.specs.Euler.{split_face, split_face_refusal, join_face, join_face_refusal, loop_reverse}
use Rattle.mesh_model.specs.Splice.{splice_vert, splice_vert_refusal, splice_edge, splice_edge_refusal, separate_corner}
use Rattle.mesh_model.specs.Splice.{separate_corner_refusal, separate_vert, separate_vert_refusal}
use Rattle.mesh_model.specs.declared.names.VertName.{VertName}
use Rattle.mesh_model.specs.declared.names.EdgeName.{EdgeName}
use Rattle.mesh_model.specs.declared.names.FaceName.{FaceName}

-- a face reversed twice is as before
abbrev pub ReverseTwice : Type 0
ReverseTwice = (c : Complex) (f : FaceName) → loop_reverse (loop_reverse c f) f ≡ c

-- valid after each Euler call
abbrev pub EulerValid : Type 0
EulerValid = ((c : Complex) (e : EdgeName) (num den : ℤ) → split_edge_refusal c e num den ≡ None → IsValid c
    → IsValid (split_edge c e num den).0)
    × ((c : Complex) (e : EdgeName) (v : VertName) → join_edge_refusal c e v ≡ None → IsValid c
    → IsValid (join_edge c e v))
    × ((c : Complex) (f : FaceName) (i j : ℕ) → split_face_refusal c f i j ≡ None → IsValid c
    → IsValid (split_face c f i j).0)
    × ((c : Complex) (f g : FaceName) (e : EdgeName) → join_face_refusal c f g e ≡ None → IsValid c
    → IsValid (join_face c f g e))
    × ((c : Complex) (f : FaceName) → IsValid c → IsValid (loop_reverse c f))

-- valid and simple after, where the call makes no second edge between two vertices
abbrev pub EulerSound : Type 0
EulerSound = ((c : Complex) (e : EdgeName) (num den : ℤ) → split_edge_refusal c e num den ≡ None → IsSound c
    → IsSound (split_edge c e num den).0)
    × ((c : Complex) (e : EdgeName) (v : VertName) → join_edge_refusal c e v ≡ None
    → edge_joining c.edges (far_end v (edge_rec c e)) (far_end v (edge_rec c (other_edge c v e))) ≡ None → IsSound c
    → IsSound (join_edge c e v))
    × ((c : Complex) (f : FaceName) (i j : ℕ) → split_face_refusal c f i j ≡ None
    → edge_joining c.edges (corner_rec c f (min i j)).vert (corner_rec c f (max i j)).vert ≡ None → IsSound c
    → IsSound (split_face c f i j).0)
    × ((c : Complex) (f g : FaceName) (e : EdgeName) → join_face_refusal c f g e ≡ None → IsSound c
    → IsSound (join_face c f g e))
    × ((c : Complex) (f : FaceName) → IsSound c → IsSound (loop_reverse c f))

-- valid after splicing and separating; separating keeps a complex simple, and splicing vertices may not
abbrev pub SpliceValid : Type 0
SpliceValid = ((c : Complex) (from to : VertName) → splice_vert_refusal c from to ≡ None → IsValid c
    → IsValid (splice_vert c from to))
    × ((c : Complex) (from to : EdgeName) → splice_edge_refusal c from to ≡ None → IsValid c
    → IsValid (splice_edge c from to))
    × ((c : Complex) (f : FaceName) (i : ℕ) → separate_corner_refusal c f i ≡ None → IsValid c
    → IsValid (separate_corner c f i).0)
    × ((c : Complex) (v : VertName) (es : List EdgeName) → separate_vert_refusal c v es ≡ None → IsValid c
    → IsValid (separate_vert c v es).0)
    × ((c : Complex) (from to : EdgeName) → splice_edge_refusal c from to ≡ None → IsSimple c
    → IsSimple (splice_edge c from to))
    × ((c : Complex) (f : FaceName) (i : ℕ) → separate_corner_refusal c f i ≡ None → IsSound c
    → IsSound (separate_corner c f i).0)
    × ((c : Complex) (v : VertName) (es : List EdgeName) → separate_vert_refusal c v es ≡ None → IsSound c
    → IsSound (separate_vert c v es).0)
