-- The steps of copying: some vertices, edges or faces more that are copies. The names of the copies that they name are
-- given.
use Rattle.std.specs.Prelude.{◌≡◌, ℕ, ◌+◌, ◌≤◌, List, ◌++◌, map, length}
use Rattle.std.specs.declared.option.Option.TheVariants.{Some}
use Rattle.std.specs.Option.{option_map}
use Rattle.mesh_model.specs.Table.{at}
use Rattle.mesh_model.specs.Complex.{Complex, corner_sum}
use Rattle.mesh_model.specs.Elements.{Elements}
use Rattle.mesh_model.specs.Naming.{fresh_vert, fresh_edge, fresh_face}
use Rattle.mesh_model.specs.Valid.{IsEdgeLinked, IsFaceLinked}
use Rattle.mesh_model.specs.declared.limits.TheConstants.{MAX_VERTS, MAX_EDGES, MAX_FACES}
use Rattle.mesh_model.specs.declared.names.VertName.{VertName}
use Rattle.mesh_model.specs.declared.names.EdgeName.{EdgeName}
use Rattle.mesh_model.specs.declared.names.FaceName.{FaceName}
use Rattle.mesh_model.specs.declared.records.Counters.{Counters}
use Rattle.mesh_model.specs.declared.records.EdgeRec.{EdgeRec}
use Rattle.mesh_model.specs.declared.records.FaceRec.{FaceRec}
use Rattle.op_slots.specs.declared.slots.Slots.{Slots}
use Rattle.op_slots.specs.declared.mapping.Pair.{Pair}
use Rattle.mesh_copies.specs.Copying.{copied_edge, copied_face}

-- the name of a member's copy, by the next names before the copies are made
abbrev pub vert_after : Counters → Elements → VertName → VertName
vert_after n s = fresh_vert n.verts 0 s.verts

abbrev pub edge_after : Counters → Elements → EdgeName → EdgeName
edge_after n s = fresh_edge n.edges 0 s.edges

abbrev pub face_after : Counters → Elements → FaceName → FaceName
face_after n s = fresh_face n.faces 0 s.faces

-- the copies can be named
pub record HasNames (n : Counters) (s : Elements) : Type 0 where
  pub verts : n.verts + length s.verts ≤ MAX_VERTS
  pub edges : n.edges + length s.edges ≤ MAX_EDGES
  pub faces : n.faces + length s.faces ≤ MAX_FACES

-- what a set that is copied gives back, by the next names
abbrev pub copies_after : Counters → Elements → Elements
copies_after n s = record {
  verts = map (vert_after n s) s.verts;
  edges = map (edge_after n s) s.edges;
  faces = map (face_after n s) s.faces;
}

abbrev pub pairs_after : Counters → Elements → List Pair
pairs_after n s = map (λ (v : VertName). record { source = v; target = vert_after n s v }) s.verts

abbrev pub slots_after : Counters → Elements → Slots
slots_after n s = record { geom = copies_after n s; map = pairs_after n s }

-- with the copies of some vertices more
unfoldable pub with_vert_copies : Complex → List VertName → Complex
with_vert_copies c vs = record c { verts = c.verts ++ map (λ (v : VertName). at c.verts v.0) vs }

-- with the copies of some edges more
unfoldable pub with_edge_copies : (VertName → VertName) → Complex → List EdgeName → Complex
with_edge_copies vert c es =
    record c { edges = c.edges ++ map (λ (e : EdgeName). option_map (copied_edge vert) (at c.edges e.0)) es }

-- with the copies of some faces more
unfoldable pub with_face_copies : (VertName → VertName) → (EdgeName → EdgeName) → Complex → List FaceName → Complex
with_face_copies vert edge c fs =
    record c { faces = c.faces ++ map (λ (f : FaceName). option_map (copied_face vert edge) (at c.faces f.0)) fs }

-- the copy of an edge is linked
abbrev pub IsEdgeCopyLinked : (VertName → VertName) → Complex → EdgeName → Type 0
IsEdgeCopyLinked vert c e = (r : EdgeRec) → at c.edges e.0 ≡ Some r → IsEdgeLinked c (copied_edge vert r)

-- the copy of a face is linked
abbrev pub IsFaceCopyLinked : (VertName → VertName) → (EdgeName → EdgeName) → Complex → FaceName → Type 0
IsFaceCopyLinked vert edge c f = (r : FaceRec) → at c.faces f.0 ≡ Some r → IsFaceLinked c (copied_face vert edge r)

-- the number of corners of some faces
abbrev pub corners_in : Complex → List FaceName → ℕ
corners_in c fs = corner_sum (map (λ (f : FaceName). at c.faces f.0) fs)
