-- Splicing one vertex or edge into another, and separating a vertex, as renamings in records. Beside each change stands
-- its test, with the conditions in order.
use Rattle.std.specs.Prelude.{ℕ, ◌-◌, ◌==◌, nat_lt, Bool, not, ◌&&◌, List, [], ◌∷◌, ◌++◌, length, map, slice_index_or}
use Rattle.std.specs.Prelude.{slice_set, if◌then◌else◌}
use Rattle.std.specs.declared.option.Option.{Option}
use Rattle.std.specs.declared.option.Option.TheVariants.{Some}
use Rattle.std.specs.Option.{option_map}
use Rattle.std.specs.List.{position, list_any, list_all, enumerate_from}
use Rattle.mesh_model.specs.Table.{passes, erase, update, changed, changed_names}
use Rattle.mesh_model.specs.Complex.{Complex}
use Rattle.mesh_model.specs.Incidence.{has_end, joins, is_at, uses_vert, edges_at, corners_at_edge, edge_joining}
use Rattle.mesh_model.specs.Making.{with_edge}
use Rattle.mesh_model.specs.Lookups.{vert_rec, edge_rec, face_rec, corner_rec, no_corner, least_face, next_vert}
use Rattle.mesh_model.specs.Lookups.{next_edge, with_previous}
use Rattle.mesh_model.specs.Renaming.{renamed_vert, renamed_edge, with_ends, along, with_corner_verts}
use Rattle.mesh_model.specs.Renaming.{with_corner_edges}
use Rattle.mesh_model.specs.Refusals.{first_of, unless, unless_at, refused_at, unless_there, unless_too_many}
use Rattle.mesh_model.specs.declared.names.VertName.{VertName}
use Rattle.mesh_model.specs.declared.names.EdgeName.{EdgeName}
use Rattle.mesh_model.specs.declared.names.FaceName.{FaceName}
use Rattle.mesh_model.specs.declared.names.Elem.TheVariants.{Vert, Edge, Face}
use Rattle.mesh_model.specs.declared.records.EdgeRec.{EdgeRec}
use Rattle.mesh_model.specs.declared.records.CornerRec.{CornerRec}
use Rattle.mesh_model.specs.declared.records.FaceRec.{FaceRec}
use Rattle.mesh_model.specs.declared.refusal.Refusal.{Refusal}
use Rattle.mesh_model.specs.declared.refusal.Why.TheVariants.{Repeated, Exists, Pinched, Apart, BadValue, Valence}
use Rattle.mesh_model.specs.declared.refusal.Why.TheVariants.{Empty}

-- ---- SPLICE A VERTEX

-- the complex in which one vertex stands for another, which is gone
abbrev pub splice_vert : Complex → VertName → VertName → Complex
splice_vert c from to = record c {
  verts = erase c.verts from.0;
  edges = changed (with_ends (renamed_vert from to)) c.edges;
  faces = changed (with_corner_verts (renamed_vert from to)) c.faces;
}

-- a face has corners at both vertices
abbrev pub uses_both : VertName → VertName → FaceRec → Bool
uses_both v w f = uses_vert v f && uses_vert w f

-- why a vertex is not spliced: the first condition that fails
abbrev pub splice_vert_refusal : Complex → VertName → VertName → Option Refusal
splice_vert_refusal c from to = first_of (
    unless_there c (Vert from)
    ∷ unless_there c (Vert to)
    ∷ unless_at (not (from.0 == to.0)) Repeated (Vert from)
    ∷ refused_at Exists (option_map Edge (edge_joining c.edges from to))
    ∷ refused_at Pinched (option_map Face (least_face (uses_both from to) c))
    ∷ [])

-- ---- SPLICE AN EDGE

-- the complex in which one edge stands for another, which is gone
abbrev pub splice_edge : Complex → EdgeName → EdgeName → Complex
splice_edge c from to = record c {
  edges = erase c.edges from.0;
  faces = changed (with_corner_edges (renamed_edge from to)) c.faces;
}

-- two edges have the same two ends
abbrev pub have_same_ends : EdgeRec → EdgeRec → Bool
have_same_ends d e = joins e.a e.b d

-- why an edge is not spliced: the first condition that fails
abbrev pub splice_edge_refusal : Complex → EdgeName → EdgeName → Option Refusal
splice_edge_refusal c from to = first_of (
    unless_there c (Edge from)
    ∷ unless_there c (Edge to)
    ∷ unless_at (not (from.0 == to.0) && have_same_ends (edge_rec c from) (edge_rec c to)) Apart (Edge from)
    ∷ [])

-- ---- SEPARATE A CORNER: a face gets a copy of its vertex for itself

-- another face has a corner along an edge
abbrev pub is_shared : Complex → FaceName → EdgeName → Bool
is_shared c f e = list_any (λ (k : FaceName × ℕ). not (k.0.0 == f.0)) (corners_at_edge c e)

-- an edge for a face that leads to one vertex in place of another: the edge itself where the face alone uses it, and
-- else a copy
abbrev pub separate_edge : Complex → FaceName → VertName → VertName → EdgeName → Complex × EdgeName
separate_edge c f v w e =
    if is_shared c f e
    then (with_edge c (with_ends (renamed_vert v w) (edge_rec c e)), next_edge c)
    else (record c { edges = update c.edges e.0 (with_ends (renamed_vert v w)) }, e)

-- in a circle of so many, the place before a place
abbrev pub place_before : ℕ → ℕ → ℕ
place_before count i = if i == 0 then count - 1 else i - 1

-- the edge of the corner of a face before a position
abbrev pub edge_before : Complex → FaceName → ℕ → EdgeName
edge_before c f i = (corner_rec c f (place_before (length (face_rec c f).corners) i)).edge

-- a polygon whose corner at a position is at another vertex, with the edges to and from there
abbrev pub with_corner_at : ℕ → VertName → EdgeName → EdgeName → List CornerRec → List CornerRec
with_corner_at i w before after corners =
    let p = place_before (length corners) i in
    slice_set (slice_set corners p (along before (slice_index_or corners p no_corner))) i
    (record (slice_index_or corners i no_corner) { vert = w; edge = after })

-- the complex in which the corner of a face at a position has a new copy of its vertex, and the copy's name
abbrev pub separate_corner : Complex → FaceName → ℕ → Complex × VertName
separate_corner c f i =
    let k = corner_rec c f i in
    let w = next_vert c in
    let before = separate_edge c f k.vert w (edge_before c f i) in
    let after = separate_edge before.0 f k.vert w k.edge in (
      record after.0 {
        verts = c.verts ++ Some (vert_rec c k.vert) ∷ [];
        faces = update c.faces f.0 (λ x. record x { corners = with_corner_at i w before.1 after.1 x.corners });
      },
      w,
    )

-- a vertex has two edges alone, those of a face's corner, and no other face uses them
abbrev pub is_separate : Complex → FaceName → ℕ → Bool
is_separate c f i =
    length (edges_at c (corner_rec c f i).vert) == 2
    && (not (is_shared c f (edge_before c f i)) && not (is_shared c f (corner_rec c f i).edge))

-- why a corner is not separated: the first condition that fails
abbrev pub separate_corner_refusal : Complex → FaceName → ℕ → Option Refusal
separate_corner_refusal c f i = first_of (
    unless_there c (Face f)
    ∷ unless (nat_lt i (length (face_rec c f).corners)) BadValue
    ∷ unless_at (not (is_separate c f i)) Valence (Vert (corner_rec c f i).vert)
    ∷ unless_too_many (separate_corner c f i).0
    ∷ [])

-- ---- SEPARATE A VERTEX: some of its edges get a copy of it

-- an edge is among some others
abbrev pub is_edge_among : List EdgeName → EdgeName → Bool
is_edge_among es e = list_any (λ (d : EdgeName). d.0 == e.0) es

-- a corner at a vertex whose two edges are both among some edges, at another vertex
abbrev pub separate_side : VertName → VertName → List EdgeName → CornerRec × CornerRec → CornerRec
separate_side v w es side =
    if is_at v side.0 && (is_edge_among es side.0.edge && is_edge_among es side.1.edge) then record side.0 {
      vert =
          w;
    } else side.0

-- the complex in which these edges of a vertex, and the faces with two of them, have a new copy of it, and the copy's
-- name
abbrev pub separate_vert : Complex → VertName → List EdgeName → Complex × VertName
separate_vert c v es =
    let w = next_vert c in (
      record c {
        verts = c.verts ++ Some (vert_rec c v) ∷ [];
        edges = changed_names (λ n. is_edge_among es (record { 0 = n })) (with_ends (renamed_vert v w)) c.edges;
        faces = changed (λ x. record x { corners = map (separate_side v w es) (with_previous x.corners) }) c.faces;
      },
      w,
    )

-- the least of these edges that isn't at a vertex
abbrev pub least_apart : Complex → VertName → List EdgeName → Option EdgeName
least_apart c v es =
    option_map (λ n. record { 0 = n })
    (position (λ e. is_edge_among es (record { 0 = e.0 }) && not (passes (has_end v) e.1)) (enumerate_from 0 c.edges))

-- just one of two holds
abbrev pub is_just_one : Bool → Bool → Bool
is_just_one x y = if x then not y else y

-- a face has a corner at a vertex with just one of its two edges among some edges
abbrev pub is_torn : VertName → List EdgeName → FaceRec → Bool
is_torn v es f = list_any (λ (side : CornerRec × CornerRec). is_at v side.0
    && is_just_one (is_edge_among es side.0.edge) (is_edge_among es side.1.edge)) (with_previous f.corners)

-- why a vertex is not separated: the first condition that fails
abbrev pub separate_vert_refusal : Complex → VertName → List EdgeName → Option Refusal
separate_vert_refusal c v es = first_of (
    unless_there c (Vert v)
    ∷ first_of (map (λ (e : EdgeName). unless_there c (Edge e)) es)
    ∷ unless (nat_lt 0 (length es)) Empty
    ∷ refused_at Apart (option_map Edge (least_apart c v es))
    ∷ unless_at (not (list_all (is_edge_among es) (edges_at c v))) Valence (Vert v)
    ∷ refused_at Pinched (option_map Face (least_face (is_torn v es) c))
    ∷ unless_too_many (separate_vert c v es).0
    ∷ [])
