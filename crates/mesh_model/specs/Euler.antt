-- The Euler calls as changes of whole tables: split an edge by a vertex and join two edges, split a face by an edge and
-- join two faces, reverse a face. Beside each stands its test, with the conditions in order.
use Rattle.std.specs.Prelude.{ℕ, ℤ, pos, ◌+◌, ◌==◌, ◌-ℤ◌, min, max, nat_lt, nat_le, int_lt, int_le, Bool, not, ◌&&◌}
use Rattle.std.specs.Prelude.{◌||◌, List, [], ◌∷◌, ◌++◌, length, take, drop, slice_index_or, slice_range, if◌then◌else◌}
use Rattle.std.specs.declared.option.Option.{Option}
use Rattle.std.specs.declared.option.Option.TheVariants.{Some}
use Rattle.std.specs.Option.{option_map, unwrap_or}
use Rattle.std.specs.List.{list_any, find, filter, flat_map, before_first, after_first}
use Rattle.cust_data.specs.Mixing.{mix, mix_row}
use Rattle.mesh_model.specs.Table.{erase, update, changed}
use Rattle.mesh_model.specs.Complex.{Complex, verts_of}
use Rattle.mesh_model.specs.Incidence.{has_end, is_along, is_at, uses_edge, uses_vert, edges_at, corners_at_edge}
use Rattle.mesh_model.specs.Elements.{is_among}
use Rattle.mesh_model.specs.Making.{edge_from_to}
use Rattle.mesh_model.specs.Kernel.{reversed_face}
use Rattle.mesh_model.specs.Lookups.{vert_rec, edge_rec, face_rec, no_corner, least_face, next_vert, next_edge}
use Rattle.mesh_model.specs.Lookups.{next_face, with_next}
use Rattle.mesh_model.specs.Renaming.{renamed_vert, with_ends, along}
use Rattle.mesh_model.specs.Refusals.{first_of, unless, unless_at, refused_at, unless_there, unless_too_many}
use Rattle.mesh_model.specs.declared.limits.TheConstants.{MAX_SIDES}
use Rattle.mesh_model.specs.declared.names.VertName.{VertName}
use Rattle.mesh_model.specs.declared.names.EdgeName.{EdgeName}
use Rattle.mesh_model.specs.declared.names.FaceName.{FaceName}
use Rattle.mesh_model.specs.declared.names.Elem.TheVariants.{Vert, Edge, Face}
use Rattle.mesh_model.specs.declared.records.Point.{Point}
use Rattle.mesh_model.specs.declared.records.VertRec.{VertRec}
use Rattle.mesh_model.specs.declared.records.EdgeRec.{EdgeRec}
use Rattle.mesh_model.specs.declared.records.CornerRec.{CornerRec}
use Rattle.mesh_model.specs.declared.records.FaceRec.{FaceRec}
use Rattle.mesh_model.specs.declared.refusal.Refusal.{Refusal}
use Rattle.mesh_model.specs.declared.refusal.Why.TheVariants.{BadValue, TooLong, Apart, Valence, Repeated, TooShort}
use Rattle.mesh_model.specs.declared.refusal.Why.TheVariants.{Adjacent, NonManifold, Winding, Pinched}

-- ---- MIXING: what lies num / den of the way from one element to another

-- between two points
abbrev pub mixed_point : Point → Point → ℤ → ℤ → Point
mixed_point p q num den = record { x = mix p.x q.x num den; y = mix p.y q.y num den; z = mix p.z q.z num den }

-- between two vertices, each layer by its rule
abbrev pub mixed_vert : Complex → VertRec → VertRec → ℤ → ℤ → VertRec
mixed_vert c v w num den =
    record { point = mixed_point v.point w.point num den; vals = mix_row c.layers.verts v.vals w.vals num den }

-- between a corner and the next one, at a vertex and along an edge
abbrev pub mixed_corner : Complex → CornerRec × CornerRec → ℤ → ℤ → VertName → EdgeName → CornerRec
mixed_corner c side num den v e =
    record { vert = v; edge = e; vals = mix_row c.layers.corners side.0.vals side.1.vals num den }

-- ---- POLYGONS

-- a face with other corners in the place of each corner, which the corner and the next one tell
abbrev pub with_sides : (CornerRec × CornerRec → List CornerRec) → FaceRec → FaceRec
with_sides sides_for f = record f { corners = flat_map sides_for (with_next f.corners) }

-- ---- SPLIT AN EDGE: a new vertex on an edge, and a new edge from there to the end b

-- a side in two, if it runs along the edge: the half at the end a has the edge, and the other one the new edge
abbrev pub split_side : Complex → EdgeName → ℤ → ℤ → CornerRec × CornerRec → List CornerRec
split_side c e num den side =
    if not (is_along e side.0) then side.0 ∷ []
    else if is_at (edge_rec c e).a side.0 then side.0 ∷ mixed_corner c side num den (next_vert c) (next_edge c) ∷ []
    else along (next_edge c) side.0 ∷ mixed_corner c side (den -ℤ num) den (next_vert c) e ∷ []

-- the complex with an edge split num / den of the way from its end a, and the names of the new vertex and the new edge
abbrev pub split_edge : Complex → EdgeName → ℤ → ℤ → Complex × (VertName × EdgeName)
split_edge c e num den =
    let r = edge_rec c e in (
      record c {
        verts = c.verts ++ Some (mixed_vert c (vert_rec c r.a) (vert_rec c r.b) num den) ∷ [];
        edges = update c.edges e.0 (λ x. record x { b = next_vert c }) ++ Some (record r { a = next_vert c }) ∷ [];
        faces = changed (with_sides (split_side c e num den)) c.faces;
      },
      (next_vert c, next_edge c),
    )

-- strictly between the ends: num of den parts, which are at most a million
abbrev pub is_inner_share : ℤ → ℤ → Bool
is_inner_share num den = int_lt (pos 0) num && (int_lt num den && int_le den (pos 1000000))

-- a face along an edge has no room for a corner more
abbrev pub is_full_along : EdgeName → FaceRec → Bool
is_full_along e f = uses_edge e f && length f.corners == MAX_SIDES

-- why an edge is not split: the first condition that fails
abbrev pub split_edge_refusal : Complex → EdgeName → ℤ → ℤ → Option Refusal
split_edge_refusal c e num den = first_of (
    unless_there c (Edge e)
    ∷ unless (is_inner_share num den) BadValue
    ∷ refused_at TooLong (option_map Face (least_face (is_full_along e) c))
    ∷ unless_too_many (split_edge c e num den).0
    ∷ [])

-- ---- JOIN TWO EDGES: a vertex with two edges goes with one of them, and the other one takes its place

-- the end of an edge that isn't this vertex
abbrev pub far_end : VertName → EdgeRec → VertName
far_end v e = if e.a.0 == v.0 then e.b else e.a

-- the least edge at a vertex that isn't this one
abbrev pub other_edge : Complex → VertName → EdgeName → EdgeName
other_edge c v e = unwrap_or (find (λ (d : EdgeName). not (d.0 == e.0)) (edges_at c v)) e

-- two sides in one: the corner at the vertex goes, and the one before it runs along the other edge
abbrev pub joined_side : VertName → EdgeName → CornerRec × CornerRec → List CornerRec
joined_side v other side =
    if is_at v side.0 then [] else if is_at v side.1 then along other side.0 ∷ [] else side.0 ∷ []

-- the complex without an edge and its end, where the other edge at that end now leads to the far end
abbrev pub join_edge : Complex → EdgeName → VertName → Complex
join_edge c e v =
    let other = other_edge c v e in
    record c {
      verts = erase c.verts v.0;
      edges = update (erase c.edges e.0) other.0 (with_ends (renamed_vert v (far_end v (edge_rec c e))));
      faces = changed (with_sides (joined_side v other)) c.faces;
    }

-- a face at a vertex is a triangle
abbrev pub is_triangle_at : VertName → FaceRec → Bool
is_triangle_at v f = uses_vert v f && length f.corners == 3

-- why two edges are not joined: the first condition that fails
abbrev pub join_edge_refusal : Complex → EdgeName → VertName → Option Refusal
join_edge_refusal c e v =
    let far = far_end v (edge_rec c e) in
    first_of (
    unless_there c (Edge e)
    ∷ unless_there c (Vert v)
    ∷ unless_at (has_end v (edge_rec c e)) Apart (Edge e)
    ∷ unless_at (length (edges_at c v) == 2) Valence (Vert v)
    ∷ unless_at (not (far.0 == (far_end v (edge_rec c (other_edge c v e))).0)) Repeated (Vert far)
    ∷ refused_at TooShort (option_map Face (least_face (is_triangle_at v) c))
    ∷ [])

-- ---- SPLIT A FACE: a new edge between two of its corners, and a new face on the far side

-- the corners outside two positions, joined by an edge from the first to the second
abbrev pub outer_part : EdgeName → ℕ → ℕ → List CornerRec → List CornerRec
outer_part e i j corners = take i corners ++ along e (slice_index_or corners i no_corner) ∷ drop j corners

-- the corners from one position to another, joined by an edge from the second to the first
abbrev pub inner_part : EdgeName → ℕ → ℕ → List CornerRec → List CornerRec
inner_part e i j corners = slice_range corners i j ++ along e (slice_index_or corners j no_corner) ∷ []

-- the complex with a face cut between two positions, i below j, and the names of the new edge and the new face
abbrev pub split_face_between : Complex → FaceName → ℕ → ℕ → Complex × (EdgeName × FaceName)
split_face_between c f i j =
    let r = face_rec c f in (
      record c {
        edges = c.edges ++ Some
            (edge_from_to c (slice_index_or r.corners i no_corner).vert (slice_index_or r.corners j no_corner).vert)
            ∷ [];
        faces = update c.faces f.0 (λ x. record x { corners = outer_part (next_edge c) i j x.corners })
            ++ Some (record r { corners = inner_part (next_edge c) i j r.corners }) ∷ [];
      },
      (next_edge c, next_face c),
    )

-- the same of two positions in either order
abbrev pub split_face : Complex → FaceName → ℕ → ℕ → Complex × (EdgeName × FaceName)
split_face c f i j = split_face_between c f (min i j) (max i j)

-- in a circle of so many, the place after a place
abbrev pub place_after : ℕ → ℕ → ℕ
place_after count i = if i + 1 == count then 0 else i + 1

-- in a circle of so many, two places stand side by side
abbrev pub are_neighbours : ℕ → ℕ → ℕ → Bool
are_neighbours count i j = place_after count i == j || place_after count j == i

-- why a face is not split: the first condition that fails
abbrev pub split_face_refusal : Complex → FaceName → ℕ → ℕ → Option Refusal
split_face_refusal c f i j =
    let count = length (face_rec c f).corners in
    first_of (
    unless_there c (Face f)
    ∷ unless (nat_lt i count && (nat_lt j count && not (i == j))) BadValue
    ∷ unless (not (are_neighbours count i j)) Adjacent
    ∷ unless_too_many (split_face c f i j).0
    ∷ [])

-- ---- JOIN TWO FACES: one face takes the corners of the other in the place of their common edge

-- the corners of a polygon after its corner along an edge, round to that corner
abbrev pub round_from : EdgeName → List CornerRec → List CornerRec
round_from e corners = after_first (is_along e) corners ++ before_first (is_along e) corners

-- corners of which the first has these values
abbrev pub with_first_vals : List ℤ → List CornerRec → List CornerRec
with_first_vals vals [] = []
with_first_vals vals (k ∷ ks) = record k { vals = vals } ∷ ks

-- a face with the corners of another in the place of its corner along an edge
abbrev pub fused : EdgeName → List CornerRec → FaceRec → FaceRec
fused e others f = record f {
  corners =
      flat_map (λ k. if is_along e k then with_first_vals k.vals (round_from e others) else k ∷ []) f.corners;
}

-- the complex without a face and the edge that it shares with another, which takes its corners
abbrev pub join_face : Complex → FaceName → FaceName → EdgeName → Complex
join_face c f g e = record c {
  edges = erase c.edges e.0;
  faces = erase (update c.faces f.0 (fused e (face_rec c g).corners)) g.0;
}

-- the vertices at which corners run along an edge
abbrev pub starts_along : EdgeName → List CornerRec → List VertName
starts_along e corners = verts_of (filter (is_along e) corners)

-- two polygons run the same way along an edge
abbrev pub run_same_way : EdgeName → List CornerRec → List CornerRec → Bool
run_same_way e corners others = list_any (is_among (starts_along e corners)) (starts_along e others)

-- two polygons have a vertex in common that is no end of an edge
abbrev pub share_other_vert : EdgeRec → List CornerRec → List CornerRec → Bool
share_other_vert e corners others =
    list_any (λ (k : CornerRec). is_among (verts_of corners) k.vert && not (has_end k.vert e)) others

-- why two faces are not joined: the first condition that fails
abbrev pub join_face_refusal : Complex → FaceName → FaceName → EdgeName → Option Refusal
join_face_refusal c f g e =
    let corners = (face_rec c f).corners in
    let others = (face_rec c g).corners in
    first_of (
    unless_there c (Face f)
    ∷ unless_there c (Face g)
    ∷ unless_there c (Edge e)
    ∷ unless_at (not (f.0 == g.0)) Apart (Face f)
    ∷ unless_at (length (corners_at_edge c e) == 2) NonManifold (Edge e)
    ∷ unless_at (uses_edge e (face_rec c f) && uses_edge e (face_rec c g)) Apart (Edge e)
    ∷ unless_at (not (run_same_way e corners others)) Winding (Edge e)
    ∷ unless_at (not (share_other_vert (edge_rec c e) corners others)) Pinched (Face g)
    ∷ unless_at (nat_le (length corners + length others) (MAX_SIDES + 2)) TooLong (Face f)
    ∷ [])

-- ---- REVERSE A FACE

-- the complex with a face turned over
abbrev pub loop_reverse : Complex → FaceName → Complex
loop_reverse c f = reversed_face c f

-- why a face is not turned over
abbrev pub loop_reverse_refusal : Complex → FaceName → Option Refusal
loop_reverse_refusal c f = first_of (unless_there c (Face f) ∷ [])
