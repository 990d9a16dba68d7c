-- Sets of elements, the closure of a set, and what is new between two complexes.
use Rattle.std.specs.Prelude.{ℕ, ◌==◌, Bool, not, ◌&&◌, ◌||◌, List, map, length, filter, is_some}
use Rattle.std.specs.declared.option.Option.{Option}
use Rattle.std.specs.List.{All, list_any, range_with_len}
use Rattle.mesh_model.specs.Table.{at, IsThere, passes}
use Rattle.mesh_model.specs.Complex.{Complex}
use Rattle.mesh_model.specs.Incidence.{has_end, uses_edge}
use Rattle.mesh_model.specs.Elements.{Elements, is_among}
use Rattle.mesh_model.specs.declared.names.VertName.{VertName}
use Rattle.mesh_model.specs.declared.names.EdgeName.{EdgeName}
use Rattle.mesh_model.specs.declared.names.FaceName.{FaceName}

-- ---- SETS OF NAMES

-- an edge is among some others
abbrev pub is_edge_among : List EdgeName → EdgeName → Bool
is_edge_among es e = list_any (λ (x : EdgeName). x.0 == e.0) es

-- a face is among some others
abbrev pub is_face_among : List FaceName → FaceName → Bool
is_face_among fs f = list_any (λ (x : FaceName). x.0 == f.0) fs

-- the names below a count
abbrev pub verts_below : ℕ → List VertName
verts_below count = map (λ n. record { 0 = n }) (range_with_len 0 count)

abbrev pub edges_below : ℕ → List EdgeName
edges_below count = map (λ n. record { 0 = n }) (range_with_len 0 count)

abbrev pub faces_below : ℕ → List FaceName
faces_below count = map (λ n. record { 0 = n }) (range_with_len 0 count)

-- each element of a set is there
pub record AreLive (c : Complex) (x : Elements) : Type 0 where
  pub verts : All (λ (v : VertName). IsThere c.verts v.0) x.verts
  pub edges : All (λ (e : EdgeName). IsThere c.edges e.0) x.edges
  pub faces : All (λ (f : FaceName). IsThere c.faces f.0) x.faces

-- ---- THE CLOSURE

-- one of some faces has a corner along an edge
abbrev pub is_edge_of : Complex → List FaceName → EdgeName → Bool
is_edge_of c fs e = list_any (λ (f : FaceName). passes (uses_edge e) (at c.faces f.0)) fs

-- one of some edges has an end at a vertex
abbrev pub is_end_of : Complex → List EdgeName → VertName → Bool
is_end_of c es v = list_any (λ (e : EdgeName). passes (has_end v) (at c.edges e.0)) es

-- the faces of a set
abbrev pub closure_faces : Complex → Elements → List FaceName
closure_faces c x = filter (is_face_among x.faces) (faces_below (length c.faces))

-- the edges of a set and those of its faces
abbrev pub closure_edges : Complex → Elements → List EdgeName
closure_edges c x = filter (λ e. is_edge_among x.edges e || is_edge_of c x.faces e) (edges_below (length c.edges))

-- the vertices of a set and the ends of all these edges
abbrev pub closure_verts : Complex → Elements → List VertName
closure_verts c x = filter (λ v. is_among x.verts v || is_end_of c (closure_edges c x) v) (verts_below (length c.verts))

-- a set with the edges of its faces and the ends of its edges, by rising name
abbrev pub closure : Complex → Elements → Elements
closure c x = record { verts = closure_verts c x; edges = closure_edges c x; faces = closure_faces c x }

-- ---- WHAT IS NEW

-- something stands at a name in the later table that didn't in the earlier one
abbrev pub is_new : {X : Type 0} → List (Option X) → List (Option X) → ℕ → Bool
is_new before after n = is_some (at after n) && not (is_some (at before n))

-- the elements that are there after and weren't before, by rising name
abbrev pub new_between : Complex → Complex → Elements
new_between before after = record {
  verts = filter (λ (v : VertName). is_new before.verts after.verts v.0) (verts_below (length after.verts));
  edges = filter (λ (e : EdgeName). is_new before.edges after.edges e.0) (edges_below (length after.edges));
  faces = filter (λ (f : FaceName). is_new before.faces after.faces f.0) (faces_below (length after.faces));
}
