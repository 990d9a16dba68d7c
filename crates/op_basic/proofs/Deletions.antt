-- What delete leaves.
use Rattle.std.proofs.Common.{◌≡◌, Bool, true, false, cond, ◌&&◌, nat_lt, ℕ, List, [], ◌∷◌, filter, refl, sym}
use Rattle.std.proofs.Common.{subst, All}
use Rattle.std.specs.List.{list_all}
use Rattle.std.proofs.lemmas.Bool.{and_parts, and_from}
use Rattle.std.proofs.lemmas.List.Elements.{All-filter}
use Rattle.mesh_model.specs.Table.{IsThere}
use Rattle.mesh_model.specs.Complex.{Complex}
use Rattle.mesh_model.specs.Elements.{Elements}
use Rattle.mesh_model.specs.Closure.{AreLive, closure}
use Rattle.mesh_model.specs.Naming.{is_rising, are_rising, vert_numbers, edge_numbers, face_numbers}
use Rattle.mesh_model.specs.Valid.{IsSound}
use Rattle.mesh_model.specs.declared.names.VertName.{VertName}
use Rattle.mesh_model.specs.declared.names.EdgeName.{EdgeName}
use Rattle.mesh_model.proofs.Deletings.{IsSound-without_verts}
use Rattle.op_slots.specs.declared.op.Context.{Context}
use Rattle.op_slots.specs.declared.op.Context.TheVariants.{Verts, Edges, EdgesFaces, FacesOnly, Faces}
use Rattle.op_slots.specs.declared.op.Context.TheVariants.{FacesKeepBoundary}
use Rattle.mesh_passes.specs.Killing.{without_edges}
use Rattle.mesh_passes.proofs.KilledParts.{IsSound-without_faces, IsSound-without_edges, IsSound-without_bare}
use Rattle.mesh_passes.proofs.KilledParts.{IsSound-without_set}
use Rattle.op_basic.specs.Deleting.{remaining, has_two_corners, without_boundary}

pub IsSound-remaining : (context : Context) (x : Elements) (c : Complex) → IsSound c → IsSound (remaining context x c)
IsSound-remaining Verts x c h = IsSound-without_verts c x.verts h
IsSound-remaining Edges x c h = IsSound-without_bare (without_edges c x.edges) (closure c x).verts
    (IsSound-without_edges c x.edges h)
IsSound-remaining EdgesFaces x c h = IsSound-without_edges c x.edges h
IsSound-remaining FacesOnly x c h = IsSound-without_faces c x.faces h
IsSound-remaining Faces x c h = IsSound-without_set c (closure c x) h
IsSound-remaining FacesKeepBoundary x c h = IsSound-without_set c (without_boundary c (closure c x)) h

-- vertices stay where edges go
pub live_without_edges : (c m : Complex) (es : List EdgeName) (vs : List VertName) → m ≡ without_edges c es
    → All (λ (v : VertName). IsThere c.verts v.0) vs → All (λ (v : VertName). IsThere m.verts v.0) vs
unfolding without_edges
live_without_edges c m es vs is live =
    subst (λ (x : Complex). All (λ (v : VertName). IsThere x.verts v.0) vs) (sym is) live

-- ---- THE EDGES INSIDE

pub live_inside : (c : Complex) (s : Elements) → AreLive c s → AreLive c (without_boundary c s)
live_inside c s live = record {
  verts = live.verts;
  edges = All-filter (has_two_corners c) (λ (e : EdgeName). IsThere c.edges e.0) s.edges live.edges;
  faces = live.faces;
}

above_filter : (p : EdgeName → Bool) (n : ℕ) (es : List EdgeName) → list_all (nat_lt n) (edge_numbers es) ≡ true
    → list_all (nat_lt n) (edge_numbers (filter p es)) ≡ true
above_filter p n [] h = refl
above_filter p n (e ∷ es) h =
    let both = and_parts (nat_lt n e.0) (list_all (nat_lt n) (edge_numbers es)) h in
    by_test (p e) both.0 (above_filter p n es both.1)
  where
    by_test : (b : Bool) → nat_lt n e.0 ≡ true → list_all (nat_lt n) (edge_numbers (filter p es)) ≡ true
        → list_all (nat_lt n) (edge_numbers (cond b (e ∷ filter p es) (filter p es))) ≡ true
    by_test true here rest = and_from (nat_lt n e.0) (list_all (nat_lt n) (edge_numbers (filter p es))) here rest
    by_test false here rest = rest

rising_filter : (p : EdgeName → Bool) (es : List EdgeName) → is_rising (edge_numbers es) ≡ true
    → is_rising (edge_numbers (filter p es)) ≡ true
rising_filter p [] h = refl
rising_filter p (e ∷ es) h =
    let both = and_parts (list_all (nat_lt e.0) (edge_numbers es)) (is_rising (edge_numbers es)) h in
    by_test (p e) (above_filter p e.0 es both.0) (rising_filter p es both.1)
  where
    by_test : (b : Bool) → list_all (nat_lt e.0) (edge_numbers (filter p es)) ≡ true
        → is_rising (edge_numbers (filter p es)) ≡ true
        → is_rising (edge_numbers (cond b (e ∷ filter p es) (filter p es))) ≡ true
    by_test true above rest =
        and_from (list_all (nat_lt e.0) (edge_numbers (filter p es))) (is_rising (edge_numbers (filter p es))) above rest
    by_test false above rest = rest

pub rising_inside : (c : Complex) (s : Elements) → is_rising (vert_numbers s.verts) ≡ true
    → is_rising (edge_numbers s.edges) ≡ true → is_rising (face_numbers s.faces) ≡ true
    → are_rising (without_boundary c s) ≡ true
rising_inside c s verts edges faces =
    and_from (is_rising (vert_numbers s.verts)) (is_rising (edge_numbers (filter (has_two_corners c) s.edges))
    && is_rising (face_numbers s.faces)) verts
    (and_from (is_rising (edge_numbers (filter (has_two_corners c) s.edges))) (is_rising (face_numbers s.faces))
    (rising_filter (has_two_corners c) s.edges edges) faces)
